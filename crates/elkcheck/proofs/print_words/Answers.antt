-- `elkcheck::print_words` is safe: the lent text keeps its length.
use Prim.Native.Nat.{ℕ}
use mathlib.Core.Path.{◌≡◌, sym, ◌∙◌}
use lib.ListN.{length, replicate, length-replicate}
use Rattle.elkcheck.proofs.print_words.Goals as goal

-- so many zeros, over a variable, so that none are counted one by one
as_long : (n : ℕ) → n ≡ length (replicate {A = ℕ} n 0)
as_long n = sym (length-replicate n 0)

pub slice_bounds-tell-end : goal.slice_bounds-tell-end
slice_bounds-tell-end g c = as_long 1048576

pub slice_bounds-print_held-end : goal.slice_bounds-print_held-end
slice_bounds-print_held-end g c = sym (c.tell-answer.auto.words ∙ sym (as_long 1048576))
