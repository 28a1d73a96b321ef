-- The choices of `unst`: S within V, listed as the atoms of V with whether each is in S. What V, S and the formulas
-- made of them are, where no atom is listed twice.
use Prim.Native.Nat.{ℕ}
use mathlib.Core.Path.{◌≡◌, refl, sym, ◌∙◌, fst_path, snd_path}
use mathlib.Core.Bool.{Bool, true, false, true≢false}
use mathlib.Core.List.Memᴰ
use mathlib.Core.List.{List, [], ◌∷◌, ◌++◌, map}
use mathlib.Core.Logic.{◌↔◌}
use Rattle.equilibrium.specs.Formula.{Formula, atoms_of, atoms_in}
use Rattle.equilibrium.specs.Meaning.{◌∈◌, Holds, AllHold}
use Rattle.elk.specs.Instance.{Choice, domain, chosen, literal, fixed, joined, Rising}
use Rattle.elk.proofs.Rising.{rising_rest}
use Rattle.elk.proofs.RisingAtoms.{rising_apart}

-- V is the atoms of the entries
pub in_domain : (c : Choice) (p : ℕ) → p ∈ domain c → (b : Bool) × ((p, b) ∈ c)
in_domain (e ∷ c) p (Memᴰ.head k) = (e.1, Memᴰ.head (λ i. (k i, e.1)))
in_domain (e ∷ c) p (Memᴰ.tail m) = let r = in_domain c p m in (r.0, Memᴰ.tail r.1)
in_domain [] p x' = elim x' [ ]

entry_in_domain : (c : Choice) {p : ℕ} {b : Bool} → (p, b) ∈ c → p ∈ domain c
entry_in_domain (e ∷ c) (Memᴰ.head k) = Memᴰ.head (fst_path k)
entry_in_domain (e ∷ c) (Memᴰ.tail m) = Memᴰ.tail (entry_in_domain c m)
entry_in_domain [] {p = p} {b = b} x' = elim x' [ ]

chosen_entry : (c : Choice) (p : ℕ) → p ∈ chosen c → (p, true) ∈ c
chosen_entry ((q, true) ∷ c) p (Memᴰ.head k) = Memᴰ.head (λ i. (k i, true))
chosen_entry ((q, true) ∷ c) p (Memᴰ.tail m) = Memᴰ.tail (chosen_entry c p m)
chosen_entry ((q, false) ∷ c) p m = Memᴰ.tail (chosen_entry c p m)
chosen_entry [] p m = elim m [ ]

entry_chosen : (c : Choice) (p : ℕ) → (p, true) ∈ c → p ∈ chosen c
entry_chosen ((q, true) ∷ c) p (Memᴰ.head k) = Memᴰ.head (fst_path k)
entry_chosen ((q, true) ∷ c) p (Memᴰ.tail m) = Memᴰ.tail (entry_chosen c p m)
entry_chosen ((q, false) ∷ c) p (Memᴰ.head k) = absurd (true≢false (snd_path k))
entry_chosen ((q, false) ∷ c) p (Memᴰ.tail m) = entry_chosen c p m
entry_chosen [] p x' = elim x' [ ]

-- S is the atoms of the entries with true
pub in_chosen : (c : Choice) (p : ℕ) → (p ∈ chosen c) ↔ ((p, true) ∈ c)
in_chosen c p = (chosen_entry c p, entry_chosen c p)

-- no atom is listed twice
one_entry : (c : Choice) → Rising (domain c) → {p : ℕ} {a b : Bool} → (p, a) ∈ c → (p, b) ∈ c → a ≡ b
one_entry (e ∷ c) r (Memᴰ.head k) (Memᴰ.head j) = snd_path (k ∙ sym j)
one_entry (e ∷ c) r (Memᴰ.head k) (Memᴰ.tail n) = absurd (rising_apart e.0 (domain c) r (fst_path k) (entry_in_domain c n))
one_entry (e ∷ c) r (Memᴰ.tail m) (Memᴰ.head j) = absurd (rising_apart e.0 (domain c) r (fst_path j) (entry_in_domain c m))
one_entry (e ∷ c) r (Memᴰ.tail m) (Memᴰ.tail n) = one_entry c (rising_rest e.0 (domain c) r) m n
one_entry [] r {p = p} {a = a} {b = b} x3 _ = elim x3 [ ]

-- S satisfies p for the p in S and ~p for the others
pub literal_holds : (c : Choice) → Rising (domain c) → (e : ℕ × Bool) → e ∈ c → Holds (chosen c) (chosen c) (literal e)
literal_holds c r (p, true) m = (in_chosen c p).1 m
literal_holds c r (p, false) m = λ k. true≢false (one_entry c r ((in_chosen c p).0 k) m)

fixed_holds : (H T : List ℕ) (e : ℕ × Bool) → Holds T T (literal e) → Holds H T (fixed e)
fixed_holds H T (p, true) h = λ n. n h
fixed_holds H T (p, false) h = h

-- (H,S) satisfies ~~p for the p in S and ~p for the others, whatever H
pub fixed_hold : (c : Choice) → Rising (domain c) → (H : List ℕ) → AllHold H (chosen c) (map fixed c)
fixed_hold c r H A m = let e = Memᴰ.of_map fixed c m in rw (sym e.2) (fixed_holds H (chosen c) e.0 (literal_holds c r e.0 e.1))

fixed_atom : (e : ℕ × Bool) → atoms_of (fixed e) ≡ e.0 ∷ []
fixed_atom (p, true) = refl
fixed_atom (p, false) = refl

-- the atoms of ~~S,~S' are V
pub fixed_atoms : (c : Choice) (L : List Formula) → atoms_in (map fixed c ++ L) ≡ domain c ++ atoms_in L
fixed_atoms [] L = refl
fixed_atoms (e ∷ c) L = rw (fixed_atom e, fixed_atoms c L)

-- where a conjunction holds, each part does
pub joined_each : (H T : List ℕ) (Fs : List Formula) → Holds H T (joined Fs) → AllHold H T Fs
joined_each H T (F ∷ []) h A (Memᴰ.head e) = rw e h
joined_each H T (F ∷ G ∷ Fs) h A (Memᴰ.head e) = rw e h.0
joined_each H T (F ∷ G ∷ Fs) h A (Memᴰ.tail m) = joined_each H T (G ∷ Fs) h.1 A m
joined_each H T [] h A _ = elim h [ ]
joined_each H T (F ∷ []) h A (Memᴰ.tail m) = elim m [ ]
