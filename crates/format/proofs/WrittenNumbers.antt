-- A number, a list and a principal are read back as they were written.
use Prim.Native.Nat.{◌-◌, ℕ, zero, suc, ◌+◌, ◌*◌, ◌/◌, ◌%◌, ◌^◌, ◌≤◌, ◌<◌, min}
use mathlib.Core.Path.{◌≡◌, refl, sym, ap, ◌∙◌}
use mathlib.Core.Bool.{Bool, true, false, cond}
use mathlib.Core.List.{List, [], ◌∷◌, ◌++◌, map, append-nil, append_assoc}
use mathlib.Core.Option.{Option, none, some}
use native.Mathlib.Nat.{pow-suc}
use native.Mathlib.Omega.{arith}
use lib.Dec.{ltb}
use lib.ListN.{length, length-append}
use borrow.Author.Tests.{le-leb, ne_eqb, ltb-true, ltb-false}
use Rattle.format.specs.Text.{Bytes, comma, hyphen, all, is_digit, value_from, leading_zero, same_list, number_of, list_of, side_of, principal_of, each}
use Rattle.format.specs.Tests.{listed}
use Rattle.format.specs.Written.{Each, parted, digit, digits, decimal, Small, list_bytes, principal_bytes, dash}
use Rattle.format.proofs.Joined.{Without, each_append, parts_parted}
use Rattle.format.proofs.Sides.{digits_without, side_kept}

-- ---- the digits of a number

-- whichever way a test comes out
by_test : {X : Type 0} (P : X → Type 0) (t : Bool) {a b : X} → (t ≡ true → P a) → (t ≡ false → P b) → P (cond t a b)
by_test P true h k = h refl
by_test P false h k = k refl

-- the first digit is no zero, whatever follows
no_leading_zero : (k n : ℕ) (bs : Bytes) → 1 ≤ n → n < 10 ^ k → leading_zero (digits k n ++ bs) ≡ false
unfolding digits
no_leading_zero zero n bs l h = absurd (omega arith)
no_leading_zero (suc k) n bs l h =
    by_test (λ ds. leading_zero (ds ++ bs) ≡ false) (ltb n 10) (λ e. one_digit bs)
    (λ e. rw append_assoc (no_leading_zero k (n / 10) (digit (n % 10) ∷ bs) (omega (arith, ltb-false n 10 e)) (omega (arith, rw pow-suc at h))))
  where
    one_digit : (bs : Bytes) → leading_zero (digit n ∷ bs) ≡ false
    one_digit [] = refl
    one_digit (b ∷ bs) = ne_eqb (digit n) 48 (λ (e : digit n ≡ 48). omega arith)

value_last : (n : ℕ) (bs : Bytes) (d : ℕ) → value_from n (bs ++ digit d ∷ []) ≡ value_from n bs * 10 + d
value_last n [] d = omega arith
value_last n (b ∷ bs) d = value_last (n * 10 + (b - 48)) bs d

value_digits : (k n : ℕ) → n < 10 ^ k → value_from 0 (digits k n) ≡ n
unfolding digits
value_digits zero n h = omega arith
value_digits (suc k) n h =
    by_test (λ bs. value_from 0 bs ≡ n) (ltb n 10) (λ e. omega arith)
    (λ e. value_last 0 (digits k (n / 10)) (n % 10) ∙ rw (value_digits k (n / 10) (omega (arith, rw pow-suc at h))) (omega arith))

abbrev IsDigit : ℕ → Type 0
IsDigit b = is_digit b ≡ true

is_digit_lem : (d : ℕ) → d < 10 → IsDigit (digit d)
is_digit_lem d h = rw (le-leb 48 (digit d) (omega arith), le-leb (digit d) 57 (omega arith))

each_digit : (k n : ℕ) → Each IsDigit (digits k n)
unfolding digits
each_digit zero n = tt
each_digit (suc k) n =
    by_test (Each IsDigit) (ltb n 10) (λ e. (is_digit_lem n (ltb-true n 10 e), tt))
    (λ e. each_append IsDigit (digits k (n / 10)) _ (each_digit k (n / 10)) (is_digit_lem (n % 10) (omega arith), tt))

-- so many at the least, and so many at the most
pub record Between (low high : ℕ) (bs : Bytes) : Type 0 where
  pub least : low ≤ length bs
  pub most : length bs ≤ high

count_digits : (k n : ℕ) → Between (min 1 k) k (digits k n)
unfolding digits
count_digits zero n = record { least = omega arith; most = omega arith }
count_digits (suc k) n =
    by_test (Between (min 1 (suc k)) (suc k)) (ltb n 10) (λ e. record { least = omega arith; most = omega arith })
    (λ e. let rest = count_digits k (n / 10) in record { least = simp length-append (omega arith); most = simp length-append (omega arith) })

decimal_leading : (n : ℕ) → Small n → leading_zero (decimal n) ≡ false
unfolding decimal digits
decimal_leading zero h = refl
decimal_leading (suc n) h = ap leading_zero (sym (append-nil (digits 5 (suc n)))) ∙ no_leading_zero 5 (suc n) [] (omega arith) h

pub decimal_digits : (n : ℕ) → Each (λ b. is_digit b ≡ true) (decimal n)
unfolding decimal
decimal_digits n = each_digit 5 n

pub all_true : (test : ℕ → Bool) (bs : Bytes) → Each (λ b. test b ≡ true) bs → all test bs ≡ true
all_true test [] h = refl
all_true test (b ∷ bs) h = rw h.0 (all_true test bs h.1)

pub decimal_length : (n : ℕ) → Between 1 5 (decimal n)
unfolding decimal
decimal_length n = count_digits 5 n

decimal_value : (n : ℕ) → Small n → value_from 0 (decimal n) ≡ n
unfolding decimal
decimal_value n h = value_digits 5 n h

-- a number is read back
pub number_back : (n : ℕ) → Small n → number_of (decimal n) ≡ some n
unfolding number_of
number_back n h =
    let counted = decimal_length n in
    rw (le-leb 1 _ counted.least, le-leb _ 5 counted.most, all_true is_digit (decimal n) (decimal_digits n), decimal_leading n h)
    (ap some (decimal_value n h))

-- ---- lists and principals

decimal_without : (s : ℕ) → is_digit s ≡ false → (n : ℕ) → Without s (decimal n)
decimal_without s no_digit n = digits_without s no_digit (decimal n) (all_true is_digit (decimal n) (decimal_digits n))

decimals_without : (s : ℕ) → is_digit s ≡ false → (ns : List ℕ) → Each (Without s) (map decimal ns)
decimals_without s no_digit [] = tt
decimals_without s no_digit (n ∷ ns) = (decimal_without s no_digit n, decimals_without s no_digit ns)

each_back : (ns : List ℕ) → Each Small ns → each number_of (map decimal ns) ≡ some ns
each_back [] h = refl
each_back (n ∷ ns) h = rw (number_back n h.0, each_back ns h.1)

-- what begins with a number is no dash
no_dash : (n : ℕ) (rest : Bytes) → same_list (decimal n ++ rest) dash ≡ false
unfolding same_list
no_dash n rest = first_differs (decimal n) (decimal_length n).least (decimal_without hyphen refl n)
  where
    first_differs : (bs : Bytes) → 1 ≤ length bs → Without hyphen bs → same_list (bs ++ rest) dash ≡ false
    first_differs [] l w = absurd (omega arith)
    first_differs (b ∷ bs) l w = rw w.0

parted_more : (n : ℕ) (ns : List ℕ) → (rest : Bytes) × (parted comma (map decimal (n ∷ ns)) ≡ decimal n ++ rest)
unfolding parted
parted_more n [] = ([], sym (append-nil (decimal n)))
parted_more n (m ∷ ms) = (comma ∷ parted comma (map decimal (m ∷ ms)), refl)

-- a list is read back
pub list_back : (ns : List ℕ) → Each Small ns → list_of (list_bytes ns) ≡ some ns
unfolding list_of list_bytes same_list
list_back [] h = refl
list_back (n ∷ ns) h =
    let more = parted_more n ns in
    let not_empty = ap (λ (bs : Bytes). same_list bs dash) more.1 ∙ no_dash n more.0 in
    rw (not_empty, parts_parted comma (decimal n) (map decimal ns) (decimals_without comma refl (n ∷ ns))) (each_back (n ∷ ns) h)

-- and so as a side
pub side_back : (ns : List ℕ) → Each Small ns → side_of (list_bytes ns) ≡ some ns
side_back ns h = side_kept (list_bytes ns) ns (list_back ns h)

-- a principal is read back
pub principal_back : (o : Option ℕ) → Each Small (listed o) → principal_of (principal_bytes o) ≡ some o
unfolding principal_of principal_bytes same_list
principal_back none h = refl
principal_back (some n) h =
    rw (ap (λ (bs : Bytes). same_list bs dash) (sym (append-nil (decimal n))) ∙ no_dash n [], number_back n h.0)
