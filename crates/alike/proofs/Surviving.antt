-- The loops over the parts h of one t, and over the parts t of the places in use: which candidates remain after each step.
use Prim.Native.Nat.{ℕ, suc, ◌+◌, ◌-◌, ◌*◌, ◌%◌, ◌^◌, ◌≤◌, ◌<◌, min}
use native.Mathlib.Decide.{ℕ_discrete, dec_lt}
use native.Mathlib.Nat.{pow-le-pow_right}
use native.Mathlib.Omega.{arith}
use mathlib.Core.Bool.{false≢true}
use mathlib.Core.List.Memᴰ
use mathlib.Core.List.{List, [], ◌∷◌}
use mathlib.Core.Logic.{◌↔◌}
use mathlib.Core.Path.{◌≡◌, refl, sym, ap, subst, ◌∙◌}
use lib.ListN.{length, get_or}
use Rattle.equilibrium.specs.Meaning.{◌∈◌}
use Rattle.elk.specs.Instance.{Rising}
use Rattle.elk.proofs.Rising.{rising_rest, rising_below}
use Rattle.format.specs.File.{Body}
use Rattle.atomset.specs.AtomSet.{Member, Included, members, set_of}
use Rattle.atomset.proofs.Digits.{has_zero, shl_one}
use Rattle.atomset.proofs.Membership.{member_lt}
use Rattle.atomset.proofs.Members.{members_rising, member_members}
use Rattle.atomset.proofs.SetOf.{member_set_of, set_of_lt}
use Rattle.pairs.specs.Parts.{part}
use Rattle.pairs.proofs.Parts.{part_inside}
use Rattle.alike.specs.Blocks.{truth_in}
use Rattle.alike.specs.Under.{slot_of}
use Rattle.alike.specs.Truths.{Right, JudgedAll}
use Rattle.alike.specs.Survivors.{SameHere, most_places, AlikeAt, AlikeUnder, Given, RoomFor, Remain, AlikeBelow, AlikeAll}
use Rattle.alike.proofs.Remaining.{remain_first, remain_next, remain_none}
use Rattle.alike.proofs.Words.{same_here_iff}

-- ---- how many parts there are

-- a rising list of numbers below n has at most n
rising_few : (xs : List ℕ) (low n : ℕ) → Rising xs → low ≤ n → ((x : ℕ) → x ∈ xs → (low ≤ x) × (x < n)) → length xs + low ≤ n
rising_few [] low n r l inside = omega arith
rising_few (x ∷ xs) low n r l inside =
    let here = inside x (Memᴰ.head refl) in
    let rest = rising_few xs (suc x) n (rising_rest x xs r) here.1 (λ y m. (rising_below x xs r y m, (inside y (Memᴰ.tail m)).1)) in
    omega (arith, here.0)

-- a word of k digits has at most k members
pub few_members : (k set : ℕ) → k ≤ 64 → set < 2 ^ k → set < 2 ^ 64 → length (members set) ≤ k
few_members k set l h fits =
    let few = rising_few (members set) 0 k (members_rising set) (omega arith)
    (λ x m. (omega arith, member_lt k set x h ((member_members set fits x).1 m))) in
    omega (arith, few)

-- a part has no more digits than the whole
pub part_small : (k set n : ℕ) → set < 2 ^ k → set < 2 ^ 64 → set_of (part n (members set)) < 2 ^ k
part_small k set n h fits =
    set_of_lt k (part n (members set)) (λ i m. member_lt k set i h ((member_members set fits i).1 (part_inside n (members set) i m)))

-- nor a place that the whole lacks
pub part_included : (set n : ℕ) → set < 2 ^ 64 → Included (set_of (part n (members set))) set
part_included set n fits i m = (member_members set fits i).1 (part_inside n (members set) i ((member_set_of (part n (members set)) i).0 m))

-- at most 256 parts
pub few_parts : (set : ℕ) → set < 2 ^ most_places → set < 2 ^ 64 → 2 ^ length (members set) ≤ 256
few_parts set h fits = pow-le-pow_right (omega arith) (few_members most_places set (omega arith) h fits)

-- `1 << count`
pub parts_counted : (set n : ℕ) → set < 2 ^ most_places → set < 2 ^ 64 → n ≡ length (members set) → (1 * 2 ^ n) % 2 ^ 64 ≡ 2 ^ length (members set)
parts_counted set n h fits e = let few = few_members most_places set (omega arith) h fits in shl_one 64 n (omega arith) ∙ ap (λ (k : ℕ). 2 ^ k) e

-- ---- one t

module _ (steps : List ℕ) (count : ℕ) (slots places : List ℕ) (t a : ℕ) (side : List ℕ) (alive : ℕ) (table₀ : List ℕ) where
  -- alike in the 256 pairs of part n
  abbrev pub InPart : Body → ℕ → ℕ → Type 0
  InPart b n c = AlikeAt b places (set_of (part n (members t))) t a (get_or side c 0)

  -- how many parts there are
  abbrev pub parts : ℕ
  parts = 2 ^ length (members t)

  pub record BelowSoFar (table : List ℕ) (kept n : ℕ) : Type 0 where
    pub small : kept < 2 ^ 64
    pub long : length table ≡ length table₀
    pub remain :
        (b : Body) → Given b steps count slots a side alive → RoomFor count table₀
        → Remain (λ c. (i : ℕ) → i < n → i < parts → InPart b i c) alive kept

  pub below_starts : alive < 2 ^ 64 → BelowSoFar table₀ alive 0
  below_starts s = record { small = s; long = refl; remain = λ b p r c. (λ m. (m, λ i l. absurd (omega arith)), λ h. h.0) }

  -- two parts more, or the last one twice
  pub below_next : t < 2 ^ 64 → {table : List ℕ} {kept n : ℕ} → BelowSoFar table kept n → n < parts → (m : ℕ) → m ≡ min (n + 1) (parts - 1)
      → (h g : ℕ) → h ≡ set_of (part n (members t)) → g ≡ set_of (part m (members t))
      → {table' : List ℕ} → JudgedAll steps count places h g t table table' → ((i : ℕ) → get_or table' i 0 < 2 ^ 64)
      → (kept' : ℕ) → kept' < 2 ^ 64 → ((c : ℕ) → Member c kept' ↔ (Member c kept × SameHere table' slots a (get_or side c 0)))
      → BelowSoFar table' kept' (n + 2)
  below_next fits {table} {kept} {n} s low m least h g e f {table'} judged bound kept' small' still = record {
    small = small';
    long = judged.long ∙ s.long;
    remain = λ b p r c. (
      λ k. let q = (still c).0 k in let o = (s.remain b p r c).0 q.0 in
          let two = (words b p r c q.0).0 q.1 in
          (o.0, λ i l u. by b c i l u (o.1 i) two.0 two.1),
      λ (k, all).
          let q = (s.remain b p r c).1 (k, λ i l. all i (omega arith)) in
          (still c).1 (q, (words b p r c q).1 (all n (omega arith) low, all m (omega arith) (omega arith))),
    );
  }
    where
      right : (b : Body) (p : Given b steps count slots a side alive) → RoomFor count table₀ → (i : ℕ) → i ∈ p.list
          → Right b places h g t i (truth_in table' (slot_of slots i))
      right b p r =
          judged.right b p.formulas p.list slots p.prepared.ready p.steps_held (omega (arith, s.long))
          (subst (λ (z : ℕ). Included z t) (sym e) (part_included t n fits))
          (subst (λ (z : ℕ). Included z t) (sym f) (part_included t m fits))

      words : (b : Body) → Given b steps count slots a side alive → RoomFor count table₀ → (c : ℕ) → Member c kept
          → SameHere table' slots a (get_or side c 0) ↔ (InPart b n c × InPart b m c)
      words b p r c k =
          let x = get_or side c 0 in
          let both = same_here_iff b places h g t table' slots a x (right b p r a p.prepared.own)
          (right b p r x (p.prepared.candidates c ((s.remain b p r c).0 k).0)) bound in (
            λ same. let two = both.0 same in
                (subst (λ (z : ℕ). AlikeAt b places z t a x) e two.0, subst (λ (z : ℕ). AlikeAt b places z t a x) f two.1),
            λ (one, two). both.1 (subst (λ (z : ℕ). AlikeAt b places z t a x) (sym e) one, subst (λ (z : ℕ). AlikeAt b places z t a x) (sym f) two),
          )

      -- a part is one gone through before, or one of the two
      by : (b : Body) (c i : ℕ) → i < n + 2 → i < parts → (i < n → i < parts → InPart b i c) → InPart b n c → InPart b m c → InPart b i c
      by b c i l u old own next = at (dec_lt i n) (ℕ_discrete i n)
        where
          at : Dec (i < n) → Dec (i ≡ n) → InPart b i c
          at (yes k) d = old k u
          at (no k) (yes d) = subst (λ (j : ℕ). InPart b j c) (sym d) own
          at (no k) (no d) = let last : i ≡ m = omega arith in subst (λ (j : ℕ). InPart b j c) (sym last) next

  -- no candidate is left
  pub below_none : {table : List ℕ} {kept n : ℕ} → BelowSoFar table kept n → members kept ≡ []
      → AlikeBelow steps count slots places t a side alive table₀ table 0
  below_none {kept = kept} {n = n} s none = record {
    long = s.long;
    remain = λ b p r c. (
      λ m. absurd (false≢true (sym (has_zero c) ∙ m)),
      λ (m, all). absurd (Memᴰ.not-nil (subst (λ (xs : List ℕ). c ∈ xs) none
          ((member_members kept s.small c).0 ((s.remain b p r c).1 (m, λ i l u. all i u))))),
    );
  }

  -- no part is left
  pub below_whole : {table : List ℕ} {kept n : ℕ} → BelowSoFar table kept n → parts ≤ n
      → AlikeBelow steps count slots places t a side alive table₀ table kept
  below_whole {kept = kept} s l = record {
    long = s.long;
    remain = λ b p r c.
        let q = s.remain b p r c in
        (λ m. ((q.0 m).0, λ i u. (q.0 m).1 i (omega arith) u), λ (m, all). q.1 (m, λ i k u. all i u));
  }

-- ---- all t

module _ (steps : List ℕ) (count : ℕ) (slots places : List ℕ) (outer a : ℕ) (side : List ℕ) (alive : ℕ) (table₀ : List ℕ) where
  -- alike in all pairs with part m as t
  abbrev pub InPlaces : Body → ℕ → ℕ → Type 0
  InPlaces b m c = AlikeUnder b places (set_of (part m (members outer))) a (get_or side c 0)

  pub record AllSoFar (table : List ℕ) (kept m : ℕ) : Type 0 where
    pub small : kept < 2 ^ 64
    pub long : length table ≡ length table₀
    pub remain :
        (b : Body) → Given b steps count slots a side alive → RoomFor count table₀ → Remain (λ c. (i : ℕ) → i < m → InPlaces b i c) alive kept

  pub all_starts : alive < 2 ^ 64 → AllSoFar table₀ alive 0
  all_starts s = record { small = s; long = refl; remain = λ b p r. remain_first (InPlaces b) alive }

  -- one t more
  pub all_next : {table : List ℕ} {kept m : ℕ} → AllSoFar table kept m → (t : ℕ) → t ≡ set_of (part m (members outer))
      → {table' : List ℕ} (kept' : ℕ) → kept' < 2 ^ 64 → AlikeBelow steps count slots places t a side kept table table' kept'
      → AllSoFar table' kept' (m + 1)
  all_next {table} {kept} {m} s t e kept' small' below = record {
    small = small';
    long = below.long ∙ s.long;
    remain = λ b p r. remain_next (InPlaces b) alive kept kept' m (s.remain b p r)
        (subst (λ (x : ℕ). Remain (λ c. AlikeUnder b places x a (get_or side c 0)) kept kept') e
        (below.remain b (prepared b p r) (omega (arith, s.long))));
  }
    where
      prepared : (b : Body) → Given b steps count slots a side alive → RoomFor count table₀ → Given b steps count slots a side kept
      prepared b p r = record {
        formulas = p.formulas;
        list = p.list;
        prepared = record {
          ready = p.prepared.ready;
          own = p.prepared.own;
          candidates = λ c k. p.prepared.candidates c ((s.remain b p r c).0 k).0;
        };
        steps_held = p.steps_held;
      }

  pub all_none : {table : List ℕ} {kept m : ℕ} → AllSoFar table kept m → members kept ≡ [] → m ≤ 2 ^ length (members outer)
      → AlikeAll steps count slots places outer a side alive table₀ 0
  all_none {kept = kept} {m = m} s none l = record {
    remain = λ b p r. remain_none (InPlaces b) alive kept m (2 ^ length (members outer)) (s.remain b p r) s.small none l;
  }

  pub all_whole : {table : List ℕ} {kept m : ℕ} → AllSoFar table kept m → m ≡ 2 ^ length (members outer)
      → AlikeAll steps count slots places outer a side alive table₀ kept
  all_whole {kept = kept} s e = record {
    remain = λ b p r. subst (λ (k : ℕ). Remain (λ c. (i : ℕ) → i < k → InPlaces b i c) alive kept) e (s.remain b p r);
  }
