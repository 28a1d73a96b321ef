-- One of some candidates is equal to a formula: by the candidates that are left when all pairs of places are gone through.
use Prim.Native.Nat.{ℕ, ◌*◌, ◌^◌, ◌≤◌, ◌<◌}
use native.Mathlib.Omega.{arith}
use mathlib.Core.Bool.{Bool, true, false, not, false≢true, true≢false}
use mathlib.Core.List.Memᴰ
use mathlib.Core.List.{List, [], ◌∷◌}
use mathlib.Core.Logic.{⊎_elim, ◌↔◌}
use mathlib.Core.Path.{◌≡◌, refl, sym, ap, subst, ◌∙◌}
use lib.Dec.{eqb}
use lib.ListN.{length, get_or, take, length-take}
use Rattle.equilibrium.specs.Formula.{atoms_of}
use Rattle.equilibrium.specs.Meaning.{◌∈◌, Equal}
use Rattle.format.specs.File.{Body, decoded_at}
use Rattle.format.specs.Tables.{most_formulas, node_width}
use Rattle.format.proofs.GoodBodies.{good_held, in_get_d}
use Rattle.atomset.specs.AtomSet.{Member, members}
use Rattle.atomset.proofs.Members.{member_members, walk_ends}
use Rattle.sides.specs.Deciding.{Decides}
use Rattle.alike.specs.Under.{MarkedBefore, Room, Listed, StepsFilled}
use Rattle.alike.specs.Survivors.{most_places, AlikeOver, Prepared, RoomFor, AlikeAll, AnyAlike, AnyListed}
use Rattle.alike.specs.Places.{OuterPlaces}
use Rattle.alike.specs.Alike.{CandidatesMarked, Bounded, Held, OneEqual, BothSeated, SomeAlike}
use Rattle.alike.proofs.Covering.{alike_iff}

-- a set with a member, by the test
pub some_member : (set : ℕ) → (r : Bool) → r ≡ eqb (length (members set)) 0 → set < 2 ^ 64 → (not r ≡ true) ↔ ((c : ℕ) × Member c set)
some_member set r e small = (λ n. by (members set) refl n, from r e)
  where
    by : (xs : List ℕ) → members set ≡ xs → not r ≡ true → (c : ℕ) × Member c set
    by [] k n = absurd (false≢true (sym (ap not (e ∙ ap (λ (ys : List ℕ). eqb (length ys) 0) k)) ∙ n))
    by (x ∷ xs) k n = (x, (member_members set small x).1 (subst (λ (ys : List ℕ). x ∈ ys) (sym k) (Memᴰ.head refl)))

    from : (r : Bool) → r ≡ eqb (length (members set)) 0 → (c : ℕ) × Member c set → not r ≡ true
    from true k (c, m) = absurd (Memᴰ.not-nil (subst (λ (ys : List ℕ). c ∈ ys) (walk_ends set (sym k)) ((member_members set small c).0 m)))
    from false k s = refl

-- the first member of a set that has one
pub some_first : (set first : ℕ) → eqb (length (members set)) 0 ≡ false → set < 2 ^ 64 → first ≡ get_or (members set) 0 64 → Member first set
some_first set first e small is = by (members set) refl
  where
    by : (xs : List ℕ) → members set ≡ xs → Member first set
    by [] k = absurd (true≢false (sym (ap (λ (ys : List ℕ). eqb (length ys) 0) k) ∙ e))
    by (x ∷ xs) k =
        let here = is ∙ ap (λ (ys : List ℕ). get_or ys 0 64) k in
        (member_members set small first).1 (subst (λ (ys : List ℕ). first ∈ ys) (sym k) (Memᴰ.head here))

-- the candidates that are left say whether one is alike
pub any_alike : {steps : List ℕ} {count : ℕ} {slots places : List ℕ} {outer own : ℕ} {side : List ℕ} {candidates : ℕ} {table : List ℕ} {kept : ℕ}
    → AlikeAll steps count slots places outer own side candidates table kept → RoomFor count table
    → (r : Bool) → r ≡ eqb (length (members kept)) 0 → kept < 2 ^ 64 → AnyAlike steps count slots places outer own side candidates (not r)
any_alike {kept = kept} alike room r e small = record {
  decides = λ b p.
      let some = some_member kept r e small in
      let remain = alike.remain b p room in
      record {
        sound = λ t. let k = some.0 t in let m = (remain k.0).0 k.1 in (k.0, m.0, m.1);
        complete = λ (c, m, q). some.1 (c, (remain c).1 (m, q));
      };
}

-- and so by the steps that were filled in for a list
pub any_listed : {formulas list slots places : List ℕ} {outer own : ℕ} {side : List ℕ} {candidates : ℕ} {before steps : List ℕ} {r : Bool}
    → StepsFilled formulas list slots before steps → node_width * length list ≤ length before
    → AnyAlike steps (length list) slots places outer own side candidates r → AnyListed formulas list slots places outer own side candidates r
any_listed {formulas} {list} steps room alike = record {
  decides = λ b p. alike.decides b (record { formulas = formulas; list = list; prepared = p; steps_held = steps.filled room });
}

-- and where atoms have places of their own, whether one is equal
module _ {formulas : List ℕ} {own : ℕ} {places side : List ℕ} {candidates : ℕ} {marks list slots : List ℕ}
    (room : Room marks list slots) {end : ℕ} (bounded : Bounded own side end)
    {marks₁ marks₂ list' slots' : List ℕ} (own-marked : MarkedBefore own most_formulas marks marks₁)
    (all-marked : CandidatesMarked side candidates marks₁ marks₂)
    {n : ℕ} (listed : Listed formulas end marks₂ list' slots' n) {width outer : ℕ} (places-outer : OuterPlaces width outer)
    {r : Bool} (alike : AnyListed formulas (take n list') slots' places outer own side candidates r) where
  module _ (b : Body) (held : Held b formulas own side) (on_side : (c : ℕ) → Member c candidates → c < length side) where
    few : length b.nodes ≤ most_formulas
    few = (good_held held.formulas_held.good).few_nodes

    past : (own < end) × ((x : ℕ) → x ∈ side → x < end) × (end ≤ length b.nodes)
    past = bounded.past (length b.nodes) few held.own_known held.side_known

    prepared : Prepared b formulas (take n list') slots' own side candidates
    prepared = record {
      ready = record {
        held = held.formulas_held;
        known = λ x m. omega (arith, listed.below x m, past.2);
        ordered = listed.ordered;
        placed = λ k l. listed.placed k (omega (arith, length-take n list'));
      };
      own = listed.marked own past.0 (all-marked.kept own (own-marked.marked (omega (arith, past.0, bounded.few)) (omega (arith, room.marks_long))));
      candidates = λ c m.
          let low = past.1 (get_or side c 0) (in_get_d side c 0 (on_side c m)) in
          listed.marked (get_or side c 0) low
          (all-marked.marked c m (omega (arith, low, bounded.few)) (omega (arith, own-marked.long, room.marks_long)));
    }

    module _ (both : (c : ℕ) → Member c candidates → BothSeated places width (decoded_at b.nodes own) (decoded_at b.nodes (get_or side c 0))) where
      equal : (c : ℕ) → Member c candidates
          → AlikeOver b places outer own (get_or side c 0) ↔ Equal (decoded_at b.nodes own) (decoded_at b.nodes (get_or side c 0))
      equal c m =
          let s = both c m in
          alike_iff places width outer s.set s.small (omega (arith, places-outer.few)) places-outer.its s.seated b own (get_or side c 0)
          (λ p i. (member_members s.set s.small p).0 (⊎_elim (s.in_first p) (s.in_second p)
          (Memᴰ.append_cases (atoms_of (decoded_at b.nodes own)) i)))

      decided : Decides (OneEqual b own side candidates) r
      decided =
          let one = alike.decides b prepared in
          record {
            sound = λ t. let k = one.sound t in (k.0, k.1, (equal k.0 k.1).0 k.2);
            complete = λ (c, m, q). one.complete (c, m, (equal c m).1 q);
          }

  pub some_alike : width ≤ most_places → SomeAlike formulas own places width side candidates r
  some_alike few-places = record { decides = λ b held few. decided b held; many = λ l. absurd (omega arith) }
