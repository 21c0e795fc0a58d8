-- The marks of each way of a formed rewriting, and of each of a formed delta, by those of its parts.
use Rattle.std.proofs.Common.{◌≡◌, refl, sym, ap, subst, ◌∙◌, Bool, false, List, [], ◌∷◌, ◌++◌}
use Rattle.std.specs.List.{list_any}
use Rattle.plan_core.specs.PlainPlan.{PlainPlan}
use Rattle.estimator.specs.Cuts.{Cuts}
use Rattle.rewrite_core.specs.declared.rewriting.Hit.{Hit}
use Rattle.rewrite_core.specs.IsRewriting.{lefts, rights}
use Rattle.rewrite_core.specs.PlainRewriting.{PlainRewriting, PlainWay, One, Two, Tail, LeftGrew, RightGrew, BothGrew, PlainDelta, Change, OfChild, OfDistinct, OfJoin}
use Rattle.growth_laws.specs.MadePlaces.{place, places, both_standing, before_tail, is_made_at, standing_of, standing_in, standing_of_delta}
use Rattle.growth_laws.specs.Parts.{plan_at}
use Rattle.made_places.specs.Formed.{IsFormedWay, IsFormedDelta, delta_plan}
use Rattle.made_places.specs.Marks.{marks, unmarked, either, tail_cuts}
use Rattle.made_places.proofs.Covered.{Covers, tree_covers, delta_covers, together, over_one}
use Rattle.made_places.proofs.Formed as formed
use Rattle.made_places.proofs.MarkLemmas.{marks-both, marks_of_one, marks_of_two, marks_of_tail}

-- those of a rewriting's plan at this cut, and those of a delta's
abbrev pub tree_marks : PlainRewriting → Cuts → List Bool
tree_marks r at = marks (places (plan_at r) at) (standing_of r)

abbrev pub delta_marks : PlainDelta → Cuts → List Bool
delta_marks d at = marks (places (delta_plan d) at) (standing_of_delta d)

module _ (plan : PlainPlan) (at : Cuts) (root : List PlainRewriting) (own : Bool) (is_own : list_any (is_made_at (place plan at)) root ≡ own) where
  abbrev pub way_marks : PlainWay → List Bool
  way_marks way = marks (places plan at) (standing_in plan way root)

  pub one_marks : (r : PlainRewriting) → IsFormedWay plan (One r) → way_marks (One r) ≡ tree_marks r at ++ own ∷ []
  one_marks r is =
      let of = formed.one_input plan r is in marks_of_one plan at root own is_own (plan_at r) (standing_of r) of.shape (tree_covers r at of.input)

  pub two_marks : (l r : PlainRewriting) → IsFormedWay plan (Two l r)
      → way_marks (Two l r) ≡ tree_marks l (lefts (plan_at l) at) ++ (tree_marks r (rights (plan_at l) at) ++ own ∷ [])
  two_marks l r is =
      let of = formed.two_inputs plan l r is in
      marks_of_two plan at root own is_own (plan_at l) (plan_at r) (standing_of l) (standing_of r) of.shape (tree_covers l (lefts (plan_at l) at) of.left) (tree_covers r (rights (plan_at l) at) of.right)

  pub tail_marks : (hit : Hit) (d : PlainDelta) → IsFormedWay plan (Tail hit d)
      → way_marks (Tail hit d) ≡ unmarked (before_tail plan) ++ (delta_marks d (tail_cuts plan at) ++ own ∷ [])
  tail_marks hit d is =
      let of = formed.tail_input plan hit d is in
      marks_of_tail plan at root own is_own (delta_plan d) (standing_of_delta d) of.shape (delta_covers d (tail_cuts plan at) of.input)

  pub left_marks : (hit : Hit) (d : PlainDelta) (r : PlainRewriting) → IsFormedWay plan (LeftGrew hit d r)
      → way_marks (LeftGrew hit d r) ≡ delta_marks d (lefts (delta_plan d) at) ++ (tree_marks r (rights (delta_plan d) at) ++ own ∷ [])
  left_marks hit d r is =
      let of = formed.left_grown plan hit d r is in
      marks_of_two plan at root own is_own (delta_plan d) (plan_at r) (standing_of_delta d) (standing_of r) of.shape (delta_covers d (lefts (delta_plan d) at) of.left) (tree_covers r (rights (delta_plan d) at) of.right)

  pub right_marks : (hit : Hit) (l : PlainRewriting) (d : PlainDelta) → IsFormedWay plan (RightGrew hit l d)
      → way_marks (RightGrew hit l d) ≡ tree_marks l (lefts (plan_at l) at) ++ (delta_marks d (rights (plan_at l) at) ++ own ∷ [])
  right_marks hit l d is =
      let of = formed.right_grown plan hit l d is in
      marks_of_two plan at root own is_own (plan_at l) (delta_plan d) (standing_of l) (standing_of_delta d) of.shape (tree_covers l (lefts (plan_at l) at) of.left) (delta_covers d (rights (plan_at l) at) of.right)

  pub both_marks : (hit : Hit) (l : PlainRewriting) (rd ld : PlainDelta) (r : PlainRewriting) → IsFormedWay plan (BothGrew hit l rd ld r)
      → way_marks (BothGrew hit l rd ld r)
      ≡ either (tree_marks l (lefts (plan_at l) at)) (delta_marks ld (lefts (plan_at l) at))
      ++ (either (delta_marks rd (rights (plan_at l) at)) (tree_marks r (rights (plan_at l) at)) ++ own ∷ [])
  both_marks hit l rd ld r is =
      let of = formed.both_grown plan hit l rd ld r is in
      let left : Cuts = lefts (plan_at l) at in
      let right : Cuts = rights (plan_at l) at in
      let l_covers : Covers (places (plan_at l) left) (standing_of l) = tree_covers l left of.of_left in
      let r_covers : Covers (places (plan_at r) right) (standing_of r) = tree_covers r right of.of_right in
      let ld_covers : Covers (places (plan_at l) left) (standing_of_delta ld) =
      subst (λ q. Covers (places q left) (standing_of_delta ld)) of.same_left (delta_covers ld left of.of_left_delta) in
      let rd_covers : Covers (places (plan_at r) right) (standing_of_delta rd) =
      subst (λ q. Covers (places q right) (standing_of_delta rd)) of.same_right (delta_covers rd right of.of_right_delta) in
      let first : marks (places (plan_at l) left) (both_standing (standing_of l) (standing_of_delta ld)) ≡ either (tree_marks l left) (delta_marks ld left) =
      marks-both (places (plan_at l) left) (standing_of l) (standing_of_delta ld) l_covers ld_covers
      ∙ ap (λ (q : PlainPlan). either (tree_marks l left) (marks (places q left) (standing_of_delta ld))) (sym of.same_left) in
      let second : marks (places (plan_at r) right) (both_standing (standing_of_delta rd) (standing_of r)) ≡ either (delta_marks rd right) (tree_marks r right) =
      marks-both (places (plan_at r) right) (standing_of_delta rd) (standing_of r) rd_covers r_covers
      ∙ ap (λ (q : PlainPlan). either (marks (places q right) (standing_of_delta rd)) (tree_marks r right)) (sym of.same_right) in
      marks_of_two plan at root own is_own (plan_at l) (plan_at r) (both_standing (standing_of l) (standing_of_delta ld)) (both_standing (standing_of_delta rd) (standing_of r)) of.shape
      (together (places (plan_at l) left) (standing_of l) (standing_of_delta ld) l_covers ld_covers)
      (together (places (plan_at r) right) (standing_of_delta rd) (standing_of r) rd_covers r_covers)
      ∙ (λ i. first i ++ (second i ++ own ∷ []))

module _ (plan : PlainPlan) (old new at : Cuts) where
  pub child_marks : (d : PlainDelta) → IsFormedDelta (Change plan old new (OfChild d))
      → delta_marks (Change plan old new (OfChild d)) at ≡ unmarked (before_tail plan) ++ (delta_marks d (tail_cuts plan at) ++ false ∷ [])
  child_marks d is =
      let of = formed.child_input plan old new d is in
      marks_of_tail plan at [] false refl (delta_plan d) (standing_of_delta d) of.shape (delta_covers d (tail_cuts plan at) of.input)

  pub distinct_marks : (r : PlainRewriting) (d : PlainDelta) → IsFormedDelta (Change plan old new (OfDistinct r d))
      → delta_marks (Change plan old new (OfDistinct r d)) at ≡ either (tree_marks r at) (delta_marks d at ++ false ∷ [])
  distinct_marks r d is =
      let of = formed.distinct_inputs plan old new r d is in
      let d_covers = delta_covers d at of.of_child in
      let r_covers : Covers (places plan at) (standing_of r) = subst (λ q. Covers (places q at) (standing_of r)) of.same (tree_covers r at of.of_old) in
      let behind : marks (places plan at) (standing_of_delta d ++ [] ∷ []) ≡ delta_marks d at ++ false ∷ [] =
      marks_of_one plan at [] false refl (delta_plan d) (standing_of_delta d) of.shape d_covers in
      marks-both (places plan at) (standing_of r) (standing_of_delta d ++ [] ∷ []) r_covers (over_one plan at [] (delta_plan d) (standing_of_delta d) of.shape d_covers)
      ∙ (λ i. either (marks (places (sym of.same i) at) (standing_of r)) (behind i))

  pub join_marks : (d : PlainDelta) (r : PlainRewriting) → IsFormedDelta (Change plan old new (OfJoin d r))
      → delta_marks (Change plan old new (OfJoin d r)) at ≡ delta_marks d (lefts (delta_plan d) at) ++ (tree_marks r (rights (delta_plan d) at) ++ false ∷ [])
  join_marks d r is =
      let of = formed.join_inputs plan old new d r is in
      marks_of_two plan at [] false refl (delta_plan d) (plan_at r) (standing_of_delta d) (standing_of r) of.shape (delta_covers d (lefts (delta_plan d) at) of.left) (tree_covers r (rights (delta_plan d) at) of.right)
