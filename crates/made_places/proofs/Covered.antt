-- A formed rewriting has trees for each place of its plan, and so has a formed delta.
use Rattle.std.proofs.Common.{sym, subst, List, [], ◌∷◌, ◌++◌}
use Rattle.plan_core.specs.PlainPlan.{PlainPlan, Scan, Filter, Project, Distinct, Group, Join, Concat, Order}
use Rattle.estimator.specs.Cuts.{Cuts}
use Rattle.rewrite_core.specs.IsRewriting.{IsScan, lefts, rights}
use Rattle.rewrite_core.specs.PlainRewriting.{PlainRewriting, Node, PlainWay, One, Two, Read, Tail, LeftGrew, RightGrew, BothGrew, PlainDelta, Change, PlainDeltaWay, Unchanged, NewRows, OfChild, OfDistinct, OfJoin}
use Rattle.rewrite_core.specs.PlainRewriting as tree
use Rattle.growth_laws.specs.MadePlaces.{Place, place, places, Standing, nowhere, both_standing, before_tail, standing_of, standing_in, standing_of_delta, standing_in_delta}
use Rattle.growth_laws.specs.Parts.{plan_at}
use Rattle.made_places.specs.Formed.{IsFormed, IsFormedWay, IsFormedDelta, delta_plan}
use Rattle.made_places.specs.Marks.{places_before, tail_cuts}
use Rattle.made_places.proofs.Shapes.{HasOne, HasTwo, HasTail}
use Rattle.made_places.proofs.Formed as formed

-- as many lists of trees as places
abbrev pub Covers : List Place → Standing → Type 0
Covers [] [] = Unit {0}
Covers (at ∷ ps) (trees ∷ standing) = Covers ps standing
Covers _ _ = ⊥

pub behind : (ps qs : List Place) (xs ys : Standing) → Covers ps xs → Covers qs ys → Covers (ps ++ qs) (xs ++ ys)
behind [] qs [] ys first second = second
behind [] qs (x ∷ xs) ys first second = absurd first
behind (p ∷ ps) qs [] ys first second = absurd first
behind (p ∷ ps) qs (x ∷ xs) ys first second = behind ps qs xs ys first second

pub together : (ps : List Place) (xs ys : Standing) → Covers ps xs → Covers ps ys → Covers ps (both_standing xs ys)
together [] [] [] first second = tt
together [] (x ∷ xs) ys first second = absurd first
together [] [] (y ∷ ys) first second = absurd second
together (p ∷ ps) [] ys first second = absurd first
together (p ∷ ps) (x ∷ xs) [] first second = absurd second
together (p ∷ ps) (x ∷ xs) (y ∷ ys) first second = together ps xs ys first second

pub no_trees : (plan : PlainPlan) (cuts : Cuts) → Covers (places plan cuts) (nowhere plan)
no_trees (Scan stream) cuts = tt
no_trees (Filter child test) cuts = behind (places child cuts) _ (nowhere child) _ (no_trees child cuts) tt
no_trees (Project child columns) cuts = behind (places child cuts) _ (nowhere child) _ (no_trees child cuts) tt
no_trees (Distinct child) cuts = behind (places child cuts) _ (nowhere child) _ (no_trees child cuts) tt
no_trees (Group child keys aggs) cuts = behind (places child cuts) _ (nowhere child) _ (no_trees child cuts) tt
no_trees (Order child keys) cuts = behind (places child cuts) _ (nowhere child) _ (no_trees child cuts) tt
no_trees (Join left right on) cuts =
    behind (places left (lefts left cuts)) _ (nowhere left) _ (no_trees left (lefts left cuts)) (behind (places right (rights left cuts)) _ (nowhere right) _ (no_trees right (rights left cuts)) tt)
no_trees (Concat left right) cuts =
    behind (places left (lefts left cuts)) _ (nowhere left) _ (no_trees left (lefts left cuts)) (behind (places right (rights left cuts)) _ (nowhere right) _ (no_trees right (rights left cuts)) tt)

pub none_before : (plan : PlainPlan) (cuts : Cuts) → Covers (places_before plan cuts) (before_tail plan)
none_before (Scan stream) cuts = tt
none_before (Filter child test) cuts = tt
none_before (Project child columns) cuts = tt
none_before (Distinct child) cuts = tt
none_before (Group child keys aggs) cuts = tt
none_before (Order child keys) cuts = tt
none_before (Join left right on) cuts = tt
none_before (Concat left right) cuts = no_trees left (lefts left cuts)

module _ (plan : PlainPlan) (at : Cuts) (root : List PlainRewriting) where
  over_scan : IsScan plan → Covers (places plan at) (root ∷ [])
  over_scan is = by plan is
    where
      by : (q : PlainPlan) → IsScan q → Covers (places q at) (root ∷ [])
      by (Scan stream) is = tt
      by (Filter child test) is = absurd is
      by (Project child columns) is = absurd is
      by (Distinct child) is = absurd is
      by (Group child keys aggs) is = absurd is
      by (Join left right on) is = absurd is
      by (Concat left right) is = absurd is
      by (Order child keys) is = absurd is

  pub over_one : (child : PlainPlan) (xs : Standing) → HasOne plan child → Covers (places child at) xs → Covers (places plan at) (xs ++ root ∷ [])
  over_one child xs shape is = subst (λ ps. Covers ps (xs ++ root ∷ [])) (sym (shape at)) (behind (places child at) (place plan at ∷ []) xs (root ∷ []) is tt)

  over_two : (left right : PlainPlan) (xs ys : Standing) → HasTwo plan left right → Covers (places left (lefts left at)) xs → Covers (places right (rights left at)) ys
      → Covers (places plan at) (xs ++ (ys ++ root ∷ []))
  over_two left right xs ys shape first second =
      subst (λ ps. Covers ps (xs ++ (ys ++ root ∷ []))) (sym (shape at))
      (behind (places left (lefts left at)) _ xs _ first (behind (places right (rights left at)) (place plan at ∷ []) ys (root ∷ []) second tt))

  over_tail : (child : PlainPlan) (xs : Standing) → HasTail plan child → Covers (places child (tail_cuts plan at)) xs → Covers (places plan at) (before_tail plan ++ (xs ++ root ∷ []))
  over_tail child xs shape is =
      subst (λ ps. Covers ps (before_tail plan ++ (xs ++ root ∷ []))) (sym (shape at))
      (behind (places_before plan at) _ (before_tail plan) _ (none_before plan at) (behind (places child (tail_cuts plan at)) (place plan at ∷ []) xs (root ∷ []) is tt))

mutual
  pub tree_covers : (r : PlainRewriting) (at : Cuts) → IsFormed r → Covers (places (plan_at r) at) (standing_of r)
  tree_covers (Node plan cuts way) at is = way_covers way plan at (Node plan cuts way ∷ []) (formed.formed_way plan cuts way is)

  pub way_covers : (way : PlainWay) (plan : PlainPlan) (at : Cuts) (root : List PlainRewriting) → IsFormedWay plan way → Covers (places plan at) (standing_in plan way root)
  way_covers tree.Scan plan at root is = over_scan plan at root is.1
  way_covers (One r) plan at root is =
      let of = formed.one_input plan r is in over_one plan at root (plan_at r) (standing_of r) of.shape (tree_covers r at of.input)
  way_covers (Two l r) plan at root is =
      let of = formed.two_inputs plan l r is in
      over_two plan at root (plan_at l) (plan_at r) (standing_of l) (standing_of r) of.shape (tree_covers l (lefts (plan_at l) at) of.left) (tree_covers r (rights (plan_at l) at) of.right)
  way_covers (Read hit) plan at root is = no_trees plan at
  way_covers (Tail hit d) plan at root is =
      let of = formed.tail_input plan hit d is in over_tail plan at root (delta_plan d) (standing_of_delta d) of.shape (delta_covers d (tail_cuts plan at) of.input)
  way_covers (LeftGrew hit d r) plan at root is =
      let of = formed.left_grown plan hit d r is in
      over_two plan at root (delta_plan d) (plan_at r) (standing_of_delta d) (standing_of r) of.shape (delta_covers d (lefts (delta_plan d) at) of.left) (tree_covers r (rights (delta_plan d) at) of.right)
  way_covers (RightGrew hit l d) plan at root is =
      let of = formed.right_grown plan hit l d is in
      over_two plan at root (plan_at l) (delta_plan d) (standing_of l) (standing_of_delta d) of.shape (tree_covers l (lefts (plan_at l) at) of.left) (delta_covers d (rights (plan_at l) at) of.right)
  way_covers (BothGrew hit l rd ld r) plan at root is =
      let of = formed.both_grown plan hit l rd ld r is in
      let left = lefts (plan_at l) at in
      let right = rights (plan_at l) at in
      over_two plan at root (plan_at l) (plan_at r) (both_standing (standing_of l) (standing_of_delta ld)) (both_standing (standing_of_delta rd) (standing_of r)) of.shape
      (together (places (plan_at l) left) (standing_of l) (standing_of_delta ld) (tree_covers l left of.of_left)
      (subst (λ q. Covers (places q left) (standing_of_delta ld)) of.same_left (delta_covers ld left of.of_left_delta)))
      (together (places (plan_at r) right) (standing_of_delta rd) (standing_of r)
      (subst (λ q. Covers (places q right) (standing_of_delta rd)) of.same_right (delta_covers rd right of.of_right_delta)) (tree_covers r right of.of_right))

  pub delta_covers : (d : PlainDelta) (at : Cuts) → IsFormedDelta d → Covers (places (delta_plan d) at) (standing_of_delta d)
  delta_covers (Change plan old new way) at is = delta_way_covers way plan old new at is

  delta_way_covers : (way : PlainDeltaWay) (plan : PlainPlan) (old new at : Cuts) → IsFormedDelta (Change plan old new way) → Covers (places plan at) (standing_in_delta plan way)
  delta_way_covers Unchanged plan old new at is = no_trees plan at
  delta_way_covers NewRows plan old new at is = no_trees plan at
  delta_way_covers (OfChild d) plan old new at is =
      let of = formed.child_input plan old new d is in over_tail plan at [] (delta_plan d) (standing_of_delta d) of.shape (delta_covers d (tail_cuts plan at) of.input)
  delta_way_covers (OfDistinct r d) plan old new at is =
      let of = formed.distinct_inputs plan old new r d is in
      together (places plan at) (standing_of r) (standing_of_delta d ++ [] ∷ []) (subst (λ q. Covers (places q at) (standing_of r)) of.same (tree_covers r at of.of_old))
      (over_one plan at [] (delta_plan d) (standing_of_delta d) of.shape (delta_covers d at of.of_child))
  delta_way_covers (OfJoin d r) plan old new at is =
      let of = formed.join_inputs plan old new d r is in
      over_two plan at [] (delta_plan d) (plan_at r) (standing_of_delta d) (standing_of r) of.shape (delta_covers d (lefts (delta_plan d) at) of.left) (tree_covers r (rights (delta_plan d) at) of.right)
