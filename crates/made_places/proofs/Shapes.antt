-- Where the places of a node's inputs stand among the places of its plan.
use Rattle.std.proofs.Common.{◌≡◌, refl, [], ◌∷◌, ◌++◌}
use Rattle.plan_core.specs.PlainPlan.{PlainPlan, Scan, Filter, Project, Distinct, Group, Join, Concat, Order}
use Rattle.estimator.specs.Cuts.{Cuts}
use Rattle.rewrite_core.specs.IsRewriting.{OfOne, OfTwo, OfSides, OfTail, OfDeltaTail, OfDistinctChild, lefts, rights}
use Rattle.growth_laws.specs.MadePlaces.{place, places}
use Rattle.made_places.specs.Marks.{tail_cuts, places_before}

-- one input
abbrev pub HasOne : PlainPlan → PlainPlan → Type 0
HasOne plan child = (at : Cuts) → places plan at ≡ places child at ++ place plan at ∷ []

-- two inputs
abbrev pub HasTwo : PlainPlan → PlainPlan → PlainPlan → Type 0
HasTwo plan left right = (at : Cuts) → places plan at ≡ places left (lefts left at) ++ (places right (rights left at) ++ place plan at ∷ [])

-- the input that a delta is of, with the places before it
abbrev pub HasTail : PlainPlan → PlainPlan → Type 0
HasTail plan child = (at : Cuts) → places plan at ≡ places_before plan at ++ (places child (tail_cuts plan at) ++ place plan at ∷ [])

module _ (Q : Type 0) where
  module _ (P : PlainPlan → Type 0) where
    pub by_one : (plan : PlainPlan) → ((child : PlainPlan) → P child → HasOne plan child → Q) → OfOne P plan → Q
    by_one (Scan stream) f is = absurd is
    by_one (Filter child test) f is = f child is (λ at. refl)
    by_one (Project child columns) f is = f child is (λ at. refl)
    by_one (Distinct child) f is = f child is (λ at. refl)
    by_one (Group child keys aggs) f is = f child is (λ at. refl)
    by_one (Join left right on) f is = absurd is
    by_one (Concat left right) f is = absurd is
    by_one (Order child keys) f is = f child is (λ at. refl)

    pub by_distinct : (plan : PlainPlan) → ((child : PlainPlan) → P child → HasOne plan child → Q) → OfDistinctChild P plan → Q
    by_distinct (Scan stream) f is = absurd is
    by_distinct (Filter child test) f is = absurd is
    by_distinct (Project child columns) f is = absurd is
    by_distinct (Distinct child) f is = f child is (λ at. refl)
    by_distinct (Group child keys aggs) f is = absurd is
    by_distinct (Join left right on) f is = absurd is
    by_distinct (Concat left right) f is = absurd is
    by_distinct (Order child keys) f is = absurd is

  module _ (P : PlainPlan → PlainPlan → Type 0) where
    pub by_two : (plan : PlainPlan) → ((left right : PlainPlan) → P left right → HasTwo plan left right → Q) → OfTwo P plan → Q
    by_two (Scan stream) f is = absurd is
    by_two (Filter child test) f is = absurd is
    by_two (Project child columns) f is = absurd is
    by_two (Distinct child) f is = absurd is
    by_two (Group child keys aggs) f is = absurd is
    by_two (Join left right on) f is = f left right is (λ at. refl)
    by_two (Concat left right) f is = f left right is (λ at. refl)
    by_two (Order child keys) f is = absurd is

    pub by_sides : (plan : PlainPlan) → ((left right : PlainPlan) → P left right → HasTwo plan left right → Q) → OfSides P plan → Q
    by_sides (Scan stream) f is = absurd is
    by_sides (Filter child test) f is = absurd is
    by_sides (Project child columns) f is = absurd is
    by_sides (Distinct child) f is = absurd is
    by_sides (Group child keys aggs) f is = absurd is
    by_sides (Join left right on) f is = f left right is (λ at. refl)
    by_sides (Concat left right) f is = absurd is
    by_sides (Order child keys) f is = absurd is

  module _ (P : PlainPlan → Cuts → Cuts → Type 0) (old new : Cuts) where
    pub by_tail : (plan : PlainPlan) → ((child : PlainPlan) (o n : Cuts) → P child o n → HasTail plan child → Q) → OfTail P plan old new → Q
    by_tail (Scan stream) f is = absurd is
    by_tail (Filter child test) f is = f child old new is (λ at. refl)
    by_tail (Project child columns) f is = f child old new is (λ at. refl)
    by_tail (Distinct child) f is = f child old new is (λ at. refl)
    by_tail (Group child keys aggs) f is = f child old new is (λ at. refl)
    by_tail (Join left right on) f is = absurd is
    by_tail (Concat left right) f is = f right (rights left old) (rights left new) is.1 (λ at. refl)
    by_tail (Order child keys) f is = f child old new is (λ at. refl)

    pub by_delta_tail : (plan : PlainPlan) → ((child : PlainPlan) (o n : Cuts) → P child o n → HasTail plan child → Q) → OfDeltaTail P plan old new → Q
    by_delta_tail (Scan stream) f is = absurd is
    by_delta_tail (Filter child test) f is = f child old new is (λ at. refl)
    by_delta_tail (Project child columns) f is = f child old new is (λ at. refl)
    by_delta_tail (Distinct child) f is = absurd is
    by_delta_tail (Group child keys aggs) f is = absurd is
    by_delta_tail (Join left right on) f is = absurd is
    by_delta_tail (Concat left right) f is = f right (rights left old) (rights left new) is.1 (λ at. refl)
    by_delta_tail (Order child keys) f is = absurd is
