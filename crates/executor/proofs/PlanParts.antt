-- What holds of the inputs of a plan.
use Rattle.std.proofs.Common.{◌≡◌, ◌⊎◌, inl, inr, List, IsSome}
use Rattle.plan_core.specs.PlainPlan.{PlainPlan, Scan, Filter, Project, Distinct, Group, Join, Concat, Order}
use Rattle.plan_core.specs.PlanTyping.{Kinds, plan_kinds, filter_kinds, project_kinds, group_kinds, join_kinds, concat_kinds, order_kinds}
use Rattle.estimator.specs.Cuts.{Cuts}
use Rattle.rewrite_core.specs.IsRewriting.{OfOne, OfTwo, OfSides, OfTail, OfDeltaTail, OfDistinctChild, lefts, rights}
use Rattle.growth_laws.proofs.TreeOwners.{from_one, from_two}
use Rattle.result_ops.specs.Fitting.{OfPassed, OfGrown}
use Rattle.executor.proofs.Typings.{some_first, some_both}

-- ---- of each input

module _ (P Q : PlainPlan → Type 0) (f : (input : PlainPlan) → P input → Q input) where
  pub in_one : (plan : PlainPlan) → OfOne P plan → OfOne Q plan
  in_one (Filter child test) is = f child is
  in_one (Project child columns) is = f child is
  in_one (Distinct child) is = f child is
  in_one (Group child keys aggs) is = f child is
  in_one (Order child keys) is = f child is
  in_one (Scan stream) is = absurd is
  in_one (Join left right on) is = absurd is
  in_one (Concat left right) is = absurd is

  pub in_distinct : (plan : PlainPlan) → OfDistinctChild P plan → OfDistinctChild Q plan
  in_distinct (Distinct child) is = f child is
  in_distinct (Filter child test) is = absurd is
  in_distinct (Project child columns) is = absurd is
  in_distinct (Group child keys aggs) is = absurd is
  in_distinct (Order child keys) is = absurd is
  in_distinct (Scan stream) is = absurd is
  in_distinct (Join left right on) is = absurd is
  in_distinct (Concat left right) is = absurd is

module _ (P Q : PlainPlan → PlainPlan → Type 0) (f : (left right : PlainPlan) → P left right → Q left right) where
  pub in_two : (plan : PlainPlan) → OfTwo P plan → OfTwo Q plan
  in_two (Join left right on) is = f left right is
  in_two (Concat left right) is = f left right is
  in_two (Filter child test) is = absurd is
  in_two (Project child columns) is = absurd is
  in_two (Distinct child) is = absurd is
  in_two (Group child keys aggs) is = absurd is
  in_two (Order child keys) is = absurd is
  in_two (Scan stream) is = absurd is

  pub in_sides : (plan : PlainPlan) → OfSides P plan → OfSides Q plan
  in_sides (Join left right on) is = f left right is
  in_sides (Concat left right) is = absurd is
  in_sides (Filter child test) is = absurd is
  in_sides (Project child columns) is = absurd is
  in_sides (Distinct child) is = absurd is
  in_sides (Group child keys aggs) is = absurd is
  in_sides (Order child keys) is = absurd is
  in_sides (Scan stream) is = absurd is

-- of the input whose rows came
module _ (P : PlainPlan → Cuts → Cuts → Type 0) (Q : PlainPlan → Type 0) (old new : Cuts) (f : (input : PlainPlan) (o n : Cuts) → P input o n → Q input) where
  pub in_grown : (plan : PlainPlan) → OfTail P plan old new → OfGrown Q plan
  in_grown (Filter child test) is = f child old new is
  in_grown (Project child columns) is = f child old new is
  in_grown (Distinct child) is = f child old new is
  in_grown (Group child keys aggs) is = f child old new is
  in_grown (Order child keys) is = f child old new is
  in_grown (Concat left right) is = f right (rights left old) (rights left new) is.1
  in_grown (Scan stream) is = absurd is
  in_grown (Join left right on) is = absurd is

  pub in_passed : (plan : PlainPlan) → OfDeltaTail P plan old new → OfPassed Q plan
  in_passed (Filter child test) is = f child old new is
  in_passed (Project child columns) is = f child old new is
  in_passed (Concat left right) is = f right (rights left old) (rights left new) is.1
  in_passed (Distinct child) is = absurd is
  in_passed (Group child keys aggs) is = absurd is
  in_passed (Order child keys) is = absurd is
  in_passed (Scan stream) is = absurd is
  in_passed (Join left right on) is = absurd is

-- ---- as of one input, or of two

pub distinct_as_one : (P : PlainPlan → Type 0) (plan : PlainPlan) → OfDistinctChild P plan → OfOne P plan
distinct_as_one P (Distinct child) is = is
distinct_as_one P (Filter child test) is = absurd is
distinct_as_one P (Project child columns) is = absurd is
distinct_as_one P (Group child keys aggs) is = absurd is
distinct_as_one P (Order child keys) is = absurd is
distinct_as_one P (Scan stream) is = absurd is
distinct_as_one P (Join left right on) is = absurd is
distinct_as_one P (Concat left right) is = absurd is

pub sides_as_two : (P : PlainPlan → PlainPlan → Type 0) (plan : PlainPlan) → OfSides P plan → OfTwo P plan
sides_as_two P (Join left right on) is = is
sides_as_two P (Concat left right) is = absurd is
sides_as_two P (Filter child test) is = absurd is
sides_as_two P (Project child columns) is = absurd is
sides_as_two P (Distinct child) is = absurd is
sides_as_two P (Group child keys aggs) is = absurd is
sides_as_two P (Order child keys) is = absurd is
sides_as_two P (Scan stream) is = absurd is

module _ (P : PlainPlan → Cuts → Cuts → Type 0) (old new : Cuts) where
  -- of the one input, or of the right one, whose left one is unchanged
  abbrev pub OfOneOrRight : PlainPlan → Type 0
  OfOneOrRight plan =
      OfOne (λ input. P input old new) plan ⊎ OfTwo (λ left right. (lefts left old ≡ lefts left new) × P right (rights left old) (rights left new)) plan

  pub tail_as : (plan : PlainPlan) → OfTail P plan old new → OfOneOrRight plan
  tail_as (Filter child test) is = inl is
  tail_as (Project child columns) is = inl is
  tail_as (Distinct child) is = inl is
  tail_as (Group child keys aggs) is = inl is
  tail_as (Order child keys) is = inl is
  tail_as (Concat left right) is = inr is
  tail_as (Scan stream) is = absurd is
  tail_as (Join left right on) is = absurd is

  pub passed_as : (plan : PlainPlan) → OfDeltaTail P plan old new → OfOneOrRight plan
  passed_as (Filter child test) is = inl is
  passed_as (Project child columns) is = inl is
  passed_as (Concat left right) is = inr is
  passed_as (Distinct child) is = absurd is
  passed_as (Group child keys aggs) is = absurd is
  passed_as (Order child keys) is = absurd is
  passed_as (Scan stream) is = absurd is
  passed_as (Join left right on) is = absurd is

-- ---- the inputs of a plan that has a typing have one

module _ (schemas : List Kinds) where
  abbrev pub IsTypedOver : PlainPlan → Type 0
  IsTypedOver plan = IsSome (plan_kinds schemas plan)

  pub typed_one : (P : PlainPlan → Type 0) (plan : PlainPlan) → IsTypedOver plan → OfOne P plan → OfOne (λ input. P input × IsTypedOver input) plan
  typed_one P (Filter child test) typed is = (is, some_first (filter_kinds test) (plan_kinds schemas child) typed)
  typed_one P (Project child columns) typed is = (is, some_first (project_kinds columns) (plan_kinds schemas child) typed)
  typed_one P (Distinct child) typed is = (is, typed)
  typed_one P (Group child keys aggs) typed is = (is, some_first (group_kinds keys aggs) (plan_kinds schemas child) typed)
  typed_one P (Order child keys) typed is = (is, some_first (order_kinds keys) (plan_kinds schemas child) typed)
  typed_one P (Scan stream) typed is = absurd is
  typed_one P (Join left right on) typed is = absurd is
  typed_one P (Concat left right) typed is = absurd is

  pub typed_two : (P : PlainPlan → PlainPlan → Type 0) (plan : PlainPlan) → IsTypedOver plan → OfTwo P plan → OfTwo (λ left right. P left right × IsTypedOver left × IsTypedOver right) plan
  typed_two P (Join left right on) typed is = let both = some_both (join_kinds on) (plan_kinds schemas left) (plan_kinds schemas right) typed in (is, both.0, both.1)
  typed_two P (Concat left right) typed is = let both = some_both concat_kinds (plan_kinds schemas left) (plan_kinds schemas right) typed in (is, both.0, both.1)
  typed_two P (Filter child test) typed is = absurd is
  typed_two P (Project child columns) typed is = absurd is
  typed_two P (Distinct child) typed is = absurd is
  typed_two P (Group child keys aggs) typed is = absurd is
  typed_two P (Order child keys) typed is = absurd is
  typed_two P (Scan stream) typed is = absurd is

  -- so what follows from a typed input follows from a typed plan
  module _ (B : Type 0) (plan : PlainPlan) (typed : IsTypedOver plan) where
    pub from_typed_one : (P : PlainPlan → Type 0) → ((input : PlainPlan) → P input → IsTypedOver input → B) → OfOne P plan → B
    from_typed_one P f is = from_one _ B (λ input all. f input all.0 all.1) plan (typed_one P plan typed is)

    pub from_typed_distinct : (P : PlainPlan → Type 0) → ((input : PlainPlan) → P input → IsTypedOver input → B) → OfDistinctChild P plan → B
    from_typed_distinct P f is = from_typed_one P f (distinct_as_one P plan is)

    pub from_typed_two : (P : PlainPlan → PlainPlan → Type 0) → ((left right : PlainPlan) → P left right → IsTypedOver left → IsTypedOver right → B) → OfTwo P plan → B
    from_typed_two P f is = from_two _ B (λ left right all. f left right all.0 all.1 all.2) plan (typed_two P plan typed is)

    pub from_typed_sides : (P : PlainPlan → PlainPlan → Type 0) → ((left right : PlainPlan) → P left right → IsTypedOver left → IsTypedOver right → B) → OfSides P plan → B
    from_typed_sides P f is = from_typed_two P f (sides_as_two P plan is)

    pub from_typed_tail : (P : PlainPlan → Cuts → Cuts → Type 0) (old new : Cuts) → ((input : PlainPlan) (o n : Cuts) → P input o n → IsTypedOver input → B) → OfOneOrRight P old new plan → B
    from_typed_tail P old new f (inl is) = from_typed_one _ (λ input is typed. f input old new is typed) is
    from_typed_tail P old new f (inr is) = from_typed_two _ (λ left right is typed also. f right (rights left old) (rights left new) is.1 also) is
