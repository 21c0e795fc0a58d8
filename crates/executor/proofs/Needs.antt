-- What a plan needs so that it passes no bound, its inputs need too; and what a plan takes in, where its inputs have grown.
use Rattle.std.proofs.Common.{◌≡◌, refl, ap, ◌+◌, ◌≤◌, List, ◌++◌, length, take, drop, Ok, arith}
use Rattle.row_blob.specs.declared.kept.Kept.{Kept}
use Rattle.row_blob.specs.declared.kept.Kept.TheVariants as kept
use Rattle.plan_core.specs.Columns.{Rows}
use Rattle.plan_core.specs.Distinct.{distinct_rows}
use Rattle.plan_core.specs.ExpressionValue.{◌>>=◌}
use Rattle.plan_core.specs.Filter.{filter_rows}
use Rattle.plan_core.specs.Literals.{HasValidLiterals}
use Rattle.plan_core.specs.MachineTime.{row_count, rows_given, rows_taken_in}
use Rattle.plan_core.specs.PlainPlan.{PlainPlan, Scan, Filter, Project, Distinct, Group, Join, Concat, Order, leaf_count}
use Rattle.plan_core.specs.PlanMeaning.{plan_meaning}
use Rattle.plan_core.specs.Project.{project_rows}
use Rattle.plan_core.specs.StableOrder.{order_rows}
use Rattle.plan_laws.specs.GrowthOfGroups.{groups_of}
use Rattle.plan_laws.specs.GrowthOfRows.{Grows}
use Rattle.plan_laws.specs.KeptForm.{kept_form, tagged_from}
use Rattle.plan_laws.proofs.Growing.{takes_in_new}
use Rattle.plan_laws.proofs.GrowingTwo.{join_takes_in, concat_takes_in}
use Rattle.estimator.specs.Cuts.{Cuts}
use Rattle.rewrite_core.specs.IsRewriting.{OfOne, OfTwo, lefts, rights}
use Rattle.growth_laws.specs.Growth.{Added, Made, IsMade}
use Rattle.growth_laws.specs.KeptResults.{KeptResults}
use Rattle.growth_laws.specs.Lists.{Extents, plan_lists}
use Rattle.growth_laws.specs.Making.{taken_in_of}
use Rattle.growth_laws.proofs.AddedRows.{gave_first}
use Rattle.growth_laws.proofs.ComputedNodes.{means}
use Rattle.growth_laws.proofs.TreeParts.{left_part, right_part}
use Rattle.result_ops.specs.Bounds.{limit}
use Rattle.result_ops.specs.Steps.{taken_of_one, taken_of_two}
use Rattle.executor.specs.Passing.{IsStored, IsTyped, IsWithin}
use Rattle.executor.proofs.PlanParts.{IsTypedOver, in_one, in_two, typed_one, typed_two}

-- ---- valid literals

literals_one : (P : PlainPlan → Type 0) (plan : PlainPlan) → HasValidLiterals plan → OfOne P plan → OfOne (λ input. P input × HasValidLiterals input) plan
literals_one P (Filter child test) has is = (is, has.0)
literals_one P (Project child columns) has is = (is, has.0)
literals_one P (Distinct child) has is = (is, has)
literals_one P (Group child keys aggs) has is = (is, has)
literals_one P (Order child keys) has is = (is, has)
literals_one P (Scan stream) has is = absurd is
literals_one P (Join left right on) has is = absurd is
literals_one P (Concat left right) has is = absurd is

literals_two : (P : PlainPlan → PlainPlan → Type 0) (plan : PlainPlan) → HasValidLiterals plan → OfTwo P plan → OfTwo (λ left right. P left right × HasValidLiterals left × HasValidLiterals right) plan
literals_two P (Join left right on) has is = (is, has.0, has.1)
literals_two P (Concat left right) has is = (is, has.0, has.1)
literals_two P (Filter child test) has is = absurd is
literals_two P (Project child columns) has is = absurd is
literals_two P (Distinct child) has is = absurd is
literals_two P (Group child keys aggs) has is = absurd is
literals_two P (Order child keys) has is = absurd is
literals_two P (Scan stream) has is = absurd is

-- ---- machine times

module _ (extents : Extents) where
  module _ (child : PlainPlan) (cuts : Cuts) where
    within_input : 1 + (rows_given child (plan_lists extents child cuts) + rows_taken_in child (plan_lists extents child cuts)) ≤ limit → IsWithin extents child cuts
    within_input within = omega (arith, within)

  module _ (left right : PlainPlan) (cuts : Cuts) (within : IsWithin extents (Concat left right) cuts) where
    left_within : IsWithin extents left (lefts left cuts)
    left_within = let e = ap (rows_taken_in left) (left_part extents left right cuts) in omega (arith, within, e)

    right_within : IsWithin extents right (rights left cuts)
    right_within = let e = ap (rows_taken_in right) (right_part extents left right cuts) in omega (arith, within, e)

  within_one : (P : PlainPlan → Type 0) (cuts : Cuts) (plan : PlainPlan) → IsWithin extents plan cuts → OfOne P plan → OfOne (λ input. P input × IsWithin extents input cuts) plan
  within_one P cuts (Filter child test) within is = (is, within_input child cuts within)
  within_one P cuts (Project child columns) within is = (is, within_input child cuts within)
  within_one P cuts (Distinct child) within is = (is, within_input child cuts within)
  within_one P cuts (Group child keys aggs) within is = (is, within_input child cuts within)
  within_one P cuts (Order child keys) within is = (is, within_input child cuts within)
  within_one P cuts (Scan stream) within is = absurd is
  within_one P cuts (Join left right on) within is = absurd is
  within_one P cuts (Concat left right) within is = absurd is

  within_two : (P : PlainPlan → PlainPlan → Type 0) (cuts : Cuts) (plan : PlainPlan) → IsWithin extents plan cuts → OfTwo P plan
      → OfTwo (λ left right. P left right × IsWithin extents left (lefts left cuts) × IsWithin extents right (rights left cuts)) plan
  within_two P cuts (Join left right on) within is = (is, left_within left right cuts within, right_within left right cuts within)
  within_two P cuts (Concat left right) within is = (is, left_within left right cuts within, right_within left right cuts within)
  within_two P cuts (Filter child test) within is = absurd is
  within_two P cuts (Project child columns) within is = absurd is
  within_two P cuts (Distinct child) within is = absurd is
  within_two P cuts (Group child keys aggs) within is = absurd is
  within_two P cuts (Order child keys) within is = absurd is
  within_two P cuts (Scan stream) within is = absurd is

-- ---- all of it

module _ (extents : Extents) (results : KeptResults) where
  abbrev pub Has : PlainPlan → Type 0
  Has plan = IsStored extents results plan × IsTyped plan

  abbrev pub Needs : PlainPlan → Cuts → Type 0
  Needs plan cuts = Has plan × IsWithin extents plan cuts

  has : (plan input : PlainPlan) → Has plan → HasValidLiterals input → IsTyped input → Has input
  has plan input of literals typed = (record { valid = of.0.valid; literals = literals; within = of.0.within }, typed)

  pub needs_one : (plan : PlainPlan) (cuts : Cuts) → Needs plan cuts → (P : PlainPlan → Type 0) → OfOne P plan → OfOne (λ input. P input × Needs input cuts) plan
  needs_one plan cuts needs P is =
      in_one (λ input. ((P input × HasValidLiterals input) × IsWithin extents input cuts) × IsTypedOver needs.0.1.0 input) (λ input. P input × Needs input cuts)
      (λ input all. (all.0.0.0, (has plan input needs.0 all.0.0.1 (needs.0.1.0, all.1), all.0.1))) plan
      (typed_one needs.0.1.0 (λ input. (P input × HasValidLiterals input) × IsWithin extents input cuts) plan needs.0.1.1
      (within_one extents (λ input. P input × HasValidLiterals input) cuts plan needs.1 (literals_one P plan needs.0.0.literals is)))

  pub needs_two : (plan : PlainPlan) (cuts : Cuts) → Needs plan cuts → (P : PlainPlan → PlainPlan → Type 0) → OfTwo P plan
      → OfTwo (λ left right. P left right × Needs left (lefts left cuts) × Needs right (rights left cuts)) plan
  needs_two plan cuts needs P is =
      in_two
      (λ left right. ((P left right × HasValidLiterals left × HasValidLiterals right) × IsWithin extents left (lefts left cuts) × IsWithin extents right (rights left cuts)) × IsTypedOver needs.0.1.0 left × IsTypedOver needs.0.1.0 right)
      (λ left right. P left right × Needs left (lefts left cuts) × Needs right (rights left cuts))
      (λ left right all. (all.0.0.0, (has plan left needs.0 all.0.0.1 (needs.0.1.0, all.1), all.0.1), (has plan right needs.0 all.0.0.2 (needs.0.1.0, all.2), all.0.2))) plan
      (typed_two needs.0.1.0 (λ left right. (P left right × HasValidLiterals left × HasValidLiterals right) × IsWithin extents left (lefts left cuts) × IsWithin extents right (rights left cuts)) plan needs.0.1.1
      (within_two extents (λ left right. P left right × HasValidLiterals left × HasValidLiterals right) cuts plan needs.1 (literals_two P plan needs.0.0.literals is)))

-- ---- the lists of the inputs

module _ (extents : Extents) where
  pub lists_one : (P : PlainPlan → Type 0) (plan : PlainPlan) → OfOne P plan → OfOne (λ input. P input × ((cuts : Cuts) → plan_lists extents plan cuts ≡ plan_lists extents input cuts)) plan
  lists_one P (Filter child test) is = (is, λ cuts. refl)
  lists_one P (Project child columns) is = (is, λ cuts. refl)
  lists_one P (Distinct child) is = (is, λ cuts. refl)
  lists_one P (Group child keys aggs) is = (is, λ cuts. refl)
  lists_one P (Order child keys) is = (is, λ cuts. refl)
  lists_one P (Scan stream) is = absurd is
  lists_one P (Join left right on) is = absurd is
  lists_one P (Concat left right) is = absurd is

  -- those of both
  pub record AreLists (plan left right : PlainPlan) : Type 0 where
    pub first : (cuts : Cuts) → take (leaf_count left) (plan_lists extents plan cuts) ≡ plan_lists extents left (lefts left cuts)
    pub second : (cuts : Cuts) → drop (leaf_count left) (plan_lists extents plan cuts) ≡ plan_lists extents right (rights left cuts)

  pub lists_two : (P : PlainPlan → PlainPlan → Type 0) (plan : PlainPlan) → OfTwo P plan → OfTwo (λ left right. P left right × AreLists plan left right) plan
  lists_two P (Join left right on) is = (is, record { first = left_part extents left right; second = right_part extents left right })
  lists_two P (Concat left right) is = (is, record { first = left_part extents left right; second = right_part extents left right })
  lists_two P (Filter child test) is = absurd is
  lists_two P (Project child columns) is = absurd is
  lists_two P (Distinct child) is = absurd is
  lists_two P (Group child keys aggs) is = absurd is
  lists_two P (Order child keys) is = absurd is
  lists_two P (Scan stream) is = absurd is

-- ---- what the inputs gave

abbrev pub Gave : PlainPlan → List Rows → Type 0
Gave plan lists = (rows : Rows) × (plan_meaning plan lists ≡ Ok rows)

pub gave_one : (P : PlainPlan → Type 0) (plan : PlainPlan) (lists : List Rows) (form : Kept) → kept_form plan lists ≡ Ok form → OfOne P plan → OfOne (λ input. P input × Gave input lists) plan
gave_one P (Filter child test) lists form gave is =
    let r = gave_first (plan_meaning (Filter child test) lists) (λ rows. Ok (kept.Rows rows)) form gave in
    let below = gave_first (plan_meaning child lists) (filter_rows test) r.0 r.1 in (is, (below.0, below.1))
gave_one P (Project child columns) lists form gave is =
    let r = gave_first (plan_meaning (Project child columns) lists) (λ rows. Ok (kept.Rows rows)) form gave in
    let below = gave_first (plan_meaning child lists) (project_rows columns) r.0 r.1 in (is, (below.0, below.1))
gave_one P (Distinct child) lists form gave is =
    let r = gave_first (plan_meaning (Distinct child) lists) (λ rows. Ok (kept.Rows rows)) form gave in
    let below = gave_first (plan_meaning child lists) (λ rows. Ok (distinct_rows rows)) r.0 r.1 in (is, (below.0, below.1))
gave_one P (Order child keys) lists form gave is =
    let r = gave_first (plan_meaning (Order child keys) lists) (λ rows. Ok (kept.Rows rows)) form gave in
    let below = gave_first (plan_meaning child lists) (λ rows. Ok (order_rows keys rows)) r.0 r.1 in (is, (below.0, below.1))
gave_one P (Group child keys aggs) lists form gave is =
    let below = gave_first (plan_meaning child lists) (λ rows. Ok (kept.Groups (groups_of keys aggs rows))) form gave in (is, (below.0, below.1))
gave_one P (Scan stream) lists form gave is = absurd is
gave_one P (Join left right on) lists form gave is = absurd is
gave_one P (Concat left right) lists form gave is = absurd is

pub gave_two : (P : PlainPlan → PlainPlan → Type 0) (plan : PlainPlan) (lists : List Rows) (form : Kept) → kept_form plan lists ≡ Ok form → OfTwo P plan
    → OfTwo (λ left right. P left right × Gave left (take (leaf_count left) lists) × Gave right (drop (leaf_count left) lists)) plan
gave_two P (Join left right on) lists form gave is =
    let l = gave_first (plan_meaning left (take (leaf_count left) lists)) (λ l. plan_meaning right (drop (leaf_count left) lists) >>= λ r. Ok (kept.Tagged (length l) (tagged_from 0 on l r))) form gave in
    let r = gave_first (plan_meaning right (drop (leaf_count left) lists)) (λ r. Ok (kept.Tagged (length l.0) (tagged_from 0 on l.0 r))) form l.2 in
    (is, (l.0, l.1), (r.0, r.1))
gave_two P (Concat left right) lists form gave is =
    let both = gave_first (plan_meaning (Concat left right) lists) (λ rows. Ok (kept.Rows rows)) form gave in
    let l = gave_first (plan_meaning left (take (leaf_count left) lists)) (λ l. plan_meaning right (drop (leaf_count left) lists) >>= λ r. Ok (l ++ r)) both.0 both.1 in
    let r = gave_first (plan_meaning right (drop (leaf_count left) lists)) (λ r. Ok (l.0 ++ r)) both.0 l.2 in
    (is, (l.0, l.1), (r.0, r.1))
gave_two P (Filter child test) lists form gave is = absurd is
gave_two P (Project child columns) lists form gave is = absurd is
gave_two P (Distinct child) lists form gave is = absurd is
gave_two P (Group child keys aggs) lists form gave is = absurd is
gave_two P (Order child keys) lists form gave is = absurd is
gave_two P (Scan stream) lists form gave is = absurd is

-- ---- what a plan takes in

taken : (input : PlainPlan) (lists : List Rows) (made : Made) → IsMade input lists (Ok made) → rows_given input lists + rows_taken_in input lists ≡ taken_of_one made
taken input lists made is = let rows = means input lists made is in λ i. row_count (rows i) + is.1 i

-- of a computed input
pub taken_one : (plan : PlainPlan) (lists : List Rows) (made : Made) → OfOne (λ input. IsMade input lists (Ok made)) plan → rows_taken_in plan lists ≡ taken_of_one made
taken_one (Filter child test) lists made is = taken child lists made is
taken_one (Project child columns) lists made is = taken child lists made is
taken_one (Distinct child) lists made is = taken child lists made is
taken_one (Group child keys aggs) lists made is = taken child lists made is
taken_one (Order child keys) lists made is = taken child lists made is
taken_one (Scan stream) lists made is = absurd is
taken_one (Join left right on) lists made is = absurd is
taken_one (Concat left right) lists made is = absurd is

pub taken_two : (plan : PlainPlan) (lists : List Rows) (a b : Made) → OfTwo (λ left right. IsMade left (take (leaf_count left) lists) (Ok a) × IsMade right (drop (leaf_count left) lists) (Ok b)) plan
    → rows_taken_in plan lists ≡ taken_of_two a b
taken_two (Join left right on) lists a b is = let first = taken left _ a is.0 in let second = taken right _ b is.1 in λ i. first i + second i
taken_two (Concat left right) lists a b is = let first = taken left _ a is.0 in let second = taken right _ b is.1 in λ i. first i + second i
taken_two (Filter child test) lists a b is = absurd is
taken_two (Project child columns) lists a b is = absurd is
taken_two (Distinct child) lists a b is = absurd is
taken_two (Group child keys aggs) lists a b is = absurd is
taken_two (Order child keys) lists a b is = absurd is
taken_two (Scan stream) lists a b is = absurd is

-- of a grown one
abbrev pub GrowsBy : PlainPlan → List Rows → List Rows → Added → Type 0
GrowsBy plan before after added = (rows : Rows) × Grows plan before after rows added.rows added.taken_in

module _ (before after : List Rows) where
  more : (child : PlainPlan) (added : Added) → GrowsBy child before after added → rows_given child after + rows_taken_in child after ≡ (rows_given child before + rows_taken_in child before) + taken_in_of added
  more child added grows = takes_in_new child before after grows.0 added.rows added.taken_in grows.1

  pub more_one : (plan : PlainPlan) (added : Added) → OfOne (λ input. GrowsBy input before after added) plan → rows_taken_in plan after ≡ rows_taken_in plan before + taken_in_of added
  more_one (Filter child test) added is = more child added is
  more_one (Project child columns) added is = more child added is
  more_one (Distinct child) added is = more child added is
  more_one (Group child keys aggs) added is = more child added is
  more_one (Order child keys) added is = more child added is
  more_one (Scan stream) added is = absurd is
  more_one (Join left right on) added is = absurd is
  more_one (Concat left right) added is = absurd is

  pub more_two : (plan : PlainPlan) (a b : Added)
      → OfTwo (λ left right. GrowsBy left (take (leaf_count left) before) (take (leaf_count left) after) a × GrowsBy right (drop (leaf_count left) before) (drop (leaf_count left) after) b) plan
      → rows_taken_in plan after ≡ rows_taken_in plan before + (taken_in_of a + taken_in_of b)
  more_two (Join left right on) a b is = join_takes_in left right before after is.0.0 a.rows is.1.0 b.rows a.taken_in b.taken_in is.0.1 is.1.1 on
  more_two (Concat left right) a b is = concat_takes_in left right before after is.0.0 a.rows is.1.0 b.rows a.taken_in b.taken_in is.0.1 is.1.1
  more_two (Filter child test) a b is = absurd is
  more_two (Project child columns) a b is = absurd is
  more_two (Distinct child) a b is = absurd is
  more_two (Group child keys aggs) a b is = absurd is
  more_two (Order child keys) a b is = absurd is
  more_two (Scan stream) a b is = absurd is
