-- The parts of a tree, and the lists on which they are made.
use Rattle.std.proofs.Common.{◌≡◌, sym, ap, ◌∙◌, subst, ℕ, zero, suc, List, [], ◌∷◌, take, drop, Result, Ok, arith}
use Rattle.rows_core.specs.declared.overflow.Overflow.{Overflow}
use Rattle.plan_core.specs.Columns.{Rows}
use Rattle.plan_core.specs.PlainPlan.{PlainPlan, Scan, Filter, Project, Distinct, Group, Join, Concat, Order, leaves, leaf_count}
use Rattle.estimator.specs.Cuts.{Cuts, AreIntervals, added_cut, added_cuts}
use Rattle.rewrite_core.specs.IsRewriting.{OfOne, OfTwo, OfTail, OfDeltaTail, OfDistinctChild, IsScan, IsLonger, lefts, rights}
use Rattle.growth_laws.specs.Growth.{Added, Made, Extends, IsMade, OfGrownInput, OfPassedInput}
use Rattle.growth_laws.specs.Lists.{Extents, extents_of, interval_rows, plan_lists}
use Rattle.growth_laws.specs.Making.{new_extents}
use Rattle.growth_laws.proofs.AddedRows.{scan_grows}
use Rattle.growth_laws.proofs.LeafLists.{left_lists, right_lists, longer_interval}

pub first_intervals : (n : ℕ) (cuts : Cuts) → AreIntervals cuts → AreIntervals (take n cuts)
first_intervals zero cuts are = tt
first_intervals (suc n) [] are = tt
first_intervals (suc n) (cut ∷ cuts) are = (are.0, first_intervals n cuts are.1)

pub other_intervals : (n : ℕ) (cuts : Cuts) → AreIntervals cuts → AreIntervals (drop n cuts)
other_intervals zero cuts are = are
other_intervals (suc n) [] are = tt
other_intervals (suc n) (cut ∷ cuts) are = other_intervals n cuts are.1

module _ (extents : Extents) where
  -- ---- two inputs

  module _ (left right : PlainPlan) where
    -- the lists of both
    abbrev both_lists : Cuts → List Rows
    both_lists cuts = plan_lists extents (Concat left right) cuts

    pub left_part : (cuts : Cuts) → take (leaf_count left) (both_lists cuts) ≡ plan_lists extents left (lefts left cuts)
    left_part = left_lists extents (leaves left) (leaves right)

    pub right_part : (cuts : Cuts) → drop (leaf_count left) (both_lists cuts) ≡ plan_lists extents right (rights left cuts)
    right_part = right_lists extents (leaves left) (leaves right)

    pub same_left : (old new : Cuts) → lefts left old ≡ lefts left new → take (leaf_count left) (both_lists old) ≡ take (leaf_count left) (both_lists new)
    same_left old new same = left_part old ∙ ap (plan_lists extents left) same ∙ sym (left_part new)

    pub same_right : (old new : Cuts) → rights left old ≡ rights left new → drop (leaf_count left) (both_lists old) ≡ drop (leaf_count left) (both_lists new)
    same_right old new same = right_part old ∙ ap (plan_lists extents right) same ∙ sym (right_part new)

    pub left_made : (cuts : Cuts) (given : Result Made Overflow) → IsMade left (plan_lists extents left (lefts left cuts)) given → IsMade left (take (leaf_count left) (both_lists cuts)) given
    left_made cuts given is = subst (λ lists. IsMade left lists given) (sym (left_part cuts)) is

    pub right_made : (cuts : Cuts) (given : Result Made Overflow) → IsMade right (plan_lists extents right (rights left cuts)) given → IsMade right (drop (leaf_count left) (both_lists cuts)) given
    right_made cuts given is = subst (λ lists. IsMade right lists given) (sym (right_part cuts)) is

    pub left_extends : (old new : Cuts) (given : Result Added Overflow) → Extends left (plan_lists extents left (lefts left old)) (plan_lists extents left (lefts left new)) given
        → Extends left (take (leaf_count left) (both_lists old)) (take (leaf_count left) (both_lists new)) given
    left_extends old new given is =
        subst (λ before. Extends left before (take (leaf_count left) (both_lists new)) given) (sym (left_part old))
        (subst (λ after. Extends left (plan_lists extents left (lefts left old)) after given) (sym (left_part new)) is)

    pub right_extends : (old new : Cuts) (given : Result Added Overflow) → Extends right (plan_lists extents right (rights left old)) (plan_lists extents right (rights left new)) given
        → Extends right (drop (leaf_count left) (both_lists old)) (drop (leaf_count left) (both_lists new)) given
    right_extends old new given is =
        subst (λ before. Extends right before (drop (leaf_count left) (both_lists new)) given) (sym (right_part old))
        (subst (λ after. Extends right (plan_lists extents right (rights left old)) after given) (sym (right_part new)) is)

  -- ---- by the plan

  module _ (P : PlainPlan → Type 0) (cuts : Cuts) (given : Result Made Overflow) (makes : (input : PlainPlan) → P input → IsMade input (plan_lists extents input cuts) given) where
    pub of_one : (plan : PlainPlan) → OfOne P plan → OfOne (λ input. IsMade input (plan_lists extents plan cuts) given) plan
    of_one (Filter child test) is = makes child is
    of_one (Project child columns) is = makes child is
    of_one (Distinct child) is = makes child is
    of_one (Group child keys aggs) is = makes child is
    of_one (Order child keys) is = makes child is
    of_one (Scan stream) is = absurd is
    of_one (Join left right on) is = absurd is
    of_one (Concat left right) is = absurd is

  module _ (P : PlainPlan → Cuts → Type 0) (cuts : Cuts) (a : Result Made Overflow) (makes : (input : PlainPlan) (part : Cuts) → P input part → IsMade input (plan_lists extents input part) a)
      (Q : PlainPlan → Cuts → Type 0) (b : Result Made Overflow) (makes_other : (input : PlainPlan) (part : Cuts) → Q input part → IsMade input (plan_lists extents input part) b) where
    pub of_two : (plan : PlainPlan) → OfTwo (λ left right. P left (lefts left cuts) × Q right (rights left cuts)) plan
        → OfTwo (λ left right. IsMade left (take (leaf_count left) (plan_lists extents plan cuts)) a × IsMade right (drop (leaf_count left) (plan_lists extents plan cuts)) b) plan
    of_two (Join left right on) is = (left_made left right cuts a (makes left (lefts left cuts) is.0), right_made left right cuts b (makes_other right (rights left cuts) is.1))
    of_two (Concat left right) is = (left_made left right cuts a (makes left (lefts left cuts) is.0), right_made left right cuts b (makes_other right (rights left cuts) is.1))
    of_two (Scan stream) is = absurd is
    of_two (Filter child test) is = absurd is
    of_two (Project child columns) is = absurd is
    of_two (Distinct child) is = absurd is
    of_two (Group child keys aggs) is = absurd is
    of_two (Order child keys) is = absurd is

  module _ (P : PlainPlan → Cuts → Cuts → Type 0) (given : Result Added Overflow)
      (extends : (input : PlainPlan) (old new : Cuts) → AreIntervals old → P input old new → Extends input (plan_lists extents input old) (plan_lists extents input new) given)
      (old new : Cuts) (are : AreIntervals old) where
    pub of_tail : (plan : PlainPlan) → OfTail P plan old new → OfGrownInput (λ input before after. Extends input before after given) plan (plan_lists extents plan old) (plan_lists extents plan new)
    of_tail (Filter child test) is = extends child old new are is
    of_tail (Project child columns) is = extends child old new are is
    of_tail (Distinct child) is = extends child old new are is
    of_tail (Group child keys aggs) is = extends child old new are is
    of_tail (Order child keys) is = extends child old new are is
    of_tail (Concat left right) is =
        (same_left left right old new is.0, right_extends left right old new given (extends right (rights left old) (rights left new) (other_intervals (leaf_count left) old are) is.1))
    of_tail (Scan stream) is = absurd is
    of_tail (Join left right on) is = absurd is

    pub of_delta_tail : (plan : PlainPlan) → OfDeltaTail P plan old new → OfPassedInput (λ input before after. Extends input before after given) plan (plan_lists extents plan old) (plan_lists extents plan new)
    of_delta_tail (Filter child test) is = extends child old new are is
    of_delta_tail (Project child columns) is = extends child old new are is
    of_delta_tail (Concat left right) is =
        (same_left left right old new is.0, right_extends left right old new given (extends right (rights left old) (rights left new) (other_intervals (leaf_count left) old are) is.1))
    of_delta_tail (Scan stream) is = absurd is
    of_delta_tail (Distinct child) is = absurd is
    of_delta_tail (Group child keys aggs) is = absurd is
    of_delta_tail (Join left right on) is = absurd is
    of_delta_tail (Order child keys) is = absurd is

    pub of_distinct : (plan : PlainPlan) → OfDistinctChild (λ child. P child old new) plan → OfDistinctChild (λ child. Extends child (plan_lists extents plan old) (plan_lists extents plan new) given) plan
    of_distinct (Distinct child) is = extends child old new are is
    of_distinct (Scan stream) is = absurd is
    of_distinct (Filter child test) is = absurd is
    of_distinct (Project child columns) is = absurd is
    of_distinct (Group child keys aggs) is = absurd is
    of_distinct (Join left right on) is = absurd is
    of_distinct (Concat left right) is = absurd is
    of_distinct (Order child keys) is = absurd is

  -- ---- a scan whose extents grew

  pub scan_added : (plan : PlainPlan) (old new : Cuts) → AreIntervals old → IsScan plan → IsLonger old new
      → Extends plan (plan_lists extents plan old) (plan_lists extents plan new) (Ok (new_extents (plan_lists extents plan (added_cuts old new))))
  scan_added (Scan stream) (o ∷ []) (n ∷ []) are is longer =
      subst (λ rows. Extends (Scan stream) (interval_rows (extents_of extents stream) o ∷ []) (rows ∷ []) (Ok (new_extents (interval_rows (extents_of extents stream) (added_cut o n) ∷ []))))
      (sym (longer_interval (extents_of extents stream) o n longer.0 are.0 (omega (arith, longer.1))))
      (scan_grows stream (interval_rows (extents_of extents stream) o) (interval_rows (extents_of extents stream) (added_cut o n)))
  scan_added (Scan stream) [] new are is longer = absurd longer
  scan_added (Scan stream) (o ∷ []) [] are is longer = absurd longer
  scan_added (Scan stream) (o ∷ []) (n ∷ m ∷ ms) are is longer = absurd longer
  scan_added (Scan stream) (o ∷ p ∷ ps) new are is longer = absurd longer
  scan_added (Filter child test) old new are is longer = absurd is
  scan_added (Project child columns) old new are is longer = absurd is
  scan_added (Distinct child) old new are is longer = absurd is
  scan_added (Group child keys aggs) old new are is longer = absurd is
  scan_added (Join left right on) old new are is longer = absurd is
  scan_added (Concat left right) old new are is longer = absurd is
  scan_added (Order child keys) old new are is longer = absurd is
