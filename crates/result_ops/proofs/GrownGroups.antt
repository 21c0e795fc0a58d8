-- What is made of merged groups.
use Rattle.std.proofs.Common.{◌≡◌, sym, subst, inr, ℕ, ◌+◌, ◌<◌, List, length, Result, Ok, Err, arith}
use Rattle.row_blob.specs.declared.kept.GroupRow.{GroupRow}
use Rattle.row_blob.specs.declared.kept.Kept.TheVariants as kept
use Rattle.plan_core.specs.declared.agg.Agg.{Agg}
use Rattle.plan_core.specs.Columns.{Rows}
use Rattle.plan_core.specs.PlainPlan.{PlainPlan, Group}
use Rattle.plan_laws.specs.GrowthOfGroups.{groups_of, merged_groups}
use Rattle.growth_laws.specs.Growth as laws
use Rattle.growth_laws.specs.Making.{taken_in_of, made_of_grown}
use Rattle.result_ops.specs.declared.made.Made.{Made}
use Rattle.result_ops.specs.declared.refusal.MakeRefusal.{MakeRefusal}
use Rattle.result_ops.specs.declared.refusal.MakeRefusal.TheVariants as refusal
use Rattle.result_ops.specs.Bounds.{limit, IsBounded}
use Rattle.result_ops.specs.Steps.{MakesGrown, Merges}

grown : (child : PlainPlan) (keys : List ℕ) (aggs : List Agg) (olds : List GroupRow) (before : ℕ) (added : laws.Added) (taken_in : ℕ) (result : Result Made MakeRefusal)
    → taken_in ≡ length added.rows + (before + added.taken_in) → taken_in < limit → Merges taken_in aggs (merged_groups aggs olds (groups_of keys aggs added.rows)) result
    → MakesGrown (before + taken_in_of added) (Group child keys aggs) (made_of_grown (Group child keys aggs) (record { kept = kept.Groups olds; taken_in = before }) added) result
grown child keys aggs olds before added taken_in (Ok made) counted few (kept_is, taken_is, groups, averages) =
    let total : before + (length added.rows + added.taken_in) ≡ made.taken_in = (omega (arith, counted, taken_is)) in
    ((λ i. Ok (record { kept = sym kept_is i; taken_in = total i })), omega (arith, taken_is, few), subst (IsBounded (Group child keys aggs)) (sym kept_is) (groups, averages))
grown child keys aggs olds before added taken_in (Err refusal.Machine) counted few outside = inr (λ bounds. outside bounds)
grown child keys aggs olds before added taken_in (Err refusal.Overflow) counted few none = absurd none
grown child keys aggs olds before added taken_in (Err refusal.Memory) counted few any = tt

pub groups_grown : (child : PlainPlan) (keys : List ℕ) (aggs : List Agg) (olds : List GroupRow) (before : ℕ) (added : laws.Added) (taken_in : ℕ) (result : Result Made MakeRefusal)
    → taken_in ≡ length added.rows + (before + added.taken_in) → taken_in < limit
    → (keys_now : List ℕ) (aggs_now : List Agg) (rows_now : Rows) → keys_now ≡ keys → aggs_now ≡ aggs → rows_now ≡ added.rows
    → Merges taken_in aggs_now (merged_groups aggs_now olds (groups_of keys_now aggs_now rows_now)) result
    → MakesGrown (before + taken_in_of added) (Group child keys aggs) (made_of_grown (Group child keys aggs) (record { kept = kept.Groups olds; taken_in = before }) added) result
groups_grown child keys aggs olds before added taken_in result counted few keys_now aggs_now rows_now same_keys same_aggs same_rows merges =
    grown child keys aggs olds before added taken_in result counted few
    (subst (λ rows. Merges taken_in aggs (merged_groups aggs olds (groups_of keys aggs rows)) result) same_rows
    (subst (λ a. Merges taken_in a (merged_groups a olds (groups_of keys a rows_now)) result) same_aggs
    (subst (λ k. Merges taken_in aggs_now (merged_groups aggs_now olds (groups_of k aggs_now rows_now)) result) same_keys merges)))
