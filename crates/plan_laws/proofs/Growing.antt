-- What a plan of one input gives and takes in on longer lists, where its input grows.
use Rattle.std.proofs.Common.{◌≡◌, sym, ap, ◌∙◌, ℕ, ◌+◌, List, ◌++◌, length, Ok, arith, length-append, Result, Err, refl}
use Rattle.std.specs.Cmp.{IsTotalOrder}
use Rattle.rows_core.specs.declared.order.Key.{Key}
use Rattle.rows_core.specs.declared.overflow.Overflow.{Overflow}
use Rattle.rows_core.specs.RowOrder.{row_cmp}
use Rattle.scalar_ops.specs.Meaning.{overflow}
use Rattle.plan_core.specs.Columns.{Rows}
use Rattle.plan_core.specs.Distinct.{distinct_rows}
use Rattle.plan_core.specs.ExpressionValue.{◌>>=◌}
use Rattle.plan_core.specs.Filter.{filter_rows}
use Rattle.plan_core.specs.MachineTime.{row_count, rows_given, rows_taken_in}
use Rattle.plan_core.specs.PlainExpr.{PlainExpr}
use Rattle.plan_core.specs.PlainPlan.{PlainPlan, Filter, Project, Distinct, Order}
use Rattle.plan_core.specs.PlanMeaning.{plan_meaning}
use Rattle.plan_core.specs.Project.{project_rows}
use Rattle.plan_core.specs.StableOrder.{order_rows}
use Rattle.plan_laws.specs.GrowthOfRows.{Grows, joined, new_rows}
use Rattle.plan_laws.proofs.JoinedRows.{distinct_joined, filter_joined, new_to_distinct, order_joined, project_joined}

with_overflow : (rows : Result Rows Overflow) → joined rows (Err overflow) ≡ Err overflow
with_overflow (Ok rows) = refl
with_overflow (Err e) = refl

module _ (child : PlainPlan) (before after : List Rows) (old new : Rows) (more : ℕ) (grows : Grows child before after old new more) where
  -- an operator over the child takes in the child's new rows beside what the child takes in
  pub takes_in_new : rows_given child after + rows_taken_in child after ≡ (rows_given child before + rows_taken_in child before) + (length new + more)
  takes_in_new =
      let gave : rows_given child before ≡ length old = ap row_count grows.gave in
      let gives : rows_given child after ≡ length (old ++ new) = ap row_count grows.gives in
      let both : length (old ++ new) ≡ length old + length new = length-append old new in
      let taken : rows_taken_in child after ≡ rows_taken_in child before + more = grows.takes_in in
      omega arith

  pub filter_grows : (test : PlainExpr) (kept more_kept : Rows) → filter_rows test old ≡ Ok kept → filter_rows test new ≡ Ok more_kept
      → Grows (Filter child test) before after kept more_kept (length new + more)
  filter_grows test kept more_kept on_old on_new = record {
    gave = ap (λ r. r >>= filter_rows test) grows.gave ∙ on_old;
    gives = ap (λ r. r >>= filter_rows test) grows.gives ∙ filter_joined test old new ∙ ap (λ r. joined r (filter_rows test new)) on_old ∙ ap (λ r. joined (Ok kept) r) on_new;
    takes_in = takes_in_new;
  }

  pub filter_fails : (test : PlainExpr) → filter_rows test new ≡ Err overflow → plan_meaning (Filter child test) after ≡ Err overflow
  filter_fails test over =
      ap (λ r. r >>= filter_rows test) grows.gives ∙ filter_joined test old new ∙ ap (joined (filter_rows test old)) over ∙ with_overflow (filter_rows test old)

  pub project_grows : (columns : List PlainExpr) (kept more_kept : Rows) → project_rows columns old ≡ Ok kept → project_rows columns new ≡ Ok more_kept
      → Grows (Project child columns) before after kept more_kept (length new + more)
  project_grows columns kept more_kept on_old on_new = record {
    gave = ap (λ r. r >>= project_rows columns) grows.gave ∙ on_old;
    gives = ap (λ r. r >>= project_rows columns) grows.gives ∙ project_joined columns old new ∙ ap (λ r. joined r (project_rows columns new)) on_old ∙ ap (λ r. joined (Ok kept) r) on_new;
    takes_in = takes_in_new;
  }

  pub project_fails : (columns : List PlainExpr) → project_rows columns new ≡ Err overflow → plan_meaning (Project child columns) after ≡ Err overflow
  project_fails columns over =
      ap (λ r. r >>= project_rows columns) grows.gives ∙ project_joined columns old new ∙ ap (joined (project_rows columns old)) over ∙ with_overflow (project_rows columns old)

  pub distinct_grows : Grows (Distinct child) before after (distinct_rows old) (new_rows (distinct_rows old) new) (length new + more)
  distinct_grows = record {
    gave = ap (λ r. r >>= λ rows. Ok (distinct_rows rows)) grows.gave;
    gives = ap (λ r. r >>= λ rows. Ok (distinct_rows rows)) grows.gives ∙ ap Ok (distinct_joined old new ∙ ap (λ l. distinct_rows old ++ l) (sym (new_to_distinct old new)));
    takes_in = takes_in_new;
  }

  module _ (keys : List Key) (total : IsTotalOrder (row_cmp keys)) where
    pub order_gives : plan_meaning (Order child keys) after ≡ Ok (order_rows keys (order_rows keys old ++ order_rows keys new))
    order_gives = ap (λ r. r >>= λ rows. Ok (order_rows keys rows)) grows.gives ∙ ap Ok (sym (order_joined keys total old new))
