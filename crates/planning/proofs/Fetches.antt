-- A fetch of the plan of a program.
use Rattle.std.proofs.Common.{◌≡◌, refl, sym, ap, subst, ℕ, ◌<◌, ◌≤◌, nat_le, Bool, true, false, cond, List, length, Option, Some, Result, Ok, Err, arith}
use Rattle.std.proofs.lemmas.Bool.Decides.{nat_tests}
use Rattle.rows_core.specs.declared.cut.Cut.{Cut}
use Rattle.rows_core.specs.declared.schema.Column.{Column}
use Rattle.plan_core.specs.Nesting.{node_count, expr_count}
use Rattle.plan_core.specs.PlainPlan.{PlainPlan, leaves}
use Rattle.plan_text.specs.Counts.{IsWithinLimits}
use Rattle.plan_text.specs.PlainNamed.{PlainTree}
use Rattle.plan_binder.specs.Binding.{Names, binding}
use Rattle.catalog_types.specs.declared.program.Program.{Program}
use Rattle.catalog_core.specs.Programs.{names_of, columns_of, AreCuts}
use Rattle.catalog_core.specs.Stored.{IsStoredPlan}
use Rattle.catalog_core.specs.Table.{Table}
use Rattle.rows_core.specs.Limits.{most_ticks}
use Rattle.catalog_core.specs.declared.stored.StoredPlan.{StoredPlan}
use Rattle.script_text.specs.declared.answer.LimitKind.TheVariants as limit
use Rattle.script_text.specs.declared.answer.Refusal.{Refusal}
use Rattle.script_text.specs.declared.answer.Refusal.TheVariants.{Limit}
use Rattle.planning.specs.Fetching.{IsFetchOf, IsFetchOfAny, fetched_cuts}
use Rattle.planning.specs.Running.{Target, IsPlanned}
use Rattle.planning.proofs.Stored.{are_cuts}

-- whether as many commands are recorded as may be
full : (ticks : ℕ) → most_ticks ≤ ticks → nat_le most_ticks ticks ≡ true
full ticks most = by (nat_le most_ticks ticks) refl
  where
    by : (b : Bool) → nat_le most_ticks ticks ≡ b → b ≡ true
    by true is = refl
    by false is = absurd (grind (arith, nat_tests))

pub not_full : (ticks : ℕ) → ticks < most_ticks → nat_le most_ticks ticks ≡ false
not_full ticks low = by (nat_le most_ticks ticks) refl
  where
    by : (b : Bool) → nat_le most_ticks ticks ≡ b → b ≡ false
    by true is = absurd (grind (arith, nat_tests))
    by false is = refl

-- bound plans of written plans within the limits are within them
abbrev pub HaveLimits : Type 0
HaveLimits = (streams : Names) (schemas : List (List Column)) (tree : PlainTree) (plan : PlainPlan) → binding streams schemas tree ≡ Ok plan → IsWithinLimits tree
    → (node_count plan ≤ 40) × (expr_count plan ≤ 512) × (length (leaves plan) ≤ 9)

module _ (t : Table) (program : Program) (stored : StoredPlan) (is : IsStoredPlan t program stored) (as_run : Bool) where
  abbrev pub target : Target
  target = record { plan = stored.typed.plan; cuts = fetched_cuts as_run t.streams program stored.typed.plan }

  pub is_full : most_ticks ≤ t.tick → IsFetchOf t as_run program (Err (Limit limit.Commands))
  is_full most = record {
    plan = stored.typed.plan;
    is_plan = is.is_plan;
    planned_is = sym (ap (λ b. cond b (Err (Limit limit.Commands)) (Ok target)) (full t.tick most));
  }

  pub is_fetch : t.tick < most_ticks → IsFetchOf t as_run program (Ok target)
  is_fetch low = record {
    plan = stored.typed.plan;
    is_plan = is.is_plan;
    planned_is = sym (ap (λ b. cond b (Err (Limit limit.Commands)) (Ok target)) (not_full t.tick low));
  }

  their_cuts : AreCuts t.streams (leaves stored.typed.plan) target.cuts
  their_cuts = by as_run
    where
      by : (b : Bool) → AreCuts t.streams (leaves stored.typed.plan) (fetched_cuts b t.streams program stored.typed.plan)
      by true = is.are_cuts
      by false = are_cuts t.streams (leaves stored.typed.plan)

  pub is_planned : HaveLimits → (cuts : List Cut) → cuts ≡ target.cuts → t.tick < most_ticks → IsPlanned t target stored.typed cuts
  is_planned limits cuts same low =
      let within = limits (names_of t.streams) (columns_of t.streams) is.is_plan.tree stored.typed.plan is.is_plan.bound is.is_plan.canonical.1 in
      record {
        typed_at = record {
          plan = refl;
          over = is.typed;
          cuts_are = same;
          are_cuts = subst (AreCuts t.streams (leaves stored.typed.plan)) (sym same) their_cuts;
          nodes = within.0;
          exprs = within.1;
          few_leaves = within.2;
        };
        counted = low;
      }

-- what is found by the name is the program of the fetch
module _ (t : Table) (name : List ℕ) (as_run : Bool) (found : Option Program) (program : Program) (same : found ≡ Some program) where
  pub of_found : (planned : Result Target Refusal) → IsFetchOf t as_run program planned → IsFetchOfAny t name as_run found planned
  of_found planned is = subst (λ (f : Option Program). IsFetchOfAny t name as_run f planned) (sym same) is
