-- A program that is stored fits the table.
use Rattle.std.proofs.Common.{◌≡◌, ◌+◌, ◌*◌, ◌≤◌, ◌<◌, ℕ, Bool, true, false, cond, List, [], ◌∷◌, length, map, filter, refl, sym, subst, arith, Ok}
use Rattle.plan_core.specs.Nesting.{node_count, expr_count}
use Rattle.plan_core.specs.PlainPlan.{leaves}
use Rattle.plan_core.specs.TypedPlan.{TypedPlan, IsTypedOver}
use Rattle.plan_text.specs.Counts.{IsWithinLimits}
use Rattle.plan_text.specs.PlainNamed.{PlainTree}
use Rattle.plan_text.specs.Spelled.{SpellsText}
use Rattle.plan_text.specs.Canonical.{canonical_text}
use Rattle.catalog_types.specs.declared.program.Program.{Program}
use Rattle.catalog_types.specs.declared.snapshot.StreamState.{StreamState}
use Rattle.catalog_core.specs.Programs.{AreCuts, IsProgram, kinds_of_streams, with_program, is_below, below, above}
use Rattle.catalog_core.specs.Table.{Table}
use Rattle.rows_core.specs.Limits.{most_ticks, most_programs}
use Rattle.planning.specs.Opening.{IsOpenPlan}
use Rattle.planning.specs.Running.{Run, bound_plan, whole_cut, cuts_of, run_of, target_of, IsTypedAt, IsRunPlan}

-- ---- the cuts of the leaves

pub are_cuts : (streams : List StreamState) (ls : List ℕ) → AreCuts streams ls (map (whole_cut streams) ls)
are_cuts streams [] = tt
are_cuts streams (l ∷ ls) = ((omega arith, omega arith), are_cuts streams ls)

pub same_cuts : (ss ts : List StreamState) (ls ms : List ℕ) → ss ≡ ts → ls ≡ ms → map (whole_cut ss) ls ≡ map (whole_cut ts) ms
same_cuts ss ts ls ms e f = λ i. map (whole_cut (e i)) (f i)

-- ---- the program fits

pub record IsStored (t : Table) (program : Program) : Type 0 where
  pub text : length program.text ≤ 65536
  pub programs : length (with_program program t.programs) ≤ most_programs
  pub counted : t.tick < most_ticks

module _ (t : Table) (name : List ℕ) (tree : PlainTree) (typed : TypedPlan) (within : IsWithinLimits tree) (bound : bound_plan t.streams tree ≡ Ok typed.plan) (over : IsTypedOver (kinds_of_streams t.streams) typed) where
  abbrev the_run : Run
  the_run = run_of t.streams name tree typed.plan

  module _ (program : Program) (named : program.name ≡ name) (text : program.text ≡ canonical_text tree) (spells : SpellsText tree program.text) (cuts : program.cuts ≡ cuts_of t.streams typed.plan)
      (limits : (node_count typed.plan ≤ 40) × (expr_count typed.plan ≤ 512) × (length (leaves typed.plan) ≤ 9)) where
    are : AreCuts t.streams (leaves typed.plan) program.cuts
    are = subst (AreCuts t.streams (leaves typed.plan)) (sym cuts) (are_cuts t.streams (leaves typed.plan))

    typed_at : IsTypedAt t (target_of the_run) typed program.cuts
    typed_at = record { plan = refl; over = over; cuts_are = cuts; are_cuts = are; nodes = limits.0; exprs = limits.1; few_leaves = limits.2 }

    same_program : program ≡ the_run.program
    same_program = λ i. record { name = named i; text = text i; cuts = cuts i }

    is_program : length program.text ≤ 65536 → IsProgram t.streams program
    is_program short = record {
      plan = typed.plan;
      is_plan = record { tree = tree; canonical = (spells, within, text); bound = bound; kinds = typed.kinds; typed = over };
      are_cuts = are;
      short = short;
    }

    pub planned : IsStored t program → IsRunPlan t the_run typed program
    planned stored = record {
      planned = record { typed_at = typed_at; counted = stored.counted };
      program_is = same_program;
      fits = (is_program stored.text, stored.programs);
    }

    pub planned_job : length program.text ≤ 65536 → IsOpenPlan t the_run typed program
    planned_job short = record { typed_at = typed_at; program_is = same_program; is_program = is_program short }

-- ---- how many programs there are

few_filtered : (test : Program → Bool) (programs : List Program) → length (filter test programs) ≤ length programs
few_filtered test [] = omega arith
few_filtered test (p ∷ ps) = by (test p) (few_filtered test ps)
  where
    by : (b : Bool) → length (filter test ps) ≤ length ps → length (cond b (p ∷ filter test ps) (filter test ps)) ≤ length (p ∷ ps)
    by true few = omega (arith, few)
    by false few = omega (arith, few)

pub few_on_each_side : (programs : List Program) (name : List ℕ) → length (below name programs) + length (above name programs) ≤ 2 * length programs
few_on_each_side programs name =
    let low = few_filtered (λ program. is_below program.name name) programs in
    let high = few_filtered (λ program. is_below name program.name) programs in
    omega (arith, low, high)
