use Rattle.std.proofs.Common.{◌∙◌, subst, ℕ, List, IfOk}
use Rattle.plan_core.specs.PlainPlan.{PlainPlan}
use Rattle.plan_canon.specs.Normal.{IsNormalFormOf}
use Rattle.catalog_core.specs.Catalogs.{table_of}
use Rattle.catalog_core.specs.Programs.{kinds_of_streams}
use Rattle.plan_choice.specs.Leaving.{leaving_out}
use Rattle.plan_choice.specs.Taken.{IsChoice}
use Rattle.work_turns.proofs.turns.choose_again.Goals as goal

pub returns-clause-chosen : goal.returns-clause-chosen
returns-clause-chosen c =
    let t = table_of c.args.catalog.now in
    subst (λ (ids : List ℕ). IfOk c.choose_without.result (λ choice. (plan : PlainPlan) → IsNormalFormOf (kinds_of_streams t.streams) plan c.args.normal.now.plan → IsChoice (leaving_out ids t) plan c.args.cuts.now choice))
    (c.deref.ensures.value ∙ c.in_ok-push.ensures.items) c.choose_without.ensures.chosen
