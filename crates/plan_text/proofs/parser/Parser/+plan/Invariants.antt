-- A plan within parentheses has one level less; the other calls go down the rules. What the loop reads in the
-- turns that are left is what it reads in all.
use Rattle.std.proofs.Common.{◌≡◌, ◌+◌, ◌-◌, ◌*◌}
use Rattle.plan_text.specs.Draft.{limits}
use Rattle.plan_text.specs.PlanDraft.{seen_plan}
use Rattle.plan_text.specs.declared.parser.Terminal.TheVariants.{Bar}
use Rattle.plan_text.specs.Reader.{terminal_at, repeated}
use Rattle.plan_text.specs.PlanReading.{stage_at, inner_plan, plan_at}
use Rattle.plan_text.proofs.parser.Parser.+plan.Given as goal

abbrev pub decreases-plan : goal.decreases-plan
decreases-plan l = 8 * l.levels + 5

abbrev pub decreases-stage : goal.decreases-stage
decreases-stage l = 8 * l.levels + 4

abbrev pub decreases-stage_of : goal.decreases-stage_of
decreases-stage_of l = 8 * l.levels + 3

abbrev pub decreases-join_stage : goal.decreases-join_stage
decreases-join_stage l = 8 * l.levels + 2

abbrev pub decreases-concat_stage : goal.decreases-concat_stage
decreases-concat_stage l = 8 * l.levels + 2

abbrev pub decreases-inner_plan : goal.decreases-inner_plan
decreases-inner_plan l = 8 * l.levels + 1

abbrev pub decreases-plan_within : goal.decreases-plan_within
decreases-plan_within l = 8 * l.levels + 0

abbrev pub invariant-plan-loop : goal.invariant-plan-loop
invariant-plan-loop l =
    plan_at limits l.levels l.fn.self.rest.now
    ≡ repeated (terminal_at Bar) (λ _. stage_at limits (inner_plan limits l.levels) l.levels) (l.turns - l.counter) (seen_plan l.plan) l.self.rest.now
