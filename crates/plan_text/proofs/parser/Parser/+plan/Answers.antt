use Rattle.std.proofs.Common.{rules, ◌≡◌, ◌∙◌, ◌+◌, length, Some, None, Err, subst, sym, ap}
use Rattle.plan_text.specs.Draft.{limits}
use Rattle.plan_text.specs.PlanDraft.{seen_plan}
use Rattle.plan_text.specs.declared.parser.Terminal.TheVariants.{Bar}
use Rattle.plan_text.specs.Reader.{Reads, terminal_at}
use Rattle.plan_text.specs.PlanReading.{stage_at, inner_plan, plan_at}
use Rattle.plan_text.proofs.RepeatLemmas.{ends, goes_on, fails, out_of_turns, Reads-fail}
use Rattle.plan_text.proofs.parser.Parser.+plan.Goals as goal

pub plan-returns-then-not-pass : goal.plan-returns-then-not-pass
plan-returns-then-not-pass t c =
    let l = c.loop in
    let step = stage_at limits (inner_plan limits c.args.levels) c.args.levels in
    let none : (terminal_at Bar l.self.rest.now ≡ None) × (c.pass.new.self.rest.now ≡ l.self.rest.now) = search rules in
    ends (terminal_at Bar) (λ _. step) (plan_at limits c.args.levels c.args.self.now.rest.now) (length c.from.new.self.rest.now + 1) l.counter (seen_plan l.plan) l.self.rest.now l.invariant c.loop-test.true none.0 ∙ ap (λ r. Some (seen_plan l.plan, r)) (sym none.1)

pub plan-returns-in_err-plan-2 : goal.plan-returns-in_err-plan-2
plan-returns-in_err-plan-2 t c =
    let l = c.loop in
    let step = stage_at limits (inner_plan limits c.args.levels) c.args.levels in
    let whole = plan_at limits c.args.levels c.args.self.now.rest.now in
    let behind = c.pass.new.self.rest.now in
    let left = c.stage.new.self.rest.now in
    let found : (terminal_at Bar) l.self.rest.now ≡ Some (tt, behind) = search rules in
    let failed = fails (terminal_at Bar) (λ _. step) whole (length c.from.new.self.rest.now + 1) l.counter (seen_plan l.plan) l.self.rest.now l.invariant c.loop-test.true tt behind found in
    let read = Reads-fail c.in_err-plan-2.field-0.0 seen_plan seen_plan left left (step (seen_plan l.plan) behind) whole failed c.in_err-plan-2.ensures in
    let same : c.from_residual-in_err-plan-2.result ≡ Err c.in_err-plan-2.field-0.0 = search rules in
    subst (λ r. Reads seen_plan r left whole) (sym same) read

pub plan-loop-preserved : goal.plan-loop-preserved
plan-loop-preserved t c =
    let l = c.loop in
    let step = stage_at limits (inner_plan limits c.args.levels) c.args.levels in
    let found : (terminal_at Bar) l.self.rest.now ≡ Some (tt, c.pass.new.self.rest.now) = search rules in
    goes_on (terminal_at Bar) (λ _. step) (plan_at limits c.args.levels c.args.self.now.rest.now) (length c.from.new.self.rest.now + 1) l.counter (seen_plan l.plan) l.self.rest.now l.invariant c.loop-test.true tt c.pass.new.self.rest.now found (seen_plan c.in_ok-plan-2.plan) c.stage.new.self.rest.now c.in_ok-plan-2.ensures

pub plan-returns : goal.plan-returns
plan-returns t c =
    let l = c.loop in
    let step = stage_at limits (inner_plan limits c.args.levels) c.args.levels in
    out_of_turns (terminal_at Bar) (λ _. step) (plan_at limits c.args.levels c.args.self.now.rest.now) (length c.from.new.self.rest.now + 1) l.counter (seen_plan l.plan) l.self.rest.now l.invariant (search rules)
