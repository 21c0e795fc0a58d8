use Rattle.std.proofs.Common.{◌≡◌, sym, subst, true, [], ◌∷◌, ◌++◌, Ok, Err, ℕ, ◌+◌}
use Rattle.plan_core.specs.Columns.{Rows}
use Rattle.plan_core.specs.MachineTime.{rows_taken_in}
use Rattle.plan_core.specs.PlainPlan.{plan_of}
use Rattle.growth_laws.specs.Growth.{whole_made}
use Rattle.result_ops.specs.declared.stop.Stop.TheVariants as stop
use Rattle.gathering.specs.Holding.{came_of, Follows, made_of_chain}
use Rattle.gathering.specs.Steps.{counted, Passes}
use Rattle.gathering.proofs.Extents.{given, passed_follow, failed_follow, stopped_follow}
use Rattle.gathering.proofs.OnOk.{on_ok}
use Rattle.gathering.proofs.progress.advance.Goals as goal

pub returns-then-has_overflowed-clause-follows : goal.returns-then-has_overflowed-clause-follows
returns-then-has_overflowed-clause-follows c = λ fed follows.
    let is : came_of c.args.going.now ≡ Err stop.Overflow = c.has_overflowed.ensures.0 c.if-has_overflowed.true in
    subst (Follows (whole_made (plan_of c.args.plan.now) ((fed ++ c.args.rows.items) ∷ []))) (sym is)
    (stopped_follow (plan_of c.args.plan.now) c.requires.one fed c.args.rows.items (subst (Follows (whole_made (plan_of c.args.plan.now) (fed ∷ []))) is follows))

pub returns-in-Ok-clause-follows : goal.returns-in-Ok-clause-follows
returns-in-Ok-clause-follows c =
    let plan = plan_of c.args.plan.now in
    let rows = c.args.rows.items in
    let news = c.in-Ok.input.rows.items in
    let old = came_of c.args.going.now in
    let new = came_of c.take_in.new.going in
    on_ok c.take_in.result
    ((before : Rows) (taken_in more : ℕ) → c.in-Ok.input.taken_in ≡ counted more → Follows (Ok (made_of_chain plan before taken_in)) old → Follows (Ok (made_of_chain plan (before ++ news) (taken_in + more))) new)
    ((fed : Rows) → Follows (whole_made plan (fed ∷ [])) old → Follows (whole_made plan ((fed ++ rows) ∷ [])) new)
    (λ step fed follows.
    passed_follow plan c.requires.one fed rows news c.in-Ok.input.taken_in old new c.in-Ok.ensures.0 c.in-Ok.ensures.1
    (λ is. let test : c.has_overflowed.result ≡ true = c.has_overflowed.ensures.1 is in let not = c.if-has_overflowed.false in absurd (cc)) step follows)
    c.take_in.ensures.follows

pub returns-in-Err-Overflow-clause-follows : goal.returns-in-Err-Overflow-clause-follows
returns-in-Err-Overflow-clause-follows c = λ fed follows.
    let plan = plan_of c.args.plan.now in
    failed_follow plan c.requires.one fed c.args.rows.items (came_of c.args.going.now)
    (subst (λ e. Passes (given plan c.args.rows.items) (rows_taken_in plan (c.args.rows.items ∷ [])) (Err e)) c.in-Err-Overflow.field-0-is c.in-Err-Overflow.ensures) follows
