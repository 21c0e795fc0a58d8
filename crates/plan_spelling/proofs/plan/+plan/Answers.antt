-- A plan is its tag and what stands behind it.
use Rattle.std.proofs.Common.{◌∙◌, sym, subst, arith}
use Rattle.std.proofs.lemmas.Result.{err_from_is_err_and}
use Rattle.plan_core.specs.PlainPlan.{plan_of}
use Rattle.byte_formats.specs.Reading.{Gives, Fails}
use Rattle.plan_spelling.specs.Reading.{plan_behind}
use Rattle.plan_spelling.proofs.Steps.{plan_too_deep, plan_reads, plan_fails}
use Rattle.plan_spelling.proofs.plan.+plan.Goals as goal

pub plan_at-returns-then-depth-eq0 : goal.plan_at-returns-then-depth-eq0
plan_at-returns-then-depth-eq0 t c = plan_too_deep c.args.depth c.args.bytes.now c.if-depth-eq0.true

pub plan_at-returns-in_err-tag : goal.plan_at-returns-in_err-tag
plan_at-returns-in_err-tag t c =
    let p = err_from_is_err_and c.from_residual.result c.from_residual.ensures.1 in
    rw (p.1, p.2) (plan_fails c.in_err-tag.field-0.0 c.args.depth c.args.bytes.now (omega arith) c.in_err-tag.ensures)

pub plan_at-returns-in_err-plan : goal.plan_at-returns-in_err-plan
plan_at-returns-in_err-plan t c =
    let p = err_from_is_err_and c.from_residual-in_err-plan.result c.from_residual-in_err-plan.ensures.1 in
    rw (p.1, p.2)
    (subst (λ r. Fails c.in_err-plan.field-0.0 r) (sym (plan_reads c.args.depth c.in_ok-tag.tag c.args.bytes.now c.in_ok-tag.rest.now (omega arith) c.in_ok-tag.ensures)) c.in_err-plan.ensures)

pub plan_at-returns : goal.plan_at-returns
plan_at-returns t c = plan_reads c.args.depth c.in_ok-tag.tag c.args.bytes.now c.in_ok-tag.rest.now (omega arith) c.in_ok-tag.ensures ∙ c.in_ok-plan.ensures

-- ---- each tag's own row

pub plan_behind-returns-in-Scan : goal.plan_behind-returns-in-Scan
plan_behind-returns-in-Scan t c = subst (λ tag. Gives (λ x. (plan_of x.0, x.1.now)) c.scan_at.result (plan_behind c.args.depth tag c.args.bytes.now)) (sym c.in-Scan.is) c.scan_at.ensures

pub plan_behind-returns-in-Filter : goal.plan_behind-returns-in-Filter
plan_behind-returns-in-Filter t c = subst (λ tag. Gives (λ x. (plan_of x.0, x.1.now)) c.filter_at.result (plan_behind c.args.depth tag c.args.bytes.now)) (sym c.in-Filter.is) c.filter_at.ensures

pub plan_behind-returns-in-Project : goal.plan_behind-returns-in-Project
plan_behind-returns-in-Project t c = subst (λ tag. Gives (λ x. (plan_of x.0, x.1.now)) c.project_at.result (plan_behind c.args.depth tag c.args.bytes.now)) (sym c.in-Project.is) c.project_at.ensures

pub plan_behind-returns-in-Distinct : goal.plan_behind-returns-in-Distinct
plan_behind-returns-in-Distinct t c = subst (λ tag. Gives (λ x. (plan_of x.0, x.1.now)) c.distinct_at.result (plan_behind c.args.depth tag c.args.bytes.now)) (sym c.in-Distinct.is) c.distinct_at.ensures

pub plan_behind-returns-in-Group : goal.plan_behind-returns-in-Group
plan_behind-returns-in-Group t c = subst (λ tag. Gives (λ x. (plan_of x.0, x.1.now)) c.group_at.result (plan_behind c.args.depth tag c.args.bytes.now)) (sym c.in-Group.is) c.group_at.ensures

pub plan_behind-returns-in-Join : goal.plan_behind-returns-in-Join
plan_behind-returns-in-Join t c = subst (λ tag. Gives (λ x. (plan_of x.0, x.1.now)) c.join_at.result (plan_behind c.args.depth tag c.args.bytes.now)) (sym c.in-Join.is) c.join_at.ensures

pub plan_behind-returns-in-Concat : goal.plan_behind-returns-in-Concat
plan_behind-returns-in-Concat t c = subst (λ tag. Gives (λ x. (plan_of x.0, x.1.now)) c.concat_at.result (plan_behind c.args.depth tag c.args.bytes.now)) (sym c.in-Concat.is) c.concat_at.ensures

pub plan_behind-returns-in-Order : goal.plan_behind-returns-in-Order
plan_behind-returns-in-Order t c = subst (λ tag. Gives (λ x. (plan_of x.0, x.1.now)) c.order_at.result (plan_behind c.args.depth tag c.args.bytes.now)) (sym c.in-Order.is) c.order_at.ensures
