use Rattle.std.proofs.Common.{rules, ◌≡◌, Err}
use Rattle.serde_json.specs.View.{view}
use Rattle.catalog_page.specs.Told.{cut}
use Rattle.catalog_page.proofs.ItemLoops.{stops}
use Rattle.catalog_page.proofs.lines.cuts_of.Goals as goal

pub returns-in_err-cut : goal.returns-in_err-cut
returns-in_err-cut c =
    let refusal = c.in_err-cut.field-0.0 in
    let answer = c.from_residual-in_err-cut.result in
    let same : answer ≡ Err refusal = search rules in
    stops (λ v. cut c.args.key (view v)) (λ x. x) (λ cuts. cuts.items) refusal answer c.args.values.now c.loop-value.value-index c.value-item.result c.loop-value.cuts.items
    same c.loop-value-test.true c.value-item.is c.loop-value.invariant c.in_err-cut.ensures
