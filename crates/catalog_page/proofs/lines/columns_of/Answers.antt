use Rattle.std.proofs.Common.{rules, ◌≡◌, Err}
use Rattle.serde_json.specs.View.{view}
use Rattle.catalog_page.specs.Told.{column}
use Rattle.catalog_page.proofs.ItemLoops.{stops}
use Rattle.catalog_page.proofs.lines.columns_of.Goals as goal

pub returns-in_err-column : goal.returns-in_err-column
returns-in_err-column c =
    let refusal = c.in_err-column.field-0.0 in
    let answer = c.from_residual-in_err-column.result in
    let same : answer ≡ Err refusal = search rules in
    stops (λ v. column c.args.key (view v)) (λ x. x) (λ columns. columns.items) refusal answer c.args.values.now c.loop-value.value-index c.value-item.result c.loop-value.columns.items
    same c.loop-value-test.true c.value-item.is c.loop-value.invariant c.in_err-column.ensures
