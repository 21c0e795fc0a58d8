use Rattle.std.proofs.Common.{rules, ◌≡◌, Err}
use Rattle.serde_json.specs.View.{view}
use Rattle.catalog_page.specs.Told.{stream_in}
use Rattle.catalog_page.proofs.ItemLoops.{stops}
use Rattle.catalog_page.proofs.reading.each_stream.Goals as goal

pub returns-in_err-stream : goal.returns-in_err-stream
returns-in_err-stream c =
    let refusal = c.in_err-stream.field-0.0 in
    let answer = c.from_residual-in_err-stream.result in
    let same : answer ≡ Err refusal = search rules in
    stops (λ v. stream_in (view v)) (λ x. x) (λ v. v.items) refusal answer c.args.values.now c.loop-value.value-index c.value-item.result c.loop-value.streams.items
    same c.loop-value-test.true c.value-item.is c.loop-value.invariant c.in_err-stream.ensures
