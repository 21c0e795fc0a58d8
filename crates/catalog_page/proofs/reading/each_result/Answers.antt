use Rattle.std.proofs.Common.{rules, ◌≡◌, ◌+◌, Err, map}
use Rattle.serde_json.specs.View.{view}
use Rattle.catalog_page.specs.Plain.{kept_of}
use Rattle.catalog_page.specs.Told.{kept_in}
use Rattle.catalog_page.proofs.ItemLoops.{stops}
use Rattle.catalog_page.proofs.reading.each_result.Goals as goal

pub returns-in_err-kept : goal.returns-in_err-kept
returns-in_err-kept c =
    let refusal = c.in_err-kept.field-0.0 in
    let answer = c.from_residual-in_err-kept.result in
    let same : answer ≡ Err refusal = search rules in
    stops (λ v. kept_in (c.args.tick + 1) (view v)) kept_of (λ v. map kept_of v.items) refusal answer c.args.values.now c.loop-value.value-index
    c.value-item.result (map kept_of c.loop-value.results.items) same c.loop-value-test.true c.value-item.is c.loop-value.invariant c.in_err-kept.ensures
