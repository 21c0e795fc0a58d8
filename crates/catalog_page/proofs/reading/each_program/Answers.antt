use Rattle.std.proofs.Common.{rules, ◌≡◌, Err}
use Rattle.serde_json.specs.View.{view}
use Rattle.catalog_page.specs.Told.{program_in}
use Rattle.catalog_page.proofs.ItemLoops.{stops}
use Rattle.catalog_page.proofs.reading.each_program.Goals as goal

pub returns-in_err-program : goal.returns-in_err-program
returns-in_err-program c =
    let refusal = c.in_err-program.field-0.0 in
    let answer = c.from_residual-in_err-program.result in
    let same : answer ≡ Err refusal = search rules in
    stops (λ v. program_in (view v)) (λ x. x) (λ v. v.items) refusal answer c.args.values.now c.loop-value.value-index c.value-item.result c.loop-value.programs.items
    same c.loop-value-test.true c.value-item.is c.loop-value.invariant c.in_err-program.ensures
