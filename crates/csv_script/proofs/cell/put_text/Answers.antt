-- The field says this text.
use Rattle.std.proofs.Common.{◌≤◌, length, refl, arith, rules}
use Rattle.rows_core.specs.Txt.{IsText}
use Rattle.rows_core.specs.declared.value.Value.TheVariants.{Text}
use Rattle.csv_script.proofs.cell.put_text.Goals as goal

pub returns-clause-ok : goal.returns-clause-ok
returns-clause-ok c =
    let is : IsText c.args.field.now = search rules in
    let short : length c.args.field.now ≤ 1000 = omega arith in
    (Text c.args.field.now, record { kind_is = refl; loose = is; short = short; text = refl }, c.in_ok-quote.ensures.ok)
