-- The record's row was taken, or the record was left out.
use Rattle.std.proofs.Common.{◌∙◌}
use Rattle.csv.specs.Records.{fields_of}
use Rattle.rows_core.specs.Schema.{kinds_of}
use Rattle.csv_script.proofs.RowLemmas.{if_ok, line_of_row, AreTaken-left_out, AreTaken-row}
use Rattle.csv_script.proofs.append.take_record.Goals as goal

pub returns-in_ok-take_line-in-Ok-clause-taken : goal.returns-in_ok-take_line-in-Ok-clause-taken
returns-in_ok-take_line-in-Ok-clause-taken g c header columns before few picks_are records rows skipped all is =
    let put = c.in-Ok.ensures.ok in
    let line_is = c.as_slice.ensures.value ∙ put.2 in
    let one = line_of_row header (fields_of c.args.fields.now) columns c.args.picks.now c.args.width put.0 c.as_slice.result.now few picks_are put.1 line_is in
    AreTaken-row c.args.request.now.skips c.args.picks.now c.args.width records rows skipped (fields_of c.args.fields.now) put.0 (kinds_of columns) c.args.request.now.name.now before (g.W.Write.contents c.take_line.new.script) c.take_line.new.lines.items all put.1
    (c.in_ok-take_line-in-Ok.ensures (kinds_of columns) before rows put.0 one.0 line_is one.1 is)

pub returns-in-Err-clause-taken : goal.returns-in-Err-clause-taken
returns-in-Err-clause-taken g c =
    if_ok c.left_out.result
    (λ count ok header columns before few picks_are records rows skipped all is.
    AreTaken-left_out c.args.request.now.skips c.args.picks.now c.args.width records rows skipped count (fields_of c.args.fields.now) c.in-Err.why (kinds_of columns) c.args.request.now.name.now before (g.W.Write.contents c.args.script.now) c.args.lines.now.items all
    c.in-Err.ensures.why (rw ok at c.left_out.ensures.why) (rw ok at c.left_out.ensures.skips) (rw ok at c.left_out.ensures.one) is)
