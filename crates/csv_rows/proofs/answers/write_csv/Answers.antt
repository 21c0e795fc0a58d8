-- All was written when the writer gave its own back.
use Rattle.csv_rows.proofs.RowLemmas.{kept_whole}
use Rattle.csv_rows.proofs.answers.write_csv.Goals as goal

pub returns-in-Ok-Ok-clause-csv : goal.returns-in-Ok-Ok-clause-csv
returns-in-Ok-Ok-clause-csv g c bytes known =
    let made = c.from_writer-writer.ensures in
    let done = (rw c.in-Ok-Ok.is-0 at c.write_result-outcome.ensures.csv) bytes known (record { setup = made.cfg; fields = made.fields; wrote = made.wrote }) in
    let kept = rw c.in-Ok-Ok.is-1 at c.into_inner-whole.ensures.ok in
    kept_whole g.W.Write.contents bytes c.args.number _ c.args.csv c.from_writer-writer.result c.write_result-outcome.new.writer c.in-Ok-Ok.csv made.wtr made.empty done kept
