-- The header and the rows.
use Rattle.csv.specs.Writing.{text_written}
use Rattle.csv_rows.proofs.Refused.{if_err, IsRefusedFor-rows}
use Rattle.csv_rows.proofs.RowLemmas.{on_ok, IsConverted-whole}
use Rattle.csv_rows.proofs.answers.write_result.Goals as goal

pub returns-in-Some-clause-csv : goal.returns-in-Some-clause-csv
returns-in-Some-clause-csv g c =
    on_ok c.write_rows.result
    (λ rows bytes known start.
    let found = (rw c.in-Some.is at c.in_ok-count.ensures.found) bytes known in
    IsConverted-whole bytes c.args.number c.in-Some.count _ (g.R.Read.remaining c.find.new.answers) _ (text_written g.W.Write.contents c.args.writer.now) (text_written g.W.Write.contents c.write_header.new.writer)
    (text_written g.W.Write.contents c.write_rows.new.writer) found (rows found.rest found.left_is (c.in_ok-write_header-in-Some.ensures.fresh start)) (c.in_ok-write_header-in-Some.ensures.wrote start))
    c.write_rows.ensures.written

pub returns-in-Some-clause-refused : goal.returns-in-Some-clause-refused
returns-in-Some-clause-refused g c =
    if_err c.write_rows.result
    (λ why err bytes known start.
    let found = (rw c.in-Some.is at c.in_ok-count.ensures.found) bytes known in
    IsRefusedFor-rows bytes c.args.number c.in-Some.count (g.R.Read.remaining c.find.new.answers) why found
    ((rw err at c.write_rows.ensures.refused) found.rest found.left_is (c.in_ok-write_header-in-Some.ensures.fresh start)))
