-- The beginning and the blocks.
use Rattle.csv.specs.Records.{fields_of}
use Rattle.csv_script.proofs.RowLemmas.{if_ok, IsConverted-whole}
use Rattle.csv_script.proofs.Stops.{if_err, IsRefusedFor-rows}
use Rattle.csv_script.proofs.append.write_behind.Goals as goal

pub returns-clause-script : goal.returns-clause-script
returns-clause-script g c =
    let picks = rw c.columns.ensures.columns at c.in_ok-picks.ensures.ok in
    if_ok c.write_rows.result
    (λ skipped ok text start.
    let done = (rw (ok, c.as_slice.ensures.value, c.len-width.ensures) at c.write_rows.ensures.done) (fields_of c.args.fields.now) text c.columns.ensures.schema.2 picks start in
    IsConverted-whole c.args.request.now.declares c.args.request.now.skips c.args.request.now.name.now c.args.request.now.schema.now text (fields_of c.args.fields.now) c.in_ok-picks.picks.items
    (g.W.Write.contents c.args.script.now) (g.W.Write.contents c.begin.new.script) _ skipped picks c.in_ok-begin.ensures done)

pub returns-clause-refused : goal.returns-clause-refused
returns-clause-refused g c =
    let picks = rw c.columns.ensures.columns at c.in_ok-picks.ensures.ok in
    if_err c.write_rows.result
    (λ why err text start.
    let unwritten = (rw (err, c.as_slice.ensures.value, c.len-width.ensures) at c.write_rows.ensures.refused) (fields_of c.args.fields.now) text c.columns.ensures.schema.2 picks start in
    IsRefusedFor-rows c.args.request.now.declares c.args.request.now.skips c.args.request.now.name.now c.args.request.now.schema.now text (fields_of c.args.fields.now) c.in_ok-picks.picks.items
    (g.W.Write.contents c.args.script.now) (g.W.Write.contents c.begin.new.script) _ why picks c.in_ok-begin.ensures unwritten)
