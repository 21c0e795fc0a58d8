-- One more column has its place.
use Rattle.std.proofs.Common.{◌≡◌, ◌<◌, true, length, refl, arith, rules}
use Rattle.std.specs.Result.{is_ok}
use Rattle.csv.specs.Records.{fields_of}
use Rattle.csv_script.proofs.RowLemmas.{ArePicks-next}
use Rattle.csv_script.proofs.header.picks_of.Goals as goal

pub loop-at-preserved : goal.loop-at-preserved
loop-at-preserved c =
    let good : is_ok c.push.result ≡ true = search rules in
    let items = rw good at c.push.ensures.items in
    let within : c.loop-at.at < length c.args.columns.now = omega arith in
    rw items
    (ArePicks-next (fields_of c.args.header.now) c.args.columns.now c.loop-at.at c.index-columns-at.result c.loop-at.picks.items (record { place = c.in-Ok.place; kind = c.index-columns-at.result.kind }) within c.index-columns-at.is c.loop-at.invariant
    (record { place = rw c.bytes.ensures.bytes at c.in-Ok.ensures.ok; kind = refl }))
