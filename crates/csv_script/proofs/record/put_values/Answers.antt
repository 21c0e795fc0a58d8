-- One more value, or a column's refusal.
use Rattle.std.proofs.Common.{◌<◌, ◌≤◌, ◌∷◌, ◌++◌, [], length, arith}
use Rattle.csv.specs.Records.{fields_of}
use Rattle.std.proofs.lemmas.Option.{slice_get-get_or}
use Rattle.std.proofs.lemmas.Result.{err_from_is_err_and}
use Rattle.csv_script.proofs.RowLemmas.{get_or_again, line_next, ArePicked-next}
use Rattle.csv_script.proofs.record.put_values.Goals as goal

pub returns-in_err-put_picked-clause-why : goal.returns-in_err-put_picked-clause-why
returns-in_err-put_picked-clause-why c =
    let within : c.loop-column.column < length c.args.picks.now = omega arith in
    let handed = err_from_is_err_and c.from_residual-in_err-put_picked.result c.from_residual-in_err-put_picked.ensures.1 in
    rw (handed.1, handed.2) (λ width same. c.in_err-put_picked.ensures.why c.args.picks.now width (slice_get-get_or c.args.picks.now c.loop-column.column _ within) same)

pub loop-column-preserved : goal.loop-column-preserved
loop-column-preserved c =
    let i = c.loop-column.invariant in
    let put = c.in_ok-put_picked.ensures.ok in
    let within : c.loop-column.column < length c.args.picks.now = omega arith in
    let upto : c.loop-column.column ≤ length c.args.picks.now = omega arith in (
      i.0 ++ put.0 ∷ [],
      ArePicked-next (fields_of c.args.fields.now) c.args.picks.now c.loop-column.column _ i.0 put.0 within (get_or_again c.args.picks.now c.loop-column.column _ _ within) i.1 put.1,
      line_next (fields_of c.args.fields.now) c.args.picks.now i.0 put.0 c.loop-column.column c.args.line.now.items c.loop-column.line.items c.put_separator.new.line.items c.put_picked.new.line.items i.1 upto i.2
          c.in_ok-put_separator.ensures.ok put.2,
    )
