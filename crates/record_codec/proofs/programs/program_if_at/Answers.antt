-- The flag says whether the program is there.
use Rattle.std.proofs.lemmas.Result.{err_from_is_err_and}
use Rattle.record_codec.specs.Formats.{program}
use Rattle.record_codec.proofs.Optional.{none_read, some_read, some_fails}
use Rattle.record_codec.proofs.programs.program_if_at.Goals as goal

pub returns : goal.returns
returns c = none_read program c.args.bytes.now c.in_ok-there.rest.now c.in_ok-there.there c.in_ok-there.ensures c.if-there.false

pub returns-then-there : goal.returns-then-there
returns-then-there c = some_read program c.args.bytes.now c.in_ok-there.rest.now c.in_ok-program.rest.now c.in_ok-there.there c.in_ok-program.program c.in_ok-there.ensures c.if-there.true c.in_ok-program.ensures

pub returns-in_err-program : goal.returns-in_err-program
returns-in_err-program c =
    let p = err_from_is_err_and c.from_residual-in_err-program.result c.from_residual-in_err-program.ensures.1 in
    rw (p.1, p.2) (some_fails program c.in_err-program.field-0.0 c.args.bytes.now c.in_ok-there.rest.now c.in_ok-there.there c.in_ok-there.ensures c.if-there.true c.in_err-program.ensures)
