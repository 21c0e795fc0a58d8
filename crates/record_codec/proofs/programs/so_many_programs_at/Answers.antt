-- One program more at each turn.
use Rattle.std.proofs.Common.{[], ◌∙◌, ap}
use Rattle.std.proofs.lemmas.Result.{err_from_is_err_and}
use Rattle.record_codec.specs.Formats.{program_from}
use Rattle.record_codec.specs.Reading.{last_name}
use Rattle.record_codec.proofs.ChainLoop.{name_of, chain_start, chain_end, programs_more, programs_fail}
use Rattle.record_codec.proofs.programs.so_many_programs_at.Goals as goal

pub loop-init : goal.loop-init
loop-init c = rw c.new-programs.ensures.items (chain_start program_from name_of c.args.count [] c.args.bytes.now)

pub returns-in_err-program : goal.returns-in_err-program
returns-in_err-program c =
    let p = err_from_is_err_and c.from_residual.result c.from_residual.ensures.1 in
    rw (p.1, p.2)
    (programs_fail c.in_err-program.field-0.0 c.args.count c.loop.counter c.loop.programs.items c.last_name.result.now c.loop.rest.now c.args.bytes.now c.loop-test.true (c.last_name.ensures ∙ ap last_name c.deref.ensures.value) c.in_err-program.ensures c.loop.invariant)

pub loop-preserved : goal.loop-preserved
loop-preserved c =
    rw c.in_ok-push.ensures.items
    (programs_more c.args.count c.loop.counter c.loop.programs.items c.last_name.result.now c.loop.rest.now c.in_ok-program.program c.in_ok-program.after.now c.args.bytes.now c.loop-test.true (c.last_name.ensures ∙ ap last_name c.deref.ensures.value) c.in_ok-program.ensures c.loop.invariant)

pub returns : goal.returns
returns c = chain_end program_from name_of c.args.count c.loop.counter [] (last_name c.loop.programs.items) c.loop.programs.items c.loop.rest.now c.args.bytes.now c.loop-test.false c.loop.invariant
