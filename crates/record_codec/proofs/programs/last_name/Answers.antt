-- The item at the greatest index is the last one.
use Rattle.std.proofs.Common.{◌∙◌, sym}
use Rattle.record_codec.proofs.ChainLoop.{last_is}
use Rattle.record_codec.proofs.programs.last_name.Goals as goal

pub returns-in-Some : goal.returns-in-Some
returns-in-Some c = c.bytes.ensures.bytes ∙ sym (last_is c.args.programs.now c.in-Some.program.now (sym c.in-Some.ensures.value))
