-- What was read, and then what is read behind it, is all that is read.
use Rattle.record_codec.proofs.ChainLoop.{ProgramsRead}
use Rattle.record_codec.proofs.programs.so_many_programs_at.Given as goal

abbrev pub invariant-loop : goal.invariant-loop
invariant-loop l = ProgramsRead l.count l.counter l.programs.items l.rest l.bytes
