-- What was read, and then what is read behind it, is all that is read.
use Rattle.record_codec.specs.Formats.{entry_from}
use Rattle.record_codec.proofs.ChainLoop.{HasReadTo}
use Rattle.record_codec.proofs.entries.so_many_entries_at.Given as goal

abbrev pub invariant-loop : goal.invariant-loop
invariant-loop l = HasReadTo entry_from (λ previous e. e.id) l.count l.counter 0 l.previous l.entries.items l.rest l.bytes
