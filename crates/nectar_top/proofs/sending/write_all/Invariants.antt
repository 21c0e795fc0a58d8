use Rattle.std.proofs.Common.{◌-◌, length}
use Rattle.nectar_top.proofs.SendingLemmas.{SentSoFar}
use Rattle.nectar_top.proofs.sending.write_all.Given as goal

abbrev pub invariant-loop-sent : goal.invariant-loop-sent
invariant-loop-sent g l = SentSoFar (g.K.Sink.written l.initial.sink) (g.K.Sink.written l.sink) (g.K.Sink.faults l.initial.sink) (g.K.Sink.faults l.sink) l.bytes l.sent

abbrev pub decreases-loop-sent : goal.decreases-loop-sent
decreases-loop-sent g l = length l.bytes - l.sent
