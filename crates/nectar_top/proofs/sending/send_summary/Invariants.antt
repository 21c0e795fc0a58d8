use Rattle.std.proofs.Common.{[]}
use Rattle.nectar_top.specs.Summary.{summary_lines}
use Rattle.nectar_top.proofs.SendingLemmas.{SentLines}
use Rattle.nectar_top.proofs.sending.send_summary.Given as goal

abbrev pub invariant-loop-at : goal.invariant-loop-at
invariant-loop-at g l = SentLines (g.K.Sink.written l.initial.sink) (g.K.Sink.written l.sink) (g.K.Sink.faults l.initial.sink) (g.K.Sink.faults l.sink) (summary_lines l.summary) [] l.at
