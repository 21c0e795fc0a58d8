use Rattle.std.proofs.Common.{◌≤◌, ◌<◌, length, vec_capacity}
use Rattle.script_text.specs.Answer.{answer_lines}
use Rattle.nectar_top.proofs.SendingLemmas.{SentLines}
use Rattle.nectar_top.proofs.sending.send_short_lines.Given as goal

abbrev pub invariant-loop-line : goal.invariant-loop-line
invariant-loop-line g l =
    SentLines (g.K.Sink.written l.initial.sink) (g.K.Sink.written l.sink) (g.K.Sink.faults l.initial.sink) (g.K.Sink.faults l.sink) (answer_lines l.quiet l.answer) l.room.items l.line
    × (length l.room.items < 65536) × (vec_capacity l.initial.room ≤ vec_capacity l.room)
