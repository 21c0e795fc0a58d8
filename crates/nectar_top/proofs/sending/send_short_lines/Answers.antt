use Rattle.std.proofs.Common.{◌<◌, ◌≤◌, ◌+◌, List, ℕ, length, vec_capacity, ap, subst, sym, arith, rules}
use Rattle.std.specs.Io.KnownBytes.{Appends}
use Rattle.script_text.specs.Answer.{answer_lines}
use Rattle.nectar_top.specs.Sending.{SentInPart}
use Rattle.nectar_top.proofs.SendingLemmas.{SentLines, SentLines-more, SentLines-written, SentInPart-lines, on_err}
use Rattle.nectar_top.proofs.sending.send_short_lines.Goals as goal
use Rattle.nectar_top.proofs.sending.send_short_lines.Goals.{then-len-ge-PIECE_LEN+in-Ok-write_all, else-len-ge-PIECE_LEN}

pub returns-in-Err-write_all-clause-err : goal.returns-in-Err-write_all-clause-err
returns-in-Err-write_all-clause-err g c =
    let lines : List (List ℕ) = answer_lines c.args.quiet c.args.answer.now in
    let below : c.loop-line.line < length lines = first_of (omega (arith, c.line_count-line-end.ensures), search rules) in
    SentInPart-lines _ _ _ _ lines c.print_line.new.to.items (c.loop-line.line + 1) (SentLines-more _ _ _ _ lines _ c.loop-line.line c.loop-line.invariant.0 c.print_line.new.to.items below c.in-Ok.ensures.printed) _
    (subst (SentInPart _ _) c.deref.ensures.value c.in-Err-write_all.ensures.err)

pub loop-line-preserved : goal.loop-line-preserved
loop-line-preserved g c =
    let lines : List (List ℕ) = answer_lines c.args.quiet c.args.answer.now in
    let below : c.loop-line.line < length lines = first_of (omega (arith, c.line_count-line-end.ensures), search rules) in
    let next = SentLines-more _ _ _ _ lines _ c.loop-line.line c.loop-line.invariant.0 c.print_line.new.to.items below c.in-Ok.ensures.printed in
    elim c.if-len-ge-PIECE_LEN.branch [
      | then-len-ge-PIECE_LEN+in-Ok-write_all w ↦
          let written = SentLines-written _ _ _ _ lines c.print_line.new.to.items (c.loop-line.line + 1) next _ _ (subst (Appends _ _) w.deref.ensures.value w.in-Ok-write_all.ensures.ok) w.write_all.ensures.counts in (
            subst (λ s. SentLines (g.K.Sink.written c.args.sink.now) (g.K.Sink.written s) (g.K.Sink.faults c.args.sink.now) (g.K.Sink.faults s) lines c.if-len-ge-PIECE_LEN.room.items (c.loop-line.line + 1)) (sym w.sink-is)
                (subst (λ r. SentLines (g.K.Sink.written c.args.sink.now) (g.K.Sink.written w.write_all.new.sink) (g.K.Sink.faults c.args.sink.now) (g.K.Sink.faults w.write_all.new.sink) lines r.items (c.loop-line.line + 1)) (sym w.room-is) (subst (λ (items : List ℕ). SentLines (g.K.Sink.written c.args.sink.now) (g.K.Sink.written w.write_all.new.sink) (g.K.Sink.faults c.args.sink.now) (g.K.Sink.faults w.write_all.new.sink) lines items (c.loop-line.line + 1)) (sym w.clear-in-Ok-write_all.ensures.items) written)),
            subst (λ r. length r.items < 65536) (sym w.room-is) (omega (arith, ap length w.clear-in-Ok-write_all.ensures.items)),
            subst (λ r. vec_capacity c.clear.new.self ≤ vec_capacity r) (sym w.room-is) (omega (arith, c.loop-line.invariant.2, c.print_line.ensures.capacity, w.clear-in-Ok-write_all.ensures.capacity)),
          )
      | else-len-ge-PIECE_LEN w ↦ (
        subst (λ s. SentLines (g.K.Sink.written c.args.sink.now) (g.K.Sink.written s) (g.K.Sink.faults c.args.sink.now) (g.K.Sink.faults s) lines c.if-len-ge-PIECE_LEN.room.items (c.loop-line.line + 1)) (sym w.sink-is)
            (subst (λ r. SentLines (g.K.Sink.written c.args.sink.now) (g.K.Sink.written c.loop-line.sink) (g.K.Sink.faults c.args.sink.now) (g.K.Sink.faults c.loop-line.sink) lines r.items (c.loop-line.line + 1)) (sym w.room-is) next),
        subst (λ r. length r.items < 65536) (sym w.room-is) (omega (arith, w.if-len-ge-PIECE_LEN.false, c.len.ensures)),
        subst (λ r. vec_capacity c.clear.new.self ≤ vec_capacity r) (sym w.room-is) (omega (arith, c.loop-line.invariant.2, c.print_line.ensures.capacity)),
      )
    ]

pub returns-clause-err : goal.returns-clause-err
returns-clause-err g c =
    let lines : List (List ℕ) = answer_lines c.args.quiet c.args.answer.now in
    on_err c.write_all-2.result c.write_all-2.ensures.err (λ sent. SentInPart-lines _ _ _ _ lines c.loop-line.room.items c.loop-line.line c.loop-line.invariant.0 _ (subst (SentInPart _ _) c.deref-2.ensures.value sent))
