use Rattle.std.proofs.Common.{◌<◌, ◌+◌, List, ℕ, [], length, get_or, subst, refl, arith}
use Rattle.std.specs.Io.KnownBytes.{Appends}
use Rattle.script_text.specs.Answer.{printed_line}
use Rattle.nectar_top.specs.Sending.{SentInPart}
use Rattle.nectar_top.specs.Summary.{summary_lines}
use Rattle.nectar_top.proofs.SendingLemmas.{SentLines-more, SentLines-written, SentInPart-lines}
use Rattle.nectar_top.proofs.sending.send_summary.Goals as goal

pub returns-in-Err-clause-err : goal.returns-in-Err-clause-err
returns-in-Err-clause-err g c =
    let lines : List (List ℕ) = summary_lines c.args.summary.now in
    let below : c.loop-at.at < length lines = omega (arith, c.loop-at-test.true) in
    let text : List ℕ = printed_line (get_or lines c.loop-at.at []) in
    SentInPart-lines _ _ _ _ lines text (c.loop-at.at + 1) (SentLines-more _ _ _ _ lines [] c.loop-at.at c.loop-at.invariant text below refl) _
    (subst (λ (t : List ℕ). SentInPart (g.K.Sink.written c.loop-at.sink) (g.K.Sink.written c.send_number_line.new.sink) (printed_line t)) c.line-number.ensures c.in-Err.ensures.err)

pub loop-at-preserved : goal.loop-at-preserved
loop-at-preserved g c =
    let lines : List (List ℕ) = summary_lines c.args.summary.now in
    let below : c.loop-at.at < length lines = omega (arith, c.loop-at-test.true) in
    let text : List ℕ = printed_line (get_or lines c.loop-at.at []) in
    SentLines-written _ _ _ _ lines text (c.loop-at.at + 1) (SentLines-more _ _ _ _ lines [] c.loop-at.at c.loop-at.invariant text below refl) _ _
    (subst (λ (t : List ℕ). Appends (g.K.Sink.written c.loop-at.sink) (g.K.Sink.written c.send_number_line.new.sink) (printed_line t)) c.line-number.ensures c.in-Ok.ensures.ok) c.send_number_line.ensures.counts
