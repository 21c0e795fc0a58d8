use Rattle.std.proofs.Common.{◌≡◌, decimal, rules}
use Rattle.nectar_top.proofs.SendingLemmas.{on_err, SentInPart-word, SentInPart-number}
use Rattle.nectar_top.proofs.sending.send_number_line.Goals as goal

pub returns-in-Ok-clause-err : goal.returns-in-Ok-clause-err
returns-in-Ok-clause-err g c =
    let digits : c.as_bytes.result.now ≡ decimal c.args.number = search rules in
    on_err c.send_line.result c.send_line.ensures.err (SentInPart-number _ _ _ c.args.word.now c.as_bytes.result.now c.args.number digits c.in-Ok.ensures.ok)

pub returns-in-Err-clause-err : goal.returns-in-Err-clause-err
returns-in-Err-clause-err g c = SentInPart-word _ _ c.args.word.now c.args.number c.in-Err.ensures.err
