use Rattle.nectar_top.proofs.SendingLemmas.{SentSoFar-more}
use Rattle.nectar_top.proofs.sending.write_all.Goals as goal

pub loop-sent-preserved : goal.loop-sent-preserved
loop-sent-preserved g c = SentSoFar-more _ _ _ _ _ _ c.args.bytes.now c.loop-sent.sent c.loop-sent.invariant c.in-Ok.count c.in-Ok.ensures.bound c.in-Ok.ensures.bytes c.write.ensures.counts
