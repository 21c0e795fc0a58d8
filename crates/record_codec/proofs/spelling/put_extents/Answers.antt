-- One extent more at each turn.
use Rattle.record_codec.proofs.Joined.{extents_more}
use Rattle.record_codec.proofs.spelling.put_extents.Goals as goal

pub loop-extent-preserved : goal.loop-extent-preserved
loop-extent-preserved c =
    extents_more c.args.extents.now c.loop-extent.extent-index _ c.put_u32.new.out.items c.loop-extent.out.items c.put_extent.new.out.items c.loop-extent-test.true c.loop-extent.invariant
    c.in_ok-put_extent.ensures
