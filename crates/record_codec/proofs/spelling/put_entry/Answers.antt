-- The three parts are the entry's spelling.
use Rattle.record_codec.proofs.Joined.{joined}
use Rattle.record_codec.proofs.spelling.put_entry.Goals as goal

pub returns : goal.returns
returns c = joined _ _ _ _ c.in_ok-put_id.ensures c.in_ok-put_kept_of.ensures c.in_ok-put_uses.ensures
