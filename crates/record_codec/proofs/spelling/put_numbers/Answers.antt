-- The three numbers.
use Rattle.record_codec.proofs.Joined.{joined}
use Rattle.record_codec.proofs.spelling.put_numbers.Goals as goal

pub returns : goal.returns
returns c = joined _ _ _ _ c.in_ok-put_u32.ensures c.in_ok-put_u64.ensures c.in_ok-put_u64-2.ensures
