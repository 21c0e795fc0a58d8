use Rattle.std.proofs.Common.{rules}
use Rattle.planning.proofs.ReadingLemmas.{IsFirstBad-next, SpellLong-more}
use Rattle.planning.proofs.reading.after_long.Goals as goal

pub returns-in-Ok-false : goal.returns-in-Ok-false
returns-in-Ok-false c = let long = c.loop-index.invariant in IsFirstBad-next _ _ _ _ c.loop-index-test.true c.index-lines-index.is long.0 long.1 (c.in-Ok-false.ensures.none (search rules))

pub loop-index-preserved : goal.loop-index-preserved
loop-index-preserved c = SpellLong-more _ _ _ _ c.loop-index-test.true c.index-lines-index.is c.loop-index.invariant (c.in-Ok-true.ensures.row (search rules))
