use Rattle.std.proofs.Common.{[]}
use Rattle.cache_index.proofs.Indexing.{index_next}
use Rattle.cache_index.proofs.index.CacheIndex.of.Goals as goal

pub loop-entry-preserved : goal.loop-entry-preserved
loop-entry-preserved c =
    let l = c.loop-entry in
    index_next [] c.args.entries.now l.entry-index c.entry-item.result l.index c.insert.new.self c.loop-entry-test.true c.entry-item.is l.invariant c.in_ok-insert.ensures.programs c.in_ok-insert.ensures.keys
