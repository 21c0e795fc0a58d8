use Rattle.cache_index.proofs.Indexing.{index_without}
use Rattle.cache_index.proofs.index.CacheIndex.remove_all.Goals as goal

pub returns-clause-index : goal.returns-clause-index
returns-clause-index c entries is =
    index_without c.args.ids.now entries c.args.self.now _ is c.remove.ensures.ids c.remove-2.ensures.ids

pub returns-clause-room : goal.returns-clause-room
returns-clause-room c more has = (c.remove.ensures.room more has.0, c.remove-2.ensures.room more has.1)
