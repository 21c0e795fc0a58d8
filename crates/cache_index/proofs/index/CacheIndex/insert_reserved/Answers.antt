use Rattle.cache_index.proofs.index.CacheIndex.insert_reserved.Goals as goal

pub returns-clause-room : goal.returns-clause-room
returns-clause-room c more has = (c.insert.ensures.room more has.0, c.insert-2.ensures.room more has.1)
