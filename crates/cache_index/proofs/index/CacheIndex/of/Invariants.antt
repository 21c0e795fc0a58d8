-- The index of the entries so far.
use Rattle.std.proofs.Common.{take}
use Rattle.cache_index.specs.Index.{IsIndexOf}
use Rattle.cache_index.proofs.index.CacheIndex.of.Given as goal

abbrev pub invariant-loop-entry : goal.invariant-loop-entry
invariant-loop-entry l = IsIndexOf (take l.entry-index l.entries) l.index
