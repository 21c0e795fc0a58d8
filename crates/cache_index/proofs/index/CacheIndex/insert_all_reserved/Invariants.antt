-- The entries so far stand behind those before, and there is room for the others.
use Rattle.std.proofs.Common.{◌+◌, ◌≡◌, ℕ, List, ◌++◌, length, take}
use Rattle.catalog_types.specs.PlainEntry.{PlainEntry}
use Rattle.cache_index.specs.Index.{HasRoom, IsIndexOf}
use Rattle.cache_index.proofs.index.CacheIndex.insert_all_reserved.Given as goal

abbrev pub invariant-loop-entry : goal.invariant-loop-entry
invariant-loop-entry l = record {
  room : (more : ℕ) → more + l.entry-index ≡ length l.entries → HasRoom more l.self;
  index : (before : List PlainEntry) → IsIndexOf before l.initial.self → IsIndexOf (before ++ take l.entry-index l.entries) l.self;
}
