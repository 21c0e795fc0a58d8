-- The lists stay, and those passed have the places.
use Rattle.std.proofs.Common.{◌≡◌, length}
use Rattle.indexmap.specs.IndexMap.{spare}
use Rattle.cache_index.proofs.Growing.{AreSame, FirstHave}
use Rattle.cache_index.proofs.lists.reserve_each.Given as goal

abbrev pub invariant-loop-place : goal.invariant-loop-place
invariant-loop-place l = record {
  same : AreSame l.initial.lists.entries l.lists.entries;
  many : length l.lists.entries ≡ length l.initial.lists.entries;
  first : FirstHave l.more l.place l.lists.entries;
  spare : spare l.lists ≡ spare l.initial.lists;
}
