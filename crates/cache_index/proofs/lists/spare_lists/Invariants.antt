-- So many lists so far.
use Rattle.std.proofs.Common.{◌≡◌, length}
use Rattle.std.specs.List.{All}
use Rattle.cache_index.specs.Lists.{IsSpare}
use Rattle.cache_index.proofs.lists.spare_lists.Given as goal

abbrev pub invariant-loop : goal.invariant-loop
invariant-loop l = record {
  count : length l.lists.items ≡ l.counter;
  each : All (IsSpare l.more) l.lists.items;
}
