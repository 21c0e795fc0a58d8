-- The keys so far were seen, and what is still read behind the groups so far is what all is read as.
use Rattle.std.proofs.Common.{◌≡◌, ◌-◌, []}
use Rattle.row_blob.specs.Reading.{items_at, group_after}
use Rattle.row_blob.specs.Kept.{keys_of}
use Rattle.row_blob.proofs.groups.counted_groups_at.Given as goal

abbrev pub invariant-loop : goal.invariant-loop
invariant-loop l = record {
  seen : l.seen.keys ≡ keys_of l.groups.items;
  read : items_at (group_after l.keys l.kinds) (l.count - l.counter) l.groups.items l.rest ≡ items_at (group_after l.keys l.kinds) l.count [] l.bytes;
}
