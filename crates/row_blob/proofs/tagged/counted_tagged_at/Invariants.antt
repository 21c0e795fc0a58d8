-- What is still read behind the rows so far is what all is read as.
use Rattle.std.proofs.Common.{◌≡◌, ◌-◌, []}
use Rattle.row_blob.specs.Reading.{items_at, tagged_at}
use Rattle.row_blob.proofs.tagged.counted_tagged_at.Given as goal

abbrev pub invariant-loop : goal.invariant-loop
invariant-loop l = items_at (tagged_at l.left l.kinds) (l.count - l.counter) l.rows.items l.rest ≡ items_at (tagged_at l.left l.kinds) l.count [] l.bytes
