-- What is still read behind the rows so far is what all is read as.
use Rattle.std.proofs.Common.{◌≡◌, ◌-◌, []}
use Rattle.row_blob.specs.Reading.{items_at, row_at}
use Rattle.row_blob.proofs.rows.counted_rows_at.Given as goal

abbrev pub invariant-loop : goal.invariant-loop
invariant-loop l = items_at (λ before. row_at l.kinds) (l.count - l.counter) l.rows.items l.rest ≡ items_at (λ before. row_at l.kinds) l.count [] l.bytes
