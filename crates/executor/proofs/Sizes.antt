-- How many nodes a rewriting and its parts have.
use Rattle.std.proofs.Common.{ℕ, ◌+◌}
use Rattle.rewrite_core.specs.PlainRewriting.{PlainRewriting, Node, PlainWay, Scan, One, Two, Read, Tail, LeftGrew, RightGrew, BothGrew, PlainDelta, Change, PlainDeltaWay, Unchanged, NewRows, OfChild, OfDistinct, OfJoin}

abbrev mutual
  pub size_of : PlainRewriting → ℕ
  size_of (Node p c way) = 1 + way_size way

  pub way_size : PlainWay → ℕ
  way_size Scan = 0
  way_size (One r) = 1 + size_of r
  way_size (Two l r) = 1 + (size_of l + size_of r)
  way_size (Read hit) = 0
  way_size (Tail hit d) = 1 + delta_size d
  way_size (LeftGrew hit d r) = 1 + (delta_size d + size_of r)
  way_size (RightGrew hit l d) = 1 + (size_of l + delta_size d)
  way_size (BothGrew hit l rd ld r) = 1 + (size_of l + delta_size rd + (delta_size ld + size_of r))

  pub delta_size : PlainDelta → ℕ
  delta_size (Change p old new way) = 1 + delta_way_size way

  pub delta_way_size : PlainDeltaWay → ℕ
  delta_way_size Unchanged = 0
  delta_way_size NewRows = 0
  delta_way_size (OfChild d) = 1 + delta_size d
  delta_way_size (OfDistinct r d) = 1 + (size_of r + delta_size d)
  delta_way_size (OfJoin d r) = 1 + (delta_size d + size_of r)
