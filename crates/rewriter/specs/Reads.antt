-- The bytes that a rewriting reads: the estimate without the parts for operators that are carried out.
use Rattle.std.specs.Prelude.{ℕ, ◌+◌}
use Rattle.plan_core.specs.PlainPlan.{PlainPlan}
use Rattle.estimator.specs.Cuts.{Cuts}
use Rattle.estimator.specs.Bytes.{Lengths, whole_bytes, new_bytes}
use Rattle.rewrite_core.specs.PlainRewriting.{PlainRewriting, Node, PlainWay, Scan, One, Two, Read, Tail, LeftGrew, RightGrew, BothGrew, PlainDelta, Change, PlainDeltaWay, Unchanged, NewRows, OfChild, OfDistinct, OfJoin}

abbrev mutual
  pub reads_of : Lengths → PlainRewriting → ℕ
  reads_of lengths (Node p c way) = way_reads lengths p c way

  pub way_reads : Lengths → PlainPlan → Cuts → PlainWay → ℕ
  way_reads lengths p c Scan = whole_bytes lengths p c
  way_reads lengths p c (One r) = reads_of lengths r
  way_reads lengths p c (Two l r) = reads_of lengths l + reads_of lengths r
  way_reads lengths p c (Read hit) = hit.len
  way_reads lengths p c (Tail hit d) = hit.len + delta_reads lengths d
  way_reads lengths p c (LeftGrew hit d r) = hit.len + delta_reads lengths d + reads_of lengths r
  way_reads lengths p c (RightGrew hit l d) = hit.len + reads_of lengths l + delta_reads lengths d
  way_reads lengths p c (BothGrew hit l rd ld r) = hit.len + reads_of lengths l + delta_reads lengths rd + delta_reads lengths ld + reads_of lengths r

  pub delta_reads : Lengths → PlainDelta → ℕ
  delta_reads lengths (Change p old new way) = delta_way_reads lengths p old new way

  pub delta_way_reads : Lengths → PlainPlan → Cuts → Cuts → PlainDeltaWay → ℕ
  delta_way_reads lengths p old new Unchanged = 0
  delta_way_reads lengths p old new NewRows = new_bytes lengths p old new
  delta_way_reads lengths p old new (OfChild d) = delta_reads lengths d
  delta_way_reads lengths p old new (OfDistinct r d) = reads_of lengths r + delta_reads lengths d
  delta_way_reads lengths p old new (OfJoin d r) = delta_reads lengths d + reads_of lengths r
