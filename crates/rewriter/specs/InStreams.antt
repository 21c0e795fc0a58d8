-- Each part of a rewriting has a cut of its plan, and what is grown grows from a cut of its plan to another.
use Rattle.plan_core.specs.PlainPlan.{PlainPlan}
use Rattle.estimator.specs.Cuts.{Cuts, EndAtOrBefore}
use Rattle.estimator.specs.Bytes.{Lengths, IsCutOf}
use Rattle.rewrite_core.specs.PlainRewriting.{PlainRewriting, Node, PlainWay, Scan, One, Two, Read, Tail, LeftGrew, RightGrew, BothGrew, PlainDelta, Change, PlainDeltaWay, Unchanged, NewRows, OfChild, OfDistinct, OfJoin}

-- both are cuts of the plan, and no interval of the first one ends behind that of the second one
pub record AreCutsOf (lengths : Lengths) (q : PlainPlan) (old new : Cuts) : Type 0 where
  pub before : IsCutOf lengths q old
  pub after : IsCutOf lengths q new
  pub grows : EndAtOrBefore old new

abbrev mutual
  pub IsInStreams : Lengths → PlainRewriting → Type 0
  IsInStreams lengths (Node p c way) = IsCutOf lengths p c × IsWayInStreams lengths p c way

  pub IsWayInStreams : Lengths → PlainPlan → Cuts → PlainWay → Type 0
  IsWayInStreams lengths p c Scan = Unit {0}
  IsWayInStreams lengths p c (One r) = IsInStreams lengths r
  IsWayInStreams lengths p c (Two l r) = IsInStreams lengths l × IsInStreams lengths r
  IsWayInStreams lengths p c (Read hit) = Unit {0}
  IsWayInStreams lengths p c (Tail hit d) = AreCutsOf lengths p hit.cuts c × IsDeltaInStreams lengths d
  IsWayInStreams lengths p c (LeftGrew hit d r) = AreCutsOf lengths p hit.cuts c × IsDeltaInStreams lengths d × IsInStreams lengths r
  IsWayInStreams lengths p c (RightGrew hit l d) = AreCutsOf lengths p hit.cuts c × IsInStreams lengths l × IsDeltaInStreams lengths d
  IsWayInStreams lengths p c (BothGrew hit l rd ld r) =
      AreCutsOf lengths p hit.cuts c × IsInStreams lengths l × IsDeltaInStreams lengths rd × IsDeltaInStreams lengths ld × IsInStreams lengths r

  pub IsDeltaInStreams : Lengths → PlainDelta → Type 0
  IsDeltaInStreams lengths (Change p old new way) = AreCutsOf lengths p old new × IsDeltaWayInStreams lengths p old new way

  pub IsDeltaWayInStreams : Lengths → PlainPlan → Cuts → Cuts → PlainDeltaWay → Type 0
  IsDeltaWayInStreams lengths p old new Unchanged = Unit {0}
  IsDeltaWayInStreams lengths p old new NewRows = Unit {0}
  IsDeltaWayInStreams lengths p old new (OfChild d) = IsDeltaInStreams lengths d
  IsDeltaWayInStreams lengths p old new (OfDistinct r d) = IsInStreams lengths r × IsDeltaInStreams lengths d
  IsDeltaWayInStreams lengths p old new (OfJoin d r) = IsDeltaInStreams lengths d × IsInStreams lengths r
