-- What a rewriting makes of the results that are kept and of the extents' rows.
use Rattle.std.specs.Prelude.{Result, Ok}
use Rattle.rows_core.specs.declared.overflow.Overflow.{Overflow}
use Rattle.plan_core.specs.PlainPlan.{PlainPlan}
use Rattle.estimator.specs.Cuts.{Cuts, added_cuts}
use Rattle.rewrite_core.specs.PlainRewriting.{PlainRewriting, Node, PlainWay, Scan, One, Two, Read, Tail, LeftGrew, RightGrew, BothGrew, PlainDelta, Change, PlainDeltaWay, Unchanged, NewRows, OfChild, OfDistinct, OfJoin}
use Rattle.growth_laws.specs.Growth.{Added, Made}
use Rattle.growth_laws.specs.KeptResults.{KeptResults}
use Rattle.growth_laws.specs.Lists.{Extents, plan_lists}
use Rattle.growth_laws.specs.Making.{made_before, scanned, computed_one, computed_two, nothing_added, new_extents, passed_delta, distinct_delta, join_delta, grown_one, grown_left, grown_right, grown_both}

abbrev mutual
  pub made_by : Extents → KeptResults → PlainRewriting → Result Made Overflow
  made_by extents results (Node plan cuts way) = made_in extents results plan cuts way

  pub made_in : Extents → KeptResults → PlainPlan → Cuts → PlainWay → Result Made Overflow
  made_in extents results plan cuts Scan = Ok (scanned (plan_lists extents plan cuts))
  made_in extents results plan cuts (One r) = computed_one plan (made_by extents results r)
  made_in extents results plan cuts (Two l r) = computed_two plan (made_by extents results l) (made_by extents results r)
  made_in extents results plan cuts (Read hit) = Ok (made_before (results hit.id))
  made_in extents results plan cuts (Tail hit d) = grown_one plan (made_before (results hit.id)) (added_by extents results d)
  made_in extents results plan cuts (LeftGrew hit d r) =
      grown_left plan (made_before (results hit.id)) (added_by extents results d) (made_by extents results r)
  made_in extents results plan cuts (RightGrew hit l d) =
      grown_right plan (made_before (results hit.id)) (made_by extents results l) (added_by extents results d)
  made_in extents results plan cuts (BothGrew hit l rd ld r) =
      grown_both plan (made_before (results hit.id)) (made_by extents results l) (added_by extents results rd) (added_by extents results ld)
      (made_by extents results r)

  pub added_by : Extents → KeptResults → PlainDelta → Result Added Overflow
  added_by extents results (Change plan old new way) = added_in extents results plan old new way

  pub added_in : Extents → KeptResults → PlainPlan → Cuts → Cuts → PlainDeltaWay → Result Added Overflow
  added_in extents results plan old new Unchanged = Ok nothing_added
  added_in extents results plan old new NewRows = Ok (new_extents (plan_lists extents plan (added_cuts old new)))
  added_in extents results plan old new (OfChild d) = passed_delta plan (added_by extents results d)
  added_in extents results plan old new (OfDistinct r d) = distinct_delta (made_by extents results r) (added_by extents results d)
  added_in extents results plan old new (OfJoin d r) = join_delta plan (added_by extents results d) (made_by extents results r)
