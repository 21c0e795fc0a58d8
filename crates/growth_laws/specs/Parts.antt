-- The rewritings that stand in a rewriting: itself, and those of its parts.
use Rattle.std.specs.Prelude.{List, [], ◌∷◌, ◌++◌}
use Rattle.plan_core.specs.PlainPlan.{PlainPlan}
use Rattle.estimator.specs.Cuts.{Cuts}
use Rattle.rewrite_core.specs.PlainRewriting.{PlainRewriting, Node, PlainWay, Scan, One, Two, Read, Tail, LeftGrew, RightGrew, BothGrew, PlainDelta, Change, PlainDeltaWay, Unchanged, NewRows, OfChild, OfDistinct, OfJoin}
use Rattle.rewrite_core.specs.IsRewriting.{IsRewriting}
use Rattle.growth_laws.specs.Growth.{IsMade}
use Rattle.growth_laws.specs.KeptResults.{KeptResults, kept_among}
use Rattle.growth_laws.specs.Lists.{Extents, plan_lists}
use Rattle.growth_laws.specs.Trees.{made_by}

abbrev pub plan_at : PlainRewriting → PlainPlan
plan_at (Node plan cuts way) = plan

abbrev pub cuts_at : PlainRewriting → Cuts
cuts_at (Node plan cuts way) = cuts

abbrev mutual
  pub parts_of : PlainRewriting → List PlainRewriting
  parts_of (Node plan cuts way) = Node plan cuts way ∷ parts_in way

  pub parts_in : PlainWay → List PlainRewriting
  parts_in Scan = []
  parts_in (One r) = parts_of r
  parts_in (Two l r) = parts_of l ++ parts_of r
  parts_in (Read hit) = []
  parts_in (Tail hit d) = parts_of_delta d
  parts_in (LeftGrew hit d r) = parts_of_delta d ++ parts_of r
  parts_in (RightGrew hit l d) = parts_of l ++ parts_of_delta d
  parts_in (BothGrew hit l rd ld r) = parts_of l ++ parts_of_delta rd ++ parts_of_delta ld ++ parts_of r

  pub parts_of_delta : PlainDelta → List PlainRewriting
  parts_of_delta (Change plan old new way) = parts_in_delta way

  pub parts_in_delta : PlainDeltaWay → List PlainRewriting
  parts_in_delta Unchanged = []
  parts_in_delta NewRows = []
  parts_in_delta (OfChild d) = parts_of_delta d
  parts_in_delta (OfDistinct r d) = parts_of r ++ parts_of_delta d
  parts_in_delta (OfJoin d r) = parts_of_delta d ++ parts_of r

-- it makes the result of its own plan at its own cut
pub record IsOwn (extents : Extents) (results : KeptResults) (part : PlainRewriting) : Type 0 where
  pub is : IsRewriting (kept_among extents results) (plan_at part) (cuts_at part) part
  pub made : IsMade (plan_at part) (plan_lists extents (plan_at part) (cuts_at part)) (made_by extents results part)
