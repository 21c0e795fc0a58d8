-- The places of a plan at which a rewriting makes a result that is kept: its nodes, in post-order, a left input before a right
-- one. Which results are kept is this project's own.
use Rattle.std.specs.Prelude.{◌≡◌, Bool, true, false, ◌&&◌, ◌==◌, List, [], ◌∷◌, ◌++◌, if◌then◌else◌}
use Rattle.std.specs.Cmp.Lexicographic.{pointwise}
use Rattle.std.specs.List.{list_any}
use Rattle.plan_core.specs.PlainPlan.{PlainPlan}
use Rattle.plan_core.specs.PlainPlan as plan
use Rattle.estimator.specs.Cuts.{Cuts}
use Rattle.rewrite_core.specs.IsRewriting.{lefts, rights}
use Rattle.rewrite_core.specs.PlainRewriting.{PlainRewriting, Node, PlainWay, Scan, One, Two, Read, Tail, LeftGrew, RightGrew, BothGrew, PlainDelta, Change, PlainDeltaWay, Unchanged, NewRows, OfChild, OfDistinct, OfJoin}
use Rattle.growth_laws.specs.KeptResults.{KeptResults}
use Rattle.growth_laws.specs.Lists.{Extents}
use Rattle.growth_laws.specs.Parts.{plan_at, cuts_at, IsOwn}

-- a node and its part of the cut
pub record Place : Type 0 where
  pub plan : PlainPlan
  pub cuts : Cuts

abbrev pub place : PlainPlan → Cuts → Place
place p c = record { plan = p; cuts = c }

abbrev pub places : PlainPlan → Cuts → List Place
places (plan.Scan stream) c = place (plan.Scan stream) c ∷ []
places (plan.Filter child test) c = places child c ++ place (plan.Filter child test) c ∷ []
places (plan.Project child columns) c = places child c ++ place (plan.Project child columns) c ∷ []
places (plan.Distinct child) c = places child c ++ place (plan.Distinct child) c ∷ []
places (plan.Group child keys aggs) c = places child c ++ place (plan.Group child keys aggs) c ∷ []
places (plan.Join left right on) c = places left (lefts left c) ++ (places right (rights left c) ++ place (plan.Join left right on) c ∷ [])
places (plan.Concat left right) c = places left (lefts left c) ++ (places right (rights left c) ++ place (plan.Concat left right) c ∷ [])
places (plan.Order child keys) c = places child c ++ place (plan.Order child keys) c ∷ []

-- ---- the trees that stand at each place

-- of each place the computed and grown trees that stand there
abbrev pub Standing : Type 0
Standing = List (List PlainRewriting)

-- no tree at any place of a plan, and of those below it
abbrev pub nowhere : PlainPlan → Standing
nowhere (plan.Scan stream) = [] ∷ []
nowhere (plan.Filter child test) = nowhere child ++ [] ∷ []
nowhere (plan.Project child columns) = nowhere child ++ [] ∷ []
nowhere (plan.Distinct child) = nowhere child ++ [] ∷ []
nowhere (plan.Group child keys aggs) = nowhere child ++ [] ∷ []
nowhere (plan.Join left right on) = nowhere left ++ (nowhere right ++ [] ∷ [])
nowhere (plan.Concat left right) = nowhere left ++ (nowhere right ++ [] ∷ [])
nowhere (plan.Order child keys) = nowhere child ++ [] ∷ []

-- those of both at each place
abbrev pub both_standing : Standing → Standing → Standing
both_standing (trees ∷ standing) (more ∷ others) = (trees ++ more) ∷ both_standing standing others
both_standing _ _ = []

-- the places of the left input, before those of the one that a delta is of
abbrev pub before_tail : PlainPlan → Standing
before_tail (plan.Concat left right) = nowhere left
before_tail _ = []

-- at the root no tree, or this one besides
abbrev pub with_root : List PlainRewriting → Standing → Standing
with_root trees standing = standing ++ trees ∷ []

abbrev mutual
  pub standing_of : PlainRewriting → Standing
  standing_of (Node p c way) = standing_in p way (Node p c way ∷ [])

  pub standing_in : PlainPlan → PlainWay → List PlainRewriting → Standing
  standing_in p Scan root = with_root root []
  standing_in p (One r) root = with_root root (standing_of r)
  standing_in p (Two l r) root = standing_of l ++ with_root root (standing_of r)
  standing_in p (Read hit) root = nowhere p
  standing_in p (Tail hit d) root = before_tail p ++ with_root root (standing_of_delta d)
  standing_in p (LeftGrew hit d r) root = standing_of_delta d ++ with_root root (standing_of r)
  standing_in p (RightGrew hit l d) root = standing_of l ++ with_root root (standing_of_delta d)
  standing_in p (BothGrew hit l rd ld r) root =
      both_standing (standing_of l) (standing_of_delta ld) ++ with_root root (both_standing (standing_of_delta rd) (standing_of r))

  pub standing_of_delta : PlainDelta → Standing
  standing_of_delta (Change p old new way) = standing_in_delta p way

  pub standing_in_delta : PlainPlan → PlainDeltaWay → Standing
  standing_in_delta p Unchanged = nowhere p
  standing_in_delta p NewRows = nowhere p
  standing_in_delta p (OfChild d) = before_tail p ++ with_root [] (standing_of_delta d)
  standing_in_delta p (OfDistinct r d) = both_standing (standing_of r) (with_root [] (standing_of_delta d))
  standing_in_delta p (OfJoin d r) = standing_of_delta d ++ with_root [] (standing_of r)

-- ---- the made ones

abbrev pub same_cuts : Cuts → Cuts → Bool
same_cuts = pointwise (λ a b. (a.from == b.from) && (a.to == b.to))

-- at the own cut of the place
abbrev pub is_made_at : Place → PlainRewriting → Bool
is_made_at at tree = same_cuts (cuts_at tree) at.cuts

-- below the root groups, joins, orders and distincts count
abbrev pub counts_below : PlainPlan → Bool
counts_below (plan.Distinct child) = true
counts_below (plan.Group child keys aggs) = true
counts_below (plan.Join left right on) = true
counts_below (plan.Order child keys) = true
counts_below _ = false

-- at the root every node but a scan
abbrev pub counts_at_root : PlainPlan → Bool
counts_at_root (plan.Scan stream) = false
counts_at_root _ = true

abbrev pub if_made : Bool → Place → List PlainRewriting → List Place → List Place
if_made counts at trees others = if counts && list_any (is_made_at at) trees then at ∷ others else others

abbrev pub made_from : List Place → Standing → List Place
made_from (at ∷ []) (trees ∷ []) = if_made (counts_at_root at.plan) at trees []
made_from (at ∷ next ∷ others) (trees ∷ standing) = if_made (counts_below at.plan) at trees (made_from (next ∷ others) standing)
made_from _ _ = []

-- the places at which the rewriting makes what is kept of the plan and its parts, in post-order
abbrev pub made_places : PlainPlan → Cuts → PlainRewriting → List Place
made_places p c r = made_from (places p c) (standing_of r)

-- this rewriting makes the result of the place
pub record MakesAt (extents : Extents) (results : KeptResults) (at : Place) (part : PlainRewriting) : Type 0 where
  pub of : plan_at part ≡ at.plan
  pub cuts : cuts_at part ≡ at.cuts
  pub own_result : IsOwn extents results part

abbrev pub IsMadeBy : Extents → KeptResults → Place → Type 0
IsMadeBy extents results at = (part : PlainRewriting) × MakesAt extents results at part
