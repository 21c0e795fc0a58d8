-- Marks of places: whether a result is made there.
use Rattle.std.specs.Prelude.{Bool, false, ◌||◌, List, [], ◌∷◌, map}
use Rattle.std.specs.List.{list_any, zip}
use Rattle.plan_core.specs.PlainPlan.{PlainPlan}
use Rattle.plan_core.specs.PlainPlan as plan
use Rattle.estimator.specs.Cuts.{Cuts}
use Rattle.rewrite_core.specs.IsRewriting.{lefts, rights}
use Rattle.growth_laws.specs.MadePlaces.{Place, places, Standing, is_made_at}

-- of each place whether one of the trees that stand there makes its result
abbrev pub marks : List Place → Standing → List Bool
marks (at ∷ places) (trees ∷ standing) = list_any (is_made_at at) trees ∷ marks places standing
marks _ _ = []

-- nothing is made there
abbrev pub unmarked : Standing → List Bool
unmarked = map (λ trees. false)

-- the marks of either
abbrev pub either : List Bool → List Bool → List Bool
either found others = map (λ (mark : Bool × Bool). mark.0 || mark.1) (zip found others)

-- the intervals of the input that a delta is of: of a concatenation the right one
abbrev pub tail_cuts : PlainPlan → Cuts → Cuts
tail_cuts (plan.Concat left right) cuts = rights left cuts
tail_cuts _ cuts = cuts

-- the places before those of that input
abbrev pub places_before : PlainPlan → Cuts → List Place
places_before (plan.Concat left right) cuts = places left (lefts left cuts)
places_before _ cuts = []
