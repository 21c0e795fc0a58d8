-- The picking of the marked places that count.
use Rattle.std.specs.Prelude.{Bool, ◌&&◌, List, [], ◌∷◌, ◌++◌, map, if◌then◌else◌}
use Rattle.plan_core.specs.PlainPlan.{PlainPlan, plan_of}
use Rattle.plan_core.specs.PlainPlan as plan
use Rattle.estimator.specs.Cuts.{Cuts}
use Rattle.rewrite_core.specs.IsRewriting.{lefts, rights}
use Rattle.growth_laws.specs.MadePlaces.{Place, places, counts_below}
use Rattle.made_places.specs.declared.place.Place as code

-- what a place of the code says
abbrev pub place_of : code.Place → Place
place_of at = record { plan = plan_of at.plan; cuts = at.cuts }

abbrev pub places_said : List code.Place → List Place
places_said = map place_of

-- the places below the root
abbrev pub places_below : PlainPlan → Cuts → List Place
places_below (plan.Scan stream) c = []
places_below (plan.Filter child test) c = places child c
places_below (plan.Project child columns) c = places child c
places_below (plan.Distinct child) c = places child c
places_below (plan.Group child keys aggs) c = places child c
places_below (plan.Join left right on) c = places left (lefts left c) ++ places right (rights left c)
places_below (plan.Concat left right) c = places left (lefts left c) ++ places right (rights left c)
places_below (plan.Order child keys) c = places child c

-- the place, if it counts and the first mark says so
abbrev pub if_marked : Bool → Place → List Bool → List Place
if_marked counts at (mark ∷ marks) = if counts && mark then at ∷ [] else []
if_marked counts at [] = []

-- of the marked places those that count below a root
abbrev pub picked : List Place → List Bool → List Place
picked (at ∷ places) (mark ∷ marks) = if_marked (counts_below at.plan) at (mark ∷ marks) ++ picked places marks
picked _ _ = []
