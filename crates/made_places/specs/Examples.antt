-- Worked places: the definitions compute them.
use Rattle.std.specs.Prelude.{◌≡◌, refl, ℕ, true, false, [], ◌∷◌}
use Rattle.rows_core.specs.declared.cut.Cut.{Cut}
use Rattle.scalar_ops.specs.declared.cell.Cell.TheVariants as cell
use Rattle.plan_core.specs.declared.agg.Agg.TheVariants.{Count}
use Rattle.plan_core.specs.PlainExpr.{Literal}
use Rattle.plan_core.specs.PlainPlan.{PlainPlan, Scan, Filter, Distinct, Group, Join}
use Rattle.estimator.specs.Cuts.{Cuts}
use Rattle.rewrite_core.specs.declared.rewriting.Hit.{Hit}
use Rattle.rewrite_core.specs.Computed.{computed}
use Rattle.rewrite_core.specs.PlainRewriting.{PlainRewriting, Node, One, Read, BothGrew, PlainDelta, Change, NewRows, OfDistinct}
use Rattle.growth_laws.specs.MadePlaces.{place, places, standing_of, made_places}
use Rattle.made_places.specs.Marks.{marks}

abbrev up_to : ℕ → Cut
up_to n = record { from = 0; to = n }

abbrev new : Cuts
new = up_to 2 ∷ up_to 3 ∷ []

abbrev hit : Cuts → Hit
hit cuts = record { id = 7; cuts = cuts; len = 64 }

-- ---- a join over two filters: below the root filters don't count

abbrev some_of : ℕ → PlainPlan
some_of stream = Filter (Scan stream) (Literal (cell.Bool true))

abbrev joined_filters : PlainPlan
joined_filters = Join (some_of 0) (some_of 1) ((0, 0) ∷ [])

pub join_of_filters : made_places joined_filters new (computed joined_filters new) ≡ place joined_filters new ∷ []
join_of_filters = refl

-- ---- a group over a distinct that is read

abbrev once : ℕ → PlainPlan
once stream = Distinct (Scan stream)

abbrev counted : PlainPlan
counted = Group (once 0) (0 ∷ []) (Count ∷ [])

pub group_over_read : made_places counted (up_to 2 ∷ []) (Node counted (up_to 2 ∷ []) (One (Node (once 0) (up_to 2 ∷ []) (Read (hit (up_to 2 ∷ []))))))
    ≡ place counted (up_to 2 ∷ []) ∷ []
group_over_read = refl

-- ---- a join of which both inputs grew: the left one is computed at the earlier cut, the right one at its own

abbrev joined : PlainPlan
joined = Join (once 0) (once 1) ((0, 0) ∷ [])

-- what a distinct adds to what is kept of it at an earlier cut
abbrev added : ℕ → Cuts → Cuts → PlainDelta
added stream old new =
    Change (once stream) old new (OfDistinct (Node (once stream) old (Read (hit old))) (Change (Scan stream) old new NewRows))

-- from one earlier cut of both inputs
abbrev grown_from : Cut → Cut → Cut → PlainRewriting
grown_from old left right =
    Node joined (left ∷ right ∷ [])
    (BothGrew (hit (old ∷ old ∷ [])) (computed (once 0) (old ∷ [])) (added 1 (old ∷ []) (right ∷ [])) (added 0 (old ∷ []) (left ∷ [])) (computed (once 1) (right ∷ [])))

abbrev both_grew : PlainRewriting
both_grew = grown_from (up_to 1) (up_to 2) (up_to 3)

pub both_marked : marks (places joined new) (standing_of both_grew) ≡ false ∷ false ∷ true ∷ true ∷ true ∷ []
both_marked = refl

pub both_made : made_places joined new both_grew ≡ place (once 1) (up_to 3 ∷ []) ∷ place joined new ∷ []
both_made = refl

-- ---- windows that don't begin at the first extent

abbrev window : ℕ → ℕ → Cut
window from to = record { from = from; to = to }

-- the same join, from the second extents on
abbrev windows : Cuts
windows = window 1 3 ∷ window 1 4 ∷ []

pub windows_made : made_places joined windows (grown_from (window 1 2) (window 1 3) (window 1 4)) ≡ place (once 1) (window 1 4 ∷ []) ∷ place joined windows ∷ []
windows_made = refl

-- what is computed at a window with the same end, and another beginning, isn't made at the place
pub moved_marked : marks (places (once 0) (window 1 3 ∷ [])) (standing_of (computed (once 0) (window 0 3 ∷ []))) ≡ false ∷ false ∷ []
moved_marked = refl

pub own_marked : marks (places (once 0) (window 1 3 ∷ [])) (standing_of (computed (once 0) (window 1 3 ∷ []))) ≡ true ∷ true ∷ []
own_marked = refl
