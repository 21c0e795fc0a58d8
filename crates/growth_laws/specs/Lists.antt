-- The rows of the streams, extent by extent, and the lists that the leaves of a plan have of them at a cut.
use Rattle.std.specs.Prelude.{ℕ, ◌+◌, List, [], ◌∷◌, slice_range, slice_get, unwrap_or}
use Rattle.std.specs.List.{flat_map}
use Rattle.rows_core.specs.declared.cut.Cut.{Cut}
use Rattle.plan_core.specs.Columns.{Rows}
use Rattle.plan_core.specs.PlainPlan.{PlainPlan, leaves}
use Rattle.estimator.specs.Cuts.{Cuts}

-- of each stream the rows of each of its extents
abbrev pub Extents : Type 0
Extents = List (List Rows)

abbrev pub extents_of : Extents → ℕ → List Rows
extents_of extents stream = unwrap_or (slice_get extents stream) []

-- the rows of a stream's extents in an interval, one extent behind the other
abbrev pub interval_rows : List Rows → Cut → Rows
interval_rows extents cut = flat_map (λ rows. rows) (slice_range extents cut.from cut.to)

-- of each of these streams, from the left, the rows in its interval
abbrev pub lists_at : Extents → List ℕ → Cuts → List Rows
lists_at extents (stream ∷ streams) (cut ∷ cuts) = interval_rows (extents_of extents stream) cut ∷ lists_at extents streams cuts
lists_at extents _ _ = []

-- those of a plan's leaves
abbrev pub plan_lists : Extents → PlainPlan → Cuts → List Rows
plan_lists extents plan cuts = lists_at extents (leaves plan) cuts

-- no extent, and the one of this number
abbrev pub no_extent : ℕ → Cut
no_extent number = record { from = number; to = number }

abbrev pub one_extent : ℕ → Cut
one_extent number = record { from = number; to = number + 1 }
