-- The rows of the extents of an interval up to one of them, and those of the next one.
use Rattle.std.proofs.Common.{◌≡◌, refl, ap, ◌∙◌, ℕ, ◌+◌, ◌≤◌, [], ◌++◌, arith}
use Rattle.rows_core.specs.declared.cut.Cut.{Cut}
use Rattle.growth_laws.specs.Lists.{Extents, extents_of, interval_rows}
use Rattle.growth_laws.proofs.LeafLists.{longer_interval, no_rows, one_extent_rows}
use Rattle.executor.specs.Progress.{up_to}
use Rattle.executor.specs.Sources.{extent_rows}

pub next_rows : (extents : Extents) (stream : ℕ) (cut : Cut) (next : ℕ) → cut.from ≤ next
    → interval_rows (extents_of extents stream) (up_to cut (next + 1)) ≡ interval_rows (extents_of extents stream) (up_to cut next) ++ extent_rows extents stream next
next_rows extents stream cut next begun =
    longer_interval (extents_of extents stream) (up_to cut next) (up_to cut (next + 1)) refl begun (omega arith)
    ∙ ap (λ rows. interval_rows (extents_of extents stream) (up_to cut next) ++ rows) (one_extent_rows (extents_of extents stream) next)

pub first_rows : (extents : Extents) (stream : ℕ) (cut : Cut) → interval_rows (extents_of extents stream) (up_to cut cut.from) ≡ []
first_rows extents stream cut = no_rows (extents_of extents stream) cut.from
