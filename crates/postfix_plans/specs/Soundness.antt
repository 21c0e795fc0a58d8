-- What makes a list of kept results sound.
use Rattle.std.specs.Prelude.{◌≡◌, ◌≢◌, [], ◌∷◌, length}
use Rattle.plan_core.specs.PlainPlan.{leaf_count}
use Rattle.estimator.specs.Cuts.{AreIntervals}
use Rattle.rewrite_core.specs.Entries.{Entry, Entries}
use Rattle.rewrite_core.specs.Looking.{IsAt}

-- neither their ids nor their plans and cuts are the same
abbrev pub IsApart : Entry → Entry → Type 0
IsApart first other = (first.id ≢ other.id) × (IsAt first other.plan other.cuts → ⊥)

abbrev pub AreApart : Entry → Entries → Type 0
AreApart first [] = Unit {0}
AreApart first (other ∷ others) = IsApart first other × AreApart first others

-- its cut has an interval for each leaf of its plan
abbrev pub IsOfLeaves : Entry → Type 0
IsOfLeaves e = (length e.cuts ≡ leaf_count e.plan) × AreIntervals e.cuts
