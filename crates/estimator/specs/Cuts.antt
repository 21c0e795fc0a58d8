-- Cuts: for each leaf of a plan, from the left, the extents of its stream that count.
use Rattle.std.specs.Prelude.{◌≤◌, ℕ, ◌+◌, List, [], ◌∷◌}
use Rattle.rows_core.specs.declared.cut.Cut.{Cut}

abbrev pub Cuts : Type 0
Cuts = List Cut

-- each interval begins at or before its end
abbrev pub AreIntervals : Cuts → Type 0
AreIntervals [] = Unit {0}
AreIntervals (cut ∷ cuts) = (cut.from ≤ cut.to) × AreIntervals cuts

-- each interval begins and ends at or before the one at its place
abbrev pub AreAtOrBefore : Cuts → Cuts → Type 0
AreAtOrBefore [] [] = Unit {0}
AreAtOrBefore (old ∷ olds) (new ∷ news) = (old.from ≤ new.from) × (old.to ≤ new.to) × AreAtOrBefore olds news
AreAtOrBefore _ _ = ⊥

-- each interval ends at or before the one at its place
abbrev pub EndAtOrBefore : Cuts → Cuts → Type 0
EndAtOrBefore [] [] = Unit {0}
EndAtOrBefore (old ∷ olds) (new ∷ news) = (old.to ≤ new.to) × EndAtOrBefore olds news
EndAtOrBefore _ _ = ⊥

-- how far the intervals reach together
abbrev pub reach : Cuts → ℕ
reach [] = 0
reach (cut ∷ cuts) = cut.to + reach cuts

-- the extents from the end of the old interval to that of the new one
abbrev pub added_cut : Cut → Cut → Cut
added_cut old new = record { from = old.to; to = new.to }

abbrev pub added_cuts : Cuts → Cuts → Cuts
added_cuts (old ∷ olds) (new ∷ news) = added_cut old new ∷ added_cuts olds news
added_cuts _ _ = []
