-- The kept results that look-ups ask.
use Rattle.std.specs.Prelude.{ℕ, Bool, not, ◌==◌, List, map, IsTrue}
use Rattle.std.specs.List.{list_any, filter}
use Rattle.plan_core.specs.PlainPlan.{PlainPlan}
use Rattle.estimator.specs.Cuts.{Cuts}
use Rattle.catalog_types.specs.PlainEntry.{PlainEntry}
use Rattle.rewrite_core.specs.Entries.{Entry, Entries}
use Rattle.rewrite_core.specs.Looking.{IsAt, ComesBefore}

abbrev pub entry : PlainEntry → Entry
entry e = record { id = e.id; plan = e.plan; cuts = e.cuts; len = e.file.len }

-- it isn't left out
abbrev pub is_asked : List ℕ → PlainEntry → Bool
is_asked without e = not (list_any (λ id. id == e.id) without)

abbrev pub asked : List ℕ → List PlainEntry → Entries
asked without entries = map entry (filter (is_asked without) entries)

-- it is asked, and of this plan and cut
abbrev pub IsWholeAt : List ℕ → PlainPlan → Cuts → PlainEntry → Type 0
IsWholeAt without plan cuts e = IsTrue (is_asked without e) × IsAt (entry e) plan cuts

-- it is asked, and of this plan and another cut, which is at or before this one
abbrev pub IsEarlierAt : List ℕ → PlainPlan → Cuts → PlainEntry → Type 0
IsEarlierAt without plan cuts e = IsTrue (is_asked without e) × ComesBefore (entry e) plan cuts
