-- Which entries may be those of a table.
use Rattle.std.specs.Prelude.{ℕ, ◌<◌, ◌≤◌, nat_le, nat_lt, Bool, true, not, ◌&&◌, List, [], ◌∷◌, ◌++◌, length, IsTrue}
use Rattle.std.specs.List.{list_all, list_any}
use Rattle.plan_spelling.specs.Spelling.{plan_spelling}
use Rattle.catalog_types.specs.PlainEntry.{PlainEntry}
use Rattle.entry_table.specs.declared.restoring.PlanAndCut.{PlanAndCut}
use Rattle.entry_table.specs.contracts.restoring.PlanAndCutPartialEq.TheImpl as derived
use Rattle.entry_table.specs.Ids.{ids_of, ascend_above}
use Rattle.rows_core.specs.Limits.{most_plan_bytes, most_result_bytes}
use Rattle.entry_table.specs.Work.{most_uses}

-- the ids ascend above this one and are below the next one
abbrev pub HaveIds : ℕ → ℕ → List PlainEntry → Type 0
HaveIds low next_id entries = IsTrue (ascend_above low (ids_of entries)) × IsTrue (list_all (λ id. nat_lt id next_id) (ids_of entries))

-- all that an entry is but for its plan
abbrev pub IsCounted : PlainEntry → Type 0
IsCounted e = (0 < e.uses) × (e.uses ≤ most_uses) × (0 < e.machine) × (e.file.len ≤ most_result_bytes)

-- its plan's spelling is short enough
abbrev pub HasShortPlan : PlainEntry → Type 0
HasShortPlan e = length (plan_spelling e.plan) ≤ most_plan_bytes

-- ---- entries that are alike are found by their plans' spellings

abbrev pub plan_and_cut : PlainEntry → PlanAndCut
plan_and_cut e = record { spelling = plan_spelling e.plan; cuts = e.cuts }

abbrev pub is_same : PlanAndCut → PlanAndCut → Bool
is_same = derived.eq-value.it

-- its plan's spelling is short enough, and its plan and cut aren't among those that were seen
abbrev pub is_fresh : List PlanAndCut → PlainEntry → Bool
is_fresh seen e = nat_le (length (plan_spelling e.plan)) most_plan_bytes && not (list_any (is_same (plan_and_cut e)) seen)

-- so it is with each, where those before it are seen too
abbrev pub are_fresh : List PlanAndCut → List PlainEntry → Bool
are_fresh seen [] = true
are_fresh seen (e ∷ entries) = is_fresh seen e && are_fresh (seen ++ plan_and_cut e ∷ []) entries
