-- Which new results may be kept beside entries.
use Rattle.std.specs.Prelude.{◌≡◌, ℕ, ◌+◌, ◌<◌, ◌≤◌, List, [], ◌∷◌, length, not, IsTrue}
use Rattle.std.specs.List.{AllByRecursion}
use Rattle.rows_core.specs.Limits.{most_entries, most_result_bytes, most_plan_bytes, file_end}
use Rattle.rows_core.specs.declared.cut.Cut.{Cut}
use Rattle.plan_core.specs.PlainPlan.{PlainPlan}
use Rattle.plan_spelling.specs.Spelling.{plan_spelling}
use Rattle.catalog_types.specs.PlainEntry.{PlainEntry, PlainNewEntry}
use Rattle.entry_table.specs.Ids.{is_among, without}

-- ---- one new result

-- its file is short enough, and its machine time isn't 0
abbrev pub IsResult : PlainNewEntry → Type 0
IsResult new = (new.file.len ≤ most_result_bytes) × (0 < new.machine)

-- its plan's spelling is short enough
abbrev pub IsShort : PlainNewEntry → Type 0
IsShort new = length (plan_spelling new.plan) ≤ most_plan_bytes

-- it is of this plan and cut
abbrev pub IsOf : PlainPlan → List Cut → PlainNewEntry → Type 0
IsOf plan cuts new = (plan ≡ new.plan) × (cuts ≡ new.cuts)

-- no entry has its plan and cut, but for those that are dropped
abbrev pub IsNewTo : List PlainEntry → List ℕ → PlainNewEntry → Type 0
IsNewTo entries dropped new =
    AllByRecursion (λ e. IsTrue (not (is_among dropped e.id)) → ¬ (IsOf e.plan e.cuts new)) entries

-- ---- all of them

-- their files are the next ones, in order
abbrev pub HaveNextFiles : ℕ → List PlainNewEntry → Type 0
HaveNextFiles file [] = Unit {0}
HaveNextFiles file (new ∷ news) = (new.file.file ≡ file) × (file < file_end) × HaveNextFiles (file + 1) news

-- no two of them have the same plan and cut
abbrev pub Differ : List PlainNewEntry → Type 0
Differ [] = Unit {0}
Differ (new ∷ news) = AllByRecursion (λ other. ¬ (IsOf new.plan new.cuts other)) news × Differ news

-- Beside the entries but for those that are dropped they are few enough, and none has the plan and cut of another.
pub record AreNew (entries : List PlainEntry) (dropped : List ℕ) (kept : List PlainNewEntry) : Type 0 where
  pub few : length (without dropped entries) + length kept ≤ most_entries
  pub results : AllByRecursion IsResult kept
  pub new : AllByRecursion (IsNewTo entries dropped) kept
  pub differ : Differ kept

-- These may be kept where these of the entries are dropped, and the next file has this number.
pub record MayBeKept (entries : List PlainEntry) (dropped : List ℕ) (next_file : ℕ) (kept : List PlainNewEntry) : Type 0 where
  pub are_new : AreNew entries dropped kept
  pub files : HaveNextFiles next_file kept
  pub short : AllByRecursion IsShort kept
