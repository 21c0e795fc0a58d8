-- Which results are admitted beside the entries that are there, and the files in which they stand. The limits, and that the
-- first of several results goes first, are this project's own.
use Rattle.std.specs.Prelude.{◌≡◌, ◌⊎◌, ℕ, ◌+◌, ◌<◌, ◌≤◌, List, [], ◌∷◌, ◌++◌, length, map, Option, None, Some}
use Rattle.std.specs.List.{AllByRecursion}
use Rattle.rows_core.specs.declared.cut.Cut.{Cut}
use Rattle.row_blob.specs.Spelling.{kept_spelling}
use Rattle.row_blob.specs.declared.kept.Kept.{Kept}
use Rattle.extent_files.specs.Files.{digest_of}
use Rattle.plan_core.specs.PlainPlan.{PlainPlan, plan_of}
use Rattle.plan_spelling.specs.Spelling.{plan_spelling}
use Rattle.catalog_types.specs.PlainEntry.{PlainEntry, PlainNewEntry}
use Rattle.entry_table.specs.Results.{IsOf}
use Rattle.rows_core.specs.Limits.{most_entries, most_result_bytes, most_plan_bytes, file_end}
use Rattle.admission.specs.declared.new_result.NewResult.{NewResult}
use Rattle.executor.specs.declared.outcome.KeptPlace.{KeptPlace}

-- a result that was made: of this plan at this cut, with its kept form and its machine time
pub record MadeResult : Type 0 where
  pub plan : PlainPlan
  pub cuts : List Cut
  pub form : Kept
  pub machine : ℕ

abbrev pub made_of : KeptPlace → MadeResult
made_of made = record { plan = plan_of made.plan; cuts = made.cuts; form = made.kept; machine = made.machine }

-- the result as it is kept in the file of this number
abbrev pub kept_in : ℕ → MadeResult → NewResult
kept_in file made = record {
  entry = record {
    plan = made.plan;
    cuts = made.cuts;
    file = record { file = file; len = length (kept_spelling made.form); digest = digest_of (kept_spelling made.form) };
    machine = made.machine;
  };
  bytes = kept_spelling made.form;
}

abbrev pub entries_of : List NewResult → List PlainNewEntry
entries_of results = map (λ (result : NewResult). result.entry) results

-- it is of another plan, or at another cut
abbrev pub IsOther : MadeResult → PlainPlan → List Cut → Type 0
IsOther made plan cuts = ¬ ((plan ≡ made.plan) × (cuts ≡ made.cuts))

-- Beside the entries, and those that were admitted before, there is room for it and a number for its file; its plan and its
-- file are short enough; and none has its plan and cut.
pub record MayBeAdmitted (entries : List PlainEntry) (file : ℕ) (before : List NewResult) (made : MadeResult) : Type 0 where
  pub few : length entries + length before < most_entries
  pub numbered : file + length before < file_end
  pub short_plan : length (plan_spelling made.plan) ≤ most_plan_bytes
  pub short_file : length (kept_spelling made.form) ≤ most_result_bytes
  pub is_new : AllByRecursion (λ e. IsOther made e.plan e.cuts) entries
  pub differs : AllByRecursion (λ (other : NewResult). IsOther made other.entry.plan other.entry.cuts) before

-- the result in the file behind those of the ones before it
abbrev pub next_of : ℕ → List NewResult → MadeResult → NewResult
next_of file before made = kept_in (file + length before) made

-- it is admitted, or may not be
abbrev pub Decides : List PlainEntry → ℕ → List NewResult → MadeResult → Option NewResult → Type 0
Decides entries file before made (Some new) = MayBeAdmitted entries file before made × (new ≡ next_of file before made)
Decides entries file before made None = ¬ (MayBeAdmitted entries file before made)

-- Behind those that were admitted before, each of the made results in order is admitted that may be; their files are
-- numbered from this number on.
abbrev pub Admits : List PlainEntry → ℕ → List NewResult → List MadeResult → List NewResult → Type 0
Admits entries file before [] admitted = admitted ≡ before
Admits entries file before (made ∷ others) admitted =
    (MayBeAdmitted entries file before made × Admits entries file (before ++ next_of file before made ∷ []) others admitted)
    ⊎ (¬ (MayBeAdmitted entries file before made) × Admits entries file before others admitted)
