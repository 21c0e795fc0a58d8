-- What a piece of work records.
use Rattle.std.specs.Prelude.{◌≡◌, ℕ, ◌^◌, ◌<◌, ◌≤◌, List, [], length, map, Option}
use Rattle.std.specs.List.{range_with_len}
use Rattle.admission.specs.declared.new_result.NewResult.{NewResult}
use Rattle.admission.specs.Admitting.{MadeResult, entries_of, Admits}
use Rattle.catalog_types.specs.declared.change.Change.TheVariants as change
use Rattle.catalog_types.specs.declared.program.Program.{Program}
use Rattle.entry_table.specs.Ids.{without}
use Rattle.catalog_core.specs.Table.{Table, Fits}
use Rattle.record_codec.specs.Spelling.{change_spelling, HasChangeSpelling}
use Rattle.work_plan.specs.declared.work.WorkPlan.{WorkPlan}

-- the ids from this one on, so many
abbrev pub ids_from : ℕ → ℕ → List ℕ
ids_from first count = range_with_len first count

-- the bytes of the files of new results, in order
abbrev pub files_of : List NewResult → List (List ℕ)
files_of admitted = map (λ (new : NewResult). new.bytes) admitted

-- Of the results that were made those are kept, with the next ids, that are admitted beside the table's but those that are dropped.
-- The change of them, of the program and of the results that were used and are dropped fits the table; its bytes are its
-- spelling, and are few.
pub record IsWorkPlan (t : Table) (program : Option Program) (used dropped : List ℕ) (mades : List MadeResult) (plan : WorkPlan) : Type 0 where
  pub admitted : List NewResult
  pub admits : Admits (without dropped t.entries) t.next_file [] mades admitted
  pub change : plan.change ≡ change.Work program used dropped (entries_of admitted)
  pub fits : Fits plan.change t
  pub spelled : HasChangeSpelling plan.change
  pub is_body : plan.body.items ≡ change_spelling plan.change
  pub short : length plan.body.items < 2 ^ 29
  pub files : plan.files.items ≡ files_of admitted
  pub kept : plan.kept.items ≡ ids_from t.next_id (length admitted)
  pub few : length plan.kept.items ≤ 4096
