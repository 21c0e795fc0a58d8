-- Work that is recorded: its files, and what is known of its change.
use Rattle.std.proofs.Common.{◌≡◌, ℕ, ◌+◌, ◌^◌, ◌≤◌, false, List, [], ◌∷◌, length, Option, sym, ap, ◌∙◌, subst, arith}
use Rattle.std.specs.List.{AllByRecursion}
use Rattle.std.proofs.lemmas.List.{length-map}
use Rattle.outside_traits.specs.View.{View, Now, Only}
use Rattle.row_blob.specs.Spelling.{kept_spelling}
use Rattle.catalog_types.specs.PlainEntry.{PlainNewEntry}
use Rattle.catalog_types.specs.declared.change.Change.{Change}
use Rattle.catalog_types.specs.declared.change.Change.TheVariants as change
use Rattle.catalog_types.specs.declared.program.Program.{Program}
use Rattle.catalog_core.specs.Table.{Table, Fits}
use Rattle.entry_table.specs.Results.{HaveNextFiles}
use Rattle.rows_core.specs.Limits.{file_end}
use Rattle.admission.specs.Admitting.{MadeResult, entries_of}
use Rattle.admission.specs.declared.new_result.NewResult.{NewResult}
use Rattle.folder.specs.Next.{IsReadyResult}
use Rattle.folder.specs.Replay.{is_checkpoint}
use Rattle.folder.specs.State.{Stream}
use Rattle.folder.specs.Written.{AreWritten}
use Rattle.planning.specs.Recorded.{IsRecordOf}
use Rattle.work_plan.specs.Planning.{IsWorkPlan}
use Rattle.work_plan.specs.declared.work.WorkPlan.{WorkPlan}
use Rattle.work_run.specs.Ends.{AreNewFiles}

-- ---- the files of new results

module _ (v : View) (streams : List Stream) where
  ready : (file : ℕ) (news : List PlainNewEntry) (files : List (List ℕ)) → AreNewFiles streams news files → HaveNextFiles file news → AreWritten v file files → AllByRecursion (IsReadyResult v streams) news
  ready file [] files are next written = tt
  ready file (new ∷ news) [] are next written = absurd are
  ready file (new ∷ news) (bytes ∷ files) are next written =
      let first = are.0 in (
        (
          first.0,
          first.1,
          subst (λ (n : ℕ). Only (kept_spelling first.0) (Now v n)) (sym next.0) (subst (λ (b : List ℕ). Only b (Now v file)) first.2 written.0),
        ),
        ready (file + 1) news files are.1 next.2 written.1,
      )

  -- where they were written and the change fits
  pub are-ready : (t : Table) (program : Option Program) (used dropped : List ℕ) (news : List PlainNewEntry) (files : List (List ℕ)) → Fits (change.Work program used dropped news) t → AreNewFiles streams news files
      → AreWritten v (t.next_file + 0) files → AllByRecursion (IsReadyResult v streams) news
  are-ready t program used dropped news files fits are written =
      let same : t.next_file + 0 ≡ t.next_file = omega arith in
      ready t.next_file news files are fits.results.results.kept.files (subst (λ (n : ℕ). AreWritten v n files) same written)

within : (file : ℕ) (news : List PlainNewEntry) → HaveNextFiles file news → file ≤ file_end → file + length news ≤ file_end
within file [] next low = omega (arith, low)
within file (new ∷ news) next low =
    let number = next.1 in
    let rest = within (file + 1) news next.2 (omega (arith, number)) in
    omega (arith, rest)

module _ (t : Table) (program : Option Program) (used dropped : List ℕ) (mades : List MadeResult) (plan : WorkPlan) (is : IsWorkPlan t program used dropped mades plan) where
  -- what it records fits
  pub work_fits : Fits (change.Work program used dropped (entries_of is.admitted)) t
  work_fits = subst (λ (c : Change). Fits c t) is.change is.fits

  -- there are numbers for them
  pub numbered : t.next_file ≤ file_end → t.next_file + 0 + length plan.files.items ≤ 2 ^ 32
  numbered low =
      let next = work_fits.results.results.kept.files in
      let most = within t.next_file (entries_of is.admitted) next low in
      let entries : length (entries_of is.admitted) ≡ length is.admitted = length-map is.admitted (λ (new : NewResult). new.entry) in
      let files : length plan.files.items ≡ length is.admitted = ap length is.files ∙ length-map is.admitted (λ (new : NewResult). new.bytes) in
      omega (arith, most, entries, files)

  pub recorded : IsRecordOf t plan.change plan.body.items
  recorded = record { fits = is.fits; spelled = is.spelled; is_body = is.is_body; short = is.short }

  pub no_checkpoint : is_checkpoint plan.change ≡ false
  no_checkpoint = ap is_checkpoint is.change
