-- Programs that fit and new results that may be kept have spellings.
use Rattle.std.proofs.Common.{◌≡◌, ℕ, ◌+◌, ◌<◌, ◌≤◌, List, [], ◌∷◌, length, Option, None, Some, Ok, IfSome, arith}
use Rattle.std.specs.List.{AllByRecursion}
use Rattle.rows_core.specs.declared.schema.Column.{Column}
use Rattle.rows_core.specs.Name.{IsName}
use Rattle.plan_core.specs.Nesting.{node_count, expr_count}
use Rattle.plan_core.specs.PlainPlan.{PlainPlan, leaves, leaf_count}
use Rattle.plan_spelling.specs.Spelling.{plan_spelling}
use Rattle.plan_text.specs.Counts.{IsWithinLimits}
use Rattle.plan_text.specs.PlainNamed.{PlainTree}
use Rattle.plan_binder.specs.Binding.{Names, binding}
use Rattle.catalog_types.specs.PlainEntry.{PlainNewEntry}
use Rattle.catalog_types.specs.declared.program.Program.{Program}
use Rattle.catalog_types.specs.declared.snapshot.StreamState.{StreamState}
use Rattle.entry_table.specs.Results.{IsResult, HaveNextFiles}
use Rattle.rows_core.specs.Limits.{most_result_bytes, most_plan_bytes, file_end}
use Rattle.entry_table.specs.Results as results
use Rattle.catalog_core.specs.IsTable.{IsStream}
use Rattle.catalog_core.specs.Programs.{names_of, columns_of}
use Rattle.catalog_core.specs.Table.{Table, FitsProgram}
use Rattle.record_codec.specs.Limits.{HasShortTextIf}
use Rattle.record_codec.specs.Spelling.{IsNumber, HasProgramIfSpelling, HasNewEntrySpelling}
use Rattle.work_plan.specs.Fitting.{IsFit}
use Rattle.work_plan.proofs.CutParts.{as-many, are-numbers}

-- of plans within the limits of written plans, which have nine leaves at most
abbrev pub WrittenLimits : Type 0
WrittenLimits = (streams : Names) (schemas : List (List Column)) (tree : PlainTree) (plan : PlainPlan) → binding streams schemas tree ≡ Ok plan → IsWithinLimits tree
    → (node_count plan ≤ 40) × (expr_count plan ≤ 512) × (leaf_count plan ≤ 9)

pub record IsSpelledProgram (program : Option Program) : Type 0 where
  pub spelled : HasProgramIfSpelling program
  pub short : HasShortTextIf program

pub program-spelled : (t : Table) → AllByRecursion IsStream t.streams → WrittenLimits → (program : Option Program) → IfSome program (λ (program : Program). IsName program.name)
    → FitsProgram program t → IsSpelledProgram program
program-spelled t streams limits None named fits = record { spelled = tt; short = tt }
program-spelled t streams limits (Some program) named fits =
    let is = fits.0 in
    let written = limits (names_of t.streams) (columns_of t.streams) is.is_plan.tree is.plan is.is_plan.bound is.is_plan.canonical.1 in
    let leaves-few : leaf_count is.plan ≤ 9 = written.2 in
    let same : length program.cuts ≡ length (leaves is.plan) = as-many t.streams (leaves is.plan) program.cuts is.are_cuts in
    let short = is.short in
    record {
      spelled = (named, omega (arith, short), (omega (arith, same, leaves-few), are-numbers t.streams streams (leaves is.plan) program.cuts is.are_cuts));
      short = short;
    }

-- ---- new results

-- what is known of a new result besides that it may be kept
pub record IsKnown (streams : List StreamState) (new : PlainNewEntry) : Type 0 where
  pub fit : IsFit streams new.plan new.cuts
  pub digest : length new.file.digest.bytes ≡ 32

pub results-spelled : (streams : List StreamState) → AllByRecursion IsStream streams → (file : ℕ) (news : List PlainNewEntry) → AllByRecursion (IsKnown streams) news
    → AllByRecursion (λ (new : PlainNewEntry). IsNumber new.machine) news → HaveNextFiles file news → AllByRecursion IsResult news → AllByRecursion results.IsShort news
    → AllByRecursion HasNewEntrySpelling news
results-spelled streams are file [] known numbers files results short = tt
results-spelled streams are file (new ∷ news) known numbers files results short =
    let fit = known.0.fit in
    let same : length new.cuts ≡ length (leaves new.plan) = as-many streams (leaves new.plan) new.cuts fit.over.are_cuts in
    let few : leaf_count new.plan < 256 = fit.few in
    let plan-short : length (plan_spelling new.plan) ≤ most_plan_bytes = short.0 in
    let number : new.file.file ≡ file = files.0 in
    let last : file < file_end = files.1 in
    let long : new.file.len ≤ most_result_bytes = results.0.0 in (
      (
        ((fit.spelled, fit.deep), omega (arith, plan-short)),
        (omega (arith, same, few), are-numbers streams are (leaves new.plan) new.cuts fit.over.are_cuts),
        (omega (arith, number, last), omega (arith, long), known.0.digest),
        numbers.0,
      ),
      results-spelled streams are (file + 1) news known.1 numbers.1 files.2 results.1 short.1,
    )
