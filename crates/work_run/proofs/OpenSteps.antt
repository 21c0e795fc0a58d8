-- Open work, one file on.
use Rattle.std.proofs.Common.{◌≡◌, sym, ap, ◌∙◌, subst, ℕ, ◌+◌, ◌^◌, ◌-◌, ◌≤◌, min, List, [], ◌∷◌, ◌++◌, length, take, IsOk, append_assoc, arith}
use Rattle.outside_traits.specs.Counts.{Rose}
use Rattle.outside_traits.specs.View.{Counts}
use Rattle.extent_files.specs.Files.{digest_of}
use Rattle.extent_files.specs.Reads.{SpellsNone}
use Rattle.plan_core.specs.PlainPlan.{PlainPlan, leaves}
use Rattle.plan_core.specs.PlanTyping.{plan_typing}
use Rattle.estimator.specs.Bytes.{capped}
use Rattle.rewrite_core.specs.Files.{FileName, AreIdsOf, files_of}
use Rattle.rewrite_core.specs.PlainRewriting.{PlainRewriting, rewriting_of}
use Rattle.growth_laws.specs.Pieces.{Piece, pieces_of}
use Rattle.catalog_types.specs.declared.program.Program.{Program}
use Rattle.catalog_core.specs.Named.{file_at, bytes_named}
use Rattle.catalog_core.specs.Programs.{AreCuts, IsProgram, kinds_of_streams}
use Rattle.catalog_core.specs.Table.{Table}
use Rattle.executor.specs.Progress.{ArePartsOf}
use Rattle.executor.specs.Running.{TookAtLeast}
use Rattle.executor.specs.Runs.{HasRunCause, IsRunFound}
use Rattle.executor.specs.declared.refusal.RunRefusal.{RunRefusal}
use Rattle.executor.specs.declared.refusal.RunRefusal.TheVariants as run
use Rattle.plan_choice.specs.Taken.{Serves}
use Rattle.work_plan.specs.Fitting.{IsFit}
use Rattle.work_run.specs.Ends.{sources_of}
use Rattle.work_run.specs.Opened.{IsOpen, IsSameWork, opened_rewriting, files_left}
use Rattle.work_run.specs.declared.open.OpenWork.{OpenWork}

-- what makes work open, of its program and its rewriting
module _ (t : Table) (plan : PlainPlan) (work : OpenWork) (program : Program) (r : PlainRewriting) (program_is : work.program ≡ program) (rewriting_is : opened_rewriting work ≡ r) where
  pub opens : (normal : PlainPlan) → Serves t plan normal program.cuts r → AreIdsOf (files_of r) work.used.items → work.read ≡ capped (bytes_named t (files_of r)) → IsOk (plan_typing (kinds_of_streams t.streams) plan)
      → AreCuts t.streams (leaves plan) program.cuts → IsFit t.streams normal program.cuts → IsProgram t.streams program → ArePartsOf (kinds_of_streams t.streams) (pieces_of r) work.job.parts.items
      → (names : List FileName) → files_of r ≡ names ++ files_left work → IsOpen t plan work
  opens normal serves used read typed are_cuts fit is_program parts names rest = record {
    normal = normal;
    serves = subst (λ (x : PlainRewriting). Serves t plan normal work.program.cuts x) (sym rewriting_is) (subst (λ (p : Program). Serves t plan normal p.cuts r) (sym program_is) serves);
    used = subst (λ (x : PlainRewriting). AreIdsOf (files_of x) work.used.items) (sym rewriting_is) used;
    read = read ∙ ap (λ (x : PlainRewriting). capped (bytes_named t (files_of x))) (sym rewriting_is);
    typed = typed;
    are_cuts = subst (λ (p : Program). AreCuts t.streams (leaves plan) p.cuts) (sym program_is) are_cuts;
    fit = subst (λ (p : Program). IsFit t.streams normal p.cuts) (sym program_is) fit;
    program = subst (IsProgram t.streams) (sym program_is) is_program;
    parts = subst (λ (x : PlainRewriting). ArePartsOf (kinds_of_streams t.streams) (pieces_of x) work.job.parts.items) (sym rewriting_is) parts;
    names = names;
    rest = ap files_of rewriting_is ∙ rest;
  }

module _ (old new : OpenWork) (same : IsSameWork old new) where
  pub rewriting-same : opened_rewriting new ≡ opened_rewriting old
  rewriting-same = ap rewriting_of same.rewriting

  -- it is still open, with these parts and with these files left
  pub stays-open : (t : Table) (plan : PlainPlan) → IsOpen t plan old → ArePartsOf (kinds_of_streams t.streams) (pieces_of (opened_rewriting old)) new.job.parts.items
      → (names : List FileName) → files_of (opened_rewriting old) ≡ names ++ files_left new → IsOpen t plan new
  stays-open t plan is parts names rest =
      opens t plan new old.program (opened_rewriting old) same.program rewriting-same is.normal is.serves
      (subst (λ used. AreIdsOf (files_of (opened_rewriting old)) used.items) (sym same.used) is.used) (same.read ∙ is.read) is.typed is.are_cuts is.fit is.program parts names rest

-- ---- files that are read

pub one-more : (all names : List FileName) (name : FileName) (left next : List FileName) → all ≡ names ++ left → left ≡ name ∷ next → all ≡ (names ++ name ∷ []) ++ next
one-more all names name left next split is = split ∙ ap (λ (l : List FileName). names ++ l) is ∙ sym (append_assoc names (name ∷ []) next)

-- ---- refusals, seen from an earlier moment

module _ (t : Table) (names : List FileName) (old half new : Counts) (same : half.reads ≡ old.reads) (before : old.taken ≤ half.taken) where
  took-since : (taken : ℕ) → TookAtLeast taken half new → TookAtLeast taken old new
  took-since taken took = let last : min (half.taken + taken) (2 ^ 64 - 1) ≤ new.taken = took in omega (arith, before, last)

  pub cause-since : (why : RunRefusal) → HasRunCause (file_at t) names half new why → HasRunCause (file_at t) names old new why
  cause-since run.Fault cause = subst (λ (n : ℕ). Rose n new.reads) same cause
  cause-since (run.Damaged file kept found taken) (name, among, kept_is, differs, no_fault, took) = (name, among, kept_is, differs, no_fault ∙ same, took-since taken took)
  cause-since (run.Unreadable file at taken) (name, among, no_fault, took) = (name, among, no_fault ∙ same, took-since taken took)
  cause-since run.Overflow cause = cause ∙ same
  cause-since run.Machine cause = cause ∙ same
  cause-since run.Memory cause = cause ∙ same

module _ (t : Table) (pieces : List Piece) (names : List FileName) (files later : ℕ → List ℕ) (same : (g : ℕ) → later g ≡ files g) where
  abbrev first-bytes : FileName → List ℕ → List ℕ
  first-bytes name file = take (file_at t name).len file

  pub found-since : (why : RunRefusal) → IsRunFound (sources_of t later) pieces names why → IsRunFound (sources_of t files) pieces names why
  found-since run.Fault found = tt
  found-since (run.Damaged file kept digest taken) (name, among, kept_is, digest_is, whole) = (
    name,
    among,
    kept_is,
    digest_is ∙ ap (λ (f : List ℕ). digest_of (first-bytes name f)) (same (file_at t name).file),
    whole ∙ ap (λ (f : List ℕ). length (first-bytes name f)) (same (file_at t name).file),
  )
  found-since (run.Unreadable file at taken) (name, shape, among, is, digest, none, whole) = (
    name,
    shape,
    among,
    is,
    subst (λ (f : List ℕ). digest_of (first-bytes name f) ≡ (file_at t name).digest) (same (file_at t name).file) digest,
    subst (λ (f : List ℕ). SpellsNone shape (first-bytes name f) at) (same (file_at t name).file) none,
    whole ∙ ap (λ (f : List ℕ). length (first-bytes name f)) (same (file_at t name).file),
  )
  found-since run.Overflow found = tt
  found-since run.Machine found = tt
  found-since run.Memory found = tt
