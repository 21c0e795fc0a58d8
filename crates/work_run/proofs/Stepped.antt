-- The next file of open work is read, or isn't.
use Rattle.std.proofs.Common.{◌≡◌, refl, sym, ap, ◌∙◌, subst, ℕ, Bool, true, List, ◌∷◌, ◌++◌, take, arith}
use Rattle.std.specs.List.{AllByRecursion}
use Rattle.row_blob.specs.declared.shape.Shape.{Shape}
use Rattle.outside_traits.specs.View.{Counts}
use Rattle.outside_traits.specs.Calls.{CountsTaken}
use Rattle.extent_files.specs.Reads.{HasCause, FoundIn}
use Rattle.extent_files.specs.declared.read_refusal.ReadRefusal.{ReadRefusal}
use Rattle.plan_core.specs.PlainPlan.{PlainPlan}
use Rattle.rewrite_core.specs.Files.{FileName, files_of}
use Rattle.rewrite_core.specs.PlainRewriting.{PlainRewriting}
use Rattle.growth_laws.specs.KeptResults.{KeptResults}
use Rattle.growth_laws.specs.Lists.{Extents}
use Rattle.growth_laws.specs.Pieces.{Piece, pieces_of}
use Rattle.catalog_core.specs.IsTable.{IsTable}
use Rattle.catalog_core.specs.Named.{HasFile, file_at, machine_at}
use Rattle.catalog_core.specs.Programs.{kinds_of_streams}
use Rattle.catalog_core.specs.Table.{Table}
use Rattle.executor.specs.Progress.{ArePartsOf, HaveRead}
use Rattle.executor.specs.Running.{EndsBy, EndsOver, IsShapeOf}
use Rattle.executor.specs.Sources.{sources, HoldFiles, HasTaken}
use Rattle.executor.proofs.RestEnds.{ends_by, ends_over}
use Rattle.executor.proofs.RestSteps.{rest_there}
use Rattle.folder.specs.Files.{results_in}
use Rattle.folder.specs.Sound.{Care, IsSound}
use Rattle.folder.specs.State.{State, table, extents_in}
use Rattle.work_run.specs.Ends.{sources_of}
use Rattle.work_run.specs.Opened.{IsOpen, HasRead, IsSameWork, opened_rewriting, files_left}
use Rattle.work_run.specs.declared.open.OpenWork.{OpenWork}
use Rattle.work_run.proofs.OpenSteps.{rewriting-same}
use Rattle.work_run.proofs.Rooted.{open_root}
use Rattle.work_run.proofs.Taken.{file-bytes}
use Rattle.work_run.proofs.Worked.{FileLaws, hold, there}

module _ (t : Table) (plan : PlainPlan) (work : OpenWork) (is : IsOpen t plan work) (name : FileName) (others : List FileName) (left : files_left work ≡ name ∷ others) where
  abbrev r : PlainRewriting
  r = opened_rewriting work

  pub split : files_of r ≡ is.names ++ name ∷ others
  split = is.rest ∙ ap (λ (l : List FileName). is.names ++ l) left

  pub step-ends : (old new : Counts) (why : ReadRefusal) → HasCause (file_at t name) old new why → EndsBy (file_at t) (files_of r) old new why
  step-ends old new why cause = ends_by (file_at t) (files_of r) is.names name others split old old new refl (omega arith) why cause

  pub step-found : (files : ℕ → List ℕ) (shape : Shape) (old new : Counts) (why : ReadRefusal) → IsShapeOf (kinds_of_streams t.streams) (pieces_of r) name shape → HasCause (file_at t name) old new why
      → FoundIn shape (file_at t name) (take (file_at t name).len (files (file_at t name).file)) old new why → EndsOver (sources_of t files) (pieces_of r) (files_of r) why
  step-found files shape old new why of cause found =
      ends_over (file_at t) (files_of r) is.names name others split true files files (machine_at t) (kinds_of_streams t.streams) (λ (g : ℕ). refl) (pieces_of r) shape old new why of cause found

  module _ (laws : FileLaws) (care : Care) (files : ℕ → List ℕ) (s : State) (sound : IsSound care files s) (same : t ≡ table s) (is_table : IsTable t) (tells : Bool) (told : tells ≡ true)
      (new : OpenWork) (same_work : IsSameWork work new) (before after : Counts)
      (reads : (extents : Extents) (results : KeptResults) (pieces : List Piece) (name : FileName) (others : List FileName) → files_left work ≡ name ∷ others
      → HoldFiles (sources tells files (file_at t) (machine_at t) (kinds_of_streams t.streams)) extents results pieces → ArePartsOf (kinds_of_streams t.streams) pieces work.job.parts.items
      → HaveRead (kinds_of_streams t.streams) extents results pieces work.job.parts.items
      → HaveRead (kinds_of_streams t.streams) extents results pieces new.job.parts.items × HasTaken extents results name before after) (has : HasRead s work) where
    abbrev now : HaveRead (kinds_of_streams t.streams) (extents_in s.streams) (results_in s) (pieces_of r) new.job.parts.items × HasTaken (extents_in s.streams) (results_in s) name before after
    now =
        reads (extents_in s.streams) (results_in s) (pieces_of r) name others left (hold laws care files s sound t same is_table plan r (open_root t plan work is) tells told) is.parts
        (subst (λ (x : Table). HaveRead (kinds_of_streams x.streams) (extents_in s.streams) (results_in s) (pieces_of r) work.job.parts.items) (sym same) has)

    pub has-read : HasRead s new
    has-read =
        subst (λ (x : PlainRewriting). HaveRead (kinds_of_streams (table s).streams) (extents_in s.streams) (results_in s) (pieces_of x) new.job.parts.items) (sym (rewriting-same work new same_work))
        (subst (λ (x : Table). HaveRead (kinds_of_streams x.streams) (extents_in s.streams) (results_in s) (pieces_of r) new.job.parts.items) same now.0)

    pub has-taken : CountsTaken (file_at t name).len before after
    has-taken =
        let all : AllByRecursion (HasFile (table s)) (name ∷ others) = rest_there (HasFile (table s)) (files_of r) is.names (name ∷ others) split (there laws care files s sound t same is_table plan r (open_root t plan work is)) in
        subst (λ (n : ℕ). CountsTaken n before after)
        (file-bytes laws.found s sound.valid (subst IsTable same is_table) name all.0 ∙ sym (ap (λ (x : Table). (file_at x name).len) same)) now.1
