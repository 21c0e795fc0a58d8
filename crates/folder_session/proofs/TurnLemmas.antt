-- A refusal of turns, by the file of an extent.
use Rattle.std.proofs.Common.{ℕ, List}
use Rattle.std.specs.List.{AllByRecursion}
use Rattle.std.proofs.lemmas.List.Elements.{All-contains, All-from_recursion}
use Rattle.plan_core.specs.PlainPlan.{PlainPlan, leaves}
use Rattle.estimator.specs.Cuts.{Cuts}
use Rattle.rewrite_core.specs.Files.{Extent, files_of}
use Rattle.rewrite_core.specs.PlainRewriting.{PlainRewriting}
use Rattle.catalog_core.specs.IsTable.{IsTable}
use Rattle.catalog_core.specs.Named.{HasFile, file_at}
use Rattle.catalog_core.specs.Programs.{AreCuts}
use Rattle.catalog_core.specs.Table.{Table}
use Rattle.executor.specs.Running.{IsFileAmong}
use Rattle.executor.specs.Runs as runs
use Rattle.executor.specs.declared.refusal.RunRefusal.{RunRefusal}
use Rattle.executor.specs.declared.refusal.RunRefusal.TheVariants as run
use Rattle.plan_choice.specs.Leaving.{leaving_out}
use Rattle.work_run.proofs.Rooted.{TakenServe}
use Rattle.work_turns.specs.Turns.{IsTakenAfter}
use Rattle.work_turns.proofs.LeftOut.{FilesThere}
use Rattle.folder_session.specs.Machine.{IsExtentFile, IsOfExtent}
use Rattle.folder_session.specs.WorkRefusals.{refusal_of}

-- the file of an extent that a rewriting names is one of the table's, also where kept results are left out
module _ (t : Table) (ids : List ℕ) (r : PlainRewriting) (there_all : AllByRecursion (HasFile (leaving_out ids t)) (files_of r)) where
  extent_there : (file stream number : ℕ) → IsFileAmong (file_at t) (files_of r) file (Extent stream number) → IsExtentFile t file
  extent_there file stream number among =
      (stream, number, All-contains (HasFile (leaving_out ids t)) (files_of r) (Extent stream number) (All-from_recursion (HasFile (leaving_out ids t)) (files_of r) there_all) among.0, among.1)

  pub of_extent_named : (why : RunRefusal) → runs.IsOfExtent (file_at t) r why → IsOfExtent t (refusal_of why)
  of_extent_named (run.Damaged file kept found taken) of = extent_there file of.0 of.1 of.2
  of_extent_named (run.Unreadable file at taken) of = extent_there file of.0 of.1 of.2
  of_extent_named run.Overflow of = tt
  of_extent_named run.Machine of = tt
  of_extent_named run.Fault of = tt
  of_extent_named run.Memory of = tt

-- so it is of one that was taken after turns
pub of_extent_of : FilesThere → TakenServe → ((t : Table) (ids : List ℕ) → IsTable t → IsTable (leaving_out ids t)) → (t : Table) → IsTable t → (plan form : PlainPlan) (cuts : Cuts) → AreCuts t.streams (leaves plan) cuts
    → (r : PlainRewriting) → IsTakenAfter t plan form cuts r → (why : RunRefusal) → runs.IsOfExtent (file_at t) r why → IsOfExtent t (refusal_of why)
of_extent_of there serve left_out t is_table plan form cuts are_cuts r after why of =
    of_extent_named t after.lost r (there (leaving_out after.lost t) plan form cuts r (left_out t after.lost is_table) (serve (leaving_out after.lost t) plan form cuts r after.taken) are_cuts) why of
