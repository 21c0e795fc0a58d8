-- Work over the files of a state, by its rewriting alone.
use Rattle.std.proofs.Common.{◌≡◌, sym, ap, ◌∙◌, subst, ℕ, ◌<◌, Bool, true, List, [], length, IsOk, Err}
use Rattle.std.specs.List.{AllByRecursion, Contains}
use Rattle.outside_traits.specs.View.{Counts}
use Rattle.plan_core.specs.PlainPlan.{PlainPlan, leaves}
use Rattle.plan_core.specs.PlanTyping.{Kinds, plan_typing}
use Rattle.plan_canon.specs.Normal.{MeanTheSame}
use Rattle.estimator.specs.Bytes.{capped}
use Rattle.estimator.specs.Cuts.{Cuts}
use Rattle.rewrite_core.specs.Entries.{AreSound as AreSoundEntries}
use Rattle.rewrite_core.specs.Files.{files_of, Result}
use Rattle.rewrite_core.specs.IsRewriting.{IsRewriting, whichever}
use Rattle.rewrite_core.specs.PlainRewriting.{PlainRewriting}
use Rattle.growth_laws.specs.Lists.{extents_of}
use Rattle.growth_laws.specs.MadePlaces.{Place, made_places}
use Rattle.growth_laws.specs.Parts.{plan_at, cuts_at}
use Rattle.growth_laws.specs.Pieces.{pieces_of}
use Rattle.extent_files.specs.declared.read_refusal.ReadRefusal.{ReadRefusal}
use Rattle.extent_files.specs.declared.read_refusal.ReadRefusal.TheVariants as read
use Rattle.result_ops.specs.declared.refusal.MakeRefusal.{MakeRefusal}
use Rattle.result_ops.specs.declared.refusal.MakeRefusal.TheVariants as make
use Rattle.executor.specs.Pieces.{HasTyping, IsPiece}
use Rattle.cache_index.specs.Asked.{asked}
use Rattle.catalog_types.specs.PlainEntry.{PlainEntry}
use Rattle.catalog_types.specs.declared.snapshot.StreamState.{StreamState}
use Rattle.catalog_core.specs.IsTable.{IsTable}
use Rattle.catalog_core.specs.Named.{HasFile, file_at, machine_at, bytes_named}
use Rattle.catalog_core.specs.Programs.{AreCuts, kinds_of_streams}
use Rattle.catalog_core.specs.Table.{Table}
use Rattle.entry_table.specs.AreKept.{AreKept}
use Rattle.entry_table.specs.Work.{kept_with}
use Rattle.executor.specs.Outcomes.{Finishes}
use Rattle.executor.specs.Running.{EndsBy, EndsOver, HaveTaken}
use Rattle.executor.specs.Runs.{of_making, of_reading, HasRunCause, IsRunFound, EndsEarly}
use Rattle.executor.specs.Sources.{sources, HoldFiles}
use Rattle.executor.specs.declared.refusal.RunRefusal.{RunRefusal}
use Rattle.executor.specs.declared.refusal.RunRefusal.TheVariants as run
use Rattle.folder.specs.Files.{results_in, IsPieceIn, HoldsExtent, HoldsResult}
use Rattle.folder.specs.Sound.{Care, IsSound}
use Rattle.folder.specs.State.{State, IsValid, table, kinds_in, extents_in}
use Rattle.plan_choice.specs.Pieces.{IsPieceOf}
use Rattle.plan_choice.specs.Taken.{Serves}
use Rattle.work_plan.specs.Fitting.{IsFit}
use Rattle.work_run.specs.Ends.{CountsRead, IsRefusedWork, sources_of}
use Rattle.work_run.specs.declared.work.Work.{Work}
use Rattle.work_run.proofs.Ended.{not-made, not-read}
use Rattle.work_run.proofs.Held.{pieces-held}
use Rattle.work_run.proofs.MadeResults.{FormsHaveShape}
use Rattle.work_run.proofs.Pieces.{in-state}
use Rattle.work_run.proofs.Rooted.{IsRooted}
use Rattle.work_run.proofs.Taken.{counts-read}

-- ---- what the laws of other crates say

abbrev Serving : (Table → PlainPlan → PlainPlan → Cuts → PlainRewriting → Type 0) → Type 0
Serving Holds = (t : Table) (plan normal : PlainPlan) (cuts : Cuts) (r : PlainRewriting) → Holds t plan normal cuts r

pub record Laws : Type 0 where
  pub entries : (t : Table) (left_out : List ℕ) → IsTable t → AreSoundEntries (asked left_out t.entries)
  pub meaning : Serving (λ t plan normal cuts r. Serves t plan normal cuts r → IsOk (plan_typing (kinds_of_streams t.streams) plan) → MeanTheSame (kinds_of_streams t.streams) plan normal)
  pub same_leaves : Serving (λ t plan normal cuts r. Serves t plan normal cuts r → leaves normal ≡ leaves plan)
  pub places : (streams : List StreamState) (plan : PlainPlan) (cuts : Cuts) (r : PlainRewriting) → IsFit streams plan cuts → AllByRecursion (λ (at : Place). IsFit streams at.plan at.cuts) (made_places plan cuts r)
  pub shaped : FormsHaveShape

pub record FileLaws : Type 0 where
  pub found : (t : Table) (e : PlainEntry) → IsTable t → Contains t.entries e → (file_at t (Result e.id) ≡ e.file) × (machine_at t e.id ≡ e.machine)
  pub extents : (care : Care) (files : ℕ → List ℕ) (s : State) (place number : ℕ) → IsSound care files s → number < length (extents_of (extents_in s.streams) place) → HoldsExtent files s place number
  pub results : (care : Care) (files : ℕ → List ℕ) (s : State) (e : PlainEntry) → IsSound care files s → AreKept (kept_with s.next_id s.entries) → Contains s.entries e → HoldsResult files s e
  pub formed : Serving (λ t plan normal cuts r. IsTable t → Serves t plan normal cuts r → IsRewriting whichever normal cuts r)
  pub pieces : Serving (λ t plan normal cuts r. IsTable t → Serves t plan normal cuts r → AreCuts t.streams (leaves plan) cuts → AllByRecursion (IsPieceOf t) (pieces_of r))
  pub there : Serving (λ t plan normal cuts r. IsTable t → Serves t plan normal cuts r → AreCuts t.streams (leaves plan) cuts → AllByRecursion (HasFile t) (files_of r))
  pub typed : (schemas : List Kinds) (plan : PlainPlan) (cuts : Cuts) (r : PlainRewriting) → IsRewriting whichever plan cuts r → HasTyping schemas plan → AllByRecursion (IsPiece schemas) (pieces_of r)

-- ---- what is made of what was read

module _ (laws : Laws) (s : State) (valid : IsValid s) (t : Table) (same : t ≡ table s) (is_table : IsTable t) (plan normal : PlainPlan) (cuts : Cuts) (r : PlainRewriting) (root_is : IsRooted t plan r)
    (same_plan : plan_at r ≡ normal) (same_cuts : cuts_at r ≡ cuts) where
  root : IsRooted (table s) plan r
  root = subst (λ (x : Table). IsRooted x plan r) same root_is

  here : IsTable (table s)
  here = subst IsTable same is_table

  entries : AreSoundEntries (asked [] s.entries)
  entries = laws.entries (table s) [] here

  meaning : MeanTheSame (kinds_of_streams (table s).streams) plan (plan_at r)
  meaning = laws.meaning (table s) plan (plan_at r) (cuts_at r) r root.serves root.typed

  same_leaves : leaves (plan_at r) ≡ leaves plan
  same_leaves = laws.same_leaves (table s) plan (plan_at r) (cuts_at r) r root.serves

  pub unmade : (care : Care) (why : MakeRefusal) → Finishes (extents_in s.streams) (results_in s) r (Err why) → IsRefusedWork care s plan cuts (of_making why)
  unmade care why finishes =
      subst (λ (x : Cuts). IsRefusedWork care s plan x (of_making why)) same_cuts (not-made s valid here entries plan r meaning same_leaves root.are_cuts root.serves root.fit care why finishes)

-- ---- what is read

module _ (laws : FileLaws) (care : Care) (files : ℕ → List ℕ) (s : State) (sound : IsSound care files s) (t : Table) (same : t ≡ table s) (is_table : IsTable t) (plan : PlainPlan) (r : PlainRewriting)
    (root_is : IsRooted t plan r) where
  own : IsRooted (table s) plan r
  own = subst (λ (x : Table). IsRooted x plan r) same root_is

  at_state : IsTable (table s)
  at_state = subst IsTable same is_table

  in_state : AllByRecursion (IsPieceIn s) (pieces_of r)
  in_state =
      in-state s (pieces_of r) (laws.pieces (table s) plan (plan_at r) (cuts_at r) r at_state own.serves own.are_cuts)
      (laws.typed (kinds_in s.streams) (plan_at r) (cuts_at r) r (laws.formed (table s) plan (plan_at r) (cuts_at r) r at_state own.serves) own.fit.over.typed)

  pub there : AllByRecursion (HasFile (table s)) (files_of r)
  there = laws.there (table s) plan (plan_at r) (cuts_at r) r at_state own.serves own.are_cuts

  -- the files hold what the rewriting is read from
  pub hold : (tells : Bool) → tells ≡ true → HoldFiles (sources tells files (file_at t) (machine_at t) (kinds_of_streams t.streams)) (extents_in s.streams) (results_in s) (pieces_of r)
  hold tells told =
      subst (λ (b : Bool). HoldFiles (sources b files (file_at t) (machine_at t) (kinds_of_streams t.streams)) (extents_in s.streams) (results_in s) (pieces_of r)) (sym told)
      (subst (λ (x : Table). HoldFiles (sources_of x files) (extents_in s.streams) (results_in s) (pieces_of r)) (sym same)
      (pieces-held laws.found laws.extents laws.results care files s sound at_state (pieces_of r) in_state))

  pub unread : (other : PlainPlan) (cuts : Cuts) (old new : Counts) (why : ReadRefusal) → EndsBy (file_at t) (files_of r) old new why
      → EndsOver (sources_of t files) (pieces_of r) (files_of r) why → IsRefusedWork care s other cuts (of_reading why)
  unread other cuts old new why cause over =
      not-read laws.found care files s sound at_state other cuts (files_of r) there (pieces_of r) in_state old new why
      (subst (λ (x : Table). EndsBy (file_at x) (files_of r) old new why) same cause)
      (subst (λ (x : Table). EndsOver (sources_of x files) (pieces_of r) (files_of r) why) same over)

  pub counted : (read : ℕ) (old new : Counts) → read ≡ capped (bytes_named t (files_of r)) → HaveTaken (extents_in s.streams) (results_in s) (files_of r) old new → CountsRead read old new
  counted read old new is taken =
      counts-read laws.found s sound.valid at_state (files_of r) read old new there (is ∙ ap (λ (x : Table). capped (bytes_named x (files_of r))) same) taken

-- ---- a whole run

module _ (laws : Laws) (file_laws : FileLaws) (care : Care) (files : ℕ → List ℕ) (s : State) (sound : IsSound care files s) (t : Table) (same : t ≡ table s) (is_table : IsTable t) (plan normal : PlainPlan)
    (cuts : Cuts) (r : PlainRewriting) (root_is : IsRooted t plan r) (same_plan : plan_at r ≡ normal) (same_cuts : cuts_at r ≡ cuts) where
  pub refused : (old new : Counts) (why : RunRefusal) → HasRunCause (file_at t) (files_of r) old new why → IsRunFound (sources_of t files) (pieces_of r) (files_of r) why
      → EndsEarly (extents_in s.streams) (results_in s) r old new why → IsRefusedWork care s plan cuts why
  refused old new run.Overflow cause over runs = unmade laws s sound.valid t same is_table plan normal cuts r root_is same_plan same_cuts care make.Overflow runs.0
  refused old new run.Machine cause over runs = unmade laws s sound.valid t same is_table plan normal cuts r root_is same_plan same_cuts care make.Machine runs.0
  refused old new run.Fault cause over runs = tt
  refused old new (run.Damaged file kept found taken) cause over runs = unread file_laws care files s sound t same is_table plan r root_is plan cuts old new (read.Damaged file kept found taken) cause over
  refused old new (run.Unreadable file at taken) cause over runs = unread file_laws care files s sound t same is_table plan r root_is plan cuts old new (read.Unreadable file at taken) cause over
  refused old new run.Memory cause over runs = tt
