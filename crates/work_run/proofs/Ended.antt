-- What a run of a rewriting over a state's files comes to, as what its work comes to.
use Rattle.std.proofs.Common.{◌≡◌, refl, sym, ap, ◌∙◌, subst, ℕ, ◌≤◌, List, [], IsSome, Err}
use Rattle.std.proofs.Math.Nat.{lt_of_not-le}
use Rattle.std.specs.List.{AllByRecursion, Contains}
use Rattle.scalar_ops.specs.Meaning.{overflow}
use Rattle.plan_core.specs.MachineTime.{machine_time}
use Rattle.plan_core.specs.PlainPlan.{PlainPlan, leaves}
use Rattle.plan_core.specs.PlanMeaning.{plan_meaning}
use Rattle.plan_canon.specs.Normal.{IsNormalFormOf, MeanTheSame}
use Rattle.estimator.specs.Cuts.{Cuts}
use Rattle.rewrite_core.specs.Entries.{AreSound as AreSoundEntries, entry_of}
use Rattle.rewrite_core.specs.Files.{FileName, Result}
use Rattle.rewrite_core.specs.IsRewriting.{IsRewriting}
use Rattle.rewrite_core.specs.PlainRewriting.{PlainRewriting}
use Rattle.growth_laws.specs.KeptResults.{IsResultOf, kept_among}
use Rattle.growth_laws.specs.Lists.{plan_lists, lists_at}
use Rattle.growth_laws.specs.Parts.{plan_at, cuts_at}
use Rattle.growth_laws.proofs.NamedResults.{renamed}
use Rattle.cache_index.specs.Asked.{asked}
use Rattle.catalog_core.specs.IsTable.{IsTable}
use Rattle.catalog_core.specs.Programs.{AreCuts}
use Rattle.outside_traits.specs.View.{Counts}
use Rattle.growth_laws.specs.Pieces.{Piece}
use Rattle.catalog_types.specs.PlainEntry.{PlainEntry}
use Rattle.catalog_core.specs.Named.{HasFile, file_at, machine_at}
use Rattle.catalog_core.specs.Table.{Table}
use Rattle.extent_files.specs.declared.read_refusal.ReadRefusal.{ReadRefusal}
use Rattle.extent_files.specs.declared.read_refusal.ReadRefusal.TheVariants as read
use Rattle.result_ops.specs.declared.refusal.MakeRefusal.{MakeRefusal}
use Rattle.result_ops.specs.declared.refusal.MakeRefusal.TheVariants as make
use Rattle.executor.specs.Running.{EndsBy, EndsOver}
use Rattle.executor.specs.Runs.{of_making, of_reading}
use Rattle.folder.specs.Files.{IsPieceIn}
use Rattle.folder.specs.Sound.{Care, IsSound}
use Rattle.work_run.proofs.Events.{damage-shown, none-unreadable}
use Rattle.executor.specs.Outcomes.{AreSound, Finishes}
use Rattle.folder.specs.Files.{results_in}
use Rattle.folder.specs.State.{State, IsValid, table, states_of, kinds_in, extents_in, lists_in}
use Rattle.folder.proofs.GrownStreams.{kinds-of-typed}
use Rattle.folder.proofs.HeldForms.{kept-results}
use Rattle.folder.proofs.ValidLists.{extents-valid, lists-typed, machines-within}
use Rattle.plan_choice.specs.Taken.{kept_in, Serves}
use Rattle.work_plan.specs.Fitting.{IsFit}
use Rattle.work_run.specs.Ends.{IsRefusedWork, sources_of}
use Rattle.work_run.specs.Working.{Overflows, IsDear}

module _ (s : State) (valid : IsValid s) (is_table : IsTable (table s)) (entries : AreSoundEntries (asked [] s.entries)) (plan : PlainPlan) (r : PlainRewriting) where
  abbrev q : PlainPlan
  q = plan_at r

  abbrev c : Cuts
  c = cuts_at r

  -- the kept results are those of their plans
  named-results : Serves (table s) plan q c r → IsRewriting (kept_among (extents_in s.streams) (results_in s)) q c r
  named-results serves =
      let kept = kept-results s [] valid is_table.kept in
      renamed (kept_in (asked [] s.entries)) (kept_among (extents_in s.streams) (results_in s))
      (λ plan cuts hit named. (named.here, subst (λ (x : Cuts). IsResultOf (extents_in s.streams) plan x (results_in s hit.id)) named.here (kept (entry_of plan hit) named.kept)))
      (λ plan cuts hit named. (entries.intervals (entry_of plan hit) named.kept, kept (entry_of plan hit) named.kept)) r q c serves.over

  pub are-sound : Serves (table s) plan q c r → IsFit (states_of s.streams) q c → AreSound (extents_in s.streams) (results_in s) r
  are-sound serves fit =
      let typed = kinds-of-typed (kinds_in s.streams) q fit.over.typed in
      record {
        named = named-results serves;
        stored = record { valid = extents-valid s valid; literals = fit.literals; within = machines-within s valid };
        typed = (kinds_in s.streams, subst IsSome (sym typed.1) refl);
      }

  -- the plan as it is written means the same
  module _ (meaning : MeanTheSame (kinds_in s.streams) plan q) (same_leaves : leaves q ≡ leaves plan) (are_cuts : AreCuts (states_of s.streams) (leaves plan) c) where
    pub same-rows : plan_meaning q (lists_in s.streams q c) ≡ plan_meaning plan (lists_in s.streams plan c)
    same-rows =
        ap (λ (ls : List ℕ). plan_meaning q (lists_at (extents_in s.streams) ls c)) same_leaves
        ∙ meaning (lists_in s.streams plan c) (lists-typed s valid (leaves plan) c are_cuts)

    pub refuses-overflow : plan_meaning q (plan_lists (extents_in s.streams) q c) ≡ Err overflow → Overflows s plan c
    refuses-overflow is = sym same-rows ∙ is

    pub refuses-machine : IsNormalFormOf (kinds_in s.streams) plan q → (machine_time q (plan_lists (extents_in s.streams) q c) ≤ 4294967295 → ⊥) → IsDear s plan c
    refuses-machine normal above = record { normal = q; is_normal = normal; above = lt_of_not-le above }

    -- it wasn't made
    pub not-made : Serves (table s) plan q c r → IsFit (states_of s.streams) q c → (care : Care) (why : MakeRefusal) → Finishes (extents_in s.streams) (results_in s) r (Err why)
        → IsRefusedWork care s plan c (of_making why)
    not-made serves fit care make.Overflow finishes = refuses-overflow (finishes.sound (are-sound serves fit))
    not-made serves fit care make.Machine finishes = refuses-machine serves.normal (finishes.sound (are-sound serves fit))
    not-made serves fit care make.Memory finishes = tt

-- its files weren't read
module _ (found : (t : Table) (e : PlainEntry) → IsTable t → Contains t.entries e → (file_at t (Result e.id) ≡ e.file) × (machine_at t e.id ≡ e.machine))
    (care : Care) (files : ℕ → List ℕ) (s : State) (sound : IsSound care files s) (is_table : IsTable (table s)) (plan : PlainPlan) (c : Cuts)
    (names : List FileName) (there : AllByRecursion (HasFile (table s)) names) (pieces : List Piece) (in_state : AllByRecursion (IsPieceIn s) pieces) (old new : Counts) where
  pub not-read : (why : ReadRefusal) → EndsBy (file_at (table s)) names old new why → EndsOver (sources_of (table s) files) pieces names why → IsRefusedWork care s plan c (of_reading why)
  not-read read.Fault cause over = tt
  not-read (read.Damaged file kept other taken) cause over = damage-shown found care files s sound is_table names there pieces old new file kept other taken cause over
  not-read (read.Unreadable file at taken) cause over = none-unreadable found care files s sound is_table names there pieces in_state file at taken over
  not-read read.Memory cause over = tt
