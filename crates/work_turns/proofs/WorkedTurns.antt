-- Work in turns over a state's files, by its last turn.
use Rattle.std.proofs.Common.{◌≡◌, refl, sym, ap, ◌∙◌, subst, ℕ, ◌+◌, List, [], map, Option, Ok}
use Rattle.std.specs.List.{AllByRecursion}
use Rattle.plan_core.specs.PlainPlan.{PlainPlan, leaves}
use Rattle.plan_canon.specs.Normal.{MeanTheSame}
use Rattle.estimator.specs.Bytes.{capped}
use Rattle.estimator.specs.Cuts.{Cuts}
use Rattle.rewrite_core.specs.Entries.{AreSound as AreSoundEntries}
use Rattle.rewrite_core.specs.Files.{AreIdsOf, files_of}
use Rattle.rewrite_core.specs.PlainRewriting.{PlainRewriting}
use Rattle.growth_laws.specs.MadePlaces.{made_places}
use Rattle.growth_laws.specs.Parts.{plan_at, cuts_at}
use Rattle.cache_index.specs.Asked.{asked}
use Rattle.catalog_types.specs.PlainEntry.{PlainEntry}
use Rattle.catalog_types.specs.declared.program.Program.{Program}
use Rattle.catalog_core.specs.IsTable.{IsTable}
use Rattle.catalog_core.specs.Named.{bytes_named}
use Rattle.catalog_core.specs.Programs.{kinds_of_streams}
use Rattle.entry_table.specs.Ids.{without}
use Rattle.admission.specs.Admitting.{Admits, entries_of, made_of}
use Rattle.executor.specs.Outcomes.{Finishes, IsKeptFrom}
use Rattle.executor.specs.declared.outcome.Outcome.{Outcome}
use Rattle.folder.specs.Files.{results_in}
use Rattle.folder.specs.Sound.{Care}
use Rattle.folder.specs.State.{State, IsValid, table, states_of, extents_in}
use Rattle.plan_choice.specs.Leaving as tables
use Rattle.plan_choice.specs.Taken.{IsTaken, Serves}
use Rattle.plan_choice.specs.declared.choosing.Choice.{Choice}
use Rattle.work_plan.specs.Fitting.{IsFit}
use Rattle.work_plan.specs.Planning.{IsWorkPlan}
use Rattle.work_run.specs.Ends.{AreNewFiles}
use Rattle.work_run.specs.declared.work.Work.{Work}
use Rattle.work_run.proofs.Ended.{are-sound, same-rows}
use Rattle.work_run.proofs.MadeResults.{mades-at, new-files}
use Rattle.work_run.proofs.Rooted.{IsRooted, TakenServe, rooted, same_cuts, same_plan, within-kept}
use Rattle.work_run.proofs.Worked.{Laws}
use Rattle.work_turns.specs.Ends.{ComesInTurns, those_among}
use Rattle.work_turns.specs.Turns.{HaveEnded, IsChosenOf, IsLastTurn, IsLost}
use Rattle.work_turns.specs.declared.turns.LastTurn.{LastTurn}
use Rattle.work_turns.proofs.Dropped.{without-those}
use Rattle.work_turns.proofs.LeftOut.{LeftServe}

module _ (laws : Laws) (care : Care) (s : State) (valid : IsValid s) (is_table : IsTable (table s)) (plan : PlainPlan) (r : PlainRewriting) (root : IsRooted (table s) plan r)
    (lost : List ℕ) (bytes : ℕ) (ended : HaveEnded (table s) plan (plan_at r) (cuts_at r) [] lost bytes) (shown : AllByRecursion (IsLost care s) lost)
    (taken : IsTaken (tables.leaving_out lost (table s)) plan (plan_at r) (cuts_at r) r) where
  entries : AreSoundEntries (asked [] s.entries)
  entries = laws.entries (table s) [] is_table

  meaning : MeanTheSame (kinds_of_streams (table s).streams) plan (plan_at r)
  meaning = laws.meaning (table s) plan (plan_at r) (cuts_at r) r root.serves root.typed

  same_leaves : leaves (plan_at r) ≡ leaves plan
  same_leaves = laws.same_leaves (table s) plan (plan_at r) (cuts_at r) r root.serves

  pub worked-in-turns : (outcome : Outcome) → Finishes (extents_in s.streams) (results_in s) r (Ok outcome) → AllByRecursion (IsKeptFrom (made_places (plan_at r) (cuts_at r) r)) outcome.made.items
      → (program : Option Program) (work : Work) → work.rows ≡ outcome.rows → AreIdsOf (files_of r) work.used.items → work.read ≡ capped (bytes + bytes_named (table s) (files_of r))
      → IsWorkPlan (table s) program work.used.items (those_among lost s.entries) (map made_of outcome.made.items) work.plan → ComesInTurns care s program plan (plan_at r) (cuts_at r) work
  worked-in-turns outcome finishes kept program work rows used read recorded =
      let is = finishes.sound (are-sound s valid is_table entries plan r root.serves root.fit) in
      let low = within-kept (made_places (plan_at r) (cuts_at r) r) outcome.made.items kept in
      let made = mades-at laws.shaped s valid is_table (made_places (plan_at r) (cuts_at r) r) outcome.made.items (laws.places (states_of s.streams) (plan_at r) (cuts_at r) r root.fit) low is.made in
      let admits = subst (λ (es : List PlainEntry). Admits es s.next_file [] (map made_of outcome.made.items) recorded.admitted) (without-those lost s.entries) recorded.admits in
      record {
        dropped = those_among lost s.entries;
        news = entries_of recorded.admitted;
        works = record {
          lost = lost;
          bytes = bytes;
          ended = ended;
          shown = shown;
          rewriting = r;
          taken = taken;
          rows = sym (same-rows s valid is_table entries plan r meaning same_leaves root.are_cuts) ∙ is.rows ∙ ap (λ rs. Ok rs.items) (sym rows);
          within = is.within;
          used = used;
          read = read;
          news = entries_of recorded.admitted;
          keeps = record { mades = map made_of outcome.made.items; made = made; admitted = recorded.admitted; admits = admits; news_are = refl; ids_are = recorded.kept };
          after = refl;
        };
        change_is = recorded.change;
        files = subst (AreNewFiles s.streams (entries_of recorded.admitted)) (sym recorded.files)
            (new-files s.streams (without lost s.entries) s.next_file (made_places (plan_at r) (cuts_at r) r) (map made_of outcome.made.items) recorded.admitted made admits);
      }

-- of the choice of the first turn
module _ (laws : Laws) (serve : TakenServe) (more : LeftServe) (care : Care) (s : State) (valid : IsValid s) (is_table : IsTable (table s)) (plan form : PlainPlan) (cuts : Cuts) (choice : Choice)
    (first : IsChosenOf (table s) [] plan form cuts choice) (last : LastTurn) (is : IsLastTurn care s plan form cuts last) where
  abbrev of : PlainRewriting
  of = is.rewriting

  serves : Serves (table s) plan form cuts of
  serves = more (table s) last.lost.items plan form cuts of (serve (tables.leaving_out last.lost.items (table s)) plan form cuts of is.taken)

  root_is : IsRooted (table s) plan of
  root_is = rooted (table s) plan form cuts of serves first.chosen.typed first.chosen.are_cuts (subst (λ (q : PlainPlan). IsFit (table s).streams q cuts) first.form_is first.chosen.fit)

  plan_same : plan_at of ≡ form
  plan_same = same_plan (table s) plan form cuts of serves

  cuts_same : cuts_at of ≡ cuts
  cuts_same = same_cuts (table s) plan form cuts of serves

  pub comes-in-turns : (program : Option Program) (work : Work) → work.rows ≡ last.turn.outcome.rows → work.used ≡ last.turn.used → work.read ≡ last.read
      → IsWorkPlan (table s) program work.used.items (those_among last.lost.items s.entries) (map made_of last.turn.outcome.made.items) work.plan → ComesInTurns care s program plan form cuts work
  comes-in-turns program work rows used read recorded =
      subst (λ (q : PlainPlan). ComesInTurns care s program plan q cuts work) plan_same
      (subst (λ (x : Cuts). ComesInTurns care s program plan (plan_at of) x work) cuts_same
      (worked-in-turns laws care s valid is_table plan of root_is last.lost.items is.bytes
      (subst (λ (x : Cuts). HaveEnded (table s) plan (plan_at of) x [] last.lost.items is.bytes) (sym cuts_same)
      (subst (λ (q : PlainPlan). HaveEnded (table s) plan q cuts [] last.lost.items is.bytes) (sym plan_same) is.ended))
      is.lost
      (subst (λ (x : Cuts). IsTaken (tables.leaving_out last.lost.items (table s)) plan (plan_at of) x of) (sym cuts_same)
      (subst (λ (q : PlainPlan). IsTaken (tables.leaving_out last.lost.items (table s)) plan q cuts of) (sym plan_same) is.taken))
      last.turn.outcome is.outcome is.kept program work rows (subst (λ u. AreIdsOf (files_of of) u.items) (sym used) is.used) (read ∙ is.read) recorded))
