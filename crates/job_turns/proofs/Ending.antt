-- A job that is closed, over a state's files.
use Rattle.std.proofs.Common.{◌≡◌, refl, sym, ap, ◌∙◌, subst, ◌+◌, ◌-◌, ◌^◌, ◌≤◌, min, Bool, List, [], map, Some, Ok, IsTrue, arith}
use Rattle.outside_traits.specs.View.{View, Counts}
use Rattle.extent_files.specs.declared.read_refusal.ReadRefusal.{ReadRefusal}
use Rattle.extent_files.specs.declared.read_refusal.ReadRefusal.TheVariants as reading
use Rattle.result_ops.specs.declared.refusal.MakeRefusal.{MakeRefusal}
use Rattle.result_ops.specs.declared.refusal.MakeRefusal.TheVariants as making
use Rattle.plan_core.specs.PlainPlan.{PlainPlan, leaves}
use Rattle.plan_canon.specs.Normal.{MeanTheSame}
use Rattle.estimator.specs.Bytes.{capped}
use Rattle.estimator.specs.Cuts.{Cuts}
use Rattle.rewrite_core.specs.Entries.{AreSound as AreSoundEntries}
use Rattle.rewrite_core.specs.Files.{AreIdsOf, files_of}
use Rattle.rewrite_core.specs.PlainRewriting.{PlainRewriting}
use Rattle.growth_laws.specs.MadePlaces.{made_places}
use Rattle.growth_laws.specs.Parts.{plan_at, cuts_at}
use Rattle.growth_laws.specs.Pieces.{pieces_of}
use Rattle.cache_index.specs.Asked.{asked}
use Rattle.catalog_types.specs.PlainEntry.{PlainEntry}
use Rattle.catalog_types.specs.declared.program.Program.{Program}
use Rattle.catalog_core.specs.IsTable.{IsTable}
use Rattle.catalog_core.specs.Named.{bytes_named, file_at}
use Rattle.catalog_core.specs.Programs.{kinds_of_streams}
use Rattle.catalog_core.specs.Table.{Table}
use Rattle.entry_table.specs.Ids.{without}
use Rattle.admission.specs.Admitting.{Admits, entries_of, made_of}
use Rattle.executor.specs.Outcomes.{AreKeptFrom, Finishes}
use Rattle.executor.specs.Runs.{IsOfExtent, of_making, of_reading}
use Rattle.executor.specs.declared.outcome.Outcome.{Outcome}
use Rattle.executor.proofs.RunEnds.{made_cause, made_found}
use Rattle.folder.specs.Files.{results_in}
use Rattle.folder.specs.Next.{with_work}
use Rattle.folder.specs.Left.{IsLeft}
use Rattle.folder.specs.Sound.{Care}
use Rattle.folder.specs.State.{State, IsValid, table, states_of, extents_in}
use Rattle.work_plan.specs.Planning.{IsWorkPlan}
use Rattle.work_run.specs.Ends.{AreNewFiles, IsRefusedWork, given_of, sources_of}
use Rattle.work_run.specs.Opened.{HasRead, IsOpen, files_left, opened_rewriting}
use Rattle.work_run.specs.declared.open.OpenWork.{OpenWork}
use Rattle.work_run.specs.declared.work.Work.{Work}
use Rattle.work_run.proofs.Ended.{are-sound, same-rows}
use Rattle.work_run.proofs.MadeResults.{mades-at, new-files}
use Rattle.work_run.proofs.Rooted.{IsRooted, open_cuts, open_plan, open_root, within-kept}
use Rattle.work_run.proofs.Worked.{Laws}
use Rattle.work_turns.specs.Ends.{those_among}
use Rattle.work_turns.proofs.Dropped.{without-those}
use Rattle.job_turns.specs.Ends.{ComesAtLast, IsReadFor, WorksAtLast}
use Rattle.job_turns.specs.Turns.{Halts, Reads}
use Rattle.job_turns.specs.declared.job.JobWork.{JobWork}

module _ (laws : Laws) (s : State) (valid : IsValid s) (is_table : IsTable (table s)) (plan : PlainPlan) (job : JobWork) (is_open : IsOpen (table s) plan job.work) (form_is : is_open.normal ≡ job.normal.plan) where
  abbrev r : PlainRewriting
  r = opened_rewriting job.work

  root : IsRooted (table s) plan r
  root = open_root (table s) plan job.work is_open

  entries : AreSoundEntries (asked [] s.entries)
  entries = laws.entries (table s) [] is_table

  meaning : MeanTheSame (kinds_of_streams (table s).streams) plan (plan_at r)
  meaning = laws.meaning (table s) plan (plan_at r) (cuts_at r) r root.serves root.typed

  same_leaves : leaves (plan_at r) ≡ leaves plan
  same_leaves = laws.same_leaves (table s) plan (plan_at r) (cuts_at r) r root.serves

  pub comes-at-last : (outcome : Outcome) → Finishes (extents_in s.streams) (results_in s) r (Ok outcome) → AreKeptFrom r outcome.made.items → (work : Work) → work.rows ≡ outcome.rows → work.used.items ≡ job.work.used.items
      → work.read ≡ capped (job.before + job.work.read)
      → IsWorkPlan (table s) (Some job.work.program) work.used.items (those_among job.noted.items s.entries) (map made_of outcome.made.items) work.plan → ComesAtLast s plan job work
  comes-at-last outcome finishes kept work rows used read recorded =
      let is = finishes.sound (are-sound s valid is_table entries plan r root.serves root.fit) in
      let low = within-kept (made_places (plan_at r) (cuts_at r) r) outcome.made.items kept in
      let made = mades-at laws.shaped s valid is_table (made_places (plan_at r) (cuts_at r) r) outcome.made.items (laws.places (states_of s.streams) (plan_at r) (cuts_at r) r root.fit) low is.made in
      let admits = subst (λ (es : List PlainEntry). Admits es s.next_file [] (map made_of outcome.made.items) recorded.admitted) (without-those job.noted.items s.entries) recorded.admits in
      let news = entries_of recorded.admitted in
      let whole : job.work.read ≡ min (bytes_named (table s) (files_of r)) (2 ^ 64 - 1) = is_open.read in
      let sum : work.read ≡ min (job.before + job.work.read) (2 ^ 64 - 1) = read in
      let new : State = with_work s (Some job.work.program) work.used.items (those_among job.noted.items s.entries) news in
      let works : WorksAtLast job.noted.items job.before s (Some job.work.program) plan (plan_at r) (cuts_at r) r (given_of work) new =
      record {
        rows = sym (same-rows s valid is_table entries plan r meaning same_leaves root.are_cuts) ∙ is.rows ∙ ap (λ rs. Ok rs.items) (sym rows);
        within = is.within;
        used = subst (AreIdsOf (files_of r)) (sym used) is_open.used;
        read = (let total : work.read ≡ min (job.before + bytes_named (table s) (files_of r)) (2 ^ 64 - 1) = omega (arith, whole, sum) in total);
        news = news;
        keeps = record { mades = map made_of outcome.made.items; made = made; admitted = recorded.admitted; admits = admits; news_are = refl; ids_are = recorded.kept };
        after = refl;
      } in
      record {
        news = news;
        works = subst (λ (q : PlainPlan). WorksAtLast job.noted.items job.before s (Some job.work.program) plan q job.work.program.cuts r (given_of work) new) (open_plan (table s) plan job.work is_open ∙ form_is)
            (subst (λ (c : Cuts). WorksAtLast job.noted.items job.before s (Some job.work.program) plan (plan_at r) c r (given_of work) new) (open_cuts (table s) plan job.work is_open) works);
        change_is = recorded.change;
        files = subst (AreNewFiles s.streams news) (sym recorded.files)
            (new-files s.streams (without job.noted.items s.entries) s.next_file (made_places (plan_at r) (cuts_at r) r) (map made_of outcome.made.items) recorded.admitted made admits);
      }

-- ---- why it isn't closed

pub read-for : (work : OpenWork) (why : ReadRefusal) → IsReadFor work (of_reading why)
read-for work reading.Fault = tt
read-for work (reading.Damaged file kept found taken) = tt
read-for work (reading.Unreadable file at taken) = tt
read-for work reading.Memory = tt

pub made-for : (work : OpenWork) → files_left work ≡ [] → (why : MakeRefusal) → IsReadFor work (of_making why)
made-for work none making.Overflow = none
made-for work none making.Machine = none
made-for work none making.Memory = tt

module _ (tells : Bool) (t : Table) (view : View) (plan : PlainPlan) (old new : JobWork) (first last : Counts) (reads : Reads tells t view plan old new first last) (none : files_left new.work ≡ []) where
  -- its rows aren't made
  pub halts-made : (why : MakeRefusal) → (IsTrue tells → (care : Care) (s : State) → IsLeft care view s s → t ≡ table s → HasRead s new.work → IsRefusedWork care s plan new.work.program.cuts (of_making why))
      → Halts tells t view plan old new first last (of_making why)
  halts-made why refused = record {
    on = reads.on;
    most = λ told. (let most : last.taken ≤ first.taken + reads.on.passed = reads.most told in omega (arith, most));
    over = λ told care s left means has.
        let all = reads.over told care s left means has in
        (all.0, all.1, subst (λ (p : Program). IsRefusedWork care s plan p.cuts (of_making why)) reads.on.program (refused told care s left means all.0));
    cause = made_cause (file_at t) (files_of (opened_rewriting new.work)) first last why reads.no_fault;
    of_extent = of-extent why;
    found = λ told. made_found (sources_of t view.files) (pieces_of (opened_rewriting new.work)) (files_of (opened_rewriting new.work)) why;
  }
    where
      of-extent : (why : MakeRefusal) → IsOfExtent (file_at t) (opened_rewriting new.work) (of_making why)
      of-extent making.Overflow = tt
      of-extent making.Machine = tt
      of-extent making.Memory = tt
