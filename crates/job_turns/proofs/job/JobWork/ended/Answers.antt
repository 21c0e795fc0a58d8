use Rattle.std.proofs.Common.{refl, sym, ap, ◌∙◌, subst, ◌<◌, ◌≤◌, List, ℕ, Some, length, map}
use Rattle.std.specs.List.{AllByRecursion}
use Rattle.std.proofs.lemmas.Result.{err_from_is_err_and}
use Rattle.plan_core.specs.PlainPlan.{plan_of}
use Rattle.growth_laws.specs.MadePlaces.{made_places}
use Rattle.growth_laws.specs.Parts.{plan_at, cuts_at}
use Rattle.growth_laws.specs.Pieces.{pieces_of}
use Rattle.executor.proofs.Typings.{kinds_there}
use Rattle.catalog_types.specs.declared.program.Program.{Program}
use Rattle.catalog_core.specs.Catalogs.{table_of}
use Rattle.catalog_core.specs.IsTable.{IsTable}
use Rattle.catalog_core.specs.Programs.{kinds_of_streams}
use Rattle.catalog_core.specs.Table.{FitsProgram, Table}
use Rattle.entry_table.specs.Ids.{AreIdsOf, without}
use Rattle.admission.specs.Admitting.{made_of}
use Rattle.executor.specs.Progress.{HaveRead}
use Rattle.executor.specs.declared.outcome.KeptPlace.{KeptPlace}
use Rattle.executor.specs.declared.outcome.Outcome.{Outcome}
use Rattle.folder.specs.Files.{results_in}
use Rattle.folder.specs.State.{extents_in, table}
use Rattle.plan_choice.specs.Leaving.{leaving_out}
use Rattle.work_plan.specs.Fitting.{IsFit}
use Rattle.work_plan.specs.Planning.{IsWorkPlan}
use Rattle.work_run.specs.Ends.{HaveFewValues}
use Rattle.work_run.specs.Opened.{IsOpen, opened_rewriting}
use Rattle.work_run.proofs.FewColumns.{few_in_rows}
use Rattle.work_run.proofs.Rooted.{fit-kept, open_cuts, open_plan, open_root}
use Rattle.work_run.proofs.Worked.{Laws, unmade}
use Rattle.work_turns.specs.Ends.{files_among, those_among}
use Rattle.job_turns.proofs.Ending.{comes-at-last}
use Rattle.job_turns.proofs.OpenJobs.{open-whole, same-form}
use Rattle.job_turns.proofs.job.JobWork.ended.Goals as goal

-- ---- what finishing asks

-- ---- what finishing asks

pub finish-requires-clause-formed : goal.finish-requires-clause-formed
finish-requires-clause-formed c =
    let t = table_of c.args.catalog.now in
    let job = c.args.self.now in
    let r = opened_rewriting job.work in
    let q = c.requires.job in
    let left = c.results_are_left_out.ensures in
    let whole = open-whole c.serving_rewritings.ensures.there left.file c.taken_rewritings.ensures.more t job.noted.items (left.table t job.noted.items c.know_table.ensures) q.0 job.work q.1.is_open in
    let root = open_root t q.0 job.work whole in
    c.serving_rewritings.ensures.formed t q.0 (plan_at r) (cuts_at r) r c.know_table.ensures root.serves

pub finish-requires-clause-parts : goal.finish-requires-clause-parts
finish-requires-clause-parts c =
    let t = table_of c.args.catalog.now in
    let job = c.args.self.now in
    let q = c.requires.job in
    let left = c.results_are_left_out.ensures in
    let whole = open-whole c.serving_rewritings.ensures.there left.file c.taken_rewritings.ensures.more t job.noted.items (left.table t job.noted.items c.know_table.ensures) q.0 job.work q.1.is_open in
    let root = open_root t q.0 job.work whole in
    (kinds_of_streams t.streams, kinds_there (kinds_of_streams t.streams) (plan_of job.work.job.rewriting.plan) root.fit.over.typed, whole.parts)

pub returns-in_err-outcome-clause-err : goal.returns-in_err-outcome-clause-err
returns-in_err-outcome-clause-err c =
    λ care s plan valid means has is.
    let t = table_of c.args.catalog.now in
    let job = c.args.self.now in
    let r = opened_rewriting job.work in
    let left = c.results_are_left_out.ensures in
    let whole = open-whole c.serving_rewritings.ensures.there left.file c.taken_rewritings.ensures.more t job.noted.items (left.table t job.noted.items c.know_table.ensures) plan job.work is.is_open in
    let root = open_root t plan job.work whole in
    let laws : Laws = record {
      entries = c.kept_results_of_tables.ensures.sound;
      meaning = c.serving_rewritings.ensures.meaning;
      same_leaves = c.serving_rewritings.ensures.leaves;
      places = c.places_of_fit_plans.ensures.made;
      shaped = c.kept_forms_have_their_shape.ensures;
    } in
    let why = c.in_err-outcome.field-0.0 in
    let p = err_from_is_err_and c.from_residual.result c.from_residual.ensures.1 in
    rw (p.1, p.2)
    (unmade laws s valid t means c.know_table.ensures plan whole.normal job.work.program.cuts r root (open_plan t plan job.work whole) (open_cuts t plan job.work whole) care why
    (c.in_err-outcome.ensures.finishes (kinds_of_streams t.streams) (extents_in s.streams) (results_in s) (record {
      are = whole.parts;
      cuts = c.serving_rewritings.ensures.length t plan (plan_at r) (cuts_at r) r root.serves root.are_cuts;
      read = subst (λ (x : Table). HaveRead (kinds_of_streams x.streams) (extents_in s.streams) (results_in s) (pieces_of r) job.work.job.parts.items) (sym means) has;
    })))

pub returns-in_err-program-clause-err : goal.returns-in_err-program-clause-err
returns-in_err-program-clause-err c =
    λ care s plan valid means has is. (let p = err_from_is_err_and c.from_residual-in_err-program.result c.from_residual-in_err-program.ensures.1 in rw (p.1, p.2) tt)

pub returns-in_err-last-clause-err : goal.returns-in_err-last-clause-err
returns-in_err-last-clause-err c =
    λ care s plan valid means has is. (let p = err_from_is_err_and c.from_residual-in_err-last.result c.from_residual-in_err-last.ensures.1 in rw (p.1, p.2) tt)

pub returns-in_err-work_of_turns-clause-err : goal.returns-in_err-work_of_turns-clause-err
returns-in_err-work_of_turns-clause-err c =
    λ care s plan valid means has is. (let p = err_from_is_err_and c.from_residual-in_err-work_of_turns.result c.from_residual-in_err-work_of_turns.ensures.1 in rw (p.1, p.2) tt)

-- ---- what is recorded

pub work_of_turns-requires-clause-program : goal.work_of_turns-requires-clause-program
work_of_turns-requires-clause-program c =
    subst (λ (p : Program). FitsProgram (Some p) (table_of c.args.catalog.now)) (sym c.in_ok-program.ensures) c.requires.program

pub work_of_turns-requires-clause-told : goal.work_of_turns-requires-clause-told
work_of_turns-requires-clause-told c =
    let t = table_of c.args.catalog.now in
    let job = c.args.self.now in
    let r = opened_rewriting job.work in
    let q = c.requires.job in
    let left = c.results_are_left_out.ensures in
    let whole = open-whole c.serving_rewritings.ensures.there left.file c.taken_rewritings.ensures.more t job.noted.items (left.table t job.noted.items c.know_table.ensures) q.0 job.work q.1.is_open in
    let root = open_root t q.0 job.work whole in
    let kinds = kinds_of_streams t.streams in
    let noted = job.noted.items in
    let opened = q.1.is_open in
    let last = c.in_ok-last.ensures in
    let outcome = c.in_ok-outcome.outcome in
    let ids = c.serving_rewritings.ensures.ids (leaving_out noted t) q.0 opened.normal job.work.program.cuts r job.work.used.items (left.table t noted c.know_table.ensures) opened.serves opened.are_cuts opened.used in
    record {
      used = subst (λ (l : List ℕ). AreIdsOf (without l t.entries) c.in_ok-last.last.turn.used.items) (sym last.lost) (subst (AreIdsOf (without noted t.entries)) (sym last.used) ids);
      few = subst (λ (l : List ℕ). length l ≤ 4096) (sym last.used) (c.serving_rewritings.ensures.few t q.0 whole.normal job.work.program.cuts r job.work.used.items c.know_table.ensures whole.serves whole.are_cuts whole.used);
      narrow = subst (λ (o : Outcome). HaveFewValues o.rows.items) (sym last.outcome)
          (few_in_rows kinds (plan_at r) outcome.rows.items root.fit.over.typed (c.in_ok-outcome.ensures.kinds kinds (kinds_there kinds (plan_of job.work.job.rewriting.plan) root.fit.over.typed) whole.parts));
      made = subst (λ (o : Outcome). AllByRecursion (λ (kept : KeptPlace). IsFit t.streams (plan_of kept.plan) kept.cuts × (0 < kept.machine)) o.made.items) (sym last.outcome)
          (fit-kept t.streams (made_places (plan_at r) (cuts_at r) r) (c.places_of_fit_plans.ensures.made t.streams (plan_at r) (cuts_at r) r root.fit) outcome.made.items c.in_ok-outcome.ensures.places);
    }

pub returns-clause-recorded : goal.returns-clause-recorded
returns-clause-recorded c =
    let t = table_of c.args.catalog.now in
    let job = c.args.self.now in
    let done = c.in_ok-work_of_turns.field-0 in
    let of = c.in_ok-work_of_turns.ensures in
    let last = c.in_ok-last.ensures in (
      map made_of c.in_ok-outcome.outcome.made.items,
      (subst (λ (p : Program). IsWorkPlan t (Some p) done.work.used.items (those_among job.noted.items t.entries) (map made_of c.in_ok-outcome.outcome.made.items) done.work.plan) c.in_ok-program.ensures
          (subst (λ (o : Outcome). IsWorkPlan t (Some c.in_ok-program.program) done.work.used.items (those_among job.noted.items t.entries) (map made_of o.made.items) done.work.plan) last.outcome
          (subst (λ (l : List ℕ). IsWorkPlan t (Some c.in_ok-program.program) done.work.used.items (those_among l t.entries) (map made_of c.in_ok-last.last.turn.outcome.made.items) done.work.plan) last.lost of.plan))),
    )

pub returns-clause-dropped : goal.returns-clause-dropped
returns-clause-dropped c =
    let t = table_of c.args.catalog.now in
    c.in_ok-work_of_turns.ensures.dropped ∙ ap (λ (l : List ℕ). those_among l t.entries) c.in_ok-last.ensures.lost

pub returns-clause-gone : goal.returns-clause-gone
returns-clause-gone c =
    let t = table_of c.args.catalog.now in
    let job = c.args.self.now in
    let done = c.in_ok-work_of_turns.field-0 in
    let of = c.in_ok-work_of_turns.ensures in
    let last = c.in_ok-last.ensures in
    of.gone ∙ ap (λ (l : List ℕ). files_among (those_among l t.entries) t.entries) last.lost

-- ---- what it comes to

pub returns-clause-ok : goal.returns-clause-ok
returns-clause-ok c =
    λ s plan valid means has is.
    let t = table_of c.args.catalog.now in
    let job = c.args.self.now in
    let r = opened_rewriting job.work in
    let left = c.results_are_left_out.ensures in
    let whole = open-whole c.serving_rewritings.ensures.there left.file c.taken_rewritings.ensures.more t job.noted.items (left.table t job.noted.items c.know_table.ensures) plan job.work is.is_open in
    let root = open_root t plan job.work whole in
    let laws : Laws = record {
      entries = c.kept_results_of_tables.ensures.sound;
      meaning = c.serving_rewritings.ensures.meaning;
      same_leaves = c.serving_rewritings.ensures.leaves;
      places = c.places_of_fit_plans.ensures.made;
      shaped = c.kept_forms_have_their_shape.ensures;
    } in
    let done = c.in_ok-work_of_turns.field-0 in
    let of = c.in_ok-work_of_turns.ensures in
    let last = c.in_ok-last.ensures in
    let here = subst (λ (x : Table). IsOpen x plan job.work) means whole in
    comes-at-last laws s valid (subst IsTable means c.know_table.ensures) plan job here (same-form (leaving_out job.noted.items t) (table s) plan job.work job.work refl is.is_open here ∙ is.form_is) c.in_ok-outcome.outcome
    (c.in_ok-outcome.ensures.finishes (kinds_of_streams t.streams) (extents_in s.streams) (results_in s) (record {
      are = whole.parts;
      cuts = c.serving_rewritings.ensures.length t plan (plan_at r) (cuts_at r) r root.serves root.are_cuts;
      read = subst (λ (x : Table). HaveRead (kinds_of_streams x.streams) (extents_in s.streams) (results_in s) (pieces_of r) job.work.job.parts.items) (sym means) has;
    })) c.in_ok-outcome.ensures.places done.work (of.rows ∙ ap (λ (o : Outcome). o.rows) last.outcome)
    (ap (λ u. u.items) of.used ∙ last.used) (of.read ∙ last.read)
    (subst (λ (x : Table). IsWorkPlan x (Some job.work.program) done.work.used.items (those_among job.noted.items x.entries) (map made_of c.in_ok-outcome.outcome.made.items) done.work.plan) means
    (subst (λ (p : Program). IsWorkPlan t (Some p) done.work.used.items (those_among job.noted.items t.entries) (map made_of c.in_ok-outcome.outcome.made.items) done.work.plan) c.in_ok-program.ensures
    (subst (λ (o : Outcome). IsWorkPlan t (Some c.in_ok-program.program) done.work.used.items (those_among job.noted.items t.entries) (map made_of o.made.items) done.work.plan) last.outcome
    (subst (λ (l : List ℕ). IsWorkPlan t (Some c.in_ok-program.program) done.work.used.items (those_among l t.entries) (map made_of c.in_ok-last.last.turn.outcome.made.items) done.work.plan) last.lost of.plan))))
