use Rattle.std.proofs.Common.{◌≡◌, refl, ap, ◌∙◌, subst, ℕ, true, List, [], ◌∷◌, ◌++◌, arith}
use Rattle.std.proofs.lemmas.Result.{err_from_is_err_and}
use Rattle.outside_traits.proofs.RunLemmas.{narrows_none, narrows_on}
use Rattle.rewrite_core.specs.Files.{Result, files_of}
use Rattle.catalog_core.specs.Catalogs.{table_of}
use Rattle.catalog_core.specs.Named.{HasFile}
use Rattle.entry_table.specs.Ids.{is_there, without}
use Rattle.executor.specs.Runs.{of_reading}
use Rattle.executor.proofs.RestSteps.{none_left, one_shorter, rises_on}
use Rattle.plan_choice.specs.Leaving.{leaving_out}
use Rattle.work_run.specs.Opened.{files_left, opened_rewriting}
use Rattle.work_turns.proofs.Turning.{named}
use Rattle.job_turns.specs.Steps.{IsStep}
use Rattle.job_turns.proofs.Reading.{halts-then, reads-nothing, reads-then}
use Rattle.job_turns.proofs.job.JobWork.read_turn.Goals as goal

pub loop-alloc-init : goal.loop-alloc-init
loop-alloc-init g c =
    record {
      job = λ plan is. is;
      reads = λ plan is. reads-nothing g.D.Store.tells (table_of c.args.catalog.now) (g.D.Store.view c.args.store.now) plan c.args.self.now (g.D.Store.counts c.args.store.now) is;
      noted = refl;
      narrows = narrows_none (g.D.Store.view c.args.store.now);
      counts = record { reads = omega arith; writes = refl; removes = refl; taken = omega arith };
    }

pub step-requires-clause-job : goal.step-requires-clause-job
step-requires-clause-job g c =
    (c.requires.0, c.loop-alloc.invariant.job c.requires.0 c.requires.1)

-- ---- a file was read

pub loop-alloc-smaller : goal.loop-alloc-smaller
loop-alloc-smaller g c =
    let t = table_of c.args.catalog.now in
    let done = subst (IsStep g.D.Store.tells t c.requires.0 c.loop-alloc.self c.step.new.self (g.D.Store.counts c.loop-alloc.store) (g.D.Store.counts c.step.new.store)) c.in_default.is
    (c.in_ok-id.ensures.step c.requires.0 (c.loop-alloc.invariant.job c.requires.0 c.requires.1)) in
    one_shorter (files_left c.loop-alloc.self.work) (files_left c.step.new.self.work) done.name done.next

pub loop-alloc-preserved : goal.loop-alloc-preserved
loop-alloc-preserved g c =
    let t = table_of c.args.catalog.now in
    let inv = c.loop-alloc.invariant in
    let start = g.D.Store.view c.args.store.now in
    let half = g.D.Store.view c.loop-alloc.store in
    let first = g.D.Store.counts c.args.store.now in
    let mid = g.D.Store.counts c.loop-alloc.store in
    let done = subst (IsStep g.D.Store.tells t c.requires.0 c.loop-alloc.self c.step.new.self (g.D.Store.counts c.loop-alloc.store) (g.D.Store.counts c.step.new.store)) c.in_default.is
    (c.in_ok-id.ensures.step c.requires.0 (c.loop-alloc.invariant.job c.requires.0 c.requires.1)) in
    record {
      job = λ plan is. c.in_ok-id.ensures.job plan (inv.job plan is);
      reads = λ plan is.
          reads-then g.D.Store.tells t start half plan c.args.self.now c.loop-alloc.self c.step.new.self first mid (g.D.Store.counts c.step.new.store) (inv.reads plan is)
          (λ care s left. c.left_stores.ensures.kept care s s c.args.store.now c.loop-alloc.store inv.narrows left) (c.in_ok-id.ensures.reads plan (inv.job plan is));
      noted = done.noted ∙ inv.noted;
      narrows = narrows_on start half (g.D.Store.view c.step.new.store) inv.narrows c.in_ok-id.ensures.narrows;
      counts = rises_on first mid (g.D.Store.counts c.step.new.store) inv.counts c.in_ok-id.ensures.counts;
    }

-- ---- one wasn't

pub returns-in_err-id-clause-job : goal.returns-in_err-id-clause-job
returns-in_err-id-clause-job g c =
    λ plan is. c.in_err-id.ensures.job plan (c.loop-alloc.invariant.job plan is)

pub returns-in_err-id-clause-narrows : goal.returns-in_err-id-clause-narrows
returns-in_err-id-clause-narrows g c =
    let inv = c.loop-alloc.invariant in
    narrows_on (g.D.Store.view c.args.store.now) (g.D.Store.view c.loop-alloc.store) (g.D.Store.view c.step.new.store) inv.narrows c.in_err-id.ensures.narrows

pub returns-in_err-id-clause-counts : goal.returns-in_err-id-clause-counts
returns-in_err-id-clause-counts g c =
    let inv = c.loop-alloc.invariant in
    rises_on (g.D.Store.counts c.args.store.now) (g.D.Store.counts c.loop-alloc.store) (g.D.Store.counts c.step.new.store) inv.counts c.in_err-id.ensures.counts

pub returns-in_err-id-clause-halts : goal.returns-in_err-id-clause-halts
returns-in_err-id-clause-halts g c =
    λ plan is.
    let t = table_of c.args.catalog.now in
    let inv = c.loop-alloc.invariant in
    let start = g.D.Store.view c.args.store.now in
    let half = g.D.Store.view c.loop-alloc.store in
    let first = g.D.Store.counts c.args.store.now in
    let mid = g.D.Store.counts c.loop-alloc.store in
    let why = c.in_err-id.field-0.0 in
    let p = err_from_is_err_and c.from_residual.result c.from_residual.ensures.1 in
    rw (p.1, p.2)
    (halts-then g.D.Store.tells t start half plan c.args.self.now c.loop-alloc.self c.step.new.self first mid (g.D.Store.counts c.step.new.store) (inv.reads plan is)
    (λ care s left. c.left_stores.ensures.kept care s s c.args.store.now c.loop-alloc.store inv.narrows left) inv.narrows.same inv.counts.taken (of_reading why) (c.in_err-id.ensures.halts plan (inv.job plan is)))

-- ---- a result was noted

pub returns-in-Noted-clause-job : goal.returns-in-Noted-clause-job
returns-in-Noted-clause-job g c =
    λ plan is. c.in_ok-id.ensures.job plan (c.loop-alloc.invariant.job plan is)

pub returns-in-Noted-clause-narrows : goal.returns-in-Noted-clause-narrows
returns-in-Noted-clause-narrows g c =
    let inv = c.loop-alloc.invariant in
    narrows_on (g.D.Store.view c.args.store.now) (g.D.Store.view c.loop-alloc.store) (g.D.Store.view c.step.new.store) inv.narrows c.in_ok-id.ensures.narrows

pub returns-in-Noted-clause-counts : goal.returns-in-Noted-clause-counts
returns-in-Noted-clause-counts g c =
    let inv = c.loop-alloc.invariant in
    rises_on (g.D.Store.counts c.args.store.now) (g.D.Store.counts c.loop-alloc.store) (g.D.Store.counts c.step.new.store) inv.counts c.in_ok-id.ensures.counts

pub returns-in-Noted-clause-reads : goal.returns-in-Noted-clause-reads
returns-in-Noted-clause-reads g c =
    λ plan is.
    let t = table_of c.args.catalog.now in
    let inv = c.loop-alloc.invariant in
    let start = g.D.Store.view c.args.store.now in
    let half = g.D.Store.view c.loop-alloc.store in
    let first = g.D.Store.counts c.args.store.now in
    let mid = g.D.Store.counts c.loop-alloc.store in
    reads-then g.D.Store.tells t start half plan c.args.self.now c.loop-alloc.self c.step.new.self first mid (g.D.Store.counts c.step.new.store) (inv.reads plan is)
    (λ care s left. c.left_stores.ensures.kept care s s c.args.store.now c.loop-alloc.store inv.narrows left) (c.in_ok-id.ensures.reads plan (inv.job plan is))

pub returns-in-Noted-clause-end : goal.returns-in-Noted-clause-end
returns-in-Noted-clause-end g c =
    let t = table_of c.args.catalog.now in
    let done = subst (IsStep g.D.Store.tells t c.requires.0 c.loop-alloc.self c.step.new.self (g.D.Store.counts c.loop-alloc.store) (g.D.Store.counts c.step.new.store)) c.in-Noted.is
    (c.in_ok-id.ensures.step c.requires.0 (c.loop-alloc.invariant.job c.requires.0 c.requires.1)) in
    let job = c.loop-alloc.self in
    let opened = (c.loop-alloc.invariant.job c.requires.0 c.requires.1).is_open in
    let noted = job.noted.items in
    let there = c.serving_rewritings.ensures.there (leaving_out noted t) c.requires.0 opened.normal job.work.program.cuts (opened_rewriting job.work) (c.results_are_left_out.ensures.table t noted c.know_table.ensures) opened.serves opened.are_cuts in
    let has = named (HasFile (leaving_out noted t)) (files_of (opened_rewriting job.work)) opened.names done.notes.others (Result c.in-Noted.id) (opened.rest ∙ ap (λ l. opened.names ++ l) done.notes.next) there in
    subst (λ (ids : List ℕ). (is_there (without ids t.entries) c.in-Noted.id ≡ true) × (c.step.new.self.noted.items ≡ ids ++ c.in-Noted.id ∷ [])) (ap (λ v. v.items) c.loop-alloc.invariant.noted) (has, done.notes.notes.noted)

-- ---- all are read

pub returns-clause-job : goal.returns-clause-job
returns-clause-job g c =
    c.loop-alloc.invariant.job

pub returns-clause-reads : goal.returns-clause-reads
returns-clause-reads g c =
    c.loop-alloc.invariant.reads

pub returns-clause-end : goal.returns-clause-end
returns-clause-end g c =
    none_left (files_left c.loop-alloc.self.work) c.left.result c.left.ensures c.loop-alloc-test.false

pub returns-clause-narrows : goal.returns-clause-narrows
returns-clause-narrows g c =
    c.loop-alloc.invariant.narrows

pub returns-clause-counts : goal.returns-clause-counts
returns-clause-counts g c =
    c.loop-alloc.invariant.counts
