use Rattle.std.proofs.Common.{sym, subst, Some}
use Rattle.std.proofs.lemmas.Result.{err_from_is_err_and}
use Rattle.catalog_types.specs.declared.program.Program.{Program}
use Rattle.catalog_core.specs.Catalogs.{table_of}
use Rattle.catalog_core.specs.Table.{FitsProgram}
use Rattle.work_plan.specs.Planning.{IsWorkPlan}
use Rattle.work_turns.specs.Ends.{those_among}
use Rattle.job_turns.proofs.Ending.{halts-made, made-for, read-for}
use Rattle.job_turns.proofs.job.JobWork.close.Goals as goal

-- ---- a file isn't read

pub returns-in_err-read_rest-clause-halts : goal.returns-in_err-read_rest-clause-halts
returns-in_err-read_rest-clause-halts g c = λ plan is. (let p = err_from_is_err_and c.from_residual.result c.from_residual.ensures.1 in rw (p.1, p.2) (c.in_err-read_rest.ensures.halts plan is))

pub returns-in_err-read_rest-clause-made : goal.returns-in_err-read_rest-clause-made
returns-in_err-read_rest-clause-made g c = (let p = err_from_is_err_and c.from_residual.result c.from_residual.ensures.1 in rw (p.1, p.2) (read-for c.read_rest.new.self.work c.in_err-read_rest.field-0.0))

-- ---- nothing is made

pub ended-requires-clause-job : goal.ended-requires-clause-job
ended-requires-clause-job g c = (c.requires.job.0, c.in_ok-read_rest.ensures.job c.requires.job.0 c.requires.job.1)

pub ended-requires-clause-program : goal.ended-requires-clause-program
ended-requires-clause-program g c =
    let on = (c.in_ok-read_rest.ensures.reads c.requires.job.0 c.requires.job.1).on in
    subst (λ (program : Program). FitsProgram (Some program) (table_of c.args.catalog.now)) (sym on.program) c.requires.program

pub returns-in_err-ended-clause-halts : goal.returns-in_err-ended-clause-halts
returns-in_err-ended-clause-halts g c = λ plan is.
    let t = table_of c.args.catalog.now in
    let p = err_from_is_err_and c.from_residual-in_err-ended.result c.from_residual-in_err-ended.ensures.1 in
    rw (p.1, p.2)
    (halts-made g.D.Store.tells t (g.D.Store.view c.args.store.now) plan c.args.self.now c.read_rest.new.self (g.D.Store.counts c.args.store.now) (g.D.Store.counts c.read_rest.new.store) (c.in_ok-read_rest.ensures.reads plan is)
    c.in_ok-read_rest.ensures.whole c.in_err-ended.field-0.0
    (λ told care s left means has. c.in_err-ended.ensures.err care s plan left.read.valid means has (c.in_ok-read_rest.ensures.job plan is)))

pub returns-in_err-ended-clause-made : goal.returns-in_err-ended-clause-made
returns-in_err-ended-clause-made g c =
    let p = err_from_is_err_and c.from_residual-in_err-ended.result c.from_residual-in_err-ended.ensures.1 in
    rw (p.1, p.2) (made-for c.read_rest.new.self.work c.in_ok-read_rest.ensures.whole c.in_err-ended.field-0.0)

-- ---- it came to an end

pub returns-clause-ok : goal.returns-clause-ok
returns-clause-ok g c = λ told care s plan left means has is.
    let reads = c.in_ok-read_rest.ensures.reads plan is in
    c.in_ok-ended.ensures.ok s plan left.read.valid means (reads.over told care s left means has).0 (c.in_ok-read_rest.ensures.job plan is)

pub returns-clause-recorded : goal.returns-clause-recorded
returns-clause-recorded g c =
    let t = table_of c.args.catalog.now in
    let on = (c.in_ok-read_rest.ensures.reads c.requires.job.0 c.requires.job.1).on in
    let made = c.in_ok-ended.ensures.recorded in
    let done = c.in_ok-ended.field-0 in (
      made.0,
      subst (λ (p : Program). IsWorkPlan t (Some p) done.work.used.items (those_among c.read_rest.new.self.noted.items t.entries) made.0 done.work.plan) on.program made.1,
    )
