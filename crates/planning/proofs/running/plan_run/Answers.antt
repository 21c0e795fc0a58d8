use Rattle.std.proofs.Common.{Err}
use Rattle.catalog_core.specs.Catalogs.{table_of}
use Rattle.planning.proofs.RunLemmas.{running-refused, no_fault}
use Rattle.planning.proofs.Runs.{is_run, is_not_run}
use Rattle.planning.proofs.running.plan_run.Goals as goal

pub returns-in-Ok-clause-ok : goal.returns-in-Ok-clause-ok
returns-in-Ok-clause-ok c =
    is_run (table_of c.args.catalog.now) c.args.name c.args.plan.now c.in-Ok.typed c.in-Ok.ensures.bound c.in-Ok.ensures.typed c.run_typed.result c.run_typed.ensures.ok c.run_typed.ensures.plan

pub returns-in-Ok-clause-err : goal.returns-in-Ok-clause-err
returns-in-Ok-clause-err c =
    is_not_run (table_of c.args.catalog.now) c.args.name c.args.plan.now c.in-Ok.typed c.in-Ok.ensures.bound c.in-Ok.ensures.typed c.run_typed.result c.run_typed.ensures.err

pub returns-in-Err-clause-err : goal.returns-in-Err-clause-err
returns-in-Err-clause-err c = running-refused (table_of c.args.catalog.now) c.args.name c.args.plan.now c.in-Err.refusal c.in-Err.ensures.err

pub returns-in-Ok-clause-no_fault : goal.returns-in-Ok-clause-no_fault
returns-in-Ok-clause-no_fault c =
    no_fault (table_of c.args.catalog.now) c.args.name c.args.plan.now c.run_typed.result
    (is_not_run (table_of c.args.catalog.now) c.args.name c.args.plan.now c.in-Ok.typed c.in-Ok.ensures.bound c.in-Ok.ensures.typed c.run_typed.result c.run_typed.ensures.err)

pub returns-in-Err-clause-no_fault : goal.returns-in-Err-clause-no_fault
returns-in-Err-clause-no_fault c =
    no_fault (table_of c.args.catalog.now) c.args.name c.args.plan.now (Err c.in-Err.refusal)
    (running-refused (table_of c.args.catalog.now) c.args.name c.args.plan.now c.in-Err.refusal c.in-Err.ensures.err)
