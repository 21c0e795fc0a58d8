use Rattle.catalog_core.specs.Catalogs.{table_of}
use Rattle.planning.proofs.Openings.{opening-refused}
use Rattle.planning.proofs.opening.plan_open.Goals as goal

pub returns-in-Err-clause-err : goal.returns-in-Err-clause-err
returns-in-Err-clause-err c =
    opening-refused (table_of c.args.catalog.now) c.args.jobs.exists c.args.jobs.count c.args.job c.args.name c.args.plan.now c.in-Err.refusal c.refused_job.result c.refused_job.ensures c.in-Err.ensures.err
