use Rattle.std.proofs.Common.{refl, []}
use Rattle.catalog_core.specs.Catalogs.{table_of}
use Rattle.job_turns.specs.declared.job.JobWork.{JobWork}
use Rattle.job_turns.proofs.OpenJobs.{fresh-job}
use Rattle.job_turns.proofs.choosing.open_job.Goals as goal

pub returns-clause-opened : goal.returns-clause-opened
returns-clause-opened c = λ plan is. record {
  fresh = c.in_ok-work.ensures.fresh [] plan c.args.normal.plan is;
  form_is = refl;
  noted = c.new.ensures.items;
  before = refl;
}

pub returns-clause-job : goal.returns-clause-job
returns-clause-job c = λ plan is.
    let job : JobWork = record { work = c.in_ok-work.work; normal = c.args.normal; noted = c.new.result; before = 0 } in
    fresh-job (table_of c.args.catalog.now) plan c.args.normal.plan c.args.program job [] c.new.ensures.items refl refl (c.in_ok-work.ensures.fresh [] plan c.args.normal.plan is)
