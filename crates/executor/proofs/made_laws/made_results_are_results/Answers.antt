use Rattle.growth_laws.specs.Parts.{plan_at, cuts_at}
use Rattle.result_ops.specs.Bounds.{limit}
use Rattle.executor.proofs.MadeResults.{any_made, all_results}
use Rattle.executor.proofs.made_laws.made_results_are_results.Goals as goal

pub returns-clause-any : goal.returns-clause-any
returns-clause-any c = λ extents results r own found is here are.
    any_made extents results r own found here are (c.made_places_are_recorded.ensures extents results (plan_at r) (cuts_at r) r is)

pub returns-clause-each : goal.returns-clause-each
returns-clause-each c = λ extents results r own found is here are made stored within.
    all_results extents results r own found here made (c.results_of_rewritings.ensures.made extents results (plan_at r) (cuts_at r) r is) are
    (c.recorded_results_are_results.ensures extents results (plan_at r) (cuts_at r) r is)
    (c.machine_times_of_parts.ensures extents results (plan_at r) (cuts_at r) r limit stored within is) within
