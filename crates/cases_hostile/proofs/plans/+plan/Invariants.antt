-- Fewer levels at each call.
use Rattle.cases_hostile.proofs.plans.+plan.Given as goal

abbrev pub decreases-plan : goal.decreases-plan
decreases-plan l = l.levels
