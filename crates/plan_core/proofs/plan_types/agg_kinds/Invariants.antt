-- The kinds so far are those of the aggregates so far.
use Rattle.plan_core.specs.PlanTyping.{agg_kind}
use Rattle.plan_core.specs.AllThere.{HasFound}
use Rattle.plan_core.proofs.plan_types.agg_kinds.Given as goal

abbrev pub invariant-loop-agg : goal.invariant-loop-agg
invariant-loop-agg l = HasFound (agg_kind l.kinds) l.aggs l.agg-index l.found.items
