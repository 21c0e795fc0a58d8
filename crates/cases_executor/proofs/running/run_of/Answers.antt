use Rattle.plan_core.specs.PlainPlan.{plan_of, leaves}
use Rattle.estimator.proofs.Sums.{streams_length}
use Rattle.cases_executor.proofs.running.run_of.Goals as goal

pub run-requires-clause-formed : goal.run-requires-clause-formed
run-requires-clause-formed c = c.requires.formed

pub run-requires-clause-cuts : goal.run-requires-clause-cuts
run-requires-clause-cuts c = streams_length c.args.shelf.now.lens.lens (leaves (plan_of c.args.tree.plan)) c.args.tree.cuts c.requires.cuts

pub run-requires-clause-typed : goal.run-requires-clause-typed
run-requires-clause-typed c = c.requires.typed

pub run-requires-clause-there : goal.run-requires-clause-there
run-requires-clause-there c = c.requires.there
