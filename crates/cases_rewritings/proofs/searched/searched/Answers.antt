use Rattle.plan_core.specs.PlainPlan.{plan_of}
use Rattle.rewrite_core.specs.PlainRewriting.{rewriting_of, way_of}
use Rattle.postfix_plans.specs.Listed.{entries_of}
use Rattle.cases_rewritings.proofs.Roots.{own_root}
use Rattle.cases_rewritings.proofs.searched.searched.Goals as goal

pub told-requires-clause-formed : goal.told-requires-clause-formed
told-requires-clause-formed c =
    own_root (plan_of c.in_ok-tree.tree.plan) c.args.case.now.typed.plan c.in_ok-tree.tree.cuts c.items-cuts.result.now (way_of c.in_ok-tree.tree.way)
    (c.rewritings_are_formed.ensures (entries_of c.args.case.now.kept.results.items) c.requires.sound c.args.case.now.typed.plan c.items-cuts.result.now (rewriting_of c.in_ok-tree.tree) c.in_ok-tree.ensures.is)
