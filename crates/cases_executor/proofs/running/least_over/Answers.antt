use Rattle.rewrite_core.specs.PlainRewriting.{rewriting_of}
use Rattle.postfix_plans.specs.Listed.{entries_of}
use Rattle.cases_executor.specs.Filed.{counts_of}
use Rattle.cases_executor.proofs.Searched.{can_run}
use Rattle.cases_executor.proofs.running.least_over.Goals as goal

pub returns : goal.returns
returns c =
    let shelf = c.args.shelf.now in
    let typed = c.args.typed.now in
    let tree = c.in_ok-tree.tree in
    let entries = entries_of c.args.shelf.now.results.results.items in
    can_run shelf typed c.args.cuts.now entries tree c.requires.typed c.requires.filed c.requires.cuts
    (c.rewritings_are_formed.ensures entries c.requires.sound typed.plan c.args.cuts.now (rewriting_of tree) c.in_ok-tree.ensures.is)
    (c.named_files_are_there.ensures entries (counts_of shelf.extents) typed.plan c.args.cuts.now (rewriting_of tree) c.in_ok-tree.ensures.is c.requires.within)
