use Rattle.std.proofs.Common.{List, subst}
use Rattle.std.specs.List.{AllByRecursion}
use Rattle.rewrite_core.specs.Files.{FileName}
use Rattle.executor.specs.Progress.{left_in}
use Rattle.executor.proofs.RestSteps.{some_left, one_shorter}
use Rattle.cases_executor.specs.Filed.{HasFile}
use Rattle.cases_executor.proofs.held.held_of.Goals as goal

pub loop-alloc-init : goal.loop-alloc-init
loop-alloc-init c = record { there = c.requires.there; parts = c.requires.parts }

pub read_next-requires-clause-left : goal.read_next-requires-clause-left
read_next-requires-clause-left c = some_left (left_in c.loop-alloc.job.parts.items) c.left.result c.left.ensures c.loop-alloc-test.true

pub read_next-requires-clause-there : goal.read_next-requires-clause-there
read_next-requires-clause-there c = c.loop-alloc.invariant.there

pub read_next-requires-clause-parts : goal.read_next-requires-clause-parts
read_next-requires-clause-parts c = c.loop-alloc.invariant.parts

pub loop-alloc-preserved : goal.loop-alloc-preserved
loop-alloc-preserved c =
    let next = c.in_ok-read_next.ensures.next in
    let parts = c.loop-alloc.invariant.parts in
    let there = subst (λ (names : List FileName). AllByRecursion (HasFile c.args.shelf.now.extents c.args.shelf.now.kept.items) names) next.1 c.loop-alloc.invariant.there in
    record { there = there.1; parts = (parts.0, c.in_ok-read_next.ensures.parts parts.0 parts.1) }

pub loop-alloc-smaller : goal.loop-alloc-smaller
loop-alloc-smaller c = let next = c.in_ok-read_next.ensures.next in one_shorter (left_in c.loop-alloc.job.parts.items) (left_in c.read_next.new.job.parts.items) next.0 next.1
