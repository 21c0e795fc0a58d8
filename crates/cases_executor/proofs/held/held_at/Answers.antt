use Rattle.std.proofs.Common.{sym, subst, List}
use Rattle.std.specs.List.{AllByRecursion}
use Rattle.rewrite_core.specs.Files.{FileName}
use Rattle.rewrite_core.specs.PlainRewriting.{rewriting_of}
use Rattle.growth_laws.specs.Pieces.{pieces_of}
use Rattle.cases_executor.specs.Filed.{HasFile}
use Rattle.cases_executor.proofs.held.held_at.Goals as goal

pub prepare-requires-clause-formed : goal.prepare-requires-clause-formed
prepare-requires-clause-formed c = (c.in_ok-tree.tree.cuts, c.in_ok-tree.ensures.formed)

pub prepare-requires-clause-typed : goal.prepare-requires-clause-typed
prepare-requires-clause-typed c = (c.args.shelf.now.schemas.kinds, c.in_ok-tree.ensures.typed)

pub held_of-requires-clause-there : goal.held_of-requires-clause-there
held_of-requires-clause-there c =
    subst (λ (names : List FileName). AllByRecursion (HasFile c.args.shelf.now.extents c.args.shelf.now.kept.items) names) (sym c.in_ok-job.ensures.left) c.in_ok-tree.ensures.there

pub held_of-requires-clause-parts : goal.held_of-requires-clause-parts
held_of-requires-clause-parts c = (pieces_of (rewriting_of c.in_ok-tree.tree), c.in_ok-job.ensures.parts c.args.shelf.now.schemas.kinds c.in_ok-tree.ensures.typed)
