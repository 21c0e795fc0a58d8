use Rattle.std.proofs.Common.{[]}
use Rattle.plan_core.specs.PlainPlan.{plan_of}
use Rattle.estimator.specs.Bytes.{Lengths}
use Rattle.rewrite_core.specs.PlainRewriting.{rewriting_of}
use Rattle.rewriter.specs.Forms.{IsRead, IsLeastOf}
use Rattle.rewriter.proofs.AlongTrees.{made_along}
use Rattle.rewriter.proofs.LeastParts as law
use Rattle.rewriter.proofs.trees.read_tree.Goals as goal

pub unreachable-requires : goal.unreachable-requires
unreachable-requires g c = c.requires.there (law.read_none (g.L.Lookup.entries c.args.lookup.now) [] (plan_of c.args.part.plan.now) c.args.part.cuts.now (rw c.in-None.is at c.in_ok-whole.ensures))

pub returns : goal.returns
returns g c =
    made_along (λ tree. (lengths : Lengths) → IsLeastOf IsRead (g.L.Lookup.entries c.args.lookup.now) lengths (plan_of c.args.part.plan.now) c.args.part.cuts.now tree) (λ t. rewriting_of t.value) _ c.node.result
    (λ lengths. law.read_whole (g.L.Lookup.entries c.args.lookup.now) lengths (plan_of c.args.part.plan.now) c.args.part.cuts.now c.requires.sound c.in-Some.hit (rw c.in-Some.is at c.in_ok-whole.ensures)) c.node.ensures
