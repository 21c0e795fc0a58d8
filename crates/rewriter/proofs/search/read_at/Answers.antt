use Rattle.plan_core.specs.PlainPlan.{plan_of}
use Rattle.rewrite_core.specs.PlainRewriting.{Node, Read}
use Rattle.rewriter.proofs.LeastParts as law
use Rattle.rewriter.proofs.search.read_at.Goals as goal

pub returns-in-None : goal.returns-in-None
returns-in-None g c = λ lengths. law.read_none (g.L.Lookup.entries c.args.lookup.now) lengths (plan_of c.args.part.plan.now) c.args.part.cuts.now (rw c.in-None.is at c.in_ok-whole.ensures)

pub returns-in-Some : goal.returns-in-Some
returns-in-Some g c = λ lengths. record {
  of = Node (plan_of c.args.part.plan.now) c.args.part.cuts.now (Read c.in-Some.hit);
  least = law.read_whole (g.L.Lookup.entries c.args.lookup.now) lengths (plan_of c.args.part.plan.now) c.args.part.cuts.now c.requires.sound c.in-Some.hit (rw c.in-Some.is at c.in_ok-whole.ensures);
  estimate = c.file_len.ensures;
}
