use Rattle.plan_core.specs.PlainPlan.{plan_of}
use Rattle.rewrite_core.specs.PlainRewriting.{rewriting_of}
use Rattle.rewriter.proofs.Formed.{in_streams}
use Rattle.rewriter.proofs.measures.reads.Goals as goal

pub reads_of-requires : goal.reads_of-requires
reads_of-requires g c = in_streams (g.Z.Sizes.lengths c.args.sizes.now) (plan_of c.args.r.now.plan) c.args.r.now.cuts (rewriting_of c.args.r.now) c.requires.formed c.requires.cuts
