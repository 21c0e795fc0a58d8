use Rattle.plan_text.specs.PlainNamed.{tree_of}
use Rattle.plan_text.proofs.Texts.{reading_plan}
use Rattle.plan_text.proofs.parse.plan_of_text.Goals as goal

pub new-requires : goal.new-requires
new-requires c =
    let p = reading_plan c.args.text.now (tree_of c.in_ok-tree.tree) c.in_ok-tree.ensures in
    record { written = ((c.args.text.now, p.0), p.1) }
