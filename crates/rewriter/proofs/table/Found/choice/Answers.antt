use Rattle.rewriter.specs.Table.{IsKnownChoice}
use Rattle.rewriter.proofs.Tables.{held}
use Rattle.rewriter.proofs.table.Found.choice.Goals as goal

pub returns-in-Some : goal.returns-in-Some
returns-in-Some c = λ entries lengths found.
    c.choice_of.ensures entries lengths (held (IsKnownChoice entries lengths) c.args.self.now.choices _ c.in-Some.known.now c.in-Some.ensures.value found.choices)
