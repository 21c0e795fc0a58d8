use Rattle.rewriter.specs.Table.{IsKnownDelta}
use Rattle.rewriter.proofs.Tables.{held}
use Rattle.rewriter.proofs.table.Found.price.Goals as goal

pub returns-in-Some : goal.returns-in-Some
returns-in-Some c = λ entries lengths found.
    c.price_of.ensures entries lengths (held (IsKnownDelta entries lengths) c.args.self.now.deltas _ c.in-Some.known.now c.in-Some.ensures.value found.deltas)
