use Rattle.rewriter.specs.Table.{IsKnownChoice, IsKnownDelta}
use Rattle.rewriter.proofs.Tables.{holds_nothing}
use Rattle.rewriter.proofs.table.Found.new.Goals as goal

pub returns : goal.returns
returns c = λ entries lengths. record {
  choices = holds_nothing (IsKnownChoice entries lengths) c.new.result c.new.ensures.empty;
  deltas = holds_nothing (IsKnownDelta entries lengths) c.new-2.result c.new-2.ensures.empty;
}
