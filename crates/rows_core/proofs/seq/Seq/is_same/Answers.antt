-- Lists are equal where their items are.
use Rattle.std.proofs.lemmas.Bool.Decides.{Decides-at}
use Rattle.std.specs.Cmp.Lexicographic.{pointwise_decides}
use Rattle.rows_core.proofs.seq.Seq.is_same.Goals as goal

pub returns : goal.returns
returns g c = Decides-at _ _ c.eq.ensures (pointwise_decides g.met.T.ExactEq.exact c.args.self.now c.args.other.now)
