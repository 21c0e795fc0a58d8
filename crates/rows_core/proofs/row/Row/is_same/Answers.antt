-- `==` of rows is equality.
use Rattle.std.proofs.lemmas.Bool.Decides.{Decides-at}
use Rattle.rows_core.specs.Equality.{same_row-Decides}
use Rattle.rows_core.proofs.row.Row.is_same.Goals as goal

pub returns : goal.returns
returns c = Decides-at _ _ c.eq.ensures (same_row-Decides c.args.self.now c.args.other.now)
