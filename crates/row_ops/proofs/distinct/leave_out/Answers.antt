use Rattle.std.proofs.Common.{not, rules}
use Rattle.std.proofs.lemmas.Fn.{filter_same}
use Rattle.row_ops.proofs.Sets.{lends}
use Rattle.row_ops.proofs.distinct.leave_out.Goals as goal

pub returns : goal.returns
returns c = filter_same _ (λ row. not (lends c.args.known.now.keys row)) _ (λ x b f' k. search rules) _ _ c.retain.ensures.filtered
