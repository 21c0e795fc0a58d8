use Rattle.std.proofs.Common.{arith}
use Rattle.script_text.proofs.AnswerLemmas.{ids_are_short}
use Rattle.script_text.proofs.laws.ids_are_short.Goals as goal

pub returns : goal.returns
returns c = ids_are_short c.args.ids.now (λ k h. omega (arith, c.type_inv.ids k))
