use Rattle.std.proofs.Common.{refl}
use Rattle.rewriter.proofs.Choices.{chosen, under_first, under_read}
use Rattle.rewriter.proofs.choosing.cheapest.Goals as goal

pub returns-clause-least : goal.returns-clause-least
returns-clause-least c = λ entries lengths q cuts a b d. chosen entries lengths q cuts _ _ _ _ _ a b d c.or_cheaper-choice.ensures c.or_cheaper.ensures

pub returns-clause-computed_first : goal.returns-clause-computed_first
returns-clause-computed_first c = λ other. under_first _ _ _ _ _ c.or_cheaper-choice.ensures c.or_cheaper.ensures refl other

pub returns-clause-read_second : goal.returns-clause-read_second
returns-clause-read_second c = λ grows. under_read _ _ _ _ _ c.or_cheaper-choice.ensures c.or_cheaper.ensures refl grows
