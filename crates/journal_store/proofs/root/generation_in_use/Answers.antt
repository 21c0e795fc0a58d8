use Rattle.std.proofs.Common.{arith}
use Rattle.gated_log.proofs.Places.{length-front_take}
use Rattle.journal_store.proofs.Numbers.{number_stops}
use Rattle.journal_store.proofs.root.generation_in_use.Goals as goal

pub place-at-requires-clause-fits : goal.place-at-requires-clause-fits
place-at-requires-clause-fits c = omega (arith, c.requires.bound, length-front_take c.args.bodies.now c.numbers_agree-agreed.result)

pub returns-then-agreed-bodies-clause-stops : goal.returns-then-agreed-bodies-clause-stops
returns-then-agreed-bodies-clause-stops c = λ file at err.
    number_stops c.args.bodies.now c.numbers_agree-agreed.result c.place-at.result file at c.if-agreed-bodies.true c.numbers_agree-agreed.ensures.same
    (c.numbers_agree-agreed.ensures.differs c.if-agreed-bodies.true) c.place-at.ensures err
