use Rattle.std.proofs.Common.{sym, ◌∙◌}
use Rattle.std.proofs.lemmas.Bool.{false≢true}
use Rattle.journal_store.proofs.Numbers.{numbers_go_on, numbers_end}
use Rattle.journal_store.proofs.root.numbers_agree.Goals as goal

pub loop-i-preserved : goal.loop-i-preserved
loop-i-preserved c =
    numbers_go_on c.args.bodies.now c.loop-i.i c.index-bodies-i.result c.loop-i-test.true c.index-bodies-i.is c.loop-i.invariant
    (sym c.deref.ensures.value ∙ c.is_number.ensures.0 c.if-not-is_number.false)

pub returns-then-not-is_number-clause-differs : goal.returns-then-not-is_number-clause-differs
returns-then-not-is_number-clause-differs c = λ within.
    numbers_end c.args.bodies.now c.loop-i.i c.index-bodies-i.result within c.index-bodies-i.is c.loop-i.invariant
    (λ is. false≢true (sym c.if-not-is_number.true ∙ c.is_number.ensures.1 (c.deref.ensures.value ∙ is)))
