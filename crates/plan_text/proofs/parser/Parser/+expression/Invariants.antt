-- Each call within a construct has one level less, and a right operand is of a tighter rule; the other calls go down the rules.
-- What the loop reads in the turns that are left is what it reads in all.
use Rattle.std.proofs.Common.{◌≡◌, ◌+◌, ◌-◌, ◌*◌}
use Rattle.plan_text.specs.Draft.{limits}
use Rattle.plan_text.specs.Reading.{seen_operand, inner, below, operator_at, operand_onto, operands_at}
use Rattle.plan_text.specs.Reader.{repeated}
use Rattle.plan_text.proofs.parser.Parser.+expression.Given as goal

abbrev pub decreases-rule : goal.decreases-rule
decreases-rule l = 4096 * l.levels + 8 * l.rule + 17

abbrev pub decreases-operands : goal.decreases-operands
decreases-operands l = 4096 * l.levels + 8 * l.rule + 16

abbrev pub decreases-operand_onto : goal.decreases-operand_onto
decreases-operand_onto l = 4096 * l.levels + 8 * l.rule + 15

abbrev pub decreases-first : goal.decreases-first
decreases-first l = 4096 * l.levels + 8

abbrev pub decreases-prefixed : goal.decreases-prefixed
decreases-prefixed l = 4096 * l.levels + 6

abbrev pub decreases-atom : goal.decreases-atom
decreases-atom l = 4096 * l.levels + 6

abbrev pub decreases-mark_atom : goal.decreases-mark_atom
decreases-mark_atom l = 4096 * l.levels + 5

abbrev pub decreases-word_atom : goal.decreases-word_atom
decreases-word_atom l = 4096 * l.levels + 5

abbrev pub decreases-function : goal.decreases-function
decreases-function l = 4096 * l.levels + 3

abbrev pub decreases-call1_at : goal.decreases-call1_at
decreases-call1_at l = 4096 * l.levels + 2

abbrev pub decreases-call2_at : goal.decreases-call2_at
decreases-call2_at l = 4096 * l.levels + 2

abbrev pub decreases-choice_at : goal.decreases-choice_at
decreases-choice_at l = 4096 * l.levels + 2

abbrev pub decreases-argument : goal.decreases-argument
decreases-argument l = 4096 * l.levels + 1

abbrev pub decreases-within : goal.decreases-within
decreases-within l = 4096 * l.levels

abbrev pub invariant-operands-loop : goal.invariant-operands-loop
invariant-operands-loop l =
    let readers = inner limits l.levels in
    let operands = below limits readers l.rule in
    operands_at limits readers operands l.rule l.fn.self.rest.now
    ≡ repeated (operator_at l.rule) (operand_onto limits operands) (l.turns - l.counter) (seen_operand l.operand) l.self.rest.now
