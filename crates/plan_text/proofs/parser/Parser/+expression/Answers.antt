use Rattle.std.proofs.Common.{rules, ◌≡◌, ◌∙◌, ◌+◌, length, Some, None, Err, subst, sym, ap, cond, nat_le, true, arith}
use Rattle.plan_text.specs.declared.operator.Operator.TheVariants as operator
use Rattle.plan_text.specs.PlainNamed.{Call1, Binary}
use Rattle.plan_text.specs.Draft.{limits, seen, with1, with2}
use Rattle.plan_text.specs.declared.parser.Terminal.TheVariants.{Close}
use Rattle.plan_text.specs.Reader.{ReadOf, Reads, and_then}
use Rattle.plan_text.specs.Reading.{Operand, seen_operand, inner, below, argument, operated, spelled_by, joined_onto, prefixed_at, first_at, operator_at, operand_onto, operands_at}
use Rattle.plan_text.proofs.Levels.{below_is}
use Rattle.plan_text.proofs.ExprReading.{is_le}
use Rattle.plan_text.proofs.RepeatLemmas.{first_turn, ends, goes_on, fails, out_of_turns, Reads-fail, not_made}
use Rattle.plan_text.proofs.parser.Parser.+expression.Goals as goal

pub call1_at-returns : goal.call1_at-returns
call1_at-returns t c =
    let left = c.argument.new.self.rest.now in
    subst (λ r. Reads seen c.call1.result left (and_then r (λ a rest. Some (with1 limits (Call1 c.args.op) a, rest)))) (sym c.in_ok-arg.ensures) (c.call1.ensures left)

pub call2_at-returns : goal.call2_at-returns
call2_at-returns t c =
    let readers = inner limits c.args.levels in
    let make = with2 limits (Binary (operator.Call c.args.op)) in
    let left = c.argument-2.new.self.rest.now in
    subst (λ r. Reads seen c.join.result left (and_then r (λ a next. and_then (argument readers Close next) (λ b rest. Some (make a b, rest))))) (sym c.in_ok-left.ensures)
    (subst (λ r. Reads seen c.join.result left (and_then r (λ b rest. Some (make (seen c.in_ok-left.left) b, rest)))) (sym c.in_ok-right.ensures) (c.join.ensures left))

pub prefixed-returns-in_err-call1 : goal.prefixed-returns-in_err-call1
prefixed-returns-in_err-call1 t c =
    let left = c.within.new.self.rest.now in
    let whole = prefixed_at limits (inner limits c.args.levels) c.args.rule c.args.prefix c.args.self.now.rest.now in
    let same : c.from_residual-in_err-call1.result ≡ Err c.in_err-call1.field-0.0 = search rules in
    subst (λ r. Reads seen_operand r left whole) (sym same)
    (not_made c.in_err-call1.field-0.0 seen seen_operand left (with1 limits (Call1 c.args.prefix.op) (seen c.in_ok-arg.arg)) whole c.in_err-call1.ensures)

pub prefixed-returns : goal.prefixed-returns
prefixed-returns t c =
    let readers = inner limits c.args.levels in
    let left = c.within.new.self.rest.now in
    let le : nat_le c.args.prefix.rule c.args.rule ≡ true = is_le c.args.prefix.rule c.args.rule (omega (arith, c.if-prefix-rule.false)) in
    ap (λ b. cond {A = ReadOf Operand} b (spelled_by c.args.prefix.rule (operated limits c.args.prefix.op (readers c.args.prefix.rule c.args.self.now.rest.now))) None) le
    ∙ ap (λ r. spelled_by c.args.prefix.rule (operated limits c.args.prefix.op r)) c.in_ok-arg.ensures
    ∙ ap (spelled_by c.args.prefix.rule) (c.in_ok-call1.ensures left)

pub operand_onto-returns-in_err-join : goal.operand_onto-returns-in_err-join
operand_onto-returns-in_err-join t c =
    let left = c.rule.new.self.rest.now in
    let whole = operand_onto limits (below limits (inner limits c.args.levels) c.args.rule) c.args.operator (seen_operand c.args.left) c.args.self.now.rest.now in
    let same : c.from_residual-in_err-join.result ≡ Err c.in_err-join.field-0.0 = search rules in
    subst (λ r. Reads seen_operand r left whole) (sym same)
    (not_made c.in_err-join.field-0.0 seen seen_operand left (with2 limits (Binary c.args.operator.operator) (seen c.args.left.0) (seen c.in_ok-right.right)) whole c.in_err-join.ensures)

pub operand_onto-returns : goal.operand_onto-returns
operand_onto-returns t c =
    let readers = inner limits c.args.levels in
    let operands = below limits readers c.args.rule in
    let tokens = c.args.self.now.rest.now in
    let left = c.rule.new.self.rest.now in
    let first = seen c.args.left.0 in
    let le : nat_le c.args.left.1 c.args.operator.left ≡ true = is_le c.args.left.1 c.args.operator.left (omega (arith, c.if-left-operator.false)) in
    let right : operands c.args.operator.right tokens ≡ Some (seen c.in_ok-right.right, left) = below_is limits readers c.args.rule c.args.operator.right tokens c.requires ∙ c.in_ok-right.ensures in
    ap (λ b. cond {A = ReadOf Operand} b (spelled_by c.args.operator.rule (joined_onto limits operands c.args.operator first tokens)) None) le
    ∙ ap (λ r. spelled_by c.args.operator.rule (and_then r (λ b rest. Some (with2 limits (Binary c.args.operator.operator) first b, rest)))) right
    ∙ ap (spelled_by c.args.operator.rule) (c.in_ok-join.ensures left)

pub operands-loop-init : goal.operands-loop-init
operands-loop-init t c =
    let readers = inner limits c.args.levels in
    let item = below limits readers c.args.rule in
    let operators = operator_at c.args.rule in
    let left = c.first.new.self.rest.now in
    first_turn operators (operand_onto limits item) (first_at limits readers c.args.rule c.args.self.now.rest.now) (seen_operand c.in_ok-operand.operand) left (length left + 1) c.in_ok-operand.ensures (search rules)

pub operands-returns-in_default : goal.operands-returns-in_default
operands-returns-in_default t c =
    let l = c.loop in
    let readers = inner limits c.args.levels in
    let item = below limits readers c.args.rule in
    let operators = operator_at c.args.rule in
    let none : (operators l.self.rest.now ≡ None) × (c.operator.new.self.rest.now ≡ l.self.rest.now) = search rules in
    ends operators (operand_onto limits item) (operands_at limits readers item c.args.rule c.args.self.now.rest.now) (length c.first.new.self.rest.now + 1) l.counter (seen_operand l.operand) l.self.rest.now l.invariant c.loop-test.true none.0 ∙ ap (λ r. Some (seen_operand l.operand, r)) (sym none.1)

pub operands-returns-in_err-operand-2 : goal.operands-returns-in_err-operand-2
operands-returns-in_err-operand-2 t c =
    let l = c.loop in
    let readers = inner limits c.args.levels in
    let item = below limits readers c.args.rule in
    let operators = operator_at c.args.rule in
    let whole = operands_at limits readers item c.args.rule c.args.self.now.rest.now in
    let behind = c.operator.new.self.rest.now in
    let left = c.operand_onto.new.self.rest.now in
    let found : operators l.self.rest.now ≡ Some (c.in-Some.operator, behind) = search rules in
    let failed = fails operators (operand_onto limits item) whole (length c.first.new.self.rest.now + 1) l.counter (seen_operand l.operand) l.self.rest.now l.invariant c.loop-test.true c.in-Some.operator behind found in
    let read = Reads-fail c.in_err-operand-2.field-0.0 seen_operand seen_operand left left (operand_onto limits item c.in-Some.operator (seen_operand l.operand) behind) whole failed c.in_err-operand-2.ensures in
    let same : c.from_residual-in_err-operand-2.result ≡ Err c.in_err-operand-2.field-0.0 = search rules in
    subst (λ r. Reads seen_operand r left whole) (sym same) read

pub operands-loop-preserved : goal.operands-loop-preserved
operands-loop-preserved t c =
    let l = c.loop in
    let readers = inner limits c.args.levels in
    let item = below limits readers c.args.rule in
    let operators = operator_at c.args.rule in
    let behind = c.operator.new.self.rest.now in
    let found : operators l.self.rest.now ≡ Some (c.in-Some.operator, behind) = search rules in
    goes_on operators (operand_onto limits item) (operands_at limits readers item c.args.rule c.args.self.now.rest.now) (length c.first.new.self.rest.now + 1) l.counter (seen_operand l.operand) l.self.rest.now l.invariant c.loop-test.true c.in-Some.operator behind found (seen_operand c.in_ok-operand-2.operand) c.operand_onto.new.self.rest.now c.in_ok-operand-2.ensures

pub operands-returns : goal.operands-returns
operands-returns t c =
    let l = c.loop in
    let readers = inner limits c.args.levels in
    let item = below limits readers c.args.rule in
    let operators = operator_at c.args.rule in
    out_of_turns operators (operand_onto limits item) (operands_at limits readers item c.args.rule c.args.self.now.rest.now) (length c.first.new.self.rest.now + 1) l.counter (seen_operand l.operand) l.self.rest.now l.invariant (search rules)
