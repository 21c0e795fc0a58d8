-- The operators of expressions and the rules that have them: one table for the grammar, the reader and the printer.
use Rattle.std.specs.Prelude.{ℕ, Option, None, Some}
use Rattle.scalar_ops.specs.declared.table.Op.{Op}
use Rattle.scalar_ops.specs.declared.table.Op.TheVariants as op
use Rattle.plan_text.specs.declared.token.Token.{Token}
use Rattle.plan_text.specs.declared.token.Token.TheVariants.{Word, Mark}
use Rattle.plan_text.specs.declared.token.Mark as the_mark
use Rattle.plan_text.specs.declared.token.Mark.TheVariants as mark
use Rattle.plan_text.specs.declared.token.Word as the_word
use Rattle.plan_text.specs.declared.token.Word.TheVariants as word
use Rattle.plan_text.specs.declared.operator.Operator.TheVariants as operator
use Rattle.plan_text.specs.declared.operator.Infix.{Infix}
use Rattle.plan_text.specs.declared.operator.Prefix.{Prefix}

-- The rules of expressions, by how loosely they bind: each spells what the ones before it do too.
abbrev pub Rule : Type 0
Rule = ℕ

abbrev pub ATOM : Rule
ATOM = 0

abbrev pub UN : Rule
UN = 1

abbrev pub MUL : Rule
MUL = 2

abbrev pub SUM : Rule
SUM = 3

abbrev pub CMP : Rule
CMP = 4

abbrev pub NOT : Rule
NOT = 5

abbrev pub AND : Rule
AND = 6

abbrev pub E : Rule
E = 7

-- MUL := UN { ( * | / | % ) UN }, to the left
abbrev pub multiplying : Op → Infix
multiplying o = record { rule = MUL; left = MUL; right = UN; operator = operator.Call o }

-- SUM := MUL { ( + | - ) MUL }, to the left
abbrev pub summing : Op → Infix
summing o = record { rule = SUM; left = SUM; right = MUL; operator = operator.Call o }

-- CMP := SUM [ ( = | != | < | <= | > | >= ) SUM ]
abbrev pub comparing : Op → Infix
comparing o = record { rule = CMP; left = SUM; right = SUM; operator = operator.Call o }

-- a `-` between operands may stand directly before a digit
abbrev pub mark_infix : the_mark.Mark → Option Infix
mark_infix mark.Equal = Some (comparing op.Eq)
mark_infix mark.NotEqual = Some (comparing op.Ne)
mark_infix mark.Less = Some (comparing op.Lt)
mark_infix mark.LessEqual = Some (comparing op.Le)
mark_infix mark.Greater = Some (comparing op.Gt)
mark_infix mark.GreaterEqual = Some (comparing op.Ge)
mark_infix mark.Plus = Some (summing op.Add)
mark_infix mark.Minus = Some (summing op.Sub)
mark_infix mark.Sign = Some (summing op.Sub)
mark_infix mark.Times = Some (multiplying op.Mul)
mark_infix mark.Divide = Some (multiplying op.Div)
mark_infix mark.Rest = Some (multiplying op.Mod)
mark_infix _ = None

-- AND := NOT { and NOT }, to the left
abbrev pub conjunction : Infix
conjunction = record { rule = AND; left = AND; right = NOT; operator = operator.And }

-- E := AND { or AND }, to the left
abbrev pub disjunction : Infix
disjunction = record { rule = E; left = E; right = AND; operator = operator.Or }

abbrev pub infix_of : Token → Option Infix
infix_of (Word word.Or) = Some disjunction
infix_of (Word word.And) = Some conjunction
infix_of (Mark m) = mark_infix m
infix_of _ = None

-- NOT := not NOT | CMP and UN := - UN | ATOM
abbrev pub prefix_of : Token → Option Prefix
prefix_of (Word word.Not) = Some (record { rule = NOT; op = op.Not })
prefix_of (Mark mark.Minus) = Some (record { rule = UN; op = op.Neg })
prefix_of _ = None

-- the functions of one argument, and of two
abbrev pub call1_op : the_word.Word → Option Op
call1_op word.Len = Some op.Len
call1_op word.Abs = Some op.Abs
call1_op _ = None

abbrev pub call2_op : the_word.Word → Option Op
call2_op word.Starts = Some op.Starts
call2_op word.Least = Some op.Least
call2_op word.Most = Some op.Most
call2_op _ = None
