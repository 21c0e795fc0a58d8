-- How tokens are read as an expression: what is read at their front, and what stands behind it. Expressions within `most` are
-- kept. The laws that tie it to the grammar are in proofs.
use Prim.Native.Nat.{zero, suc}
use Rattle.std.specs.Prelude.{ℕ, true, false, nat_lt, nat_le, nat_eq, if◌then◌else◌, List, [], ◌∷◌, Option, None, Some, Box, pos, neg_ℤ}
use Rattle.std.specs.declared.alloc.Global.{Global}
use Rattle.scalar_ops.specs.declared.cell.Cell.TheVariants as cell
use Rattle.scalar_ops.specs.declared.table.Op.{Op}
use Rattle.scalar_ops.specs.declared.table.Op.TheVariants as op
use Rattle.plan_text.specs.declared.token.Token.{Token}
use Rattle.plan_text.specs.declared.token.Token.TheVariants.{Name, Word, Number, Text, Mark}
use Rattle.plan_text.specs.declared.token.Mark as the_mark
use Rattle.plan_text.specs.declared.token.Mark.TheVariants as mark
use Rattle.plan_text.specs.declared.token.Word as the_word
use Rattle.plan_text.specs.declared.token.Word.TheVariants as word
use Rattle.plan_text.specs.declared.operator.Operator.TheVariants as operator
use Rattle.plan_text.specs.declared.operator.Infix.{Infix}
use Rattle.plan_text.specs.declared.operator.Prefix.{Prefix}
use Rattle.plan_text.specs.Token.{greatest_number}
use Rattle.plan_text.specs.PlainNamed.{Column, Literal, Call1, Binary, If}
use Rattle.plan_text.specs.Operators.{Rule, E, ATOM, infix_of, prefix_of}
use Rattle.plan_text.specs.declared.expr.NamedExpr as code
use Rattle.plan_text.specs.declared.counts.Counts.{Counts}
use Rattle.plan_text.specs.declared.draft.Draft.{Draft}
use Rattle.plan_text.specs.Draft.{PlainDraft, seen, kept_one, with1, with2, with3}
use Rattle.plan_text.specs.declared.parser.Terminal.{Terminal}
use Rattle.plan_text.specs.declared.parser.Terminal.TheVariants.{Comma, Open, Close}
use Rattle.plan_text.specs.Reader.{ReadOf, ReaderOf, and_then, terminal_at, up_to, all_repeated}

abbrev pub Reader : Type 0
Reader = ReaderOf PlainDraft

-- the reader by each rule
abbrev pub Readers : Type 0
Readers = Rule → Reader

abbrev pub no_readers : Readers
no_readers rule ts = None

-- an argument up to a comma or to the parenthesis that closes; within a construct the readers with one level less are given
abbrev pub argument : Readers → Terminal → Reader
argument inner end ts = up_to (terminal_at end) (inner E ts)

abbrev pub call1_at : Counts → Readers → Op → Reader
call1_at most inner o ts = and_then (argument inner Close ts) (λ a rest. Some (with1 most (Call1 o) a, rest))

abbrev pub call2_at : Counts → Readers → Op → Reader
call2_at most inner o ts = and_then (argument inner Comma ts) (λ a next. and_then (argument inner Close next) (λ b rest. Some (with2 most (Binary (operator.Call o)) a b, rest)))

abbrev pub choice_at : Counts → Readers → Reader
choice_at most inner ts = and_then (argument inner Comma ts) (λ c next. and_then (argument inner Comma next) (λ a last. and_then (argument inner Close last) (λ b rest. Some (with3 most If c a b, rest))))

abbrev pub function_at : Counts → Readers → the_word.Word → Reader
function_at most inner word.If ts = choice_at most inner ts
function_at most inner word.Len ts = call1_at most inner op.Len ts
function_at most inner word.Abs ts = call1_at most inner op.Abs ts
function_at most inner word.Starts ts = call2_at most inner op.Starts ts
function_at most inner word.Least ts = call2_at most inner op.Least ts
function_at most inner word.Most ts = call2_at most inner op.Most ts
function_at most inner _ ts = None

abbrev pub word_atom : Counts → Readers → the_word.Word → Reader
word_atom most inner word.True ts = Some (kept_one most (Literal (cell.Bool true)), ts)
word_atom most inner word.False ts = Some (kept_one most (Literal (cell.Bool false)), ts)
word_atom most inner w ts = and_then (terminal_at Open ts) (λ _. function_at most inner w)

-- a number of i64 without a sign
abbrev pub number_atom : Counts → ℕ → Reader
number_atom most number ts = if nat_lt number greatest_number then Some (kept_one most (Literal (cell.Int (pos number))), ts) else None

abbrev pub minus_atom : Counts → Reader
minus_atom most (Number number ∷ ts) = if nat_le number greatest_number then Some (kept_one most (Literal (cell.Int (neg_ℤ (pos number)))), ts) else None
minus_atom most _ = None

abbrev pub mark_atom : Counts → Readers → the_mark.Mark → Reader
mark_atom most inner mark.Open ts = argument inner Close ts
mark_atom most inner mark.Sign ts = minus_atom most ts
mark_atom most inner _ ts = None

-- ATOM
abbrev pub atom_at : Counts → Readers → Token → Reader
atom_at most inner (Name name) ts = Some (kept_one most (Column name), ts)
atom_at most inner (Word w) ts = word_atom most inner w ts
atom_at most inner (Number number) ts = number_atom most number ts
atom_at most inner (Text text) ts = Some (kept_one most (Literal (cell.Text text)), ts)
atom_at most inner (Mark m) ts = mark_atom most inner m ts

-- what was read so far, and the rule that spells it
abbrev pub Operand : Type 0
Operand = PlainDraft × Rule

-- what the code has of it says
abbrev pub seen_operand : Draft (Box code.NamedExpr Global) × ℕ → Operand
seen_operand operand = (seen operand.0, operand.1)

-- what was read by the rule
abbrev pub spelled_by : Rule → ReadOf PlainDraft → ReadOf Operand
spelled_by rule read = and_then read (λ d rest. Some ((d, rule), rest))

abbrev pub operated : Counts → Op → ReadOf PlainDraft → ReadOf PlainDraft
operated most o read = and_then read (λ a rest. Some (with1 most (Call1 o) a, rest))

-- the operation and its operand, where the rule has them
abbrev pub prefixed_at : Counts → Readers → Rule → Prefix → ReaderOf Operand
prefixed_at most inner rule p ts = if nat_le p.rule rule then spelled_by p.rule (operated most p.op (inner p.rule ts)) else None

abbrev pub first_step : Counts → Readers → Rule → Token → List Token → Option Prefix → ReadOf Operand
first_step most inner rule t ts (Some p) = prefixed_at most inner rule p ts
first_step most inner rule t ts None = spelled_by ATOM (atom_at most inner t ts)

-- what stands before any operator between operands
abbrev pub first_at : Counts → Readers → Rule → ReaderOf Operand
first_at most inner rule [] = None
first_at most inner rule (t ∷ ts) = first_step most inner rule t ts (prefix_of t)

abbrev pub operator_step : Rule → List Token → Option Infix → ReadOf Infix
operator_step rule ts (Some o) = if nat_le o.rule rule then Some (o, ts) else None
operator_step rule ts None = None

-- the operator that may stand here, of the rule or a tighter one
abbrev pub operator_at : Rule → ReaderOf Infix
operator_at rule [] = None
operator_at rule (t ∷ ts) = operator_step rule ts (infix_of t)

-- one operand more, to the right of what was read
abbrev pub joined_onto : Counts → Readers → Infix → PlainDraft → Reader
joined_onto most operands o left ts = and_then (operands o.right ts) (λ b rest. Some (with2 most (Binary o.operator) left b, rest))

-- where the operator may have before it what was read
abbrev pub operand_onto : Counts → Readers → Infix → Operand → ReaderOf Operand
operand_onto most operands o left ts = if nat_le left.1 o.left then spelled_by o.rule (joined_onto most operands o left.0 ts) else None

-- OPERAND { operator OPERAND }
abbrev pub operands_at : Counts → Readers → Readers → Rule → ReaderOf Operand
operands_at most inner operands rule ts = and_then (first_at most inner rule ts) (all_repeated (operator_at rule) (operand_onto most operands))

abbrev pub read_by : Counts → Readers → Readers → Readers
read_by most inner operands rule ts = and_then (operands_at most inner operands rule ts) (λ operand rest. Some (operand.0, rest))

-- the readers of the rules below this one: an operator's right operand is of a tighter rule
unfoldable pub below : Counts → Readers → ℕ → Readers
below most inner zero rule = λ ts. None
below most inner (suc k) rule = if nat_eq rule k then (λ ts. read_by most inner (below most inner k) k ts) else below most inner k rule

-- the reader by the rule, and by those below it for its operands
abbrev pub rule_at : Counts → Readers → Readers
rule_at most inner rule ts = read_by most inner (below most inner rule) rule ts

-- the readers within a construct, where this many levels may be open in all
unfoldable pub inner : Counts → ℕ → Readers
inner most zero = no_readers
inner most (suc n) = rule_at most (inner most n)

-- an expression
abbrev pub expr_at : Counts → Readers → Reader
expr_at most inner = rule_at most inner E
