-- The canonical text of an expression and of a plan, which is the one that is printed.
use Prim.Native.Nat.{suc}
use Rattle.std.specs.Prelude.{◌≡◌, ℕ, Bool, false, Option, None, Some, nat_le, if◌then◌else◌, List, [], ◌∷◌, ◌++◌, pos, negsuc, decimal}
use Rattle.std.specs.List.{flat_map, find}
use Rattle.std.specs.Option.{option_map_or}
use Rattle.scalar_ops.specs.declared.cell.Cell.{Cell}
use Rattle.scalar_ops.specs.declared.cell.Cell.TheVariants as cell
use Rattle.scalar_ops.specs.declared.table.Op.{Op}
use Rattle.scalar_ops.specs.declared.table.Op.TheVariants as op
use Rattle.scalar_ops.specs.Table.{same_op}
use Rattle.plan_text.specs.declared.token.Token.{Token}
use Rattle.plan_text.specs.declared.token.Token.TheVariants.{Name, Word, Number, Text, Mark}
use Rattle.plan_text.specs.declared.token.Mark as the_mark
use Rattle.plan_text.specs.declared.token.Mark.TheVariants as mark
use Rattle.plan_text.specs.declared.token.Word as the_word
use Rattle.plan_text.specs.declared.token.Word.TheVariants as word
use Rattle.plan_text.specs.declared.plan.NamedAgg.{NamedAgg}
use Rattle.plan_text.specs.declared.plan.NamedAgg.TheVariants as agg
use Rattle.plan_text.specs.declared.plan.NamedResult.{NamedResult}
use Rattle.plan_text.specs.declared.plan.NamedPair.{NamedPair}
use Rattle.plan_text.specs.declared.plan.NamedKey.{NamedKey}
use Rattle.plan_text.specs.Token.{word_bytes, mark_bytes, is_escaped}
use Rattle.plan_text.specs.PlainNamed.{PlainExpr, Column, Literal, Call1, Binary, If, PlainColumn, PlainTree, From, Where, Select, Distinct, Group, Join, Concat, Order}
use Rattle.plan_text.specs.declared.operator.Operator.{Operator}
use Rattle.plan_text.specs.declared.operator.Operator.TheVariants as operator
use Rattle.plan_text.specs.declared.operator.Infix.{Infix}
use Rattle.plan_text.specs.declared.rule.Form as the_form
use Rattle.plan_text.specs.declared.rule.Form.TheVariants as form
use Rattle.plan_text.specs.Operators.{Rule, ATOM, UN, NOT, E, mark_infix, conjunction, disjunction}
use Rattle.plan_text.specs.Grammar.{Spells, agg_word}

-- A text is made of tokens, and of the spaces between some of them.
pub data Piece : Type 0 where
  Space : Piece
  One : Token → Piece

-- the tokens among the pieces
abbrev pub tokens_of : List Piece → List Token
tokens_of [] = []
tokens_of (Space ∷ pieces) = tokens_of pieces
tokens_of (One token ∷ pieces) = token ∷ tokens_of pieces

-- `"` and `\` stand behind a `\`
abbrev pub escaped : ℕ → List ℕ
escaped byte = if is_escaped byte then 92 ∷ byte ∷ [] else byte ∷ []

abbrev pub quoted : List ℕ → List ℕ
quoted text = 34 ∷ (flat_map escaped text ++ 34 ∷ [])

-- the bytes of a token
abbrev pub spelling : Token → List ℕ
spelling (Name name) = name
spelling (Word word) = word_bytes word
spelling (Number number) = decimal number
spelling (Text text) = quoted text
spelling (Mark mark) = mark_bytes mark

abbrev pub piece_bytes : Piece → List ℕ
piece_bytes Space = 32 ∷ []
piece_bytes (One token) = spelling token

-- the bytes of the pieces
abbrev pub text_of : List Piece → List ℕ
text_of pieces = flat_map piece_bytes pieces

-- how an operator is written: between its operands, or before them as a function
pub data Form : Type 0 where
  Between : Token → Infix → Form
  Function : the_word.Word → Form
  NoForm : Form

-- each mark; where two are one operator, the first is the printed one
abbrev pub all_marks : List the_mark.Mark
all_marks =
    mark.Bar ∷ mark.Comma ∷ mark.Open ∷ mark.Close ∷ mark.Equal ∷ mark.NotEqual ∷ mark.Less ∷ mark.LessEqual
    ∷ mark.Greater ∷ mark.GreaterEqual ∷ mark.Plus ∷ mark.Minus ∷ mark.Sign ∷ mark.Times ∷ mark.Divide ∷ mark.Rest ∷ []

-- the operator calls this operation
abbrev pub calls : Op → Operator → Bool
calls o (operator.Call other) = same_op other o
calls o _ = false

-- a reader takes the mark for this operation
abbrev pub is_mark_of : Op → the_mark.Mark → Bool
is_mark_of o m = option_map_or (λ (found : Infix). calls o found.operator) (mark_infix m) false

-- the mark between operands of its rules
abbrev pub between_mark : the_mark.Mark → Option Infix → Form
between_mark m (Some o) = Between (Mark m) o
between_mark m None = NoForm

abbrev pub mark_or : Option the_mark.Mark → Form → Form
mark_or (Some m) other = between_mark m (mark_infix m)
mark_or None other = other

-- no text has another operation of two arguments that isn't an operator
abbrev pub function_form : Op → Form
function_form op.Starts = Function word.Starts
function_form op.Least = Function word.Least
function_form op.Most = Function word.Most
function_form _ = NoForm

-- between its operands by the mark that is read as the operation, or else as a function
unfoldable pub call_form : Op → Form
call_form o = mark_or (find (is_mark_of o) all_marks) (function_form o)

abbrev pub form_of : Operator → Form
form_of (operator.Call o) = call_form o
form_of operator.And = Between (Word word.And) conjunction
form_of operator.Or = Between (Word word.Or) disjunction

-- what a form of the code says
abbrev pub form_in : the_form.Form → Form
form_in (form.Between m o) = Between (Mark m) o
form_in (form.Function w) = Function w
form_in form.Nowhere = NoForm

abbrev pub form_rule : Form → Rule
form_rule (Between t o) = o.rule
form_rule (Function w) = ATOM
form_rule NoForm = ATOM

abbrev pub call1_rule : Op → Rule
call1_rule op.Not = NOT
call1_rule op.Neg = UN
call1_rule _ = ATOM

-- the rule that spells the expression without parentheses around it
abbrev pub rule_of : PlainExpr → Rule
rule_of (Column name) = ATOM
rule_of (Literal c) = ATOM
rule_of (Call1 o a) = call1_rule o
rule_of (Binary o a b) = form_rule (form_of o)
rule_of (If c a b) = ATOM

abbrev pub in_parens : List Piece → List Piece
in_parens pieces = One (Mark mark.Open) ∷ (pieces ++ One (Mark mark.Close) ∷ [])

-- where the rule `wanted` is to spell what the rule `own` does: in parentheses exactly where `own` is the looser one
abbrev pub within : Rule → Rule → List Piece → List Piece
within wanted own pieces = if nat_le own wanted then pieces else in_parens pieces

abbrev pub behind_comma : List Piece → List Piece
behind_comma pieces = One (Mark mark.Comma) ∷ Space ∷ pieces

-- a number below 0 is its sign and its digits
abbrev pub literal : Cell → List Piece
literal (cell.Int (pos number)) = One (Number number) ∷ []
literal (cell.Int (negsuc number)) = One (Mark mark.Sign) ∷ One (Number (suc number)) ∷ []
literal (cell.Text text) = One (Text text) ∷ []
literal (cell.Bool truth) = One (Word (if truth then word.True else word.False)) ∷ []

-- an operator or a word between two spaces
abbrev pub between : List Piece → Token → List Piece → List Piece
between left token right = left ++ (Space ∷ One token ∷ Space ∷ right)

abbrev pub function : the_word.Word → List Piece → List Piece
function w arguments = One (Word w) ∷ in_parens arguments

-- a call of one argument, whose pieces under a rule these are; no text has another operation of one argument
abbrev pub call1 : Op → (Rule → List Piece) → List Piece
call1 op.Not a = One (Word word.Not) ∷ Space ∷ a NOT
call1 op.Neg a = One (Mark mark.Minus) ∷ Space ∷ a UN
call1 op.Len a = function word.Len (a E)
call1 op.Abs a = function word.Abs (a E)
call1 _ a = []

-- an operator's form, with the pieces of its operands under a rule
abbrev pub formed : Form → (Rule → List Piece) → (Rule → List Piece) → List Piece
formed (Between t o) a b = between (a o.left) t (b o.right)
formed (Function w) a b = function w (a E ++ behind_comma (b E))
formed NoForm a b = []

-- the expression without parentheses around it
abbrev pub bare : PlainExpr → List Piece
bare (Column name) = One (Name name) ∷ []
bare (Literal c) = literal c
bare (Call1 o a) = call1 o (λ rule. within rule (rule_of a) (bare a))
bare (Binary o a b) = formed (form_of o) (λ rule. within rule (rule_of a) (bare a)) (λ rule. within rule (rule_of b) (bare b))
bare (If c a b) = function word.If (within E (rule_of c) (bare c) ++ (behind_comma (within E (rule_of a) (bare a)) ++ behind_comma (within E (rule_of b) (bare b))))

-- the expression as the rule spells it
abbrev pub canonical_expr : Rule → PlainExpr → List Piece
canonical_expr rule e = within rule (rule_of e) (bare e)

-- one item, and each further one behind a comma
abbrev pub listed : {A : Type 0} → (A → List Piece) → List A → List Piece
listed item [] = []
listed item (x ∷ xs) = item x ++ flat_map (λ y. behind_comma (item y)) xs

abbrev pub name_piece : List ℕ → List Piece
name_piece name = One (Name name) ∷ []

-- NAME = what stands behind it
abbrev pub named : List ℕ → List Piece → List Piece
named name pieces = between (name_piece name) (Mark mark.Equal) pieces

abbrev pub column_pieces : PlainColumn → List Piece
column_pieces column = named column.name (canonical_expr E column.expr)

abbrev pub pair_pieces : NamedPair → List Piece
pair_pieces pair = named pair.left (name_piece pair.right)

abbrev pub key_pieces : NamedKey → List Piece
key_pieces key = One (Name key.column) ∷ (if key.down then Space ∷ One (Word word.Desc) ∷ [] else [])

abbrev pub argument_pieces : NamedAgg → List Piece
argument_pieces agg.Count = []
argument_pieces (agg.Of f column) = name_piece column

abbrev pub result_pieces : NamedResult → List Piece
result_pieces result = named result.name (One (Name (agg_word result.agg)) ∷ in_parens (argument_pieces result.agg))

-- what stands behind the plan before a stage
abbrev pub behind_bar : the_word.Word → List Piece → List Piece
behind_bar w pieces = Space ∷ One (Mark mark.Bar) ∷ Space ∷ One (Word w) ∷ pieces

-- a stage behind a plan
abbrev pub stage : List Piece → the_word.Word → List Piece → List Piece
stage plan w pieces = plan ++ behind_bar w pieces

-- the plan
abbrev pub canonical : PlainTree → List Piece
canonical (From stream) = One (Word word.From) ∷ Space ∷ name_piece stream
canonical (Where p test) = stage (canonical p) word.Where (Space ∷ canonical_expr E test)
canonical (Select p columns) = stage (canonical p) word.Select (Space ∷ listed column_pieces columns)
canonical (Distinct p) = stage (canonical p) word.Distinct []
canonical (Group p keys results) = stage (canonical p) word.Group (Space ∷ between (listed name_piece keys) (Word word.With) (listed result_pieces results))
canonical (Join p q on) = stage (canonical p) word.Join (Space ∷ between (in_parens (canonical q)) (Word word.On) (listed pair_pieces on))
canonical (Concat p q) = stage (canonical p) word.Concat (Space ∷ in_parens (canonical q))
canonical (Order p keys) = stage (canonical p) word.Order (Space ∷ listed key_pieces keys)

abbrev pub canonical_text : PlainTree → List ℕ
canonical_text plan = text_of (canonical plan)

-- the expression stands in parentheses, with one level less open within them
pub record StandsInParens (n : ℕ) (e : PlainExpr) (from rest : List Token) : Type 0 where
  pub inner : ℕ
  pub level : n ≡ suc inner
  pub inside : List Token
  pub opens : from ≡ Mark mark.Open ∷ inside
  pub spells : Spells E inner e inside (Mark mark.Close ∷ rest)
