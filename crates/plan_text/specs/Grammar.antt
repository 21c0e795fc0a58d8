-- The grammar of plans over tokens. What is spelled stands between two places: the tokens from `from` on, up to those of
-- `rest`. At most `n` levels of nesting may be open within it: each parenthesis, `not` and `-` before an operand is one.
use Prim.Native.Nat.{suc}
use Rattle.std.specs.Prelude.{◌≡◌, ℕ, ◌<◌, ◌≤◌, Bool, if◌then◌else◌, List, [], ◌∷◌, ◌++◌, Some, codes, ℤ, pos, neg_ℤ, FitsSigned}
use Rattle.std.specs.Int.{w64}
use Rattle.scalar_ops.specs.declared.cell.Cell.TheVariants as cell
use Rattle.scalar_ops.specs.declared.table.Op.{Op}
use Rattle.plan_text.specs.declared.token.Token.{Token}
use Rattle.plan_text.specs.declared.token.Token.TheVariants.{Name, Word, Number, Text, Mark}
use Rattle.plan_text.specs.declared.token.Mark.TheVariants as mark
use Rattle.plan_text.specs.declared.token.Word as the_word
use Rattle.plan_text.specs.declared.token.Word.TheVariants as word
use Rattle.plan_text.specs.declared.plan.AggFunction as agg_function
use Rattle.plan_text.specs.declared.plan.AggFunction.TheVariants as function
use Rattle.plan_text.specs.declared.plan.NamedAgg.{NamedAgg}
use Rattle.plan_text.specs.declared.plan.NamedAgg.TheVariants as agg
use Rattle.plan_text.specs.declared.plan.NamedResult.{NamedResult}
use Rattle.plan_text.specs.declared.plan.NamedPair.{NamedPair}
use Rattle.plan_text.specs.declared.plan.NamedKey.{NamedKey}
use Rattle.plan_text.specs.declared.operator.Operator.TheVariants as operator
use Rattle.plan_text.specs.declared.operator.Infix.{Infix}
use Rattle.plan_text.specs.declared.operator.Prefix.{Prefix}
use Rattle.plan_text.specs.Operators.{Rule, E, ATOM, infix_of, prefix_of, call1_op, call2_op}
use Rattle.plan_text.specs.PlainNamed.{PlainExpr, Column, Literal, Call1, Binary, If, PlainColumn, PlainTree, From, Where, Select, Distinct, Group, Join, Concat, Order}

-- by this rule, and with at most n levels open, the expression stands between `from` and `rest`
pub data Spells : Rule → ℕ → PlainExpr → List Token → List Token → Type 0 where
  -- a looser rule spells what a tighter one does
  looser : {r s n : ℕ} {e : PlainExpr} {from rest : List Token} → r ≤ s → Spells r n e from rest → Spells s n e from rest
  -- OPERAND operator OPERAND
  operation : {n : ℕ} {a b : PlainExpr} {from mid rest : List Token} (t : Token) {o : Infix} → infix_of t ≡ Some o → Spells o.left n a from (t ∷ mid) → Spells o.right n b mid rest → Spells o.rule n (Binary o.operator a b) from rest
  -- operation OPERAND
  prefixed : {n : ℕ} {a : PlainExpr} {mid rest : List Token} (t : Token) {p : Prefix} → prefix_of t ≡ Some p → Spells p.rule n a mid rest → Spells p.rule (suc n) (Call1 p.op a) (t ∷ mid) rest
  -- ATOM := INT | TEXT | true | false | NAME
  an_int : {n number : ℕ} {rest : List Token} → FitsSigned w64 (pos number) → Spells ATOM n (Literal (cell.Int (pos number))) (Number number ∷ rest) rest
  a_minus_int : {n number : ℕ} {z : ℤ} {rest : List Token} → z ≡ neg_ℤ (pos number) → FitsSigned w64 z → Spells ATOM n (Literal (cell.Int z)) (Mark mark.Sign ∷ Number number ∷ rest) rest
  a_text : {n : ℕ} {t : List ℕ} {rest : List Token} → Spells ATOM n (Literal (cell.Text t)) (Text t ∷ rest) rest
  a_truth : {n : ℕ} {b : Bool} {rest : List Token} → Spells ATOM n (Literal (cell.Bool b)) (Word (if b then word.True else word.False) ∷ rest) rest
  a_column : {n : ℕ} {name : List ℕ} {rest : List Token} → Spells ATOM n (Column name) (Name name ∷ rest) rest
  -- | ( E ) | len ( E ) | abs ( E ) | starts ( E , E ) | least ( E , E ) | most ( E , E ) | if ( E , E , E )
  in_parens : {n : ℕ} {e : PlainExpr} {mid rest : List Token} → Spells E n e mid (Mark mark.Close ∷ rest) → Spells ATOM (suc n) e (Mark mark.Open ∷ mid) rest
  call1 : {n : ℕ} {a : PlainExpr} {mid rest : List Token} (w : the_word.Word) {o : Op} → call1_op w ≡ Some o → Spells E n a mid (Mark mark.Close ∷ rest) → Spells ATOM (suc n) (Call1 o a) (Word w ∷ Mark mark.Open ∷ mid) rest
  call2 : {n : ℕ} {a b : PlainExpr} {mid next rest : List Token} (w : the_word.Word) {o : Op} → call2_op w ≡ Some o → Spells E n a mid (Mark mark.Comma ∷ next) → Spells E n b next (Mark mark.Close ∷ rest) → Spells ATOM (suc n) (Binary (operator.Call o) a b) (Word w ∷ Mark mark.Open ∷ mid) rest
  choice : {n : ℕ} {c a b : PlainExpr} {mid next last rest : List Token} → Spells E n c mid (Mark mark.Comma ∷ next) → Spells E n a next (Mark mark.Comma ∷ last) → Spells E n b last (Mark mark.Close ∷ rest) → Spells ATOM (suc n) (If c a b) (Word word.If ∷ Mark mark.Open ∷ mid) rest

-- what may stand behind an expression in a plan: nothing, a bar, a comma or a parenthesis that closes
abbrev pub EndsExpr : List Token → Type 0
EndsExpr [] = Unit {0}
EndsExpr (Mark mark.Bar ∷ rest) = Unit {0}
EndsExpr (Mark mark.Comma ∷ rest) = Unit {0}
EndsExpr (Mark mark.Close ∷ rest) = Unit {0}
EndsExpr _ = ⊥

-- what may stand behind a plan: nothing, or a parenthesis that closes
abbrev pub EndsPlan : List Token → Type 0
EndsPlan [] = Unit {0}
EndsPlan (Mark mark.Close ∷ rest) = Unit {0}
EndsPlan _ = ⊥

-- one item or more, with a comma between any two
abbrev pub Listed : {A : Type 0} → (A → List Token → List Token → Type 0) → List A → List Token → List Token → Type 0
Listed Item [] from rest = ⊥
Listed Item (x ∷ []) from rest = Item x from rest
Listed Item (x ∷ y ∷ more) from rest = (mid : List Token) × Item x from (Mark mark.Comma ∷ mid) × Listed Item (y ∷ more) mid rest

-- NAME
abbrev pub SpellsName : List ℕ → List Token → List Token → Type 0
SpellsName name from rest = from ≡ Name name ∷ rest

-- NAME = E
abbrev pub SpellsColumn : ℕ → PlainColumn → List Token → List Token → Type 0
SpellsColumn n column from rest = (mid : List Token) × (from ≡ Name column.name ∷ Mark mark.Equal ∷ mid) × Spells E n column.expr mid rest

-- NAME = NAME
abbrev pub SpellsPair : NamedPair → List Token → List Token → Type 0
SpellsPair pair from rest = from ≡ Name pair.left ∷ Mark mark.Equal ∷ Name pair.right ∷ rest

-- NAME [desc]
abbrev pub SpellsKey : NamedKey → List Token → List Token → Type 0
SpellsKey key from rest = from ≡ Name key.column ∷ (if key.down then Word word.Desc ∷ rest else rest)

-- the names of aggregates are no reserved words
abbrev pub function_word : agg_function.AggFunction → List ℕ
function_word function.Sum = codes "sum"
function_word function.Min = codes "min"
function_word function.Max = codes "max"
function_word function.First = codes "first"
function_word function.Last = codes "last"
function_word function.Avg = codes "avg"

abbrev pub agg_word : NamedAgg → List ℕ
agg_word agg.Count = codes "count"
agg_word (agg.Of f column) = function_word f

abbrev pub agg_argument : NamedAgg → List Token
agg_argument agg.Count = []
agg_argument (agg.Of f column) = Name column ∷ []

-- NAME = AGG, AGG being count ( ) | sum ( NAME ) and so on
abbrev pub SpellsResult : ℕ → NamedResult → List Token → List Token → Type 0
SpellsResult n result from rest =
    (0 < n) × (from ≡ Name result.name ∷ Mark mark.Equal ∷ Name (agg_word result.agg) ∷ Mark mark.Open ∷ (agg_argument result.agg ++ Mark mark.Close ∷ rest))

-- with at most n levels open, the plan stands between `from` and `rest`
pub data SpellsPlan : ℕ → PlainTree → List Token → List Token → Type 0 where
  -- PLAN := from NAME { | STAGE }
  stream : {n : ℕ} {name : List ℕ} {rest : List Token} → SpellsPlan n (From name) (Word word.From ∷ Name name ∷ rest) rest
  -- STAGE := where E
  filter : {n : ℕ} {p : PlainTree} {test : PlainExpr} {from mid rest : List Token} → SpellsPlan n p from (Mark mark.Bar ∷ Word word.Where ∷ mid) → Spells E n test mid rest → SpellsPlan n (Where p test) from rest
  -- | select NAME = E {, NAME = E}
  select : {n : ℕ} {p : PlainTree} {columns : List PlainColumn} {from mid rest : List Token} → SpellsPlan n p from (Mark mark.Bar ∷ Word word.Select ∷ mid) → Listed (SpellsColumn n) columns mid rest → SpellsPlan n (Select p columns) from rest
  -- | distinct
  distinct : {n : ℕ} {p : PlainTree} {from rest : List Token} → SpellsPlan n p from (Mark mark.Bar ∷ Word word.Distinct ∷ rest) → SpellsPlan n (Distinct p) from rest
  -- | group NAME {, NAME} with NAME = AGG {, NAME = AGG}
  group : {n : ℕ} {p : PlainTree} {keys : List (List ℕ)} {results : List NamedResult} {from mid rest : List Token} (next : List Token) → SpellsPlan n p from (Mark mark.Bar ∷ Word word.Group ∷ mid) → Listed SpellsName keys mid (Word word.With ∷ next) → Listed (SpellsResult n) results next rest → SpellsPlan n (Group p keys results) from rest
  -- | join ( PLAN ) on NAME = NAME {, NAME = NAME}
  join : {n : ℕ} {p q : PlainTree} {on : List NamedPair} {from mid next rest : List Token} → SpellsPlan (suc n) p from (Mark mark.Bar ∷ Word word.Join ∷ Mark mark.Open ∷ mid) → SpellsPlan n q mid (Mark mark.Close ∷ Word word.On ∷ next) → Listed SpellsPair on next rest → SpellsPlan (suc n) (Join p q on) from rest
  -- | concat ( PLAN )
  concat : {n : ℕ} {p q : PlainTree} {from mid rest : List Token} → SpellsPlan (suc n) p from (Mark mark.Bar ∷ Word word.Concat ∷ Mark mark.Open ∷ mid) → SpellsPlan n q mid (Mark mark.Close ∷ rest) → SpellsPlan (suc n) (Concat p q) from rest
  -- | order NAME [desc] {, NAME [desc]}
  order : {n : ℕ} {p : PlainTree} {keys : List NamedKey} {from mid rest : List Token} → SpellsPlan n p from (Mark mark.Bar ∷ Word word.Order ∷ mid) → Listed SpellsKey keys mid rest → SpellsPlan n (Order p keys) from rest
