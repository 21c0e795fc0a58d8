-- The tokens of the canonical text spell what other tokens spell, with no more levels open.
use Prim.Native.Nat.{zero, suc}
use Rattle.std.proofs.Common.{◌≡◌, refl, sym, ap, ◌∙◌, subst, ℕ, ◌<◌, ◌≤◌, Bool, true, false, cond, nat_le, List, [], ◌∷◌, ◌++◌, Some, ℤ, pos, negsuc, neg_ℤ, FitsSigned, w64, arith}
use Rattle.std.proofs.lemmas.Bool.Decides.{nat_tests}
use Rattle.std.specs.List.{flat_map}
use Rattle.scalar_ops.specs.declared.cell.Cell.TheVariants as cell
use Rattle.scalar_ops.specs.declared.table.Op.{Op}
use Rattle.scalar_ops.specs.declared.table.Op.TheVariants as op
use Rattle.plan_text.specs.declared.token.Token.{Token}
use Rattle.plan_text.specs.declared.token.Token.TheVariants.{Name, Word, Mark}
use Rattle.plan_text.specs.declared.token.Mark as the_mark
use Rattle.plan_text.specs.declared.token.Mark.TheVariants as mark
use Rattle.plan_text.specs.declared.token.Word as the_word
use Rattle.plan_text.specs.declared.token.Word.TheVariants as word
use Rattle.plan_text.specs.declared.plan.NamedAgg.{NamedAgg}
use Rattle.plan_text.specs.declared.plan.NamedAgg.TheVariants as agg
use Rattle.plan_text.specs.PlainNamed.{PlainExpr, Literal, Call1, Binary, If, PlainTree, Where, Select, Distinct, Group, Join, Concat, Order}
use Rattle.plan_text.specs.Grammar as g
use Rattle.plan_text.specs.declared.operator.Operator.{Operator}
use Rattle.plan_text.specs.declared.operator.Operator.TheVariants as operator
use Rattle.plan_text.specs.declared.operator.Infix.{Infix}
use Rattle.plan_text.specs.declared.operator.Prefix.{Prefix}
use Rattle.plan_text.specs.Operators.{Rule, ATOM, UN, NOT, E, comparing, summing, multiplying, conjunction, disjunction, mark_infix, infix_of, prefix_of, call1_op, call2_op}
use Rattle.plan_text.specs.Grammar.{Spells, Listed, SpellsName, SpellsColumn, SpellsPair, SpellsKey, SpellsResult, SpellsPlan, agg_word}
use Rattle.plan_text.specs.Canonical.{Piece, Space, One, tokens_of, Form, Between, Function, form_of, call_form, form_rule, call1_rule, rule_of, in_parens, behind_comma, between, formed, bare, canonical_expr, listed, name_piece, named, column_pieces, pair_pieces, key_pieces, argument_pieces, result_pieces, stage, canonical}

-- the tokens of the pieces, and then the rest
abbrev pub onto : List Piece → List Token → List Token
onto [] rest = rest
onto (Space ∷ pieces) rest = onto pieces rest
onto (One token ∷ pieces) rest = token ∷ onto pieces rest

pub onto-append : (xs ys : List Piece) (rest : List Token) → onto (xs ++ ys) rest ≡ onto xs (onto ys rest)
onto-append [] ys rest = refl
onto-append (Space ∷ xs) ys rest = onto-append xs ys rest
onto-append (One token ∷ xs) ys rest = ap (λ ts. token ∷ ts) (onto-append xs ys rest)

pub onto-none : (xs : List Piece) → onto xs [] ≡ tokens_of xs
onto-none [] = refl
onto-none (Space ∷ xs) = onto-none xs
onto-none (One token ∷ xs) = ap (λ ts. token ∷ ts) (onto-none xs)

-- one level more may be open
raise : {rule : Rule} {n : ℕ} {e : PlainExpr} {from rest : List Token} → Spells rule n e from rest → Spells rule (suc n) e from rest
raise (g.looser le s) = g.looser le (raise s)
raise (g.operation t e s u) = g.operation t e (raise s) (raise u)
raise (g.prefixed t e s) = g.prefixed t e (raise s)
raise (g.an_int fits) = g.an_int fits
raise (g.a_minus_int e fits) = g.a_minus_int e fits
raise g.a_text = g.a_text
raise g.a_truth = g.a_truth
raise g.a_column = g.a_column
raise (g.in_parens s) = g.in_parens (raise s)
raise (g.call1 w e s) = g.call1 w e (raise s)
raise (g.call2 w e s t) = g.call2 w e (raise s) (raise t)
raise (g.choice s t u) = g.choice (raise s) (raise t) (raise u)

-- with at most n levels open, the rule spells the expression by these pieces, whatever stands behind them
abbrev SpelledBy : Rule → ℕ → PlainExpr → List Piece → Type 0
SpelledBy rule n e pieces = (rest : List Token) → Spells rule n e (onto pieces rest) rest

call1_loosest : (o : Op) → call1_rule o ≤ E
call1_loosest op.Not = omega arith
call1_loosest op.Neg = omega arith
call1_loosest _ = omega arith

form_loosest : (o : Operator) → form_rule (form_of o) ≤ E
unfolding call_form
form_loosest (operator.Call op.Eq) = omega arith
form_loosest _ = omega arith

loosest : (e : PlainExpr) → rule_of e ≤ E
loosest (Call1 o a) = call1_loosest o
loosest (Binary o a b) = form_loosest o
loosest _ = omega arith

-- n levels are enough for the canonical text of the expression as the rule spells it
data Enough (rule : Rule) : ℕ → PlainExpr → Type 0 where
  is_bare : {n : ℕ} {e : PlainExpr} → rule_of e ≤ rule → SpelledBy (rule_of e) n e (bare e) → Enough rule n e
  parens : {n : ℕ} {e : PlainExpr} → rule < rule_of e → SpelledBy (rule_of e) n e (bare e) → Enough rule (suc n) e

spelled_in_parens : (n : ℕ) (e : PlainExpr) (pieces : List Piece) → SpelledBy E n e pieces → SpelledBy ATOM (suc n) e (in_parens pieces)
spelled_in_parens n e pieces s rest =
    subst (λ ts. Spells ATOM (suc n) e (Mark mark.Open ∷ ts) rest) (sym (onto-append pieces (One (Mark mark.Close) ∷ []) rest)) (g.in_parens (s (Mark mark.Close ∷ rest)))

enough_spelled : (rule : Rule) (n : ℕ) (e : PlainExpr) → Enough rule n e → SpelledBy rule n e (canonical_expr rule e)
enough_spelled rule n e (is_bare h s) rest =
    let fits : nat_le (rule_of e) rule ≡ true = grind (arith, nat_tests, h) in
    subst (λ b. Spells rule n e (onto (cond b (bare e) (in_parens (bare e))) rest) rest) (sym fits) (g.looser h (s rest))
enough_spelled rule _ e (parens {n = n} h s) rest =
    let fits : nat_le (rule_of e) rule ≡ false = grind (arith, nat_tests, h) in
    let as_atom : Spells ATOM (suc n) e (onto (in_parens (bare e)) rest) rest = spelled_in_parens n e (bare e) (λ ts. g.looser (loosest e) (s ts)) rest in
    subst (λ b. Spells rule (suc n) e (onto (cond b (bare e) (in_parens (bare e))) rest) rest) (sym fits) (g.looser (omega arith) as_atom)

-- parentheses where the rule needs them
wrapped : (rule : Rule) (n : ℕ) (e : PlainExpr) → SpelledBy (rule_of e) n e (bare e) → Enough rule (suc n) e
wrapped rule n e s = by (nat_le (rule_of e) rule) refl
  where
    by : (b : Bool) → nat_le (rule_of e) rule ≡ b → Enough rule (suc n) e
    by true q = is_bare (grind (arith, nat_tests, q)) (λ rest. raise (s rest))
    by false q = parens (grind (arith, nat_tests, q)) s

looser_enough : (r s : Rule) (n : ℕ) (e : PlainExpr) → s ≤ r → Enough s n e → Enough r n e
looser_enough r s n e h (is_bare k x) = is_bare (omega (arith, h, k)) x
looser_enough r s _ e h (parens {n = n} k x) = wrapped r n e x

in_parens_enough : (n : ℕ) (e : PlainExpr) → Enough E n e → Enough ATOM (suc n) e
in_parens_enough n e (is_bare k x) = wrapped ATOM n e x
in_parens_enough _ e (parens k x) = absurd (omega (arith, k, loosest e))

-- an operator between two operands
module _ (rule left right : Rule) (n : ℕ) (e a b : PlainExpr) (token : Token) (join : (from mid rest : List Token) → Spells left n a from (token ∷ mid) → Spells right n b mid rest → Spells rule n e from rest) where
  spelled_between : (xs ys : List Piece) → SpelledBy left n a xs → SpelledBy right n b ys → SpelledBy rule n e (between xs token ys)
  spelled_between xs ys s t rest =
      subst (λ ts. Spells rule n e ts rest) (sym (onto-append xs (Space ∷ One token ∷ Space ∷ ys) rest)) (join (onto xs (token ∷ onto ys rest)) (onto ys rest) rest (s (token ∷ onto ys rest)) (t rest))

-- arguments up to the parenthesis that closes
argument_tokens : (xs : List Piece) (rest : List Token) → onto (xs ++ One (Mark mark.Close) ∷ []) rest ≡ onto xs (Mark mark.Close ∷ rest)
argument_tokens xs rest = onto-append xs (One (Mark mark.Close) ∷ []) rest

two_argument_tokens : (xs ys : List Piece) (rest : List Token) → onto ((xs ++ behind_comma ys) ++ One (Mark mark.Close) ∷ []) rest ≡ onto xs (Mark mark.Comma ∷ onto ys (Mark mark.Close ∷ rest))
two_argument_tokens xs ys rest = argument_tokens (xs ++ behind_comma ys) rest ∙ onto-append xs (behind_comma ys) (Mark mark.Close ∷ rest)

three_argument_tokens : (zs xs ys : List Piece) (rest : List Token) →
    onto ((zs ++ (behind_comma xs ++ behind_comma ys)) ++ One (Mark mark.Close) ∷ []) rest ≡ onto zs (Mark mark.Comma ∷ onto xs (Mark mark.Comma ∷ onto ys (Mark mark.Close ∷ rest)))
three_argument_tokens zs xs ys rest =
    argument_tokens (zs ++ (behind_comma xs ++ behind_comma ys)) rest
    ∙ onto-append zs (behind_comma xs ++ behind_comma ys) (Mark mark.Close ∷ rest)
    ∙ ap (λ ts. onto zs (Mark mark.Comma ∷ ts)) (onto-append xs (behind_comma ys) (Mark mark.Close ∷ rest))

-- the token with which the canonical text has the operator
abbrev pub Found : Infix → Type 0
Found o = (k : Token) × (infix_of k ≡ Some o) × (form_of o.operator ≡ Between k o)

mark_found : (m : the_mark.Mark) (o : Infix) → mark_infix m ≡ Some o → Found o
unfolding call_form
mark_found mark.Equal o e = let same : comparing op.Eq ≡ o = cc in subst Found same (Mark mark.Equal, refl, refl)
mark_found mark.NotEqual o e = let same : comparing op.Ne ≡ o = cc in subst Found same (Mark mark.NotEqual, refl, refl)
mark_found mark.Less o e = let same : comparing op.Lt ≡ o = cc in subst Found same (Mark mark.Less, refl, refl)
mark_found mark.LessEqual o e = let same : comparing op.Le ≡ o = cc in subst Found same (Mark mark.LessEqual, refl, refl)
mark_found mark.Greater o e = let same : comparing op.Gt ≡ o = cc in subst Found same (Mark mark.Greater, refl, refl)
mark_found mark.GreaterEqual o e = let same : comparing op.Ge ≡ o = cc in subst Found same (Mark mark.GreaterEqual, refl, refl)
mark_found mark.Plus o e = let same : summing op.Add ≡ o = cc in subst Found same (Mark mark.Plus, refl, refl)
mark_found mark.Minus o e = let same : summing op.Sub ≡ o = cc in subst Found same (Mark mark.Minus, refl, refl)
mark_found mark.Sign o e = let same : summing op.Sub ≡ o = cc in subst Found same (Mark mark.Minus, refl, refl)
mark_found mark.Times o e = let same : multiplying op.Mul ≡ o = cc in subst Found same (Mark mark.Times, refl, refl)
mark_found mark.Divide o e = let same : multiplying op.Div ≡ o = cc in subst Found same (Mark mark.Divide, refl, refl)
mark_found mark.Rest o e = let same : multiplying op.Mod ≡ o = cc in subst Found same (Mark mark.Rest, refl, refl)
mark_found _ o e = absurd (cc)

pub operator_found : (t : Token) (o : Infix) → infix_of t ≡ Some o → Found o
operator_found (Word word.Or) o e = let same : disjunction ≡ o = cc in subst Found same (Word word.Or, refl, refl)
operator_found (Word word.And) o e = let same : conjunction ≡ o = cc in subst Found same (Word word.And, refl, refl)
operator_found (Mark m) o e = mark_found m o e
operator_found _ o e = absurd (cc)

pub call2_form : (w : the_word.Word) (o : Op) → call2_op w ≡ Some o → form_of (operator.Call o) ≡ Function w
unfolding call_form
call2_form word.Starts o e = let same : op.Starts ≡ o = cc in ap (λ o. form_of (operator.Call o)) (sym same)
call2_form word.Least o e = let same : op.Least ≡ o = cc in ap (λ o. form_of (operator.Call o)) (sym same)
call2_form word.Most o e = let same : op.Most ≡ o = cc in ap (λ o. form_of (operator.Call o)) (sym same)
call2_form _ o e = absurd (cc)

-- an operator by its form
of_form : (o : Operator) (a b : PlainExpr) (rule : Rule) (n : ℕ) (f : Form) → form_of o ≡ f → form_rule f ≤ rule → SpelledBy (form_rule f) n (Binary o a b) (formed f (λ r. canonical_expr r a) (λ r. canonical_expr r b)) → Enough rule n (Binary o a b)
of_form o a b rule n f is h s =
    subst (λ f. form_rule f ≤ rule → SpelledBy (form_rule f) n (Binary o a b) (formed f (λ r. canonical_expr r a) (λ r. canonical_expr r b)) → Enough rule n (Binary o a b)) is (λ h s. is_bare h s) h s

abbrev PrefixEnough : ℕ → PlainExpr → Prefix → Type 0
PrefixEnough n a p = Enough p.rule n a → Enough p.rule (suc n) (Call1 p.op a)

prefix_enough : (n : ℕ) (t : Token) (p : Prefix) (a : PlainExpr) → prefix_of t ≡ Some p → PrefixEnough n a p
prefix_enough n (Word word.Not) p a e =
    let same : record { rule = NOT; op = op.Not } ≡ p = cc e in
    subst (PrefixEnough n a) same (λ x. is_bare (omega arith) (λ rest. g.prefixed (Word word.Not) refl (enough_spelled NOT n a x rest)))
prefix_enough n (Mark mark.Minus) p a e =
    let same : record { rule = UN; op = op.Neg } ≡ p = cc e in
    subst (PrefixEnough n a) same (λ x. is_bare (omega arith) (λ rest. g.prefixed (Mark mark.Minus) refl (enough_spelled UN n a x rest)))
prefix_enough n _ p a e = absurd (cc e)

call1_enough : (n : ℕ) (w : the_word.Word) (o : Op) (a : PlainExpr) → call1_op w ≡ Some o → Enough E n a → Enough ATOM (suc n) (Call1 o a)
call1_enough n word.Len o a e s =
    let same : op.Len ≡ o = cc in
    subst (λ o. Enough ATOM (suc n) (Call1 o a)) same (is_bare (omega arith) (λ rest. subst (λ ts. Spells ATOM (suc n) (Call1 op.Len a) (Word word.Len ∷ Mark mark.Open ∷ ts) rest) (sym (argument_tokens (canonical_expr E a) rest)) (g.call1 word.Len refl (enough_spelled E n a s (Mark mark.Close ∷ rest)))))
call1_enough n word.Abs o a e s =
    let same : op.Abs ≡ o = cc in
    subst (λ o. Enough ATOM (suc n) (Call1 o a)) same (is_bare (omega arith) (λ rest. subst (λ ts. Spells ATOM (suc n) (Call1 op.Abs a) (Word word.Abs ∷ Mark mark.Open ∷ ts) rest) (sym (argument_tokens (canonical_expr E a) rest)) (g.call1 word.Abs refl (enough_spelled E n a s (Mark mark.Close ∷ rest)))))
call1_enough n _ o a e s = absurd (cc)

minus_int_enough : (n number : ℕ) (z : ℤ) → z ≡ neg_ℤ (pos number) → FitsSigned w64 z → Enough ATOM n (Literal (cell.Int z))
minus_int_enough n zero z e fits =
    let none : FitsSigned w64 (pos 0) = subst (FitsSigned w64) e fits in
    subst (λ z. Enough ATOM n (Literal (cell.Int z))) (sym e) (is_bare (omega arith) (λ rest. g.an_int none))
minus_int_enough n (suc k) z e fits =
    let below : FitsSigned w64 (negsuc k) = subst (FitsSigned w64) e fits in
    subst (λ z. Enough ATOM n (Literal (cell.Int z))) (sym e) (is_bare (omega arith) (λ rest. g.a_minus_int refl below))

-- so many levels as spell an expression are enough for its canonical text
enough : {rule : Rule} {n : ℕ} {e : PlainExpr} {from rest : List Token} → Spells rule n e from rest → Enough rule n e
enough (g.looser {r = r} {s = s} {n = n} {e = e} h x) = looser_enough s r n e h (enough x)
enough (g.operation {n = n} {a = a} {b = b} t {o = o} e s u) =
    let found = operator_found t o e in
    of_form o.operator a b o.rule n (Between found.0 o) found.2 (omega arith)
    (spelled_between o.rule o.left o.right n (Binary o.operator a b) a b found.0 (λ from mid rest s u. g.operation found.0 found.1 s u) (canonical_expr o.left a) (canonical_expr o.right b) (enough_spelled o.left n a (enough s)) (enough_spelled o.right n b (enough u)))
enough (g.prefixed {n = n} {a = a} t {p = p} e s) = prefix_enough n t p a e (enough s)
enough (g.an_int fits) = is_bare (omega arith) (λ rest. g.an_int fits)
enough (g.a_minus_int {n = n} {number = number} {z = z} e fits) = minus_int_enough n number z e fits
enough g.a_text = is_bare (omega arith) (λ rest. g.a_text)
enough g.a_truth = is_bare (omega arith) (λ rest. g.a_truth)
enough g.a_column = is_bare (omega arith) (λ rest. g.a_column)
enough (g.in_parens {n = n} {e = e} s) = in_parens_enough n e (enough s)
enough (g.call1 {n = n} {a = a} w {o = o} e s) = call1_enough n w o a e (enough s)
enough (g.call2 {n = n} {a = a} {b = b} w {o = o} e s t) =
    of_form (operator.Call o) a b ATOM (suc n) (Function w) (call2_form w o e) (omega arith) (λ rest.
    subst (λ ts. Spells ATOM (suc n) (Binary (operator.Call o) a b) (Word w ∷ Mark mark.Open ∷ ts) rest) (sym (two_argument_tokens (canonical_expr E a) (canonical_expr E b) rest))
    (g.call2 w e (enough_spelled E n a (enough s) _) (enough_spelled E n b (enough t) (Mark mark.Close ∷ rest))))
enough (g.choice {n = n} {c = c} {a = a} {b = b} s t u) =
    is_bare (omega arith) (λ rest.
    subst (λ ts. Spells ATOM (suc n) (If c a b) (Word word.If ∷ Mark mark.Open ∷ ts) rest) (sym (three_argument_tokens (canonical_expr E c) (canonical_expr E a) (canonical_expr E b) rest))
    (g.choice (enough_spelled E n c (enough s) _) (enough_spelled E n a (enough t) _) (enough_spelled E n b (enough u) (Mark mark.Close ∷ rest))))

-- the canonical tokens spell what is spelled
pub expr_respelled : (rule : Rule) (n : ℕ) (e : PlainExpr) (from before : List Token) → Spells rule n e from before → (rest : List Token) → Spells rule n e (onto (canonical_expr rule e) rest) rest
expr_respelled rule n e from before s rest = enough_spelled rule n e (enough s) rest

-- an item that its pieces spell wherever some tokens do
abbrev Respelled : {A : Type 0} → (A → List Token → List Token → Type 0) → (A → List Piece) → Type 0
Respelled {A} Item item = (x : A) (from before rest : List Token) → Item x from before → Item x (onto (item x) rest) rest

listed_respelled : {A : Type 0} (Item : A → List Token → List Token → Type 0) (item : A → List Piece) → Respelled Item item →
    (xs : List A) (from before rest : List Token) → Listed Item xs from before → Listed Item xs (onto (listed item xs) rest) rest
listed_respelled Item item respelled [] from before rest l = absurd l
listed_respelled Item item respelled (x ∷ []) from before rest l = subst (λ ts. Item x ts rest) (sym (onto-append (item x) [] rest)) (respelled x from before rest l)
listed_respelled Item item respelled (x ∷ y ∷ more) from before rest l =
    let others = listed_respelled Item item respelled (y ∷ more) l.0 before rest l.2 in
    let behind = onto (listed item (y ∷ more)) rest in
    let first = respelled x from (Mark mark.Comma ∷ l.0) (Mark mark.Comma ∷ behind) l.1 in
    (behind, subst (λ ts. Item x ts (Mark mark.Comma ∷ behind)) (sym (onto-append (item x) (flat_map (λ y. behind_comma (item y)) (y ∷ more)) rest)) first, others)

name_respelled : Respelled SpellsName name_piece
name_respelled name from before rest s = refl

column_respelled : (n : ℕ) → Respelled (SpellsColumn n) column_pieces
column_respelled n column from before rest s = (onto (canonical_expr E column.expr) rest, refl, expr_respelled E n column.expr s.0 before s.2 rest)

pair_respelled : Respelled SpellsPair pair_pieces
pair_respelled pair from before rest s = refl

key_respelled : Respelled SpellsKey key_pieces
key_respelled key from before rest s = by key.down refl
  where
    by : (b : Bool) → key.down ≡ b → SpellsKey key (onto (key_pieces key) rest) rest
    by true e = rw e refl
    by false e = rw e refl

result_respelled : (n : ℕ) → Respelled (SpellsResult n) result_pieces
result_respelled n result from before rest s = (s.0, by result.agg)
  where
    by : (a : NamedAgg) → onto (named result.name (One (Name (agg_word a)) ∷ in_parens (argument_pieces a))) rest ≡ Name result.name ∷ Mark mark.Equal ∷ Name (agg_word a) ∷ Mark mark.Open ∷ (g.agg_argument a ++ Mark mark.Close ∷ rest)
    by agg.Count = refl
    by (agg.Of f column) = refl

-- the tokens of a stage, behind a plan
stage_tokens : (plan : List Piece) (w : the_word.Word) (pieces : List Piece) (rest : List Token) → onto (stage plan w pieces) rest ≡ onto plan (Mark mark.Bar ∷ Word w ∷ onto pieces rest)
stage_tokens plan w pieces rest = onto-append plan (Space ∷ One (Mark mark.Bar) ∷ Space ∷ One (Word w) ∷ pieces) rest

between_tokens : (xs ys : List Piece) (token : Token) (rest : List Token) → onto (between xs token ys) rest ≡ onto xs (token ∷ onto ys rest)
between_tokens xs ys token rest = onto-append xs (Space ∷ One token ∷ Space ∷ ys) rest

pub plan_respelled : {n : ℕ} {p : PlainTree} {from before : List Token} → SpellsPlan n p from before → (rest : List Token) → SpellsPlan n p (onto (canonical p) rest) rest
plan_respelled g.stream rest = g.stream
plan_respelled (g.filter {n = n} {p = p} {test = test} {mid = mid} {rest = before} s t) rest =
    let behind = onto (canonical_expr E test) rest in
    subst (λ ts. SpellsPlan n (Where p test) ts rest) (sym (stage_tokens (canonical p) word.Where (Space ∷ canonical_expr E test) rest))
    (g.filter (plan_respelled s (Mark mark.Bar ∷ Word word.Where ∷ behind)) (expr_respelled E n test mid before t rest))
plan_respelled (g.select {n = n} {p = p} {columns = columns} {mid = mid} {rest = before} s l) rest =
    let behind = onto (listed column_pieces columns) rest in
    subst (λ ts. SpellsPlan n (Select p columns) ts rest) (sym (stage_tokens (canonical p) word.Select (Space ∷ listed column_pieces columns) rest))
    (g.select (plan_respelled s (Mark mark.Bar ∷ Word word.Select ∷ behind)) (listed_respelled (SpellsColumn n) column_pieces (column_respelled n) columns mid before rest l))
plan_respelled (g.distinct {n = n} {p = p} s) rest =
    subst (λ ts. SpellsPlan n (Distinct p) ts rest) (sym (stage_tokens (canonical p) word.Distinct [] rest)) (g.distinct (plan_respelled s (Mark mark.Bar ∷ Word word.Distinct ∷ rest)))
plan_respelled (g.group {n = n} {p = p} {keys = keys} {results = results} {mid = mid} {rest = before} next s l r) rest =
    let last = onto (listed result_pieces results) rest in
    let behind = onto (listed name_piece keys) (Word word.With ∷ last) in
    subst (λ ts. SpellsPlan n (Group p keys results) ts rest)
    (sym (stage_tokens (canonical p) word.Group (Space ∷ between (listed name_piece keys) (Word word.With) (listed result_pieces results)) rest
    ∙ ap (λ ts. onto (canonical p) (Mark mark.Bar ∷ Word word.Group ∷ ts)) (between_tokens (listed name_piece keys) (listed result_pieces results) (Word word.With) rest)))
    (g.group last (plan_respelled s (Mark mark.Bar ∷ Word word.Group ∷ behind)) (listed_respelled SpellsName name_piece name_respelled keys mid (Word word.With ∷ next) (Word word.With ∷ last) l) (listed_respelled (SpellsResult n) result_pieces (result_respelled n) results next before rest r))
plan_respelled (g.join {n = n} {p = p} {q = q} {on = on} {mid = mid} {next = next} {rest = before} s t l) rest =
    let last = onto (listed pair_pieces on) rest in
    let behind = onto (canonical q) (Mark mark.Close ∷ Word word.On ∷ last) in
    subst (λ ts. SpellsPlan (suc n) (Join p q on) ts rest)
    (sym (stage_tokens (canonical p) word.Join (Space ∷ between (in_parens (canonical q)) (Word word.On) (listed pair_pieces on)) rest
    ∙ ap (λ ts. onto (canonical p) (Mark mark.Bar ∷ Word word.Join ∷ ts)) (between_tokens (in_parens (canonical q)) (listed pair_pieces on) (Word word.On) rest)
    ∙ ap (λ ts. onto (canonical p) (Mark mark.Bar ∷ Word word.Join ∷ Mark mark.Open ∷ ts)) (argument_tokens (canonical q) (Word word.On ∷ last))))
    (g.join (plan_respelled s (Mark mark.Bar ∷ Word word.Join ∷ Mark mark.Open ∷ behind)) (plan_respelled t (Mark mark.Close ∷ Word word.On ∷ last)) (listed_respelled SpellsPair pair_pieces pair_respelled on next before rest l))
plan_respelled (g.concat {n = n} {p = p} {q = q} s t) rest =
    let behind = onto (canonical q) (Mark mark.Close ∷ rest) in
    subst (λ ts. SpellsPlan (suc n) (Concat p q) ts rest)
    (sym (stage_tokens (canonical p) word.Concat (Space ∷ in_parens (canonical q)) rest
    ∙ ap (λ ts. onto (canonical p) (Mark mark.Bar ∷ Word word.Concat ∷ Mark mark.Open ∷ ts)) (argument_tokens (canonical q) rest)))
    (g.concat (plan_respelled s (Mark mark.Bar ∷ Word word.Concat ∷ Mark mark.Open ∷ behind)) (plan_respelled t (Mark mark.Close ∷ rest)))
plan_respelled (g.order {n = n} {p = p} {keys = keys} {mid = mid} {rest = before} s l) rest =
    let behind = onto (listed key_pieces keys) rest in
    subst (λ ts. SpellsPlan n (Order p keys) ts rest) (sym (stage_tokens (canonical p) word.Order (Space ∷ listed key_pieces keys) rest))
    (g.order (plan_respelled s (Mark mark.Bar ∷ Word word.Order ∷ behind)) (listed_respelled SpellsKey key_pieces key_respelled keys mid before rest l))

-- a canonical text opens no more levels than any other text of its plan
pub canonical_opens_fewest : (n : ℕ) (p : PlainTree) (tokens : List Token) → SpellsPlan n p tokens [] → SpellsPlan n p (tokens_of (canonical p)) []
canonical_opens_fewest n p tokens s = subst (λ ts. SpellsPlan n p ts []) (onto-none (canonical p)) (plan_respelled s [])
