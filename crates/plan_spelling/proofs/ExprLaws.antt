-- The format of expressions is exact.
use Rattle.std.proofs.Common.{◌≡◌, ℕ, zero, suc, ◌<◌, ◌⊎◌, inl, inr, Bool, cond, List, [], ◌∷◌, ◌++◌, length, Option, Some, None, unwrap_or, refl, sym, ap, subst, arith}
use Rattle.std.specs.List.{flat_map, AllByRecursion}
use Rattle.std.specs.Option.{option_map}
use Rattle.std.proofs.lemmas.Bool.{ne_eqb}
use Rattle.std.proofs.lemmas.List.{append-nil}
use Rattle.scalar_ops.specs.declared.cell.Cell.TheVariants as cell
use Rattle.scalar_ops.specs.declared.table.Args.{Args}
use Rattle.scalar_ops.specs.declared.table.Args.TheVariants.{One, Two}
use Rattle.scalar_ops.specs.declared.table.OpRow.{OpRow}
use Rattle.scalar_ops.specs.Meaning.{row_at}
use Rattle.scalar_ops.specs.Table.{kinds_of_args}
use Rattle.plan_core.specs.PlainExpr.{PlainExpr, Column, Literal, Call1, Call2, And, Or, If}
use Rattle.plan_core.specs.Nesting.{expr_nesting}
use Rattle.byte_formats.specs.Format.{Format, symbol, beside, ◌⊗◌, times}
use Rattle.byte_formats.proofs.Exact.{Exact, both_exact}
use Rattle.byte_formats.proofs.Laws.{symbol_exact, u32_exact, made_exact, times_exact, nothing_exact}
use Rattle.byte_formats.proofs.Told.{table_exact, i64_exact, text_exact, flag_fits, flag_exact, pair_exact}
use Rattle.plan_spelling.specs.declared.tag.ExprTag.{ExprTag}
use Rattle.plan_spelling.specs.declared.tag.ExprTag.TheVariants as tag
use Rattle.plan_spelling.specs.Tags.{expr_leaves, expr_tags, expr_tags_above, byte_of_expr}
use Rattle.plan_spelling.specs.Spelling.{expr_spelling}
use Rattle.plan_spelling.specs.Formats.{operation_of, operation, arity, ExprParts, expr_fields, call_of, expr_made, expr_tag_format, expr_node, IsExprTo, expr_reading, expr_format}

-- ---- calls

pub operation_is : (b row : ℕ) (o : Option OpRow) → option_map (λ r. b) o ≡ Some row → row ≡ b
operation_is b row None e = absurd cc
operation_is b row (Some r) e = cc

pub operation_exact : Exact operation
operation_exact = symbol_exact (λ row. row) operation_of (λ b row e. operation_is b row (row_at b) e)

-- a row has one argument or two
args_of : (args : Args) → (length (kinds_of_args args) ≡ 1) ⊎ (length (kinds_of_args args) ≡ 2)
args_of (One kind) = inl refl
args_of (Two first second) = inr refl

abbrev pub arity_of : Option OpRow → ℕ
arity_of o = length (unwrap_or (option_map (λ r. kinds_of_args r.args) o) [])

pub arity_is : (b row : ℕ) (o : Option OpRow) → option_map (λ r. b) o ≡ Some row → (arity_of o ≡ 1) ⊎ (arity_of o ≡ 2)
arity_is b row None e = absurd cc
arity_is b row (Some r) e = args_of r.args

-- a row that has an argument is there
is_there : (row n : ℕ) (o : Option OpRow) → arity_of o ≡ suc n → option_map (λ r. row) o ≡ Some row
is_there row n None e = absurd (omega arith)
is_there row n (Some r) e = refl

-- ---- tags

pub expr_above : (depth : ℕ) → expr_tags_above (suc depth) ≡ expr_tags
expr_above depth = ap (λ (c : Bool). cond c expr_leaves expr_tags) (ne_eqb (suc depth) 0 (λ z. omega arith))

pub expr_tags_exact : (depth : ℕ) → Exact (expr_tag_format depth)
expr_tags_exact zero = table_exact byte_of_expr expr_leaves (refl, (refl, (refl, (refl, tt))))
expr_tags_exact (suc depth) = subst (λ (rows : List (ℕ × ExprTag)). Exact (symbol byte_of_expr (beside rows))) (sym (expr_above depth)) (table_exact byte_of_expr expr_tags (refl, (refl, (refl, (refl, (refl, (refl, (refl, (refl, tt)))))))))

expr_own : (t : ExprTag) → beside expr_tags (byte_of_expr t) ≡ Some t
expr_own tag.Column = refl
expr_own tag.Int = refl
expr_own tag.Text = refl
expr_own tag.Bool = refl
expr_own tag.Call = refl
expr_own tag.And = refl
expr_own tag.Or = refl
expr_own tag.If = refl

-- where something may stand below, each tag may stand
expr_tag_fits : (depth : ℕ) (t : ExprTag) → 0 < depth → (expr_tag_format depth).Fits t
expr_tag_fits zero t lt = absurd (omega arith)
expr_tag_fits (suc depth) t lt = subst (λ (rows : List (ℕ × ExprTag)). beside rows (byte_of_expr t) ≡ Some t) (sym (expr_above depth)) (expr_own t)

column_fits : (depth : ℕ) → (expr_tag_format depth).Fits tag.Column
column_fits zero = refl
column_fits (suc depth) = expr_tag_fits (suc depth) tag.Column (omega arith)

int_fits : (depth : ℕ) → (expr_tag_format depth).Fits tag.Int
int_fits zero = refl
int_fits (suc depth) = expr_tag_fits (suc depth) tag.Int (omega arith)

text_fits : (depth : ℕ) → (expr_tag_format depth).Fits tag.Text
text_fits zero = refl
text_fits (suc depth) = expr_tag_fits (suc depth) tag.Text (omega arith)

bool_fits : (depth : ℕ) → (expr_tag_format depth).Fits tag.Bool
bool_fits zero = refl
bool_fits (suc depth) = expr_tag_fits (suc depth) tag.Bool (omega arith)

-- ---- what the fields are is what the spelling says

abbrev child : ℕ → Format PlainExpr
child depth = expr_format depth

call_to : (depth row : ℕ) (args : List PlainExpr) → operation_of row ≡ Some row → length args ≡ arity row → AllByRecursion (IsExprTo depth) args
    → IsExprTo (suc depth) (call_of row args) × (expr_spelling (call_of row args) ≡ 0x15 ∷ row ∷ flat_map expr_spelling args)
call_to depth row [] there len fits = absurd (elim (arity_is row row (row_at row) there) [ inl e ↦ omega arith | inr e ↦ omega arith ])
call_to depth row (a ∷ []) there len fits = (((sym len, fits.0.0), (let n = fits.0.1 in omega arith)), ap (λ (l : List ℕ). 0x15 ∷ row ∷ l) (sym (append-nil (expr_spelling a))))
call_to depth row (a ∷ b ∷ []) there len fits =
    (((sym len, fits.0.0, fits.1.0.0), (let m = fits.0.1 in let n = fits.1.0.1 in omega arith)), ap (λ (l : List ℕ). 0x15 ∷ row ∷ (expr_spelling a ++ l)) (sym (append-nil (expr_spelling b))))
call_to depth row (a ∷ b ∷ c ∷ more) there len fits = absurd (elim (arity_is row row (row_at row) there) [ inl e ↦ omega arith | inr e ↦ omega arith ])

pub expr_to : (depth : ℕ) (t : ExprTag) (p : ExprParts t) → (expr_fields (child depth) t).Fits p → IsExprTo (suc depth) (expr_made t p) × (expr_spelling (expr_made t p) ≡ byte_of_expr t ∷ (expr_fields (child depth) t).spell p)
expr_to depth tag.Column p fits = ((fits, omega arith), refl)
expr_to depth tag.Int p fits = ((fits, omega arith), refl)
expr_to depth tag.Text p fits = ((fits, omega arith), refl)
expr_to depth tag.Bool p fits = ((tt, omega arith), refl)
expr_to depth tag.Call p fits = call_to depth p.0 p.1 fits.0 fits.1.0 fits.1.1
expr_to depth tag.And p fits = (((fits.0.0, fits.1.0), omega arith), refl)
expr_to depth tag.Or p fits = (((fits.0.0, fits.1.0), omega arith), refl)
expr_to depth tag.If p fits = (((fits.0.0, fits.1.0.0, fits.1.1.0), omega arith), refl)

is_one : (e : PlainExpr) → 0 < expr_nesting e
is_one (Column column) = omega arith
is_one (Literal c) = omega arith
is_one (Call1 row a) = omega arith
is_one (Call2 row a b) = omega arith
is_one (And a b) = omega arith
is_one (Or a b) = omega arith
is_one (If test a b) = omega arith

expr_from : (depth : ℕ) (e : PlainExpr) → IsExprTo (suc depth) e → (p : (t : ExprTag) × ExprParts t) × (expr_node depth (child depth)).Fits p × (expr_made p.0 p.1 ≡ e)
expr_from depth (Column column) fits = ((tag.Column, column), (column_fits depth, fits.0), refl)
expr_from depth (Literal (cell.Int n)) fits = ((tag.Int, n), (int_fits depth, fits.0), refl)
expr_from depth (Literal (cell.Text t)) fits = ((tag.Text, t), (text_fits depth, fits.0), refl)
expr_from depth (Literal (cell.Bool b)) fits = ((tag.Bool, b), (bool_fits depth, flag_fits b), refl)
expr_from depth (Call1 row a) fits = ((tag.Call, (row, a ∷ [])), (expr_tag_fits depth tag.Call (let one = is_one a in let deep = fits.1 in omega arith), (is_there row 0 (row_at row) fits.0.0, (sym fits.0.0, ((fits.0.1, omega arith), tt)))), refl)
expr_from depth (Call2 row a b) fits = ((tag.Call, (row, a ∷ b ∷ [])), (expr_tag_fits depth tag.Call (let one = is_one a in let deep = fits.1 in omega arith), (is_there row 1 (row_at row) fits.0.0, (sym fits.0.0, ((fits.0.1, omega arith), ((fits.0.2, omega arith), tt))))), refl)
expr_from depth (And a b) fits = ((tag.And, (a, b)), (expr_tag_fits depth tag.And (let one = is_one a in let deep = fits.1 in omega arith), ((fits.0.0, omega arith), (fits.0.1, omega arith))), refl)
expr_from depth (Or a b) fits = ((tag.Or, (a, b)), (expr_tag_fits depth tag.Or (let one = is_one a in let deep = fits.1 in omega arith), ((fits.0.0, omega arith), (fits.0.1, omega arith))), refl)
expr_from depth (If test a b) fits = ((tag.If, (test, (a, b))), (expr_tag_fits depth tag.If (let one = is_one test in let deep = fits.1 in omega arith), ((fits.0.0, omega arith), ((fits.0.1, omega arith), (fits.0.2, omega arith)))), refl)

fields_exact : (expr : Format PlainExpr) → Exact expr → (t : ExprTag) → Exact (expr_fields expr t)
fields_exact expr exact tag.Column = u32_exact
fields_exact expr exact tag.Int = i64_exact
fields_exact expr exact tag.Text = text_exact
fields_exact expr exact tag.Bool = flag_exact
fields_exact expr exact tag.Call = both_exact operation (λ row. times (arity row) expr) operation_exact (λ row fits. times_exact expr exact (arity row))
fields_exact expr exact tag.And = pair_exact expr expr exact exact
fields_exact expr exact tag.Or = pair_exact expr expr exact exact
fields_exact expr exact tag.If = pair_exact expr (expr ⊗ expr) exact (pair_exact expr expr exact exact)

pub expr_exact : (depth : ℕ) → Exact (expr_format depth)
unfolding expr_reading
expr_exact zero = nothing_exact (IsExprTo 0) expr_spelling (λ e fits. (let deep = is_one e in let none = fits.1 in omega arith))
expr_exact (suc depth) =
    made_exact (λ p. expr_made p.0 p.1) (IsExprTo (suc depth)) expr_spelling (expr_node depth (child depth))
    (both_exact (expr_tag_format depth) (expr_fields (child depth)) (expr_tags_exact depth) (λ t fits. fields_exact (child depth) (expr_exact depth) t))
    (record { to = λ p fits. expr_to depth p.0 p.1 fits.1; from = expr_from depth })
