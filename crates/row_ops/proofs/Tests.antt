-- A test at one row, and then at the others.
use Rattle.std.specs.Prelude.{is_err}
use Rattle.std.proofs.Common.{◌≡◌, refl, sym, ap, ◌∙◌, subst, ℕ, ◌+◌, Bool, true, false, cond, ◌||◌, [], ◌∷◌, ◌++◌, length, All, append_assoc, Result, Ok, Err, arith}
use Rattle.std.specs.List.{filter, list_any}
use Rattle.std.proofs.lemmas.List.Elements.{All-tail}
use Rattle.rows_core.specs.declared.overflow.Overflow.{Overflow}
use Rattle.scalar_ops.specs.declared.cell.Cell.{Cell}
use Rattle.scalar_ops.specs.Meaning.{overflow}
use Rattle.plan_core.specs.Columns.{Row, Rows}
use Rattle.plan_core.specs.ExpressionValue.{◌>>=◌, expression_value, is_true}
use Rattle.plan_core.specs.Filter.{filter_rows, is_true_value, overflows, passes}
use Rattle.plan_core.specs.PlainExpr.{PlainExpr}
use Rattle.plan_laws.specs.GrowthOfRows.{joined}
use Rattle.row_ops.specs.Operators.{test_value}

module _ (test : PlainExpr) (row : Row) (rest : Rows) where
  passed : test_value test row ≡ Ok true → filter_rows test (row ∷ rest) ≡ joined (Ok (row ∷ [])) (filter_rows test rest)
  passed = by (expression_value test row)
    where
      kept : Rows
      kept = filter (passes test) rest

      truly : (t : Bool) → t ≡ true → (any : Bool) → cond any (Err overflow) (Ok (cond t (row ∷ kept) kept)) ≡ joined (Ok (row ∷ [])) (cond any (Err overflow) (Ok kept))
      truly true e true = refl
      truly true e false = refl
      truly false e any = absurd (cc)

      by : (value : Result Cell Overflow) → (value >>= λ cell. Ok (is_true cell)) ≡ Ok true
          → cond (is_err value || list_any (overflows test) rest) (Err overflow) (Ok (cond (is_true_value value) (row ∷ kept) kept)) ≡ joined (Ok (row ∷ [])) (filter_rows test rest)
      by (Ok cell) is = truly (is_true cell) (let e : is_true cell ≡ true = cc in e) (list_any (overflows test) rest)
      by (Err e) is = absurd (cc)

  failed : test_value test row ≡ Ok false → filter_rows test (row ∷ rest) ≡ filter_rows test rest
  failed = by (expression_value test row)
    where
      kept : Rows
      kept = filter (passes test) rest

      by : (value : Result Cell Overflow) → (value >>= λ cell. Ok (is_true cell)) ≡ Ok false
          → cond (is_err value || list_any (overflows test) rest) (Err overflow) (Ok (cond (is_true_value value) (row ∷ kept) kept)) ≡ filter_rows test rest
      by (Ok cell) is = let e : is_true cell ≡ false = cc in ap (λ t. cond (list_any (overflows test) rest) (Err overflow) (Ok (cond t (row ∷ kept) kept))) e
      by (Err e) is = absurd (cc)

-- one list behind another one, and both behind a third
twice_joined : (a b : Rows) (r : Result Rows Overflow) → joined (Ok a) (joined (Ok b) r) ≡ joined (Ok (a ++ b)) r
twice_joined a b (Ok rows) = ap Ok (sym (append_assoc a b rows))
twice_joined a b (Err e) = refl

module _ (items rest : Rows) (row : Row) (split : items ≡ row ∷ rest) where
  pub typed_rest : (P : Row → Type 0) → All P items → All P rest
  typed_rest P all = All-tail P row rest (subst (All P) split all)

  pub left_rest : (before after : ℕ) → before ≡ length items → after + 1 ≡ before → after ≡ length rest
  left_rest before after is one_less = let l : length items ≡ length (row ∷ rest) = ap length split in omega (arith, l)

  module _ (test : PlainExpr) (all : Result Rows Overflow) (kept : Rows) (given : all ≡ joined (Ok kept) (filter_rows test items)) where
    given_row : all ≡ joined (Ok kept) (filter_rows test (row ∷ rest))
    given_row = given ∙ ap (λ l. joined (Ok kept) (filter_rows test l)) split

    pub given_passed : (next : Rows) → test_value test row ≡ Ok true → next ≡ kept ++ row ∷ [] → all ≡ joined (Ok next) (filter_rows test rest)
    given_passed next is pushed =
        given_row ∙ ap (joined (Ok kept)) (passed test row rest is) ∙ twice_joined kept (row ∷ []) (filter_rows test rest)
        ∙ ap (λ l. joined (Ok l) (filter_rows test rest)) (sym pushed)

    pub given_failed : test_value test row ≡ Ok false → all ≡ joined (Ok kept) (filter_rows test rest)
    given_failed is = given_row ∙ ap (joined (Ok kept)) (failed test row rest is)
