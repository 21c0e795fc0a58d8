-- Columns over columns are one projection, where the lower ones never overflow.
use Rattle.std.proofs.Common.{◌≡◌, refl, sym, ap, ◌∙◌, ℕ, zero, suc, Bool, true, false, ◌&&◌, ◌||◌, not, cond, List, [], ◌∷◌, map, slice_get, Option, None, Some, unwrap_or, Result, Ok, Err}
use Rattle.std.specs.Option.{option_map, option_and_then}
use Rattle.std.specs.List.{list_all, AllByRecursion}
use Rattle.std.proofs.lemmas.Bool.{or_parts}
use Rattle.rows_core.specs.declared.kind.Kind as column
use Rattle.rows_core.specs.declared.kind.Kind.TheVariants as column_kind
use Rattle.rows_core.specs.declared.overflow.Overflow.{Overflow}
use Rattle.rows_core.specs.Value.{kind_of}
use Rattle.scalar_ops.specs.declared.cell.Cell.{Cell}
use Rattle.scalar_ops.specs.declared.cell.Cell.TheVariants as cell
use Rattle.scalar_ops.specs.declared.cell.CellKind.{CellKind}
use Rattle.scalar_ops.specs.declared.cell.CellKind.TheVariants as kind
use Rattle.scalar_ops.specs.Cells.{kind_of_cell}
use Rattle.scalar_ops.specs.Meaning.{meaning, op_at, overflows_at, exact_value, exact_cell, cell_of}
use Rattle.plan_core.specs.PlainExpr.{PlainExpr, Column, Literal, Call1, Call2, And, Or, If}
use Rattle.plan_core.specs.Columns.{Row, Rows, column_of}
use Rattle.plan_core.specs.ExpressionKind.{expression_kind, call_kind, both_truths, cell_kind_of, of_both, is_division, is_divisor}
use Rattle.plan_core.specs.ExpressionValue.{◌>>=◌, expression_value, cell_of_value, value_of_cell}
use Rattle.plan_core.specs.ExpressionValue.{is_true as holds}
use Rattle.plan_core.specs.PlanTyping.{Kinds, all_there, column_kind as kind_of_column, column_kind_of}
use Rattle.plan_core.specs.Project.{project_row, project_rows}
use Rattle.plan_core.proofs.ValueKinds.{typed_value}
use Rattle.plan_laws.proofs.TypedPlans.{and_then}
use Rattle.plan_laws.proofs.Answers.{both_some}
use Rattle.plan_canon.specs.PlanRules.{may_overflow, put_in}
use Rattle.plan_canon.proofs.SameValues.{truths, choices, unless, allowed, both, if_kind}

-- ---- no overflow

pub no_overflow : (e : PlainExpr) (row : Row) → may_overflow e ≡ false → (c : Cell) × (expression_value e row ≡ Ok c)
no_overflow (Column i) row h = (_, refl)
no_overflow (Literal c) row h = (c, refl)
no_overflow (Call1 op a) row h =
    let parts = or_parts (overflows_at op) (may_overflow a) h in
    let x = no_overflow a row parts.1 in (
      exact_cell (exact_value (op_at op) (x.0 ∷ [])),
      ap (λ v. v >>= λ x. meaning op (x ∷ [])) x.1 ∙ ap (λ may. cond may (cell_of (exact_value (op_at op) (x.0 ∷ []))) (Ok (exact_cell (exact_value (op_at op) (x.0 ∷ []))))) parts.0,
    )
no_overflow (Call2 op a b) row h =
    let whole = or_parts (overflows_at op || may_overflow a) (may_overflow b) h in
    let parts = or_parts (overflows_at op) (may_overflow a) whole.0 in
    let x = no_overflow a row parts.1 in
    let y = no_overflow b row whole.1 in (
      exact_cell (exact_value (op_at op) (x.0 ∷ y.0 ∷ [])),
      (λ i. x.1 i >>= λ x. y.1 i >>= λ y. meaning op (x ∷ y ∷ []))
          ∙ ap (λ may. cond may (cell_of (exact_value (op_at op) (x.0 ∷ y.0 ∷ []))) (Ok (exact_cell (exact_value (op_at op) (x.0 ∷ y.0 ∷ []))))) parts.0,
    )
no_overflow (And a b) row h =
    let args = or_parts (may_overflow a) (may_overflow b) h in
    let x = no_overflow a row args.0 in
    let y = no_overflow b row args.1 in
    (cond (holds x.0) y.0 (cell.Bool false), (λ i. x.1 i >>= λ c. cond (holds c) (y.1 i) (Ok (cell.Bool false))) ∙ by (holds x.0) y.0)
  where
    by : (t : Bool) (y : Cell) → ◌≡◌ {A = Result Cell Overflow} (cond t (Ok y) (Ok (cell.Bool false))) (Ok (cond t y (cell.Bool false)))
    by true y = refl
    by false y = refl
no_overflow (Or a b) row h =
    let args = or_parts (may_overflow a) (may_overflow b) h in
    let x = no_overflow a row args.0 in
    let y = no_overflow b row args.1 in
    (cond (holds x.0) (cell.Bool true) y.0, (λ i. x.1 i >>= λ c. cond (holds c) (Ok (cell.Bool true)) (y.1 i)) ∙ by (holds x.0) y.0)
  where
    by : (t : Bool) (y : Cell) → ◌≡◌ {A = Result Cell Overflow} (cond t (Ok (cell.Bool true)) (Ok y)) (Ok (cond t (cell.Bool true) y))
    by true y = refl
    by false y = refl
no_overflow (If c a b) row h =
    let whole = or_parts (may_overflow c || may_overflow a) (may_overflow b) h in
    let parts = or_parts (may_overflow c) (may_overflow a) whole.0 in
    let t = no_overflow c row parts.0 in
    let x = no_overflow a row parts.1 in
    let y = no_overflow b row whole.1 in
    (cond (holds t.0) x.0 y.0, (λ i. t.1 i >>= λ c. cond (holds c) (x.1 i) (y.1 i)) ∙ by (holds t.0) x.0 y.0)
  where
    by : (t : Bool) (x y : Cell) → ◌≡◌ {A = Result Cell Overflow} (cond t (Ok x) (Ok y)) (Ok (cond t x y))
    by true x y = refl
    by false x y = refl

abbrev pub NoneOverflow : List PlainExpr → Type 0
NoneOverflow es = list_all (λ e. not (may_overflow e)) es ≡ true

first_and_rest : (a b : Bool) → (not a && b) ≡ true → (a ≡ false) × (b ≡ true)
first_and_rest true b e = absurd cc
first_and_rest false b e = (refl, e)

pub row_there : (es : List PlainExpr) (row : Row) → NoneOverflow es → (out : Row) × (project_row es row ≡ Ok out)
row_there [] row h = ([], refl)
row_there (e ∷ es) row h =
    let parts = first_and_rest (may_overflow e) (list_all (λ e. not (may_overflow e)) es) h in
    let x = no_overflow e row parts.0 in
    let rest = row_there es row parts.1 in
    (value_of_cell x.0 ∷ rest.0, (λ i. (x.1 i >>= λ c. Ok (value_of_cell c)) >>= λ v. rest.1 i >>= λ vs. Ok (v ∷ vs)))

-- ---- kinds

pub kind_of_one : (o : Option CellKind) (k : column.Kind) → option_map kind_of_column o ≡ Some k → o ≡ Some (cell_kind_of k)
kind_of_one None k e = absurd cc
kind_of_one (Some kind.Int) column_kind.Int e = refl
kind_of_one (Some kind.Text) column_kind.Text e = refl
kind_of_one (Some kind.Bool) column_kind.Bool e = refl
kind_of_one (Some _) _ e = absurd cc

pub all_front : {A : Type 0} (o : Option A) (os : List (Option A)) (ks : List A) → all_there (o ∷ os) ≡ Some ks → (k : A) × (rest : List A) × (o ≡ Some k) × (all_there os ≡ Some rest) × (ks ≡ k ∷ rest)
all_front None os ks e = absurd cc
all_front (Some k) os ks e =
    let r = and_then (λ others. Some (k ∷ others)) (all_there os) ks e in
    (k, r.0, refl, r.1, (let same : k ∷ r.0 ≡ ks = let h = r.2 in cc in sym same))

module _ (kinds : Kinds) where
  -- a column that is there
  record IsColumn (es : List PlainExpr) (i : ℕ) (k : column.Kind) : Type 0 where
    at : PlainExpr
    there : slice_get es i ≡ Some at
    its : expression_kind kinds at ≡ Some (cell_kind_of k)

  nothing : (i : ℕ) (k : column.Kind) → slice_get [] i ≡ Some k → ⊥
  nothing i k e = cc

  column_there : (es : List PlainExpr) (ks : Kinds) (i : ℕ) (k : column.Kind) → all_there (map (column_kind_of kinds) es) ≡ Some ks → slice_get ks i ≡ Some k → IsColumn es i k
  column_there [] ks i k e h = let none : [] ≡ ks = cc in absurd (nothing i k (ap (λ l. slice_get l i) none ∙ h))
  column_there (e ∷ es) ks zero k all h =
      let front = all_front (column_kind_of kinds e) (map (column_kind_of kinds) es) ks all in
      let first : slice_get (front.0 ∷ front.1) 0 ≡ Some k = ap (λ l. slice_get l 0) (sym front.4) ∙ h in
      let same : front.0 ≡ k = cc in
      record { at = e; there = refl; its = kind_of_one (expression_kind kinds e) k (front.2 ∙ ap Some same) }
  column_there (e ∷ es) ks (suc i) k all h =
      let front = all_front (column_kind_of kinds e) (map (column_kind_of kinds) es) ks all in
      let rest = column_there es front.1 i k front.3 (ap (λ l. slice_get l (suc i)) (sym front.4) ∙ h) in
      record { at = rest.at; there = rest.there; its = rest.its }

  divisor_put : (es : List PlainExpr) (b : PlainExpr) → is_divisor b ≡ true → is_divisor (put_in es b) ≡ true
  divisor_put es (Literal c) e = e
  divisor_put es _ e = absurd cc

  column_some : (o : Option column.Kind) (k : CellKind) → option_map cell_kind_of o ≡ Some k → (j : column.Kind) × (o ≡ Some j) × (cell_kind_of j ≡ k)
  column_some None k e = absurd cc
  column_some (Some j) k e = (j, refl, cc)

  pub put_kind : (es : List PlainExpr) (ks : Kinds) → all_there (map (column_kind_of kinds) es) ≡ Some ks → (f : PlainExpr) (k : CellKind) → expression_kind ks f ≡ Some k → expression_kind kinds (put_in es f) ≡ Some k
  put_kind es ks all (Column i) k h =
      let j = column_some (slice_get ks i) k h in
      let c = column_there es ks i j.0 all j.1 in
      ap (λ o. expression_kind kinds (unwrap_or o (Column i))) c.there ∙ c.its ∙ ap Some j.2
  put_kind es ks all (Literal c) k h = h
  put_kind es ks all (Call1 op a) k h =
      let arg = and_then (λ j. call_kind op (j ∷ [])) (expression_kind ks a) k h in
      ap (option_and_then (λ j. call_kind op (j ∷ []))) (put_kind es ks all a arg.0 arg.1) ∙ arg.2
  put_kind es ks all (Call2 op a b) k h =
      let whole = unless (is_division (op_at op)) (is_divisor b) _ k h in
      let args = both_some (λ j l. call_kind op (j ∷ l ∷ [])) (expression_kind ks a) (expression_kind ks b) k whole.0 in
      allowed (is_division (op_at op)) (is_divisor (put_in es b)) _ k
      (both kinds (of_both (λ j l. call_kind op (j ∷ l ∷ []))) (put_kind es ks all a args.0 args.2) (put_kind es ks all b args.1 args.3) ∙ args.4)
      (λ d. divisor_put es b (whole.1 d))
  put_kind es ks all (And a b) k h =
      let parts = truths (expression_kind ks a) (expression_kind ks b) k h in
      both kinds both_truths (put_kind es ks all a kind.Bool parts.0) (put_kind es ks all b kind.Bool parts.1) ∙ ap Some parts.2
  put_kind es ks all (Or a b) k h =
      let parts = truths (expression_kind ks a) (expression_kind ks b) k h in
      both kinds both_truths (put_kind es ks all a kind.Bool parts.0) (put_kind es ks all b kind.Bool parts.1) ∙ ap Some parts.2
  put_kind es ks all (If c a b) k h =
      let parts = choices (expression_kind ks c) (expression_kind ks a) (expression_kind ks b) k h in
      if_kind kinds (put_in es c) (put_in es a) (put_in es b) k (put_kind es ks all c kind.Bool parts.0) (put_kind es ks all a k parts.1) (put_kind es ks all b k parts.2)

-- ---- values

module _ (row : Row) where
  abbrev value_at : PlainExpr → Result Cell Overflow
  value_at e = expression_value e row

  cell_there : (c : Cell) → cell_of_value (value_of_cell c) ≡ c
  cell_there (cell.Int n) = refl
  cell_there (cell.Text t) = refl
  cell_there (cell.Bool b) = refl

  ok_front : (e : PlainExpr) (es : List PlainExpr) (out : Row) → project_row (e ∷ es) row ≡ Ok out
      → (c : Cell) × (rest : Row) × (value_at e ≡ Ok c) × (project_row es row ≡ Ok rest) × (out ≡ value_of_cell c ∷ rest)
  ok_front e es out is = by (value_at e) (project_row es row) refl refl is
    where
      by : (v : Result Cell Overflow) (r : Result Row Overflow) → value_at e ≡ v → project_row es row ≡ r → ((v >>= λ c. Ok (value_of_cell c)) >>= λ x. r >>= λ xs. Ok (x ∷ xs)) ≡ Ok out
          → (c : Cell) × (rest : Row) × (value_at e ≡ Ok c) × (project_row es row ≡ Ok rest) × (out ≡ value_of_cell c ∷ rest)
      by (Err o) r p q h = absurd cc
      by (Ok c) (Err o) p q h = absurd cc
      by (Ok c) (Ok rest) p q h = (c, rest, p, q, (let same : value_of_cell c ∷ rest ≡ out = cc in sym same))

  -- the columns of the lower row are its columns' values
  stands : (es : List PlainExpr) (ks : Kinds) (out : Row) → all_there (map (column_kind_of (map kind_of row)) es) ≡ Some ks → project_row es row ≡ Ok out
      → (i : ℕ) (e : PlainExpr) → slice_get es i ≡ Some e → value_at e ≡ Ok (cell_of_value (column_of out i))
  stands [] ks out all is i e h = absurd cc
  stands (e ∷ es) ks out all is zero f h =
      let front = all_front (column_kind_of (map kind_of row) e) (map (column_kind_of (map kind_of row)) es) ks all in
      let got = ok_front e es out is in
      let same : e ≡ f = cc in
      ap value_at (sym same) ∙ got.2 ∙ ap Ok (sym (cell_there got.0) ∙ ap (λ o. cell_of_value (column_of o 0)) (sym got.4))
  stands (e ∷ es) ks out all is (suc i) f h =
      let front = all_front (column_kind_of (map kind_of row) e) (map (column_kind_of (map kind_of row)) es) ks all in
      let got = ok_front e es out is in
      stands es front.1 got.1 front.3 got.3 i f h ∙ ap (λ o. Ok (cell_of_value (column_of o (suc i)))) (sym got.4)

  pub put_value : (es : List PlainExpr) (ks : Kinds) (out : Row) → all_there (map (column_kind_of (map kind_of row)) es) ≡ Some ks → project_row es row ≡ Ok out
      → (f : PlainExpr) (k : CellKind) → expression_kind ks f ≡ Some k → value_at (put_in es f) ≡ expression_value f out
  put_value es ks out all is (Column i) k h =
      let j = column_some (map kind_of row) (slice_get ks i) k h in
      let c = column_there (map kind_of row) es ks i j.0 all j.1 in
      ap (λ o. value_at (unwrap_or o (Column i))) c.there ∙ stands es ks out all is i c.at c.there
  put_value es ks out all is (Literal c) k h = refl
  put_value es ks out all is (Call1 op a) k h =
      let arg = and_then (λ j. call_kind op (j ∷ [])) (expression_kind ks a) k h in
      ap (λ v. v >>= λ x. meaning op (x ∷ [])) (put_value es ks out all is a arg.0 arg.1)
  put_value es ks out all is (Call2 op a b) k h =
      let whole = unless (is_division (op_at op)) (is_divisor b) _ k h in
      let args = both_some (λ j l. call_kind op (j ∷ l ∷ [])) (expression_kind ks a) (expression_kind ks b) k whole.0 in
      (λ i. put_value es ks out all is a args.0 args.2 i >>= λ x. put_value es ks out all is b args.1 args.3 i >>= λ y. meaning op (x ∷ y ∷ []))
  put_value es ks out all is (And a b) k h =
      let parts = truths (expression_kind ks a) (expression_kind ks b) k h in
      (λ i. put_value es ks out all is a kind.Bool parts.0 i >>= λ c. cond (holds c) (put_value es ks out all is b kind.Bool parts.1 i) (Ok (cell.Bool false)))
  put_value es ks out all is (Or a b) k h =
      let parts = truths (expression_kind ks a) (expression_kind ks b) k h in
      (λ i. put_value es ks out all is a kind.Bool parts.0 i >>= λ c. cond (holds c) (Ok (cell.Bool true)) (put_value es ks out all is b kind.Bool parts.1 i))
  put_value es ks out all is (If c a b) k h =
      let parts = choices (expression_kind ks c) (expression_kind ks a) (expression_kind ks b) k h in
      (λ i. put_value es ks out all is c kind.Bool parts.0 i >>= λ t. cond (holds t) (put_value es ks out all is a k parts.1 i) (put_value es ks out all is b k parts.2 i))

  -- a row of columns over columns
  pub fused_row : (es : List PlainExpr) (ks : Kinds) (out : Row) → all_there (map (column_kind_of (map kind_of row)) es) ≡ Some ks → project_row es row ≡ Ok out
      → (fs : List PlainExpr) (js : Kinds) → all_there (map (column_kind_of ks) fs) ≡ Some js → project_row (map (put_in es) fs) row ≡ project_row fs out
  fused_row es ks out all is [] js typed = refl
  fused_row es ks out all is (f ∷ fs) js typed =
      let front = all_front (column_kind_of ks f) (map (column_kind_of ks) fs) js typed in
      let first = put_value es ks out all is f (cell_kind_of front.0) (kind_of_one (expression_kind ks f) front.0 front.2) in
      let rest = fused_row es ks out all is fs front.1 front.3 in
      (λ i. (first i >>= λ c. Ok (value_of_cell c)) >>= λ x. rest i >>= λ xs. Ok (x ∷ xs))

-- rows of columns over columns
pub fused_rows : (kinds : Kinds) (es : List PlainExpr) (ks : Kinds) → all_there (map (column_kind_of kinds) es) ≡ Some ks → NoneOverflow es
    → (fs : List PlainExpr) (js : Kinds) → all_there (map (column_kind_of ks) fs) ≡ Some js
    → (rows : Rows) → AllByRecursion (λ row. map kind_of row ≡ kinds) rows → (outs : Rows) × (project_rows es rows ≡ Ok outs) × (project_rows (map (put_in es) fs) rows ≡ project_rows fs outs)
fused_rows kinds es ks all none fs js typed [] h = ([], refl, refl)
fused_rows kinds es ks all none fs js typed (row ∷ rows) h =
    let first = row_there es row none in
    let rest = fused_rows kinds es ks all none fs js typed rows h.1 in
    let all_here : all_there (map (column_kind_of (map kind_of row)) es) ≡ Some ks = ap (λ k. all_there (map (column_kind_of k) es)) h.0 ∙ all in
    let fused = fused_row row es ks first.0 all_here first.1 fs js typed in (
      first.0 ∷ rest.0,
      (λ i. first.1 i >>= λ x. rest.1 i >>= λ xs. Ok (x ∷ xs)),
      (λ i. fused i >>= λ x. rest.2 i >>= λ xs. Ok (x ∷ xs)),
    )
