-- Each operation has at most one row of the table for any kinds: lemmas, which the crates above cite.
use Rattle.std.proofs.Common.{◌≡◌, refl, sym, ap, subst, ◌∙◌, ℕ, zero, suc, ◌+◌, Bool, true, false, ◌&&◌, ◌==◌, List, [], ◌∷◌, slice_get, Option, None, Some, arith}
use Rattle.std.proofs.lemmas.Bool.{false≢true, eqb-true, and_from, and_parts}
use Rattle.std.specs.Bool.{Decides}
use Rattle.std.specs.Option.{IsSomeAnd}
use Rattle.std.specs.List.{position, list_all}
use Rattle.std.specs.Cmp.Lexicographic.{pointwise, pointwise_decides}
use Rattle.scalar_ops.specs.declared.cell.CellKind.{CellKind}
use Rattle.scalar_ops.specs.declared.cell.CellKind.TheVariants as kind
use Rattle.scalar_ops.specs.declared.table.Op.{Op}
use Rattle.scalar_ops.specs.declared.table.Op.TheVariants as op
use Rattle.scalar_ops.specs.declared.table.OpRow.{OpRow}
use Rattle.scalar_ops.specs.declared.table.TheConstants.{OPS}
use Rattle.scalar_ops.specs.Cells.{same_cell_kind}
use Rattle.scalar_ops.specs.Table.{kinds_of_args, IsRowFor, same_op, is_row_for}

pub same_cell_kind-Decides : (a b : CellKind) → Decides (same_cell_kind a b) (a ≡ b)
same_cell_kind-Decides kind.Int kind.Int = (λ e. refl, λ e. refl)
same_cell_kind-Decides kind.Text kind.Text = (λ e. refl, λ e. refl)
same_cell_kind-Decides kind.Bool kind.Bool = (λ e. refl, λ e. refl)
same_cell_kind-Decides _ _ = (λ e. absurd (false≢true e), λ e. cc)

pub same_op-Decides : (a b : Op) → Decides (same_op a b) (a ≡ b)
same_op-Decides op.Add op.Add = (λ e. refl, λ e. refl)
same_op-Decides op.Sub op.Sub = (λ e. refl, λ e. refl)
same_op-Decides op.Mul op.Mul = (λ e. refl, λ e. refl)
same_op-Decides op.Neg op.Neg = (λ e. refl, λ e. refl)
same_op-Decides op.Abs op.Abs = (λ e. refl, λ e. refl)
same_op-Decides op.Div op.Div = (λ e. refl, λ e. refl)
same_op-Decides op.Mod op.Mod = (λ e. refl, λ e. refl)
same_op-Decides op.Least op.Least = (λ e. refl, λ e. refl)
same_op-Decides op.Most op.Most = (λ e. refl, λ e. refl)
same_op-Decides op.Eq op.Eq = (λ e. refl, λ e. refl)
same_op-Decides op.Ne op.Ne = (λ e. refl, λ e. refl)
same_op-Decides op.Lt op.Lt = (λ e. refl, λ e. refl)
same_op-Decides op.Le op.Le = (λ e. refl, λ e. refl)
same_op-Decides op.Gt op.Gt = (λ e. refl, λ e. refl)
same_op-Decides op.Ge op.Ge = (λ e. refl, λ e. refl)
same_op-Decides op.Len op.Len = (λ e. refl, λ e. refl)
same_op-Decides op.Starts op.Starts = (λ e. refl, λ e. refl)
same_op-Decides op.Not op.Not = (λ e. refl, λ e. refl)
same_op-Decides _ _ = (λ e. absurd (false≢true e), λ e. cc)

pub list_all-get : {A : Type 0} (p : A → Bool) (xs : List A) (i : ℕ) (x : A) → list_all p xs ≡ true → slice_get xs i ≡ Some x → p x ≡ true
list_all-get p [] i x all e = absurd cc
list_all-get p (y ∷ ys) zero x all e = let same : y ≡ x = cc in subst (λ z. p z ≡ true) same (and_parts (p y) (list_all p ys) all).0
list_all-get p (y ∷ ys) (suc i) x all e = list_all-get p ys i x (and_parts (p y) (list_all p ys) all).1 e

pub is_row_for-Decides : (o : Op) (kinds : List CellKind) (row : OpRow) → Decides (is_row_for o kinds row) (IsRowFor o kinds row)
is_row_for-Decides o kinds row =
    let by_op = same_op-Decides row.op o in
    let by_kinds = pointwise_decides same_cell_kind-Decides (kinds_of_args row.args) kinds in (
      λ e. let parts = and_parts (same_op row.op o) (pointwise same_cell_kind (kinds_of_args row.args) kinds) e in (by_op.0 parts.0, by_kinds.0 parts.1),
      λ f. and_from (same_op row.op o) (pointwise same_cell_kind (kinds_of_args row.args) kinds) (by_op.1 f.0) (by_kinds.1 f.1),
    )

-- ---- the table's own rows

-- the row that the search finds for a row's own operation and kinds
abbrev own_row : OpRow → Option ℕ
own_row row = position (is_row_for row.op (kinds_of_args row.args)) OPS.rows

abbrev is_place : ℕ → Option ℕ → Bool
is_place number None = false
is_place number (Some place) = place == number

place_is : (number : ℕ) (o : Option ℕ) → is_place number o ≡ true → o ≡ Some number
place_is number None e = absurd (false≢true e)
place_is number (Some place) e = ap Some (eqb-true place number e)

-- the rows, counted from this number on, are their own
abbrev are_own : ℕ → List OpRow → Bool
are_own number [] = true
are_own number (row ∷ rows) = is_place number (own_row row) && are_own (suc number) rows

own_rows : are_own 0 OPS.rows ≡ true
own_rows = refl

own_from : (number : ℕ) (rows : List OpRow) (i : ℕ) (row : OpRow) → are_own number rows ≡ true → slice_get rows i ≡ Some row → own_row row ≡ Some (i + number)
own_from number [] i row own there = absurd cc
own_from number (first ∷ rows) zero row own there =
    let same : first ≡ row = cc in
    let here : number ≡ zero + number = omega arith in
    ap own_row (sym same) ∙ place_is number (own_row first) (and_parts _ _ own).0 ∙ ap Some here
own_from number (first ∷ rows) (suc i) row own there =
    let next : i + suc number ≡ suc i + number = omega arith in
    own_from (suc number) rows i row (and_parts (is_place number (own_row first)) _ own).1 there ∙ ap Some next

-- the row with this number is its own
own_at : (i : ℕ) (row : OpRow) → slice_get OPS.rows i ≡ Some row → own_row row ≡ Some i
own_at i row there =
    let same : i + 0 ≡ i = omega arith in
    own_from 0 OPS.rows i row own_rows there ∙ ap Some same

-- a row for an operation and kinds is the first one for them
pub found_row : (o : Op) (kinds : List CellKind) (i : ℕ) → IsSomeAnd (slice_get OPS.rows i) (IsRowFor o kinds)
    → position (is_row_for o kinds) OPS.rows ≡ Some i
found_row o kinds i found = go (slice_get OPS.rows i) refl found
  where
    go : (r : Option OpRow) → slice_get OPS.rows i ≡ r → IsSomeAnd r (IsRowFor o kinds) → position (is_row_for o kinds) OPS.rows ≡ Some i
    go None e f = absurd f
    go (Some row) e f =
        ap (λ (x : Op). position (is_row_for x kinds) OPS.rows) (sym f.0)
        ∙ ap (λ (ks : List CellKind). position (is_row_for row.op ks) OPS.rows) (sym f.1)
        ∙ own_at i row e

pub one_row : (o : Op) (kinds : List CellKind) (i j : ℕ) → IsSomeAnd (slice_get OPS.rows i) (IsRowFor o kinds)
    → IsSomeAnd (slice_get OPS.rows j) (IsRowFor o kinds) → i ≡ j
one_row o kinds i j first second =
    let both : ◌≡◌ {A = Option ℕ} (Some i) (Some j) = sym (found_row o kinds i first) ∙ found_row o kinds j second in
    cc
