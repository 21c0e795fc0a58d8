-- At cells that a program holds, a value is the exact one or an overflow, whatever the row says of overflows; and it is
-- again such a cell. Rows say that they may overflow exactly where they may.
use Rattle.std.proofs.Common.{◌≡◌, ◌^◌, ◌<◌, ◌≤◌, refl, sym, ap, subst, ◌∙◌, ℕ, ℤ, pos, negsuc, Bool, true, false, not, cond, nat_lt, List, [], ◌∷◌, length, All, Option, None, Some, Result, Ok, Err, FitsSigned, w64, arith}
use Rattle.std.specs.Prelude.{unwrap_or, int_lt, ◌-◌, ◌&&◌, drop}
use Rattle.std.specs.List.{list_all}
use Rattle.std.specs.Option.{option_map}
use Rattle.std.proofs.lemmas.Bool.{false≢true, not-true, and_parts}
use Rattle.std.proofs.lemmas.Int.{ints}
use Rattle.std.proofs.Math.Bool.{beq}
use Rattle.std.specs.Cmp.{booleans_Decides}
use Rattle.std.proofs.lemmas.Bool.Decides.{nat_tests}
use Rattle.std.proofs.lemmas.List.Elements.{All-nil, All-cons}
use Rattle.rows_core.specs.declared.overflow.Overflow.{Overflow}
use Rattle.scalar_ops.specs.declared.cell.Cell.{Cell}
use Rattle.scalar_ops.specs.declared.cell.Cell.TheVariants as cell
use Rattle.scalar_ops.specs.declared.cell.CellKind.TheVariants as kind
use Rattle.scalar_ops.specs.declared.table.Op.{Op}
use Rattle.scalar_ops.specs.declared.table.Op.TheVariants as op
use Rattle.scalar_ops.specs.declared.table.OpRow.{OpRow}
use Rattle.scalar_ops.specs.declared.table.TheConstants.{OPS}
use Rattle.scalar_ops.specs.Cells.{IsCell, AreCells}
use Rattle.scalar_ops.specs.Division.{floor_mod, IsRest}
use Rattle.scalar_ops.specs.Meaning.{Exact, Whole, Truth, exact_value, fits_i64, overflow, cell_of, exact_cell, row_at, op_at, overflows_at, meaning, Divides, MayOverflow, SaysSo}
use Rattle.scalar_ops.proofs.FitsI64.{fits_i64-true, fits_i64-fits}
use Rattle.scalar_ops.specs.Table.{one, two, stated_rows}
use Rattle.scalar_ops.proofs.RowLaws.{list_all-get}
use Rattle.scalar_ops.proofs.Rounding.{floor_mod-IsRest}

-- ---- operations that don't overflow

abbrev can_overflow : Op → Bool
can_overflow op.Add = true
can_overflow op.Sub = true
can_overflow op.Mul = true
can_overflow op.Neg = true
can_overflow op.Abs = true
can_overflow op.Div = true
can_overflow _ = false

abbrev exact_fits : Exact → Bool
exact_fits (Whole z) = fits_i64 z
exact_fits (Truth b) = true

-- what is left lies between 0 and the divisor
rest_fits : (b rest : ℤ) → FitsSigned w64 b → IsRest b rest → fits_i64 rest ≡ true
rest_fits (pos b) (pos rest) fits between =
    let below : rest < b = omega (arith, ints, between.1) in
    fits_i64-fits (pos rest) (record { sfits = omega (arith, fits.sfits) })
rest_fits (pos b) (negsuc rest) fits between = absurd (omega (arith, ints, between.0))
rest_fits (negsuc b) (pos rest) fits between =
    let none : rest ≡ 0 = omega (arith, ints, between.1) in
    fits_i64-fits (pos rest) (record { sfits = omega (arith, fits.sfits) })
rest_fits (negsuc b) (negsuc rest) fits between =
    let below : rest < b = omega (arith, ints, between.0) in
    fits_i64-fits (negsuc rest) (record { sfits = omega (arith, fits.sfits) })

either_fits : (t : Bool) (a b : ℤ) → FitsSigned w64 a → FitsSigned w64 b → fits_i64 (cond t a b) ≡ true
either_fits true a b in_a in_b = fits_i64-fits a in_a
either_fits false a b in_a in_b = fits_i64-fits b in_b

len_fits : (t : List ℕ) → length t ≤ 1000 → nat_lt (length t) (2 ^ 63) ≡ true
len_fits t short = let below : length t < 2 ^ 63 = omega arith in grind (arith, nat_tests)

in_i64 : (o : Op) (cells : List Cell) → can_overflow o ≡ false → AreCells cells → Divides o cells → exact_fits (exact_value o cells) ≡ true
in_i64 op.Add cells never all divides = absurd (false≢true (sym never))
in_i64 op.Sub cells never all divides = absurd (false≢true (sym never))
in_i64 op.Mul cells never all divides = absurd (false≢true (sym never))
in_i64 op.Neg cells never all divides = absurd (false≢true (sym never))
in_i64 op.Abs cells never all divides = absurd (false≢true (sym never))
in_i64 op.Div cells never all divides = absurd (false≢true (sym never))
in_i64 op.Mod (cell.Int a ∷ cell.Int b ∷ []) never all divides = rest_fits b (floor_mod a b) all.1.0 (floor_mod-IsRest a b divides)
in_i64 op.Least (cell.Int a ∷ cell.Int b ∷ []) never all divides = either_fits (int_lt b a) b a all.1.0 all.0
in_i64 op.Most (cell.Int a ∷ cell.Int b ∷ []) never all divides = either_fits (int_lt b a) a b all.0 all.1.0
in_i64 op.Least (cell.Bool a ∷ cell.Bool b ∷ []) never all divides = refl
in_i64 op.Most (cell.Bool a ∷ cell.Bool b ∷ []) never all divides = refl
in_i64 op.Len (cell.Text t ∷ []) never all divides = len_fits t all.0.1
in_i64 op.Eq (a ∷ b ∷ []) never all divides = refl
in_i64 op.Ne (a ∷ b ∷ []) never all divides = refl
in_i64 op.Lt (a ∷ b ∷ []) never all divides = refl
in_i64 op.Le (a ∷ b ∷ []) never all divides = refl
in_i64 op.Gt (a ∷ b ∷ []) never all divides = refl
in_i64 op.Ge (a ∷ b ∷ []) never all divides = refl
in_i64 op.Starts (cell.Text t ∷ cell.Text start ∷ []) never all divides = refl
in_i64 op.Not (cell.Bool b ∷ []) never all divides = refl
in_i64 _ _ never all divides = refl

cell_of-fits : (value : Exact) → exact_fits value ≡ true → cell_of value ≡ Ok (exact_cell value)
cell_of-fits (Whole z) fits = ap (λ (t : Bool). cond t (Ok (cell.Int z)) (Err overflow)) fits
cell_of-fits (Truth b) fits = refl

-- ---- rows that say so

abbrev says_so : OpRow → Bool
says_so row = beq row.overflows (can_overflow row.op)

all_say_so : list_all says_so OPS.rows ≡ true
all_say_so = refl

says : (row : ℕ) → overflows_at row ≡ can_overflow (op_at row)
says row = go (row_at row) refl
  where
    go : (o : Option OpRow) → row_at row ≡ o → unwrap_or (option_map (λ r. r.overflows) o) false ≡ can_overflow (unwrap_or (option_map (λ r. r.op) o) op.Not)
    go None e = refl
    go (Some r) e = (booleans_Decides r.overflows (can_overflow r.op)).0 (list_all-get says_so OPS.rows row r all_say_so e)

pub meaning-exact : (row : ℕ) (cells : List Cell) → AreCells cells → Divides (op_at row) cells → meaning row cells ≡ cell_of (exact_value (op_at row) cells)
meaning-exact row cells all divides = go (overflows_at row) refl
  where
    go : (may : Bool) → overflows_at row ≡ may
        → cond may (cell_of (exact_value (op_at row) cells)) (Ok (exact_cell (exact_value (op_at row) cells))) ≡ cell_of (exact_value (op_at row) cells)
    go true e = refl
    go false e = sym (cell_of-fits (exact_value (op_at row) cells) (in_i64 (op_at row) cells (sym (says row) ∙ e) all divides))

cell_of-IsCell : (value : Exact) (c : Cell) → cell_of value ≡ Ok c → IsCell c
cell_of-IsCell (Whole z) c e = go (fits_i64 z) refl e
  where
    go : (fits : Bool) → fits_i64 z ≡ fits → cond fits (Ok (cell.Int z)) (Err overflow) ≡ Ok c → IsCell c
    go true fits h = let same : cell.Int z ≡ c = cc in subst IsCell same (fits_i64-true z fits)
    go false fits h = absurd cc
cell_of-IsCell (Truth b) c e = let same : cell.Bool b ≡ c = cc in subst IsCell same tt

pub meaning-IsCell : (row : ℕ) (cells : List Cell) (c : Cell) → AreCells cells → Divides (op_at row) cells → meaning row cells ≡ Ok c → IsCell c
meaning-IsCell row cells c all divides is =
    cell_of-IsCell (exact_value (op_at row) cells) c (sym (meaning-exact row cells all divides) ∙ is)

-- ---- the table

never : (row : OpRow) → can_overflow row.op ≡ false → MayOverflow row → ⊥
never row calm may =
    let fine = cell_of-fits (exact_value row.op may.cells) (in_i64 row.op may.cells calm may.each may.divides) in
    let both : ◌≡◌ {A = Result Cell Overflow} (Ok (exact_cell (exact_value row.op may.cells))) (Err overflow) = sym fine ∙ may.outside in
    cc

abbrev is_silent : OpRow → Bool
is_silent row = not row.overflows && not (can_overflow row.op)

silent : (row : OpRow) → is_silent row ≡ true → SaysSo row
silent row e =
    let parts = and_parts (not row.overflows) (not (can_overflow row.op)) e in
    (λ on. absurd (false≢true (sym (not-true row.overflows parts.0) ∙ on)), λ may. absurd (never row (not-true (can_overflow row.op) parts.1) may))

loud : (row : OpRow) (rows : List OpRow) → row.overflows ≡ true → MayOverflow row → All SaysSo rows → All SaysSo (row ∷ rows)
loud row rows on may others = All-cons SaysSo row rows (λ _. may, λ _. on) others

all_silent : (rows : List OpRow) → list_all is_silent rows ≡ true → All SaysSo rows
all_silent [] e = All-nil SaysSo
all_silent (row ∷ rows) e =
    let parts = and_parts (is_silent row) (list_all is_silent rows) e in
    All-cons SaysSo row rows (silent row parts.0) (all_silent rows parts.1)

abbrev least : ℤ
least = negsuc (2 ^ 63 - 1)

abbrev greatest : ℤ
greatest = pos (2 ^ 63 - 1)

least_fits : FitsSigned w64 least
least_fits = fits_i64-true least refl

greatest_fits : FitsSigned w64 greatest
greatest_fits = fits_i64-true greatest refl

twice : (o : Op) → cell_of (exact_value o (cell.Int greatest ∷ cell.Int greatest ∷ [])) ≡ Err overflow → Divides o (cell.Int greatest ∷ cell.Int greatest ∷ [])
    → MayOverflow (two o kind.Int kind.Int kind.Int true)
twice o outside divides =
    record { cells = cell.Int greatest ∷ cell.Int greatest ∷ []; each = (greatest_fits, (greatest_fits, tt)); kinds = refl; divides = divides; outside = outside }

once : (o : Op) → cell_of (exact_value o (cell.Int least ∷ [])) ≡ Err overflow → Divides o (cell.Int least ∷ []) → MayOverflow (one o kind.Int kind.Int true)
once o outside divides = record { cells = cell.Int least ∷ []; each = (least_fits, tt); kinds = refl; divides = divides; outside = outside }

below : MayOverflow (two op.Sub kind.Int kind.Int kind.Int true)
below =
    record { cells = cell.Int least ∷ cell.Int greatest ∷ []; each = (least_fits, (greatest_fits, tt)); kinds = refl; divides = tt; outside = refl }

by_minus_one : MayOverflow (two op.Div kind.Int kind.Int kind.Int true)
by_minus_one =
    record { cells = cell.Int least ∷ cell.Int (negsuc 0) ∷ []; each = (least_fits, (fits_i64-true (negsuc 0) refl, tt)); kinds = refl; divides = (λ e. cc); outside = refl }

pub all_say : All SaysSo stated_rows
all_say =
    loud (two op.Add kind.Int kind.Int kind.Int true) (drop 1 stated_rows) refl (twice op.Add refl tt)
    (loud (two op.Sub kind.Int kind.Int kind.Int true) (drop 2 stated_rows) refl below
    (loud (two op.Mul kind.Int kind.Int kind.Int true) (drop 3 stated_rows) refl (twice op.Mul refl tt)
    (loud (one op.Neg kind.Int kind.Int true) (drop 4 stated_rows) refl (once op.Neg refl tt)
    (loud (one op.Abs kind.Int kind.Int true) (drop 5 stated_rows) refl (once op.Abs refl tt)
    (loud (two op.Div kind.Int kind.Int kind.Int true) (drop 6 stated_rows) refl by_minus_one
    (all_silent (drop 6 stated_rows) refl))))))
