-- Blocks, as lines are taken and blocks are written.
use Rattle.std.proofs.Common.{◌≡◌, ℕ, ◌+◌, ◌<◌, ◌≤◌, List, [], ◌∷◌, ◌++◌, length, Option, Result, Ok, Err, refl, sym, ap, ◌∙◌, subst, arith, append_assoc, append-nil, length-append}
use Rattle.std.proofs.KnownBytes.{Appends-nil, Appends-trans}
use Rattle.std.proofs.lemmas.Grind.{flat_map-append}
use Rattle.std.specs.Io.KnownBytes.{Appends}
use Rattle.std.specs.List.{flat_map, AllByRecursion}
use Rattle.std.specs.Result.{OnOk}
use Rattle.rows_core.specs.declared.kind.Kind.{Kind}
use Rattle.rows_core.specs.declared.value.Value.{Value}
use Rattle.row_text.specs.RowSpelling.{row_spelling}
use Rattle.csv_script.specs.Blocks.{block_text, block_with, blocks_text, joined, most_block_bytes, row_line, row_lines, IsBlock, IsBlocked, IsStreamRow, IsWritten}

pub on_ok : {T E P Q : Type 0} (r : Result T E) → (P → Q) → OnOk r P → OnOk r Q
on_ok (Ok x) f p = f p
on_ok (Err e) f p = tt

pub all-more : {A : Type 0} (P : A → Type 0) (xs : List A) (x : A) → AllByRecursion P xs → P x → AllByRecursion P (xs ++ x ∷ [])
all-more P [] x all p = (p, tt)
all-more P (y ∷ ys) x all p = (all.0, all-more P ys x all.1 p)

-- each piece in turn, and one more
pub flat_map-more : {A B : Type 0} (f : A → List B) (xs : List A) (x : A) → flat_map f (xs ++ x ∷ []) ≡ flat_map f xs ++ f x
flat_map-more f xs x = flat_map-append f xs (x ∷ []) ∙ ap (λ m. flat_map f xs ++ m) (append-nil (f x))

module _ (kinds : List Kind) (name : List ℕ) (before : Option (List ℕ)) where
  -- nothing was taken
  pub IsBlocked-none : IsBlocked kinds name before before [] []
  IsBlocked-none = record { blocks = []; open_rows = []; rows_are = refl; all = tt; all_open = tt; small = omega arith; lines_are = refl; wrote = Appends-nil before }

  -- a row's line was taken into the open block
  pub IsBlocked-taken : (now : Option (List ℕ)) (lines line : List ℕ) (rows : List (List Value)) (row : List Value) → IsBlocked kinds name before now lines rows → IsStreamRow kinds row
      → line ≡ row_line row → length (lines ++ line) ≤ most_block_bytes → IsBlocked kinds name before now (lines ++ line) (rows ++ row ∷ [])
  IsBlocked-taken now lines line rows row is row_is line_is small = record {
    blocks = is.blocks;
    open_rows = is.open_rows ++ row ∷ [];
    rows_are = ap (λ r. r ++ row ∷ []) is.rows_are ∙ append_assoc (joined is.blocks) is.open_rows (row ∷ []);
    all = is.all;
    all_open = all-more (IsStreamRow kinds) is.open_rows row is.all_open row_is;
    small = small;
    lines_are = ap (λ l. l ++ line) is.lines_are ∙ ap (λ l. row_lines is.open_rows ++ l) line_is ∙ sym (flat_map-more row_line is.open_rows row);
    wrote = is.wrote;
  }

  some_row : (rows : List (List Value)) → 0 < length (row_lines rows) → 0 < length rows
  some_row [] some = absurd (omega (arith, some))
  some_row (row ∷ rows) some = omega arith

  one_block : (now later : Option (List ℕ)) (lines : List ℕ) (rows : List (List Value)) (is : IsBlocked kinds name before now lines rows) → 0 < length lines → Appends now later (block_with name lines)
      → IsBlock kinds is.open_rows × (rows ≡ joined (is.blocks ++ is.open_rows ∷ [])) × Appends before later (blocks_text name (is.blocks ++ is.open_rows ∷ []))
  one_block now later lines rows is some wrote = (
    record { some = some_row is.open_rows (subst (λ l. 0 < length l) is.lines_are some); all = is.all_open; small = subst (λ l. length l ≤ most_block_bytes) is.lines_are is.small },
    is.rows_are ∙ sym (flat_map-more (λ r. r) is.blocks is.open_rows),
    subst (Appends before later) (sym (flat_map-more (block_text name) is.blocks is.open_rows))
        (Appends-trans before now later (blocks_text name is.blocks) (block_text name is.open_rows) is.wrote (subst (λ l. Appends now later (block_with name l)) is.lines_are wrote)),
  )

  -- the open block was written, and a new one begins
  pub IsBlocked-written : (now later : Option (List ℕ)) (lines : List ℕ) (rows : List (List Value)) → IsBlocked kinds name before now lines rows → 0 < length lines → Appends now later (block_with name lines)
      → IsBlocked kinds name before later [] rows
  IsBlocked-written now later lines rows is some wrote =
      let one = one_block now later lines rows is some wrote in
      record {
        blocks = is.blocks ++ is.open_rows ∷ [];
        open_rows = [];
        rows_are = one.1 ∙ sym (append-nil (joined (is.blocks ++ is.open_rows ∷ [])));
        all = all-more (IsBlock kinds) is.blocks is.open_rows is.all one.0;
        all_open = tt;
        small = omega arith;
        lines_are = refl;
        wrote = one.2;
      }

  -- the open block was written
  pub IsWritten-last : (now later : Option (List ℕ)) (lines : List ℕ) (rows : List (List Value)) → IsBlocked kinds name before now lines rows → 0 < length lines → Appends now later (block_with name lines)
      → IsWritten kinds name before later rows
  IsWritten-last now later lines rows is some wrote =
      let one = one_block now later lines rows is some wrote in
      record { blocks = is.blocks ++ is.open_rows ∷ []; rows_are = one.1; all = all-more (IsBlock kinds) is.blocks is.open_rows is.all one.0; wrote = one.2 }

  no_row : (rows : List (List Value)) → length (row_lines rows) ≡ 0 → rows ≡ []
  no_row [] none = refl
  no_row (row ∷ rows) none = absurd (omega (arith, none, length-append (row_line row) (row_lines rows), line_some row))
    where
      line_some : (row : List Value) → 0 < length (row_line row)
      line_some row = omega (arith, length-append (row_spelling row) (10 ∷ []))

  -- no block is open
  pub IsWritten-none : (now : Option (List ℕ)) (lines : List ℕ) (rows : List (List Value)) → IsBlocked kinds name before now lines rows → length lines ≡ 0 → IsWritten kinds name before now rows
  IsWritten-none now lines rows is none =
      let no_open = no_row is.open_rows (ap length (sym is.lines_are) ∙ none) in
      record { blocks = is.blocks; rows_are = is.rows_are ∙ ap (λ r. joined is.blocks ++ r) no_open ∙ append-nil (joined is.blocks); all = is.all; wrote = is.wrote }
