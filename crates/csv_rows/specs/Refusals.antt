-- Why no whole result was written.
use Rattle.std.specs.Prelude.{◌≡◌, ◌⊎◌, ℕ, ◌+◌, ◌<◌, ◌≤◌, List, ◌++◌, length, map, ⊤}
use Rattle.std.specs.List.{AllByRecursion}
use Rattle.rows_core.specs.declared.value.Value.{Value}
use Rattle.row_text.specs.RowSpelling.{row_spelling, IsLoose}
use Rattle.csv_script.specs.Blocks.{ended}
use Rattle.csv_rows.specs.Lines.{head_of, lines_text, HaveHeads, IsLine}
use Rattle.csv_rows.specs.declared.lines.RowsRefusal.{RowsRefusal}
use Rattle.csv_rows.specs.declared.lines.RowsRefusal.TheVariants as refusal

-- fewer lines than this number begin a result, of all that are ended; or the number is 0
pub record HasNoResult (bytes : List ℕ) (number : ℕ) : Type 0 where
  pub lines : List (List ℕ)
  pub results : ℕ
  pub rest : List ℕ
  pub bytes_are : bytes ≡ lines_text lines ++ rest
  pub are_lines : AllByRecursion IsLine lines
  pub unended : IsLine rest
  pub heads : HaveHeads lines results
  pub few : (number ≡ 0) ⊎ (results < number)

-- the bytes begin with the lines of these rows
pub record Begins (bytes : List ℕ) (rows : List (List Value)) (rest : List ℕ) : Type 0 where
  pub loose : AllByRecursion (AllByRecursion IsLoose) rows
  pub bytes_are : bytes ≡ lines_text (map row_spelling rows) ++ rest

-- of so many rows some stand at the front, and no line behind them is ended
pub record IsCut (bytes : List ℕ) (count : ℕ) : Type 0 where
  pub rows : List (List Value)
  pub rest : List ℕ
  pub begins : Begins bytes rows rest
  pub fewer : length rows < count
  pub unended : IsLine rest

-- the row of this number, counted from 1, is one of so many, and those before it stand at the front
pub record IsAtRow (bytes : List ℕ) (count number : ℕ) : Type 0 where
  pub rows : List (List Value)
  pub rest : List ℕ
  pub begins : Begins bytes rows rest
  pub number_is : number ≡ length rows + 1
  pub within : number ≤ count

-- a read, a write or the asking for memory failed
abbrev pub HasFailed : RowsRefusal → Type 0
HasFailed refusal.Input = ⊤
HasFailed refusal.Output = ⊤
HasFailed refusal.Memory = ⊤
HasFailed refusal.NoResult = ⊥
HasFailed refusal.Cut = ⊥
HasFailed (refusal.NotRow number) = ⊥
HasFailed (refusal.Width number) = ⊥

-- why the record of this number wasn't written
abbrev pub IsForRecord : ℕ → RowsRefusal → Type 0
IsForRecord number (refusal.Width at) = at ≡ number
IsForRecord number why = HasFailed why

-- why so many rows weren't written, of which the lines stand at the front of the bytes
abbrev pub AreUnwritten : List ℕ → ℕ → RowsRefusal → Type 0
AreUnwritten bytes count refusal.Cut = IsCut bytes count
AreUnwritten bytes count (refusal.NotRow number) = IsAtRow bytes count number
AreUnwritten bytes count (refusal.Width number) = IsAtRow bytes count number
AreUnwritten bytes count why = HasFailed why

-- behind lines before it, of which so many begin a result, stand the head of the result of this number and its rows
pub record IsBehind (P : List ℕ → ℕ → Type 0) (bytes : List ℕ) (number : ℕ) : Type 0 where
  pub lines : List (List ℕ)
  pub results : ℕ
  pub count : ℕ
  pub rest : List ℕ
  pub bytes_are : bytes ≡ lines_text lines ++ (ended (head_of count) ++ rest)
  pub are_lines : AllByRecursion IsLine lines
  pub number_is : number ≡ results + 1
  pub heads : HaveHeads lines results
  pub holds : P rest count

-- why the result of this number wasn't written: there is none, its rows end too soon, or the row of this number, or the
-- header (0), is refused; or else a read, a write or the asking for memory failed
abbrev pub IsRefusedFor : List ℕ → ℕ → RowsRefusal → Type 0
IsRefusedFor bytes number refusal.NoResult = HasNoResult bytes number
IsRefusedFor bytes number refusal.Cut = IsBehind IsCut bytes number
IsRefusedFor bytes number (refusal.NotRow at) = IsBehind (λ rest count. IsAtRow rest count at) bytes number
IsRefusedFor bytes number (refusal.Width at) = (at ≡ 0) ⊎ IsBehind (λ rest count. IsAtRow rest count at) bytes number
IsRefusedFor bytes number why = HasFailed why
