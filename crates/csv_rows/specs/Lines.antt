-- Lines of answers, and which of them begin a result.
use Rattle.std.specs.Prelude.{◌≡◌, ◌⊎◌, ℕ, ◌+◌, ◌^◌, ◌<◌, ◌==◌, false, List, [], ◌∷◌, ◌++◌, codes, decimal, Option, Some}
use Rattle.std.specs.List.{flat_map, AllByRecursion}
use Rattle.csv_script.specs.Blocks.{ended}

-- each line with its LF
abbrev pub lines_text : List (List ℕ) → List ℕ
lines_text lines = flat_map ended lines

-- no LF
abbrev pub IsLine : List ℕ → Type 0
IsLine line = AllByRecursion (λ c. (c == 10) ≡ false) line

-- `rows N`
abbrev pub head_of : ℕ → List ℕ
head_of count = codes "rows " ++ decimal count

abbrev pub IsHead : List ℕ → Type 0
IsHead line = (count : ℕ) × (count < 2 ^ 64) × (line ≡ head_of count)

-- so many of the lines begin a result: no row's line does
abbrev pub HaveHeads : List (List ℕ) → ℕ → Type 0
HaveHeads [] number = number ≡ 0
HaveHeads (line ∷ lines) number =
    ((before : ℕ) × (number ≡ before + 1) × IsHead line × HaveHeads lines before) ⊎ ((IsHead line → ⊥) × HaveHeads lines number)

-- the bytes are this line, with its LF, and what is left
pub record IsNext (bytes line : List ℕ) (left : Option (List ℕ)) : Type 0 where
  pub rest : List ℕ
  pub bytes_are : bytes ≡ ended line ++ rest
  pub is_line : IsLine line
  pub left_is : left ≡ Some rest
