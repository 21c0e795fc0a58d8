-- What the reader keeps of the line that it reads.
use Rattle.std.specs.Prelude.{◌≡◌, ℕ, ◌-◌, ◌^◌, ◌<◌, ◌≤◌, min, Bool, true, false, List, [], ◌∷◌, ◌++◌, length}
use Rattle.script_text.specs.Words.{trimmed}
use Rattle.script_text.specs.Script.{longest_line}

-- what counts of a line: outside of a block, not the spaces at its front
abbrev pub kept : Bool → List ℕ → List ℕ
kept true bytes = trimmed bytes
kept false bytes = bytes

-- what the next bytes add to a line of which this much counts
abbrev pub counted : Bool → List ℕ → List ℕ → List ℕ
counted false text piece = piece
counted true [] piece = trimmed piece
counted true (c ∷ cs) piece = piece

-- the text is what counts of the line, or as many bytes of it from the front as a line may have, and len is the
-- line's length, up to the greatest u64
pub record Holds (outside : Bool) (text : List ℕ) (len : ℕ) (bytes : List ℕ) : Type 0 where
  pub len_is : len ≡ min (length bytes) (2 ^ 64 - 1)
  pub rest : List ℕ
  pub front : kept outside bytes ≡ text ++ rest
  pub full : 0 < length rest → longest_line ≤ length text
