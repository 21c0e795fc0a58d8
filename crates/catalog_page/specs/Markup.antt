-- Pieces of a page and their bytes: markup stands as it is, a text has entities in place of what HTML gives a meaning, and a
-- number is in decimal.
use Rattle.std.specs.Prelude.{ℕ, List, [], ◌∷◌, ◌==◌, codes, decimal, if◌then◌else◌}
use Rattle.std.specs.List.{flat_map}
use Rattle.catalog_page.specs.declared.fragment.Fragment.{Fragment}
use Rattle.catalog_page.specs.declared.markup.Piece as code
use Rattle.catalog_page.specs.declared.markup.Piece.TheVariants as code_piece
use Rattle.catalog_page.specs.Fragments.{fragment_text}

-- a fragment of markup, a text from outside, or a number
pub data Piece : Type 0 where
  Markup : Fragment → Piece
  Shown : List ℕ → Piece
  Count : ℕ → Piece

-- the byte as text of HTML: `&`, `<`, `>`, `"` and `'` by the entities that the HTML standard names for them
abbrev pub escaped_byte : ℕ → List ℕ
escaped_byte b =
    if b == 38 then codes "&amp;"
    else if b == 60 then codes "&lt;"
    else if b == 62 then codes "&gt;"
    else if b == 34 then codes "&quot;"
    else if b == 39 then codes "&apos;"
    else b ∷ []

abbrev pub escaped : List ℕ → List ℕ
escaped = flat_map escaped_byte

abbrev pub piece_bytes : Piece → List ℕ
piece_bytes (Markup fragment) = fragment_text fragment
piece_bytes (Shown text) = escaped text
piece_bytes (Count n) = decimal n

-- one behind the other
unfoldable pub written : List Piece → List ℕ
written = flat_map piece_bytes

-- what a piece of the code stands for
abbrev pub piece_of : code.Piece → Piece
piece_of (code_piece.Markup fragment) = Markup fragment
piece_of (code_piece.Shown text) = Shown text.now
piece_of (code_piece.Count n) = Count n
