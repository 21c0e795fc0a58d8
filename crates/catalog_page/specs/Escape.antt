-- What a page that is read as HTML owes to its markup alone.
use Rattle.std.specs.Prelude.{◌≢◌, ℕ, ◌^◌, ◌<◌, ◌==◌, ◌||◌, Bool, List, [], ◌∷◌, ◌++◌, codes}
use Rattle.std.specs.List.{filter}
use Rattle.catalog_page.specs.Fragments.{fragment_text}
use Rattle.catalog_page.specs.Markup.{Piece, Markup, Shown, Count}

-- the bytes that begin and end tags and values of attributes: `<`, `>`, `"` and `'`
abbrev pub is_markup : ℕ → Bool
is_markup b = b == 60 || b == 62 || b == 34 || b == 39

-- those of a piece's own markup
abbrev pub own_markup : Piece → List ℕ
own_markup (Markup fragment) = filter is_markup (fragment_text fragment)
own_markup (Shown text) = []
own_markup (Count n) = []

-- a number that the page may show: the greatest has 39 digits
abbrev pub IsShort : Piece → Type 0
IsShort (Count n) = n < 10 ^ 64
IsShort (Markup fragment) = Unit {0}
IsShort (Shown text) = Unit {0}

-- How HTML reads bytes outside of tags as a text: each of five references stands for a byte, and any other byte but `&` and
-- `<` for itself (HTML standard, tokenization of data and of character references).
pub data IsReadAs : List ℕ → List ℕ → Type 0 where
  ended : IsReadAs [] []
  itself : (b : ℕ) (html text : List ℕ) → b ≢ 38 → b ≢ 60 → IsReadAs html text → IsReadAs (b ∷ html) (b ∷ text)
  ampersand : (html text : List ℕ) → IsReadAs html text → IsReadAs (codes "&amp;" ++ html) (38 ∷ text)
  less : (html text : List ℕ) → IsReadAs html text → IsReadAs (codes "&lt;" ++ html) (60 ∷ text)
  greater : (html text : List ℕ) → IsReadAs html text → IsReadAs (codes "&gt;" ++ html) (62 ∷ text)
  quote : (html text : List ℕ) → IsReadAs html text → IsReadAs (codes "&quot;" ++ html) (34 ∷ text)
  apostrophe : (html text : List ℕ) → IsReadAs html text → IsReadAs (codes "&apos;" ++ html) (39 ∷ text)
