-- That escaped texts hold no markup, and are read back.
use Rattle.std.proofs.Common.{◌≡◌, ◌∙◌, refl, ap, subst, ℕ, ◌+◌, ◌<◌, ◌≤◌, ◌^◌, ◌%◌, Bool, true, false, ◌==◌, if◌then◌else◌, List, [], ◌∷◌, ◌++◌, codes, decimal, arith}
use Rattle.std.specs.List.{filter, flat_map, AllByRecursion}
use Rattle.std.proofs.lemmas.Bool.Decides.{nat_tests, Decides-eqb, not_from_Decides}
use Rattle.std.proofs.lemmas.Fmt.{decimal_by_steps_wide}
use Rattle.std.proofs.lemmas.List.Elements.{filter-append}
use Rattle.catalog_page.specs.Escape.{is_markup, own_markup, IsShort, IsReadAs, ended, itself, ampersand, less, greater, quote, apostrophe}
use Rattle.catalog_page.specs.Markup.{Piece, Markup, Shown, Count, escaped_byte, escaped, piece_bytes, written}

-- ---- bytes

byte_of : (b : ℕ) (t a g q s : Bool) → (b == 60) ≡ a → (b == 62) ≡ g → (b == 34) ≡ q → (b == 39) ≡ s
    → filter is_markup (if t then codes "&amp;" else if a then codes "&lt;" else if g then codes "&gt;" else if q then codes "&quot;"
    else if s then codes "&apos;" else b ∷ []) ≡ []
byte_of b true a g q s e f h i = refl
byte_of b false true g q s e f h i = refl
byte_of b false false true q s e f h i = refl
byte_of b false false false true s e f h i = refl
byte_of b false false false false true e f h i = refl
byte_of b false false false false false e f h i = rw (e, f, h, i) refl

byte-plain : (b : ℕ) → filter is_markup (escaped_byte b) ≡ []
byte-plain b = byte_of b (b == 38) (b == 60) (b == 62) (b == 34) (b == 39) refl refl refl refl

-- ---- texts and numbers

pub escaped-plain : (text : List ℕ) → filter is_markup (escaped text) ≡ []
escaped-plain [] = refl
escaped-plain (b ∷ text) =
    filter-append is_markup (escaped_byte b) (escaped text)
    ∙ ap (λ (l : List ℕ). l ++ filter is_markup (escaped text)) (byte-plain b) ∙ escaped-plain text

digit-plain : (d : ℕ) → 48 ≤ d → d ≤ 57 → filter is_markup (d ∷ []) ≡ []
digit-plain d low high =
    let a : (d == 60) ≡ false = grind (arith, nat_tests) in
    let g : (d == 62) ≡ false = grind (arith, nat_tests) in
    let q : (d == 34) ≡ false = grind (arith, nat_tests) in
    let s : (d == 39) ≡ false = grind (arith, nat_tests) in
    rw (a, g, q, s) refl

decimal-plain : (n : ℕ) → n < 10 ^ 64 → filter is_markup (decimal n) ≡ []
decimal-plain n short =
    decimal_by_steps_wide (λ m ds. filter is_markup ds ≡ []) (λ m l. digit-plain (48 + m) (omega arith) (omega arith))
    (λ m ds l h. filter-append is_markup ds ((48 + m % 10) ∷ []) ∙ ap (λ (l : List ℕ). l ++ filter is_markup ((48 + m % 10) ∷ [])) h
    ∙ digit-plain (48 + m % 10) (omega arith) (omega arith)) n short

piece-plain : (p : Piece) → IsShort p → filter is_markup (piece_bytes p) ≡ own_markup p
piece-plain (Markup fragment) short = refl
piece-plain (Shown text) short = escaped-plain text
piece-plain (Count n) short = decimal-plain n short

pub written-markup : (ps : List Piece) → AllByRecursion IsShort ps → filter is_markup (written ps) ≡ flat_map own_markup ps
unfolding written
written-markup [] short = refl
written-markup (p ∷ ps) short =
    filter-append is_markup (piece_bytes p) (written ps)
    ∙ ap (λ (l : List ℕ). l ++ filter is_markup (written ps)) (piece-plain p short.0)
    ∙ ap (λ (l : List ℕ). own_markup p ++ l) (written-markup ps short.1)

-- ---- reading

read_byte : (b : ℕ) (t a g q s : Bool) (html text : List ℕ) → (b == 38) ≡ t → (b == 60) ≡ a → (b == 62) ≡ g → (b == 34) ≡ q → (b == 39) ≡ s
    → IsReadAs html text
    → IsReadAs ((if t then codes "&amp;" else if a then codes "&lt;" else if g then codes "&gt;" else if q then codes "&quot;"
    else if s then codes "&apos;" else b ∷ []) ++ html) (b ∷ text)
read_byte b true a g q s html text d e f h i rest =
    let is : 38 ≡ b = grind (arith, nat_tests) in subst (λ (n : ℕ). IsReadAs (codes "&amp;" ++ html) (n ∷ text)) is (ampersand html text rest)
read_byte b false true g q s html text d e f h i rest =
    let is : 60 ≡ b = grind (arith, nat_tests) in subst (λ (n : ℕ). IsReadAs (codes "&lt;" ++ html) (n ∷ text)) is (less html text rest)
read_byte b false false true q s html text d e f h i rest =
    let is : 62 ≡ b = grind (arith, nat_tests) in subst (λ (n : ℕ). IsReadAs (codes "&gt;" ++ html) (n ∷ text)) is (greater html text rest)
read_byte b false false false true s html text d e f h i rest =
    let is : 34 ≡ b = grind (arith, nat_tests) in subst (λ (n : ℕ). IsReadAs (codes "&quot;" ++ html) (n ∷ text)) is (quote html text rest)
read_byte b false false false false true html text d e f h i rest =
    let is : 39 ≡ b = grind (arith, nat_tests) in subst (λ (n : ℕ). IsReadAs (codes "&apos;" ++ html) (n ∷ text)) is (apostrophe html text rest)
read_byte b false false false false false html text d e f h i rest =
    itself b html text (not_from_Decides (b == 38) (Decides-eqb b 38) d) (not_from_Decides (b == 60) (Decides-eqb b 60) e) rest

pub escaped-is_read : (text : List ℕ) → IsReadAs (escaped text) text
escaped-is_read [] = ended
escaped-is_read (b ∷ text) =
    read_byte b (b == 38) (b == 60) (b == 62) (b == 34) (b == 39) (escaped text) text refl refl refl refl refl (escaped-is_read text)
