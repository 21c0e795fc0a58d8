-- The tokens of a plan's text: words, numbers, texts and marks.
use Rattle.std.specs.Prelude.{◌≡◌, ℕ, ◌+◌, ◌-◌, ◌*◌, Bool, false, ◌&&◌, ◌||◌, ◌==◌, not, nat_le, if◌then◌else◌, List, [], ◌∷◌, take, drop, codes, bytes_eq, Vec, Option, Some, None}
use Rattle.std.specs.Borrow.{Bor}
use Rattle.std.specs.declared.alloc.Global.{Global}
use Rattle.std.specs.Char.{is_ascii_digit}
use Rattle.std.specs.List.{find, position_or_len}
use Rattle.std.specs.Option.{option_map}
use Rattle.rows_core.specs.Name.{is_name, is_name_byte}
use Rattle.rows_core.specs.Txt.{IsTxt}
use Rattle.plan_text.specs.declared.token.Token.{Token}
use Rattle.plan_text.specs.declared.token.Token.TheVariants.{Name, Word, Number, Text, Mark}
use Rattle.plan_text.specs.declared.token.Mark as the_mark
use Rattle.plan_text.specs.declared.token.Mark.TheVariants as mark
use Rattle.plan_text.specs.declared.token.Word as the_word
use Rattle.plan_text.specs.declared.token.Word.TheVariants as word

abbrev pub word_bytes : the_word.Word → List ℕ
word_bytes word.And = codes "and"
word_bytes word.Or = codes "or"
word_bytes word.Not = codes "not"
word_bytes word.If = codes "if"
word_bytes word.True = codes "true"
word_bytes word.False = codes "false"
word_bytes word.Len = codes "len"
word_bytes word.Abs = codes "abs"
word_bytes word.Starts = codes "starts"
word_bytes word.Least = codes "least"
word_bytes word.Most = codes "most"
word_bytes word.From = codes "from"
word_bytes word.Where = codes "where"
word_bytes word.Select = codes "select"
word_bytes word.Distinct = codes "distinct"
word_bytes word.Group = codes "group"
word_bytes word.With = codes "with"
word_bytes word.Join = codes "join"
word_bytes word.On = codes "on"
word_bytes word.Concat = codes "concat"
word_bytes word.Order = codes "order"
word_bytes word.Desc = codes "desc"

abbrev pub mark_bytes : the_mark.Mark → List ℕ
mark_bytes mark.Bar = codes "|"
mark_bytes mark.Comma = codes ","
mark_bytes mark.Open = codes "("
mark_bytes mark.Close = codes ")"
mark_bytes mark.Equal = codes "="
mark_bytes mark.NotEqual = codes "!="
mark_bytes mark.Less = codes "<"
mark_bytes mark.LessEqual = codes "<="
mark_bytes mark.Greater = codes ">"
mark_bytes mark.GreaterEqual = codes ">="
mark_bytes mark.Plus = codes "+"
mark_bytes mark.Minus = codes "-"
mark_bytes mark.Sign = codes "-"
mark_bytes mark.Times = codes "*"
mark_bytes mark.Divide = codes "/"
mark_bytes mark.Rest = codes "%"

abbrev pub all_words : List the_word.Word
all_words =
    word.And ∷ word.Or ∷ word.Not ∷ word.If ∷ word.True ∷ word.False ∷ word.Len ∷ word.Abs ∷ word.Starts ∷ word.Least
    ∷ word.Most ∷ word.From ∷ word.Where ∷ word.Select ∷ word.Distinct ∷ word.Group ∷ word.With ∷ word.Join ∷ word.On
    ∷ word.Concat ∷ word.Order ∷ word.Desc ∷ []

-- the reserved word of a plan with these bytes
unfoldable pub word_with : List ℕ → Option the_word.Word
word_with bytes = find (λ word. bytes_eq (word_bytes word) bytes) all_words

-- The greatest number without a sign: 2^63, which only stands behind a `-`.
abbrev pub greatest_number : ℕ
greatest_number = 9223372036854775808

-- the byte is a digit, and the number with this digit at its end isn't above the greatest
abbrev pub fits_digit : ℕ → ℕ → Bool
fits_digit value c = is_ascii_digit c && nat_le (value * 10 + (c - 48)) greatest_number

abbrev pub with_digit : ℕ → ℕ → Option ℕ
with_digit value c = if fits_digit value c then Some (value * 10 + (c - 48)) else None

-- the number that a value's digits and then these digits spell, up to the greatest one
abbrev pub number_behind : ℕ → List ℕ → Option ℕ
number_behind value [] = Some value
number_behind value (c ∷ cs) = if fits_digit value c then number_behind (value * 10 + (c - 48)) cs else None

-- the number with these digits: `0`, or digits of which the first isn't 0
abbrev pub number_with : List ℕ → Option ℕ
number_with [] = None
number_with (c ∷ []) = number_behind 0 (c ∷ [])
number_with (c ∷ d ∷ cs) = if c == 48 then None else number_behind 0 (c ∷ d ∷ cs)

-- the word as a name, or else as a number
abbrev pub name_or_number : List ℕ → Option Token
name_or_number word = if is_name word then Some (Name word) else option_map Number (number_with word)

abbrev pub word_or : Option the_word.Word → Option Token → Option Token
word_or (Some word) other = Some (Word word)
word_or None other = other

-- what a run of letters, digits and `_` is
abbrev pub word_token : List ℕ → Option Token
word_token word = word_or (word_with word) (name_or_number word)

-- a token at the front of a text, and what stands behind it
abbrev pub At : Type 0
At = Option (Token × List ℕ)

-- a token or a mark and a lent rest
abbrev pub lent : {A X : Type 0} → Option (A × Bor (List X)) → Option (A × List X)
lent found = option_map (λ f. (f.0, f.1.now)) found

abbrev pub lent_text : Option (Vec ℕ Global × Bor (List ℕ)) → Option (List ℕ × List ℕ)
lent_text found = option_map (λ f. (f.0.items, f.1.now)) found

abbrev pub before : List ℕ → Option Token → At
before rest token = option_map (λ t. (t, rest)) token

abbrev pub ends_word : ℕ → Bool
ends_word c = not (is_name_byte c)

-- how many letters, digits and `_` stand at the front
abbrev pub word_len : List ℕ → ℕ
word_len text = position_or_len ends_word text

-- the word at the front
unfoldable pub word_at : List ℕ → At
word_at text = before (drop (word_len text) text) (word_token (take (word_len text) text))

abbrev pub begins_with : ℕ → List ℕ → Bool
begins_with c [] = false
begins_with c (d ∷ ds) = d == c

abbrev pub begins_with_digit : List ℕ → Bool
begins_with_digit [] = false
begins_with_digit (d ∷ ds) = is_ascii_digit d

-- the first mark where a `=` follows, which belongs to it, and else the second
abbrev pub with_equal : Option the_mark.Mark → Option the_mark.Mark → List ℕ → Option (the_mark.Mark × List ℕ)
with_equal two one rest = if begins_with 61 rest then option_map (λ m. (m, drop 1 rest)) two else option_map (λ m. (m, rest)) one

-- the marks of one byte that begin no other mark
abbrev pub single_mark : ℕ → Option the_mark.Mark
single_mark c =
    if c == 124 then Some mark.Bar else if c == 44 then Some mark.Comma else if c == 40 then Some mark.Open
    else if c == 41 then Some mark.Close else if c == 61 then Some mark.Equal else if c == 43 then Some mark.Plus
    else if c == 42 then Some mark.Times else if c == 47 then Some mark.Divide else if c == 37 then Some mark.Rest else None

-- the mark of which this is the first byte, and what stands behind it
unfoldable pub mark_at : ℕ → List ℕ → Option (the_mark.Mark × List ℕ)
mark_at c rest =
    if c == 33 then with_equal (Some mark.NotEqual) None rest
    else if c == 60 then with_equal (Some mark.LessEqual) (Some mark.Less) rest
    else if c == 62 then with_equal (Some mark.GreaterEqual) (Some mark.Greater) rest
    else if c == 45 then Some (if begins_with_digit rest then mark.Sign else mark.Minus, rest)
    else option_map (λ m. (m, rest)) (single_mark c)

-- `"` and `\` stand behind a `\`
abbrev pub is_escaped : ℕ → Bool
is_escaped byte = (byte == 34) || (byte == 92)

abbrev pub with_byte : ℕ → Option (List ℕ × List ℕ) → Option (List ℕ × List ℕ)
with_byte c found = option_map (λ f. (c ∷ f.0, f.1)) found

abbrev pub text_step : Bool → ℕ → List ℕ → Option (List ℕ × List ℕ) → Option (List ℕ × List ℕ)
text_step escaped c cs found =
    if escaped then (if is_escaped c then with_byte c found else None)
    else if c == 34 then Some ([], cs)
    else if c == 92 then found
    else with_byte c found

-- the text up to its end, a `"` that isn't behind a `\`, and what stands behind that; `escaped` says that a `\` stands before
abbrev pub text_behind : Bool → List ℕ → Option (List ℕ × List ℕ)
text_behind escaped [] = None
text_behind escaped (c ∷ cs) = text_step escaped c cs (text_behind (not escaped && (c == 92)) cs)

-- where no byte of the text stands in front: its end, or no text
abbrev pub text_end : List ℕ → Option (List ℕ × List ℕ)
text_end [] = None
text_end (c ∷ cs) = if c == 34 then Some ([], cs) else None

abbrev pub text_at : List ℕ → At
text_at rest = option_map (λ f. (Text f.0, f.1)) (text_behind false rest)

abbrev pub mark_token : ℕ → List ℕ → At
mark_token c cs = option_map (λ m. (Mark m.0, m.1)) (mark_at c cs)

-- the token at the front of a text that doesn't begin with a space
unfoldable pub token_at : List ℕ → At
token_at [] = None
token_at (c ∷ cs) =
    if is_name_byte c then word_at (c ∷ cs)
    else if c == 34 then text_at cs
    else mark_token c cs

-- a text has at most 1,000 bytes, and is UTF-8 without a byte below 0x20
abbrev pub IsToken : Token → Type 0
IsToken (Name name) = Unit {0}
IsToken (Word word) = Unit {0}
IsToken (Number number) = Unit {0}
IsToken (Text text) = IsTxt text
IsToken (Mark mark) = Unit {0}

-- the text without the spaces at its front
abbrev pub trimmed : List ℕ → List ℕ
trimmed [] = []
trimmed (c ∷ cs) = if c == 32 then trimmed cs else c ∷ cs

-- the text is these tokens, with any spaces before, between and behind them
abbrev pub AreTokens : List Token → List ℕ → Type 0
AreTokens [] text = trimmed text ≡ []
AreTokens (token ∷ tokens) text = (rest : List ℕ) × (token_at (trimmed text) ≡ Some (token, rest)) × IsToken token × AreTokens tokens rest
