-- What a name is.
use Rattle.std.specs.Prelude.{ℕ, Bool, false, ◌&&◌, ◌||◌, ◌==◌, not, nat_le, List, [], ◌∷◌, length, codes, bytes_eq, IsTrue}
use Rattle.std.specs.Char.{is_ascii_digit, is_ascii_lowercase}
use Rattle.std.specs.List.{list_any, list_all}

-- the words of the script's language
abbrev pub reserved_words : List (List ℕ)
reserved_words =
    codes "and" ∷ codes "or" ∷ codes "not" ∷ codes "if" ∷ codes "true" ∷ codes "false" ∷ codes "len" ∷ codes "abs"
    ∷ codes "starts" ∷ codes "least" ∷ codes "most" ∷ codes "from" ∷ codes "where" ∷ codes "select" ∷ codes "distinct"
    ∷ codes "group" ∷ codes "with" ∷ codes "join" ∷ codes "on" ∷ codes "concat" ∷ codes "order" ∷ codes "desc"
    ∷ codes "as" ∷ codes "end" ∷ codes "int" ∷ codes "text" ∷ codes "bool" ∷ []

unfoldable pub is_reserved : List ℕ → Bool
is_reserved bytes = list_any (λ word. bytes_eq word bytes) reserved_words

abbrev pub begins_with_letter : List ℕ → Bool
begins_with_letter [] = false
begins_with_letter (c ∷ cs) = is_ascii_lowercase c

-- a lower-case letter, a digit or `_`
abbrev pub is_name_byte : ℕ → Bool
is_name_byte c = is_ascii_lowercase c || is_ascii_digit c || (c == 95)

-- a letter, then letters, digits and `_`, 64 bytes at most, and no reserved word
unfoldable pub is_name : List ℕ → Bool
is_name bytes =
    begins_with_letter bytes && list_all is_name_byte bytes && nat_le (length bytes) 64 && not (is_reserved bytes)

abbrev pub IsName : List ℕ → Type 0
IsName bytes = IsTrue (is_name bytes)
