-- The tokens of a text as a function of its bytes.
use Prim.Native.Nat.{zero, suc}
use Rattle.std.specs.Prelude.{ℕ, Bool, true, ◌&&◌, nat_le, if◌then◌else◌, List, [], ◌∷◌, length, Option, Some, None}
use Rattle.std.specs.List.{list_all}
use Rattle.std.specs.Option.{option_map, option_and_then}
use Rattle.std.specs.Str.{is_utf8}
use Rattle.rows_core.specs.Txt.{is_text_byte}
use Rattle.plan_text.specs.declared.token.Token.{Token}
use Rattle.plan_text.specs.declared.token.Token.TheVariants.{Text}
use Rattle.plan_text.specs.Token.{trimmed, token_at}

-- `IsTxt` as a test
abbrev pub is_txt : List ℕ → Bool
is_txt bytes = (is_utf8 bytes && list_all is_text_byte bytes) && nat_le (length bytes) 1000

-- `IsToken` as a test
abbrev pub is_token : Token → Bool
is_token (Text text) = is_txt text
is_token _ = true

-- the token, and then what the rest has
abbrev pub with_token : (List ℕ → Option (List Token)) → Token × List ℕ → Option (List Token)
with_token more found = if is_token found.0 then option_map (λ tokens. found.0 ∷ tokens) (more found.1) else None

abbrev pub tokens_step : (List ℕ → Option (List Token)) → List ℕ → Option (List Token)
tokens_step more [] = Some []
tokens_step more (c ∷ cs) = option_and_then (with_token more) (token_at (c ∷ cs))

-- the tokens of the text, where they are fewer than this
unfoldable pub tokens_by : ℕ → List ℕ → Option (List Token)
tokens_by zero text = None
tokens_by (suc turns) text = tokens_step (tokens_by turns) (trimmed text)

-- The tokens of the text, if it has any: no token has no bytes, so there are no more tokens than bytes.
abbrev pub tokens_in : List ℕ → Option (List Token)
tokens_in text = tokens_by (suc (length text)) text
