-- The words of a command's line, which spaces part.
use Rattle.std.specs.Prelude.{ℕ, Bool, true, ◌==◌, if◌then◌else◌, List, [], ◌∷◌, Option, Some, None, is_some, option_and_then, codes}
use Rattle.std.specs.List.{before_first, after_first, list_all}
use Rattle.rows_core.specs.Name.{is_name}

abbrev pub is_space : ℕ → Bool
is_space c = c == 32

-- the line without the spaces at its front
abbrev pub trimmed : List ℕ → List ℕ
trimmed [] = []
trimmed (c ∷ cs) = if is_space c then trimmed cs else c ∷ cs

-- nothing, or a `#` in front
abbrev pub is_empty_or_remark : List ℕ → Bool
is_empty_or_remark [] = true
is_empty_or_remark (c ∷ cs) = c == 35

-- a line that is passed over outside of a block: a blank one, or a remark
abbrev pub is_skipped : List ℕ → Bool
is_skipped line = is_empty_or_remark (trimmed line)

-- a word ends here: at the line's end or a space
abbrev pub ends_word : List ℕ → Bool
ends_word [] = true
ends_word (c ∷ cs) = is_space c

-- what stands behind this word, where the line begins with it
abbrev pub behind_word : List ℕ → List ℕ → Option (List ℕ)
behind_word [] rest = if ends_word rest then Some rest else None
behind_word (w ∷ ws) [] = None
behind_word (w ∷ ws) (c ∷ cs) = if c == w then behind_word ws cs else None

-- what stands behind `append`, where it is the line's first word
abbrev pub behind_append : List ℕ → Option (List ℕ)
behind_append line = behind_word (codes "append") (trimmed line)

-- the line begins a block
abbrev pub begins_block : List ℕ → Bool
begins_block line = is_some (behind_append line)

abbrev pub is_blank : List ℕ → Bool
is_blank text = list_all is_space text

-- the one word of a text that begins with it, where only spaces stand behind it
abbrev pub word_alone : List ℕ → Option (List ℕ)
word_alone text = if is_blank (after_first is_space text) then Some (before_first is_space text) else None

-- the one word of a text, where it has no other
unfoldable pub only_word : List ℕ → Option (List ℕ)
only_word text = word_alone (trimmed text)

abbrev pub name_if : List ℕ → Option (List ℕ)
name_if word = if is_name word then Some word else None

-- the one word of a text, where it is a name
abbrev pub only_name : List ℕ → Option (List ℕ)
only_name text = option_and_then name_if (only_word text)

-- the name in a block's head line `append NAME`
abbrev pub head_name : List ℕ → Option (List ℕ)
head_name line = option_and_then only_name (behind_append line)
