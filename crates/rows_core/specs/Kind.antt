-- The words of the kinds.
use Rattle.std.specs.Prelude.{ℕ, if◌then◌else◌, List, Option, Some, None, codes, bytes_eq}
use Rattle.rows_core.specs.declared.kind.Kind.{Kind}
use Rattle.rows_core.specs.declared.kind.Kind.TheVariants.{Int, Text, Bool}

abbrev pub kind_word : Kind → List ℕ
kind_word Int = codes "int"
kind_word Text = codes "text"
kind_word Bool = codes "bool"

-- the kind with this word, if there is one
unfoldable pub kind_with_word : List ℕ → Option Kind
kind_with_word word =
    if bytes_eq word (kind_word Int) then Some Int
    else if bytes_eq word (kind_word Text) then Some Text
    else if bytes_eq word (kind_word Bool) then Some Bool
    else None
