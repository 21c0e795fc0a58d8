-- What a text is.
use Rattle.std.specs.Prelude.{ℕ, Bool, ◌≤◌, nat_le, List, length, IsTrue}
use Rattle.std.specs.List.{list_all}
use Rattle.std.specs.Str.{IsUtf8}

abbrev pub is_text_byte : ℕ → Bool
is_text_byte byte = nat_le 32 byte

-- a text of any length: UTF-8 without a byte below 0x20
abbrev pub IsText : List ℕ → Type 0
IsText bytes = IsUtf8 bytes × IsTrue (list_all is_text_byte bytes)

-- a text that a value may hold: of 1,000 bytes at most
abbrev pub IsTxt : List ℕ → Type 0
IsTxt bytes = IsText bytes × (length bytes ≤ 1000)
