-- The test of a text decides what a text is.
use Rattle.std.proofs.Common.{◌≡◌, ℕ, List, true, false}
use Rattle.std.specs.List.{list_all}
use Rattle.std.specs.Str.{is_utf8}
use Rattle.std.proofs.lemmas.Bool.{and_parts, and_from, false_from_ne_true}
use Rattle.std.proofs.lemmas.Str.{IsUtf8-from_is_utf8, is_utf8-from_IsUtf8}
use Rattle.rows_core.specs.Txt.{IsText, is_text_byte}
use Rattle.byte_formats.specs.Reading.{is_text}

pub is_text-true : (bytes : List ℕ) → IsText bytes → is_text bytes ≡ true
is_text-true bytes h = and_from (is_utf8 bytes) (list_all is_text_byte bytes) (is_utf8-from_IsUtf8 bytes h.0) h.1

pub is_text-parts : (bytes : List ℕ) → is_text bytes ≡ true → IsText bytes
is_text-parts bytes e = let p = and_parts (is_utf8 bytes) (list_all is_text_byte bytes) e in (IsUtf8-from_is_utf8 bytes p.0, p.1)

pub is_text-false : (bytes : List ℕ) → (IsText bytes → ⊥) → is_text bytes ≡ false
is_text-false bytes h = false_from_ne_true (is_text bytes) (λ e. h (is_text-parts bytes e))
