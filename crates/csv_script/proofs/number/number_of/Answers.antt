-- A number's decimal is read as the number.
use Rattle.std.proofs.Common.{◌≡◌, ◌∙◌, sym, ap, subst, w64, to_z, of_z}
use Rattle.std.specs.Str.{IsUtf8}
use Rattle.std.specs.Fmt.{signed_decimal}
use Rattle.std.proofs.lemmas.Bool.{false≢true}
use Rattle.std.proofs.lemmas.Int.{to_z-of_z}
use Rattle.std.proofs.lemmas.Str.{IsUtf8-from_ascii}
use Rattle.std.proofs.lemmas.Fmt.{IsAscii-signed, parse-signed_decimal}
use Rattle.csv_script.proofs.number.number_of.Goals as goal

pub returns-in_default-clause-none : goal.returns-in_default-clause-none
returns-in_default-clause-none c number fits h =
    c.in_default.ensures.cases.0 (subst IsUtf8 (sym h) (IsUtf8-from_ascii _ (IsAscii-signed number fits.sfits)))

pub returns-in_default-parse-clause-none : goal.returns-in_default-parse-clause-none
returns-in_default-parse-clause-none c number fits h =
    c.in_default-parse.not-Ok number (parse-signed_decimal w64 number c.in-Ok.text.now _ fits fits.sfits (c.in-Ok.ensures.cases.0 ∙ h) c.parse.ensures.value.0)

pub returns-else-is_spelling_of-clause-none : goal.returns-else-is_spelling_of-clause-none
returns-else-is_spelling_of-clause-none c number fits h =
    let parsed = parse-signed_decimal w64 number c.in-Ok.text.now _ fits fits.sfits (c.in-Ok.ensures.cases.0 ∙ h) c.parse.ensures.value.0 in
    let same : c.in-Ok-parse.number ≡ number = cc (parsed, c.in-Ok-parse.is) in
    let spelled = ap (λ z. signed_decimal (to_z w64 (of_z w64 z))) same ∙ ap signed_decimal (to_z-of_z w64 number fits) in
    false≢true (sym c.if-is_spelling_of.false ∙ c.is_spelling_of.ensures.1 (h ∙ sym spelled))
