-- A number's decimal is read as the number.
use Rattle.std.proofs.Common.{◌≡◌, ◌∙◌, sym, ap, subst}
use Rattle.std.specs.Prelude.{decimal}
use Rattle.std.specs.Str.{IsUtf8}
use Rattle.std.proofs.lemmas.Bool.{false≢true}
use Rattle.std.proofs.lemmas.Str.{IsUtf8-from_ascii}
use Rattle.std.proofs.lemmas.Fmt.{IsAscii-decimal, parse-decimal}
use Rattle.csv_rows.proofs.lines.number_of.Goals as goal

pub returns-in_default-clause-none : goal.returns-in_default-clause-none
returns-in_default-clause-none c number fits h =
    c.in_default.ensures.cases.0 (subst IsUtf8 (sym h) (IsUtf8-from_ascii _ (IsAscii-decimal number fits)))

pub returns-in_default-parse-clause-none : goal.returns-in_default-parse-clause-none
returns-in_default-parse-clause-none c number fits h =
    c.in_default-parse.not-Ok number (parse-decimal 64 number c.in-Ok.text.now _ fits fits (c.in-Ok.ensures.cases.0 ∙ h) c.parse.ensures.value.0)

pub returns-else-is_decimal_of-clause-none : goal.returns-else-is_decimal_of-clause-none
returns-else-is_decimal_of-clause-none c number fits h =
    let parsed = parse-decimal 64 number c.in-Ok.text.now _ fits fits (c.in-Ok.ensures.cases.0 ∙ h) c.parse.ensures.value.0 in
    let same : c.in-Ok-parse.number ≡ number = cc (parsed, c.in-Ok-parse.is) in
    false≢true (sym c.if-is_decimal_of.false ∙ c.is_decimal_of.ensures.1 (h ∙ sym (ap decimal same)))
