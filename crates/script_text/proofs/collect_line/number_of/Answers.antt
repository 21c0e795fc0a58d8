-- A word is read as a number exactly where it is that number's decimal: it reads back as no other number.
use Rattle.std.proofs.Common.{◌≡◌, ◌^◌, ◌<◌, Ok, decimal, refl, sym, ap, ◌∙◌, subst, rules}
use Rattle.std.specs.Str.{IsUtf8}
use Rattle.std.proofs.lemmas.Fmt.{IsAscii-decimal, parse-decimal}
use Rattle.std.proofs.lemmas.Str.{IsUtf8-from_ascii}
use Rattle.script_text.specs.CollectLine.{number_of}
use Rattle.script_text.proofs.NumberLemmas.{number_of-decimal, number_of-none}
use Rattle.script_text.proofs.collect_line.number_of.Goals as goal

pub returns-in_default : goal.returns-in_default
returns-in_default c =
    sym (number_of-none c.args.word.now (λ number fits is. c.in_default.ensures.cases.0 (subst IsUtf8 (sym is) (IsUtf8-from_ascii (decimal number) (IsAscii-decimal number fits)))))

pub returns-in-Ok-parse : goal.returns-in-Ok-parse
returns-in-Ok-parse c =
    let own : c.args.word.now ≡ decimal c.in-Ok-parse.number = c.if-is_decimal_of.ensures.0 refl in
    let fits : c.in-Ok-parse.number < 2 ^ 64 = search rules in
    sym (ap number_of own ∙ number_of-decimal c.in-Ok-parse.number fits)

pub returns-in_default-parse : goal.returns-in_default-parse
returns-in_default-parse c =
    sym (number_of-none c.args.word.now (λ number fits is.
    let read : c.parse.result ≡ Ok number = parse-decimal 64 number c.in-Ok.text.now c.parse.result fits fits (c.in-Ok.ensures.cases.0 ∙ is) c.parse.ensures.value.0 in
    let given = c.in-Ok-parse.is in
    let same : number ≡ c.in-Ok-parse.number = cc in
    let no = c.if-is_decimal_of.ensures.1 (is ∙ ap decimal same) in
    absurd (cc)))

pub returns-in_default-parse-2 : goal.returns-in_default-parse-2
returns-in_default-parse-2 c =
    sym (number_of-none c.args.word.now (λ number fits is.
    let read : c.parse.result ≡ Ok number = parse-decimal 64 number c.in-Ok.text.now c.parse.result fits fits (c.in-Ok.ensures.cases.0 ∙ is) c.parse.ensures.value.0 in
    let given = c.in_default-parse.is in
    absurd (cc)))
