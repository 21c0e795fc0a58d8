-- A name is read as a number exactly where it is that number's name: its digits read back as no other number.
use Rattle.std.proofs.Common.{◌≡◌, ◌++◌, ◌<◌, ◌^◌, ℕ, List, Some, None, Ok, decimal, codes, refl, sym, ap, ◌∙◌}
use Rattle.std.proofs.lemmas.Fmt.{parse-decimal}
use Rattle.std.proofs.lemmas.List.{append_cancel_right}
use Rattle.folder_store.proofs.directory.number_of.Goals as goal

-- the digits that stand before the ending
same_digits : (name digits others ending : List ℕ) → name ≡ digits ++ ending → name ≡ others ++ ending → digits ≡ others
same_digits name digits others ending a b = append_cancel_right digits others ending (sym a ∙ b)

pub returns-in-Ok : goal.returns-in-Ok
returns-in-Ok c = λ number below.
    let name = c.args.name.now in
    let digits = c.in-Some.digits.now in
    let whole : name ≡ digits ++ codes ".nxt" = c.in-Some.ensures.cases.1.1 ∙ ap (λ t. t ++ codes ".nxt") (sym c.in-Some.ensures.cases.2) in
    let own : digits ≡ decimal c.in-Ok.number = c.if-is_decimal_of.ensures.0 refl in (
      λ is. let same : c.in-Ok.number ≡ number = cc in whole ∙ ap (λ t. t ++ codes ".nxt") (own ∙ ap decimal same),
      λ e.
          let read : c.parse.result ≡ Ok number = parse-decimal 64 number digits c.parse.result below below (same_digits name digits (decimal number) (codes ".nxt") whole e) c.parse.ensures.value.0 in
          let given = c.in-Ok.is in
          cc,
    )

pub returns-in_default-parse : goal.returns-in_default-parse
returns-in_default-parse c = λ number below.
    let name = c.args.name.now in
    let digits = c.in-Some.digits.now in
    let whole : name ≡ digits ++ codes ".nxt" = c.in-Some.ensures.cases.1.1 ∙ ap (λ t. t ++ codes ".nxt") (sym c.in-Some.ensures.cases.2) in (
      λ is. absurd (cc),
      λ e.
          let others : digits ≡ decimal number = same_digits name digits (decimal number) (codes ".nxt") whole e in
          let read : c.parse.result ≡ Ok number = parse-decimal 64 number digits c.parse.result below below others c.parse.ensures.value.0 in
          let given = c.in-Ok.is in
          let same : number ≡ c.in-Ok.number = cc in
          let no = c.if-is_decimal_of.ensures.1 (others ∙ ap decimal same) in
          absurd (cc),
    )

pub returns-in_default-parse-2 : goal.returns-in_default-parse-2
returns-in_default-parse-2 c = λ number below.
    let name = c.args.name.now in
    let digits = c.in-Some.digits.now in
    let whole : name ≡ digits ++ codes ".nxt" = c.in-Some.ensures.cases.1.1 ∙ ap (λ t. t ++ codes ".nxt") (sym c.in-Some.ensures.cases.2) in (
      λ is. absurd (cc),
      λ e.
          let read : c.parse.result ≡ Ok number = parse-decimal 64 number digits c.parse.result below below (same_digits name digits (decimal number) (codes ".nxt") whole e) c.parse.ensures.value.0 in
          let given = c.in_default-parse.is in
          absurd (cc),
    )
