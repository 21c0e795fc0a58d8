-- Behind the first `"` stands no text that ends there.
use Rattle.std.proofs.Common.{◌∙◌, sym}
use Rattle.std.proofs.lemmas.Bool.{false≢true}
use Rattle.row_text.proofs.Spellings.{no_text_field}
use Rattle.row_text.proofs.field.text_field_at.Goals as goal

pub returns-clause-none : goal.returns-clause-none
returns-clause-none c text rest is_text ends h =
    let read = rw c.in-Some-2.is at c.in_ok-text.ensures.found in
    no_text_field c.in-Some.bytes.now c.in-Some-2.text.items c.in-Some-2.rest.now read
    (λ both. false≢true (sym c.if-is_text_before.false ∙ c.is_text_before.ensures.1 (rw c.as_slice.ensures.value both)))
    text rest is_text ends (sym c.in-Some.ensures.found ∙ h)
