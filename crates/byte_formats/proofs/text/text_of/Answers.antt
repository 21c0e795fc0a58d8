-- What the text says of its bytes decides the test.
use Rattle.std.proofs.Common.{Some, Err, ap, subst, refl, arith, ◌∙◌}
use Rattle.rows_core.specs.declared.txt.TxtRefusal.{TxtRefusal}
use Rattle.byte_formats.proofs.Texts.{is_text-true, is_text-false}
use Rattle.rows_core.specs.Txt.{IsText}
use Rattle.byte_formats.proofs.text.text_of.Goals as goal

pub returns-in-Ok : goal.returns-in-Ok
returns-in-Ok c =
    let text = subst IsText c.in-Ok.ensures.bytes c.in-Ok.ensures.text.0 in
    rw (is_text-true c.args.bytes.now text) (ap Some c.in-Ok.ensures.bytes)

pub returns-in-NotText : goal.returns-in-NotText
returns-in-NotText c =
    rw (is_text-false c.args.bytes.now (c.new.ensures.not_text.0 (c.in-Err.is ∙ ap (λ (e : TxtRefusal). Err e) c.in-NotText.is))) refl

pub returns-in-TooLong : goal.returns-in-TooLong
returns-in-TooLong c =
    absurd (omega (arith, (c.new.ensures.too_long.0 (c.in-Err.is ∙ ap (λ (e : TxtRefusal). Err e) c.in-TooLong.is)).1, c.requires))
