-- Letters of a name's length are a name, unless they are a reserved word.
use Rattle.std.proofs.Common.{◌∙◌, Err, ap, sym, subst, arith}
use Rattle.rows_core.specs.Name.{IsName}
use Rattle.byte_formats.specs.Format.{letters}
use Rattle.byte_formats.proofs.Names.{letters_exact, name_passes, other_stops}
use Rattle.byte_formats.proofs.name.name_of_len.Goals as goal

pub returns-in-Ok : goal.returns-in-Ok
returns-in-Ok c =
    name_passes ((letters c.args.len).read c.args.bytes.now) c.in_ok-letters.letters.items c.in-Ok.name c.in_ok-letters.rest.now c.in_ok-letters.ensures
    (c.in-Ok.ensures.bytes ∙ c.deref.ensures.value) c.in-Ok.ensures.name

pub returns-in-Err-NotName : goal.returns-in-Err-NotName
returns-in-Err-NotName c =
    let some = c.requires.some in
    let t = (letters_exact c.args.len (omega arith)).takes c.args.bytes.now (c.in_ok-letters.letters.items, c.in_ok-letters.rest.now) (λ i. omega (arith, c.type_inv.bytes i)) c.in_ok-letters.ensures in
    other_stops c.args.len ((letters c.args.len).read c.args.bytes.now) c.in_ok-letters.letters.items c.in_ok-letters.rest.now c.requires.few c.in_ok-letters.ensures t.fits
    (λ is. c.in-Err-NotName.ensures.not_name.0 (ap Err c.in-Err-NotName.field-0-is) (subst IsName (sym c.deref.ensures.value) is))
