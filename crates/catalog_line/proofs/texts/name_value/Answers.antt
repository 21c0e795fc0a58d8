use Rattle.std.proofs.Common.{subst, sym}
use Rattle.std.specs.Str.{IsUtf8}
use Rattle.catalog_line.proofs.Utf8Texts.{name-utf8}
use Rattle.catalog_line.proofs.texts.name_value.Goals as goal

pub text_value-requires : goal.text_value-requires
text_value-requires c = subst IsUtf8 (sym c.bytes.ensures.bytes) (name-utf8 c.args.name.now c.bytes.ensures.name)
