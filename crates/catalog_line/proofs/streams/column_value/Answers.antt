use Rattle.std.proofs.Common.{subst, sym}
use Rattle.std.specs.Str.{IsUtf8}
use Rattle.catalog_line.proofs.Utf8Texts.{word-utf8}
use Rattle.catalog_line.proofs.streams.column_value.Goals as goal

pub text_value-requires : goal.text_value-requires
text_value-requires c = subst IsUtf8 (sym c.word.ensures) (word-utf8 c.args.column.now.kind)
