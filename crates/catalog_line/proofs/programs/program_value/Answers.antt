use Rattle.std.proofs.Common.{subst, sym}
use Rattle.std.specs.Str.{IsUtf8}
use Rattle.catalog_line.proofs.ReadableLemmas.{readable-utf8}
use Rattle.catalog_line.proofs.programs.program_value.Goals as goal

pub text_value-requires : goal.text_value-requires
text_value-requires c = subst IsUtf8 (sym c.items.ensures) (readable-utf8 c.args.program.now c.requires)
