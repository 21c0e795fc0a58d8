-- The command that the words are read by, in clap's own terms: FOLDER, which is required, the flag `--quiet`
-- and the option `--generate`, whose value is a number of 64 bits. The words come without the program's own
-- name, and there is no help and no version.
use Rattle.std.specs.Prelude.{codes, true, Some}
use Rattle.clap.specs.Walk.{Rule}
use Rattle.clap.specs.Simple.{App, new_app, new_rule, on_top, with_rule}
use Rattle.clap.specs.declared.builder.action.ArgAction.TheVariants.{SetTrue}
use Rattle.clap.specs.declared.builder.value_parser.ValueParser.{ValueParser}
use Rattle.clap.specs.declared.builder.value_parser.ValueParser.TheVariants.{Unsigned}

abbrev pub folder_rule : Rule
folder_rule = record (new_rule (codes "folder")) { required = true }

abbrev pub quiet_rule : Rule
quiet_rule = record (new_rule (codes "quiet")) {
  long = Some (codes "quiet");
  action = Some SetTrue;
}

-- a number of 64 bits
abbrev pub number_parser : ValueParser
number_parser = Unsigned 0 18446744073709551615

abbrev pub generate_rule : Rule
generate_rule = record (new_rule (codes "generate")) {
  long = Some (codes "generate");
  parser = Some number_parser;
}

-- the command before its arguments
abbrev pub bare_command : App
bare_command = on_top (λ s. record s {
  no_binary_name = true;
  disable_help_flag = true;
}) (new_app (codes "nectar"))

abbrev pub nectar_command : App
nectar_command =
    with_rule (with_rule (with_rule bare_command folder_rule) quiet_rule) generate_rule
