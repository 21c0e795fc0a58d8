use Rattle.std.proofs.Common.{◌≡◌, ◌∙◌, ap, ap₂, rules, true, codes, Option, Some}
use Rattle.clap.specs.Walk.{Rule, rule_of}
use Rattle.clap.specs.Simple.{App, Shape, app_of, app_of_fields, new_rule, on_top, with_rule}
use Rattle.clap.specs.declared.builder.command.Command.{Command}
use Rattle.clap.specs.declared.builder.command.Command.TheOpen.{Command-F}
use Rattle.clap.specs.declared.builder.value_parser.ValueParser.{ValueParser}
use Rattle.command_words.specs.Command.{bare_command, folder_rule, generate_rule, quiet_rule, number_parser}
use Rattle.command_words.proofs.command.nectar_command.Goals as goal

pub returns : goal.returns
returns c =
    let folder_is : rule_of c.required-folder.result ≡ folder_rule = search rules in
    let quiet_is : rule_of c.action-quiet.result ≡ quiet_rule = search rules in
    let long_is : rule_of c.long-2.result ≡ record (new_rule (codes "generate")) { long = Some (codes "generate") } = search rules in
    let given = c.value_parser-generate.ensures.given in
    let parser_is : c.value_parser-generate.result.value_parser ≡ Some number_parser = given.1 ∙ ap Some (given.2 ∙ c.value_parser.ensures) in
    let generate_is : rule_of c.value_parser-generate.result ≡ generate_rule =
    ap rule_of c.value_parser-generate.ensures.others
    ∙ ap₂ (λ (r : Rule) (p : Option ValueParser). record r { parser = p }) long_is parser_is in
    let settings = λ (a : App). on_top (λ (s : Shape). record s { no_binary_name = true; disable_help_flag = true }) a in
    let bare_is : app_of c.disable_help_flag.result ≡ bare_command =
    ap app_of_fields c.disable_help_flag.ensures
    ∙ (ap (λ (f : Command-F Command). app_of_fields (record f { disable_help_flag = true })) c.no_binary_name.ensures
    ∙ ap settings c.new-4.ensures.app) in
    let one = c.in_ok-arg.ensures.shape (search rules) ∙ ap₂ with_rule bare_is folder_is in
    let two = c.in_ok-arg-2.ensures.shape (search rules) ∙ ap₂ with_rule one quiet_is in
    c.in_ok-command.ensures.shape (search rules) ∙ ap₂ with_rule two generate_is
