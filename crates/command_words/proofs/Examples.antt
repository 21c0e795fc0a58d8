-- The examples, by computation.
use Rattle.std.proofs.Common.{refl}
use Rattle.clap.proofs.OnLiterals.{clap_on_literals}
use Rattle.command_words.specs.Examples.{AcceptedExamples, UnacceptedExamples}

pub accepted-examples : AcceptedExamples
unfolding clap_on_literals
accepted-examples = record {
  folder = refl;
  all = refl;
  any_order = refl;
  attached = refl;
  greatest = refl;
  numeral = refl;
  hyphen = refl;
}

pub unaccepted-examples : UnacceptedExamples
unfolding clap_on_literals
unaccepted-examples = record {
  none = refl;
  empty_folder = refl;
  two_folders = refl;
  help = refl;
  no_number = refl;
  too_great = refl;
  no_numeral = refl;
  short_option = refl;
  quiet_twice = refl;
  unknown = refl;
  short_help = refl;
  generate_twice = refl;
  value_of_flag = refl;
  flag_alone = refl;
}
