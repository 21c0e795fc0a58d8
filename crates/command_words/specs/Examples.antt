-- Words that are accepted, and words that aren't.
use Rattle.std.specs.Prelude.{◌≡◌, ℕ, Bool, true, false, [], ◌∷◌, Option, Some, None, codes}
use Rattle.clap.specs.Walk.{Text}
use Rattle.command_words.specs.Told.{Told, told}

abbrev asks : Text → Bool → Option ℕ → Option Told
asks folder quiet generate = Some (record { folder = folder; quiet = quiet; generate = generate })

pub record AcceptedExamples : Type 0 where
  pub folder : told (codes "F" ∷ []) ≡ asks (codes "F") false None
  pub all : told (codes "F" ∷ codes "--quiet" ∷ codes "--generate" ∷ codes "7" ∷ [])
      ≡ asks (codes "F") true (Some 7)
  pub any_order : told (codes "--generate" ∷ codes "7" ∷ codes "--quiet" ∷ codes "F" ∷ [])
      ≡ asks (codes "F") true (Some 7)
  pub attached : told (codes "F" ∷ codes "--generate=7" ∷ []) ≡ asks (codes "F") false (Some 7)
  pub greatest : told (codes "F" ∷ codes "--generate=18446744073709551615" ∷ [])
      ≡ asks (codes "F") false (Some 18446744073709551615)
  pub numeral : told (codes "--generate=+007" ∷ codes "F" ∷ []) ≡ asks (codes "F") false (Some 7)
  pub hyphen : told (codes "--" ∷ codes "-x" ∷ []) ≡ asks (codes "-x") false None

pub record UnacceptedExamples : Type 0 where
  pub none : told [] ≡ None
  pub empty_folder : told (codes "" ∷ []) ≡ None
  pub two_folders : told (codes "F" ∷ codes "G" ∷ []) ≡ None
  pub help : told (codes "--help" ∷ []) ≡ None
  pub no_number : told (codes "F" ∷ codes "--generate" ∷ []) ≡ None
  pub too_great : told (codes "F" ∷ codes "--generate" ∷ codes "18446744073709551616" ∷ []) ≡ None
  pub no_numeral : told (codes "F" ∷ codes "--generate" ∷ codes "x" ∷ []) ≡ None
  pub short_option : told (codes "-x" ∷ []) ≡ None
  pub quiet_twice : told (codes "F" ∷ codes "--quiet" ∷ codes "--quiet" ∷ []) ≡ None
  pub unknown : told (codes "F" ∷ codes "--unknown" ∷ []) ≡ None
  pub short_help : told (codes "-h" ∷ codes "F" ∷ []) ≡ None
  pub generate_twice : told (codes "F" ∷ codes "--generate=1" ∷ codes "--generate=1" ∷ []) ≡ None
  pub value_of_flag : told (codes "F" ∷ codes "--quiet=true" ∷ []) ≡ None
  pub flag_alone : told (codes "--quiet" ∷ []) ≡ None
