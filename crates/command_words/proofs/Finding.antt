-- What is read of the matches is what they ask for.
use Rattle.std.proofs.Common.{◌≡◌, ◌∙◌, sym, ap, refl, ℕ, Bool, true, false, List, [], Option, Some, None, Ok, Err, Result, codes}
use Rattle.std.specs.Prelude.{if◌then◌else◌, ◌&&◌, is_some, option_map, unwrap_or}
use Rattle.std.specs.Option.{option_map_or}
use Rattle.std.specs.Str.{bytes_eq}
use Rattle.std.specs.Str.Parse.{ParsesBool, ParsesUnsigned, true_text}
use Rattle.std.proofs.lemmas.Slice.Eq.{bytes_eq-Decides}
use Rattle.clap.specs.Faults.{fault_of, is_simple_and_free}
use Rattle.clap.specs.Kinds.{Kinds}
use Rattle.clap.specs.Matches.{ReadsOne}
use Rattle.clap.specs.Simple.{App, is_simple, matches_of}
use Rattle.clap.specs.Values.{Accepts}
use Rattle.clap.specs.Walk.{Row, Text, first_of, is_empty, one_of}
use Rattle.std.specs.Option.{IfSome}
use Rattle.command_words.specs.Command.{nectar_command, number_parser}
use Rattle.command_words.specs.Told.{Told, are_accepted, found_in, found_words, has_folder, is_quiet, number_of, told}

-- ---- the parts

-- the flag, read as a `bool`
pub quiet-read : (E : Type 0) (text : Option Text) (read : Option Bool) → (text ≡ None → read ≡ None)
    → ((t : Text) → text ≡ Some t → ReadsOne (ParsesBool {E = E}) t read)
    → unwrap_or read false ≡ option_map_or (λ t. bytes_eq t (codes "true")) text false
quiet-read E None read none some = ap (λ (o : Option Bool). unwrap_or o false) (none refl)
quiet-read E (Some t) read none some = go read (some t refl)
  where
    go : (r : Option Bool) → ReadsOne (ParsesBool {E = E}) t r → unwrap_or r false ≡ bytes_eq t (codes "true")
    go (Some true) is = sym ((bytes_eq-Decides t true_text).1 is)
    go (Some false) is = ap (λ (u : Text). bytes_eq u (codes "true")) (sym is)
    go None is = other (bytes_eq t true_text) refl
      where
        other : (b : Bool) → bytes_eq t true_text ≡ b → false ≡ bytes_eq t (codes "true")
        other true same = absurd (is.1.0 ((bytes_eq-Decides t true_text).0 same))
        other false same = sym same

-- the number, read as a `u64`
pub number-read : {E : Type 0} (gives : Text → Result ℕ E → Type 0) → ((t : Text) (r : Result ℕ E) → gives t r → ParsesUnsigned 64 10 t r)
    → (text : Option Text) (read : Option ℕ) → IfSome text (Accepts false number_parser) → (text ≡ None → read ≡ None)
    → ((t : Text) → text ≡ Some t → ReadsOne gives t read) → read ≡ option_map number_of text
number-read gives parses None read accepted none some = none refl
number-read gives parses (Some t) read accepted none some = go read (some t refl)
  where
    go : (r : Option ℕ) → ReadsOne gives t r → r ≡ Some (number_of t)
    go (Some n) is = ap Some (parses t (Ok n) is).1
    go None is = absurd (parses t (Err is.0) is.1 (accepted.0, accepted.1))

-- ---- the whole

pub with-folder : (rows : List Row) (words : Told) → first_of (codes "folder") rows ≡ Some words.folder → is_empty words.folder ≡ false
    → words.quiet ≡ is_quiet rows → words.generate ≡ option_map number_of (one_of (codes "generate") rows) → Some words ≡ found_words rows
with-folder rows words first filled quiet generate = rw (first, filled, ← quiet, ← generate) refl

pub without-folder : (rows : List Row) (folder : Option Text) → first_of (codes "folder") rows ≡ folder → is_empty (unwrap_or folder []) ≡ true
    → None ≡ found_words rows
without-folder rows folder first empty = rw (first, empty) refl

-- the command takes the words, and these are its matches
module _ (a : App) (words : List Text) (rows : List Row) (is : a ≡ nectar_command) (matches : is_simple a ≡ true → rows ≡ matches_of a words)
    (faults : is_simple_and_free a ≡ true → fault_of a words ≡ []) where
  rows-are : rows ≡ matches_of nectar_command words
  rows-are = matches (ap is_simple is) ∙ ap (λ (b : App). matches_of b words) is

  no-fault : [] ≡ fault_of nectar_command words
  no-fault = sym (faults (ap is_simple_and_free is)) ∙ ap (λ (b : App). fault_of b words) is

  pub told-taken : found_words rows ≡ told words
  told-taken =
      ap found_words rows-are
      ∙ ap (λ (ks : Kinds). if is_empty ks && has_folder (matches_of nectar_command words) then Some (found_in (matches_of nectar_command words)) else None) no-fault

is-some-map : {T U : Type 0} (f : T → U) (o : Option T) → is_some o ≡ is_some (option_map f o)
is-some-map f None = refl
is-some-map f (Some x) = refl

is-some-if : {T : Type 0} (b : Bool) (t : T) → is_some (if b then Some t else None) ≡ b
is-some-if true t = refl
is-some-if false t = refl

-- words are read exactly where they are accepted
pub read-accepted : {T : Type 0} (f : T → Told) (read : Option T) (words : List Text) → option_map f read ≡ told words → is_some read ≡ are_accepted words
read-accepted f read words same = is-some-map f read ∙ (ap is_some same ∙ is-some-if (are_accepted words) (found_in (matches_of nectar_command words)))
