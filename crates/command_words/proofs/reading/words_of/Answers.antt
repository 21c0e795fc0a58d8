use Rattle.std.proofs.Common.{◌∙◌, sym, Some, None, codes, refl}
use Rattle.std.specs.Str.Parse.{ParsesUnsigned, ExplainsUnsignedError, HasUnsignedDigitsIfOk}
use Rattle.clap.specs.Words.{found_of, one_of, rows_of}
use Rattle.clap.proofs.WalkLemmas.{first_value-rows, one_text-rows}
use Rattle.command_words.proofs.Finding.{number-read, quiet-read, with-folder, without-folder}
use Rattle.command_words.proofs.reading.words_of.Goals.{in_default-via-in-Some+else-not-is_empty, in_default-via-in_default}
use Rattle.command_words.proofs.reading.words_of.Goals as goal

pub returns-in-Some : goal.returns-in-Some
returns-in-Some c =
    let f = found_of c.args.matches.now in
    let quiet_is = one_text-rows f (codes "quiet") in
    let number_is = one_text-rows f (codes "generate") in
    with-folder (rows_of f) (record { folder = c.in-Some.folder.now; quiet = c.unwrap_or.result; generate = c.get_one-in-Some.result })
    (sym (first_value-rows f (codes "folder")) ∙ sym c.in-Some.ensures)
    (sym c.if-not-is_empty.ensures)
    (c.unwrap_or.ensures
    ∙ quiet-read _ (one_of (codes "quiet") (rows_of f)) c.get_one.result
    (λ none. c.get_one.ensures.none (quiet_is ∙ none)) (λ t some. c.get_one.ensures.value t (quiet_is ∙ some)))
    (number-read (λ bs r. ParsesUnsigned 64 10 bs r × ExplainsUnsignedError 10 bs r × HasUnsignedDigitsIfOk bs r) (λ t r is. is.0)
    (one_of (codes "generate") (rows_of f)) c.get_one-in-Some.result c.requires
    (λ none. c.get_one-in-Some.ensures.none (number_is ∙ none)) (λ t some. c.get_one-in-Some.ensures.value t (number_is ∙ some)))

pub returns-in_default : goal.returns-in_default
returns-in_default c =
    let f = found_of c.args.matches.now in
    let first_is = sym (first_value-rows f (codes "folder")) in
    elim c.in_default.branch [
      | in_default-via-in-Some+else-not-is_empty w ↦
          without-folder (rows_of f) (Some w.in-Some.folder.now) (first_is ∙ sym w.in-Some.ensures) (sym w.if-not-is_empty.ensures)
      | in_default-via-in_default w ↦ without-folder (rows_of f) None (first_is ∙ sym w.in_default.ensures) refl
    ]
