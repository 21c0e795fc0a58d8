use Rattle.std.proofs.Common.{◌∙◌}
use Rattle.clap.specs.Simple.{app_of}
use Rattle.clap.specs.Walk.{rows_of, texts}
use Rattle.clap.specs.Matches.{found_of}
use Rattle.command_words.proofs.Finding.{read-accepted, told-taken}
use Rattle.command_words.specs.Told.{told_of}
use Rattle.command_words.proofs.Passing.{number-found}
use Rattle.command_words.proofs.reading.read_words.Goals as goal

pub words_of-requires : goal.words_of-requires
words_of-requires c = number-found c.in_ok-command.command c.in_ok-command.ensures c.in-Ok.matches c.in-Ok.ensures.parsed

pub returns-in-Ok : goal.returns-in-Ok
returns-in-Ok c =
    let read = c.words_of.ensures
    ∙ told-taken (app_of c.in_ok-command.command) (texts c.args.words.now) (rows_of (found_of c.in-Ok.matches)) c.in_ok-command.ensures
    (λ simple. (c.in-Ok.ensures.matches simple).0) (λ free. c.in-Ok.ensures.kinds free) in
    record { accepted = read-accepted told_of c.words_of.result (texts c.args.words.now) read; read = read }
