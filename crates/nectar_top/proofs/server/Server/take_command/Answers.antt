use Rattle.std.proofs.Common.{◌≡◌, ◌++◌, take, sym, subst, arith}
use Rattle.std.proofs.lemmas.List.{take_all}
use Rattle.script_text.specs.Reader.{Stands}
use Rattle.script_text.proofs.OptionLemmas.{at_none, at_some}
use Rattle.nectar_top.proofs.TurnLemmas.{Serving-more, Serving-command, Ends-command}
use Rattle.nectar_top.proofs.server.Server.take_command.Goals as goal

pub returns-in-None-clause-ok : goal.returns-in-None-clause-ok
returns-in-None-clause-ok g c = λ told found origin served begun left at.
    let all : take c.take-count.result.0 c.args.piece.now ≡ c.args.piece.now = take_all _ c.args.piece.now (omega (arith, at_none _ _ c.take-count.ensures.all c.in-None.is)) in
    Serving-more found _ _ _ _ _ served _ begun _ at c.take-count.new.self c.take-count.result.0 (λ bytes stood. subst (λ p. Stands c.take-count.new.self (bytes ++ p)) (sym all) (at_none _ _ c.take-count.ensures.stands c.in-None.is bytes stood))

pub returns-in-Ok-clause-ok : goal.returns-in-Ok-clause-ok
returns-in-Ok-clause-ok g c = λ told found origin served begun left at.
    let ended = at_some _ _ c.in-Some.item c.take-count.ensures.item c.in-Some.is at.progress.part at.progress.reads in
    Serving-command found _ _ _ _ _ served _ begun _ at _ c.take-count.result.0 c.in-Some.item ended.1 c.take-count.new.self _ _ _ _ ended.0 (c.in-Ok.ensures.ok told found.care at.progress.machine left at.progress.stands)

pub returns-in-Err-clause-err : goal.returns-in-Err-clause-err
returns-in-Err-clause-err g c = λ told found origin served begun left at within.
    let ended = at_some _ _ c.in-Some.item c.take-count.ensures.item c.in-Some.is at.progress.part at.progress.reads in
    Ends-command found _ _ _ _ _ served _ begun _ at _ c.take-count.result.0 c.in-Some.item ended.1 _ _ _ within (c.in-Err.ensures.err told found.care at.progress.machine left at.progress.stands)
