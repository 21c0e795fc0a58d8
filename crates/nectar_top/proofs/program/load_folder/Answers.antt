use Rattle.std.proofs.Common.{◌∙◌}
use Rattle.outside_traits.proofs.RunLemmas.{idles_narrow, narrows_on}
use Rattle.folder.proofs.UnnamedFiles.{unnamed_narrowed}
use Rattle.nectar_top.proofs.LoadingLemmas.{finished_behind, left_attached, since_attached, unloaded_attached, unloaded_since, stops_before, stops_behind, refusal_is, exit_is, loaded_not_stopped}
use Rattle.nectar_top.proofs.program.load_folder.Goals as goal

pub returns-in-Ok-load-clause-since : goal.returns-in-Ok-load-clause-since
returns-in-Ok-load-clause-since g c = λ told found left. since_attached found _ _ c.attach.ensures.idles left _ (c.load.ensures.since told found.care found.first found.other (left_attached found _ _ c.attach.ensures.idles left))

pub returns-in-Err-load-clause-since : goal.returns-in-Err-load-clause-since
returns-in-Err-load-clause-since g c = λ told found left. since_attached found _ _ c.attach.ensures.idles left _ (c.load.ensures.since told found.care found.first found.other (left_attached found _ _ c.attach.ensures.idles left))

pub returns-in-Err-load-clause-left : goal.returns-in-Err-load-clause-left
returns-in-Err-load-clause-left g c = λ told found left.
    unloaded_since found _ _ c.attach.ensures.idles left _ (c.load.ensures.since told found.care found.first found.other (left_attached found _ _ c.attach.ensures.idles left))
    (c.in-Err-load.ensures.left told found.care found.first found.other (left_attached found _ _ c.attach.ensures.idles left))

pub returns-in-Ok-load-clause-stands : goal.returns-in-Ok-load-clause-stands
returns-in-Ok-load-clause-stands g c = λ told found left. c.in-Ok-load.ensures.stands told found.care found.first found.other (left_attached found _ _ c.attach.ensures.idles left)

pub returns-in-Err-clause-left : goal.returns-in-Err-clause-left
returns-in-Err-clause-left g c = λ told found left. unloaded_attached found _ _ c.attach.ensures.idles left

pub returns-in-Err-load-clause-not_a_store : goal.returns-in-Err-load-clause-not_a_store
returns-in-Err-load-clause-not_a_store g c = λ told file at is.
    let given = c.in-Err-load.ensures.not_a_store told file at (refusal_is c.in-Err-load.refusal c.exit_of.result file at c.exit_of.ensures is) in
    (stops_before _ _ c.attach.ensures.idles file at given.0, narrows_on _ _ _ (idles_narrow _ _ c.attach.ensures.idles) given.1)

pub returns-in-Err-load-clause-stopped : goal.returns-in-Err-load-clause-stopped
returns-in-Err-load-clause-stopped g c = λ told file at stops. exit_is c.in-Err-load.refusal c.exit_of.result file at c.exit_of.ensures (c.in-Err-load.ensures.only told file at (stops_behind _ _ c.attach.ensures.idles file at stops))

pub returns-in-Ok-load-clause-stopped : goal.returns-in-Ok-load-clause-stopped
returns-in-Ok-load-clause-stopped g c = λ told file at stops. absurd (loaded_not_stopped c.in-Ok-load.session file at (c.in-Ok-load.ensures.only told file at (stops_behind _ _ c.attach.ensures.idles file at stops)))

pub returns-in-Ok-load-clause-finished : goal.returns-in-Ok-load-clause-finished
returns-in-Ok-load-clause-finished g c = λ told. finished_behind _ _ c.attach.ensures.idles _ (c.load.ensures.finished told)

pub returns-in-Err-load-clause-finished : goal.returns-in-Err-load-clause-finished
returns-in-Err-load-clause-finished g c = λ told. finished_behind _ _ c.attach.ensures.idles _ (c.load.ensures.finished told)

pub returns-in-Err-clause-finished : goal.returns-in-Err-clause-finished
returns-in-Err-clause-finished g c = λ told made. unnamed_narrowed _ _ (idles_narrow _ _ c.attach.ensures.idles)

pub returns-in-Ok-load-clause-no_fault : goal.returns-in-Ok-load-clause-no_fault
returns-in-Ok-load-clause-no_fault g c = (c.in-Ok-load.ensures.no_fault.0 ∙ c.in-Ok.ensures.no_fault, c.in-Ok-load.ensures.no_fault.1 ∙ c.attach.ensures.counts.writes)
