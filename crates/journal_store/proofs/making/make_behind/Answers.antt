use Rattle.std.proofs.Common.{◌≡◌, [], sym, ◌∙◌}
use Rattle.outside_traits.proofs.RunLemmas.{spans_on}
use Rattle.journal_store.specs.Readings.{generation_file, IsJournalFile, HaveBodies}
use Rattle.journal_store.proofs.MakingLemmas.{stands_beside, making_log, unfinished_root}
use Rattle.journal_store.proofs.making.make_behind.Goals as goal

pub returns-clause-crash : goal.returns-clause-crash
returns-clause-crash g c = λ told root.
    spans_on IsJournalFile (λ image. HaveBodies image 0 []) _ _ _
    (making_log _ _ (unfinished_root _ c.args.root c.requires.root root) c.create.ensures.alone)
    (c.name.ensures.crash told
    (stands_beside (generation_file 0) (λ x. Unit {0}) _ _ c.args.root [] (λ is. let e : 0 ≡ generation_file 0 = sym c.requires.root ∙ is in cc) c.create.ensures.alone root)
    (c.in_ok-log.ensures.made told))
