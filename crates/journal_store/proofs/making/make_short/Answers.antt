use Rattle.std.proofs.Common.{◌≡◌, inl, [], sym, ◌∙◌, arith}
use Rattle.outside_traits.proofs.RunLemmas.{spans_on}
use Rattle.journal_store.specs.Readings.{generation_file, IsJournalFile, HaveBodies}
use Rattle.journal_store.proofs.MakingLemmas.{stands_beside, making_log, making_root, short_beside}
use Rattle.journal_store.proofs.making.make_short.Goals as goal

pub returns-in_err-root-clause-crash : goal.returns-in_err-root-clause-crash
returns-in_err-root-clause-crash g c = λ told short.
    spans_on IsJournalFile (λ image. HaveBodies image 0 []) _ _ _
    (making_log _ _ (λ x now. inl (short x now)) c.create.ensures.alone)
    (making_root _ _ (c.create-2.ensures.crash 9 (omega arith) (short_beside (generation_file 0) (λ x. Unit {0}) _ _ (λ is. cc) c.create.ensures.alone short)))

pub returns-clause-crash : goal.returns-clause-crash
returns-clause-crash g c = λ told short.
    spans_on IsJournalFile (λ image. HaveBodies image 0 []) _ _ _
    (making_log _ _ (λ x now. inl (short x now)) c.create.ensures.alone)
    (spans_on IsJournalFile (λ image. HaveBodies image 0 []) _ _ _
    (making_root _ _ (c.create-2.ensures.crash 9 (omega arith) (short_beside (generation_file 0) (λ x. Unit {0}) _ _ (λ is. cc) c.create.ensures.alone short)))
    (c.name.ensures.crash told (c.in_ok-root.ensures.made told)
    (stands_beside 0 (λ x. Unit {0}) _ _ c.in_ok-log.log [] (λ is. let e : generation_file 0 ≡ 0 = sym c.in_ok-log.ensures.file ∙ is in cc) c.create-2.ensures.alone (c.in_ok-log.ensures.made told))))
