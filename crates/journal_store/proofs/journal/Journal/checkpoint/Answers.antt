use Rattle.std.proofs.Common.{◌≡◌, ap, ◌∙◌, subst}
use Rattle.std.specs.Prelude.{false, OnOk, OnErr}
use Rattle.outside_traits.specs.Counts.{Rose}
use Rattle.outside_traits.proofs.RunLemmas.{spans_on}
use Rattle.journal_store.specs.Readings.{generation_file, IsJournalFile}
use Rattle.journal_store.specs.Journals.{HaveFormerOrNext}
use Rattle.journal_store.proofs.Checkpointing.{removing_former, removed_keeps, removed_stable, removed_root, removed_log, gone_or_counted}
use Rattle.journal_store.proofs.journal.Journal.checkpoint.Goals as goal

pub returns-clause-images : goal.returns-clause-images
returns-clause-images g c = λ told h bodies keeps.
    spans_on IsJournalFile (λ image. HaveFormerOrNext image h bodies c.args.body.now) _ _ _
    (c.name_next.ensures.images told h bodies keeps)
    (removing_former _ _ c.file-former.result h (c.file-former.ensures ∙ ap generation_file keeps.is_generation) c.remove.ensures.acts c.in_ok-next.next bodies c.args.body.now (c.in_ok-next.ensures.committed told h bodies keeps))

pub returns-clause-committed : goal.returns-clause-committed
returns-clause-committed g c = λ told h bodies keeps.
    removed_keeps _ _ c.file-former.result h (c.file-former.ensures ∙ ap generation_file keeps.is_generation) c.remove.ensures.acts c.in_ok-next.next c.args.body.now (c.in_ok-next.ensures.committed told h bodies keeps)

pub returns-clause-stable : goal.returns-clause-stable
returns-clause-stable g c = λ told h bodies keeps.
    removed_stable _ _ c.file-former.result h (c.file-former.ensures ∙ ap generation_file keeps.is_generation) c.remove.ensures.acts (c.in_ok-next.ensures.stable told h bodies keeps)

pub returns-clause-root_bytes : goal.returns-clause-root_bytes
returns-clause-root_bytes g c = λ told h bodies keeps.
    removed_root _ _ c.file-former.result h (c.file-former.ensures ∙ ap generation_file keeps.is_generation) c.remove.ensures.acts ∙ c.in_ok-next.ensures.root_bytes told h bodies keeps

pub returns-clause-bytes : goal.returns-clause-bytes
returns-clause-bytes g c = λ told.
    removed_log _ _ c.file-former.result c.args.self.generation c.file-former.ensures c.remove.ensures.acts ∙ c.in_ok-next.ensures.bytes told

pub returns-clause-gone : goal.returns-clause-gone
returns-clause-gone g c = λ told.
    gone_or_counted c.remove.result _ _
    (subst (λ n. OnErr c.remove.result (Rose n (g.D.Store.counts c.remove.new.self).removes)) c.name_next.ensures.counts.removes c.remove.ensures.cause)
    (subst (λ f. OnOk c.remove.result ((g.D.Store.view c.remove.new.self).there f ≡ false)) c.file-former.ensures (c.remove.ensures.removed told))
