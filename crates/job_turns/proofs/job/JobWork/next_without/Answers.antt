use Rattle.std.proofs.Common.{◌∙◌, ap, sym}
use Rattle.std.specs.List.{list_any}
use Rattle.entry_table.specs.Ids.{is_among}
use Rattle.job_turns.proofs.Chosen.{none-of, one-of}
use Rattle.job_turns.proofs.job.JobWork.next_without.Goals as goal

pub returns-then-not-has_one_of : goal.returns-then-not-has_one_of
returns-then-not-has_one_of c =
    none-of c.args.self.now.work.used.items c.args.dropped.now
    (ap (list_any (is_among c.args.dropped.now)) (sym c.deref.ensures.value) ∙ sym c.has_one_of.ensures ∙ c.if-not-has_one_of.true)

pub returns : goal.returns
returns c = (
  one-of c.args.self.now.work.used.items c.args.dropped.now (ap (list_any (is_among c.args.dropped.now)) (sym c.deref.ensures.value) ∙ sym c.has_one_of.ensures ∙ c.if-not-has_one_of.false),
  λ plan is. (c.in_ok-chosen_again.ensures.again plan is, c.in_ok-chosen_again.ensures.job plan is),
)
