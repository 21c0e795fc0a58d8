use Rattle.std.proofs.Common.{sym, ap, ◌∙◌, map}
use Rattle.collector.specs.Candidates.{standing}
use Rattle.collector.specs.Standing.{standing_of, may_go}
use Rattle.collector.proofs.Lists.{passes_next, fails_next}
use Rattle.collector.proofs.collection.candidates.Goals.{then-may_go+in_ok-push, else-may_go}
use Rattle.collector.proofs.collection.candidates.Goals as goal

pub loop-entry-preserved : goal.loop-entry-preserved
loop-entry-preserved c =
    elim c.if-may_go.branch [
      | then-may_go+in_ok-push w ↦
          ap (λ v. map standing v.items) w.candidates-is ∙ ap (map standing) w.in_ok-push.ensures.items
          ∙ passes_next standing (standing_of c.args.now) (may_go (record { now = c.args.now; pinned = c.args.held.now; lease = c.args.lease })) c.loop-entry.candidates.items c.args.entries.now c.loop-entry.entry-index
          c.entry-item.result c.loop-entry-test.true c.entry-item.is w.new.result (sym c.may_go.ensures ∙ w.if-may_go.true) w.new.ensures c.loop-entry.invariant
      | else-may_go w ↦
          ap (λ v. map standing v.items) w.candidates-is
          ∙ fails_next standing (standing_of c.args.now) (may_go (record { now = c.args.now; pinned = c.args.held.now; lease = c.args.lease })) c.loop-entry.candidates.items c.args.entries.now c.loop-entry.entry-index
          c.entry-item.result c.loop-entry-test.true c.entry-item.is (sym c.may_go.ensures ∙ w.if-may_go.false) c.loop-entry.invariant
    ]
