-- A grown result that is no piece by itself: its kept one is put first, and what is read behind it next.
use Rattle.std.proofs.Common.{ap, sym, ◌∙◌}
use Rattle.std.proofs.lemmas.Result.{on_ok_weaker}
use Rattle.plan_core.specs.PlainPlan.{plan_of}
use Rattle.rewrite_core.specs.PlainRewriting.{grown_way, way_of}
use Rattle.executor.specs.Pieces.{pieces_said}
use Rattle.executor.proofs.JoinedPieces.{pieces_of_grown}
use Rattle.executor.proofs.listing.+pieces.Goals as goal

pub put_rewriting-returns-in_ok-put_entry-in-Grown : goal.put_rewriting-returns-in_ok-put_entry-in-Grown
put_rewriting-returns-in_ok-put_entry-in-Grown t c =
    on_ok_weaker c.put_parts.result
    (λ behind. pieces_of_grown (plan_of c.args.tree.now.plan) c.args.tree.now.cuts (way_of c.args.tree.now.way) c.in-Grown.hit c.deref-in-Grown.result.now
    (pieces_said c.args.to.now.items) (pieces_said c.put_entry-in-Grown.new.to.items) (pieces_said c.put_parts.new.to.items)
    (ap way_of c.in-Grown.is ∙ ap (grown_way c.in-Grown.hit) (sym c.deref-in-Grown.ensures)) (sym c.is_gathered.ensures ∙ c.if-is_gathered.false) c.in_ok-put_entry-in-Grown.ensures behind)
    (c.put_parts.ensures (plan_of c.args.tree.now.plan) c.in-Grown.hit)
