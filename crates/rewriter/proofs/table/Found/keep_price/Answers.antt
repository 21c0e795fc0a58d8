use Rattle.std.proofs.Common.{sym, subst}
use Rattle.plan_core.specs.PlainPlan.{plan_of}
use Rattle.rewriter.specs.Search.{IsDeltaPriceIfAny}
use Rattle.rewriter.specs.Table.{IsKnownDelta}
use Rattle.rewriter.proofs.Tables.{holds_more}
use Rattle.rewriter.proofs.table.Found.keep_price.Goals as goal

pub returns : goal.returns
returns c = λ entries lengths found is. record {
  choices = found.choices;
  deltas = holds_more (IsKnownDelta entries lengths) c.args.self.now.deltas c.insert.new.self c.key_of.result _ c.in_ok-insert.ensures.updates.0
      (subst (λ old. IsDeltaPriceIfAny entries lengths (plan_of c.args.stretch.plan.now) old c.in_ok-new.new c.args.price) (sym c.in_ok-old.ensures)
      (subst (λ new. IsDeltaPriceIfAny entries lengths (plan_of c.args.stretch.plan.now) c.args.stretch.old.now new c.args.price) (sym c.in_ok-new.ensures) is)) found.deltas;
}
