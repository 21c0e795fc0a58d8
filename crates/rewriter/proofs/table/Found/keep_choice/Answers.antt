use Rattle.std.proofs.Common.{sym, subst}
use Rattle.plan_core.specs.PlainPlan.{plan_of}
use Rattle.rewriter.specs.Search.{IsChoice}
use Rattle.rewriter.specs.Table.{IsKnownChoice}
use Rattle.rewriter.proofs.Tables.{holds_more}
use Rattle.rewriter.proofs.table.Found.keep_choice.Goals as goal

pub returns : goal.returns
returns c = λ entries lengths found is. record {
  choices = holds_more (IsKnownChoice entries lengths) c.args.self.now.choices c.insert.new.self c.key.result _ c.in_ok-insert.ensures.updates.0
      (subst (λ cuts. IsChoice entries lengths (plan_of c.args.part.plan.now) cuts c.args.choice) (sym c.in_ok-cuts.ensures) is) found.choices;
  deltas = found.deltas;
}
