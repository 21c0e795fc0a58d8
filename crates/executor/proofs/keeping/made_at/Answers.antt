use Rattle.std.proofs.Common.{sym, ◌∙◌}
use Rattle.std.specs.Option.{option_map}
use Rattle.std.proofs.lemmas.Bool.{false≢true}
use Rattle.plan_core.specs.PlainPlan.{plan_of}
use Rattle.growth_laws.specs.MadePlaces.{place}
use Rattle.executor.proofs.KeptAt.{finds_more}
use Rattle.executor.proofs.keeping.made_at.Goals as goal

pub returns-else-is_at : goal.returns-else-is_at
returns-else-is_at c =
    finds_more c.args.own.now c.args.found.now (place (plan_of c.args.plan.now) c.args.cuts.now) (option_map (λ made. made.now) c.found_at.result) (λ is. false≢true (sym c.if-is_at.false ∙ c.is_at.ensures.1 is)) c.found_at.ensures
