use Rattle.std.proofs.Common.{sym, ◌∙◌}
use Rattle.std.specs.Option.{option_map}
use Rattle.std.proofs.lemmas.Bool.{false≢true}
use Rattle.plan_core.specs.PlainPlan.{plan_of}
use Rattle.growth_laws.specs.MadePlaces.{place}
use Rattle.executor.proofs.KeptAt.{finds_behind}
use Rattle.executor.proofs.keeping.+found_at.Goals as goal

pub returns-else-is_at : goal.returns-else-is_at
returns-else-is_at t c =
    finds_behind c.args.found.now c.made-item.result (place (plan_of c.args.plan.now) c.args.cuts.now) (option_map (λ made. made.now) c.found_at.result) c.in-len1-up.len_at_least c.made-item.is
    (λ is. false≢true (sym c.if-is_at.false ∙ c.is_at.ensures.1 is)) c.found_at.ensures
