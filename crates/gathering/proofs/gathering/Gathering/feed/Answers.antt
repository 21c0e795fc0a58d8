use Rattle.std.proofs.Common.{sym, subst, List, [], ◌∷◌, ◌++◌}
use Rattle.plan_core.specs.Columns.{Rows}
use Rattle.plan_core.specs.PlainPlan.{plan_of, leaves}
use Rattle.plan_core.specs.PlanTyping.{Kinds}
use Rattle.plan_core.specs.TypedRows.{AreOfStreams}
use Rattle.growth_laws.specs.Growth.{whole_made}
use Rattle.gathering.specs.Gathered.{Gathers}
use Rattle.gathering.specs.Holding.{came_of, Follows}
use Rattle.gathering.proofs.Gatherings.{further_gathers}
use Rattle.gathering.proofs.OnOk.{on_ok}
use Rattle.gathering.proofs.gathering.Gathering.feed.Goals as goal

pub returns-clause-fed : goal.returns-clause-fed
returns-clause-fed c =
    let plan = plan_of c.self.inside.plan in
    let rows = c.args.rows.items in
    let old = came_of c.self.inside.going in
    let new = c.advance.new.going in
    on_ok c.advance.result
    ((fed : Rows) → Follows (whole_made plan (fed ∷ [])) old → Follows (whole_made plan ((fed ++ rows) ∷ [])) (came_of new))
    ((schemas : List Kinds) (fed : Rows) → AreOfStreams schemas (leaves c.args.self.now.plan) (rows ∷ []) → Gathers schemas fed c.args.self.now → Gathers schemas (fed ++ rows) (record { plan = plan; came = came_of new }))
    (λ follows schemas fed further gathers.
    further_gathers c.typed_plans_give_typed_rows.ensures schemas plan c.self.invariant.0 fed rows old new c.advance.ensures.sound (follows fed)
    (subst (λ g. AreOfStreams schemas (leaves g.plan) (rows ∷ [])) (sym c.self.view_is) further) (subst (Gathers schemas fed) (sym c.self.view_is) gathers))
    c.advance.ensures.follows
