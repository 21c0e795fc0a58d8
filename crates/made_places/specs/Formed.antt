-- Rewritings, ways and deltas that are formed: each is one of its own plan, whichever results are kept.
use Rattle.plan_core.specs.PlainPlan.{PlainPlan}
use Rattle.estimator.specs.Cuts.{Cuts}
use Rattle.rewrite_core.specs.declared.rewriting.Hit.{Hit}
use Rattle.rewrite_core.specs.declared.rewriting.Parts as parts
use Rattle.rewrite_core.specs.IsRewriting.{IsRewriting, IsWay, IsDelta, whichever}
use Rattle.rewrite_core.specs.PlainRewriting.{PlainRewriting, PlainWay, PlainDelta, Change, grown_way}
use Rattle.growth_laws.specs.Parts.{plan_at}

abbrev pub IsFormed : PlainRewriting → Type 0
IsFormed r = (cuts : Cuts) × IsRewriting whichever (plan_at r) cuts r

abbrev pub IsFormedWay : PlainPlan → PlainWay → Type 0
IsFormedWay plan way = (cuts : Cuts) × IsWay whichever plan cuts way

-- the parts of a grown result
abbrev pub AreFormed : PlainPlan → parts.Parts → Type 0
AreFormed plan parts = (hit : Hit) × IsFormedWay plan (grown_way hit parts)

abbrev pub delta_plan : PlainDelta → PlainPlan
delta_plan (Change plan old new way) = plan

abbrev pub IsFormedDelta : PlainDelta → Type 0
IsFormedDelta d = (old : Cuts) × (new : Cuts) × IsDelta whichever (delta_plan d) old new d
