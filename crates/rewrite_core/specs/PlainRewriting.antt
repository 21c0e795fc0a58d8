-- A rewriting as plain data, with no word on memory: what all definitions and laws speak of.
use Rattle.plan_core.specs.PlainPlan.{PlainPlan, plan_of}
use Rattle.rewrite_core.specs.declared.rewriting.Hit.{Hit}
use Rattle.rewrite_core.specs.declared.rewriting.Rewriting as rewriting
use Rattle.rewrite_core.specs.declared.rewriting.Delta as delta
use Rattle.rewrite_core.specs.declared.rewriting.Way as way
use Rattle.rewrite_core.specs.declared.rewriting.Parts as parts
use Rattle.rewrite_core.specs.declared.rewriting.DeltaWay as delta_way
use Rattle.estimator.specs.Cuts.{Cuts}

mutual
  pub data PlainRewriting : Type 0 where
    Node : PlainPlan → Cuts → PlainWay → PlainRewriting

  pub data PlainWay : Type 0 where
    Scan : PlainWay
    One : PlainRewriting → PlainWay
    Two : PlainRewriting → PlainRewriting → PlainWay
    Read : Hit → PlainWay
    Tail : Hit → PlainDelta → PlainWay
    LeftGrew : Hit → PlainDelta → PlainRewriting → PlainWay
    RightGrew : Hit → PlainRewriting → PlainDelta → PlainWay
    BothGrew : Hit → PlainRewriting → PlainDelta → PlainDelta → PlainRewriting → PlainWay

  pub data PlainDelta : Type 0 where
    Change : PlainPlan → Cuts → Cuts → PlainDeltaWay → PlainDelta

  pub data PlainDeltaWay : Type 0 where
    Unchanged : PlainDeltaWay
    NewRows : PlainDeltaWay
    OfChild : PlainDelta → PlainDeltaWay
    OfDistinct : PlainRewriting → PlainDelta → PlainDeltaWay
    OfJoin : PlainDelta → PlainRewriting → PlainDeltaWay

-- what a rewriting of the code says
abbrev mutual
  pub way_of : way.Way → PlainWay
  way_of way.Scan = Scan
  way_of (way.One' p plan cuts way) = One (Node (plan_of plan) cuts (way_of way))
  way_of (way.Two' p plan cuts way q plan2 cuts2 way2) =
      Two (Node (plan_of plan) cuts (way_of way)) (Node (plan_of plan2) cuts2 (way_of way2))
  way_of (way.Read hit) = Read hit
  way_of (way.Grown' hit p parts) = grown_way hit parts

  pub grown_way : Hit → parts.Parts → PlainWay
  grown_way hit (parts.Tail' plan old new way) = Tail hit (Change (plan_of plan) old new (delta_way_of way))
  grown_way hit (parts.LeftGrew' dplan old new dway plan cuts way) =
      LeftGrew hit (Change (plan_of dplan) old new (delta_way_of dway)) (Node (plan_of plan) cuts (way_of way))
  grown_way hit (parts.RightGrew' plan cuts way dplan old new dway) =
      RightGrew hit (Node (plan_of plan) cuts (way_of way)) (Change (plan_of dplan) old new (delta_way_of dway))
  grown_way hit (parts.BothGrew' plan cuts way dplan old new dway dplan2 old2 new2 dway2 plan2 cuts2 way2) =
      BothGrew hit (Node (plan_of plan) cuts (way_of way)) (Change (plan_of dplan) old new (delta_way_of dway))
      (Change (plan_of dplan2) old2 new2 (delta_way_of dway2)) (Node (plan_of plan2) cuts2 (way_of way2))

  pub delta_way_of : delta_way.DeltaWay → PlainDeltaWay
  delta_way_of delta_way.Unchanged = Unchanged
  delta_way_of delta_way.Scan = NewRows
  delta_way_of (delta_way.Tail' p plan old new way) = OfChild (Change (plan_of plan) old new (delta_way_of way))
  delta_way_of (delta_way.Distinct' p plan cuts way q dplan old new dway) =
      OfDistinct (Node (plan_of plan) cuts (way_of way)) (Change (plan_of dplan) old new (delta_way_of dway))
  delta_way_of (delta_way.Join' p dplan old new dway q plan cuts way) =
      OfJoin (Change (plan_of dplan) old new (delta_way_of dway)) (Node (plan_of plan) cuts (way_of way))

abbrev pub rewriting_of : rewriting.Rewriting → PlainRewriting
rewriting_of r = Node (plan_of r.plan) r.cuts (way_of r.way)

abbrev pub delta_of : delta.Delta → PlainDelta
delta_of d = Change (plan_of d.plan) d.old d.new (delta_way_of d.way)
