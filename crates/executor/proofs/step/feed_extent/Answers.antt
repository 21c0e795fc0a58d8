use Rattle.plan_core.specs.Columns.{Rows}
use Rattle.gathering.specs.Gathered.{Gathers}
use Rattle.executor.proofs.PartSteps.{scanned, fed_typed, fed_of_stream}
use Rattle.executor.proofs.step.feed_extent.Goals as goal

pub read_extent-requires-clause-typed : goal.read_extent-requires-clause-typed
read_extent-requires-clause-typed g c = scanned (g.P.Places.stream_kinds c.args.places.now) c.args.stream c.requires.part.0 c.args.gathering.now c.requires.part.1

pub feed-requires : goal.feed-requires
feed-requires g c =
    fed_typed (g.P.Places.stream_kinds c.args.places.now) c.args.stream c.requires.part.0 c.args.gathering.now c.requires.part.1 c.in_ok-rows.rows.items c.in_ok-rows.ensures.rows.of_shape

pub returns-clause-fed : goal.returns-clause-fed
returns-clause-fed g c =
    let of_stream = fed_of_stream (g.P.Places.stream_kinds c.args.places.now) c.args.stream c.requires.part.0 c.args.gathering.now c.requires.part.1 c.in_ok-rows.rows.items c.in_ok-rows.ensures.rows.of_shape in
    record {
      rows = c.in_ok-rows.rows.items;
      read = c.in_ok-rows.ensures.rows;
      taken = c.in_ok-rows.ensures.taken;
      gathers = λ (fed : Rows) (before : Gathers (g.P.Places.stream_kinds c.args.places.now) fed c.args.gathering.now). c.in_ok-feed.ensures.fed (g.P.Places.stream_kinds c.args.places.now) fed of_stream before;
    }
