use Rattle.std.proofs.Common.{◌∙◌, ◌<◌, sym, ap, arith}
use Rattle.plan_core.specs.PlainPlan.{leaves}
use Rattle.catalog_core.specs.Catalogs.{table_of}
use Rattle.catalog_core.specs.Streams.{states_of}
use Rattle.rows_core.specs.Limits.{most_ticks}
use Rattle.planning.specs.Fetching.{fetched_cuts}
use Rattle.planning.proofs.Fetches.{target, is_fetch, is_planned}
use Rattle.planning.proofs.Stored.{same_cuts}
use Rattle.planning.proofs.fetching.fetch_of.Goals as goal

pub returns-then-as_run-clause-ok : goal.returns-then-as_run-clause-ok
returns-then-as_run-clause-ok c = λ program is.
    let t = table_of c.args.catalog.now in
    let low : t.tick < most_ticks = omega (arith, c.tick.ensures, c.if-tick-ge-MAX_TICKS.false) in
    let same = is.cuts_are ∙ sym (ap (λ b. fetched_cuts b t.streams program c.args.stored.typed.plan) c.if-as_run.true) in (
      target t program c.args.stored is c.args.as_run,
      is_fetch t program c.args.stored is c.args.as_run low,
      is_planned t program c.args.stored is c.args.as_run c.counts_are_of_the_written_plan.ensures.limits c.args.stored.cuts same low,
    )

pub returns-in-Ok-clause-ok : goal.returns-in-Ok-clause-ok
returns-in-Ok-clause-ok c = λ program is.
    let t = table_of c.args.catalog.now in
    let low : t.tick < most_ticks = omega (arith, c.tick.ensures, c.if-tick-ge-MAX_TICKS.false) in
    let whole = c.new.ensures ∙ c.in-Ok.ensures ∙ same_cuts (states_of c.streams.result.now) t.streams c.leaves.result.now (leaves c.args.stored.typed.plan) c.streams.ensures.states (c.leaves.ensures.leaves ∙ c.leaves.ensures.typed.1) in
    let same = whole ∙ sym (ap (λ b. fetched_cuts b t.streams program c.args.stored.typed.plan) c.if-as_run.false) in (
      target t program c.args.stored is c.args.as_run,
      is_fetch t program c.args.stored is c.args.as_run low,
      is_planned t program c.args.stored is c.args.as_run c.counts_are_of_the_written_plan.ensures.limits c.new.result same low,
    )
