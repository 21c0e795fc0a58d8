use Rattle.std.proofs.Common.{◌≡◌, sym, ap, subst, rules, List, [], Err}
use Rattle.plan_core.specs.PlainPlan.{plan_of}
use Rattle.plan_core.specs.PlanTyping.{Kinds}
use Rattle.growth_laws.specs.KeptResults.{KeptResults}
use Rattle.growth_laws.specs.Lists.{Extents}
use Rattle.growth_laws.specs.Parts.{plan_at, cuts_at}
use Rattle.rewrite_core.specs.PlainRewriting.{rewriting_of}
use Rattle.executor.specs.Recording.{recorded_below, AreMade, AreRecorded}
use Rattle.executor.specs.declared.recording.MadePlace.{MadePlace}
use Rattle.executor.specs.Outcomes.{AreSound}
use Rattle.executor.proofs.Ended.{refused, comes, none_before}
use Rattle.executor.proofs.making.outcome_of.Goals as goal

pub returns-in_err-made-clause-finishes : goal.returns-in_err-made-clause-finishes
returns-in_err-made-clause-finishes c = λ (extents : Extents) (results : KeptResults) held.
    let same : c.from_residual.result ≡ Err c.in_err-made.field-0.0 = search rules in
    rw same
    (refused extents results (rewriting_of c.args.rewriting.now) c.in_err-made.field-0.0
    (λ (s : AreSound extents results (rewriting_of c.args.rewriting.now)). c.results_of_rewritings.ensures.rows extents results (plan_at (rewriting_of c.args.rewriting.now)) (cuts_at (rewriting_of c.args.rewriting.now)) (rewriting_of c.args.rewriting.now) s.named)
    (c.in_err-made.ensures.made extents results held))

pub returns-clause-finishes : goal.returns-clause-finishes
returns-clause-finishes c = λ (extents : Extents) (results : KeptResults) held.
    let r = rewriting_of c.args.rewriting.now in
    let made = c.in_ok-made.ensures.made extents results held in
    let are : AreMade extents results (recorded_below (rewriting_of c.args.rewriting.now)) c.as_slice.result.now =
    subst (AreMade extents results (recorded_below (rewriting_of c.args.rewriting.now))) (sym c.as_slice.ensures.value)
    (none_before extents results (recorded_below (rewriting_of c.args.rewriting.now)) c.evaluate_recording.new.found.items
    (subst (λ (old : List MadePlace). AreRecorded extents results (recorded_below (rewriting_of c.args.rewriting.now)) old c.evaluate_recording.new.found.items) c.new-found.ensures.items
    (c.in_ok-made.ensures.recorded extents results held))) in
    comes extents results r c.in_ok-made.made c.as_slice.result.now
    (λ (s : AreSound extents results (rewriting_of c.args.rewriting.now)). c.results_of_rewritings.ensures.rows extents results (plan_at r) (cuts_at r) r s.named)
    (λ (s : AreSound extents results (rewriting_of c.args.rewriting.now)). c.results_of_rewritings.ensures.machine extents results (plan_at r) (cuts_at r) r s.named)
    (λ (own : MadePlace) (s : AreSound extents results (rewriting_of c.args.rewriting.now)) here. c.made_results_are_results.ensures.any extents results r own c.as_slice.result.now s.named here are)
    (λ (own : MadePlace) (s : AreSound extents results (rewriting_of c.args.rewriting.now)) here given within. c.made_results_are_results.ensures.each extents results r own c.as_slice.result.now s.named here are given s.stored.within within)
    made.0 made.1 c.outcome_of_made.result c.outcome_of_made.ensures.comes

pub returns-clause-kinds : goal.returns-clause-kinds
returns-clause-kinds c = λ (schemas : List Kinds) typed fit. c.outcome_of_made.ensures.kinds schemas (c.in_ok-made.ensures.fit schemas typed fit)
