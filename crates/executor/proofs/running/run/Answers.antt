use Rattle.std.proofs.Common.{◌≡◌, ◌≢◌, sym, ap, ◌∙◌, subst, ◌+◌, List, [], ◌∷◌, ◌++◌, IsSome}
use Rattle.std.proofs.lemmas.Result.{err_from_is_err_and}
use Rattle.plan_core.specs.PlainPlan.{PlainPlan, plan_of}
use Rattle.plan_core.specs.PlanTyping.{plan_kinds}
use Rattle.growth_laws.specs.KeptResults.{KeptResults}
use Rattle.growth_laws.specs.Lists.{Extents}
use Rattle.growth_laws.specs.Parts.{plan_at}
use Rattle.growth_laws.specs.Pieces.{pieces_of}
use Rattle.estimator.specs.Bytes.{capped}
use Rattle.rewrite_core.specs.Files.{FileName, files_of}
use Rattle.rewrite_core.specs.PlainRewriting.{PlainRewriting, rewriting_of}
use Rattle.executor.proofs.Typings.{kinds_there}
use Rattle.executor.specs.Outcomes.{AreReadAs}
use Rattle.executor.specs.Progress.{ArePartsOf}
use Rattle.executor.specs.Running.{EndsOver, kept_bytes}
use Rattle.executor.specs.Runs.{IsRunFound, EndsAt}
use Rattle.executor.specs.Sources.{sources}
use Rattle.executor.specs.declared.refusal.RunRefusal.{RunRefusal}
use Rattle.executor.proofs.LostResults.{ends_at}
use Rattle.executor.proofs.RunEnds.{read_found, made_early, finishes_as, kinds_as, kept_from_as, all_read}
use Rattle.executor.proofs.running.run.Goals as goal

cons≢nil : (name : FileName) (names : List FileName) → name ∷ names ≡ [] → ⊥
cons≢nil name names e = absurd (cc)

pub read_rest-requires-clause-parts : goal.read_rest-requires-clause-parts
read_rest-requires-clause-parts g c = (pieces_of (rewriting_of c.args.rewriting), c.in_ok-job.ensures.parts (g.P.Places.stream_kinds c.args.places.now) c.requires.typed)

pub lost_at-requires : goal.lost_at-requires
lost_at-requires g c = let stops = c.in-Err.ensures.stops in subst (λ (names : List FileName). names ≢ []) (sym stops.next) (λ none. cons≢nil stops.name stops.others none)

pub returns-in-Err-clause-found : goal.returns-in-Err-clause-found
returns-in-Err-clause-found g c = λ tells.
    let from = sources g.D.Store.tells (g.D.Store.view c.args.store.now).files (g.P.Places.files c.args.places.now) (g.P.Places.machines c.args.places.now) (g.P.Places.stream_kinds c.args.places.now) in
    subst (IsRunFound from (pieces_of (rewriting_of c.args.rewriting)) (files_of (rewriting_of c.args.rewriting))) (sym c.from.ensures)
    (read_found from (pieces_of (rewriting_of c.args.rewriting)) _ c.in-Err.refusal
    (subst (λ (names : List FileName). EndsOver from (pieces_of (rewriting_of c.args.rewriting)) names c.in-Err.refusal) c.in_ok-job.ensures.left
    (c.in-Err.ensures.found (pieces_of (rewriting_of c.args.rewriting)) (c.in_ok-job.ensures.parts (g.P.Places.stream_kinds c.args.places.now) c.requires.typed) tells)))

pub returns-in-Err-clause-lost : goal.returns-in-Err-clause-lost
returns-in-Err-clause-lost g c =
    let kinds = g.P.Places.stream_kinds c.args.places.now in
    let r = rewriting_of c.args.rewriting in
    let from = sources g.D.Store.tells (g.D.Store.view c.args.store.now).files (g.P.Places.files c.args.places.now) (g.P.Places.machines c.args.places.now) kinds in
    let old = g.D.Store.counts c.args.store.now in
    let new = g.D.Store.counts c.read_rest.new.store in
    let stops = c.in-Err.ensures.stops in
    let counted = c.read_rest.ensures.counted stops.read.names stops.read.left ∙ ap (λ n. capped (n + kept_bytes from.places stops.read.names)) c.in_ok-job.ensures.taken in
    let split = sym c.in_ok-job.ensures.left ∙ stops.read.left ∙ ap (λ (names : List FileName). stops.read.names ++ names) stops.next in
    subst (λ (why : RunRefusal). EndsAt from r old new why c.lost_at.result) (sym c.from.ensures)
    (ends_at from r old stops.half new stops.read.names
    (λ extents results hold. (stops.read.read extents results (pieces_of r) hold (c.in_ok-job.ensures.parts kinds c.requires.typed) (c.in_ok-job.ensures.read kinds extents results c.requires.typed)).1)
    stops.read.no_fault c.read_rest.new.job.taken counted stops.name stops.others c.in-Err.refusal c.lost_at.result split stops.cause stops.found (c.lost_at.ensures stops.name stops.others stops.next))

pub into_outcome-requires-clause-parts : goal.into_outcome-requires-clause-parts
into_outcome-requires-clause-parts g c =
    let kinds = g.P.Places.stream_kinds c.args.places.now in
    let same : rewriting_of c.read_rest.new.job.rewriting ≡ rewriting_of c.args.rewriting = ap rewriting_of c.in-Ok.ensures.rewriting ∙ c.in_ok-job.ensures.rewriting in (
      kinds,
      subst (λ (p : PlainPlan). IsSome (plan_kinds kinds p)) (sym (ap plan_at same)) (kinds_there kinds (plan_of c.args.rewriting.plan) c.requires.typed),
      subst (λ (r : PlainRewriting). ArePartsOf kinds (pieces_of r) c.read_rest.new.job.parts.items) (sym same)
          (c.in-Ok.ensures.read.parts (pieces_of (rewriting_of c.args.rewriting)) (c.in_ok-job.ensures.parts kinds c.requires.typed)),
    )

pub returns-in_err-into_outcome-in-Ok-clause-outcome : goal.returns-in_err-into_outcome-in-Ok-clause-outcome
returns-in_err-into_outcome-in-Ok-clause-outcome g c = λ (extents : Extents) (results : KeptResults) hold.
    let p = err_from_is_err_and c.from_residual-in_err-into_outcome-in-Ok.result c.from_residual-in_err-into_outcome-in-Ok.ensures.1 in
    let kinds = g.P.Places.stream_kinds c.args.places.now in
    let same : rewriting_of c.read_rest.new.job.rewriting ≡ rewriting_of c.args.rewriting = ap rewriting_of c.in-Ok.ensures.rewriting ∙ c.in_ok-job.ensures.rewriting in
    let all = all_read _ (rewriting_of c.args.rewriting) _ _ _ _ c.in-Ok.ensures.read c.in-Ok.ensures.left c.in_ok-job.ensures.left extents results hold
    (c.in_ok-job.ensures.parts kinds c.requires.typed) (c.in_ok-job.ensures.read kinds extents results c.requires.typed) c.requires.cuts in
    let there = subst (λ (r : PlainRewriting). AreReadAs kinds extents results r c.read_rest.new.job.parts.items) (sym same) all.0 in
    let finishes = finishes_as extents results (rewriting_of c.read_rest.new.job.rewriting) (rewriting_of c.args.rewriting) _ same (c.in_err-into_outcome-in-Ok.ensures.finishes kinds extents results there) in
    rw (p.1, p.2) (made_early extents results (rewriting_of c.args.rewriting) _ _ c.in_err-into_outcome-in-Ok.field-0.0 (finishes, all.1))

pub returns-in_ok-into_outcome-in-Ok-clause-outcome : goal.returns-in_ok-into_outcome-in-Ok-clause-outcome
returns-in_ok-into_outcome-in-Ok-clause-outcome g c = λ (extents : Extents) (results : KeptResults) hold.
    let kinds = g.P.Places.stream_kinds c.args.places.now in
    let same : rewriting_of c.read_rest.new.job.rewriting ≡ rewriting_of c.args.rewriting = ap rewriting_of c.in-Ok.ensures.rewriting ∙ c.in_ok-job.ensures.rewriting in
    let all = all_read _ (rewriting_of c.args.rewriting) _ _ _ _ c.in-Ok.ensures.read c.in-Ok.ensures.left c.in_ok-job.ensures.left extents results hold
    (c.in_ok-job.ensures.parts kinds c.requires.typed) (c.in_ok-job.ensures.read kinds extents results c.requires.typed) c.requires.cuts in
    let there = subst (λ (r : PlainRewriting). AreReadAs kinds extents results r c.read_rest.new.job.parts.items) (sym same) all.0 in
    (finishes_as extents results (rewriting_of c.read_rest.new.job.rewriting) (rewriting_of c.args.rewriting) _ same (c.in_ok-into_outcome-in-Ok.ensures.finishes kinds extents results there), all.1)

pub returns-in_ok-into_outcome-in-Ok-clause-kinds : goal.returns-in_ok-into_outcome-in-Ok-clause-kinds
returns-in_ok-into_outcome-in-Ok-clause-kinds g c =
    let kinds = g.P.Places.stream_kinds c.args.places.now in
    let same : rewriting_of c.read_rest.new.job.rewriting ≡ rewriting_of c.args.rewriting = ap rewriting_of c.in-Ok.ensures.rewriting ∙ c.in_ok-job.ensures.rewriting in
    let typed = subst (λ (p : PlainPlan). IsSome (plan_kinds kinds p)) (sym (ap plan_at same)) (kinds_there kinds (plan_of c.args.rewriting.plan) c.requires.typed) in
    let are = subst (λ (r : PlainRewriting). ArePartsOf kinds (pieces_of r) c.read_rest.new.job.parts.items) (sym same)
    (c.in-Ok.ensures.read.parts (pieces_of (rewriting_of c.args.rewriting)) (c.in_ok-job.ensures.parts kinds c.requires.typed)) in
    kinds_as kinds (rewriting_of c.read_rest.new.job.rewriting) (rewriting_of c.args.rewriting) _ same (c.in_ok-into_outcome-in-Ok.ensures.kinds kinds typed are)

pub returns-in_ok-into_outcome-in-Ok-clause-places : goal.returns-in_ok-into_outcome-in-Ok-clause-places
returns-in_ok-into_outcome-in-Ok-clause-places g c =
    let same : rewriting_of c.read_rest.new.job.rewriting ≡ rewriting_of c.args.rewriting = ap rewriting_of c.in-Ok.ensures.rewriting ∙ c.in_ok-job.ensures.rewriting in
    kept_from_as (rewriting_of c.read_rest.new.job.rewriting) (rewriting_of c.args.rewriting) _ same c.in_ok-into_outcome-in-Ok.ensures.places
