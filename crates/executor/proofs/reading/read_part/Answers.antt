use Rattle.std.proofs.Common.{◌≡◌, ◌≢◌, sym, ap, ◌∙◌, subst, rules, ◌+◌, ◌-◌, ◌<◌, List, [], take, Err, IfErr, arith}
use Rattle.row_blob.specs.declared.kept.Kept.TheVariants as form
use Rattle.row_blob.specs.declared.shape.Shape.{Shape}
use Rattle.plan_core.specs.declared.plan.Plan as code
use Rattle.plan_core.specs.PlainPlan.{plan_of}
use Rattle.plan_laws.specs.PlanShape.{plan_shape}
use Rattle.rewrite_core.specs.Files.{FileName, Extent, Result}
use Rattle.growth_laws.specs.KeptResults.{KeptResults}
use Rattle.growth_laws.specs.Lists.{Extents}
use Rattle.growth_laws.specs.Pieces.{Piece}
use Rattle.extent_files.specs.Reads.{FoundIn}
use Rattle.executor.specs.declared.part.Part.{Part}
use Rattle.executor.specs.Progress.{files_left, IsPartOf, HasRead}
use Rattle.executor.specs.Running.{TookAtMost}
use Rattle.executor.specs.Sources.{HasTaken}
use Rattle.executor.proofs.PartSteps.{is_before, one_less, first_extent, extent_found, read_now, entry_found, stream_part, stream_read}
use Rattle.executor.proofs.RestSteps.{took_spelled}
use Rattle.executor.proofs.reading.read_part.Goals as goal

pub returns-in_err-load_entry-in-Entry-clause-found : goal.returns-in_err-load_entry-in-Entry-clause-found
returns-in_err-load_entry-in-Entry-clause-found g c =
    let same : c.from_residual.result ≡ Err c.in_err-load_entry-in-Entry.field-0.0 = search rules in
    let whole : c.deref.result.now ≡ c.in-Entry.plan.value = search rules in
    λ (name : FileName) (others : List FileName) left tells.
    let of_boxed = subst (λ (p : code.Plan). FoundIn (plan_shape (g.P.Places.stream_kinds c.args.places.now) (plan_of p)) (g.P.Places.files c.args.places.now (Result c.in-Entry.id)) (take (g.P.Places.files c.args.places.now (Result c.in-Entry.id)).len ((g.D.Store.view c.args.store.now).files (g.P.Places.files c.args.places.now (Result c.in-Entry.id)).file)) (g.D.Store.counts c.args.store.now) (g.D.Store.counts c.load_entry.new.store) c.in_err-load_entry-in-Entry.field-0.0) whole (c.in_err-load_entry-in-Entry.ensures.found tells) in
    entry_found c.in-Entry.plan c.in-Entry.id (λ (shape : Shape) (name : FileName). IfErr c.from_residual.result (FoundIn shape (g.P.Places.files c.args.places.now name) (take (g.P.Places.files c.args.places.now name).len ((g.D.Store.view c.args.store.now).files (g.P.Places.files c.args.places.now name).file)) (g.D.Store.counts c.args.store.now) (g.D.Store.counts c.load_entry.new.store))) (g.P.Places.stream_kinds c.args.places.now) c.args.part.now c.in-Entry.loaded c.in-Entry.is
    (rw same of_boxed) name others left

pub returns-in_err-feed_extent-in-Gathered-clause-found : goal.returns-in_err-feed_extent-in-Gathered-clause-found
returns-in_err-feed_extent-in-Gathered-clause-found g c =
    let same : c.from_residual-in_err-feed_extent-in-Gathered.result ≡ Err c.in_err-feed_extent-in-Gathered.field-0.0 = search rules in
    λ (name : FileName) (others : List FileName) left tells.
    extent_found (λ (shape : Shape) (name : FileName). IfErr c.from_residual-in_err-feed_extent-in-Gathered.result (FoundIn shape (g.P.Places.files c.args.places.now name) (take (g.P.Places.files c.args.places.now name).len ((g.D.Store.view c.args.store.now).files (g.P.Places.files c.args.places.now name).file)) (g.D.Store.counts c.args.store.now) (g.D.Store.counts c.feed_extent.new.store))) (g.P.Places.stream_kinds c.args.places.now) c.args.part.now c.in-Gathered.gathering c.in-Gathered.stream c.in-Gathered.next c.in-Gathered.end c.in-Gathered.is
    (rw same (c.in_err-feed_extent-in-Gathered.ensures.found tells)) name others left

pub overflow_add-next : goal.overflow_add-next
overflow_add-next g c = let before : c.in-Gathered.next < c.in-Gathered.end = is_before c.in-Gathered.stream c.in-Gathered.next c.in-Gathered.end (subst (λ (p : Part). files_left p ≢ []) c.in-Gathered.is c.requires.left) in omega arith

pub returns-in_ok-load_entry-in-Entry-clause-next : goal.returns-in_ok-load_entry-in-Entry-clause-next
returns-in_ok-load_entry-in-Entry-clause-next g c =
    let left = subst (λ (p : Part). files_left p ≢ []) c.in-Entry.is c.requires.left in
    (Result c.in-Entry.id, ap files_left c.in-Entry.is ∙ read_now c.in-Entry.plan c.in-Entry.id c.in-Entry.loaded c.load_entry.new.loaded _ left c.in_ok-load_entry-in-Entry.ensures.loaded.loaded_is)

pub returns-in_ok-feed_extent-in-Gathered-clause-next : goal.returns-in_ok-feed_extent-in-Gathered-clause-next
returns-in_ok-feed_extent-in-Gathered-clause-next g c =
    (Extent c.in-Gathered.stream c.in-Gathered.next, ap files_left c.in-Gathered.is ∙ one_less c.in-Gathered.stream c.in-Gathered.next c.in-Gathered.end (subst (λ (p : Part). files_left p ≢ []) c.in-Gathered.is c.requires.left))

pub returns-in_ok-feed_extent-in-Gathered-clause-part : goal.returns-in_ok-feed_extent-in-Gathered-clause-part
returns-in_ok-feed_extent-in-Gathered-clause-part g c =
    λ (piece : Piece) (is : IsPartOf (g.P.Places.stream_kinds c.args.places.now) piece c.args.part.now).
    stream_part (g.P.Places.stream_kinds c.args.places.now) c.in-Gathered.stream c.in-Gathered.next c.in-Gathered.end piece c.in-Gathered.gathering c.feed_extent.new.gathering _ _ _ _ _ (c.in-Gathered.next + 1)
    c.in_ok-feed_extent-in-Gathered.ensures.plan c.in_ok-feed_extent-in-Gathered.ensures.fed (subst (IsPartOf (g.P.Places.stream_kinds c.args.places.now) piece) c.in-Gathered.is is)

pub returns-in_ok-feed_extent-in-Gathered-clause-read : goal.returns-in_ok-feed_extent-in-Gathered-clause-read
returns-in_ok-feed_extent-in-Gathered-clause-read g c =
    λ (extents : Extents) (results : KeptResults) (piece : Piece) (name : FileName) (others : List FileName) names holds is read.
    let first = first_extent c.in-Gathered.stream c.in-Gathered.next (c.in-Gathered.end - c.in-Gathered.next) name others (ap files_left (sym c.in-Gathered.is) ∙ names) in
    let both = stream_read g.D.Store.tells (g.D.Store.view c.args.store.now).files (g.P.Places.files c.args.places.now) (g.P.Places.machines c.args.places.now) (g.P.Places.stream_kinds c.args.places.now) extents results (g.D.Store.counts c.args.store.now)
    (g.D.Store.counts c.feed_extent.new.store) piece c.in-Gathered.gathering c.feed_extent.new.gathering c.in-Gathered.stream c.in-Gathered.next c.in-Gathered.end (subst (λ (p : Part). files_left p ≢ []) c.in-Gathered.is c.requires.left) c.in_ok-feed_extent-in-Gathered.ensures.fed holds (subst (IsPartOf (g.P.Places.stream_kinds c.args.places.now) piece) c.in-Gathered.is is)
    (subst (HasRead (g.P.Places.stream_kinds c.args.places.now) extents results piece) c.in-Gathered.is read) in
    (both.0, subst (λ (n : FileName). HasTaken extents results n (g.D.Store.counts c.args.store.now) (g.D.Store.counts c.feed_extent.new.store)) first both.1)

pub returns-in_ok-load_entry-in-Entry-clause-most : goal.returns-in_ok-load_entry-in-Entry-clause-most
returns-in_ok-load_entry-in-Entry-clause-most g c = λ (name : FileName) (others : List FileName) left tells.
    let now = c.in_ok-load_entry-in-Entry.ensures.loaded.loads in
    entry_found c.in-Entry.plan c.in-Entry.id (λ (shape : Shape) (n : FileName). TookAtMost (g.P.Places.files c.args.places.now n).len (g.D.Store.counts c.args.store.now) (g.D.Store.counts c.load_entry.new.store))
    (g.P.Places.stream_kinds c.args.places.now) c.args.part.now c.in-Entry.loaded c.in-Entry.is
    (took_spelled (g.P.Places.files c.args.places.now (Result c.in-Entry.id)).len ((g.D.Store.view c.args.store.now).files (g.P.Places.files c.args.places.now (Result c.in-Entry.id)).file) now.form
    (g.D.Store.counts c.args.store.now) (g.D.Store.counts c.load_entry.new.store) (now.read.spelled tells) now.taken) name others left

pub returns-in_ok-feed_extent-in-Gathered-clause-most : goal.returns-in_ok-feed_extent-in-Gathered-clause-most
returns-in_ok-feed_extent-in-Gathered-clause-most g c = λ (name : FileName) (others : List FileName) left tells.
    let now = c.in_ok-feed_extent-in-Gathered.ensures.fed in
    extent_found (λ (shape : Shape) (n : FileName). TookAtMost (g.P.Places.files c.args.places.now n).len (g.D.Store.counts c.args.store.now) (g.D.Store.counts c.feed_extent.new.store))
    (g.P.Places.stream_kinds c.args.places.now) c.args.part.now c.in-Gathered.gathering c.in-Gathered.stream c.in-Gathered.next c.in-Gathered.end c.in-Gathered.is
    (took_spelled (g.P.Places.files c.args.places.now (Extent c.in-Gathered.stream c.in-Gathered.next)).len
    ((g.D.Store.view c.args.store.now).files (g.P.Places.files c.args.places.now (Extent c.in-Gathered.stream c.in-Gathered.next)).file) (form.Rows now.rows)
    (g.D.Store.counts c.args.store.now) (g.D.Store.counts c.feed_extent.new.store) (now.read.spelled tells) now.taken) name others left
