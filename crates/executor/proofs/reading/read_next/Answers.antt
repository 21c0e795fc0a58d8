use Rattle.std.proofs.Common.{◌≡◌, ◌≢◌, sym, ap, ◌∙◌, subst, rules, ◌+◌, ◌<◌, List, [], ◌∷◌, length, take, Err, IfErr, arith}
use Rattle.row_blob.specs.declared.shape.Shape.{Shape}
use Rattle.estimator.specs.Bytes.{capped}
use Rattle.rewrite_core.specs.Files.{FileName}
use Rattle.growth_laws.specs.KeptResults.{KeptResults}
use Rattle.growth_laws.specs.Lists.{Extents}
use Rattle.growth_laws.specs.Pieces.{Piece}
use Rattle.extent_files.specs.Reads.{HasCause, FoundIn}
use Rattle.executor.specs.declared.part.Part.{Part}
use Rattle.executor.specs.Firsts.{IsFirst}
use Rattle.executor.specs.Progress.{files_left, left_in}
use Rattle.executor.specs.Running.{TookAtMost}
use Rattle.executor.specs.Sources.{sources}
use Rattle.executor.proofs.Updates.{is_within}
use Rattle.executor.proofs.NextParts.{left_of_next, next_there, next_part, next_name, next_found, next_less, job_parts, job_read}
use Rattle.executor.proofs.reading.read_next.Goals as goal

pub next_of-next-requires : goal.next_of-next-requires
next_of-next-requires g c = subst (λ (xs : List Part). left_in xs ≢ []) (sym c.as_slice.ensures.value) c.requires.left

pub index_mut-part-requires : goal.index_mut-part-requires
index_mut-part-requires g c =
    let within : c.next_of-next.result < length c.args.job.now.parts.items = is_within files_left c.args.job.now.parts.items c.next_of-next.result (subst (λ (xs : List Part). IsFirst files_left xs c.next_of-next.result) c.as_slice.ensures.value c.next_of-next.ensures) in omega (arith, c.args.job.now.parts.ok.0)

pub next_len-len-requires-clause-left : goal.next_len-len-requires-clause-left
next_len-len-requires-clause-left g c = left_of_next c.args.job.now.parts.items c.next_of-next.result c.index_mut-part.result.now (subst (λ (xs : List Part). IsFirst files_left xs c.next_of-next.result) c.as_slice.ensures.value c.next_of-next.ensures) c.index_mut-part.ensures.value

pub next_len-len-requires-clause-there : goal.next_len-len-requires-clause-there
next_len-len-requires-clause-there g c = next_there c.args.job.now.parts.items c.next_of-next.result c.index_mut-part.result.now (subst (λ (xs : List Part). IsFirst files_left xs c.next_of-next.result) c.as_slice.ensures.value c.next_of-next.ensures) c.index_mut-part.ensures.value (g.P.Places.has c.args.places.now) c.requires.there

pub read_part-requires-clause-left : goal.read_part-requires-clause-left
read_part-requires-clause-left g c = left_of_next c.args.job.now.parts.items c.next_of-next.result c.index_mut-part.result.now (subst (λ (xs : List Part). IsFirst files_left xs c.next_of-next.result) c.as_slice.ensures.value c.next_of-next.ensures) c.index_mut-part.ensures.value

pub read_part-requires-clause-there : goal.read_part-requires-clause-there
read_part-requires-clause-there g c = next_there c.args.job.now.parts.items c.next_of-next.result c.index_mut-part.result.now (subst (λ (xs : List Part). IsFirst files_left xs c.next_of-next.result) c.as_slice.ensures.value c.next_of-next.ensures) c.index_mut-part.ensures.value (g.P.Places.has c.args.places.now) c.requires.there

pub read_part-requires-clause-part : goal.read_part-requires-clause-part
read_part-requires-clause-part g c = next_part c.args.job.now.parts.items c.next_of-next.result c.index_mut-part.result.now (subst (λ (xs : List Part). IsFirst files_left xs c.next_of-next.result) c.as_slice.ensures.value c.next_of-next.ensures) c.index_mut-part.ensures.value (g.P.Places.stream_kinds c.args.places.now) c.requires.parts.0 c.requires.parts.1

pub returns-in_err-read_part-clause-cause : goal.returns-in_err-read_part-clause-cause
returns-in_err-read_part-clause-cause g c =
    let same : c.from_residual.result ≡ Err c.in_err-read_part.field-0.0 = search rules in
    next_name c.args.job.now.parts.items c.next_of-next.result c.index_mut-part.result.now (subst (λ (xs : List Part). IsFirst files_left xs c.next_of-next.result) c.as_slice.ensures.value c.next_of-next.ensures) c.index_mut-part.ensures.value (λ (name : FileName). IfErr c.from_residual.result (HasCause (g.P.Places.files c.args.places.now name) (g.D.Store.counts c.args.store.now) (g.D.Store.counts c.read_part.new.store)))
    (λ (name : FileName) (others : List FileName) left. rw same (c.in_err-read_part.ensures.cause name others left))

pub returns-in_err-read_part-clause-found : goal.returns-in_err-read_part-clause-found
returns-in_err-read_part-clause-found g c =
    let same : c.from_residual.result ≡ Err c.in_err-read_part.field-0.0 = search rules in
    λ (next : Part) (name : FileName) (others : List FileName) is left tells.
    next_found c.args.job.now.parts.items c.next_of-next.result c.index_mut-part.result.now (subst (λ (xs : List Part). IsFirst files_left xs c.next_of-next.result) c.as_slice.ensures.value c.next_of-next.ensures) c.index_mut-part.ensures.value (λ (shape : Shape) (name : FileName). IfErr c.from_residual.result (FoundIn shape (g.P.Places.files c.args.places.now name) (take (g.P.Places.files c.args.places.now name).len ((g.D.Store.view c.args.store.now).files (g.P.Places.files c.args.places.now name).file)) (g.D.Store.counts c.args.store.now) (g.D.Store.counts c.read_part.new.store))) (g.P.Places.stream_kinds c.args.places.now)
    (λ (name : FileName) (others : List FileName) left. rw same (c.in_err-read_part.ensures.found name others left tells)) next name others is left

pub returns-clause-next : goal.returns-clause-next
returns-clause-next g c =
    let less = c.in_ok-read_part.ensures.next in (less.0, next_less c.args.job.now.parts.items c.next_of-next.result c.index_mut-part.result.now (subst (λ (xs : List Part). IsFirst files_left xs c.next_of-next.result) c.as_slice.ensures.value c.next_of-next.ensures) c.index_mut-part.ensures.value c.read_part.new.part less.0 less.1)

pub returns-clause-parts : goal.returns-clause-parts
returns-clause-parts g c = job_parts c.args.job.now.parts.items c.next_of-next.result c.index_mut-part.result.now (subst (λ (xs : List Part). IsFirst files_left xs c.next_of-next.result) c.as_slice.ensures.value c.next_of-next.ensures) c.index_mut-part.ensures.value c.read_part.new.part (g.P.Places.stream_kinds c.args.places.now) c.in_ok-read_part.ensures.part

pub returns-clause-read : goal.returns-clause-read
returns-clause-read g c =
    λ (extents : Extents) (results : KeptResults) (pieces : List Piece) (name : FileName) (others : List FileName) left holds are have.
    let less = c.in_ok-read_part.ensures.next in
    job_read c.args.job.now.parts.items c.next_of-next.result c.index_mut-part.result.now (subst (λ (xs : List Part). IsFirst files_left xs c.next_of-next.result) c.as_slice.ensures.value c.next_of-next.ensures) c.index_mut-part.ensures.value c.read_part.new.part (sources g.D.Store.tells (g.D.Store.view c.args.store.now).files (g.P.Places.files c.args.places.now) (g.P.Places.machines c.args.places.now) (g.P.Places.stream_kinds c.args.places.now)) extents results (g.D.Store.counts c.args.store.now) (g.D.Store.counts c.read_part.new.store)
    c.in_ok-read_part.ensures.part (c.in_ok-read_part.ensures.read extents results) less.0 less.1 pieces name others left holds are have

pub returns-clause-counted : goal.returns-clause-counted
returns-clause-counted g c = λ (name : FileName) (others : List FileName) left.
    let len : c.next_len-len.result ≡ (g.P.Places.files c.args.places.now name).len =
    next_name c.args.job.now.parts.items c.next_of-next.result c.index_mut-part.result.now (subst (λ (xs : List Part). IsFirst files_left xs c.next_of-next.result) c.as_slice.ensures.value c.next_of-next.ensures) c.index_mut-part.ensures.value
    (λ (n : FileName). c.next_len-len.result ≡ (g.P.Places.files c.args.places.now n).len) c.next_len-len.ensures name others left in
    c.saturating_add-job.ensures ∙ ap (λ n. capped (c.args.job.now.taken + n)) len

pub returns-clause-most : goal.returns-clause-most
returns-clause-most g c = λ (name : FileName) (others : List FileName) left tells.
    next_name c.args.job.now.parts.items c.next_of-next.result c.index_mut-part.result.now (subst (λ (xs : List Part). IsFirst files_left xs c.next_of-next.result) c.as_slice.ensures.value c.next_of-next.ensures) c.index_mut-part.ensures.value
    (λ (n : FileName). TookAtMost (g.P.Places.files c.args.places.now n).len (g.D.Store.counts c.args.store.now) (g.D.Store.counts c.read_part.new.store))
    (λ (n : FileName) (rest : List FileName) (here : files_left c.index_mut-part.result.now ≡ n ∷ rest). c.in_ok-read_part.ensures.most n rest here tells) name others left
