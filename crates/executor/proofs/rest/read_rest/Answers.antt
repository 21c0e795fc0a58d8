use Rattle.std.proofs.Common.{◌≡◌, refl, ap, ◌∙◌, subst, rules, ◌++◌, List, Err, IsTrue, arith}
use Rattle.outside_traits.proofs.RunLemmas.{idles_on}
use Rattle.rewrite_core.specs.Files.{FileName}
use Rattle.growth_laws.specs.Pieces.{Piece}
use Rattle.executor.specs.Progress.{left_in, next_shape}
use Rattle.executor.specs.Sources.{sources}
use Rattle.executor.specs.declared.part.Part.{Part}
use Rattle.executor.proofs.NextParts.{some_first}
use Rattle.executor.proofs.RestSteps.{idles_yet, some_left, none_left, rises_on, most_of_all, most_at_end, reads_more, none_yet, counted_yet, counted_on, rest_there, one_shorter}
use Rattle.executor.proofs.RestEnds.{refused_most, ends_by, found_first, ends_over, stops_at}
use Rattle.executor.proofs.RestShapes.{has_next}
use Rattle.executor.proofs.rest.read_rest.Goals as goal

pub loop-alloc-init : goal.loop-alloc-init
loop-alloc-init g c = record {
  rewriting = refl;
  read = none_yet g.D.Store.tells (g.D.Store.view c.args.store.now).files (g.P.Places.files c.args.places.now) (g.P.Places.machines c.args.places.now) (g.P.Places.stream_kinds c.args.places.now)
      c.args.job.now.parts.items (g.D.Store.counts c.args.store.now);
  counted = λ (names : List FileName) split. counted_yet (g.P.Places.files c.args.places.now) (left_in c.args.job.now.parts.items) names c.args.job.now.taken (omega arith) split;
  idles = idles_yet (g.D.Store.view c.args.store.now);
}

pub read_next-requires-clause-there : goal.read_next-requires-clause-there
read_next-requires-clause-there g c =
    let so_far = c.loop-alloc.invariant.read in rest_there (g.P.Places.has c.args.places.now) (left_in c.args.job.now.parts.items) so_far.names (left_in c.loop-alloc.job.parts.items) so_far.left c.requires.there

pub read_next-requires-clause-parts : goal.read_next-requires-clause-parts
read_next-requires-clause-parts g c = let parts = c.requires.parts in (parts.0, c.loop-alloc.invariant.read.parts parts.0 parts.1)

pub loop-alloc-smaller : goal.loop-alloc-smaller
loop-alloc-smaller g c = let next = c.in_ok-read_next.ensures.next in one_shorter (left_in c.loop-alloc.job.parts.items) (left_in c.read_next.new.job.parts.items) next.0 next.1

pub loop-alloc-preserved : goal.loop-alloc-preserved
loop-alloc-preserved g c =
    let at = c.loop-alloc.invariant in
    let now = c.in_ok-read_next.ensures in
    record {
      rewriting = now.rewriting ∙ at.rewriting;
      read = reads_more g.D.Store.tells (g.D.Store.view c.args.store.now).files (g.D.Store.view c.loop-alloc.store).files (g.P.Places.files c.args.places.now) (g.P.Places.machines c.args.places.now)
          (g.P.Places.stream_kinds c.args.places.now) at.idles.same c.args.job.now.parts.items c.loop-alloc.job.parts.items c.read_next.new.job.parts.items (g.D.Store.counts c.args.store.now)
          (g.D.Store.counts c.loop-alloc.store) (g.D.Store.counts c.read_next.new.store) at.read now.next now.parts now.read now.most now.no_fault now.counts;
      counted = λ (names : List FileName) split.
          counted_on (g.P.Places.files c.args.places.now) (left_in c.args.job.now.parts.items) at.read.names names now.next.0 (left_in c.read_next.new.job.parts.items) c.args.job.now.taken
          c.loop-alloc.job.taken c.read_next.new.job.taken (at.read.left ∙ ap (λ (l : List FileName). at.read.names ++ l) now.next.1) split (at.counted at.read.names at.read.left)
          (now.counted now.next.0 (left_in c.read_next.new.job.parts.items) now.next.1);
      idles = idles_on (g.D.Store.view c.args.store.now) (g.D.Store.view c.loop-alloc.store) (g.D.Store.view c.read_next.new.store) at.idles now.idles;
    }

pub returns-in_err-read_next-clause-rewriting : goal.returns-in_err-read_next-clause-rewriting
returns-in_err-read_next-clause-rewriting g c = c.in_err-read_next.ensures.rewriting ∙ c.loop-alloc.invariant.rewriting

pub returns-in_err-read_next-clause-stops : goal.returns-in_err-read_next-clause-stops
returns-in_err-read_next-clause-stops g c =
    let at = c.loop-alloc.invariant in
    let some = some_first (left_in c.loop-alloc.job.parts.items) (some_left (left_in c.loop-alloc.job.parts.items) c.left.result c.left.ensures c.loop-alloc-test.true) in
    let same : c.from_residual.result ≡ Err c.in_err-read_next.field-0.0 = search rules in
    let from = sources g.D.Store.tells (g.D.Store.view c.args.store.now).files (g.P.Places.files c.args.places.now) (g.P.Places.machines c.args.places.now) (g.P.Places.stream_kinds c.args.places.now) in
    rw same
    (stops_at from c.args.job.now.parts.items c.loop-alloc.job.parts.items c.read_next.new.job.parts.items (g.D.Store.counts c.args.store.now) (g.D.Store.counts c.loop-alloc.store)
    (g.D.Store.counts c.read_next.new.store) c.in_err-read_next.field-0.0 c.in_err-read_next.ensures.refused at.read some.0 some.1 some.2 (c.in_err-read_next.ensures.cause some.0 some.1 some.2)
    (λ (tells : IsTrue g.D.Store.tells).
    let parts = c.requires.parts in
    let next = has_next (g.P.Places.stream_kinds c.args.places.now) parts.0 c.loop-alloc.job.parts.items some.0 some.1 (at.read.parts parts.0 parts.1) some.2 in
    let shape = next_shape (g.P.Places.stream_kinds c.args.places.now) next.0 in (
      shape,
      found_first (g.P.Places.files c.args.places.now) (left_in c.args.job.now.parts.items) at.read.names some.0 some.1 (at.read.left ∙ ap (λ (l : List FileName). at.read.names ++ l) some.2)
          g.D.Store.tells (g.D.Store.view c.args.store.now).files (g.D.Store.view c.loop-alloc.store).files (g.P.Places.machines c.args.places.now) (g.P.Places.stream_kinds c.args.places.now) at.idles.same parts.0
          shape (g.D.Store.counts c.loop-alloc.store) (g.D.Store.counts c.read_next.new.store) c.in_err-read_next.field-0.0 (c.in_err-read_next.ensures.found next.0 some.0 some.1 next.1 some.2 tells),
    )))

pub returns-in_err-read_next-clause-counted : goal.returns-in_err-read_next-clause-counted
returns-in_err-read_next-clause-counted g c = λ (names : List FileName) split.
    let same = c.in_err-read_next.ensures.refused in
    c.in_err-read_next.ensures.uncounted
    ∙ c.loop-alloc.invariant.counted names (subst (λ (parts : List Part). left_in c.args.job.now.parts.items ≡ names ++ left_in parts) same split)

pub returns-in_err-read_next-clause-most : goal.returns-in_err-read_next-clause-most
returns-in_err-read_next-clause-most g c = λ tells.
    let at = c.loop-alloc.invariant in
    let some = some_first (left_in c.loop-alloc.job.parts.items) (some_left (left_in c.loop-alloc.job.parts.items) c.left.result c.left.ensures c.loop-alloc-test.true) in
    let parts = c.requires.parts in
    let next = has_next (g.P.Places.stream_kinds c.args.places.now) parts.0 c.loop-alloc.job.parts.items some.0 some.1 (at.read.parts parts.0 parts.1) some.2 in
    most_of_all (g.P.Places.files c.args.places.now) (left_in c.args.job.now.parts.items) at.read.names some.0 some.1 (g.D.Store.counts c.args.store.now) (g.D.Store.counts c.loop-alloc.store)
    (g.D.Store.counts c.read_next.new.store) (at.read.left ∙ ap (λ (l : List FileName). at.read.names ++ l) some.2) (at.read.most tells)
    (refused_most (next_shape (g.P.Places.stream_kinds c.args.places.now) next.0) (g.P.Places.files c.args.places.now some.0) ((g.D.Store.view c.loop-alloc.store).files (g.P.Places.files c.args.places.now some.0).file)
    (g.D.Store.counts c.loop-alloc.store) (g.D.Store.counts c.read_next.new.store) c.in_err-read_next.field-0.0 (c.in_err-read_next.ensures.cause some.0 some.1 some.2)
    (c.in_err-read_next.ensures.found next.0 some.0 some.1 next.1 some.2 tells))

pub returns-in_err-read_next-clause-cause : goal.returns-in_err-read_next-clause-cause
returns-in_err-read_next-clause-cause g c =
    let at = c.loop-alloc.invariant in
    let some = some_first (left_in c.loop-alloc.job.parts.items) (some_left (left_in c.loop-alloc.job.parts.items) c.left.result c.left.ensures c.loop-alloc-test.true) in
    let same : c.from_residual.result ≡ Err c.in_err-read_next.field-0.0 = search rules in
    rw same
    (ends_by (g.P.Places.files c.args.places.now) (left_in c.args.job.now.parts.items) at.read.names some.0 some.1 (at.read.left ∙ ap (λ (l : List FileName). at.read.names ++ l) some.2)
    (g.D.Store.counts c.args.store.now) (g.D.Store.counts c.loop-alloc.store) (g.D.Store.counts c.read_next.new.store) at.read.no_fault at.read.counts.taken c.in_err-read_next.field-0.0
    (c.in_err-read_next.ensures.cause some.0 some.1 some.2))

pub returns-in_err-read_next-clause-found : goal.returns-in_err-read_next-clause-found
returns-in_err-read_next-clause-found g c = λ (pieces : List Piece) are (tells : IsTrue g.D.Store.tells).
    let at = c.loop-alloc.invariant in
    let some = some_first (left_in c.loop-alloc.job.parts.items) (some_left (left_in c.loop-alloc.job.parts.items) c.left.result c.left.ensures c.loop-alloc-test.true) in
    let next = has_next (g.P.Places.stream_kinds c.args.places.now) pieces c.loop-alloc.job.parts.items some.0 some.1 (at.read.parts pieces are) some.2 in
    let same : c.from_residual.result ≡ Err c.in_err-read_next.field-0.0 = search rules in
    rw same
    (ends_over (g.P.Places.files c.args.places.now) (left_in c.args.job.now.parts.items) at.read.names some.0 some.1 (at.read.left ∙ ap (λ (l : List FileName). at.read.names ++ l) some.2)
    g.D.Store.tells (g.D.Store.view c.args.store.now).files (g.D.Store.view c.loop-alloc.store).files (g.P.Places.machines c.args.places.now) (g.P.Places.stream_kinds c.args.places.now) at.idles.same pieces
    (next_shape (g.P.Places.stream_kinds c.args.places.now) next.0) (g.D.Store.counts c.loop-alloc.store) (g.D.Store.counts c.read_next.new.store) c.in_err-read_next.field-0.0 next.2
    (c.in_err-read_next.ensures.cause some.0 some.1 some.2) (c.in_err-read_next.ensures.found next.0 some.0 some.1 next.1 some.2 tells))

pub returns-in_err-read_next-clause-idles : goal.returns-in_err-read_next-clause-idles
returns-in_err-read_next-clause-idles g c =
    idles_on (g.D.Store.view c.args.store.now) (g.D.Store.view c.loop-alloc.store) (g.D.Store.view c.read_next.new.store) c.loop-alloc.invariant.idles c.in_err-read_next.ensures.idles

pub returns-in_err-read_next-clause-counts : goal.returns-in_err-read_next-clause-counts
returns-in_err-read_next-clause-counts g c =
    rises_on (g.D.Store.counts c.args.store.now) (g.D.Store.counts c.loop-alloc.store) (g.D.Store.counts c.read_next.new.store) c.loop-alloc.invariant.read.counts c.in_err-read_next.ensures.counts

pub returns-clause-rewriting : goal.returns-clause-rewriting
returns-clause-rewriting g c = c.loop-alloc.invariant.rewriting

pub returns-clause-read : goal.returns-clause-read
returns-clause-read g c = c.loop-alloc.invariant.read

pub returns-clause-counted : goal.returns-clause-counted
returns-clause-counted g c = c.loop-alloc.invariant.counted

pub returns-clause-most : goal.returns-clause-most
returns-clause-most g c = λ tells.
    let read = c.loop-alloc.invariant.read in
    most_at_end (g.P.Places.files c.args.places.now) (left_in c.args.job.now.parts.items) read.names (left_in c.loop-alloc.job.parts.items) (g.D.Store.counts c.args.store.now)
    (g.D.Store.counts c.loop-alloc.store) read.left
    (none_left (left_in c.loop-alloc.job.parts.items) c.left.result c.left.ensures c.loop-alloc-test.false) (read.most tells)

pub returns-clause-idles : goal.returns-clause-idles
returns-clause-idles g c = c.loop-alloc.invariant.idles

pub returns-clause-counts : goal.returns-clause-counts
returns-clause-counts g c = c.loop-alloc.invariant.read.counts
