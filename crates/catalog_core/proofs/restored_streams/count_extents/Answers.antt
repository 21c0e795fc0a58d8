use Rattle.std.proofs.Common.{◌≡◌, sym, ap, subst, ◌∙◌, ◌+◌, ◌<◌, ◌≤◌, List, [], ◌∷◌, ◌++◌, length, take, arith}
use Rattle.std.specs.List.{All}
use Rattle.std.proofs.lemmas.List.{take_all}
use Rattle.std.proofs.lemmas.List.Elements.{All-push, recursion_from_All}
use Rattle.std.proofs.lemmas.List.Sums.{sum_by-append}
use Rattle.catalog_types.specs.declared.extent.Extent.{Extent}
use Rattle.catalog_types.specs.declared.snapshot.StreamState.{StreamState}
use Rattle.catalog_core.specs.declared.stream.CatalogStream.{CatalogStream}
use Rattle.catalog_core.specs.IsTable.{IsStream}
use Rattle.catalog_core.specs.Streams.{state_of, states_of}
use Rattle.catalog_core.specs.Table.{extent_count}
use Rattle.catalog_core.proofs.StreamNames.{mapped-more}
use Rattle.catalog_core.proofs.restored_streams.count_extents.Goals as goal

pub loop-stream-preserved : goal.loop-stream-preserved
loop-stream-preserved c =
    let streams = c.args.streams.now in
    let i = c.loop-stream.stream-index in
    let x = c.stream-item.result in
    let low : i < length streams = omega (arith, c.loop-stream-test.true) in
    let more : states_of (take (i + 1) streams) ≡ states_of (take i streams) ++ state_of x ∷ [] = mapped-more state_of streams i x low c.stream-item.is in
    let long : length c.extents.result.now ≡ length (state_of x).extents = ap (λ (es : List Extent). length es) c.extents.ensures.extents in
    let sum = sum_by-append (λ (s : StreamState). length s.extents) (states_of (take i streams)) (state_of x ∷ []) in
    let one : c.loop-stream.count + length c.extents.result.now ≡ extent_count (states_of (take i streams) ++ state_of x ∷ []) = omega (arith, long, sum, c.loop-stream.invariant.counted) in
    let few : length (state_of x).extents ≤ 65535 = c.extents.ensures.stream.extents in
    record {
      counted = one ∙ sym (ap (λ (ss : List StreamState). extent_count ss) more);
      small = omega (arith, long, few, c.loop-stream.invariant.small);
      are = subst (λ (ss : List StreamState). All IsStream ss) (sym more) (All-push IsStream (states_of (take i streams)) (state_of x) c.loop-stream.invariant.are c.extents.ensures.stream);
    }

pub returns-clause-are : goal.returns-clause-are
returns-clause-are c =
    let streams = c.args.streams.now in
    let past : length streams ≤ c.loop-stream.stream-index = omega (arith, c.loop-stream-test.false) in
    recursion_from_All IsStream (states_of streams) (subst (λ (xs : List CatalogStream). All IsStream (states_of xs)) (take_all c.loop-stream.stream-index streams past) c.loop-stream.invariant.are)
