use Rattle.std.proofs.Common.{◌≡◌, refl, sym, ap, ◌∙◌, ℕ, ◌<◌, ◌≤◌, Bool, true, false, not, bytes_eq, List, length, map, take, arith}
use Rattle.std.specs.List.{list_any}
use Rattle.std.proofs.lemmas.List.{take_all}
use Rattle.plan_binder.specs.Binding.{has_repeat}
use Rattle.catalog_core.specs.declared.stream.CatalogStream.{CatalogStream}
use Rattle.catalog_core.specs.Streams.{name_of}
use Rattle.catalog_core.proofs.Places.{names-states}
use Rattle.catalog_core.proofs.StreamNames.{name-put, still-differ, two-alike}
use Rattle.catalog_core.proofs.restored_streams.index_of_names.Goals as goal

turned : (r b : Bool) → r ≡ not b → r ≡ false → b ≡ true
turned r true e given = refl
turned r false e given = absurd (cc)

kept : (r b : Bool) → r ≡ not b → r ≡ true → b ≡ false
kept r true e given = absurd (cc)
kept r false e given = refl

pub returns-then-not-branch-clause-none : goal.returns-then-not-branch-clause-none
returns-then-not-branch-clause-none c =
    let streams = c.args.streams.now in
    let i = c.loop-stream.stream-index in
    let low : i < length streams = omega (arith, c.loop-stream-test.true) in
    let n : List ℕ = c.in_ok-try_copy.field-0 in
    λ _. two-alike c.loop-stream.names.keys streams i c.stream-item.result n c.loop-stream.invariant.named (c.in_ok-try_copy.ensures ∙ c.name.ensures) low c.stream-item.is
    (turned c.in_ok-insert.field-0 (list_any (bytes_eq n) c.loop-stream.names.keys) c.in_ok-insert.ensures.added c.if-not-branch.true)

pub loop-stream-preserved : goal.loop-stream-preserved
loop-stream-preserved c =
    let streams = c.args.streams.now in
    let i = c.loop-stream.stream-index in
    let low : i < length streams = omega (arith, c.loop-stream-test.true) in
    let n : List ℕ = c.in_ok-try_copy.field-0 in
    let absent : list_any (bytes_eq n) c.loop-stream.names.keys ≡ false = kept c.in_ok-insert.field-0 (list_any (bytes_eq n) c.loop-stream.names.keys) c.in_ok-insert.ensures.added c.if-not-branch.false in
    let is_name : n ≡ name_of c.stream-item.result = c.in_ok-try_copy.ensures ∙ c.name.ensures in
    record {
      named = c.in_ok-insert.ensures.keys ∙ name-put c.loop-stream.names.keys streams i c.stream-item.result n c.loop-stream.invariant.named is_name low c.stream-item.is absent;
      differ = still-differ c.loop-stream.names.keys streams i c.stream-item.result n c.loop-stream.invariant.named is_name low c.stream-item.is absent c.loop-stream.invariant.differ;
    }

pub returns-clause-some : goal.returns-clause-some
returns-clause-some c =
    let streams = c.args.streams.now in
    let i = c.loop-stream.stream-index in
    let past : length streams ≤ i = omega (arith, c.loop-stream-test.false) in
    let all : map name_of (take i streams) ≡ map name_of streams = ap (λ (xs : List CatalogStream). map name_of xs) (take_all i streams past) in
    (c.loop-stream.invariant.named ∙ all, ap has_repeat (sym (names-states streams)) ∙ ap has_repeat (sym all) ∙ c.loop-stream.invariant.differ)
