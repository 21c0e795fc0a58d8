use Rattle.std.proofs.Common.{◌≡◌, ◌<◌, ◌++◌, ◌∙◌, ap, List, length, map, take, drop, get_or, slice_set, add-one, arith}
use Rattle.catalog_types.specs.PlainEntry.{PlainEntry}
use Rattle.entry_table.specs.Keyed.{with_keys}
use Rattle.entry_table.proofs.Lists.{changed-next}
use Rattle.entry_table.proofs.restoring.put_keys.Goals as goal

pub loop-place-preserved : goal.loop-place-preserved
loop-place-preserved g c =
    let l = c.loop-place in
    let f = with_keys (g.C.Chains.digests c.args.chains.now) in
    let es = c.args.entries.now.items in
    let low : l.place < length es = omega (arith, c.args.entries.now.ok.0) in
    let was : l.entries.items ≡ map f (take l.place es) ++ drop l.place es = l.invariant in
    let x = c.index_mut.result.now in
    let here = c.index_mut.ensures.value ∙ ap (λ (xs : List PlainEntry). get_or xs l.place x) was in
    let next = changed-next f es l.place x low here in
    rw add-one (ap (λ (xs : List PlainEntry). slice_set xs l.place c.put_keys_of.new.entry) was ∙ ap (slice_set (map f (take l.place es) ++ drop l.place es) l.place) c.in_ok-put_keys_of.ensures ∙ next)
