use Rattle.std.proofs.Common.{◌≡◌, ◌<◌, ◌++◌, ◌∙◌, ap, rules, List, length, map, take, drop, get_or, slice_set, add-one, arith}
use Rattle.catalog_types.specs.PlainEntry.{PlainEntry}
use Rattle.entry_table.specs.Work.{used}
use Rattle.entry_table.proofs.Lists.{changed-next, uses-none}
use Rattle.entry_table.proofs.uses.add_uses.Goals as goal

pub returns-then-is_empty-clause-entries : goal.returns-then-is_empty-clause-entries
returns-then-is_empty-clause-entries c =
    uses-none c.args.tick c.args.ids.now c.args.entries.now.items c.is_empty.result c.is_empty.ensures c.if-is_empty.true

pub loop-place-preserved : goal.loop-place-preserved
loop-place-preserved c =
    let l = c.loop-place in
    let f = used c.args.tick c.args.ids.now in
    let es = c.args.entries.now.items in
    let low : l.place < length es = omega (arith, c.args.entries.now.ok.0) in
    let was : l.entries.items ≡ map f (take l.place es) ++ drop l.place es = l.invariant.items in
    let x = c.index_mut.result.now in
    let here = c.index_mut.ensures.value ∙ ap (λ (xs : List PlainEntry). get_or xs l.place x) was in
    let next = changed-next f es l.place x low here in
    record {
      items = rw add-one (ap (λ (xs : List PlainEntry). slice_set xs l.place c.add_use_of.new.entry) was ∙ ap (slice_set (map f (take l.place es) ++ drop l.place es) l.place) c.add_use_of.ensures ∙ next);
      room = search rules;
    }
