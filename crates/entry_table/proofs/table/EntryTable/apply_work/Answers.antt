use Rattle.std.proofs.Common.{◌≡◌, ◌++◌, ◌∙◌, ℕ, sym, ap, subst, length, slice_range, Vec, Global, arith}
use Rattle.cache_index.specs.Index.{HasRoom, IsIndexOf}
use Rattle.entry_table.specs.declared.keys.Keys.{Keys}
use Rattle.entry_table.specs.Ids.{without}
use Rattle.entry_table.specs.Keying.{keyed_entries}
use Rattle.entry_table.specs.Work.{with_uses}
use Rattle.entry_table.specs.AreKept.{AreKept}
use Rattle.entry_table.specs.Tables.{kept_of}
use Rattle.entry_table.proofs.Lists.{keyed-length, without-within, uses-length}
use Rattle.entry_table.proofs.Growth.{work-keeps, now-worked, worked-is}
use Rattle.entry_table.proofs.IndexedEntries.{index_of_all, index_used, those_behind}
use Rattle.entry_table.proofs.table.EntryTable.apply_work.Goals as goal

pub add_entries-requires-clause-room : goal.add_entries-requires-clause-room
add_entries-requires-clause-room c =
    let uses = ap length c.add_uses.ensures.entries in
    let as_many = uses-length c.args.tick c.args.reads.now c.drop_entries.new.entries.items in
    let stay = ap length c.drop_entries.ensures.entries in
    let less = without-within c.args.dropped.now c.args.self.now.entries.items in
    let news = ap length c.into_vec-kept.ensures in
    omega (arith, uses, as_many, stay, less, news, c.requires.room.1)

pub insert_all_reserved-requires : goal.insert_all_reserved-requires
insert_all_reserved-requires c =
    let t = c.args.self.now in
    let tick = c.args.tick in
    let front = with_uses tick c.args.reads.now (without c.args.dropped.now t.entries.items) in
    let stay : c.add_uses.new.entries.items ≡ front = c.add_uses.ensures.entries ∙ ap (with_uses tick c.args.reads.now) c.drop_entries.ensures.entries in
    let keys : c.deref.result.now ≡ t.spare_keys.items = c.deref.ensures.value ∙ ap (λ (v : Vec Keys Global). v.items) c.replace-keys.ensures.value in
    let behind = keyed_entries tick t.next_id t.spare_keys.items c.args.kept in
    let all : c.add_entries.new.entries.items ≡ front ++ behind = c.add_entries.ensures ∙ (λ i. stay i ++ keyed_entries tick t.next_id (keys i) (c.into_vec-kept.ensures i)) in
    let xs = c.deref-2.result.now in
    let rest : slice_range xs c.len-old.result (length xs) ≡ behind = those_behind front behind xs c.len-old.result (c.len-old.ensures ∙ c.add_uses.new.entries.ok.0 ∙ ap length stay) (c.deref-2.ensures.value ∙ all) in
    let many : length (slice_range xs c.len-old.result (length xs)) ≡ length c.args.kept = ap length rest ∙ keyed-length tick t.next_id t.spare_keys.items c.args.kept c.requires.room.0 in
    subst (λ (n : ℕ). HasRoom n c.remove_all.new.self) (sym many) (c.remove_all.ensures.room (length c.args.kept) c.requires.room.2)

pub invariant_of-self : goal.invariant_of-self
invariant_of-self c =
    let t = c.args.self.now in
    let tick = c.args.tick in
    let reads = c.args.reads.now in
    let dropped = c.args.dropped.now in
    let keys : c.deref.result.now ≡ t.spare_keys.items = c.deref.ensures.value ∙ ap (λ (v : Vec Keys Global). v.items) c.replace-keys.ensures.value in
    let front : c.add_uses.new.entries.items ≡ with_uses tick reads (without dropped t.entries.items) = c.add_uses.ensures.entries ∙ ap (with_uses tick reads) c.drop_entries.ensures.entries in
    let count : c.len-count.result ≡ length c.args.kept = (let many = ap length c.into_vec-kept.ensures in omega (arith, many, c.len-count.ensures, c.into_vec-kept.result.ok.0)) in
    let all : c.add_entries.new.entries.items ≡ with_uses tick reads (without dropped t.entries.items) ++ keyed_entries tick t.next_id t.spare_keys.items c.args.kept =
    c.add_entries.ensures ∙ (λ i. front i ++ keyed_entries tick t.next_id (keys i) (c.into_vec-kept.ensures i)) in
    let is = now-worked tick reads dropped t.spare_keys.items c.args.kept (kept_of t) c.len-count.result c.add_entries.new.entries.items count all in
    let before = with_uses tick reads (without dropped t.entries.items) in
    let behind = keyed_entries tick t.next_id t.spare_keys.items c.args.kept in
    let xs = c.deref-2.result.now in
    let rest : slice_range xs c.len-old.result (length xs) ≡ behind =
    those_behind before behind xs c.len-old.result (c.len-old.ensures ∙ c.add_uses.new.entries.ok.0 ∙ ap length front) (c.deref-2.ensures.value ∙ all) in
    let used : IsIndexOf before c.remove_all.new.self = index_used tick reads (without dropped t.entries.items) c.remove_all.new.self (c.remove_all.ensures.index t.entries.items t.indexed) in
    record {
      sound = subst AreKept (sym is) (work-keeps tick reads dropped t.spare_keys.items c.args.kept (kept_of t) c.requires.room.0 c.requires.new c.requires.short t.sound);
      indexed = index_of_all before behind c.add_entries.new.entries.items (slice_range xs c.len-old.result (length xs)) c.insert_all_reserved.new.self rest all (c.insert_all_reserved.ensures before used);
    }

pub returns : goal.returns
returns c =
    let t = c.args.self.now in
    let tick = c.args.tick in
    let reads = c.args.reads.now in
    let dropped = c.args.dropped.now in
    let keys : c.deref.result.now ≡ t.spare_keys.items = c.deref.ensures.value ∙ ap (λ (v : Vec Keys Global). v.items) c.replace-keys.ensures.value in
    let front : c.add_uses.new.entries.items ≡ with_uses tick reads (without dropped t.entries.items) = c.add_uses.ensures.entries ∙ ap (with_uses tick reads) c.drop_entries.ensures.entries in
    let count : c.len-count.result ≡ length c.args.kept = (let many = ap length c.into_vec-kept.ensures in omega (arith, many, c.len-count.ensures, c.into_vec-kept.result.ok.0)) in
    let all : c.add_entries.new.entries.items ≡ with_uses tick reads (without dropped t.entries.items) ++ keyed_entries tick t.next_id t.spare_keys.items c.args.kept =
    c.add_entries.ensures ∙ (λ i. front i ++ keyed_entries tick t.next_id (keys i) (c.into_vec-kept.ensures i)) in
    let is = now-worked tick reads dropped t.spare_keys.items c.args.kept (kept_of t) c.len-count.result c.add_entries.new.entries.items count all in
    λ digests has. is ∙ worked-is digests tick reads dropped t.spare_keys.items c.args.kept (kept_of t) has
