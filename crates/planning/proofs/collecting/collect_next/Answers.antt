use Rattle.std.proofs.Common.{◌≡◌, ◌∙◌, sym, ap, subst, ℕ, ◌+◌, true, List, refl, arith}
use Rattle.std.specs.List.{All}
use Rattle.catalog_types.specs.PlainEntry.{PlainEntry}
use Rattle.catalog_types.specs.declared.change.Change.TheVariants.{Collect}
use Rattle.collector.specs.Ratio.{CanBeRanked}
use Rattle.collector.specs.Victims.{AreVictims}
use Rattle.entry_table.specs.Ids.{is_there}
use Rattle.catalog_core.specs.Catalogs.{table_of}
use Rattle.record_codec.specs.Spelling.{HasChangeSpelling}
use Rattle.planning.specs.Collecting.{collection_of, files_of, bytes_of}
use Rattle.planning.proofs.Entries.{ranked}
use Rattle.planning.proofs.Going.{going-ids, going-bytes}
use Rattle.planning.proofs.Recorded.{victims-of, recordable, is-plan}
use Rattle.planning.proofs.collecting.collect_next.Goals.{In_ok-ids, In_ok-recorded}
use Rattle.planning.proofs.collecting.collect_next.Goals as goal

-- what the collector gave
going : (c : In_ok-ids) → AreVictims (table_of c.args.catalog.now).entries (collection_of (table_of c.args.catalog.now) c.args.held.now) c.args.reclaim c.in_ok-ids.ids.items
going c =
    victims-of (table_of c.args.catalog.now) c.entries.ensures.table c.args.held.now c.args.reclaim c.entries.result.now c.entries.ensures.entries
    (c.tick.result + 1) (ap (λ (n : ℕ). n + 1) c.tick.ensures) c.in_ok-ids.ids.items c.in_ok-ids.ensures

pub victims-requires : goal.victims-requires
victims-requires c =
    let all = ranked (table_of c.args.catalog.now) c.entries.ensures.table in
    subst (λ (n : ℕ). All (CanBeRanked n) c.entries.result.now) (ap (λ (n : ℕ). n + 1) (sym c.tick.ensures))
    (subst (λ (es : List PlainEntry). All (CanBeRanked ((table_of c.args.catalog.now).tick + 1)) es) (sym c.entries.ensures.entries) all)

pub files_of-requires : goal.files_of-requires
files_of-requires c =
    let t = table_of c.args.catalog.now in
    let v = going (goal.at.files_of-requires c).In_ok-ids in
    subst (All (λ (id : ℕ). is_there t.entries id ≡ true)) (sym c.deref.ensures.value)
    (λ k d here. (going-ids t c.entries.ensures.table c.args.held.now c.args.reclaim c.in_ok-ids.ids.items v k d here).there)

pub bytes_of-bytes-requires-clause-there : goal.bytes_of-bytes-requires-clause-there
bytes_of-bytes-requires-clause-there c =
    let t = table_of c.args.catalog.now in
    let v = going (goal.at.bytes_of-bytes-requires-clause-there c).In_ok-ids in
    subst (All (λ (id : ℕ). is_there t.entries id ≡ true)) (sym c.deref-2.ensures.value)
    (λ k d here. (going-ids t c.entries.ensures.table c.args.held.now c.args.reclaim c.in_ok-ids.ids.items v k d here).there)

pub bytes_of-bytes-requires-clause-few : goal.bytes_of-bytes-requires-clause-few
bytes_of-bytes-requires-clause-few c =
    let t = table_of c.args.catalog.now in
    let v = going (goal.at.bytes_of-bytes-requires-clause-few c).In_ok-ids in
    let most = going-bytes t c.entries.ensures.table c.args.held.now c.args.reclaim c.in_ok-ids.ids.items v in
    let same = ap (bytes_of t) c.deref-2.ensures.value in
    omega (arith, most, same)

-- they are recorded as they go
recorded : (c : In_ok-recorded) → c.in_ok-recorded.recorded.items ≡ c.in_ok-ids.ids.items
recorded c = c.in_ok-recorded.ensures.items ∙ c.deref-3.ensures.value

pub spell_change-requires : goal.spell_change-requires
spell_change-requires c =
    let t = table_of c.args.catalog.now in
    let v = going (goal.at.spell_change-requires c).In_ok-ids in
    let good = recordable t c.entries.ensures.table c.requires c.args.held.now c.args.reclaim c.in_ok-ids.ids.items v in
    subst (λ (ids : List ℕ). HasChangeSpelling (Collect ids)) (sym (c.new.ensures ∙ recorded (goal.at.spell_change-requires c).In_ok-recorded)) good.spelled

pub returns : goal.returns
returns c =
    let t = table_of c.args.catalog.now in
    let v = going (goal.at.returns c).In_ok-ids in
    is-plan t c.entries.ensures.table c.requires c.args.held.now c.args.reclaim c.in_ok-ids.ids.items v
    (record { change = Collect c.new.result; body = c.in_ok-body.body; ids = c.in_ok-ids.ids; files = c.in_ok-files.files; bytes = c.bytes_of-bytes.result })
    c.small_changes.ensures.collect
    refl (c.bytes_of-bytes.ensures ∙ ap (bytes_of t) c.deref-2.ensures.value) (ap Collect (c.new.ensures ∙ recorded (goal.at.returns c).In_ok-recorded)) c.in_ok-body.ensures
    (c.in_ok-files.ensures ∙ ap (files_of t) c.deref.ensures.value)
