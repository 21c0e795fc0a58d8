use Rattle.std.proofs.Common.{◌<◌, length, ◌∙◌, ◌+◌, sym, ap, subst, List, arith}
use Rattle.catalog_types.specs.declared.snapshot.StreamState.{StreamState}
use Rattle.catalog_core.specs.Catalogs.{table_of}
use Rattle.entry_table.specs.Tables.{kept_of}
use Rattle.catalog_core.specs.IsTable.{IsTable}
use Rattle.catalog_core.specs.Programs.{kinds_of_streams}
use Rattle.catalog_core.specs.Streams.{states_of}
use Rattle.catalog_core.specs.Table.{table_with, extent_count, with_tick}
use Rattle.catalog_core.proofs.Growth.{as-many-states, states-grown, names-kept}
use Rattle.catalog_core.proofs.Kept.{extents-counted, append-keeps, is-extent}
use Rattle.catalog_core.proofs.OverStreams.{kinds-grown}
use Rattle.catalog_core.proofs.catalog.Catalog.add_extent.Goals as goal

pub push-requires-clause-is_extent : goal.push-requires-clause-is_extent
push-requires-clause-is_extent c = is-extent c.args.extent (table_of c.args.self.now) c.requires.fits.is_next

pub invariant_of-self : goal.invariant_of-self
invariant_of-self c =
    let t = c.args.self.now in
    let many = as-many-states t.streams.items in
    let low : c.args.place < length t.streams.items = omega (arith, many, c.requires.fits.has_place.0) in
    let states = states-grown t.streams.items c.args.place c.index_mut.result.now c.push.new.self c.args.extent low c.index_mut.ensures.value c.push.ensures in
    record {
      named = t.named ∙ sym (names-kept t.streams.items c.args.place c.index_mut.result.now c.push.new.self low c.index_mut.ensures.value (ap (λ (s : StreamState). s.name) c.push.ensures));
      kinds = t.kinds ∙ sym (kinds-grown (states_of t.streams.items) c.args.place c.args.extent) ∙ sym (ap kinds_of_streams states);
      counted = ap (λ n. n + 1) t.counted ∙ sym (extents-counted (states_of t.streams.items) c.args.place c.args.extent c.requires.fits.has_place.0) ∙ sym (ap extent_count states);
      sound = subst (λ (streams : List StreamState). IsTable (table_with t.tick (t.next_file + 1) (kept_of t.kept).next_id streams t.programs.items (kept_of t.kept).entries)) (sym states)
          (append-keeps c.args.place c.args.extent (table_of t) c.requires.fits t.sound);
    }

pub returns : goal.returns
returns c =
    let t = c.args.self.now in
    let many = as-many-states t.streams.items in
    let low : c.args.place < length t.streams.items = omega (arith, many, c.requires.fits.has_place.0) in
    let states = states-grown t.streams.items c.args.place c.index_mut.result.now c.push.new.self c.args.extent low c.index_mut.ensures.value c.push.ensures in
    c.add_tick.ensures
    ∙ ap (λ (streams : List StreamState). with_tick (table_with t.tick (t.next_file + 1) (kept_of t.kept).next_id streams t.programs.items (kept_of t.kept).entries)) states
