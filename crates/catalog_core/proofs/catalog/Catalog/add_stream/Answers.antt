use Rattle.std.proofs.Common.{rules, ◌≡◌, ◌∙◌, ◌++◌, ◌∷◌, [], sym, ap, subst, List, map, bytes_eq}
use Rattle.rows_core.specs.declared.schema.Column.{Column}
use Rattle.catalog_types.specs.declared.snapshot.StreamState.{StreamState}
use Rattle.indexmap.specs.IndexSet.{insert_key}
use Rattle.catalog_core.specs.declared.stream.CatalogStream.{CatalogStream}
use Rattle.catalog_core.specs.Catalogs.{table_of, next_schemas}
use Rattle.entry_table.specs.Tables.{kept_of}
use Rattle.catalog_core.specs.IsTable.{IsTable}
use Rattle.catalog_core.specs.Programs.{kinds_of_streams}
use Rattle.catalog_core.specs.Streams.{name_of, state_of, states_of}
use Rattle.catalog_core.specs.Table.{table_with, extent_count, new_stream, with_tick}
use Rattle.catalog_core.proofs.Growth.{states-push, names-with-new}
use Rattle.catalog_core.proofs.Kept.{absent-name, no-extent-more, stream-keeps}
use Rattle.catalog_core.proofs.OverStreams.{kinds-added}
use Rattle.catalog_core.proofs.catalog.Catalog.add_stream.Goals as goal

pub invariant_of-self : goal.invariant_of-self
invariant_of-self c =
    let t = c.args.self.now in
    let made : state_of c.new-2.result ≡ new_stream c.args.name c.args.columns =
    c.new-2.ensures ∙ ap (λ (columns : List Column). new_stream c.args.name columns) (c.in-Ok.ensures.columns ∙ c.into_vec.ensures) in
    let states : states_of c.push_reserved.new.self.items ≡ states_of t.streams.items ++ new_stream c.args.name c.args.columns ∷ [] =
    ap states_of c.push_reserved.ensures.items ∙ states-push t.streams.items c.new-2.result ∙ ap (λ (s : StreamState). states_of t.streams.items ++ s ∷ []) made in
    let spare : c.in-Some.name ≡ c.args.name = search rules in
    let next : c.in-Some-replace.schemas.kinds ≡ (next_schemas c.args.columns t).kinds = search rules in
    let keys : c.insert.new.self.keys ≡ insert_key bytes_eq t.names.keys c.args.name = c.in-Ok-insert.ensures.keys ∙ ap (insert_key bytes_eq t.names.keys) spare in
    record {
      named = keys
          ∙ names-with-new t.names.keys t.streams.items c.new-2.result c.args.name t.named (absent-name (states_of t.streams.items) c.args.name c.requires.fits.absent) (ap (λ (s : StreamState). s.name) made)
          ∙ sym (ap (λ (streams : List CatalogStream). map name_of streams) c.push_reserved.ensures.items);
      kinds = next ∙ sym (kinds-added (states_of t.streams.items) (new_stream c.args.name c.args.columns)) ∙ sym (ap kinds_of_streams states);
      counted = t.counted ∙ sym (no-extent-more (states_of t.streams.items) c.args.name c.args.columns) ∙ sym (ap extent_count states);
      sound = subst (λ (streams : List StreamState). IsTable (table_with t.tick t.next_file (kept_of t.kept).next_id streams t.programs.items (kept_of t.kept).entries)) (sym states)
          (stream-keeps c.args.name c.args.columns (table_of t) c.requires.fits t.sound);
    }

pub returns : goal.returns
returns c =
    let t = c.args.self.now in
    let made : state_of c.new-2.result ≡ new_stream c.args.name c.args.columns =
    c.new-2.ensures ∙ ap (λ (columns : List Column). new_stream c.args.name columns) (c.in-Ok.ensures.columns ∙ c.into_vec.ensures) in
    let states : states_of c.push_reserved.new.self.items ≡ states_of t.streams.items ++ new_stream c.args.name c.args.columns ∷ [] =
    ap states_of c.push_reserved.ensures.items ∙ states-push t.streams.items c.new-2.result ∙ ap (λ (s : StreamState). states_of t.streams.items ++ s ∷ []) made in
    c.add_tick.ensures ∙ ap (λ (streams : List StreamState). with_tick (table_with t.tick t.next_file (kept_of t.kept).next_id streams t.programs.items (kept_of t.kept).entries)) states
