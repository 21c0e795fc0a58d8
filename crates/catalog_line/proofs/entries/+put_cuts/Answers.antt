use Rattle.std.proofs.Common.{◌≡◌, ◌<◌, ℕ, List, get_or, [], ◌∷◌, ◌++◌, map, length, sym, ap, ◌∙◌, rules, arith}
use Rattle.std.proofs.lemmas.List.{map_push}
use Rattle.serde_json.specs.View.{view}
use Rattle.rows_core.specs.declared.cut.Cut.{Cut}
use Rattle.catalog_core.specs.Streams.{state_of, states_of}
use Rattle.catalog_core.specs.declared.stream.CatalogStream.{CatalogStream}
use Rattle.catalog_line.specs.CatalogData.{cut_data, name_at}
use Rattle.catalog_line.proofs.NameLemmas.{name_at-there, cuts-next}
use Rattle.catalog_line.proofs.entries.+put_cuts.Goals as goal

abbrev no_cut : Cut
no_cut = record { from = 0; to = 0 }

pub returns : goal.returns
returns n c =
    cuts-next (states_of c.args.streams.now) c.args.leaves.now c.args.cuts.now no_cut (map view c.args.to.now.items) (map view c.push.new.self.items) _ (view c.in_ok-cut_value.field-0) c.put_cuts.result c.in-len1-up.len_at_least c.in-len1-up-cuts.len_at_least
    (ap (map view) c.in_ok-push.ensures.items ∙ map_push view c.args.to.now.items c.in_ok-cut_value.field-0)
    (c.in_ok-cut_value.ensures ∙ ap (λ (name : List ℕ). cut_data (name, get_or c.args.cuts.now 0 no_cut)) (c.name.ensures ∙ ap (λ (s : CatalogStream). s.name) c.index-streams-leaf.is ∙ sym (name_at-there state_of c.args.streams.now _ _ (search rules)))) c.put_cuts.ensures
