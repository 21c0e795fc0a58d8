use Rattle.std.proofs.Common.{rules, ◌∙◌}
use Rattle.std.proofs.lemmas.List.Sorted.{answers_always}
use Rattle.cache_index.proofs.Places.{place-is, place-low}
use Rattle.cache_index.proofs.ids.place_of.Goals as goal

pub returns-clause-place : goal.returns-clause-place
returns-clause-place c =
    let facts = c.binary_search_by_key.ensures in
    let by_key = facts.position (λ e. e.id) (answers_always _ _ _ (λ f a r g called. search rules)) in
    c.ok.ensures.value ∙ place-is c.args.entries.now c.args.id c.binary_search_by_key.result c.requires facts.bound by_key

pub returns-clause-bound : goal.returns-clause-bound
returns-clause-bound c = place-low c.args.entries.now c.binary_search_by_key.result c.ok.result c.ok.ensures.value c.binary_search_by_key.ensures.bound
