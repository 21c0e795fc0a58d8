use Rattle.std.proofs.Common.{rules, not}
use Rattle.std.proofs.lemmas.Fn.{filter_same}
use Rattle.cache_index.specs.Lists.{is_among}
use Rattle.cache_index.proofs.lists.keep_others.Goals as goal

pub returns-clause-others : goal.returns-clause-others
returns-clause-others c =
    filter_same _ (λ id. not (is_among c.args.ids.now id)) _ (λ x b q k. search rules) _ _ c.retain.ensures.filtered
