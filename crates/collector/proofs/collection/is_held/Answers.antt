use Rattle.std.proofs.Common.{◌∙◌}
use Rattle.collector.proofs.Candidacy.{search_finds}
use Rattle.collector.proofs.collection.is_held.Goals as goal

pub returns : goal.returns
returns c = c.is_ok.ensures.value ∙ search_finds c.args.held.now c.args.id c.binary_search.result c.requires c.binary_search.ensures.position
