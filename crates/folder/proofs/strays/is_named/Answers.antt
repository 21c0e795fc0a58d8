use Rattle.std.proofs.Common.{◌∙◌}
use Rattle.folder.proofs.Searching.{search_finds}
use Rattle.folder.proofs.strays.is_named.Goals as goal

pub returns : goal.returns
returns c = c.is_ok.ensures.value ∙ search_finds c.args.named.now c.args.file c.binary_search.result c.requires c.binary_search.ensures.position
