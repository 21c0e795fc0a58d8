-- An aggregate is its tag and the column behind it.
use Rattle.std.proofs.Common.{◌∙◌}
use Rattle.byte_formats.specs.Format.{symbol, beside}
use Rattle.byte_formats.proofs.Nodes.{node_reads}
use Rattle.plan_spelling.specs.Tags.{agg_tags, byte_of_agg}
use Rattle.plan_spelling.specs.Formats.{agg_fields, agg_made}
use Rattle.plan_spelling.proofs.lists.agg_at.Goals as goal

pub returns : goal.returns
returns c = node_reads (symbol byte_of_agg (beside agg_tags)) agg_fields agg_made c.in_ok-tag.tag c.args.bytes.now c.in_ok-tag.rest.now c.in_ok-tag.ensures ∙ c.in_ok-agg.ensures
