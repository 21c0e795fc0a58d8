-- A change is its tag and what stands behind it.
use Rattle.std.proofs.Common.{◌∙◌}
use Rattle.byte_formats.proofs.Nodes.{node_reads}
use Rattle.record_codec.specs.Formats.{change_fields, change_made, change_tag}
use Rattle.record_codec.proofs.reading.change_at.Goals as goal

pub returns : goal.returns
returns c = node_reads (change_tag c.args.form) (change_fields c.args.form) change_made c.in_ok-tag.tag c.args.bytes.now c.in_ok-tag.rest.now c.in_ok-tag.ensures ∙ c.in_ok-change.ensures
