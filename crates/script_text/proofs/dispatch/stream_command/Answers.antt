use Rattle.std.proofs.Common.{rules}
use Rattle.script_text.proofs.WholeLemmas.{stream_is_whole}
use Rattle.script_text.proofs.dispatch.stream_command.Goals as goal

pub returns-in-Ok-Some-clause-whole : goal.returns-in-Ok-Some-clause-whole
returns-in-Ok-Some-clause-whole c = stream_is_whole c.args.rest.now c.in-Ok-Some.command (search rules)
