use Rattle.command_words.proofs.Examples.{accepted-examples}
use Rattle.command_words.proofs.laws.accepted_examples.Goals as goal

pub returns : goal.returns
returns c = accepted-examples
