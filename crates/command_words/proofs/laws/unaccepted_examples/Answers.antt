use Rattle.command_words.proofs.Examples.{unaccepted-examples}
use Rattle.command_words.proofs.laws.unaccepted_examples.Goals as goal

pub returns : goal.returns
returns c = unaccepted-examples
