use Rattle.executor.proofs.finishing.into_result.Goals as goal

pub returns : goal.returns
returns c = c.evaluated.ensures
