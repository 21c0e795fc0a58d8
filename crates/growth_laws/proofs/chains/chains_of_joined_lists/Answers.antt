use Rattle.growth_laws.proofs.ChainRows.{chain_joined, chain_takes_in}
use Rattle.growth_laws.proofs.chains.chains_of_joined_lists.Goals as goal

pub returns : goal.returns
returns c = record { rows = chain_joined; takes_in = chain_takes_in }
