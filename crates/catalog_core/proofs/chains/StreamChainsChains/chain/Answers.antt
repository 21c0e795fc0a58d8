use Rattle.std.proofs.Common.{◌∙◌}
use Rattle.catalog_core.proofs.ChainLemmas.{chain-there-at, chain-nowhere}
use Rattle.catalog_core.proofs.chains.StreamChainsChains.chain.Goals as goal

pub returns-in-Some : goal.returns-in-Some
returns-in-Some c =
    let found = c.in-Some.ensures.lookup in
    c.chain.ensures ∙ chain-there-at c.args.self.now.streams.now c.args.stream c.args.count c.in-Some.stream.now found.3.0 found.1

pub returns-in-None : goal.returns-in-None
returns-in-None c = c.chain_start.ensures ∙ chain-nowhere c.args.self.now.streams.now c.args.stream c.args.count c.in-None.ensures.lookup.3
