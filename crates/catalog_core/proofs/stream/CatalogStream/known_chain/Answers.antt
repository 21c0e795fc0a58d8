use Rattle.std.proofs.Common.{◌≡◌, ◌∙◌, ◌-◌, suc, ap, take, arith}
use Rattle.fingerprints.specs.Keys.{chain_start, chain_of}
use Rattle.catalog_core.specs.Results.{extent_digests}
use Rattle.catalog_core.proofs.ChainLemmas.{chain-known}
use Rattle.catalog_core.proofs.stream.CatalogStream.known_chain.Goals as goal

pub returns-else-place-eq0 : goal.returns-else-place-eq0
returns-else-place-eq0 c =
    let s = c.args.self.now in
    let ds = extent_digests s.extents.items in
    let place : suc (c.args.place - 1) ≡ c.args.place = omega (arith, c.if-place-eq0.false) in
    c.index.ensures
    ∙ chain-known chain_start ds s.chains.items (c.args.place - 1) c.index.result.now s.chained (omega (arith, place, c.requires))
    ∙ ap (λ n. chain_of chain_start (take n ds)) place
