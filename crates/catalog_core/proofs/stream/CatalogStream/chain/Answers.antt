use Rattle.std.proofs.Common.{◌≡◌, ◌∙◌, ◌≤◌, min, ap, List, length, slice_range, arith}
use Rattle.catalog_types.specs.declared.extent.Extent.{Extent}
use Rattle.fingerprints.specs.Keys.{chain_start, chain_of}
use Rattle.catalog_core.specs.Results.{extent_digests}
use Rattle.catalog_core.proofs.ChainLemmas.{chain-goes-on}
use Rattle.catalog_core.proofs.stream.CatalogStream.chain.Goals as goal

pub returns : goal.returns
returns c =
    let s = c.args.self.now in
    let es = s.extents.items in
    let known = c.min-known.result in
    let end = c.min-end.result in
    let is : end ≡ min c.args.count (length es) = omega (arith, c.min-end.ensures, c.len-2.ensures, s.extents.ok.0) in
    let low : known ≤ end = omega (arith, is, c.min-known.ensures, c.len.ensures, s.chains.ok.0, s.known) in
    c.chain_over.ensures
    ∙ ap (λ (xs : List Extent). chain_of c.known_chain.result (extent_digests (slice_range xs known end))) c.deref.ensures.value
    ∙ chain-goes-on chain_start es c.args.count known end c.known_chain.result low is c.known_chain.ensures
