use Rattle.std.proofs.Common.{◌≡◌, ◌∙◌, ◌≤◌, ◌++◌, length, slice_range, arith}
use Rattle.fingerprints.specs.Keys.{chain_start}
use Rattle.catalog_core.specs.Chains.{chains_after}
use Rattle.catalog_core.specs.Results.{extent_digests}
use Rattle.catalog_core.proofs.ChainLemmas.{chains-go-on}
use Rattle.catalog_core.proofs.stream.CatalogStream.know_chains.Goals as goal

pub invariant_of-self-3 : goal.invariant_of-self-3
invariant_of-self-3 c =
    let s = c.args.self.now in
    let es = s.extents.items in
    let known = c.len-known.result in
    let end = c.min-end.result in
    let last = c.known_chain-last.result in
    let more = c.push_chains.new.chains.items in
    let low : known ≤ end = omega (arith, c.if-end-known.false) in
    let most : end ≤ length es = omega (arith, c.min-end.ensures, c.len.ensures, s.extents.ok.0) in
    let is : known ≡ length s.chains.items = omega (arith, c.len-known.ensures, s.chains.ok.0) in
    let made : more ≡ s.chains.items ++ chains_after last (extent_digests (slice_range es known end)) =
    c.push_chains.ensures ∙ (λ i. c.reserve.ensures.items i ++ chains_after last (extent_digests (slice_range (c.deref.ensures.value i) known end))) in
    let gone = chains-go-on chain_start es s.chains.items more known end last low most is s.chained c.known_chain-last.ensures made in
    record {
      counted = s.counted;
      few = s.few;
      are = s.are;
      small = s.small;
      known = omega (arith, gone.0, most);
      chained = gone.1;
    }

pub returns-clause-known : goal.returns-clause-known
returns-clause-known c =
    let s = c.args.self.now in
    let es = s.extents.items in
    let known = c.len-known.result in
    let end = c.min-end.result in
    let last = c.known_chain-last.result in
    let more = c.push_chains.new.chains.items in
    let low : known ≤ end = omega (arith, c.if-end-known.false) in
    let most : end ≤ length es = omega (arith, c.min-end.ensures, c.len.ensures, s.extents.ok.0) in
    let is : known ≡ length s.chains.items = omega (arith, c.len-known.ensures, s.chains.ok.0) in
    let made : more ≡ s.chains.items ++ chains_after last (extent_digests (slice_range es known end)) =
    c.push_chains.ensures ∙ (λ i. c.reserve.ensures.items i ++ chains_after last (extent_digests (slice_range (c.deref.ensures.value i) known end))) in
    let gone = chains-go-on chain_start es s.chains.items more known end last low most is s.chained c.known_chain-last.ensures made in
    omega (arith, gone.0, c.min-end.ensures, c.len.ensures, s.extents.ok.0)
