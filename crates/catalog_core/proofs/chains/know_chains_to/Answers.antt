use Rattle.std.proofs.Common.{◌<◌, length, arith}
use Rattle.catalog_core.proofs.Growth.{states-kept}
use Rattle.catalog_core.proofs.chains.know_chains_to.Goals as goal

pub returns : goal.returns
returns c =
    let streams = c.args.streams.now in
    let low : c.args.stream < length streams.items = omega (arith, c.if-len-place.false, c.len.ensures, streams.ok.0) in
    states-kept streams.items c.args.stream c.index_mut.result.now c.know_chains.new.self low c.index_mut.ensures.value c.know_chains.ensures.same
