use Rattle.std.proofs.Common.{◌∙◌, sym, ap}
use Rattle.catalog_core.specs.Programs.{kinds_of_streams}
use Rattle.catalog_core.specs.Table.{extent_count}
use Rattle.catalog_core.proofs.Growth.{names-stay}
use Rattle.catalog_core.proofs.restored_streams.RestoredStreams.know_chains.Goals as goal

pub invariant_of-self : goal.invariant_of-self
invariant_of-self c =
    let r = c.args.self.now in
    let same = c.know_chains_of_entries.ensures in
    record {
      named = r.named ∙ names-stay r.streams.items c.know_chains_of_entries.new.streams.items same;
      kinds = r.kinds ∙ sym (ap kinds_of_streams same);
      counted = r.counted ∙ sym (ap extent_count same);
    }
