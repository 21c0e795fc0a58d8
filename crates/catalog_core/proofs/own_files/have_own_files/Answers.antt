use Rattle.catalog_core.specs.Streams.{states_of}
use Rattle.catalog_core.proofs.SortedFiles.{sorted-own}
use Rattle.catalog_core.proofs.own_files.have_own_files.Goals as goal

pub returns : goal.returns
returns c =
    let entries = c.args.entries.now in
    sorted-own c.args.next_file (states_of c.args.streams.now) entries c.in_ok-files.files.items c.sort_unstable.new.self.items c.as_slice.result.now c.rise_below.result
    c.in_ok-files.ensures
    c.sort_unstable.ensures.permutation c.sort_unstable.ensures.sorted c.as_slice.ensures.value c.rise_below.ensures
