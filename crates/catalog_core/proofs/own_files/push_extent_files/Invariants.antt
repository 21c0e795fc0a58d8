-- The files of the extents so far stand behind the others.
use Rattle.std.proofs.Common.{◌≡◌, ◌++◌, map, take}
use Rattle.catalog_core.proofs.own_files.push_extent_files.Given as goal

abbrev pub invariant-loop-extent : goal.invariant-loop-extent
invariant-loop-extent l = l.files.items ≡ l.initial.files.items ++ map (λ extent. extent.file.file) (take l.extent-index l.extents)
