use Rattle.std.proofs.Common.{◌≤◌, length}
use Rattle.folder_store.proofs.directory.read_full_at.Given as goal

abbrev pub invariant-loop : goal.invariant-loop
invariant-loop l = l.count ≤ length l.buf
