-- The test of digests is equality.
use Rattle.std.proofs.Common.{◌≡◌, rules}
use Rattle.std.specs.Bool.{Decides}
use Rattle.rows_core.specs.declared.file_ref.Digest.{Digest}
use Rattle.cache_index.specs.Lists.{same_digest}

pub same_digest-Decides : (a b : Digest) → Decides (same_digest a b) (a ≡ b)
same_digest-Decides = search rules
