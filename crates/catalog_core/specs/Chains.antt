-- The chains of a stream: one after each of its extents.
use Rattle.std.specs.Prelude.{List, [], ◌∷◌}
use Rattle.rows_core.specs.declared.file_ref.Digest.{Digest}
use Rattle.fingerprints.specs.Keys.{chain}

-- from this chain on the one after each extent, whose digests these are
abbrev pub chains_after : Digest → List Digest → List Digest
chains_after before [] = []
chains_after before (extent ∷ extents) = chain before extent ∷ chains_after (chain before extent) extents
