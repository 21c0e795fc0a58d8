-- What a plan, and a plan over its data, are looked up by: SHA-256 digests (FIPS 180-4).
use Rattle.std.specs.Prelude.{ℕ, List, [], ◌∷◌, ◌++◌}
use Rattle.std.specs.List.{flat_map}
use Rattle.sha2.specs.Sha256.{sha256}
use Rattle.rows_core.specs.declared.file_ref.Digest.{Digest}
use Rattle.plan_core.specs.PlainPlan.{PlainPlan}
use Rattle.plan_spelling.specs.Spelling.{plan_spelling}

abbrev pub digest_of : List ℕ → Digest
digest_of bytes = record { bytes = sha256 bytes }

-- of the plan's spelling
abbrev pub program_key : PlainPlan → Digest
program_key plan = digest_of (plan_spelling plan)

-- of a program key followed by chains, two for each leaf of the plan: at the beginning of its cut and at the end
abbrev pub data_key : Digest → List Digest → Digest
data_key program chains = digest_of (program.bytes ++ flat_map (λ (digest : Digest). digest.bytes) chains)

-- of a stream without extents
abbrev pub chain_start : Digest
chain_start = digest_of []

-- of a stream with one extent more: the chain before it, and then the extent's digest
abbrev pub chain : Digest → Digest → Digest
chain before extent = digest_of (before.bytes ++ extent.bytes)

-- of a stream with these extents, in order
abbrev pub chain_of : Digest → List Digest → Digest
chain_of before [] = before
chain_of before (extent ∷ extents) = chain_of (chain before extent) extents
