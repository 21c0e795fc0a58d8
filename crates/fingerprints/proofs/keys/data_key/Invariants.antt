-- The program key and the chains so far.
use Rattle.std.proofs.Common.{◌++◌, take}
use Rattle.std.specs.List.{flat_map}
use Rattle.sha2.specs.Hashers.{Holds256}
use Rattle.rows_core.specs.declared.file_ref.Digest.{Digest}
use Rattle.fingerprints.proofs.keys.data_key.Given as goal

abbrev pub invariant-loop-chain : goal.invariant-loop-chain
invariant-loop-chain l = Holds256 l.hasher (l.program.bytes ++ flat_map (λ (digest : Digest). digest.bytes) (take l.chain-index l.chains))
