-- A file of a state that shows damage.
use Rattle.std.specs.Prelude.{◌≡◌, ◌≢◌, ℕ, List}
use Rattle.rows_core.specs.declared.file_ref.Digest.{Digest}
use Rattle.rows_core.specs.declared.file_ref.FileRef.{FileRef}
use Rattle.folder.specs.State.{State, Names}
use Rattle.folder.specs.Sound.{Care, Shown}

-- its bytes have another digest than the kept one; files that hold their bytes show none
pub record ShowsDamage (care : Care) (s : State) (file : ℕ) (kept found : Digest) : Type 0 where
  pub may : care ≡ Shown
  pub at : FileRef
  pub bytes : List ℕ
  pub names : Names s at bytes
  pub file_is : file ≡ at.file
  pub kept_is : kept ≡ at.digest
  pub differs : found ≢ kept
