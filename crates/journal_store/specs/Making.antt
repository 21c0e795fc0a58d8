-- What holds of the root and of the log that it names, and what a crash leaves while they are made.
use Rattle.std.specs.Prelude.{◌⊎◌, ℕ, List, []}
use Rattle.outside_traits.specs.View.{View, Now, Only, IsImageAt}
use Rattle.gated_log.specs.Logs.{Reads}
use Rattle.gated_log.specs.Stands.{Stands}
use Rattle.gated_log.specs.declared.log.Log.{Log}
use Rattle.journal_store.specs.Readings.{generation_file, generations, IsUnfinished, HaveBodies}

-- After each crash now the root names this generation, and the log has these bodies.
pub record Names (v : View) (generation : ℕ) (log : Log) (bodies : List (List ℕ)) : Type 0 where
  pub root : (x : List ℕ) → Now v 0 x → Reads (generations generation) x
  pub stands : Stands v log bodies

-- A crash now leaves the root and the log of this generation as they read.
pub record AreStable (v : View) (generation : ℕ) : Type 0 where
  pub root : Only (v.files 0) (Now v 0)
  pub log : Only (v.files (generation_file generation)) (Now v (generation_file generation))

-- While a journal is loaded, an image is one of those at the start, or has no body, where the root that was read then was
-- unfinished.
abbrev pub IsLoading : View → (ℕ → List ℕ) → Type 0
IsLoading u image = IsImageAt u u.moment image ⊎ (IsUnfinished (u.files 0) × HaveBodies image 0 [])
