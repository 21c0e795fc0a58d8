-- How a log stands to its file, and what a crash may leave of it.
use Rattle.std.specs.Prelude.{◌≡◌, ◌≢◌, ◌⊎◌, ℕ, ◌+◌, List, [], ◌∷◌, ◌++◌, length}
use Rattle.std.specs.List.{All}
use Rattle.outside_traits.specs.View.{View, Now}
use Rattle.gated_log.specs.Logs.{front, spelled, Reads, IsBody}
use Rattle.gated_log.specs.declared.log.Log.{Log}

-- the file's number
abbrev pub file_of : Log → ℕ
file_of log = log.file

-- the place after the last gate
abbrev pub end_of : Log → ℕ
end_of log = log.end

-- The log is the file's, which has these bodies after each crash now.
pub record Stands (v : View) (log : Log) (bodies : List (List ℕ)) : Type 0 where
  pub end : end_of log ≡ length (front bodies) + 1
  pub outcomes : (x : List ℕ) → Now v (file_of log) x → Reads bodies x

-- the file has the bodies without the new one, or with it
abbrev pub IsBeforeOrAfter : List (List ℕ) → List ℕ → List ℕ → Type 0
IsBeforeOrAfter bodies body x = Reads bodies x ⊎ Reads (bodies ++ body ∷ []) x

-- the new body stands whole behind the closed gate, behind it a closed gate 0, and then these bytes
pub record IsStaged (bodies : List (List ℕ)) (body rest x : List ℕ) : Type 0 where
  pub gate : ℕ
  pub is : x ≡ front bodies ++ gate ∷ (spelled body ++ 0 ∷ rest)
  pub closed : gate ≢ 1
  pub sizes : All IsBody bodies
  pub size : IsBody body
