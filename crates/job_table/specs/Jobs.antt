-- The jobs of a table: where one stands, and how it is taken out.
use Rattle.std.specs.Prelude.{◌≡◌, ℕ, List, [], ◌∷◌, position, slice_get, slice_set, bytes_eq, Option, None, Some}
use Rattle.std.specs.List.{remove}
use Rattle.job_table.specs.declared.table.OpenJob.{OpenJob}

-- the place of the first job of this name
abbrev pub place_of : {J : Type 0} → List (OpenJob J) → List ℕ → Option ℕ
place_of jobs name = position (λ job. bytes_eq job.name name) jobs

-- the job of this name stood there, and the others stand as they stood
pub record IsTakenOut {J : Type 0} (name : List ℕ) (job : J) (old new : List (OpenJob J)) : Type 0 where
  pub at : ℕ
  pub taken : OpenJob J
  pub place : place_of old name ≡ Some at
  pub stood : slice_get old at ≡ Some taken
  pub is : taken.job ≡ job
  pub stand : new ≡ remove old at

-- this job stands at the place
abbrev pub IsJobAt : {J : Type 0} → List (OpenJob J) → ℕ → J → Type 0
IsJobAt {J} jobs place job = (there : OpenJob J) × (slice_get jobs place ≡ Some there) × (there.job ≡ job)

-- the one stood at the place, and the other stands there; the others stand as they stood
abbrev pub IsReplaced : {J : Type 0} → ℕ → OpenJob J → OpenJob J → List (OpenJob J) → List (OpenJob J) → Type 0
IsReplaced place before after old new = (slice_get old place ≡ Some before) × (new ≡ slice_set old place after)

-- the job gives way to the next one, where there is one
abbrev pub put_next : {J : Type 0} → OpenJob J → Option J → OpenJob J
put_next opened (Some job) = record { name = opened.name; job = job }
put_next opened None = opened

-- so does each of the jobs, in their order
abbrev pub put_each : {J : Type 0} → List (OpenJob J) → List (Option J) → List (OpenJob J)
put_each jobs [] = jobs
put_each [] (next ∷ nexts) = []
put_each (opened ∷ jobs) (next ∷ nexts) = put_next opened next ∷ put_each jobs nexts
