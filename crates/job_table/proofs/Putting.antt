-- Jobs that are put in the places of others, one after another.
use Rattle.std.proofs.Common.{◌≡◌, refl, ap, suc, ℕ, List, [], ◌∷◌, ◌++◌, length, slice_get, slice_set, Option, None, Some}
use Rattle.job_table.specs.declared.table.OpenJob.{OpenJob}
use Rattle.job_table.specs.Jobs.{put_each, put_next}

module _ {J : Type 0} where
  pub as-many : (jobs : List (OpenJob J)) (nexts : List (Option J)) → length (put_each jobs nexts) ≡ length jobs
  as-many jobs [] = refl
  as-many [] (next ∷ nexts) = refl
  as-many (o ∷ jobs) (next ∷ nexts) = ap (λ (n : ℕ). suc n) (as-many jobs nexts)

  -- one place further there is none
  pub none-more : (jobs : List (OpenJob J)) (nexts : List (Option J)) → put_each jobs (nexts ++ None ∷ []) ≡ put_each jobs nexts
  none-more [] [] = refl
  none-more (o ∷ jobs) [] = refl
  none-more [] (next ∷ nexts) = refl
  none-more (o ∷ jobs) (next ∷ nexts) = ap (λ (l : List (OpenJob J)). put_next o next ∷ l) (none-more jobs nexts)

  -- or this one, in the place of that
  pub one-more : (job was : J) (name : List ℕ) (jobs : List (OpenJob J)) (nexts : List (Option J)) → slice_get (put_each jobs nexts) (length nexts) ≡ Some (record { name = name; job = was })
      → put_each jobs (nexts ++ Some job ∷ []) ≡ slice_set (put_each jobs nexts) (length nexts) (record { name = name; job = job })
  one-more job was name [] [] stood = absurd (cc)
  one-more job was name (o ∷ jobs) [] stood =
      let here : Some o ≡ Some (record { name = name; job = was }) = stood in
      let same : o ≡ record { name = name; job = was } = cc in
      ap (λ (x : OpenJob J). record { name = x.name; job = job } ∷ jobs) same
  one-more job was name [] (next ∷ nexts) stood = absurd (cc)
  one-more job was name (o ∷ jobs) (next ∷ nexts) stood = ap (λ (l : List (OpenJob J)). put_next o next ∷ l) (one-more job was name jobs nexts stood)
