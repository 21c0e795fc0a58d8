-- What a file of the store in memory is, and what a crash may leave of it.
use Rattle.std.specs.Prelude.{ℕ, Bool, List, Option}

-- Of the first bytes some are fixed (Some) and the others may be anything (None); all of these stand in each outcome,
-- which may go on with any bytes up to the greatest length.
pub record Loose : Type 0 where
  pub fixed : List (Option ℕ)
  pub longest : ℕ

-- A file, as it reads, with what a crash may leave of it, and of files of its number that were removed since.
pub record Shown : Type 0 where
  pub number : ℕ
  pub there : Bool
  pub bytes : List ℕ
  pub loose : Loose
  pub gone : List Loose
