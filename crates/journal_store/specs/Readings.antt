-- What the journal's files read as: the root in file 0, and the log of the generation that it names.
use Rattle.std.specs.Prelude.{◌≡◌, ◌≢◌, ◌⊎◌, ℕ, zero, suc, ◌+◌, ◌<◌, ◌≤◌, ◌==◌, ◌||◌, ◌&&◌, ◌^◌, nat_le, nat_lt, Bool, IsTrue, List, [], ◌∷◌, ◌++◌, length, take}
use Rattle.std.specs.Int.{w64, to_be_bytes}
use Rattle.gated_log.specs.Logs.{front, Reads, StopsAt}

-- the log of this generation
abbrev pub generation_file : ℕ → ℕ
generation_file generation = 4294967296 + generation

-- the file that is kept for the users; the logs of generations end before it
abbrev pub users_file : ℕ
users_file = 9223372036854775808

-- the root, or the log of a generation
abbrev pub is_journal_file : ℕ → Bool
is_journal_file file = (file == 0) || (nat_le 4294967296 file && nat_lt file users_file)

abbrev pub IsJournalFile : ℕ → Type 0
IsJournalFile file = IsTrue (is_journal_file file)

-- a generation's number as the root has it: a u64 with the highest byte first
unfoldable pub number_bytes : ℕ → List ℕ
number_bytes generation = to_be_bytes w64 generation

-- the numbers from 0 up to this one, without it
abbrev pub numbers_below : ℕ → List (List ℕ)
numbers_below zero = []
numbers_below (suc n) = numbers_below n ++ number_bytes n ∷ []

-- the root's bodies where this generation is in use: the numbers from 0 to it
abbrev pub generations : ℕ → List (List ℕ)
generations generation = numbers_below (generation + 1)

-- the log that the root names, if it names one, has at most so many bytes
abbrev pub LogHasAtMost : (ℕ → List ℕ) → ℕ → Type 0
LogHasAtMost files most = (generation : ℕ) → Reads (generations generation) (files 0) → length (files (generation_file generation)) ≤ most

-- a root whose making isn't finished
abbrev pub IsUnfinished : List ℕ → Type 0
IsUnfinished root = (length root ≤ 9) ⊎ Reads [] root

-- The root names this generation, whose log has these bodies.
pub record IsMade (files : ℕ → List ℕ) (generation : ℕ) (bodies : List (List ℕ)) : Type 0 where
  pub root : Reads (generations generation) (files 0)
  pub log : Reads bodies (files (generation_file generation))
  pub few : generation < 2 ^ 62

-- The root names none yet: then generation 0 is in use, and has no body.
pub record IsUnmade (files : ℕ → List ℕ) (generation : ℕ) (bodies : List (List ℕ)) : Type 0 where
  pub root : IsUnfinished (files 0)
  pub first : generation ≡ 0
  pub none : bodies ≡ []

-- these files have this generation in use, with these bodies
abbrev pub HaveBodies : (ℕ → List ℕ) → ℕ → List (List ℕ) → Type 0
HaveBodies files generation bodies = IsMade files generation bodies ⊎ IsUnmade files generation bodies

-- The root is longer than an empty log, and no log from byte `at` on.
pub record StopsInRoot (files : ℕ → List ℕ) (file at : ℕ) : Type 0 where
  pub is_root : file ≡ 0
  pub long : 9 < length (files 0)
  pub stops : StopsAt at (files 0)

-- The root's bodies are the numbers from 0 up to i, and then one that isn't number i, whose first byte is `at`.
pub record StopsAtNumber (i : ℕ) (bodies : List (List ℕ)) (at : ℕ) : Type 0 where
  pub within : i < length bodies
  pub same : take i bodies ≡ numbers_below i
  pub differs : take (i + 1) bodies ≢ numbers_below (i + 1)
  pub place : at ≡ length (front (take i bodies)) + 5

pub record StopsInNumbers (files : ℕ → List ℕ) (file at : ℕ) : Type 0 where
  pub is_root : file ≡ 0
  pub bodies : List (List ℕ)
  pub root : Reads bodies (files 0)
  pub i : ℕ
  pub stops : StopsAtNumber i bodies at

-- The root names a generation whose file is no log from byte `at` on.
pub record StopsInLog (files : ℕ → List ℕ) (file at : ℕ) : Type 0 where
  pub generation : ℕ
  pub root : Reads (generations generation) (files 0)
  pub is_log : file ≡ generation_file generation
  pub stops : StopsAt at (files file)

-- reading these files stops at byte `at` of this file
abbrev pub StopsReading : (ℕ → List ℕ) → ℕ → ℕ → Type 0
StopsReading files file at = StopsInRoot files file at ⊎ (StopsInNumbers files file at ⊎ StopsInLog files file at)
