-- What a store shows: what its files read as, and what a crash may leave of each of them.
use Rattle.std.specs.Prelude.{◌≡◌, ℕ, ◌≤◌, Bool, true, List, []}

-- What contracts see of a store. Outcomes stand by moment and by file, since a crash leaves each file by itself.
pub record View : Type 1 where
  -- what reads give; a file that isn't there reads as empty
  pub files : ℕ → List ℕ
  -- which files are there
  pub there : ℕ → Bool
  -- the moment, a number that never falls
  pub moment : ℕ
  -- what a crash at this moment may leave, or might have left, of this file
  pub left_at : ℕ → ℕ → List ℕ → Type 0

-- a crash now may leave these bytes of this file
abbrev pub Now : View → ℕ → List ℕ → Type 0
Now v file bytes = v.left_at v.moment file bytes

-- a crash at moment k leaves this of each file: each file by itself has one of its outcomes
abbrev pub IsImageAt : View → ℕ → (ℕ → List ℕ) → Type 0
IsImageAt v k image = (file : ℕ) → v.left_at k file (image file)

-- a crash at some moment since t leaves this
abbrev pub LeftSince : View → ℕ → (ℕ → List ℕ) → Type 0
LeftSince v t image = (k : ℕ) × (t ≤ k) × (k ≤ v.moment) × IsImageAt v k image

-- a crash leaves these bytes and nothing else
abbrev pub Only : List ℕ → (List ℕ → Type 0) → Type 0
Only bytes outcomes = (x : List ℕ) → outcomes x → x ≡ bytes

-- The counts of a store. Each never falls, and stands still at the greatest u64.
pub record Counts : Type 0 where
  -- failed calls that only look: attach, size, read and next_file
  pub reads : ℕ
  -- failed writes, cuts and syncs
  pub writes : ℕ
  -- failed removals
  pub removes : ℕ
  -- bytes that reads gave
  pub taken : ℕ

-- the view of a store that tells nothing
abbrev pub untold : View
untold = record { files = λ file. []; there = λ file. true; moment = 0; left_at = λ k file x. Unit {0} }
