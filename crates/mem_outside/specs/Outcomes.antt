-- What a crash may leave of a file, and how the calls change it.
use Rattle.std.specs.Prelude.{◌⊎◌, ℕ, zero, suc, ◌+◌, Bool, true, false, ◌&&◌, ◌||◌, ◌==◌, not, nat_le, nat_lt, max, List, [], ◌∷◌, ◌++◌, ◌-◌, replicate, length, take, map, find, Option, None, Some, unwrap_or, IsTrue, if◌then◌else◌}
use Rattle.std.specs.List.{list_all}
use Rattle.outside_traits.specs.Calls.{overlaid}
use Rattle.mem_outside.specs.Shown.{Loose, Shown}

-- the fixed bytes stand where they are, and the others are there
abbrev pub fits : List (Option ℕ) → List ℕ → Bool
fits [] x = true
fits (p ∷ ps) [] = false
fits (None ∷ ps) (y ∷ ys) = fits ps ys
fits (Some b ∷ ps) (y ∷ ys) = (b == y) && fits ps ys

abbrev pub allows : Loose → List ℕ → Bool
allows loose x = fits loose.fixed x && nat_le (length x) loose.longest

abbrev pub AnyAllows : List Loose → List ℕ → Type 0
AnyAllows [] x = ⊥
AnyAllows (loose ∷ gone) x = IsTrue (allows loose x) ⊎ AnyAllows gone x

-- a crash may leave these bytes: of the file, or of a removed one
abbrev pub Outcome : Shown → List ℕ → Type 0
Outcome s x = IsTrue (allows s.loose x) ⊎ AnyAllows s.gone x

-- n bytes from this place on may be anything
abbrev pub freed : ℕ → ℕ → List (Option ℕ) → List (Option ℕ)
freed at n [] = []
freed (suc at) n (p ∷ ps) = p ∷ freed at n ps
freed zero (suc n) (p ∷ ps) = None ∷ freed zero n ps
freed zero zero (p ∷ ps) = p ∷ ps

-- what byte i is after that
abbrev pub freed_byte : ℕ → ℕ → ℕ → Option ℕ → Option ℕ
freed_byte at n i p = if nat_le at i && nat_lt i (at + n) then None else p

-- nothing is loose
abbrev pub settled : List ℕ → Loose
settled bytes = record { fixed = map (λ b. Some b) bytes; longest = length bytes }

abbrev pub absent : ℕ → Shown
absent number = record { number = number; there = false; bytes = []; loose = record { fixed = []; longest = 0 }; gone = [] }

-- after a write, or after one that failed: the file is there then too
abbrev pub written : ℕ → List ℕ → Bool → Shown → Shown
written at bytes done s = record {
  number = s.number;
  there = true;
  bytes = if done then overlaid s.bytes at bytes else s.bytes;
  loose = record { fixed = freed at (length bytes) s.loose.fixed; longest = max s.loose.longest (at + length bytes) };
  gone = s.gone;
}

-- after a cut, or after one that failed
abbrev pub shortened : ℕ → Bool → Shown → Shown
shortened len done s = record {
  number = s.number;
  there = s.there;
  bytes = if done then take len s.bytes else s.bytes;
  loose = record { fixed = take len s.loose.fixed; longest = s.loose.longest };
  gone = s.gone;
}

abbrev pub synced : Shown → Shown
synced s = record { number = s.number; there = s.there; bytes = s.bytes; loose = settled s.bytes; gone = [] }

abbrev pub removed : Shown → Shown
removed s = record { number = s.number; there = false; bytes = []; loose = record { fixed = []; longest = 0 }; gone = s.loose ∷ s.gone }

-- with its removed files, or without
abbrev pub kept : Bool → Shown → Shown
kept all s = record { number = s.number; there = s.there; bytes = s.bytes; loose = s.loose; gone = if all then s.gone else [] }

-- the file of this number
abbrev pub state_in : List Shown → ℕ → Shown
state_in files file = unwrap_or (find (λ (s : Shown). s.number == file) files) (absent file)

-- no two files have one number
abbrev pub numbers_differ : List Shown → Bool
numbers_differ [] = true
numbers_differ (s ∷ files) = list_all (λ (t : Shown). not (t.number == s.number)) files && numbers_differ files

-- the files with this one in place of that of its number, or behind the others; these with their removed files, or without
abbrev pub with_file : Bool → Shown → List Shown → List Shown
with_file all s [] = s ∷ []
with_file all s (t ∷ files) = if t.number == s.number then s ∷ map (kept all) files else kept all t ∷ with_file all s files

-- what reads give is an outcome, and an absent file is empty after each crash, but for removed ones
abbrev pub is_sound : Shown → Bool
is_sound s = allows s.loose s.bytes && (s.there || (s.loose.longest == 0)) && list_all (λ (l : Loose). nat_le (length l.fixed) l.longest) s.gone

-- one of the outcomes: of the least length or of the greatest, with one byte wherever any may stand
abbrev pub filled : Bool → ℕ → Loose → List ℕ
filled greatest filler loose =
    map (λ p. unwrap_or p filler) loose.fixed ++ (if greatest then replicate (loose.longest - length loose.fixed) filler else [])

abbrev pub first_or : List Loose → Loose → Loose
first_or [] loose = loose
first_or (gone ∷ more) loose = gone

-- the file after a crash that leaves that, of the file or of the last one that was removed
abbrev pub left_of : Bool → ℕ → Bool → Shown → Shown
left_of greatest filler removed_too s =
    let bytes = filled greatest filler (if removed_too then first_or s.gone s.loose else s.loose) in
    record { number = s.number; there = s.there || (removed_too && not (length s.gone == 0)); bytes = bytes; loose = settled bytes; gone = [] }

-- a file with these bytes, which are stable
abbrev pub stable_file : ℕ → List ℕ → Shown
stable_file number bytes = record { number = number; there = true; bytes = bytes; loose = settled bytes; gone = [] }
