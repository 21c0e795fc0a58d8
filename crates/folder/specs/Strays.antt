-- Which files of a store nothing names.
use Rattle.std.specs.Prelude.{◌≡◌, ℕ, ◌==◌, ◌^◌, ◌<◌, Bool, true, not, List, Option, None, Some, IsTrue}
use Rattle.std.specs.List.{list_any}
use Rattle.outside_traits.specs.Runs.{Spans}
use Rattle.outside_traits.specs.View.{View}

-- whether the file is one of these
abbrev pub is_named : List ℕ → ℕ → Bool
is_named named file = list_any (λ other. other == file) named

-- nothing names the file
abbrev pub IsStray : List ℕ → ℕ → Type 0
IsStray named file = IsTrue (not (is_named named file))

-- no file that is named is changed, nor what a crash since leaves of one
abbrev pub ChangesStrays : List ℕ → View → View → Type 0
ChangesStrays named old new = Spans (λ file. IsStray named file) (λ image. Unit {0}) old new

-- of the files below this number only named ones are there
abbrev pub OnlyNamedBelow : ℕ → View → List ℕ → Type 0
OnlyNamedBelow end v named = (file : ℕ) → file < end → v.there file ≡ true → IsTrue (is_named named file)

-- Only named files are there. A file's number is a u64: no call of a store takes a greater one.
abbrev pub OnlyNamed : View → List ℕ → Type 0
OnlyNamed v named = OnlyNamedBelow (2 ^ 64) v named

-- all files below it were looked at, where the search goes on from this number or ends
abbrev pub end_of : Option ℕ → ℕ
end_of None = 2 ^ 64
end_of (Some start) = start
