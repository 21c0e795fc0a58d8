-- What a source's bytes may become, where they are told.
use Rattle.std.specs.Prelude.{◌≡◌, ℕ, List, ◌++◌, Option, None, Some, ⊤, IfSome}
use Rattle.std.specs.Io.KnownBytes.{Keeps}

-- what was left is still so, or isn't told any longer
abbrev pub KeepsOrForgets : Option (List ℕ) → Option (List ℕ) → Type 0
KeepsOrForgets old None = ⊤
KeepsOrForgets old (Some ys) = Keeps old (Some ys)

-- these bytes were taken from the front of what was left, and what is told still is the rest
abbrev pub Takes : Option (List ℕ) → Option (List ℕ) → List ℕ → Type 0
Takes None new bytes = ⊤
Takes (Some xs) new bytes = (rest : List ℕ) × (xs ≡ bytes ++ rest) × IfSome new (λ ys. ys ≡ rest)
