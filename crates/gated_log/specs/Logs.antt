-- What a log file is: the header, then bodies behind open gates, then a closed gate.
use Rattle.std.specs.Prelude.{◌≡◌, ◌≢◌, ◌⊎◌, ℕ, ◌+◌, ◌^◌, ◌<◌, List, [], ◌∷◌, ◌++◌, length, take, map, Vec, ⊤}
use Rattle.std.specs.List.{All}
use Rattle.std.specs.Int.{w32, to_be_bytes}
use Rattle.std.specs.declared.alloc.Global.{Global}

-- `NXL1` and four zero bytes
abbrev pub header : List ℕ
header = 78 ∷ 88 ∷ 76 ∷ 49 ∷ 0 ∷ 0 ∷ 0 ∷ 0 ∷ []

-- a number as a u32 with the highest byte first
unfoldable pub length_bytes : ℕ → List ℕ
length_bytes n = to_be_bytes w32 n

-- the length, and then the bytes
abbrev pub spelled : List ℕ → List ℕ
spelled body = length_bytes (length body) ++ body

-- a body has 1 to 4,294,967,295 bytes
abbrev pub IsBody : List ℕ → Type 0
IsBody body = (0 < length body) × (length body < 2 ^ 32)

-- bodies behind open gates
abbrev pub blocks : List (List ℕ) → List ℕ
blocks [] = []
blocks (body ∷ bodies) = 1 ∷ spelled body ++ blocks bodies

-- the log up to its last gate
unfoldable pub front : List (List ℕ) → List ℕ
front bodies = header ++ blocks bodies

-- a log with these bodies as it is written: a closed gate 0 behind them, and then these bytes
abbrev pub sealed : List (List ℕ) → List ℕ → List ℕ
sealed bodies rest = front bodies ++ 0 ∷ rest

-- The file is a log with these bodies: behind them stands a closed gate, and then anything.
pub record Reads (bodies : List (List ℕ)) (file : List ℕ) : Type 0 where
  pub gate : ℕ
  pub rest : List ℕ
  pub is : file ≡ front bodies ++ gate ∷ rest
  pub closed : gate ≢ 1
  pub sizes : All IsBody bodies

-- no length and body stand at the front of these bytes
abbrev pub NoBody : List ℕ → Type 0
NoBody bytes = (body after : List ℕ) → IsBody body → bytes ≡ spelled body ++ after → ⊥

-- neither a closed gate nor an open one with a body stands here
abbrev pub NoGate : List ℕ → Type 0
NoGate [] = ⊤
NoGate (gate ∷ more) = (gate ≡ 1) × NoBody more

-- Reading stops at byte `at` within the header: it is missing there, or another.
pub record StopsInHeader (at : ℕ) (file : List ℕ) : Type 0 where
  pub within : at < 8
  pub same : take at file ≡ take at header
  pub differs : take (at + 1) file ≢ take (at + 1) header

-- Reading stops at the gate behind these bodies, which is missing, or open with no body behind it.
pub record StopsBehind (bodies : List (List ℕ)) (at : ℕ) (file : List ℕ) : Type 0 where
  pub rest : List ℕ
  pub is : file ≡ front bodies ++ rest
  pub place : at ≡ length (front bodies)
  pub bad : NoGate rest
  pub sizes : All IsBody bodies

-- reading the file stops at byte `at`: it is no log
abbrev pub StopsAt : ℕ → List ℕ → Type 0
StopsAt at file = StopsInHeader at file ⊎ ((bodies : List (List ℕ)) × StopsBehind bodies at file)

-- the bytes of each of these
abbrev pub contents : List (Vec ℕ Global) → List (List ℕ)
contents vecs = map (λ v. v.items) vecs
