-- Rows and the kinds of their columns: what a typed plan takes of its streams, and what it gives.
use Rattle.std.specs.Prelude.{◌≡◌, ℕ, List, [], ◌∷◌, map, slice_get, All, IfSome, ⊤}
use Rattle.rows_core.specs.Value.{kind_of}
use Rattle.plan_core.specs.Columns.{Rows}
use Rattle.plan_core.specs.PlanTyping.{Kinds}

-- each row has values of these kinds
abbrev pub HaveKinds : Kinds → Rows → Type 0
HaveKinds kinds rows = All (λ row. map kind_of row ≡ kinds) rows

-- one list for each of these streams, with rows of the stream's kinds
abbrev pub AreOfStreams : List Kinds → List ℕ → List Rows → Type 0
AreOfStreams schemas [] [] = ⊤
AreOfStreams schemas [] (rows ∷ lists) = ⊥
AreOfStreams schemas (stream ∷ streams) [] = ⊥
AreOfStreams schemas (stream ∷ streams) (rows ∷ lists) =
    IfSome (slice_get schemas stream) (λ kinds. HaveKinds kinds rows) × AreOfStreams schemas streams lists
