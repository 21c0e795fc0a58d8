-- Parts of which nothing is read yet.
use Rattle.std.specs.Prelude.{◌≡◌, ℕ, List, [], ◌∷◌, IsSome, None}
use Rattle.plan_core.specs.PlainPlan.{leaves, plan_of}
use Rattle.plan_core.specs.PlanTyping.{Kinds, plan_kinds}
use Rattle.estimator.specs.Cuts.{Cuts}
use Rattle.growth_laws.specs.Pieces.{Piece, Entry, Gathered}
use Rattle.gathering.specs.Gathered.{Gathers}
use Rattle.executor.specs.declared.part.Part.{Part}
use Rattle.executor.specs.declared.part.Part.TheVariants as part

-- the ends of an interval that stands alone, else of one of no extent
abbrev pub IsOnlyInterval : Cuts → ℕ → ℕ → Type 0
IsOnlyInterval [] from to = (from ≡ 0) × (to ≡ 0)
IsOnlyInterval (cut ∷ []) from to = (from ≡ cut.from) × (to ≡ cut.to)
IsOnlyInterval (cut ∷ next ∷ cuts) from to = (from ≡ 0) × (to ≡ 0)

-- the piece, of which nothing is read
abbrev pub IsBegun : Piece → Part → Type 0
IsBegun (Entry plan id) (part.Entry boxed id' loaded) = (plan_of boxed.value ≡ plan) × (id' ≡ id) × (loaded ≡ None)
IsBegun (Gathered plan cuts) (part.Gathered gathering stream next end) =
    (gathering.plan ≡ plan) × (leaves plan ≡ stream ∷ []) × IsOnlyInterval cuts next end
    × ((schemas : List Kinds) → IsSome (plan_kinds schemas plan) → Gathers schemas [] gathering)
IsBegun _ _ = ⊥
