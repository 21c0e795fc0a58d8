-- The pieces of a rewriting that serves are a state's.
use Rattle.std.proofs.Common.{◌≡◌, refl, subst, ℕ, ◌≤◌, List, [], ◌∷◌, arith}
use Rattle.std.specs.List.{AllByRecursion}
use Rattle.rows_core.specs.declared.cut.Cut.{Cut}
use Rattle.plan_core.specs.PlainPlan.{PlainPlan, Scan, Filter, Project, Distinct, Group, leaves}
use Rattle.estimator.specs.Cuts.{Cuts}
use Rattle.growth_laws.specs.Chains.{IsChain, IsOneStream}
use Rattle.growth_laws.specs.Pieces.{Piece, Entry, Gathered}
use Rattle.growth_laws.specs.There.{ExtentCounts, EndWithin}
use Rattle.executor.specs.Pieces.{IsPiece}
use Rattle.folder.specs.Files.{IsPieceIn}
use Rattle.folder.specs.State.{State, table, states_of, kinds_in}
use Rattle.folder.proofs.GrownStreams.{as-long}
use Rattle.plan_choice.specs.Pieces.{counts_of, IsPieceOf}

-- ---- plans of one stream

abbrev HasOneLeaf : PlainPlan → Type 0
HasOneLeaf plan = (leaf : ℕ) × (leaves plan ≡ leaf ∷ [])

chain-leaf : (plan : PlainPlan) → IsChain plan → HasOneLeaf plan
chain-leaf (Scan stream) is = (stream, refl)
chain-leaf (Filter child test) is = chain-leaf child is
chain-leaf (Project child columns) is = chain-leaf child is
chain-leaf _ is = absurd is

one-leaf : (plan : PlainPlan) → IsOneStream plan → HasOneLeaf plan
one-leaf (Distinct child) is = chain-leaf child is
one-leaf (Group child keys aggs) is = chain-leaf child is
one-leaf (Scan stream) is = (stream, refl)
one-leaf (Filter child test) is = chain-leaf child is
one-leaf (Project child columns) is = chain-leaf child is
one-leaf _ is = absurd is

one-cut : (counts : ExtentCounts) (leaf : ℕ) (cuts : Cuts) → EndWithin counts (leaf ∷ []) cuts → (cut : Cut) × (cuts ≡ cut ∷ []) × (cut.to ≤ counts leaf)
one-cut counts leaf [] within = absurd within
one-cut counts leaf (cut ∷ []) within = (cut, refl, within.0)
one-cut counts leaf (cut ∷ next ∷ cuts) within = absurd within.1

-- ---- pieces

module _ (s : State) where
  piece-in : (piece : Piece) → IsPieceOf (table s) piece → IsPiece (kinds_in s.streams) piece → IsPieceIn s piece
  piece-in (Entry plan id) of is = of
  piece-in (Gathered plan cuts) of is =
      let leaf = one-leaf plan is.1 in
      let cut = one-cut (counts_of (states_of s.streams)) leaf.0 cuts (subst (λ (ls : List ℕ). EndWithin (counts_of (states_of s.streams)) ls cuts) leaf.1 of) in
      let long = as-long s.streams leaf.0 in
      (leaf.0, cut.0, leaf.1, cut.1, omega (arith, cut.2, long))

  pub in-state : (pieces : List Piece) → AllByRecursion (IsPieceOf (table s)) pieces → AllByRecursion (IsPiece (kinds_in s.streams)) pieces → AllByRecursion (IsPieceIn s) pieces
  in-state [] of is = tt
  in-state (piece ∷ pieces) of is = (piece-in piece of.0 is.0, in-state pieces of.1 is.1)
