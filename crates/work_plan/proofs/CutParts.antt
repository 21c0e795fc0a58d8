-- Cuts of the streams' extents: of two inputs, and how many and how great they are.
use Rattle.std.proofs.Common.{◌≡◌, refl, ap, ℕ, zero, suc, ◌≤◌, List, [], ◌∷◌, ◌++◌, length, take, drop, arith}
use Rattle.std.specs.List.{AllByRecursion}
use Rattle.estimator.specs.Cuts.{Cuts}
use Rattle.catalog_types.specs.declared.snapshot.StreamState.{StreamState}
use Rattle.catalog_core.specs.IsTable.{IsStream}
use Rattle.catalog_core.specs.Programs.{extents_at, AreCuts}
use Rattle.record_codec.specs.Spelling.{IsCut}

module _ (streams : List StreamState) where
  pub left-cuts : (xs ys : List ℕ) (cuts : Cuts) → AreCuts streams (xs ++ ys) cuts → AreCuts streams xs (take (length xs) cuts)
  left-cuts [] ys cuts are = tt
  left-cuts (x ∷ xs) ys [] are = absurd are
  left-cuts (x ∷ xs) ys (cut ∷ cuts) are = (are.0, left-cuts xs ys cuts are.1)

  pub right-cuts : (xs ys : List ℕ) (cuts : Cuts) → AreCuts streams (xs ++ ys) cuts → AreCuts streams ys (drop (length xs) cuts)
  right-cuts [] ys cuts are = are
  right-cuts (x ∷ xs) ys [] are = absurd are
  right-cuts (x ∷ xs) ys (cut ∷ cuts) are = right-cuts xs ys cuts are.1

  -- one for each leaf
  pub as-many : (ls : List ℕ) (cuts : Cuts) → AreCuts streams ls cuts → length cuts ≡ length ls
  as-many [] [] are = refl
  as-many [] (cut ∷ cuts) are = absurd are
  as-many (l ∷ ls) [] are = absurd are
  as-many (l ∷ ls) (cut ∷ cuts) are = ap suc (as-many ls cuts are.1)

few-at : (streams : List StreamState) → AllByRecursion IsStream streams → (leaf : ℕ) → length (extents_at streams leaf) ≤ 65535
few-at [] all leaf = omega arith
few-at (s ∷ streams) all zero = all.0.extents
few-at (s ∷ streams) all (suc leaf) = few-at streams all.1 leaf

-- each begins and ends at a number of four bytes
pub are-numbers : (streams : List StreamState) → AllByRecursion IsStream streams → (ls : List ℕ) (cuts : Cuts) → AreCuts streams ls cuts → AllByRecursion IsCut cuts
are-numbers streams all [] [] are = tt
are-numbers streams all [] (cut ∷ cuts) are = absurd are
are-numbers streams all (l ∷ ls) [] are = absurd are
are-numbers streams all (l ∷ ls) (cut ∷ cuts) are =
    let most = few-at streams all l in
    let from = are.0.0 in
    let to = are.0.1 in
    ((omega (arith, most, from, to), omega (arith, most, to)), are-numbers streams all ls cuts are.1)
