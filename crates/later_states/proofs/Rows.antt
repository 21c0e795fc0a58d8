-- The rows at a cut stay as the streams get more of them.
use Rattle.std.proofs.Common.{◌≡◌, ◌⊎◌, inl, inr, refl, ap, ◌∙◌, ℕ, zero, suc, ◌-◌, ◌≤◌, List, [], ◌∷◌, ◌++◌, length, map, take, drop, length-drop, arith}
use Rattle.std.specs.Prelude.{slice_range}
use Rattle.std.specs.List.{flat_map}
use Rattle.std.proofs.lemmas.List.{map-append, take-append-le, drop-append-le}
use Rattle.rows_core.specs.declared.cut.Cut.{Cut}
use Rattle.plan_core.specs.Columns.{Rows}
use Rattle.estimator.specs.Cuts.{Cuts}
use Rattle.growth_laws.specs.Lists.{extents_of, interval_rows, lists_at}
use Rattle.catalog_core.specs.Programs.{AreCuts, extents_at}
use Rattle.folder.specs.State.{Extent, Stream, states_of, extents_in}
use Rattle.folder.proofs.GrownStreams.{Grow, as-long}
use Rattle.later_states.specs.Later.{HaveMoreRows}

-- each stream's rows stand in front
pub rows-grow : (olds news : List Stream) → HaveMoreRows olds news → Grow olds news
rows-grow [] news have leaf = (extents_of (extents_in news) leaf, refl)
rows-grow (old ∷ olds) [] have leaf = absurd have
rows-grow (old ∷ olds) (new ∷ news) have zero =
    (map (λ (e : Extent). e.rows) have.0.0, ap (map (λ (e : Extent). e.rows)) have.0.1 ∙ map-append (λ (e : Extent). e.rows) old.extents have.0.0)
rows-grow (old ∷ olds) (new ∷ news) have (suc leaf) = rows-grow olds news have.1 leaf

none-taken : {A : Type 0} (n : ℕ) (xs ys : List A) → n ≡ 0 → take n xs ≡ take n ys
none-taken zero xs ys is = refl
none-taken (suc n) xs ys is = absurd (omega (arith, is))

-- a range that is empty, or ends within the list
range-stays : {A : Type 0} (xs ys : List A) (a b : ℕ) → a ≤ b → (b ≤ a) ⊎ (b ≤ length xs) → slice_range (xs ++ ys) a b ≡ slice_range xs a b
range-stays xs ys a b order (inl least) = none-taken (b - a) (drop a (xs ++ ys)) (drop a xs) (omega (arith, least))
range-stays xs ys a b order (inr within) =
    let left : length (drop a xs) ≡ length xs - a = length-drop a xs in
    ap (take (b - a)) (drop-append-le a xs ys (omega (arith, order, within))) ∙ take-append-le (b - a) (drop a xs) ys (omega (arith, left, order, within))

module _ (olds news : List Stream) (grow : Grow olds news) where
  pub interval-stays : (leaf : ℕ) (cut : Cut) → cut.from ≤ cut.to → (cut.to ≤ cut.from) ⊎ (cut.to ≤ length (extents_at (states_of olds) leaf))
      → interval_rows (extents_of (extents_in news) leaf) cut ≡ interval_rows (extents_of (extents_in olds) leaf) cut
  interval-stays leaf cut order within =
      ap (λ (l : List Rows). flat_map (λ rows. rows) (slice_range l cut.from cut.to)) (grow leaf).1
      ∙ ap (flat_map (λ rows. rows)) (range-stays (extents_of (extents_in olds) leaf) (grow leaf).0 cut.from cut.to order (there within))
    where
      there : (cut.to ≤ cut.from) ⊎ (cut.to ≤ length (extents_at (states_of olds) leaf)) → (cut.to ≤ cut.from) ⊎ (cut.to ≤ length (extents_of (extents_in olds) leaf))
      there (inl least) = inl least
      there (inr low) = inr (let long = as-long olds leaf in omega (arith, low, long))

  pub lists-stay : (leaves : List ℕ) (cuts : Cuts) → AreCuts (states_of olds) leaves cuts → lists_at (extents_in news) leaves cuts ≡ lists_at (extents_in olds) leaves cuts
  lists-stay [] [] are = refl
  lists-stay [] (cut ∷ cuts) are = absurd are
  lists-stay (leaf ∷ leaves) [] are = absurd are
  lists-stay (leaf ∷ leaves) (cut ∷ cuts) are = λ i. interval-stays leaf cut are.0.0 (inr are.0.1) i ∷ lists-stay leaves cuts are.1 i
