-- The bytes of leaves, and of intervals that grow.
use Rattle.std.proofs.Common.{◌≡◌, ℕ, zero, suc, ◌+◌, ◌-◌, ◌^◌, ◌≤◌, ◌<◌, min, List, [], ◌∷◌, ◌++◌, length, drop, take, get_or, refl, arith, ap, ◌∙◌, length-append, length-drop, get_or-drop}
use Rattle.std.specs.List.{sum, slice_range}
use Rattle.std.specs.Prelude.{None, slice_get}
use Rattle.std.proofs.lemmas.Grind.{common_steps}
use Rattle.estimator.specs.Cuts.{Cuts, EndAtOrBefore, added_cuts}
use Rattle.estimator.specs.Bytes.{Lengths, leaf_bytes, AreInStreams}
use Rattle.estimator.specs.Bytes.{capped}

pub capped-sum : (a b : ℕ) → min (capped a + capped b) (2 ^ 64 - 1) ≡ capped (a + b)
capped-sum a b = omega arith

pub bytes_of_sides : (l : Lengths) (xs ys : List ℕ) (cuts : Cuts) → AreInStreams l (xs ++ ys) cuts →
    leaf_bytes l (xs ++ ys) cuts ≡ leaf_bytes l xs (take (length xs) cuts) + leaf_bytes l ys (drop (length xs) cuts)
bytes_of_sides l [] ys cuts h = grind (arith, common_steps)
bytes_of_sides l (x ∷ xs) ys [] h = absurd h
bytes_of_sides l (x ∷ xs) ys (cut ∷ cuts) h = let e = bytes_of_sides l xs ys cuts h.2 in grind (arith, common_steps, e)

pub streams_left : (l : Lengths) (xs ys : List ℕ) (cuts : Cuts) → AreInStreams l (xs ++ ys) cuts → AreInStreams l xs (take (length xs) cuts)
streams_left l [] ys cuts h = tt
streams_left l (x ∷ xs) ys [] h = absurd h
streams_left l (x ∷ xs) ys (cut ∷ cuts) h = (h.0, h.1, streams_left l xs ys cuts h.2)

pub streams_right : (l : Lengths) (xs ys : List ℕ) (cuts : Cuts) → AreInStreams l (xs ++ ys) cuts → AreInStreams l ys (drop (length xs) cuts)
streams_right l [] ys cuts h = h
streams_right l (x ∷ xs) ys [] h = absurd h
streams_right l (x ∷ xs) ys (cut ∷ cuts) h = streams_right l xs ys cuts h.2

pub streams_length : (l : Lengths) (xs : List ℕ) (cuts : Cuts) → AreInStreams l xs cuts → length cuts ≡ length xs
streams_length l [] [] h = refl
streams_length l [] (cut ∷ cuts) h = absurd h
streams_length l (x ∷ xs) [] h = absurd h
streams_length l (x ∷ xs) (cut ∷ cuts) h = ap suc (streams_length l xs cuts h.2)

pub left_leaves : (l : Lengths) (xs ys : List ℕ) (cuts : Cuts) → AreInStreams l (xs ++ ys) cuts → length xs ≤ length cuts
left_leaves l xs ys cuts h = omega (arith, streams_length l (xs ++ ys) cuts h, length-append xs ys)

pub added_take : (n : ℕ) (olds news : Cuts) → added_cuts (take n olds) (take n news) ≡ take n (added_cuts olds news)
added_take zero olds news = refl
added_take (suc n) [] news = refl
added_take (suc n) (old ∷ olds) [] = refl
added_take (suc n) (old ∷ olds) (new ∷ news) = let e = added_take n olds news in cc

added_none : (olds : Cuts) → added_cuts olds [] ≡ []
added_none [] = refl
added_none (old ∷ olds) = refl

pub added_drop : (n : ℕ) (olds news : Cuts) → added_cuts (drop n olds) (drop n news) ≡ drop n (added_cuts olds news)
added_drop zero olds news = refl
added_drop (suc n) [] [] = refl
added_drop (suc n) [] (new ∷ news) = refl
added_drop (suc n) (old ∷ olds) [] = added_none (drop n olds)
added_drop (suc n) (old ∷ olds) (new ∷ news) = added_drop n olds news

pub added_length : (olds news : Cuts) → length (added_cuts olds news) ≡ min (length olds) (length news)
added_length [] news = omega arith
added_length (old ∷ olds) [] = omega arith
added_length (old ∷ olds) (new ∷ news) = let e = added_length olds news in omega (arith, e)

pub none_added : (olds news : Cuts) → length news < 1 → None ≡ slice_get (added_cuts olds news) 0
none_added [] news none = refl
none_added (old ∷ olds) [] none = refl
none_added (old ∷ olds) (new ∷ news) none = absurd (omega (arith, none))

pub sum_take_more : (xs : List ℕ) (k : ℕ) → k < length xs → sum (take (suc k) xs) ≡ sum (take k xs) + get_or xs k 0
sum_take_more [] k h = absurd (omega arith)
sum_take_more (x ∷ xs) zero h = grind (arith, common_steps)
sum_take_more (x ∷ xs) (suc k) h = let e = sum_take_more xs k (omega arith) in grind (arith, common_steps, e)

pub sum_range_more : (xs : List ℕ) (i j : ℕ) → i ≤ j → j < length xs → sum (slice_range xs i (j + 1)) ≡ sum (slice_range xs i j) + get_or xs j 0
sum_range_more xs i j h k =
    let short : j - i < length (drop i xs) = omega (arith, length-drop i xs) in
    let e = sum_take_more (drop i xs) (j - i) short in
    let same : j + 1 - i ≡ suc (j - i) = omega arith in
    let there : i + (j - i) ≡ j = omega arith in
    rw same (e ∙ ap (λ n. sum (take (j - i) (drop i xs)) + n) (get_or-drop i xs (j - i) 0 ∙ ap (λ n. get_or xs n 0) there))

pub added_within : (l : Lengths) (xs : List ℕ) (olds news : Cuts) → AreInStreams l xs olds → AreInStreams l xs news → EndAtOrBefore olds news → AreInStreams l xs (added_cuts olds news)
added_within l [] [] [] old new grows = tt
added_within l [] [] (n ∷ news) old new grows = absurd new
added_within l [] (o ∷ olds) news old new grows = absurd old
added_within l (x ∷ xs) [] news old new grows = absurd old
added_within l (x ∷ xs) (o ∷ olds) [] old new grows = absurd new
added_within l (x ∷ xs) (o ∷ olds) (n ∷ news) old new grows = (grows.0, new.1, added_within l xs olds news old.2 new.2 grows.1)

pub ruleset of_sides = (capped-sum, bytes_of_sides, streams_left, streams_right, streams_length)

pub ruleset of_split = (added_length, added_take, added_drop)
