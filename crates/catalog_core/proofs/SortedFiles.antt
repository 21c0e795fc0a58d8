-- Files that are sorted rise exactly where they differ.
use Rattle.std.proofs.Common.{◌≡◌, subst, ◌↔◌, IsTrue, ℕ, ◌<◌, Bool, false, ◌==◌, List, get_or, arith}
use Rattle.std.specs.List.{AllByRecursion, IsDistinct}
use Rattle.std.specs.List.Sorted.{IsPermutation, IsSorted, IsStrictlyIncreasing}
use Rattle.std.specs.Ordering.{nat_cmp}
use Rattle.std.proofs.lemmas.Bool.Decides.{nat_tests}
use Rattle.std.proofs.lemmas.List.Elements.{All-from_recursion, recursion_from_All}
use Rattle.std.proofs.lemmas.List.Sorted.{All-permutation, IsPermutation-sym, IsNonDecreasingBy-from_sort}
use Rattle.std.proofs.lemmas.Map.Keys.{IsDistinct-from_apart, IsDistinct-IsPermutation, IsStrictlyIncreasing-from_distinct, sorted_from_strictly_increasing, below_from_sorted}
use Rattle.catalog_types.specs.PlainEntry.{PlainEntry}
use Rattle.catalog_types.specs.declared.snapshot.StreamState.{StreamState}
use Rattle.catalog_core.specs.OwnFiles.{IsGiven, HaveOwnFiles, files_in}

abbrev same : ℕ → ℕ → Bool
same a b = a == b

same-turned : (a b : ℕ) → same a b ≡ same b a
same-turned a b = grind (arith, nat_tests)

below-differs : (a b : ℕ) → a < b → same a b ≡ false
below-differs a b low = grind (arith, nat_tests)

rising-differ : (xs : List ℕ) → IsStrictlyIncreasing xs → IsDistinct same xs
rising-differ xs rise =
    IsDistinct-from_apart same xs (λ i j d low within. below-differs (get_or xs i d) (get_or xs j d) (below_from_sorted xs i j d (sorted_from_strictly_increasing xs rise) low within))

all-moved : (P : ℕ → Type 0) (xs ys : List ℕ) → IsPermutation xs ys → AllByRecursion P xs → AllByRecursion P ys
all-moved P xs ys moved all = recursion_from_All P ys (All-permutation P xs ys moved (All-from_recursion P xs all))

pub sorted-own : (next : ℕ) (streams : List StreamState) (entries : List PlainEntry) (files sorted seen : List ℕ) (r : Bool)
    → files ≡ files_in streams entries → IsPermutation files sorted → IsSorted nat_cmp sorted → seen ≡ sorted
    → IsTrue r ↔ (IsStrictlyIncreasing seen × AllByRecursion (IsGiven next) seen) → IsTrue r ↔ HaveOwnFiles next streams entries
sorted-own next streams entries files sorted seen r are moved order is told =
    let turned : IsPermutation (files_in streams entries) sorted = subst (λ (l : List ℕ). IsPermutation l sorted) are moved in
    let back = IsPermutation-sym (files_in streams entries) sorted turned in
    let tells : IsTrue r ↔ (IsStrictlyIncreasing sorted × AllByRecursion (IsGiven next) sorted) = subst (λ (l : List ℕ). IsTrue r ↔ (IsStrictlyIncreasing l × AllByRecursion (IsGiven next) l)) is told in (
      λ e. record {
        given = all-moved (IsGiven next) sorted (files_in streams entries) back (tells.0 e).1;
        differ = IsDistinct-IsPermutation same same-turned sorted (files_in streams entries) back (rising-differ sorted (tells.0 e).0);
      },
      λ own. tells.1 (
        IsStrictlyIncreasing-from_distinct sorted (IsNonDecreasingBy-from_sort (λ x. x) sorted order)
            (IsDistinct-IsPermutation same same-turned (files_in streams entries) sorted turned own.differ),
        all-moved (IsGiven next) (files_in streams entries) sorted turned own.given,
      ),
    )
