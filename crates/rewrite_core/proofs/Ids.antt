-- Ids that are sorted and of which neighbours differ are those that were found, ascending, each once.
use Rattle.std.proofs.Common.{◌≡◌, ℕ, List, [], subst, sym}
use Rattle.std.specs.Prelude.{Contains, IsPermutation, IsSorted, nat_eq}
use Rattle.std.specs.Ordering.{nat_cmp}
use Rattle.std.specs.List.{dedup}
use Rattle.std.specs.List.Retain.{IsFiltered, DiffersFromLast}
use Rattle.std.specs.List.Sorted.{IsStrictlyIncreasing}
use Rattle.std.proofs.lemmas.List.Filters.{dedup_is}
use Rattle.std.proofs.lemmas.List.Kept.{Contains-dedup_nat, Contains-from_dedup}
use Rattle.std.proofs.lemmas.List.Sorted.{Contains-permutation, IsPermutation-sym}
use Rattle.std.proofs.lemmas.Map.Keys.{IsStrictlyIncreasing-dedup}
use Rattle.rewrite_core.specs.Files.{FileName, AreIdsOf, ids_in}

pub ids_found : (files : List FileName) (found sorted kept : List ℕ) → found ≡ ids_in files → IsPermutation found sorted → IsSorted nat_cmp sorted
    → IsFiltered (DiffersFromLast nat_eq) [] sorted kept → AreIdsOf files kept
ids_found files found sorted kept is permutation ascends filtered =
    let deduped : kept ≡ dedup nat_eq sorted = dedup_is nat_eq sorted kept filtered in
    record {
      ascend = subst IsStrictlyIncreasing (sym deduped) (IsStrictlyIncreasing-dedup sorted ascends);
      named = λ id. (
        λ there. subst (λ (l : List ℕ). Contains l id) is
            (Contains-permutation sorted found id (IsPermutation-sym found sorted permutation)
            (Contains-from_dedup nat_eq sorted id (subst (λ (l : List ℕ). Contains l id) deduped there))),
        λ there. subst (λ (l : List ℕ). Contains l id) (sym deduped)
            (Contains-dedup_nat sorted id (Contains-permutation found sorted id permutation (subst (λ (l : List ℕ). Contains l id) (sym is) there))),
      );
    }
