-- Accumulators within the bounds, one by one.
use Rattle.std.proofs.Common.{rules, zero, suc, ◌≡◌, ◌≢◌, ◌↔◌, sym, subst, ℕ, ◌-◌, ◌≤◌, ◌<◌, Bool, true, IsTrue, ◌==◌, List, [], ◌∷◌, length, take, drop, get_or, All, arith}
use Rattle.std.specs.List.{AllPairs}
use Rattle.std.proofs.lemmas.List.{take_all}
use Rattle.row_blob.specs.declared.kept.Acc.{Acc}
use Rattle.row_blob.specs.Kept.{AreEach, keys_of as group_keys}
use Rattle.plan_core.specs.declared.agg.Agg.{Agg}
use Rattle.row_blob.specs.declared.kept.GroupRow.{GroupRow}
use Rattle.plan_laws.specs.GroupBounds.{IsAccOf, HasAverage, AreGroups, HaveAverages}

pub holds : IsTrue true
holds = search rules

not_empty : (n : ℕ) → IsTrue (suc n == 0) → ⊥
not_empty n = search rules

abbrev pub AreAccs : List Agg → List Acc → Type 0
AreAccs aggs accs = AreEach IsAccOf aggs accs × All HasAverage accs

abbrev others : {A : Type 0} → List A → List A
others xs = take (length xs - 1) (drop 1 xs)

others_are : {A : Type 0} (x : A) (xs : List A) → others (x ∷ xs) ≡ xs
others_are x xs = take_all (length (x ∷ xs) - 1) xs (omega arith)

one_more : (agg : Agg) (aggs : List Agg) (acc : Acc) (accs : List Acc) → IsAccOf agg acc × HasAverage acc → (r : Bool) → (IsTrue r ↔ AreAccs aggs accs) → IsTrue r ↔ AreAccs (agg ∷ aggs) (acc ∷ accs)
one_more agg aggs acc accs is r rest = (λ holds. let these = rest.0 holds in ((is.0, these.0), front these.1), λ all. rest.1 (all.0.1, λ i d within. all.1 (suc i) d (omega (arith, within))))
  where
    front : All HasAverage accs → All HasAverage (acc ∷ accs)
    front behind zero d within = is.1
    front behind (suc i) d within = behind i d (omega (arith, within))

pub accs_there : (aggs : List Agg) (accs : List Acc) (d : Agg) (acc : Acc) → 1 ≤ length aggs → 1 ≤ length accs → acc ≡ get_or accs 0 acc → IsAccOf (get_or aggs 0 d) acc × HasAverage acc
    → (r : Bool) → (IsTrue r ↔ AreAccs (others aggs) (others accs)) → IsTrue r ↔ AreAccs aggs accs
accs_there [] accs d acc some there acc_is is r rest = absurd (omega arith)
accs_there (a ∷ aggs) [] d acc some there acc_is is r rest = absurd (omega arith)
accs_there (a ∷ aggs) (x ∷ accs) d acc some there acc_is is r rest =
    subst (λ x. IsTrue r ↔ AreAccs (a ∷ aggs) (x ∷ accs)) acc_is
    (one_more a aggs acc accs is r (subst (λ l. IsTrue r ↔ AreAccs l accs) (others_are a aggs) (subst (λ l. IsTrue r ↔ AreAccs (others (a ∷ aggs)) l) (others_are x accs) rest)))

pub no_accs : (aggs : List Agg) (accs : List Acc) → length accs < 1 → (r : Bool) → r ≡ (length aggs == 0) → IsTrue r ↔ AreAccs aggs accs
no_accs aggs (x ∷ accs) none r is = absurd (omega (arith, none))
no_accs [] [] none r is = subst (λ b. IsTrue b ↔ AreAccs [] []) (sym is) (λ yes. (tt, λ i d within. absurd (omega (arith, within))), λ all. holds)
no_accs (a ∷ aggs) [] none r is = subst (λ b. IsTrue b ↔ AreAccs (a ∷ aggs) []) (sym is) (λ yes. absurd (not_empty (length aggs) yes), λ all. absurd all.0)

-- groups of different keys with such accumulators
pub bounded_groups : (aggs : List Agg) (groups : List GroupRow) → AllPairs (λ a b. a ≢ b) (group_keys groups) → All (λ group. AreAccs aggs group.accs) groups → AreGroups aggs groups × HaveAverages groups
bounded_groups aggs groups differ all = ((differ, λ i d within. (all i d within).0), λ i d within. (all i d within).1)
