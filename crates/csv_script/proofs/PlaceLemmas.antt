-- The place of a name among fields.
use Prim.Native.Nat.{zero, suc}
use Rattle.std.proofs.Common.{◌≡◌, ◌≢◌, ℕ, ◌+◌, ◌<◌, ◌≤◌, List, [], ◌∷◌, length, Option, Some, None, refl, ◌∙◌, subst, arith}
use borrow.Author.Count.{below_more}
use Rattle.csv.specs.Records.{field_at}
use Rattle.csv_script.specs.Records.{IsAt}

-- the one field below a place that is the name
abbrev pub IsFoundBelow : List ℕ → List (List ℕ) → ℕ → Option ℕ → Type 0
IsFoundBelow name fields end None = (k : ℕ) → k < end → field_at fields k ≢ Some name
IsFoundBelow name fields end (Some place) = (place < end) × (field_at fields place ≡ Some name) × ((k : ℕ) → k < end → field_at fields k ≡ Some name → k ≡ place)

pub field_at-within : (fields : List (List ℕ)) (k : ℕ) (field : List ℕ) → field_at fields k ≡ Some field → k < length fields
unfolding field_at
field_at-within [] k field at = absurd (cc)
field_at-within (f ∷ fields) zero field at = omega arith
field_at-within (f ∷ fields) (suc k) field at = omega (arith, field_at-within fields k field at)

-- this field isn't the name
pub IsFoundBelow-other : (name : List ℕ) (fields : List (List ℕ)) (end : ℕ) (found : Option ℕ) → IsFoundBelow name fields end found → field_at fields end ≢ Some name → IsFoundBelow name fields (end + 1) found
IsFoundBelow-other name fields end None is other = below_more (λ k. field_at fields k ≢ Some name) end is other
IsFoundBelow-other name fields end (Some place) is other =
    (omega (arith, is.0), is.1, below_more (λ k. field_at fields k ≡ Some name → k ≡ place) end is.2 (λ at. absurd (other at)))

-- this field is the first that is the name
pub IsFoundBelow-here : (name : List ℕ) (fields : List (List ℕ)) (end : ℕ) (found : Option ℕ) → IsFoundBelow name fields end found → found ≡ None → field_at fields end ≡ Some name → IsFoundBelow name fields (end + 1) (Some end)
IsFoundBelow-here name fields end None is none here =
    (omega arith, here, below_more (λ k. field_at fields k ≡ Some name → k ≡ end) end (λ k below at. absurd (is k below at)) (λ at. refl))
IsFoundBelow-here name fields end (Some place) is none here = absurd (cc)

-- the one field of all
pub IsAt-found : (name : List ℕ) (fields : List (List ℕ)) (end : ℕ) (found : Option ℕ) (place : ℕ) → IsFoundBelow name fields end found → found ≡ Some place → length fields ≤ end → IsAt name fields place
IsAt-found name fields end None place is some all = absurd (cc)
IsAt-found name fields end (Some p) place is some all =
    let same : p ≡ place = cc in
    record {
      here = subst (λ q. field_at fields q ≡ Some name) same is.1;
      alone = λ k at. is.2 k (omega (arith, field_at-within fields k name at)) at ∙ same;
    }

pub none_found : (name : List ℕ) (fields : List (List ℕ)) (end : ℕ) (found : Option ℕ) → IsFoundBelow name fields end found → found ≡ None → length fields ≤ end → (k : ℕ) → field_at fields k ≢ Some name
none_found name fields end None is none all k at = is k (omega (arith, field_at-within fields k name at)) at
none_found name fields end (Some p) is none all k at = absurd (cc)
