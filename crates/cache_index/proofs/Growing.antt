-- Lists that are given places, each in its turn.
use Rattle.std.proofs.Common.{◌≡◌, refl, sym, ap, ◌∙◌, ℕ, zero, suc, ◌≤◌, Bool, true, false, cond, List, [], ◌∷◌, length, slice_get, Some, IfSome, arith}
use Rattle.std.specs.Map.{lookup, values_of}
use Rattle.std.specs.Option.{option_map_or}
use Rattle.indexmap.specs.Layout.{set_value_at}
use Rattle.rows_core.specs.declared.file_ref.Digest.{Digest}
use Rattle.cache_index.specs.Lists.{Ids, HasPlaces, same_digest}

-- the same digests with the same ids
abbrev pub AreSame : List (Digest × Ids) → List (Digest × Ids) → Type 0
AreSame [] [] = Unit {0}
AreSame [] (f ∷ fs) = ⊥
AreSame (e ∷ es) [] = ⊥
AreSame (e ∷ es) (f ∷ fs) = (f.0 ≡ e.0) × (f.1.items ≡ e.1.items) × AreSame es fs

-- so many in front have the places
abbrev pub FirstHave : ℕ → ℕ → List (Digest × Ids) → Type 0
FirstHave more zero es = Unit {0}
FirstHave more (suc n) [] = Unit {0}
FirstHave more (suc n) (e ∷ es) = HasPlaces more e.1 × FirstHave more n es

pub same-self : (es : List (Digest × Ids)) → AreSame es es
same-self [] = tt
same-self (e ∷ es) = (refl, refl, same-self es)

some-is : (v w : Ids) → Some v ≡ Some w → v ≡ w
some-is v w e = cc

pub same-set : (es fs : List (Digest × Ids)) (i : ℕ) (v w : Ids) → AreSame es fs → slice_get (values_of fs) i ≡ Some v → w.items ≡ v.items → AreSame es (set_value_at fs i w)
same-set [] [] i v w same at is = tt
same-set [] (f ∷ fs) i v w same at is = absurd same
same-set (e ∷ es) [] i v w same at is = absurd same
same-set (e ∷ es) (f ∷ fs) zero v w same at is = (same.0, is ∙ ap (λ (ids : Ids). ids.items) (sym (some-is f.1 v at)) ∙ same.1, same.2)
same-set (e ∷ es) (f ∷ fs) (suc i) v w same at is = (same.0, same.1, same-set es fs i v w same.2 at is)

pub first-set : (more i : ℕ) (fs : List (Digest × Ids)) (w : Ids) → FirstHave more i fs → HasPlaces more w → FirstHave more (suc i) (set_value_at fs i w)
first-set more i [] w first has = tt
first-set more zero (f ∷ fs) w first has = (has, tt)
first-set more (suc i) (f ∷ fs) w first has = (first.0, first-set more i fs w first.1 has)

pub same-length : (es fs : List (Digest × Ids)) → AreSame es fs → length fs ≡ length es
same-length [] [] same = refl
same-length [] (f ∷ fs) same = absurd same
same-length (e ∷ es) [] same = absurd same
same-length (e ∷ es) (f ∷ fs) same = ap suc (same-length es fs same.2)

pub same-ids : (digest : Digest) (es fs : List (Digest × Ids)) → AreSame es fs
    → option_map_or (λ (ids : Ids). ids.items) (lookup (same_digest digest) fs) [] ≡ option_map_or (λ (ids : Ids). ids.items) (lookup (same_digest digest) es) []
same-ids digest [] [] same = refl
same-ids digest [] (f ∷ fs) same = absurd same
same-ids digest (e ∷ es) [] same = absurd same
same-ids digest (e ∷ es) (f ∷ fs) same =
    ap (λ (key : Digest). option_map_or (λ (ids : Ids). ids.items) (cond (same_digest digest key) (Some f.1) (lookup (same_digest digest) fs)) []) same.0 ∙ by (same_digest digest e.0) (same-ids digest es fs same.2)
  where
    by : (b : Bool) → option_map_or (λ (ids : Ids). ids.items) (lookup (same_digest digest) fs) [] ≡ option_map_or (λ (ids : Ids). ids.items) (lookup (same_digest digest) es) []
        → option_map_or (λ (ids : Ids). ids.items) (cond b (Some f.1) (lookup (same_digest digest) fs)) [] ≡ option_map_or (λ (ids : Ids). ids.items) (cond b (Some e.1) (lookup (same_digest digest) es)) []
    by true rest = same.1
    by false rest = rest

pub all-have : (more n : ℕ) (fs : List (Digest × Ids)) (digest : Digest) → length fs ≤ n → FirstHave more n fs → IfSome (lookup (same_digest digest) fs) (HasPlaces more)
all-have more n [] digest many first = tt
all-have more zero (f ∷ fs) digest many first = absurd (omega (arith, many))
all-have more (suc n) (f ∷ fs) digest many first = by (same_digest digest f.0) (all-have more n fs digest (omega (arith, many)) first.1)
  where
    by : (b : Bool) → IfSome (lookup (same_digest digest) fs) (HasPlaces more) → IfSome (cond b (Some f.1) (lookup (same_digest digest) fs)) (HasPlaces more)
    by true rest = first.0
    by false rest = rest
