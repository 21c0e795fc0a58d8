-- Lists of entries: some left out, some used, and new ones behind.
use Rattle.std.proofs.Common.{◌≡◌, ℕ, zero, suc, ◌+◌, ◌<◌, ◌≤◌, ◌==◌, Bool, true, false, not, cond, List, [], ◌∷◌, ◌++◌, length, map, get_or, take, drop, slice_set, refl, sym, ap, subst, ◌∙◌, arith}
use Rattle.std.proofs.lemmas.Bool.{eqb-true}
use Rattle.std.proofs.lemmas.List.{nil_from_length}
use Rattle.catalog_types.specs.PlainEntry.{PlainEntry, PlainNewEntry}
use Rattle.entry_table.specs.declared.keys.Keys.{Keys}
use Rattle.entry_table.specs.Ids.{is_among, without}
use Rattle.entry_table.specs.Keyed.{Digests, keys_of}
use Rattle.entry_table.specs.Keying.{keyed_entries}
use Rattle.entry_table.specs.Work.{with_uses, new_entry, new_entries}

-- no more are left than there were
pub without-within : (ids : List ℕ) (es : List PlainEntry) → length (without ids es) ≤ length es
without-within ids [] = omega arith
without-within ids (e ∷ es) = by (not (is_among ids e.id)) (without-within ids es)
  where
    by : (b : Bool) → length (without ids es) ≤ length es → length (cond b (e ∷ without ids es) (without ids es)) ≤ suc (length es)
    by true rest = omega (arith, rest)
    by false rest = omega (arith, rest)

-- no id is told where their list is empty
none-told : (ids : List ℕ) (empty : Bool) → empty ≡ (length ids == 0) → empty ≡ true → ids ≡ []
none-told ids empty is told = nil_from_length ids (eqb-true (length ids) 0 (sym is ∙ told))

-- all are left then
pub without-none : (ids : List ℕ) (es : List PlainEntry) (empty : Bool) → empty ≡ (length ids == 0) → empty ≡ true → es ≡ without ids es
without-none ids es empty is told = subst (λ (ids : List ℕ). es ≡ without ids es) (sym (none-told ids empty is told)) (all-left es)
  where
    all-left : (es : List PlainEntry) → es ≡ without [] es
    all-left [] = refl
    all-left (e ∷ es) = ap (λ (es : List PlainEntry). e ∷ es) (all-left es)

-- none has a use more then
pub uses-none : (tick : ℕ) (ids : List ℕ) (es : List PlainEntry) (empty : Bool) → empty ≡ (length ids == 0) → empty ≡ true → es ≡ with_uses tick ids es
uses-none tick ids es empty is told = subst (λ (ids : List ℕ). es ≡ with_uses tick ids es) (sym (none-told ids empty is told)) (all-stay es)
  where
    all-stay : (es : List PlainEntry) → es ≡ with_uses tick [] es
    all-stay [] = refl
    all-stay (e ∷ es) = ap (λ (es : List PlainEntry). e ∷ es) (all-stay es)

pub uses-length : (tick : ℕ) (ids : List ℕ) (es : List PlainEntry) → length (with_uses tick ids es) ≡ length es
uses-length tick ids [] = refl
uses-length tick ids (e ∷ es) = ap suc (uses-length tick ids es)

-- ---- a loop that changes each item in turn

pub changed-length : (f : PlainEntry → PlainEntry) (es : List PlainEntry) (i : ℕ) → length (map f (take i es) ++ drop i es) ≡ length es
changed-length f [] zero = refl
changed-length f [] (suc i) = refl
changed-length f (e ∷ es) zero = refl
changed-length f (e ∷ es) (suc i) = ap suc (changed-length f es i)

pub changed-next : (f : PlainEntry → PlainEntry) (es : List PlainEntry) (i : ℕ) (x : PlainEntry) → i < length es → x ≡ get_or (map f (take i es) ++ drop i es) i x
    → slice_set (map f (take i es) ++ drop i es) i (f x) ≡ map f (take (suc i) es) ++ drop (suc i) es
changed-next f [] i x low is = absurd (omega (arith, low))
changed-next f (e ∷ es) zero x low is = ap (λ (y : PlainEntry). f y ∷ es) is
changed-next f (e ∷ es) (suc i) x low is = ap (λ (ys : List PlainEntry). f e ∷ ys) (changed-next f es i x (omega (arith, low)) is)

-- ---- new entries

-- with the keys that they have
pub keyed-are : (digests : Digests) (tick id : ℕ) (news : List PlainNewEntry) → keyed_entries tick id (map (keys_of digests) news) news ≡ new_entries digests tick id news
keyed-are digests tick id [] = refl
keyed-are digests tick id (new ∷ news) = ap (λ (es : List PlainEntry). new_entry tick id (keys_of digests new) new ∷ es) (keyed-are digests tick (id + 1) news)

-- as many as there are new results, where there are as many keys
pub keyed-length : (tick id : ℕ) (keys : List Keys) (news : List PlainNewEntry) → length keys ≡ length news → length (keyed_entries tick id keys news) ≡ length news
keyed-length tick id [] [] many = refl
keyed-length tick id [] (new ∷ news) many = absurd (omega (arith, many))
keyed-length tick id (k ∷ keys) [] many = absurd (omega (arith, many))
keyed-length tick id (k ∷ keys) (new ∷ news) many = ap suc (keyed-length tick (id + 1) keys news (omega (arith, many)))
