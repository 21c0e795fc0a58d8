-- The index of entries that change: none, uses, and new ones behind.
use Rattle.std.proofs.Common.{◌≡◌, ℕ, Bool, true, false, cond, List, [], ◌∷◌, ◌++◌, length, drop, refl, sym, ap, subst, ◌∙◌, slice_range}
use Rattle.std.specs.List.{filter}
use Rattle.std.proofs.Math.Seq.{drop-append_seam}
use Rattle.std.proofs.lemmas.List.{take_rest}
use Rattle.rows_core.specs.declared.file_ref.Digest.{Digest}
use Rattle.catalog_types.specs.PlainEntry.{PlainEntry}
use Rattle.cache_index.specs.declared.index.CacheIndex.{CacheIndex}
use Rattle.cache_index.specs.Index.{IsIndexOf, of_program, under}
use Rattle.cache_index.specs.Lists.{same_digest}
use Rattle.entry_table.specs.Ids.{ids_of, is_among}
use Rattle.entry_table.specs.Work.{used, with_use, with_uses}

pub index_of_none : (es : List PlainEntry) (index : CacheIndex) → es ≡ [] → ((program : Digest) → of_program index program ≡ []) → ((key : Digest) → under index key ≡ []) → IsIndexOf es index
index_of_none es index none programs keys =
    subst (λ (es : List PlainEntry). IsIndexOf es index) (sym none) (record { programs = programs; keys = keys })

-- ---- uses change no id and no key

same_id : (tick : ℕ) (ids : List ℕ) (e : PlainEntry) → (used tick ids e).id ≡ e.id
same_id tick ids e = by (is_among ids e.id)
  where
    by : (b : Bool) → (cond b (with_use tick e) e).id ≡ e.id
    by true = refl
    by false = refl

same_program : (tick : ℕ) (ids : List ℕ) (e : PlainEntry) → (used tick ids e).program ≡ e.program
same_program tick ids e = by (is_among ids e.id)
  where
    by : (b : Bool) → (cond b (with_use tick e) e).program ≡ e.program
    by true = refl
    by false = refl

same_key : (tick : ℕ) (ids : List ℕ) (e : PlainEntry) → (used tick ids e).key ≡ e.key
same_key tick ids e = by (is_among ids e.id)
  where
    by : (b : Bool) → (cond b (with_use tick e) e).key ≡ e.key
    by true = refl
    by false = refl

-- the ids of the entries with a digest stay
same_ids : (digest_of : PlainEntry → Digest) (tick : ℕ) (ids : List ℕ) (digest : Digest) → ((e : PlainEntry) → digest_of (used tick ids e) ≡ digest_of e) → (es : List PlainEntry)
    → ids_of (filter (λ e. same_digest (digest_of e) digest) (with_uses tick ids es)) ≡ ids_of (filter (λ e. same_digest (digest_of e) digest) es)
same_ids digest_of tick ids digest same [] = refl
same_ids digest_of tick ids digest same (e ∷ es) =
    ap (λ (d : Digest). ids_of (cond (same_digest d digest) (used tick ids e ∷ keeps (with_uses tick ids es)) (keeps (with_uses tick ids es)))) (same e)
    ∙ by (same_digest (digest_of e) digest) (same_ids digest_of tick ids digest same es)
  where
    keeps : List PlainEntry → List PlainEntry
    keeps es = filter (λ e. same_digest (digest_of e) digest) es

    by : (b : Bool) → ids_of (keeps (with_uses tick ids es)) ≡ ids_of (keeps es) → ids_of (cond b (used tick ids e ∷ keeps (with_uses tick ids es)) (keeps (with_uses tick ids es))) ≡ ids_of (cond b (e ∷ keeps es) (keeps es))
    by true rest = λ i. same_id tick ids e i ∷ rest i
    by false rest = rest

pub index_used : (tick : ℕ) (ids : List ℕ) (es : List PlainEntry) (index : CacheIndex) → IsIndexOf es index → IsIndexOf (with_uses tick ids es) index
index_used tick ids es index is = record {
  programs = λ program. is.programs program ∙ sym (same_ids (λ e. e.program) tick ids program (same_program tick ids) es);
  keys = λ key. is.keys key ∙ sym (same_ids (λ e. e.key) tick ids key (same_key tick ids) es);
}

-- ---- new ones behind

-- what stands behind the first ones
pub those_behind : (front behind all : List PlainEntry) (old : ℕ) → old ≡ length front → all ≡ front ++ behind → slice_range all old (length all) ≡ behind
those_behind front behind all old many are = take_rest all old ∙ (λ i. drop (many i) (are i)) ∙ drop-append_seam front behind

pub index_of_all : (before behind all added : List PlainEntry) (index : CacheIndex) → added ≡ behind → all ≡ before ++ behind → IsIndexOf (before ++ added) index → IsIndexOf all index
index_of_all before behind all added index same are is = subst (λ (es : List PlainEntry). IsIndexOf es index) (ap (λ (es : List PlainEntry). before ++ es) same ∙ sym are) is
