-- The index of entries where one comes behind the others, and where some go.
use Rattle.std.proofs.Common.{◌≡◌, refl, sym, ap, ◌∙◌, subst, ℕ, ◌<◌, ◌+◌, Bool, true, false, not, cond, List, [], ◌∷◌, ◌++◌, length, get_or, take, append_assoc}
use Rattle.std.specs.List.{filter}
use Rattle.std.proofs.lemmas.List.{map-append, take_more}
use Rattle.std.proofs.lemmas.List.Elements.{filter-append}
use Rattle.rows_core.specs.declared.file_ref.Digest.{Digest}
use Rattle.catalog_types.specs.PlainEntry.{PlainEntry}
use Rattle.cache_index.specs.declared.index.CacheIndex.{CacheIndex}
use Rattle.cache_index.specs.Ids.{ids_of, left_of}
use Rattle.cache_index.specs.Index.{of_program, under, IsIndexOf}
use Rattle.cache_index.specs.Lists.{is_among, same_digest, added, others}

module _ (digest_of : PlainEntry → Digest) (digest : Digest) where
  -- one entry behind the others
  behind : (es : List PlainEntry) (e : PlainEntry) → ids_of (filter (λ x. same_digest (digest_of x) digest) (es ++ e ∷ [])) ≡ ids_of (filter (λ x. same_digest (digest_of x) digest) es) ++ added (digest_of e) e.id digest
  behind es e =
      ap ids_of (filter-append (λ x. same_digest (digest_of x) digest) es (e ∷ []))
      ∙ map-append (λ (x : PlainEntry). x.id) (filter (λ x. same_digest (digest_of x) digest) es) (filter (λ x. same_digest (digest_of x) digest) (e ∷ []))
      ∙ ap (λ l. ids_of (filter (λ x. same_digest (digest_of x) digest) es) ++ l) (alone (same_digest (digest_of e) digest))
    where
      alone : (b : Bool) → ids_of (cond b (e ∷ []) []) ≡ cond b (e.id ∷ []) []
      alone true = refl
      alone false = refl

  -- what is left where some go
  gone : (ids : List ℕ) (es : List PlainEntry) → ids_of (filter (λ x. same_digest (digest_of x) digest) (left_of ids es)) ≡ others ids (ids_of (filter (λ x. same_digest (digest_of x) digest) es))
  gone ids [] = refl
  gone ids (e ∷ es) = by (not (is_among ids e.id)) refl (gone ids es)
    where
      stays : (b : Bool) → not (is_among ids e.id) ≡ true → ids_of (filter (λ x. same_digest (digest_of x) digest) (left_of ids es)) ≡ others ids (ids_of (filter (λ x. same_digest (digest_of x) digest) es))
          → ids_of (cond b (e ∷ filter (λ x. same_digest (digest_of x) digest) (left_of ids es)) (filter (λ x. same_digest (digest_of x) digest) (left_of ids es)))
          ≡ others ids (ids_of (cond b (e ∷ filter (λ x. same_digest (digest_of x) digest) es) (filter (λ x. same_digest (digest_of x) digest) es)))
      stays true told rest =
          ap (λ l. e.id ∷ l) rest
          ∙ ap (λ c. cond c (e.id ∷ others ids (ids_of (filter (λ x. same_digest (digest_of x) digest) es))) (others ids (ids_of (filter (λ x. same_digest (digest_of x) digest) es)))) (sym told)
      stays false told rest = rest

      goes : (b : Bool) → not (is_among ids e.id) ≡ false → ids_of (filter (λ x. same_digest (digest_of x) digest) (left_of ids es)) ≡ others ids (ids_of (filter (λ x. same_digest (digest_of x) digest) es))
          → ids_of (filter (λ x. same_digest (digest_of x) digest) (left_of ids es)) ≡ others ids (ids_of (cond b (e ∷ filter (λ x. same_digest (digest_of x) digest) es) (filter (λ x. same_digest (digest_of x) digest) es)))
      goes true told rest =
          rest ∙ ap (λ c. cond c (e.id ∷ others ids (ids_of (filter (λ x. same_digest (digest_of x) digest) es))) (others ids (ids_of (filter (λ x. same_digest (digest_of x) digest) es)))) (sym told)
      goes false told rest = rest

      by : (c : Bool) → not (is_among ids e.id) ≡ c → ids_of (filter (λ x. same_digest (digest_of x) digest) (left_of ids es)) ≡ others ids (ids_of (filter (λ x. same_digest (digest_of x) digest) es))
          → ids_of (filter (λ x. same_digest (digest_of x) digest) (cond c (e ∷ left_of ids es) (left_of ids es))) ≡ others ids (ids_of (filter (λ x. same_digest (digest_of x) digest) (e ∷ es)))
      by true told rest = stays (same_digest (digest_of e) digest) told rest
      by false told rest = goes (same_digest (digest_of e) digest) told rest

pub index_more : (es : List PlainEntry) (e : PlainEntry) (old new : CacheIndex) → IsIndexOf es old → ((program : Digest) → of_program new program ≡ of_program old program ++ added e.program e.id program)
    → ((key : Digest) → under new key ≡ under old key ++ added e.key e.id key) → IsIndexOf (es ++ e ∷ []) new
index_more es e old new is programs keys = record {
  programs = λ program. programs program ∙ ap (λ l. l ++ added e.program e.id program) (is.programs program) ∙ sym (behind (λ (x : PlainEntry). x.program) program es e);
  keys = λ key. keys key ∙ ap (λ l. l ++ added e.key e.id key) (is.keys key) ∙ sym (behind (λ (x : PlainEntry). x.key) key es e);
}

pub index_without : (ids : List ℕ) (es : List PlainEntry) (old new : CacheIndex) → IsIndexOf es old → ((program : Digest) → of_program new program ≡ others ids (of_program old program))
    → ((key : Digest) → under new key ≡ others ids (under old key)) → IsIndexOf (left_of ids es) new
index_without ids es old new is programs keys = record {
  programs = λ program. programs program ∙ ap (others ids) (is.programs program) ∙ sym (gone (λ (x : PlainEntry). x.program) program ids es);
  keys = λ key. keys key ∙ ap (others ids) (is.keys key) ∙ sym (gone (λ (x : PlainEntry). x.key) key ids es);
}

pub index_same : (es : List PlainEntry) (old new : CacheIndex) → IsIndexOf es old → ((program : Digest) → of_program new program ≡ of_program old program) → ((key : Digest) → under new key ≡ under old key) → IsIndexOf es new
index_same es old new is programs keys = record {
  programs = λ program. programs program ∙ is.programs program;
  keys = λ key. keys key ∙ is.keys key;
}

-- one of the entries more, behind those before them
pub index_next : (before es : List PlainEntry) (i : ℕ) (e : PlainEntry) (old new : CacheIndex) → i < length es → e ≡ get_or es i e → IsIndexOf (before ++ take i es) old
    → ((program : Digest) → of_program new program ≡ of_program old program ++ added e.program e.id program) → ((key : Digest) → under new key ≡ under old key ++ added e.key e.id key) → IsIndexOf (before ++ take (i + 1) es) new
index_next before es i e old new low is indexed programs keys =
    let more : take (i + 1) es ≡ take i es ++ e ∷ [] = take_more es i e low ∙ ap (λ (x : PlainEntry). take i es ++ x ∷ []) (sym is) in
    subst (λ (l : List PlainEntry). IsIndexOf l new) (append_assoc before (take i es) (e ∷ []) ∙ ap (λ l. before ++ l) (sym more)) (index_more (before ++ take i es) e old new indexed programs keys)
