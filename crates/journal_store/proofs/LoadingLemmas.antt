-- Loading the journal: an image while it is loaded, and what stops it.
use Rattle.std.proofs.Common.{◌≡◌, ◌≢◌, inl, inr, ℕ, ◌+◌, ◌^◌, ◌<◌, List, [], ◌∷◌, length, Result, Ok, Err, IsErrOf, refl, sym, ap, ◌∙◌, subst, arith}
use Rattle.std.specs.Prelude.{Vec, vec_len, Bool, true, false, ◌==◌, IfOk, OnOk}
use Rattle.std.specs.declared.alloc.Global.{Global}
use Rattle.std.proofs.lemmas.Bool.{eqb-true, eqb-false}
use Rattle.outside_traits.specs.View.{View, Now, IsImageAt}
use Rattle.outside_traits.specs.Runs.{Spans, Narrows}
use Rattle.outside_traits.proofs.RunLemmas.{spans_on, spans_wider, spans_narrowed}
use Rattle.gated_log.specs.Logs.{contents, front, Reads, StopsAt}
use Rattle.gated_log.proofs.Crash.{length-front_empty}
use Rattle.gated_log.specs.declared.refusal.LogRefusal.{LogRefusal}
use Rattle.gated_log.specs.declared.refusal.LogRefusal.TheVariants as log_refusal
use Rattle.journal_store.specs.declared.refusal.JournalRefusal.{JournalRefusal}
use Rattle.journal_store.specs.declared.refusal.JournalRefusal.TheVariants as journal_refusal
use Rattle.journal_store.specs.Readings.{generation_file, generations, IsJournalFile, IsUnfinished, HaveBodies, StopsReading}
use Rattle.journal_store.specs.Making.{IsLoading, Names}
use Rattle.journal_store.specs.declared.journal.Journal.{Journal}
use Rattle.journal_store.specs.Journals.{generation_of, end_of, Keeps}
use Rattle.journal_store.specs.Refusals.{refusal_in}

module _ (u v : View) (narrow : Narrows u v) where
  pub loading_narrow : Spans IsJournalFile (IsLoading u) u v
  loading_narrow = spans_narrowed IsJournalFile (IsLoading u) u v narrow (λ image is. inl is)

  image_back : (image : ℕ → List ℕ) → IsImageAt v v.moment image → IsImageAt u u.moment image
  image_back image is = λ g. narrow.each v.moment g (image g) narrow.time.later (omega arith) (is g)

  -- then the journal is made
  pub loading_making : (w : View) → IsUnfinished (u.files 0) → Spans IsJournalFile (λ image. HaveBodies image 0 []) v w → Spans IsJournalFile (IsLoading u) u w
  loading_making w unfinished making =
      spans_on IsJournalFile (IsLoading u) u v w loading_narrow
      (spans_wider IsJournalFile IsJournalFile (λ image. HaveBodies image 0 []) (IsLoading u) v w making (λ g is. is) (λ image has others. inr (unfinished, has)))

  -- then the rest is loaded
  pub loading_on : (w : View) → Spans IsJournalFile (IsLoading v) v w → Spans IsJournalFile (IsLoading u) u w
  loading_on w more =
      spans_on IsJournalFile (IsLoading u) u v w loading_narrow
      (spans_wider IsJournalFile IsJournalFile (IsLoading v) (IsLoading u) v w more (λ g is. is) (λ image is others. elim is [
        | inl now ↦ inl (image_back image now)
        | inr made ↦ inr (subst (λ x. IsUnfinished x) (narrow.same 0) made.0, made.1)
      ]))

  -- what files read as after a run that changes none, they read as before
  pub have_before : (g : ℕ) (bodies : List (List ℕ)) → HaveBodies v.files g bodies → HaveBodies u.files g bodies
  have_before g bodies (inl made) = inl (record {
    root = subst (λ x. Reads (generations g) x) (narrow.same 0) made.root;
    log = subst (λ x. Reads bodies x) (narrow.same (generation_file g)) made.log;
    few = made.few;
  })
  have_before g bodies (inr unmade) = inr (record {
    root = subst (λ x. IsUnfinished x) (narrow.same 0) unmade.root;
    first = unmade.first;
    none = unmade.none;
  })

  pub stops_before : (file at : ℕ) → StopsReading v.files file at → StopsReading u.files file at
  stops_before file at (inl stop) = inl (record {
    is_root = stop.is_root;
    long = subst (λ x. 9 < length x) (narrow.same 0) stop.long;
    stops = subst (λ x. StopsAt at x) (narrow.same 0) stop.stops;
  })
  stops_before file at (inr (inl stop)) = inr (inl (record {
    is_root = stop.is_root;
    bodies = stop.bodies;
    root = subst (λ x. Reads stop.bodies x) (narrow.same 0) stop.root;
    i = stop.i;
    stops = stop.stops;
  }))
  stops_before file at (inr (inr stop)) = inr (inr (record {
    generation = stop.generation;
    root = subst (λ x. Reads (generations stop.generation) x) (narrow.same 0) stop.root;
    is_log = stop.is_log;
    stops = subst (λ x. StopsAt at x) (narrow.same file) stop.stops;
  }))

-- which refusals are of a log
pub not_log_of : {T : Type 0} (file f at : ℕ) (r : LogRefusal) (e : JournalRefusal) → e ≡ refusal_in file r → IsErrOf {T = T} (Err e) (journal_refusal.NotAStore f at)
    → (r ≡ log_refusal.NotLog at) × (f ≡ file)
not_log_of file f at log_refusal.Fault e is err = absurd (cc)
not_log_of file f at (log_refusal.NotLog a) e is err = let h : e ≡ journal_refusal.NotAStore f at = cc in (cc, cc)
not_log_of file f at log_refusal.Memory e is err = absurd (cc)

pub none_inside : (v : Vec (Vec ℕ Global) Global) (b : Bool) → b ≡ (vec_len v == 0) → b ≡ true → contents v.items ≡ []
none_inside v b is told = ap contents (nothing v.items (sym v.ok.0 ∙ eqb-true (vec_len v) 0 (sym is ∙ told)))
  where
    nothing : (xs : List (Vec ℕ Global)) → length xs ≡ 0 → xs ≡ []
    nothing [] e = refl
    nothing (x ∷ xs) e = absurd (omega (arith, e))

pub some_inside : (v : Vec (Vec ℕ Global) Global) (b : Bool) → b ≡ (vec_len v == 0) → b ≡ false → 0 < length v.items
some_inside v b is told =
    let some : vec_len v ≢ 0 = eqb-false (vec_len v) 0 (sym is ∙ told) in
    omega (arith, some, v.ok.0)

-- where an empty log ends
pub empty_end : (items : List (Vec ℕ Global)) → items ≡ [] → length (front (contents items)) + 1 ≡ 9
empty_end items none = ap (λ (l : List (Vec ℕ Global)). length (front (contents l)) + 1) none ∙ ap (λ (n : ℕ). n + 1) length-front_empty

-- a journal that was made is kept
pub named_keeps : (v : View) (journal : Journal) (g : ℕ) (bodies : List (List ℕ)) → generation_of journal ≡ g → bodies ≡ [] → Names v g journal.log [] → Keeps v journal g bodies
named_keeps v journal g bodies is none names = record {
  is_generation = is;
  end = subst (λ (l : List (List ℕ)). end_of journal ≡ length (front l) + 1) (sym none) names.stands.end;
  root = names.root;
  log = λ x now. subst (λ (l : List (List ℕ)). Reads l x) (sym none)
      (names.stands.outcomes x (subst (λ f. Now v f x) (sym (journal.is_file ∙ ap generation_file is)) now));
  few = subst (λ n. n < 2 ^ 62) is journal.in_range;
}

-- what follows from a result that is Ok
pub on_ok : {T E : Type 0} (r : Result T E) (P : T → Type 0) (Q : Type 0) → IfOk r P → ((x : T) → P x → Q) → OnOk r Q
on_ok (Ok x) P Q has then = then x has
on_ok (Err e) P Q has then = tt
