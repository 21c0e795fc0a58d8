-- What a crash leaves while the journal is made.
use Rattle.std.proofs.Common.{◌≡◌, ◌≢◌, inl, inr, ℕ, ◌+◌, ◌^◌, ◌<◌, ◌≤◌, List, [], ◌∷◌, length, drop, Result, Ok, Err, refl, sym, ap, ◌∙◌, subst, arith}
use Rattle.std.specs.Prelude.{Bool, true, ◌==◌, ◌||◌, ◌&&◌, nat_le, nat_lt, OnOk}
use Rattle.std.proofs.lemmas.List.{drop_all}
use Rattle.std.proofs.lemmas.Bool.{le-leb, lt-ltb}
use Rattle.std.proofs.Math.Bool.{or-true}
use Rattle.outside_traits.specs.View.{View, Now, Only}
use Rattle.outside_traits.specs.Runs.{Touches, ChangesOnly, Spans}
use Rattle.outside_traits.proofs.RunLemmas.{joined, spans_of}
use Rattle.gated_log.specs.Logs.{sealed}
use Rattle.gated_log.proofs.Crash.{sealed_empty}
use Rattle.gated_log.specs.Stands.{file_of, Stands}
use Rattle.gated_log.specs.declared.log.Log.{Log}
use Rattle.journal_store.specs.Readings.{generation_file, users_file, IsJournalFile, IsUnfinished, HaveBodies}

pub root_is_journal : IsJournalFile 0
root_is_journal = refl

pub log_is_journal : (g : ℕ) → g < 2 ^ 62 → IsJournalFile (generation_file g)
log_is_journal g few =
    let low : nat_le 4294967296 (4294967296 + g) ≡ true = le-leb 4294967296 (4294967296 + g) (omega arith) in
    let high : nat_lt (4294967296 + g) users_file ≡ true = lt-ltb (4294967296 + g) users_file (omega (arith, few)) in
    ap (λ (b : Bool). (4294967296 + g == 0) || (b && nat_lt (4294967296 + g) users_file)) low
    ∙ ap (λ (b : Bool). (4294967296 + g == 0) || b) high ∙ or-true (4294967296 + g == 0)

-- what a crash leaves of a file is as it reads, also after a run on another
pub only_beside : (file g : ℕ) (P : List ℕ → Type 0) (u v : View) → g ≢ file → Touches file P u v → Only (u.files g) (Now u g) → Only (v.files g) (Now v g)
only_beside file g P u v other run only x now = only x (run.others v.moment g x run.time.later (omega arith) other now) ∙ sym (run.same g other)

-- a run on one file leaves a log in another
pub stands_beside : (file : ℕ) (P : List ℕ → Type 0) (u v : View) (log : Log) (bodies : List (List ℕ)) → file_of log ≢ file → Touches file P u v → Stands u log bodies → Stands v log bodies
stands_beside file P u v log bodies other run stands = record {
  end = stands.end;
  outcomes = λ x now. stands.outcomes x (run.others v.moment (file_of log) x run.time.later (omega arith) other now);
}

-- what is left of another file after a run on one
pub short_beside : (file : ℕ) (P : List ℕ → Type 0) (u v : View) → 0 ≢ file → Touches file P u v → ((x : List ℕ) → Now u 0 x → length x ≤ 9) → (x : List ℕ) → Now v 0 x → length x ≤ 9
short_beside file P u v other run short x now = short x (run.others v.moment 0 x run.time.later (omega arith) other now)

-- generation 0 is made while the root is unfinished
pub making_log : (u v : View) → ((x : List ℕ) → Now u 0 x → IsUnfinished x) → Touches (generation_file 0) (λ x. Unit {0}) u v → Spans IsJournalFile (λ image. HaveBodies image 0 []) u v
making_log u v unfinished run =
    spans_of (generation_file 0) (λ x. Unit {0}) IsJournalFile (λ image. HaveBodies image 0 []) u v run (log_is_journal 0 (omega arith))
    (λ image any others. inr (record { root = unfinished (image 0) (others 0 (λ is. cc)); first = refl; none = refl }))

-- the root is made
pub making_root : (u v : View) → Touches 0 (λ x. length x ≤ 9) u v → Spans IsJournalFile (λ image. HaveBodies image 0 []) u v
making_root u v run =
    spans_of 0 (λ x. length x ≤ 9) IsJournalFile (λ image. HaveBodies image 0 []) u v run root_is_journal
    (λ image short others. inr (record { root = inl short; first = refl; none = refl }))

-- the root is unfinished where it stands as an empty log
pub unfinished_root : (u : View) (root : Log) → file_of root ≡ 0 → Stands u root [] → (x : List ℕ) → Now u 0 x → IsUnfinished x
unfinished_root u root is stands x now = inr (stands.outcomes x (subst (λ g. Now u g x) (sym is) now))

-- nothing stands behind the first body of a log that was made
pub first_bytes : (made bytes body : List ℕ) (end : ℕ) → end ≡ 9 → made ≡ sealed [] [] → bytes ≡ sealed (body ∷ []) (drop (end + length body + 5) made) → bytes ≡ sealed (body ∷ []) []
first_bytes made bytes body end end_is empty wrote =
    wrote ∙ ap (λ (l : List ℕ). sealed (body ∷ []) l) (drop_all (end + length body + 5) made (omega (arith, end_is, ap length (empty ∙ sealed_empty))))

-- two runs on one file, one after the other
pub one_file : (file f : ℕ) (u v w : View) → f ≡ file → ChangesOnly file u v → ChangesOnly f v w → ChangesOnly file u w
one_file file f u v w is first then = joined file (λ x. Unit {0}) u v w first (subst (λ g. ChangesOnly g v w) is then)

-- what follows from what holds at Ok
pub ok_then : {T E : Type 0} (r : Result T E) (P Q : Type 0) → OnOk r P → (P → Q) → OnOk r Q
ok_then (Ok x) P Q has then = then has
ok_then (Err e) P Q has then = tt
