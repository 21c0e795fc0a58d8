-- The next generation is made the one in use.
use Rattle.std.proofs.Common.{◌≡◌, ◌≢◌, ◌⊎◌, inl, inr, ℕ, ◌+◌, ◌^◌, ◌<◌, List, [], ◌∷◌, ◌++◌, length, drop, Result, Ok, Err, sym, ap, ◌∙◌, subst, arith}
use Rattle.std.specs.Prelude.{OnOk, OnErr}
use Rattle.outside_traits.specs.View.{View, Now, Only}
use Rattle.outside_traits.specs.Calls.{Acts, Gone}
use Rattle.outside_traits.specs.Runs.{Touches, ChangesOnly, Spans}
use Rattle.outside_traits.proofs.RunLemmas.{one_call, spans_of}
use Rattle.gated_log.specs.Logs.{front, sealed, Reads}
use Rattle.gated_log.specs.Stands.{file_of, end_of as end_of_log, Stands, IsBeforeOrAfter}
use Rattle.gated_log.specs.declared.log.Log.{Log}
use Rattle.journal_store.specs.declared.journal.Journal.{Journal}
use Rattle.journal_store.specs.Readings.{generation_file, number_bytes, generations, IsJournalFile}
use Rattle.journal_store.specs.Making.{AreStable}
use Rattle.journal_store.specs.Journals.{generation_of, Keeps, HaveFormerOrNext}
use Rattle.journal_store.proofs.MakingLemmas.{root_is_journal, log_is_journal, only_beside}
use Rattle.journal_store.proofs.Numbers.{numbers_more, length-number_bytes, length-front_generations}

pub root_not_log : (g : ℕ) → 0 ≢ generation_file g
root_not_log g is = let e : 0 ≡ 4294967296 + g = is in omega (arith, e)

-- ## The next log is made

module _ (u v : View) (journal : Journal) (g next : ℕ) (bodies : List (List ℕ)) (body : List ℕ) (keeps : Keeps u journal g bodies) (is_next : next ≡ g + 1) (few : next < 2 ^ 62) (making : ChangesOnly (generation_file next) u v) where
  few_next : g + 1 < 2 ^ 62
  few_next = omega (arith, few, is_next)

  not_next : generation_file g ≢ generation_file next
  not_next is = let e : 4294967296 + g ≡ 4294967296 + next = is in omega (arith, e, is_next)

  not_root : (k : ℕ) → generation_file k ≢ file_of journal.root
  not_root k is = root_not_log k (sym (is ∙ journal.is_root))

  former_root : (x : List ℕ) → Now v 0 x → Reads (generations g) x
  former_root x now = keeps.root x (making.others v.moment 0 x making.time.later (omega arith) (root_not_log next) now)

  former_log : (x : List ℕ) → Now v (generation_file g) x → Reads bodies x
  former_log x now = keeps.log x (making.others v.moment (generation_file g) x making.time.later (omega arith) not_next now)

  -- meanwhile an image has the former generation
  pub making_next : Spans IsJournalFile (λ image. HaveFormerOrNext image g bodies body) u v
  making_next =
      spans_of (generation_file next) (λ x. Unit {0}) IsJournalFile (λ image. HaveFormerOrNext image g bodies body) u v making (log_is_journal next few)
      (λ image any others. inl (inl (record {
        root = keeps.root (image 0) (others 0 (root_not_log next));
        log = keeps.log (image (generation_file g)) (others (generation_file g) not_next);
        few = keeps.few;
      })))

  -- and the root stands as it did
  pub root_stands : Stands v journal.root (generations g)
  root_stands = record {
    end = omega (arith, journal.root_end, keeps.is_generation, length-front_generations g);
    outcomes = λ x now. former_root x (subst (λ f. Now v f x) journal.is_root now);
  }

  next_generations : (number : List ℕ) → number ≡ number_bytes next → generations g ++ number ∷ [] ≡ generations (g + 1)
  next_generations number is =
      ap (λ (b : List ℕ). generations g ++ b ∷ []) is ∙ ap (λ (n : ℕ). generations g ++ number_bytes n ∷ []) is_next ∙ sym (numbers_more (g + 1))

  next_log : (log : Log) → file_of log ≡ generation_file next → Stands v log (body ∷ []) → (x : List ℕ) → Now v (generation_file (g + 1)) x → Reads (body ∷ []) x
  next_log log file stands x now = stands.outcomes x (subst (λ f. Now v f x) (sym (file ∙ ap generation_file is_next)) now)

  -- while the root is made to name it, an image has the former generation or the next one
  pub naming_next : (w : View) (log : Log) (number : List ℕ) → number ≡ number_bytes next → file_of log ≡ generation_file next → Stands v log (body ∷ [])
      → Touches (file_of journal.root) (IsBeforeOrAfter (generations g) number) v w → Spans IsJournalFile (λ image. HaveFormerOrNext image g bodies body) v w
  naming_next w log number is file stands naming =
      spans_of (file_of journal.root) (IsBeforeOrAfter (generations g) number) IsJournalFile (λ image. HaveFormerOrNext image g bodies body) v w naming
      (subst (λ f. IsJournalFile f) (sym journal.is_root) root_is_journal)
      (λ image root others. elim root [
        | inl before ↦ inl (inl (record {
          root = subst (λ f. Reads (generations g) (image f)) journal.is_root before;
          log = former_log (image (generation_file g)) (others (generation_file g) (not_root g));
          few = keeps.few;
        }))
        | inr after ↦ inr (inl (record {
          root = subst (λ l. Reads l (image 0)) (next_generations number is) (subst (λ f. Reads (generations g ++ number ∷ []) (image f)) journal.is_root after);
          log = next_log log file stands (image (generation_file (g + 1))) (others (generation_file (g + 1)) (not_root (g + 1)));
          few = few_next;
        }))
      ])

  -- and then it has the next one
  pub named_next : (w : View) (made : Journal) (number : List ℕ) → number ≡ number_bytes next → generation_of made ≡ next → Stands v made.log (body ∷ [])
      → ChangesOnly (file_of journal.root) v w → Stands w made.root (generations g ++ number ∷ []) → Keeps w made (g + 1) (body ∷ [])
  named_next w made number is same stands naming root = record {
    is_generation = same ∙ is_next;
    end = stands.end;
    root = λ x now. subst (λ l. Reads l x) (next_generations number is) (root.outcomes x (subst (λ f. Now w f x) (sym made.is_root) now));
    log = λ x now. next_log made.log (made.is_file ∙ ap generation_file same) stands x
        (naming.others w.moment (generation_file (g + 1)) x naming.time.later (omega arith) (not_root (g + 1)) now);
    few = few_next;
  }

  pub stable_next : (w : View) → ChangesOnly (file_of journal.root) v w → Only (v.files (generation_file next)) (Now v (generation_file next))
      → Only (w.files (file_of journal.root)) (Now w (file_of journal.root)) → AreStable w (g + 1)
  stable_next w naming log root = record {
    root = subst (λ f. Only (w.files f) (Now w f)) journal.is_root root;
    log = subst (λ f. Only (w.files f) (Now w f)) (ap generation_file is_next)
        (only_beside (file_of journal.root) (generation_file next) (λ x. Unit {0}) v w (not_root next) naming log);
  }

  -- what stands in the root then
  pub root_next : (w : View) (number : List ℕ) → number ≡ number_bytes next
      → w.files (file_of journal.root) ≡ sealed (generations g ++ number ∷ []) (drop (end_of_log journal.root + length number + 5) (v.files (file_of journal.root)))
      → w.files 0 ≡ sealed (generations (g + 1)) (drop (length (front (generations (g + 1))) + 1) (u.files 0))
  root_next w number is bytes =
      let place : end_of_log journal.root + length number + 5 ≡ length (front (generations (g + 1))) + 1 =
      omega (arith, journal.root_end, keeps.is_generation, ap length is, length-number_bytes next, length-front_generations (g + 1)) in
      ap w.files (sym journal.is_root) ∙ bytes
      ∙ ap (λ (f : ℕ). sealed (generations g ++ number ∷ []) (drop (end_of_log journal.root + length number + 5) (v.files f))) journal.is_root
      ∙ ap (λ (l : List ℕ). sealed (generations g ++ number ∷ []) (drop (end_of_log journal.root + length number + 5) l)) (making.same 0 (root_not_log next))
      ∙ ap (λ (n : ℕ). sealed (generations g ++ number ∷ []) (drop n (u.files 0))) place
      ∙ ap (λ (l : List (List ℕ)). sealed l (drop (length (front (generations (g + 1))) + 1) (u.files 0))) (next_generations number is)

-- ## The former log is removed

module _ (w z : View) (file g : ℕ) (is_former : file ≡ generation_file g) (removal : Acts file Gone w z) where
  removing : ChangesOnly file w z
  removing = one_call file (λ x. Unit {0}) Gone w z removal (λ x now. tt) (λ d x now gone. tt)

  root_kept : 0 ≢ file
  root_kept is = root_not_log g (is ∙ is_former)

  next_kept : generation_file (g + 1) ≢ file
  next_kept is = let e : 4294967296 + (g + 1) ≡ 4294967296 + g = is ∙ is_former in omega (arith, e)

  -- meanwhile an image has the next generation
  pub removing_former : (journal : Journal) (bodies : List (List ℕ)) (body : List ℕ) → Keeps w journal (g + 1) (body ∷ [])
      → Spans IsJournalFile (λ image. HaveFormerOrNext image g bodies body) w z
  removing_former journal bodies body keeps =
      spans_of file (λ x. Unit {0}) IsJournalFile (λ image. HaveFormerOrNext image g bodies body) w z removing
      (subst (λ f. IsJournalFile f) (sym is_former) (log_is_journal g (omega (arith, keeps.few))))
      (λ image any others. inr (inl (record {
        root = keeps.root (image 0) (others 0 root_kept);
        log = keeps.log (image (generation_file (g + 1))) (others (generation_file (g + 1)) next_kept);
        few = keeps.few;
      })))

  pub removed_keeps : (journal : Journal) (body : List ℕ) → Keeps w journal (g + 1) (body ∷ []) → Keeps z journal (g + 1) (body ∷ [])
  removed_keeps journal body keeps = record {
    is_generation = keeps.is_generation;
    end = keeps.end;
    root = λ x now. keeps.root x (removing.others z.moment 0 x removing.time.later (omega arith) root_kept now);
    log = λ x now. keeps.log x (removing.others z.moment (generation_file (g + 1)) x removing.time.later (omega arith) next_kept now);
    few = keeps.few;
  }

  pub removed_stable : AreStable w (g + 1) → AreStable z (g + 1)
  removed_stable stable = record {
    root = only_beside file 0 (λ x. Unit {0}) w z root_kept removing stable.root;
    log = only_beside file (generation_file (g + 1)) (λ x. Unit {0}) w z next_kept removing stable.log;
  }

  -- and the bytes of the root and of the next log are as before
  pub removed_root : z.files 0 ≡ w.files 0
  removed_root = removal.same 0 root_kept

  pub removed_log : z.files (generation_file (g + 1)) ≡ w.files (generation_file (g + 1))
  removed_log = removal.same (generation_file (g + 1)) next_kept

-- the removal is done, or its failure was counted
pub gone_or_counted : {T E : Type 0} (r : Result T E) (P Q : Type 0) → OnErr r P → OnOk r Q → P ⊎ Q
gone_or_counted (Ok x) P Q counted gone = inr gone
gone_or_counted (Err e) P Q counted gone = inl counted
