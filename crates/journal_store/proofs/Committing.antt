-- A body is added to the journal.
use Rattle.std.proofs.Common.{◌≡◌, ◌≢◌, inl, inr, ℕ, List, [], ◌∷◌, ◌++◌, sym, ap, ◌∙◌, subst, arith}
use Rattle.outside_traits.specs.View.{View, Now}
use Rattle.outside_traits.specs.Runs.{Touches, ChangesOnly, Spans}
use Rattle.outside_traits.proofs.RunLemmas.{spans_of}
use Rattle.gated_log.specs.Logs.{Reads}
use Rattle.gated_log.specs.Stands.{file_of, Stands, IsBeforeOrAfter}
use Rattle.journal_store.specs.declared.journal.Journal.{Journal}
use Rattle.journal_store.specs.Readings.{generation_file, IsJournalFile}
use Rattle.journal_store.specs.Journals.{generation_of, Keeps, HaveBeforeOrAfter}
use Rattle.journal_store.proofs.MakingLemmas.{log_is_journal}

module _ (u : View) (journal : Journal) (g : ℕ) (bodies : List (List ℕ)) (keeps : Keeps u journal g bodies) where
  pub log_file : file_of journal.log ≡ generation_file g
  log_file = journal.is_file ∙ ap generation_file keeps.is_generation

  not_root : 0 ≢ file_of journal.log
  not_root is = let e : 0 ≡ generation_file g = is ∙ log_file in omega (arith, e)

  -- its log stands in its file
  pub log_stands : Stands u journal.log bodies
  log_stands = record {
    end = keeps.end;
    outcomes = λ x now. keeps.log x (subst (λ f. Now u f x) log_file now);
  }

  -- while a body is added, an image has the bodies without it or with it
  pub committing : (v : View) (body : List ℕ) → Touches (file_of journal.log) (IsBeforeOrAfter bodies body) u v
      → Spans IsJournalFile (λ image. HaveBeforeOrAfter image g bodies body) u v
  committing v body run =
      spans_of (file_of journal.log) (IsBeforeOrAfter bodies body) IsJournalFile (λ image. HaveBeforeOrAfter image g bodies body) u v run
      (subst (λ f. IsJournalFile f) (sym log_file) (log_is_journal g keeps.few))
      (λ image log others.
      let root = keeps.root (image 0) (others 0 not_root) in
      elim log [
        | inl before ↦ inl (inl (record { root = root; log = subst (λ f. Reads bodies (image f)) log_file before; few = keeps.few }))
        | inr after ↦ inr (inl (record { root = root; log = subst (λ f. Reads (bodies ++ body ∷ []) (image f)) log_file after; few = keeps.few }))
      ])

  -- and then it is there
  pub committed : (v : View) (next : Journal) (body : List ℕ) → generation_of next ≡ generation_of journal → ChangesOnly (file_of journal.log) u v
      → file_of next.log ≡ file_of journal.log → Stands v next.log (bodies ++ body ∷ []) → Keeps v next g (bodies ++ body ∷ [])
  committed v next body same run file stands = record {
    is_generation = same ∙ keeps.is_generation;
    end = stands.end;
    root = λ x now. keeps.root x (run.others v.moment 0 x run.time.later (omega arith) not_root now);
    log = λ x now. stands.outcomes x (subst (λ f. Now v f x) (sym (file ∙ log_file)) now);
    few = keeps.few;
  }
