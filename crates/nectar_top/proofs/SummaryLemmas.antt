-- What the answers of a run come to, with one answer more.
use Rattle.std.proofs.Common.{◌≡◌, ℕ, ◌+◌, List, [], ◌∷◌, ◌++◌, sym, ap, ◌∙◌, arith}
use Rattle.std.proofs.lemmas.List.Sums.{sum_by_push}
use Rattle.script_text.specs.declared.answer.Answer.{Answer}
use Rattle.nectar_top.specs.Summary.{told, of_answer, total, summary_of, together}
use Rattle.nectar_top.specs.declared.summary.Summary.{Summary}

told_on : (n m : ℕ) → told (told n + m) ≡ told (n + m)
told_on n m = omega arith

total-push : (number : Summary → ℕ) (answers : List Answer) (a : Answer) → told (total number answers + number (of_answer a)) ≡ total number (answers ++ a ∷ [])
total-push number answers a = told_on _ (number (of_answer a)) ∙ ap told (sym (sum_by_push (λ x. number (of_answer x)) answers a))

pub summary_of-push : (answers : List Answer) (a : Answer) → together (summary_of answers) (of_answer a) ≡ summary_of (answers ++ a ∷ [])
summary_of-push answers a = λ i. record {
  commands = total-push (λ s. s.commands) answers a i;
  rows = total-push (λ s. s.rows) answers a i;
  used = total-push (λ s. s.used) answers a i;
  kept = total-push (λ s. s.kept) answers a i;
  evicted = total-push (λ s. s.evicted) answers a i;
  read = total-push (λ s. s.read) answers a i;
  refused = total-push (λ s. s.refused) answers a i;
}
