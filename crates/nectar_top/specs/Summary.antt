-- What the answers of a run come to.
use Rattle.std.specs.Prelude.{ℕ, ◌+◌, ◌-◌, ◌^◌, min, length, List, [], ◌∷◌, ◌++◌, codes, decimal, flat_map, sum_by}
use Rattle.script_text.specs.Answer.{printed_line}
use Rattle.script_text.specs.declared.answer.Answer.{Answer}
use Rattle.script_text.specs.declared.answer.Answer.TheVariants as answer
use Rattle.nectar_top.specs.declared.summary.Summary.{Summary}

-- a number that stands still at the greatest of 64 bits
abbrev pub told : ℕ → ℕ
told n = min n (2 ^ 64 - 1)

-- one command, which says nothing more
abbrev pub plain : Summary
plain = record { commands = 1; rows = 0; used = 0; kept = 0; evicted = 0; read = 0; refused = 0 }

-- what one answer comes to: the command, the rows of its result, the ids that it tells, the bytes that were read
abbrev pub of_answer : Answer → Summary
of_answer (answer.Result rows used kept read) = record plain { rows = length rows; used = length used; kept = length kept; read = read }
of_answer (answer.Evicted ids bytes) = record plain { evicted = length ids }
of_answer (answer.Refused why) = record plain { refused = 1 }
of_answer _ = plain

abbrev pub total : (Summary → ℕ) → List Answer → ℕ
total number answers = told (sum_by (λ a. number (of_answer a)) answers)

abbrev pub summary_of : List Answer → Summary
summary_of answers = record {
  commands = total (λ s. s.commands) answers;
  rows = total (λ s. s.rows) answers;
  used = total (λ s. s.used) answers;
  kept = total (λ s. s.kept) answers;
  evicted = total (λ s. s.evicted) answers;
  read = total (λ s. s.read) answers;
  refused = total (λ s. s.refused) answers;
}

-- two of them together
abbrev pub together : Summary → Summary → Summary
together a b = record {
  commands = told (a.commands + b.commands);
  rows = told (a.rows + b.rows);
  used = told (a.used + b.used);
  kept = told (a.kept + b.kept);
  evicted = told (a.evicted + b.evicted);
  read = told (a.read + b.read);
  refused = told (a.refused + b.refused);
}

-- seven lines, each a word and a number
abbrev pub summary_lines : Summary → List (List ℕ)
summary_lines s =
    (codes "commands " ++ decimal s.commands) ∷ (codes "rows " ++ decimal s.rows) ∷ (codes "used " ++ decimal s.used) ∷ (codes "kept " ++ decimal s.kept)
    ∷ (codes "evicted " ++ decimal s.evicted) ∷ (codes "read " ++ decimal s.read) ∷ (codes "refused " ++ decimal s.refused) ∷ []

abbrev pub summary_text : Summary → List ℕ
summary_text s = flat_map printed_line (summary_lines s)
