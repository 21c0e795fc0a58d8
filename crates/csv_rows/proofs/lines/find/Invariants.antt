-- The lines so far were passed over.
use Rattle.std.proofs.Common.{◌≡◌, ℕ, List, Some}
use Rattle.csv_rows.proofs.LineLemmas.{IsPassed}
use Rattle.csv_rows.proofs.lines.find.Given as goal

abbrev pub invariant-loop-turn : goal.invariant-loop-turn
invariant-loop-turn g l = (bytes : List ℕ) → g.R.Read.remaining l.initial.answers ≡ Some bytes → IsPassed bytes l.number l.left (g.R.Read.remaining l.answers)
