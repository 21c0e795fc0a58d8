use Rattle.std.proofs.Common.{◌≡◌, ap, ◌∙◌, sym, refl, ℕ, ◌+◌, Option, None, Some}
use Rattle.rewrite_core.specs.Files.{FileName, Extent, Result}
use Rattle.estimator.specs.Bytes.{capped}
use Rattle.executor.specs.Ended.{lost_with}
use Rattle.executor.specs.Progress.{result_of}
use Rattle.executor.specs.declared.refusal.LostResult.{LostResult}
use Rattle.executor.proofs.running.next_lost.Goals as goal

some-lost : (name : FileName) (id before given taken : ℕ) → Some id ≡ result_of name → taken ≡ capped (before + given)
    → (let lost : LostResult = record { id = id; taken = taken } in Some lost ≡ lost_with name before given)
some-lost (Extent stream number) id before given taken is sum = absurd (cc)
some-lost (Result i) id before given taken is sum = λ k. Some (record { id = some-is id i is k; taken = sum k })
  where
    some-is : (a b : ℕ) → Some a ≡ Some b → a ≡ b
    some-is a b e = cc

none-lost : (name : FileName) (before given : ℕ) → None ≡ result_of name → None ≡ lost_with name before given
none-lost (Extent stream number) before given is = refl
none-lost (Result i) before given is = absurd (cc)

pub returns-in-Some : goal.returns-in-Some
returns-in-Some c = λ name others left.
    some-lost name c.in-Some.id c.args.job.now.taken c.args.given c.saturating_add.result (sym c.in-Some.is ∙ c.next_result.ensures name others left)
    (c.saturating_add.ensures ∙ ap (λ n. capped (n + c.args.given)) c.taken.ensures)

pub returns-in-None : goal.returns-in-None
returns-in-None c = λ name others left. none-lost name c.args.job.now.taken c.args.given (sym c.in-None.is ∙ c.next_result.ensures name others left)
