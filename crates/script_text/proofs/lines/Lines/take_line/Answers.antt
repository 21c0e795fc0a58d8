use Rattle.std.proofs.Common.{◌≡◌, ℕ, ◌+◌, ◌≤◌, List, [], ◌∷◌, ◌++◌, take, subst, rules, arith, false}
use Rattle.std.proofs.lemmas.List.{take-take}
use Rattle.std.proofs.lemmas.List.Elements.{All-take}
use Rattle.script_text.specs.Script.{is_newline}
use Rattle.script_text.specs.Reader.{IsUnbroken}
use Rattle.script_text.proofs.ReaderLemmas.{items-unbroken}
use Rattle.script_text.proofs.lines.Lines.take_line.Goals as goal

pub returns-in-Some-clause-stands : goal.returns-in-Some-clause-stands
returns-in-Some-clause-stands c =
    let line : take (c.in-Some.len + 1) c.args.bytes.now ≡ take c.in-Some.len c.args.bytes.now ++ 10 ∷ [] = search rules in
    simp line c.end_line-item.ensures.stands

pub returns-in-Some-clause-item : goal.returns-in-Some-clause-item
returns-in-Some-clause-item c =
    let line : take (c.in-Some.len + 1) c.args.bytes.now ≡ take c.in-Some.len c.args.bytes.now ++ 10 ∷ [] = search rules in
    simp line c.end_line-item.ensures.item

-- a shorter front is unbroken too
shorter : (n k : ℕ) (bytes : List ℕ) → k ≤ n → IsUnbroken (take n bytes) → IsUnbroken (take k bytes)
shorter n k bytes below unbroken = subst IsUnbroken (take-take k n bytes below) (All-take (λ c. is_newline c ≡ false) k (take n bytes) unbroken)

pub returns-in-Some-clause-first : goal.returns-in-Some-clause-first
returns-in-Some-clause-first c = λ before stood k below. items-unbroken _ _ before (take k c.args.bytes.now) _ stood (shorter c.in-Some.len k c.args.bytes.now (omega arith) c.in-Some.ensures.some.0)

pub returns-in-None-clause-first : goal.returns-in-None-clause-first
returns-in-None-clause-first c = λ before stood k below. items-unbroken _ _ before (take k c.args.bytes.now) _ stood (All-take (λ c. is_newline c ≡ false) k c.args.bytes.now c.in-None.ensures.none)
