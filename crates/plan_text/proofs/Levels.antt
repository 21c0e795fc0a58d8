-- How many levels are open where something is read, and what stands behind what was read up to a mark or a word.
use Prim.Native.Nat.{zero, suc}
use Rattle.std.proofs.Common.{◌≡◌, refl, sym, ap, ◌∙◌, ℕ, ◌<◌, ◌-◌, Bool, true, false, cond, nat_eq, List, ◌∷◌, Some, None, arith}
use Rattle.std.proofs.lemmas.Bool.Decides.{nat_tests}
use Rattle.plan_text.specs.declared.token.Token.{Token}
use Rattle.plan_text.specs.declared.token.Token.TheVariants.{Word, Mark}
use Rattle.plan_text.specs.declared.token.Mark.TheVariants as mark
use Rattle.plan_text.specs.declared.token.Word.TheVariants as word
use Rattle.plan_text.specs.Operators.{Rule}
use Rattle.plan_text.specs.declared.counts.Counts.{Counts}
use Rattle.plan_text.specs.declared.parser.Terminal.{Terminal}
use Rattle.plan_text.specs.declared.parser.Terminal.TheVariants.{Comma, Open, Close, Bar, With, On}
use Rattle.plan_text.specs.Reader.{ReadOf, and_then, terminal_at, up_to}
use Rattle.plan_text.specs.Reading.{Reader, Readers, read_by, below, rule_at, inner}
use Rattle.plan_text.proofs.TokenLemmas.{both}
use Rattle.plan_text.proofs.RepeatLemmas.{then_some}
use Rattle.plan_text.specs.PlanReading.{agg_at, name_at, argument_at, inner_plan, plan_at}

-- within a construct one level less may be open, and with none left nothing is read
pub inner_rule : (most : Counts) (n : ℕ) (rule : Rule) (ts : List Token) → (n ≡ 0 → inner most n rule ts ≡ None) × (0 < n → inner most n rule ts ≡ rule_at most (inner most (n - 1)) rule ts)
unfolding inner
inner_rule most zero rule ts = (λ e. refl, λ some. absurd (omega (arith, some)))
inner_rule most (suc n) rule ts = (λ e. absurd (omega (arith, e)), λ some. let same : suc n - 1 ≡ n = omega arith in ap (λ k. rule_at most (inner most k) rule ts) (sym same))

-- the reader of a rule below another is its own
pub below_is : (most : Counts) (readers : Readers) (k : ℕ) (rule : Rule) (ts : List Token) → rule < k → below most readers k rule ts ≡ rule_at most readers rule ts
unfolding below
below_is most readers zero rule ts less = absurd (omega (arith, less))
below_is most readers (suc k) rule ts less = by (nat_eq rule k) refl (below_is most readers k rule ts)
  where
    own : Reader
    own ts = read_by most readers (below most readers k) k ts

    by : (b : Bool) → nat_eq rule k ≡ b → (rule < k → below most readers k rule ts ≡ rule_at most readers rule ts) → cond b own (below most readers k rule) ts ≡ rule_at most readers rule ts
    by true e again = let same : k ≡ rule = grind (arith, nat_tests, e) in ap (λ j. read_by most readers (below most readers j) j ts) same
    by false e again = again (grind (arith, nat_tests, e, less))

-- where a mark or a word was read it stands
abbrev pub token_of : Terminal → Token
token_of Comma = Mark mark.Comma
token_of Open = Mark mark.Open
token_of Close = Mark mark.Close
token_of Bar = Mark mark.Bar
token_of With = Word word.With
token_of On = Word word.On

pub terminal_some : (t : Terminal) (ts rest : List Token) → terminal_at t ts ≡ Some (tt, rest) → ts ≡ token_of t ∷ rest
terminal_some Comma (Mark mark.Comma ∷ ts) rest q = ap (λ r. Mark mark.Comma ∷ r) (both tt tt ts rest q).1
terminal_some Open (Mark mark.Open ∷ ts) rest q = ap (λ r. Mark mark.Open ∷ r) (both tt tt ts rest q).1
terminal_some Close (Mark mark.Close ∷ ts) rest q = ap (λ r. Mark mark.Close ∷ r) (both tt tt ts rest q).1
terminal_some Bar (Mark mark.Bar ∷ ts) rest q = ap (λ r. Mark mark.Bar ∷ r) (both tt tt ts rest q).1
terminal_some With (Word word.With ∷ ts) rest q = ap (λ r. Word word.With ∷ r) (both tt tt ts rest q).1
terminal_some On (Word word.On ∷ ts) rest q = ap (λ r. Word word.On ∷ r) (both tt tt ts rest q).1
terminal_some _ _ rest q = absurd (cc q)

-- what was read up to a terminal was read, and behind it the terminal stands
pub up_to_some : {A : Type 0} (end : Terminal) (read : ReadOf A) (x : A) (rest : List Token) → up_to (terminal_at end) read ≡ Some (x, rest) → read ≡ Some (x, token_of end ∷ rest)
up_to_some end read x rest q =
    let first = then_some read (λ y mid. and_then (terminal_at end mid) (λ _ behind. Some (y, behind))) (x, rest) q in
    let then = then_some (terminal_at end first.1) (λ _ behind. Some (first.0, behind)) (x, rest) first.3 in
    let p = both first.0 x then.1 rest then.3 in
    first.2 ∙ (λ i. Some (p.0 i, terminal_some end first.1 then.1 then.2 i)) ∙ ap (λ r. Some (x, token_of end ∷ r)) p.1

-- the parentheses of an aggregate are a level
pub agg_with_levels : (n : ℕ) (ts : List Token) → (n ≡ 0 → agg_at n ts ≡ None) × (0 < n → agg_at n ts ≡ and_then (name_at ts) (λ name behind. and_then (terminal_at Open behind) (λ _. argument_at name)))
agg_with_levels zero ts = (λ e. refl, λ some. absurd (omega (arith, some)))
agg_with_levels (suc n) ts = (λ e. absurd (omega (arith, e)), λ some. refl)

-- within parentheses one level less may be open, and with none left no plan is read
pub inner_plan_with_levels : (most : Counts) (n : ℕ) (ts : List Token) → (n ≡ 0 → inner_plan most n ts ≡ None) × (0 < n → inner_plan most n ts ≡ plan_at most (n - 1) ts)
unfolding inner_plan
inner_plan_with_levels most zero ts = (λ e. refl, λ some. absurd (omega (arith, some)))
inner_plan_with_levels most (suc n) ts = (λ e. absurd (omega (arith, e)), λ some. let same : suc n - 1 ≡ n = omega arith in ap (λ k. plan_at most k ts) (sym same))
