-- What an answer says of a whole text.
use Rattle.std.specs.Prelude.{◌≡◌, ℕ, List, [], Result, Ok, Err, Option, Some, None}
use Rattle.plan_text.specs.declared.token.Token.{Token}
use Rattle.plan_text.specs.declared.limit.PlanLimit.{PlanLimit}
use Rattle.plan_text.specs.declared.text_refusal.TextRefusal.{TextRefusal}
use Rattle.plan_text.specs.declared.text_refusal.TextRefusal.TheVariants as refusal
use Rattle.plan_text.specs.declared.counts.Counts.{Counts}
use Rattle.plan_text.specs.declared.draft.Draft.{Draft}
use Rattle.plan_text.specs.TextTokens.{tokens_in}
use Rattle.plan_text.specs.PlainNamed.{PlainExpr, PlainTree}
use Rattle.plan_text.specs.Draft.{limits, first_above}
use Rattle.plan_text.specs.Reader.{ReadOf, ReaderOf}
use Rattle.plan_text.specs.Reading.{expr_at, inner}
use Rattle.plan_text.specs.PlanReading.{plan_at}

-- What a text is read as: a plan or an expression within the limits, or the first limit that it passes, or none.
pub data WholeReading (A : Type 0) : Type 0 where
  AsPlan : A → WholeReading A
  AsTooLarge : PlanLimit → WholeReading A
  AsNone : WholeReading A

abbrev pub part_reading : {A : Type 0} → Counts → Option A → WholeReading A
part_reading c (Some x) = AsPlan x
part_reading c None = AsTooLarge (first_above c)

-- of what was read only that counts which no token stands behind
abbrev pub whole_reading : {A : Type 0} → ReadOf (Draft A) → WholeReading A
whole_reading (Some (d, [])) = part_reading d.counts d.part
whole_reading _ = AsNone

abbrev pub tokens_reading : {A : Type 0} → ReaderOf (Draft A) → Option (List Token) → WholeReading A
tokens_reading reader (Some tokens) = whole_reading (reader tokens)
tokens_reading reader None = AsNone

abbrev pub TextReading : Type 0
TextReading = WholeReading PlainTree

-- What a text is read as, a function of its bytes.
abbrev pub text_reading : List ℕ → TextReading
text_reading text = tokens_reading (plan_at limits 32) (tokens_in text)

-- and what it is read as where it is to spell an expression
abbrev pub expr_reading : List ℕ → WholeReading PlainExpr
expr_reading text = tokens_reading (expr_at limits (inner limits 32)) (tokens_in text)

-- the answer is what was read; want of memory may be answered in place of it
abbrev pub Means : {A B : Type 0} → (A → B) → Result A TextRefusal → WholeReading B → Type 0
Means view (Ok plan) reading = reading ≡ AsPlan (view plan)
Means view (Err refusal.Syntax) reading = reading ≡ AsNone
Means view (Err (refusal.Limit what)) reading = reading ≡ AsTooLarge what
Means view (Err refusal.Memory) reading = Unit {0}
