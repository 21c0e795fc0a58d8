-- Reading at the front of tokens: what is read there, and what stands behind it.
use Prim.Native.Nat.{zero, suc}
use Rattle.std.specs.Prelude.{◌≡◌, ℕ, Bool, true, false, List, ◌∷◌, length, Option, None, Some, Result, Ok, Err}
use Rattle.plan_text.specs.declared.token.Token.{Token}
use Rattle.plan_text.specs.declared.token.Token.TheVariants.{Word, Mark}
use Rattle.plan_text.specs.declared.token.Mark.TheVariants as mark
use Rattle.plan_text.specs.declared.token.Word.TheVariants as word
use Rattle.plan_text.specs.declared.parser.Terminal.{Terminal}
use Rattle.plan_text.specs.declared.parser.Terminal.TheVariants.{Comma, Open, Close, Bar, With, On}
use Rattle.plan_text.specs.declared.text_refusal.TextRefusal.{TextRefusal}
use Rattle.plan_text.specs.declared.text_refusal.TextRefusal.TheVariants as refusal

abbrev pub ReadOf : Type 0 → Type 0
ReadOf A = Option (A × List Token)

abbrev pub ReaderOf : Type 0 → Type 0
ReaderOf A = List Token → ReadOf A

-- what is read, and then what the rest is read as
abbrev pub and_then : {A B : Type 0} → ReadOf A → (A → ReaderOf B) → ReadOf B
and_then None next = None
and_then (Some found) next = next found.0 found.1

-- the mark or the word that stands here
abbrev pub terminal_at : Terminal → ReaderOf (Unit {0})
terminal_at Comma (Mark mark.Comma ∷ rest) = Some (tt, rest)
terminal_at Open (Mark mark.Open ∷ rest) = Some (tt, rest)
terminal_at Close (Mark mark.Close ∷ rest) = Some (tt, rest)
terminal_at Bar (Mark mark.Bar ∷ rest) = Some (tt, rest)
terminal_at With (Word word.With ∷ rest) = Some (tt, rest)
terminal_at On (Word word.On ∷ rest) = Some (tt, rest)
terminal_at _ _ = None

-- what is read, up to and with the end that must stand behind it
abbrev pub up_to : {A : Type 0} → ReaderOf (Unit {0}) → ReadOf A → ReadOf A
up_to end read = and_then read (λ x rest. and_then (end rest) (λ _ behind. Some (x, behind)))

-- { separator STEP }: behind each separator more is read, onto what was read before; the number bounds the turns
abbrev pub repeat_step : {O S : Type 0} → (O → S → ReaderOf S) → (S → ReaderOf S) → S → List Token → ReadOf O → ReadOf S
repeat_step step more s ts None = Some (s, ts)
repeat_step step more s ts (Some found) = and_then (step found.0 s found.1) more

unfoldable pub repeated : {O S : Type 0} → ReaderOf O → (O → S → ReaderOf S) → ℕ → S → ReaderOf S
repeated separator step zero s ts = None
repeated separator step (suc turns) s ts = repeat_step step (repeated separator step turns) s ts (separator ts)

-- the count of tokens is always enough
abbrev pub all_repeated : {O S : Type 0} → ReaderOf O → (O → S → ReaderOf S) → S → ReaderOf S
all_repeated separator step s ts = repeated separator step (suc (length ts)) s ts

-- the answer is what is read, with the tokens that are left, or no more is known than that memory was refused
abbrev pub Reads : {A B : Type 0} → (A → B) → Result A TextRefusal → List Token → ReadOf B → Type 0
Reads view (Ok found) left read = read ≡ Some (view found, left)
Reads view (Err refusal.Syntax) left read = read ≡ None
Reads view (Err (refusal.Limit what)) left read = ⊥
Reads view (Err refusal.Memory) left read = Unit {0}

-- the answer is this, whatever stands behind it
abbrev pub Makes : {A B : Type 0} → (A → B) → Result A TextRefusal → B → Type 0
Makes view result made = (rest : List Token) → Reads view result rest (Some (made, rest))

-- what is read where it stands, else nothing, and all tokens are left
abbrev pub ReadsSome : {A : Type 0} → Option A → List Token → List Token → ReadOf A → Type 0
ReadsSome (Some found) tokens left read = read ≡ Some (found, left)
ReadsSome None tokens left read = (read ≡ None) × (left ≡ tokens)

-- whether it stands here; else all tokens are left
abbrev pub Passes : Bool → List Token → List Token → ReadOf (Unit {0}) → Type 0
Passes true tokens left read = read ≡ Some (tt, left)
Passes false tokens left read = (read ≡ None) × (left ≡ tokens)
