-- A reader that reads what is spelled, and what it says of whole texts.
use Prim.Native.Nat.{suc}
use Rattle.std.proofs.Common.{◌≡◌, refl, sym, ap, ◌∙◌, subst, ◌↔◌, ℕ, true, false, List, [], ◌∷◌, length, Option, None, Some, Result, Ok, Err, IfOk, arith}
use Rattle.std.proofs.lemmas.Bool.Decides.{nat_tests}
use Rattle.plan_text.specs.declared.token.Token.{Token}
use Rattle.plan_text.specs.declared.limit.PlanLimit.{PlanLimit}
use Rattle.plan_text.specs.Token.{AreTokens}
use Rattle.plan_text.specs.TextTokens.{tokens_in}
use Rattle.plan_text.proofs.TextTokenLaws.{tokens_are, tokens_in-some, tokens_in-none}
use Rattle.plan_text.proofs.TokenLemmas.{both}
use Rattle.plan_text.specs.declared.counts.Counts.{Counts}
use Rattle.plan_text.specs.declared.draft.Draft.{Draft}
use Rattle.plan_text.specs.declared.text_refusal.TextRefusal.{TextRefusal}
use Rattle.plan_text.specs.declared.text_refusal.TextRefusal.TheVariants as refusal
use Rattle.plan_text.specs.Draft.{limits, capped, are_within, first_above, drafted}
use Rattle.plan_text.specs.Reader.{ReadOf, ReaderOf}
use Rattle.plan_text.specs.Answer.{WholeReading, AsPlan, AsTooLarge, AsNone, part_reading, whole_reading, tokens_reading, Means}
use Rattle.plan_text.proofs.DraftLemmas.{one_part}

-- what is read at the front of tokens is spelled there, and what is spelled up to an end is read
pub record ReadsSpelled {A : Type 0} (counts_of : A → Counts) (Spells : A → List Token → List Token → Type 0) (Ends : List Token → Type 0) (reader : Counts → ReaderOf (Draft A)) : Type 0 where
  pub sound : (most : Counts) (from rest : List Token) (d : Draft A) → reader most from ≡ Some (d, rest) → (x : A) × (d ≡ drafted most x (counts_of x)) × Spells x from rest
  pub complete : (most : Counts) (x : A) (from rest : List Token) → Ends rest → Spells x from rest → reader most from ≡ Some (drafted most x (counts_of x), rest)

within_itself : (c : Counts) → are_within c c ≡ true
within_itself c = grind (arith, nat_tests)

-- tokens spell one part, up to one place
pub one_spelled : {A : Type 0} {counts_of : A → Counts} {Spells : A → List Token → List Token → Type 0} {Ends : List Token → Type 0} {reader : Counts → ReaderOf (Draft A)} → ReadsSpelled counts_of Spells Ends reader
    → (a b : A) (from rest other : List Token) → Ends rest → Ends other → Spells a from rest → Spells b from other → (a ≡ b) × (rest ≡ other)
one_spelled {counts_of = counts_of} r a b from rest other behind beyond s t =
    let most = counts_of a in
    let e = both (drafted most a most) (drafted most b (counts_of b)) rest other (sym (r.complete most a from rest behind s) ∙ r.complete most b from other beyond t) in
    (one_part most most (counts_of b) a b (within_itself most) e.0, e.1)

-- the counts pass this limit, and none before it
abbrev pub IsPassed : PlanLimit → Counts → Type 0
IsPassed what c = (are_within limits c ≡ false) × (first_above (capped limits c) ≡ what)

-- and texts, with what is said of their parts
pub record ReadsTexts {A : Type 0} (counts_of : A → Counts) (Spells : A → List Token → List Token → Type 0) (Ends : List Token → Type 0) (reader : Counts → ReaderOf (Draft A)) (InText : A → List ℕ → Type 0) (Within : A → Type 0) (Passes : PlanLimit → A → Type 0) : Type 0 where
  pub reads : ReadsSpelled counts_of Spells Ends reader
  pub ends : Ends []
  pub opened : (x : A) (text : List ℕ) → InText x text → (tokens : List Token) × AreTokens tokens text × Spells x tokens []
  pub closed : (x : A) (text : List ℕ) → (tokens : List Token) × AreTokens tokens text × Spells x tokens [] → InText x text
  pub within : (x : A) → (are_within limits (counts_of x) ≡ true) ↔ Within x
  pub passes : (what : PlanLimit) (x : A) → IsPassed what (counts_of x) ↔ Passes what x

abbrev reading_of : {A : Type 0} → A → Counts → WholeReading A
reading_of x c = let d = drafted limits x c in part_reading d.counts d.part

module _ {A : Type 0} (x y : A) (c : Counts) where
  is_plan : reading_of x c ≡ AsPlan y → (x ≡ y) × (are_within limits c ≡ true)
  is_plan e = (grind (arith, nat_tests, e), grind (arith, nat_tests, e))

  is_large : (what : PlanLimit) → reading_of x c ≡ AsTooLarge what → IsPassed what c
  is_large what e = (grind (arith, nat_tests, e), grind (arith, nat_tests, e))

  plan_is : are_within limits c ≡ true → reading_of x c ≡ AsPlan x
  plan_is e = grind (arith, nat_tests, e)

  large_is : (what : PlanLimit) → IsPassed what c → reading_of x c ≡ AsTooLarge what
  large_is what s = let many = s.0 in let first = s.1 in grind (arith, nat_tests, many, first)

  not_none : reading_of x c ≡ AsNone → ⊥
  not_none e = grind (arith, nat_tests, e)

module _ {A : Type 0} {counts_of : A → Counts} {Spells : A → List Token → List Token → Type 0} {Ends : List Token → Type 0} {reader : Counts → ReaderOf (Draft A)} {InText : A → List ℕ → Type 0} {Within : A → Type 0} {Passes : PlanLimit → A → Type 0} (texts : ReadsTexts counts_of Spells Ends reader InText Within Passes) (text : List ℕ) where
  abbrev reading : WholeReading A
  reading = tokens_reading (reader limits) (tokens_in text)

  spelled_reading : (x : A) → InText x text → reading ≡ reading_of x (counts_of x)
  spelled_reading x s =
      let o = texts.opened x text s in
      ap (tokens_reading (reader limits)) (tokens_in-some text o.0 o.1) ∙ ap whole_reading (texts.reads.complete limits x o.0 [] texts.ends o.2)

  -- where something was read the text spells it
  read_spelled : (w : WholeReading A) → reading ≡ w → (w ≡ AsNone → ⊥) → (x : A) × InText x text × (reading_of x (counts_of x) ≡ w)
  read_spelled w e some = by (tokens_in text) refl e
    where
      of_tokens : (tokens : List Token) → AreTokens tokens text → (o : ReadOf (Draft A)) → reader limits tokens ≡ o → whole_reading o ≡ w → (x : A) × InText x text × (reading_of x (counts_of x) ≡ w)
      of_tokens tokens are None q e = absurd (some (sym e))
      of_tokens tokens are (Some (d, [])) q e =
          let s = texts.reads.sound limits tokens [] d q in
          (s.0, texts.closed s.0 text (tokens, are, s.2), ap (λ d. part_reading d.counts d.part) (sym s.1) ∙ e)
      of_tokens tokens are (Some (d, t ∷ ts)) q e = absurd (some (sym e))

      by : (o : Option (List Token)) → tokens_in text ≡ o → tokens_reading (reader limits) o ≡ w → (x : A) × InText x text × (reading_of x (counts_of x) ≡ w)
      by None q e = absurd (some (sym e))
      by (Some tokens) q e = of_tokens tokens (tokens_are (suc (length text)) text tokens q) (reader limits tokens) refl e

  -- a text spells one part
  pub one_in_text : (a b : A) → InText a text → InText b text → a ≡ b
  one_in_text a b s t =
      let o = texts.opened a text s in
      let p = texts.opened b text t in
      let lists : ◌≡◌ {A = Option (List Token)} (Some o.0) (Some p.0) = sym (tokens_in-some text o.0 o.1) ∙ tokens_in-some text p.0 p.1 in
      let same : o.0 ≡ p.0 = cc lists in
      (one_spelled texts.reads a b p.0 [] [] texts.ends texts.ends (subst (λ ts. Spells a ts []) same o.2) p.2).0

  pub reading_plan : (x : A) → reading ≡ AsPlan x → InText x text × Within x
  reading_plan x e =
      let s = read_spelled (AsPlan x) e (λ none. cc none) in
      let p = is_plan s.0 x (counts_of s.0) s.2 in
      subst (λ y. InText y text × Within y) p.0 (s.1, (texts.within s.0).0 p.1)

  pub plan_reading : (x : A) → InText x text × Within x → reading ≡ AsPlan x
  plan_reading x s = spelled_reading x s.0 ∙ plan_is x x (counts_of x) ((texts.within x).1 s.1)

  pub reading_large : (what : PlanLimit) → reading ≡ AsTooLarge what → (x : A) × InText x text × Passes what x
  reading_large what e =
      let s = read_spelled (AsTooLarge what) e (λ none. cc none) in
      (s.0, s.1, (texts.passes what s.0).0 (is_large s.0 s.0 (counts_of s.0) what s.2))

  pub large_reading : (what : PlanLimit) → ((x : A) × InText x text × Passes what x) → reading ≡ AsTooLarge what
  large_reading what s = spelled_reading s.0 s.1 ∙ large_is s.0 s.0 (counts_of s.0) what ((texts.passes what s.0).1 s.2)

  pub reading_none : reading ≡ AsNone → (x : A) → InText x text → ⊥
  reading_none e x s = not_none x x (counts_of x) (sym (spelled_reading x s) ∙ e)

  pub none_reading : ((x : A) → InText x text → ⊥) → reading ≡ AsNone
  none_reading none = by reading refl
    where
      by : (w : WholeReading A) → reading ≡ w → reading ≡ AsNone
      by AsNone e = e
      by (AsPlan x) e = absurd (none x (reading_plan x e).0)
      by (AsTooLarge what) e = let s = reading_large what e in absurd (none s.0 s.1)

  -- what an answer says of the text
  module _ {B : Type 0} (view : B → A) where
    pub answer_plan : (r : Result B TextRefusal) → Means view r reading → IfOk r (λ b. InText (view b) text × Within (view b))
    answer_plan (Ok b) m = reading_plan (view b) m
    answer_plan (Err e) m = tt

    pub answer_none : (r : Result B TextRefusal) → Means view r reading → r ≡ Err refusal.Syntax → (x : A) → InText x text → ⊥
    answer_none r m is = reading_none (subst (λ r. Means view r reading) is m)

    pub answer_large : (r : Result B TextRefusal) → Means view r reading → (what : PlanLimit) → r ≡ Err (refusal.Limit what) → (x : A) × InText x text × Passes what x
    answer_large r m what is = reading_large what (subst (λ r. Means view r reading) is m)

-- an answer to the tokens of a text is one to the text
pub means_some : {A B : Type 0} (view : A → B) (reader : ReaderOf (Draft B)) (text : List ℕ) (tokens slice : List Token) → AreTokens tokens text → slice ≡ tokens → (r : Result A TextRefusal) → Means view r (whole_reading (reader slice)) → Means view r (tokens_reading reader (tokens_in text))
means_some view reader text tokens slice are same r m =
    subst (Means view r) (sym (ap (tokens_reading reader) (tokens_in-some text tokens are))) (subst (λ ts. Means view r (whole_reading (reader ts))) same m)

pub none_means : {A : Type 0} (reader : ReaderOf (Draft A)) (text : List ℕ) → ((tokens : List Token) → AreTokens tokens text → ⊥) → tokens_reading reader (tokens_in text) ≡ AsNone
none_means reader text none = ap (tokens_reading reader) (tokens_in-none text none)
