-- What is read again and again, behind a separator each time.
use Prim.Native.Nat.{zero, suc}
use Rattle.std.proofs.Common.{◌≡◌, refl, sym, ap, ◌∙◌, subst, ℕ, ◌+◌, ◌<◌, ◌≤◌, ◌-◌, List, length, Some, None, Err, arith}
use Rattle.plan_text.specs.declared.token.Token.{Token}
use Rattle.plan_text.specs.declared.text_refusal.TextRefusal.{TextRefusal}
use Rattle.plan_text.specs.declared.text_refusal.TextRefusal.TheVariants as refusal
use Rattle.plan_text.specs.Reader.{ReadOf, ReaderOf, Reads, Makes, and_then, repeat_step, repeated, all_repeated}
use Rattle.plan_text.proofs.TokenLemmas.{both}

-- what was read first, and what then
pub then_some : {A B : Type 0} (read : ReadOf A) (next : A → ReaderOf B) (y : B × List Token) → and_then read next ≡ Some y → (x : A) × (ts : List Token) × (read ≡ Some (x, ts)) × (next x ts ≡ Some y)
then_some None next y q = absurd (cc q)
then_some (Some x) next y q = (x.0, x.1, refl, q)

-- what was made of what was read
pub made_some : {A B : Type 0} (read : ReadOf A) (make : A → B) (y : B) (rest : List Token) → and_then read (λ x behind. Some (make x, behind)) ≡ Some (y, rest) → (x : A) × (read ≡ Some (x, rest)) × (y ≡ make x)
made_some None make y rest q = absurd (cc q)
made_some (Some x) make y rest q = let p = both (make x.0) y x.1 rest q in (x.0, ap (λ r. Some (x.0, r)) p.1, sym p.0)

module _ {O S : Type 0} (separator : ReaderOf O) (step : O → S → ReaderOf S) where
  module _ (turns : ℕ) (s : S) (rest : List Token) where
    -- with no turn left nothing is read
    pub no_turn : turns ≡ 0 → repeated separator step turns s rest ≡ None
    unfolding repeated
    no_turn e = ap (λ n. repeated separator step n s rest) e

    turn : 0 < turns → repeated separator step turns s rest ≡ repeat_step step (repeated separator step (turns - 1)) s rest (separator rest)
    unfolding repeated
    turn some = by turns some
      where
        by : (n : ℕ) → 0 < n → repeated separator step n s rest ≡ repeat_step step (repeated separator step (n - 1)) s rest (separator rest)
        by zero less = absurd (omega (arith, less))
        by (suc k) less = let same : suc k - 1 ≡ k = omega arith in ap (λ j. repeat_step step (repeated separator step j) s rest (separator rest)) (sym same)

    pub turn_end : 0 < turns → separator rest ≡ None → repeated separator step turns s rest ≡ Some (s, rest)
    turn_end some none = turn some ∙ ap (λ o. repeat_step step (repeated separator step (turns - 1)) s rest o) none

    module _ (o : O) (behind : List Token) (some : 0 < turns) (found : separator rest ≡ Some (o, behind)) where
      at_step : repeated separator step turns s rest ≡ and_then (step o s behind) (repeated separator step (turns - 1))
      at_step = turn some ∙ ap (λ o. repeat_step step (repeated separator step (turns - 1)) s rest o) found

      pub turn_next : (next : S) (after : List Token) → step o s behind ≡ Some (next, after) → repeated separator step turns s rest ≡ repeated separator step (turns - 1) next after
      turn_next next after read = at_step ∙ ap (λ r. and_then r (repeated separator step (turns - 1))) read

      pub turn_fail : step o s behind ≡ None → repeated separator step turns s rest ≡ None
      turn_fail read = at_step ∙ ap (λ r. and_then r (repeated separator step (turns - 1))) read

-- a loop that has had some of its turns: what is read in all is what is read in the turns that are left
module _ {O S : Type 0} (separator : ReaderOf O) (step : O → S → ReaderOf S) where
  pub first_turn : (first : ReadOf S) (s : S) (rest : List Token) (turns : ℕ) → first ≡ Some (s, rest) → turns ≡ length rest + 1
      → and_then first (all_repeated separator step) ≡ repeated separator step (turns - 0) s rest
  first_turn first s rest turns read e =
      let all : suc (length rest) ≡ turns - 0 = omega (arith, e) in
      ap (λ r. and_then r (all_repeated separator step)) read ∙ ap (λ n. repeated separator step n s rest) all

  module _ (whole : ReadOf S) (turns had : ℕ) (s : S) (rest : List Token) (l : whole ≡ repeated separator step (turns - had) s rest) where
    pub out_of_turns : turns ≤ had → whole ≡ None
    out_of_turns e = l ∙ no_turn separator step (turns - had) s rest (omega (arith, e))

    module _ (less : had < turns) where
      pub ends : separator rest ≡ None → whole ≡ Some (s, rest)
      ends none = l ∙ turn_end separator step (turns - had) s rest (omega (arith, less)) none

      module _ (o : O) (behind : List Token) (found : separator rest ≡ Some (o, behind)) where
        pub goes_on : (next : S) (after : List Token) → step o s behind ≡ Some (next, after) → whole ≡ repeated separator step (turns - (had + 1)) next after
        goes_on next after read =
            let same : turns - had - 1 ≡ turns - (had + 1) = omega (arith, less) in
            l ∙ turn_next separator step (turns - had) s rest o behind (omega (arith, less)) found next after read ∙ ap (λ n. repeated separator step n next after) same

        pub fails : step o s behind ≡ None → whole ≡ None
        fails read = l ∙ turn_fail separator step (turns - had) s rest o behind (omega (arith, less)) found read

-- what was read up to a rest, with turns enough for what is left of it
pub record Repeats {O S : Type 0} (separator : ReaderOf O) (step : O → S → ReaderOf S) (whole : ReadOf S) (s : S) (rest : List Token) : Type 0 where
  pub turns : ℕ
  pub enough : length rest < turns
  pub reads : whole ≡ repeated separator step turns s rest

module _ {O S : Type 0} (separator : ReaderOf O) (step : O → S → ReaderOf S) where
  pub Repeats-start : (whole : ReadOf S) (s : S) (rest : List Token) → whole ≡ all_repeated separator step s rest → Repeats separator step whole s rest
  Repeats-start whole s rest e = record { turns = suc (length rest); enough = omega arith; reads = e }

  pub Repeats-first : (first : ReadOf S) (s : S) (rest : List Token) → first ≡ Some (s, rest) → Repeats separator step (and_then first (all_repeated separator step)) s rest
  Repeats-first first s rest e = Repeats-start (and_then first (all_repeated separator step)) s rest (ap (λ r. and_then r (all_repeated separator step)) e)

  module _ (whole : ReadOf S) (s : S) (rest : List Token) (l : Repeats separator step whole s rest) where
    pub Repeats-end : separator rest ≡ None → whole ≡ Some (s, rest)
    Repeats-end none = let enough = l.enough in l.reads ∙ turn_end separator step l.turns s rest (omega (arith, enough)) none

    pub Repeats-next : (o : O) (behind : List Token) → separator rest ≡ Some (o, behind) → (next : S) (after : List Token) → step o s behind ≡ Some (next, after) → length after < length rest → Repeats separator step whole next after
    Repeats-next o behind found next after read less =
        let enough = l.enough in
        record {
          turns = l.turns - 1;
          enough = omega (arith, less, enough);
          reads = l.reads ∙ turn_next separator step l.turns s rest o behind (omega (arith, enough)) found next after read;
        }

  -- what each turn keeps holds of what was read in all
  module _ (Kept : S → List Token → Type 0) (keeps : (s : S) (ts : List Token) (o : O) (behind : List Token) (t : S) (after : List Token) → Kept s ts → separator ts ≡ Some (o, behind) → step o s behind ≡ Some (t, after) → Kept t after) where
    pub repeated_keeps : (turns : ℕ) (s : S) (ts : List Token) (t : S) (rest : List Token) → Kept s ts → repeated separator step turns s ts ≡ Some (t, rest) → Kept t rest
    unfolding repeated
    repeated_keeps zero s ts t rest k q = absurd (cc q)
    repeated_keeps (suc n) s ts t rest k q = by (separator ts) refl q (repeated_keeps n)
      where
        by : (o : ReadOf O) → separator ts ≡ o → repeat_step step (repeated separator step n) s ts o ≡ Some (t, rest)
            → ((s : S) (ts : List Token) (t : S) (rest : List Token) → Kept s ts → repeated separator step n s ts ≡ Some (t, rest) → Kept t rest)
            → Kept t rest
        by None e q again = let p = both s t ts rest q in subst (λ t. Kept t rest) p.0 (subst (λ r. Kept s r) p.1 k)
        by (Some x) e q again =
            let read = then_some (step x.0 s x.1) (repeated separator step n) (t, rest) q in
            again read.0 read.1 t rest (keeps s ts x.0 x.1 read.0 read.1 k e read.2) read.3

-- where one reading fails, another does
pub Reads-fail : {A B C D : Type 0} (e : TextRefusal) (view : A → B) (other_view : C → D) (left other_left : List Token) (one : ReadOf B) (other : ReadOf D) → (one ≡ None → other ≡ None) → Reads view (Err e) left one → Reads other_view (Err e) other_left other
Reads-fail refusal.Syntax view other_view left other_left one other fails r = fails r
Reads-fail (refusal.Limit what) view other_view left other_left one other fails r = r
Reads-fail refusal.Memory view other_view left other_left one other fails r = tt

-- where what was read could not be made into one, no more is known
pub not_made : {A B C D : Type 0} (e : TextRefusal) (view : A → B) (other_view : C → D) (left : List Token) (made : B) (whole : ReadOf D) → Makes view (Err e) made → Reads other_view (Err e) left whole
not_made e view other_view left made whole m = Reads-fail e view other_view left left (Some (made, left)) whole (λ none. absurd (cc none)) (m left)
