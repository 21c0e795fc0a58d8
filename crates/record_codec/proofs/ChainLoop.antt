-- Items in order that are read one after the other, as a loop does.
use Rattle.std.proofs.Common.{◌≡◌, ℕ, suc, ◌-◌, ◌+◌, ◌<◌, ◌≤◌, List, [], ◌∷◌, ◌++◌, length, Some, Ok, refl, sym, ap, subst, ◌∙◌, arith}
use Rattle.std.specs.List.{slice_get}
use Rattle.std.proofs.lemmas.List.{append-nil}
use Rattle.byte_formats.specs.declared.unread.Unread.{Unread}
use Rattle.byte_formats.specs.declared.unread.Unread.TheVariants.{Left, Memory}
use Rattle.byte_formats.specs.Reading.{◌>>=◌, Read, Fails}
use Rattle.byte_formats.specs.Format.{Format, chain_at}
use Rattle.byte_formats.proofs.Loop.{with_front, with_none, with_one}
use Rattle.catalog_types.specs.declared.program.Program.{Program}
use Rattle.record_codec.specs.Formats.{program_from}
use Rattle.record_codec.specs.Reading.{last_name}

module _ {A S : Type 0} (item : S → Format A) (next : S → A → S) where
  -- what was read, and then what is read behind it from this state on, is all that is read from the first state on
  abbrev pub HasReadTo : ℕ → ℕ → S → S → List A → List ℕ → List ℕ → Type 0
  HasReadTo count index start state front rest bytes = with_front front (chain_at item next (count - index) state rest) ≡ chain_at item next count start bytes

  abbrev behind : ℕ → S → Read A → Read (List A)
  behind n state r = r >>= λ a. chain_at item next n (next state a.0) a.1 >>= λ x. Ok (a.0 ∷ x.0, x.1)

  one_less : (count index : ℕ) → index < count → count - index ≡ suc (count - (index + 1))
  one_less count index lt = omega arith

  pub chain_start : (count : ℕ) (start : S) (bytes : List ℕ) → HasReadTo count 0 start start [] bytes bytes
  chain_start count start bytes = with_none (chain_at item next (count - 0) start bytes) ∙ ap (λ (n : ℕ). chain_at item next n start bytes) (omega arith)

  pub chain_more : (count index : ℕ) (start state : S) (front : List A) (rest : List ℕ) (a : A) (after bytes : List ℕ) → index < count → (item state).read rest ≡ Ok (a, after) → HasReadTo count index start state front rest bytes
      → HasReadTo count (index + 1) start (next state a) (front ++ a ∷ []) after bytes
  chain_more count index start state front rest a after bytes lt e so_far =
      let n = count - (index + 1) in
      let step : chain_at item next (count - index) state rest ≡ behind n state (Ok (a, after)) = ap (λ (m : ℕ). chain_at item next m state rest) (one_less count index lt) ∙ ap (behind n state) e in
      sym (with_one front a (chain_at item next n (next state a) after)) ∙ ap (with_front front) (sym step) ∙ so_far

  pub chain_end : (count index : ℕ) (start state : S) (front : List A) (rest bytes : List ℕ) → count ≤ index → HasReadTo count index start state front rest bytes → chain_at item next count start bytes ≡ Ok (front, rest)
  chain_end count index start state front rest bytes le so_far =
      let none : count - index ≡ 0 = omega arith in
      sym so_far ∙ ap (λ (m : ℕ). with_front front (chain_at item next m state rest)) none ∙ ap (λ (l : List A). Ok (l, rest)) (append-nil front)

  pub chain_fails : (e : Unread) (count index : ℕ) (start state : S) (front : List A) (rest bytes : List ℕ) → index < count → Fails e ((item state).read rest) → HasReadTo count index start state front rest bytes → Fails e (chain_at item next count start bytes)
  chain_fails Memory count index start state front rest bytes lt fails so_far = tt
  chain_fails (Left left) count index start state front rest bytes lt fails so_far =
      let n = count - (index + 1) in
      sym so_far ∙ ap (λ (m : ℕ). with_front front (chain_at item next m state rest)) (one_less count index lt) ∙ ap (λ r. with_front front (behind n state r)) fails

pub last_of_more : (programs : List Program) (p : Program) → last_name (programs ++ p ∷ []) ≡ p.name
last_of_more [] p = refl
last_of_more (q ∷ []) p = refl
last_of_more (q ∷ r ∷ programs) p = last_of_more (r ∷ programs) p

pub last_is : (programs : List Program) (p : Program) → slice_get programs (length programs - 1) ≡ Some p → last_name programs ≡ p.name
last_is [] p e = absurd cc
last_is (q ∷ []) p e = let is : Some q ≡ Some p = e in let same : q ≡ p = cc in ap (λ (x : Program). x.name) same
last_is (q ∷ r ∷ programs) p e =
    last_is (r ∷ programs) p (ap (slice_get (r ∷ programs)) (let n : length (r ∷ programs) - 1 ≡ length programs = omega arith in n) ∙ ap (slice_get (q ∷ r ∷ programs)) (let n : suc (length programs) ≡ length (q ∷ r ∷ programs) - 1 = omega arith in n) ∙ e)

-- ---- programs, each behind the name of the last one

abbrev pub name_of : List ℕ → Program → List ℕ
name_of previous p = p.name

abbrev pub ProgramsRead : ℕ → ℕ → List Program → List ℕ → List ℕ → Type 0
ProgramsRead count index front rest bytes = HasReadTo program_from name_of count index [] (last_name front) front rest bytes

pub programs_more : (count index : ℕ) (front : List Program) (previous rest : List ℕ) (p : Program) (after bytes : List ℕ) → index < count → previous ≡ last_name front → (program_from previous).read rest ≡ Ok (p, after)
    → ProgramsRead count index front rest bytes → ProgramsRead count (index + 1) (front ++ p ∷ []) after bytes
programs_more count index front previous rest p after bytes lt is read so_far =
    subst (λ (state : List ℕ). HasReadTo program_from name_of count (index + 1) [] state (front ++ p ∷ []) after bytes) (sym (last_of_more front p))
    (chain_more program_from name_of count index [] (last_name front) front rest p after bytes lt (subst (λ (state : List ℕ). (program_from state).read rest ≡ Ok (p, after)) is read) so_far)

pub programs_fail : (e : Unread) (count index : ℕ) (front : List Program) (previous rest bytes : List ℕ) → index < count → previous ≡ last_name front → Fails e ((program_from previous).read rest)
    → ProgramsRead count index front rest bytes → Fails e (chain_at program_from name_of count [] bytes)
programs_fail e count index front previous rest bytes lt is fails so_far =
    chain_fails program_from name_of e count index [] (last_name front) front rest bytes lt (subst (λ (state : List ℕ). Fails e ((program_from state).read rest)) is fails) so_far
