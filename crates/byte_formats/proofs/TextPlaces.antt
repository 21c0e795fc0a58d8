-- Where a text stops.
use Rattle.std.proofs.Common.{◌≡◌, ℕ, zero, suc, ◌-◌, ◌<◌, ◌≤◌, ◌⊎◌, ◌^◌, Bool, true, false, cond, ltb, List, [], ◌∷◌, ◌++◌, length, take, drop, Option, Some, None, Result, Ok, Err, refl, sym, ap, subst, ◌∙◌, append_assoc, arith, inl, inr}
use Rattle.std.specs.Int.{w32, to_be_bytes}
use Rattle.std.proofs.lemmas.Bool.{ltb-true, lt-ltb, le-ltb, both_ways, cases_lt, cond-true, cond-false}
use Rattle.rows_core.specs.Txt.{IsTxt}
use Rattle.byte_formats.specs.declared.text.Followers.{Followers}
use Rattle.byte_formats.specs.Reading.{bounded_at, any_following, followers_of, followers_after, left_in_text, or_else, is_text, text_at}
use Rattle.byte_formats.proofs.Readers.{IsBytes, IsReader, HasFront}
use Rattle.byte_formats.specs.Format.{text_spelling}
use Rattle.byte_formats.proofs.Fields.{wide32, IsBetween, bounded_reader}
use Rattle.byte_formats.proofs.Texts.{is_text-true}
use Rattle.byte_formats.proofs.Same.{Same}
use Rattle.byte_formats.proofs.Stopping.{GoesTo, IsExact, bind_err, goes_longer, behind_within, behind_left_goes, behind_left_stops}
use Rattle.byte_formats.proofs.Ranges.{big32, bounded_exact}
use Rattle.byte_formats.proofs.Characters.{Accepts, some_is, after_start, after_more, after_goes, after_valid, sound, complete}

option_cases : {A : Type 0} (o : Option A) → (o ≡ None) ⊎ ((x : A) × (o ≡ Some x))
option_cases None = inl refl
option_cases (Some x) = inr (x, refl)

space : followers_of 32 ≡ Some (any_following 0)
unfolding followers_of
space = refl

-- so many bytes that end between characters
record Filled (e : Followers) (room : ℕ) : Type 0 where
  pub text : List ℕ
  pub len : length text ≡ room
  pub taken : Accepts e text

fill : (room : ℕ) (e : Followers) → e.count ≤ room → e.least ≤ e.greatest → Filled e room
fill zero e fits valid = record { text = []; len = refl; taken = omega arith }
fill (suc room) e fits valid = elim (cases_lt 0 e.count) [
  | inl more ↦
      let t = fill room (any_following (e.count - 1)) (omega arith) (omega arith) in
      record { text = e.least ∷ t.text; len = ap suc t.len; taken = (any_following (e.count - 1), after_goes e e.least more (omega arith) valid, t.taken) }
  | inr none ↦
      let t = fill room (any_following 0) (omega arith) (omega arith) in
      record { text = 32 ∷ t.text; len = ap suc t.len; taken = (any_following 0, after_start e 32 (omega arith) ∙ space, t.taken) }
]

-- what is left at a byte, by what may follow it
abbrev at_byte : Option Followers → ℕ → List ℕ → ℕ
at_byte o room bs = or_else o (suc (length bs)) (λ next. cond (ltb room next.count) (suc (length bs)) (left_in_text next room bs))

record Step (e : Followers) (room b : ℕ) (bs : List ℕ) : Type 0 where
  pub next : Followers
  pub is : followers_after e b ≡ Some next
  pub fits : next.count ≤ room
  pub left : left_in_text e (suc room) (b ∷ bs) ≡ left_in_text next room bs

-- a byte goes on, or stops
step : (e : Followers) (room b : ℕ) (bs : List ℕ)
    → Step e room b bs ⊎ ((left_in_text e (suc room) (b ∷ bs) ≡ suc (length bs)) × ((f : Followers) → followers_after e b ≡ Some f → room < f.count))
unfolding left_in_text
step e room b bs = elim (option_cases (followers_after e b)) [
  | inl none ↦ inr (ap (λ o. at_byte o room bs) none, λ f is. absurd (let clash = sym none ∙ is in cc))
  | inr some ↦
      let next = some.0 in
      let there = ap (λ o. at_byte o room bs) some.1 in
      elim (cases_lt room next.count) [
        | inl lt ↦ inr (there ∙ cond-true _ _ _ (lt-ltb room next.count lt), λ f is. let same : next ≡ f = some_is next f (sym some.1 ∙ is) in subst (λ (g : Followers). room < g.count) same lt)
        | inr ge ↦ inl (record { next = next; is = some.1; fits = ge; left = there ∙ cond-false _ _ _ (le-ltb room next.count ge) })
      ]
]

no_bytes : (e : Followers) (room : ℕ) → left_in_text e room [] ≡ 0
unfolding left_in_text
no_bytes e room = refl

no_room : (e : Followers) (b : ℕ) (bs : List ℕ) → left_in_text e 0 (b ∷ bs) ≡ 0
unfolding left_in_text
no_room e b bs = refl

text_within : (bytes : List ℕ) (e : Followers) (room : ℕ) → left_in_text e room bytes ≤ length bytes
text_within [] e room = let k = no_bytes e room in omega arith
text_within (b ∷ bs) e zero = let k = no_room e b bs in omega arith
text_within (b ∷ bs) e (suc room) = elim (step e room b bs) [
  | inl s ↦ let ih = text_within bs s.next room in let k = s.left in omega arith
  | inr s ↦ let k = s.0 in omega arith
]

record TextGoes (e : Followers) (room : ℕ) (bytes : List ℕ) : Type 0 where
  pub text : List ℕ
  pub len : length text ≡ room
  pub taken : Accepts e text
  pub same : Same (length bytes - left_in_text e room bytes) text bytes

filled_goes : (e : Followers) (room : ℕ) (bytes : List ℕ) → e.count ≤ room → e.least ≤ e.greatest → left_in_text e room bytes ≡ length bytes → TextGoes e room bytes
filled_goes e room bytes fits valid is =
    let t = fill room e fits valid in
    let k : length bytes - left_in_text e room bytes ≡ 0 = omega arith in
    record { text = t.text; len = t.len; taken = t.taken; same = subst (λ (n : ℕ). Same n t.text bytes) (sym k) refl }

text_goes : (bytes : List ℕ) (e : Followers) (room : ℕ) → e.count ≤ room → e.least ≤ e.greatest → (room ≤ length bytes → Accepts e (take room bytes) → ⊥) → TextGoes e room bytes
text_goes [] e room fits valid refused = filled_goes e room [] fits valid (no_bytes e room)
text_goes (b ∷ bs) e zero fits valid refused = absurd (refused (omega arith) (let z : e.count ≡ 0 = omega arith in z))
text_goes (b ∷ bs) e (suc room) fits valid refused = elim (step e room b bs) [
  | inl s ↦
      let ih = text_goes bs s.next room s.fits (after_valid e b s.next s.is) (λ le taken. refused (omega arith) (s.next, s.is, taken)) in
      let within = text_within bs s.next room in
      let k : suc (length bs - left_in_text s.next room bs) ≡ length (b ∷ bs) - left_in_text e (suc room) (b ∷ bs) = let l = s.left in omega arith in
      record {
        text = b ∷ ih.text;
        len = ap suc ih.len;
        taken = (s.next, s.is, ih.taken);
        same = subst (λ (n : ℕ). Same n (b ∷ ih.text) (b ∷ bs)) k (ap (λ (l : List ℕ). b ∷ l) ih.same);
      }
  | inr s ↦ filled_goes e (suc room) (b ∷ bs) fits valid s.0
]

-- what is due fits in what is taken
due_fits : (e : Followers) (t : List ℕ) → Accepts e t → e.count ≤ length t
due_fits e [] a = omega (arith, a)
due_fits e (b ∷ bs) a = elim (cases_lt 0 e.count) [
  | inl more ↦
      let m = after_more e b a.0 more a.1 in
      let ih : (any_following (e.count - 1)).count ≤ length bs = due_fits (any_following (e.count - 1)) bs (subst (λ (f : Followers). Accepts f bs) m.2 a.2) in
      omega arith
  | inr none ↦ omega arith
]

pub text_stops : (bytes : List ℕ) (e : Followers) (room left : ℕ) (t r : List ℕ) → left_in_text e room bytes ≡ suc left → length t ≡ room → Accepts e t → Same (length bytes - left) (t ++ r) bytes → ⊥
text_stops [] e room left t r is len taken same = let k = no_bytes e room in omega arith
text_stops (b ∷ bs) e zero left t r is len taken same = let k = no_room e b bs in omega arith
text_stops (b ∷ bs) e (suc room) left [] r is len taken same = omega arith
text_stops (b ∷ bs) e (suc room) left (c ∷ t) r is len taken same =
    let within = text_within (b ∷ bs) e (suc room) in
    let k : length (b ∷ bs) - left ≡ suc (length bs - left) = omega arith in
    let both : Same (suc (length bs - left)) (c ∷ (t ++ r)) (b ∷ bs) = subst (λ (n : ℕ). Same n (c ∷ (t ++ r)) (b ∷ bs)) k same in
    let first : c ≡ b = cc in
    let rest : Same (length bs - left) (t ++ r) bs = cc in
    let len2 : length t ≡ room = omega arith in
    let is2 : followers_after e b ≡ Some taken.0 = ap (λ (x : ℕ). followers_after e x) (sym first) ∙ taken.1 in
    elim (step e room b bs) [
      | inl s ↦
          let same_next : taken.0 ≡ s.next = some_is taken.0 s.next (sym is2 ∙ s.is) in
          text_stops bs s.next room left t r (sym s.left ∙ is) len2 (subst (λ (f : Followers). Accepts f t) same_next taken.2) rest
      | inr s ↦ let lt = s.1 taken.0 is2 in let le = due_fits taken.0 t taken.2 in omega arith
    ]

-- ---- the text behind its length

lengths : IsReader (bounded_at w32 0 1000) (to_be_bytes w32) (IsBetween 0 1000)
lengths = bounded_reader w32 (2 ^ 32) wide32 0 1000 (omega arith)

lengths_exact : IsExact (bounded_at w32 0 1000) (to_be_bytes w32) (IsBetween 0 1000)
lengths_exact = bounded_exact w32 (2 ^ 32) wide32 big32 0 1000 (omega arith) (omega arith)

cond_err : {A : Type 0} (s t : Bool) (ok : A) (l left : ℕ) → cond s (Err l) (cond t (Ok ok) (Err l)) ≡ Err left → (l ≡ left) × ((s ≡ true) ⊎ (t ≡ false))
cond_err true t ok l left e = (cc, inl refl)
cond_err false true ok l left e = absurd cc
cond_err false false ok l left e = (cc, inr refl)

abbrev text_of : ℕ × List ℕ → Result (List ℕ × List ℕ) ℕ
text_of n = cond (ltb (length n.1) n.0) (Err (left_in_text (any_following 0) n.0 n.1)) (cond (is_text (take n.0 n.1)) (Ok (take n.0 n.1, drop n.0 n.1)) (Err (left_in_text (any_following 0) n.0 n.1)))

refusal : (n : ℕ) (rest : List ℕ) (left : ℕ) → text_of (n, rest) ≡ Err left → (left_in_text (any_following 0) n rest ≡ left) × (n ≤ length rest → Accepts (any_following 0) (take n rest) → ⊥)
refusal n rest left e =
    let p = cond_err (ltb (length rest) n) (is_text (take n rest)) (take n rest, drop n rest) (left_in_text (any_following 0) n rest) left e in (
      p.0,
      λ le taken. elim p.1 [
        | inl short ↦ let lt = ltb-true (length rest) n short in omega arith
        | inr other ↦ both_ways (is_text (take n rest)) other (is_text-true (take n rest) (sound (take n rest) taken))
      ],
    )

longer_goes : (bytes : List ℕ) (left : ℕ) → IsBytes bytes → bounded_at w32 0 1000 bytes ≡ Err left → GoesTo text_spelling IsTxt bytes left
longer_goes bytes left fits e =
    let g = lengths_exact.goes bytes left fits e in
    let t = fill g.item (any_following 0) (omega arith) (omega arith) in
    let small = g.fits.1 in
    record {
      within = g.within;
      item = t.text;
      fits = (sound t.text t.taken, omega (arith, t.len));
      same = subst (λ (n : ℕ). Same (length bytes - left) (to_be_bytes w32 n ++ t.text) bytes) (sym t.len) (goes_longer (bounded_at w32 0 1000) (to_be_bytes w32) (IsBetween 0 1000) lengths bytes left e g t.text);
    }

inner_goes : (bytes : List ℕ) (left : ℕ) (n : ℕ × List ℕ) → HasFront (to_be_bytes w32) (IsBetween 0 1000) bytes n → text_of n ≡ Err left → GoesTo text_spelling IsTxt bytes left
inner_goes bytes left n t e =
    let r = refusal n.0 n.1 left e in
    let g = text_goes n.1 (any_following 0) n.0 (omega arith) (omega arith) r.1 in
    let within = text_within n.1 (any_following 0) n.0 in
    let same : Same (length n.1 - left) g.text n.1 = subst (λ (m : ℕ). Same (length n.1 - m) g.text n.1) r.0 g.same in
    let small = t.fits.1 in
    record {
      within = behind_within (bounded_at w32 0 1000) (to_be_bytes w32) (IsBetween 0 1000) lengths bytes n t left (omega (arith, r.0));
      item = g.text;
      fits = (sound g.text g.taken, omega (arith, g.len));
      same = subst (λ (m : ℕ). Same (length bytes - left) (to_be_bytes w32 m ++ g.text) bytes) (sym g.len) (behind_left_goes (bounded_at w32 0 1000) (to_be_bytes w32) (IsBetween 0 1000) lengths bytes n t left g.text same);
    }

whole_goes : (bytes : List ℕ) (left : ℕ) → IsBytes bytes → text_at bytes ≡ Err left → GoesTo text_spelling IsTxt bytes left
unfolding text_at
whole_goes bytes left fits e = elim (bind_err (bounded_at w32 0 1000 bytes) text_of left e) [
  | inl h ↦ longer_goes bytes left fits h
  | inr h ↦ inner_goes bytes left h.0 (lengths.takes bytes h.0 fits h.1) h.2
]

whole_stops : (bytes : List ℕ) (left : ℕ) (t r : List ℕ) → IsBytes bytes → text_at bytes ≡ Err (suc left) → IsTxt t → Same (length bytes - left) (text_spelling t ++ r) bytes → ⊥
unfolding text_at
whole_stops bytes left t r fits e txt same =
    let regrouped : Same (length bytes - left) (to_be_bytes w32 (length t) ++ (t ++ r)) bytes = subst (λ (l : List ℕ). Same (length bytes - left) l bytes) (append_assoc (to_be_bytes w32 (length t)) t r) same in
    let len_fits : IsBetween 0 1000 (length t) = (omega arith, txt.1) in
    elim (bind_err (bounded_at w32 0 1000 bytes) text_of (suc left) e) [
      | inl h ↦ lengths_exact.stops bytes left (length t) (t ++ r) fits h len_fits regrouped
      | inr h ↦
          let n = h.0 in
          let taken = lengths.takes bytes n fits h.1 in
          let q = refusal n.0 n.1 (suc left) h.2 in
          let within = text_within n.1 (any_following 0) n.0 in
          let le : left ≤ length n.1 = omega (arith, q.0) in
          let b = behind_left_stops (bounded_at w32 0 1000) (to_be_bytes w32) (IsBetween 0 1000) lengths bytes n taken left (length t) (t ++ r) len_fits le regrouped in
          text_stops n.1 (any_following 0) n.0 left t r q.0 b.0 (complete t txt.0) b.1
    ]

pub text_exact : IsExact text_at text_spelling IsTxt
text_exact =
    let t = fill 0 (any_following 0) (omega arith) (omega arith) in
    record { some = t.text; some_fits = (sound t.text t.taken, omega (arith, t.len)); goes = whole_goes; stops = whole_stops }
