-- Each state of a file is sound, and each outcome after a call is one before it after the call's step.
use Rattle.std.proofs.Common.{◌≡◌, ◌≢◌, inl, inr, ℕ, ◌+◌, ◌≤◌, max, Bool, true, false, ◌&&◌, ◌||◌, List, [], ◌∷◌, Option, Some, IsTrue, length, take, map, refl, sym, ap, ◌∙◌, subst, arith, length-take}
use Rattle.std.specs.Prelude.{◌==◌, nat_le, find, unwrap_or, cond}
use Rattle.std.specs.List.{list_all}
use Rattle.std.proofs.lemmas.Bool.Decides.{nat_tests}
use Rattle.std.proofs.lemmas.Bool.{cases_Bool, cases_eq, false≢true}
use Rattle.outside_traits.specs.Calls.{Torn, Shortened, Gone, overlaid}
use Rattle.outside_traits.proofs.ByteLemmas.{torn_same, torn_done, shortened_same, length-overlaid}
use Rattle.mem_outside.specs.Shown.{Shown, Loose}
use Rattle.mem_outside.specs.Outcomes.{fits, allows, AnyAllows, Outcome, freed, absent, written, shortened, synced, removed, kept, state_in, with_file, is_sound}
use Rattle.mem_outside.specs.Loosening.{both, and_of, test_same, same_test, fits_long, fits_settled, fits_all, fits_cut, fits_front, write_back, cut_back, torn_fits}

le_of : (a b : ℕ) → IsTrue (nat_le a b) → a ≤ b
le_of a b h = grind (arith, nat_tests)

of_le : (a b : ℕ) → a ≤ b → IsTrue (nat_le a b)
of_le a b h = grind (arith, nat_tests)

-- what a sound state says
pub record Facts (s : Shown) : Type 0 where
  pub fit : IsTrue (fits s.loose.fixed s.bytes)
  pub long : length s.bytes ≤ s.loose.longest
  pub there : IsTrue (s.there || (s.loose.longest == 0))
  pub gone : IsTrue (list_all (λ (l : Loose). nat_le (length l.fixed) l.longest) s.gone)

pub facts : (s : Shown) → IsTrue (is_sound s) → Facts s
facts s sound =
    let outer = both (allows s.loose s.bytes && (s.there || (s.loose.longest == 0))) (list_all (λ (l : Loose). nat_le (length l.fixed) l.longest) s.gone) sound in
    let inner = both (allows s.loose s.bytes) (s.there || (s.loose.longest == 0)) outer.0 in
    let loose = both (fits s.loose.fixed s.bytes) (nat_le (length s.bytes) s.loose.longest) inner.0 in
    record { fit = loose.0; long = le_of (length s.bytes) s.loose.longest loose.1; there = inner.1; gone = outer.1 }

pub sound_of : (s : Shown) → Facts s → IsTrue (is_sound s)
sound_of s f =
    and_of (allows s.loose s.bytes && (s.there || (s.loose.longest == 0))) (list_all (λ (l : Loose). nat_le (length l.fixed) l.longest) s.gone)
    (and_of (allows s.loose s.bytes) (s.there || (s.loose.longest == 0))
    (and_of (fits s.loose.fixed s.bytes) (nat_le (length s.bytes) s.loose.longest) f.fit (of_le (length s.bytes) s.loose.longest f.long)) f.there)
    f.gone

-- what is read is an outcome
pub reads_outcome : (s : Shown) → IsTrue (is_sound s) → Outcome s s.bytes
reads_outcome s sound =
    let f = facts s sound in
    inl (and_of (fits s.loose.fixed s.bytes) (nat_le (length s.bytes) s.loose.longest) f.fit (of_le (length s.bytes) s.loose.longest f.long))

pub short_none : (x : List ℕ) → length x ≤ 0 → x ≡ []
short_none [] h = refl
short_none (y ∷ x) h = absurd (omega arith)

or_false : (a b : Bool) → a ≡ false → IsTrue (a || b) → IsTrue b
or_false true b is h = absurd (false≢true (sym is))
or_false false b is h = h

pub absent_is_empty : (s : Shown) → IsTrue (is_sound s) → s.there ≡ false → s.bytes ≡ []
absent_is_empty s sound gone =
    let f = facts s sound in
    let none : s.loose.longest ≡ 0 = test_same s.loose.longest 0 (or_false s.there (s.loose.longest == 0) gone f.there) in
    short_none s.bytes (omega (arith, none, f.long))

-- and after each crash, where none of its number was removed
pub absent_only : (s : Shown) → IsTrue (is_sound s) → s.there ≡ false → s.gone ≡ [] → (x : List ℕ) → Outcome s x → x ≡ []
absent_only s sound gone empty x (inl now) =
    let none : s.loose.longest ≡ 0 = test_same s.loose.longest 0 (or_false s.there (s.loose.longest == 0) gone (facts s sound).there) in
    let parts = both (fits s.loose.fixed x) (nat_le (length x) s.loose.longest) now in
    short_none x (omega (arith, none, le_of (length x) s.loose.longest parts.1))
absent_only s sound gone empty x (inr was) = absurd (subst (λ (l : List Loose). AnyAllows l x) empty was)

pub absent_sound : (number : ℕ) → IsTrue (is_sound (absent number))
absent_sound number = refl

pub kept_sound : (all : Bool) (s : Shown) → IsTrue (is_sound s) → IsTrue (is_sound (kept all s))
kept_sound true s sound = sound
kept_sound false s sound = let f = facts s sound in sound_of (kept false s) (record { fit = f.fit; long = f.long; there = f.there; gone = refl })

-- ## The calls

or_left : (a b : Bool) → IsTrue a → IsTrue (a || b)
or_left true b h = refl
or_left false b h = absurd (false≢true h)

pub written_sound : (at : ℕ) (bytes : List ℕ) (done : Bool) (s : Shown) → IsTrue (is_sound s) → IsTrue (is_sound (written at bytes done s))
written_sound at bytes true s sound =
    let f = facts s sound in
    sound_of (written at bytes true s) (record {
      fit = torn_fits at (length bytes) s.loose.fixed s.bytes (overlaid s.bytes at bytes) f.fit (torn_done s.bytes bytes at);
      long = omega (arith, length-overlaid s.bytes bytes at, f.long);
      there = refl;
      gone = f.gone;
    })
written_sound at bytes false s sound =
    let f = facts s sound in
    sound_of (written at bytes false s) (record {
      fit = torn_fits at (length bytes) s.loose.fixed s.bytes s.bytes f.fit (torn_same s.bytes at (length bytes));
      long = omega (arith, f.long);
      there = refl;
      gone = f.gone;
    })

pub written_outcome : (at : ℕ) (bytes : List ℕ) (done : Bool) (s : Shown) → IsTrue (is_sound s) → (x : List ℕ) → Outcome (written at bytes done s) x
    → (d : List ℕ) × Outcome s d × Torn at (length bytes) d x
written_outcome at bytes done s sound x (inl now) =
    let f = facts s sound in
    let parts = both (fits (freed at (length bytes) s.loose.fixed) x) (nat_le (length x) (max s.loose.longest (at + length bytes))) now in
    let low : length s.loose.fixed ≤ s.loose.longest = omega (arith, fits_long s.loose.fixed s.bytes f.fit, f.long) in
    let back = write_back at (length bytes) s.loose.fixed s.loose.longest x low parts.0 (le_of (length x) (max s.loose.longest (at + length bytes)) parts.1) in
    (back.0, inl (and_of (fits s.loose.fixed back.0) (nat_le (length back.0) s.loose.longest) back.1 (of_le (length back.0) s.loose.longest back.2)), back.3)
written_outcome at bytes done s sound x (inr gone) = (x, inr gone, torn_same x at (length bytes))

pub shortened_sound : (len : ℕ) (done : Bool) (s : Shown) → IsTrue (is_sound s) → IsTrue (is_sound (shortened len done s))
shortened_sound len true s sound =
    let f = facts s sound in
    sound_of (shortened len true s) (record {
      fit = fits_cut s.loose.fixed s.bytes len f.fit;
      long = omega (arith, length-take len s.bytes, f.long);
      there = f.there;
      gone = f.gone;
    })
shortened_sound len false s sound =
    let f = facts s sound in
    sound_of (shortened len false s) (record { fit = fits_front s.loose.fixed s.bytes len f.fit; long = f.long; there = f.there; gone = f.gone })

pub shortened_outcome : (len : ℕ) (done : Bool) (s : Shown) → IsTrue (is_sound s) → (x : List ℕ) → Outcome (shortened len done s) x
    → (d : List ℕ) × Outcome s d × Shortened len d x
shortened_outcome len done s sound x (inl now) =
    let f = facts s sound in
    let parts = both (fits (take len s.loose.fixed) x) (nat_le (length x) s.loose.longest) now in
    let low : length s.loose.fixed ≤ s.loose.longest = omega (arith, fits_long s.loose.fixed s.bytes f.fit, f.long) in
    let back = cut_back len s.loose.fixed s.loose.longest x low parts.0 (le_of (length x) s.loose.longest parts.1) in
    (back.0, inl (and_of (fits s.loose.fixed back.0) (nat_le (length back.0) s.loose.longest) back.1 (of_le (length back.0) s.loose.longest back.2)), back.3)
shortened_outcome len done s sound x (inr gone) = (x, inr gone, shortened_same x len)

pub synced_only : (s : Shown) (x : List ℕ) → Outcome (synced s) x → x ≡ s.bytes
synced_only s x (inl now) =
    let parts = both (fits (map (λ b. Some b) s.bytes) x) (nat_le (length x) (length s.bytes)) now in
    fits_all s.bytes x parts.0 (le_of (length x) (length s.bytes) parts.1)
synced_only s x (inr gone) = absurd gone

pub synced_sound : (s : Shown) → IsTrue (is_sound s) → IsTrue (is_sound (synced s))
synced_sound s sound =
    sound_of (synced s) (record { fit = fits_settled s.bytes; long = omega arith; there = still s.there (facts s sound).there; gone = refl })
  where
    still : (there : Bool) → IsTrue (there || (s.loose.longest == 0)) → IsTrue (there || (length s.bytes == 0))
    still true h = refl
    still false h =
        let none : length s.bytes ≡ 0 = omega (arith, test_same s.loose.longest 0 h, (facts s sound).long) in
        subst (λ (n : ℕ). IsTrue (n == 0)) (sym none) (same_test 0)

pub removed_sound : (s : Shown) → IsTrue (is_sound s) → IsTrue (is_sound (removed s))
removed_sound s sound =
    let f = facts s sound in
    sound_of (removed s) (record {
      fit = refl;
      long = omega arith;
      there = refl;
      gone = and_of (nat_le (length s.loose.fixed) s.loose.longest) (list_all (λ (l : Loose). nat_le (length l.fixed) l.longest) s.gone)
          (of_le (length s.loose.fixed) s.loose.longest (omega (arith, fits_long s.loose.fixed s.bytes f.fit, f.long))) f.gone;
    })

pub removed_outcome : (s : Shown) → IsTrue (is_sound s) → (x : List ℕ) → Outcome (removed s) x → (d : List ℕ) × Outcome s d × Gone d x
removed_outcome s sound x (inl now) = (s.bytes, reads_outcome s sound, inr (short_none x (le_of (length x) 0 now)))
removed_outcome s sound x (inr (inl was)) = (x, inl was, inl refl)
removed_outcome s sound x (inr (inr gone)) = (x, inr gone, inl refl)

-- ## The files together

choose : (b : Bool) (s d : Shown) (rest : Option Shown) → unwrap_or (cond b (Some s) rest) d ≡ cond b s (unwrap_or rest d)
choose true s d rest = refl
choose false s d rest = refl

look : (s : Shown) (files : List Shown) (file : ℕ) → state_in (s ∷ files) file ≡ cond (s.number == file) s (state_in files file)
look s files file = choose (s.number == file) s (absent file) (find (λ (t : Shown). t.number == file) files)

pub look_same : (s : Shown) (files : List Shown) (file : ℕ) → s.number ≡ file → state_in (s ∷ files) file ≡ s
look_same s files file same =
    let test : (s.number == file) ≡ true = subst (λ (n : ℕ). IsTrue (s.number == n)) same (same_test s.number) in
    look s files file ∙ ap (λ (b : Bool). cond b s (state_in files file)) test

pub test_false : (a b : ℕ) → a ≢ b → (a == b) ≡ false
test_false a b other = elim (cases_Bool (a == b)) [
  | inl same ↦ absurd (other (test_same a b same))
  | inr no_ ↦ no_
]

pub look_other : (s : Shown) (files : List Shown) (file : ℕ) → s.number ≢ file → state_in (s ∷ files) file ≡ state_in files file
look_other s files file other = look s files file ∙ ap (λ (b : Bool). cond b s (state_in files file)) (test_false s.number file other)

pub number_of : (file : ℕ) (files : List Shown) → (state_in files file).number ≡ file
number_of file [] = refl
number_of file (s ∷ files) = elim (cases_eq s.number file) [
  | inl same ↦ ap (λ (t : Shown). t.number) (look_same s files file same) ∙ same
  | inr other ↦ ap (λ (t : Shown). t.number) (look_other s files file other) ∙ number_of file files
]

pub state_sound : (files : List Shown) (file : ℕ) → IsTrue (list_all is_sound files) → IsTrue (is_sound (state_in files file))
state_sound [] file all = refl
state_sound (s ∷ files) file all =
    let parts = both (is_sound s) (list_all is_sound files) all in
    elim (cases_eq s.number file) [
      | inl same ↦ subst (λ (t : Shown). IsTrue (is_sound t)) (sym (look_same s files file same)) parts.0
      | inr other ↦ subst (λ (t : Shown). IsTrue (is_sound t)) (sym (look_other s files file other)) (state_sound files file parts.1)
    ]

module _ (all : Bool) where
  kept_absent : (b : Bool) (g : ℕ) → absent g ≡ kept b (absent g)
  kept_absent true g = refl
  kept_absent false g = refl

  kept_found : (files : List Shown) (g : ℕ) → state_in (map (kept all) files) g ≡ kept all (state_in files g)
  kept_found [] g = kept_absent all g
  kept_found (t ∷ files) g = elim (cases_eq t.number g) [
    | inl same ↦ look_same (kept all t) (map (kept all) files) g same ∙ ap (kept all) (sym (look_same t files g same))
    | inr other ↦ look_other (kept all t) (map (kept all) files) g other ∙ kept_found files g ∙ ap (kept all) (sym (look_other t files g other))
  ]

  all_kept_sound : (files : List Shown) → IsTrue (list_all is_sound files) → IsTrue (list_all is_sound (map (kept all) files))
  all_kept_sound [] sound = refl
  all_kept_sound (t ∷ files) sound =
      let parts = both (is_sound t) (list_all is_sound files) sound in
      and_of (is_sound (kept all t)) (list_all is_sound (map (kept all) files)) (kept_sound all t parts.0) (all_kept_sound files parts.1)

  module _ (s : Shown) where
    pub with_here : (t : Shown) (files : List Shown) → t.number ≡ s.number → with_file all s (t ∷ files) ≡ s ∷ map (kept all) files
    with_here t files same =
        let test : (t.number == s.number) ≡ true = subst (λ (m : ℕ). IsTrue (t.number == m)) same (same_test t.number) in
        ap (λ (b : Bool). cond b (s ∷ map (kept all) files) (kept all t ∷ with_file all s files)) test

    pub with_later : (t : Shown) (files : List Shown) → t.number ≢ s.number → with_file all s (t ∷ files) ≡ kept all t ∷ with_file all s files
    with_later t files other =
        ap (λ (b : Bool). cond b (s ∷ map (kept all) files) (kept all t ∷ with_file all s files)) (test_false t.number s.number other)

    -- the changed file is found, and each other as it was, with its removed files or without
    pub with_file_same : (files : List Shown) (file : ℕ) → s.number ≡ file → state_in (with_file all s files) file ≡ s
    with_file_same [] file same = look_same s [] file same
    with_file_same (t ∷ files) file same = elim (cases_eq t.number s.number) [
      | inl here ↦ ap (λ (l : List Shown). state_in l file) (with_here t files here) ∙ look_same s (map (kept all) files) file same
      | inr later ↦
          ap (λ (l : List Shown). state_in l file) (with_later t files later)
          ∙ look_other (kept all t) (with_file all s files) file (λ is. later (is ∙ sym same)) ∙ with_file_same files file same
    ]

    pub with_file_other : (files : List Shown) (g : ℕ) → g ≢ s.number → state_in (with_file all s files) g ≡ kept all (state_in files g)
    with_file_other [] g other = look_other s [] g (λ is. other (sym is)) ∙ kept_absent all g
    with_file_other (t ∷ files) g other = elim (cases_eq t.number s.number) [
      | inl here ↦
          ap (λ (l : List Shown). state_in l g) (with_here t files here)
          ∙ look_other s (map (kept all) files) g (λ is. other (sym is)) ∙ kept_found files g
          ∙ ap (kept all) (sym (look_other t files g (λ is. other (sym is ∙ here))))
      | inr later ↦ ap (λ (l : List Shown). state_in l g) (with_later t files later) ∙ (elim (cases_eq t.number g) [
        | inl same ↦ look_same (kept all t) (with_file all s files) g same ∙ ap (kept all) (sym (look_same t files g same))
        | inr further ↦
            look_other (kept all t) (with_file all s files) g further ∙ with_file_other files g other
            ∙ ap (kept all) (sym (look_other t files g further))
      ])
    ]

    pub with_file_sound : (files : List Shown) → IsTrue (is_sound s) → IsTrue (list_all is_sound files) → IsTrue (list_all is_sound (with_file all s files))
    with_file_sound [] sound rest = and_of (is_sound s) true sound refl
    with_file_sound (t ∷ files) sound rest =
        let parts = both (is_sound t) (list_all is_sound files) rest in
        elim (cases_eq t.number s.number) [
          | inl here ↦ subst (λ (l : List Shown). IsTrue (list_all is_sound l)) (sym (with_here t files here))
              (and_of (is_sound s) (list_all is_sound (map (kept all) files)) sound (all_kept_sound files parts.1))
          | inr later ↦ subst (λ (l : List Shown). IsTrue (list_all is_sound l)) (sym (with_later t files later))
              (and_of (is_sound (kept all t)) (list_all is_sound (with_file all s files)) (kept_sound all t parts.0) (with_file_sound files sound parts.1))
        ]
