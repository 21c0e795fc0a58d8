-- What makes a format exact: what is read is spelled so, what is spelled so is read, whatever follows, and reading stops
-- where the bytes no longer begin a spelling. Each way of making a format of others keeps this.
use Rattle.std.proofs.Common.{◌≡◌, ℕ, suc, ◌⊎◌, inl, inr, List, [], ◌∷◌, ◌++◌, length, Ok, Err, refl, sym, ap, subst, ◌∙◌, append_assoc}
use Rattle.byte_formats.specs.Reading.{◌>>=◌, Read}
use Rattle.byte_formats.specs.Format.{Format, ◌▷◌}
use Rattle.byte_formats.proofs.Readers.{IsBytes, bind_ok, ok_is}
use Rattle.byte_formats.proofs.Stopping.{bind_err}

pub bytes_behind : (xs ys : List ℕ) → IsBytes (xs ++ ys) → IsBytes ys
bytes_behind [] ys h = h
bytes_behind (x ∷ xs) ys h = bytes_behind xs ys (λ i. h (suc i))

-- a value at the front, and the bytes behind it
pub record Takes {A : Type 0} (format : Format A) (bytes : List ℕ) (x : A × List ℕ) : Type 0 where
  pub fits : format.Fits x.0
  pub parts : bytes ≡ format.spell x.0 ++ x.1

-- where reading stops
pub record Stops {A : Type 0} (format : Format A) (bytes : List ℕ) (left : ℕ) : Type 0 where
  pub front : List ℕ
  pub back : List ℕ
  pub parts : bytes ≡ front ++ back
  pub size : length back ≡ left
  pub goes : format.Begins front
  pub dead : (b : ℕ) (bs : List ℕ) → back ≡ b ∷ bs → format.Begins (front ++ b ∷ []) → ⊥

pub record Exact {A : Type 0} (format : Format A) : Type 0 where
  pub again : (a : A) (rest : List ℕ) → format.Fits a → format.read (format.spell a ++ rest) ≡ Ok (a, rest)
  pub takes : (bytes : List ℕ) (x : A × List ℕ) → IsBytes bytes → format.read bytes ≡ Ok x → Takes format bytes x
  pub stops : (bytes : List ℕ) (left : ℕ) → IsBytes bytes → format.read bytes ≡ Err left → Stops format bytes left
  -- each front of a spelling begins one, and nothing longer than a spelling does
  pub fronts : (a : A) (front more : List ℕ) → format.Fits a → format.spell a ≡ front ++ more → format.Begins front
  pub past : (a : A) (c : ℕ) (cs : List ℕ) → format.Fits a → format.Begins (format.spell a ++ c ∷ cs) → ⊥
  pub shorter : (front more : List ℕ) → format.Begins (front ++ more) → format.Begins front

-- ---- lists

pub record Longer (xs other ys more : List ℕ) : Type 0 where
  pub between : List ℕ
  pub longer : other ≡ xs ++ between
  pub shorter : ys ≡ between ++ more

-- of two ways to cut a list one front begins with the other
pub cuts : (xs ys front more : List ℕ) → xs ++ ys ≡ front ++ more → ((rest : List ℕ) × (xs ≡ front ++ rest)) ⊎ Longer xs front ys more
cuts [] ys front more e = inr (record { between = front; longer = refl; shorter = e })
cuts (x ∷ xs) ys [] more e = inl (x ∷ xs, refl)
cuts (x ∷ xs) ys (f ∷ front) more e =
    let head : x ≡ f = cc in
    let tail : xs ++ ys ≡ front ++ more = cc in
    elim (cuts xs ys front more tail) [
      | inl h ↦ inl (h.0, λ i. head i ∷ h.1 i)
      | inr h ↦ inr (record { between = h.between; longer = (λ i. sym head i ∷ h.longer i); shorter = h.shorter })
    ]

-- ---- two spellings that begin the same bytes

pub record SameValue {A : Type 0} (a b : A) (xs ys : List ℕ) : Type 0 where
  pub value : a ≡ b
  pub rest : xs ≡ ys

pub one_value : {A : Type 0} (format : Format A) → Exact format → (a b : A) (xs ys : List ℕ) → format.Fits a → format.Fits b → format.spell a ++ xs ≡ format.spell b ++ ys → SameValue a b xs ys
one_value format exact a b xs ys p q e =
    let same : (a, xs) ≡ (b, ys) = ok_is (a, xs) (b, ys) (sym (exact.again a xs p) ∙ ap format.read e ∙ exact.again b ys q) in
    record { value = ap (λ (x : _ × List ℕ). x.0) same; rest = ap (λ (x : _ × List ℕ). x.1) same }

-- nothing that is behind a whole value is still within it
pub not_within : {A : Type 0} (format : Format A) → Exact format → (a : A) (ys : List ℕ) (c : ℕ) (cs : List ℕ) → format.Fits a → format.Begins (format.spell a ++ (ys ++ c ∷ cs)) → ⊥
not_within format exact a [] c cs p h = exact.past a c cs p h
not_within format exact a (y ∷ ys) c cs p h = exact.past a y (ys ++ c ∷ cs) p h

-- ---- one value behind another

module _ {A : Type 0} {B : A → Type 0} (f : Format A) (g : (a : A) → Format (B a)) (fe : Exact f) (ge : (a : A) → f.Fits a → Exact (g a)) where
  abbrev both : Format ((a : A) × B a)
  both = f ▷ g

  abbrev behind : (a : A) → Read (B a) → Read ((a : A) × B a)
  behind a r = r >>= λ b. Ok ((a, b.0), b.1)

  both_again : (p : (a : A) × B a) (rest : List ℕ) → both.Fits p → both.read (both.spell p ++ rest) ≡ Ok (p, rest)
  both_again p rest fits =
      ap both.read (append_assoc (f.spell p.0) ((g p.0).spell p.1) rest)
      ∙ ap (λ r. r >>= λ a. behind a.0 ((g a.0).read a.1)) (fe.again p.0 ((g p.0).spell p.1 ++ rest) fits.0)
      ∙ ap (behind p.0) ((ge p.0 fits.0).again p.1 rest fits.1)

  both_takes : (bytes : List ℕ) (x : ((a : A) × B a) × List ℕ) → IsBytes bytes → both.read bytes ≡ Ok x → Takes both bytes x
  both_takes bytes x wide e =
      let a = bind_ok (f.read bytes) (λ a. behind a.0 ((g a.0).read a.1)) x e in
      let s = fe.takes bytes a.0 wide a.1 in
      let wide2 : IsBytes a.0.1 = bytes_behind (f.spell a.0.0) a.0.1 (subst IsBytes s.parts wide) in
      let b = bind_ok ((g a.0.0).read a.0.1) (λ b. Ok ((a.0.0, b.0), b.1)) x a.2 in
      let t = (ge a.0.0 s.fits).takes a.0.1 b.0 wide2 b.1 in
      let made : ((a : A) × B a) × List ℕ = ((a.0.0, b.0.0), b.0.1) in
      subst (λ y. Takes both bytes y) (ok_is made x b.2)
      (record { fits = (s.fits, t.fits); parts = s.parts ∙ ap (λ (l : List ℕ). f.spell a.0.0 ++ l) t.parts ∙ sym (append_assoc (f.spell a.0.0) ((g a.0.0).spell b.0.0) b.0.1) })

  both_stops : (bytes : List ℕ) (left : ℕ) → IsBytes bytes → both.read bytes ≡ Err left → Stops both bytes left
  both_stops bytes left wide e = elim (bind_err (f.read bytes) (λ a. behind a.0 ((g a.0).read a.1)) left e) [
    | inl h ↦
        let s = fe.stops bytes left wide h in
        record {
          front = s.front;
          back = s.back;
          parts = s.parts;
          size = s.size;
          goes = inl s.goes;
          dead = λ b bs back begins. elim begins [
            | inl k ↦ s.dead b bs back k
            | inr k ↦
                let whole : bytes ≡ f.spell k.0 ++ (k.2.0 ++ bs) =
                s.parts ∙ ap (λ (l : List ℕ). s.front ++ l) back ∙ sym (append_assoc s.front (b ∷ []) bs) ∙ ap (λ (l : List ℕ). l ++ bs) k.2.1 ∙ append_assoc (f.spell k.0) k.2.0 bs in
                let clash : Ok (k.0, k.2.0 ++ bs) ≡ Err left = sym (fe.again k.0 (k.2.0 ++ bs) k.1) ∙ ap f.read (sym whole) ∙ h in
                cc
          ];
        }
    | inr h ↦
        let s = fe.takes bytes h.0 wide h.1 in
        let wide2 : IsBytes h.0.1 = bytes_behind (f.spell h.0.0) h.0.1 (subst IsBytes s.parts wide) in
        elim (bind_err ((g h.0.0).read h.0.1) (λ b. Ok ((h.0.0, b.0), b.1)) left h.2) [
          | inr k ↦ absurd (let clash = k.2 in cc)
          | inl k ↦
              let t = (ge h.0.0 s.fits).stops h.0.1 left wide2 k in
              record {
                front = f.spell h.0.0 ++ t.front;
                back = t.back;
                size = t.size;
                parts = s.parts ∙ ap (λ (l : List ℕ). f.spell h.0.0 ++ l) t.parts ∙ sym (append_assoc (f.spell h.0.0) t.front t.back);
                goes = inr (h.0.0, s.fits, (t.front, refl, t.goes));
                dead = λ b bs back begins. elim begins [
                  | inl m ↦ not_within f fe h.0.0 t.front b [] s.fits (subst f.Begins (append_assoc (f.spell h.0.0) t.front (b ∷ [])) m)
                  | inr m ↦
                      let one = one_value f fe h.0.0 m.0 (t.front ++ b ∷ []) m.2.0 s.fits m.1 (sym (append_assoc (f.spell h.0.0) t.front (b ∷ [])) ∙ m.2.1) in
                      t.dead b bs back (subst (λ a. (g a).Begins (t.front ++ b ∷ [])) (sym one.value) (subst (λ l. (g m.0).Begins l) (sym one.rest) m.2.2))
                ];
              }
        ]
  ]

  both_fronts : (p : (a : A) × B a) (front more : List ℕ) → both.Fits p → both.spell p ≡ front ++ more → both.Begins front
  both_fronts p front more fits e = elim (cuts (f.spell p.0) ((g p.0).spell p.1) front more e) [
    | inl h ↦ inl (fe.fronts p.0 front h.0 fits.0 h.1)
    | inr h ↦ inr (p.0, fits.0, (h.between, h.longer, (ge p.0 fits.0).fronts p.1 h.between more fits.1 h.shorter))
  ]

  both_past : (p : (a : A) × B a) (c : ℕ) (cs : List ℕ) → both.Fits p → both.Begins (both.spell p ++ c ∷ cs) → ⊥
  both_past p c cs fits begins =
      let regrouped = append_assoc (f.spell p.0) ((g p.0).spell p.1) (c ∷ cs) in
      elim begins [
        | inl h ↦ not_within f fe p.0 ((g p.0).spell p.1) c cs fits.0 (subst f.Begins regrouped h)
        | inr h ↦
            let one = one_value f fe p.0 h.0 ((g p.0).spell p.1 ++ c ∷ cs) h.2.0 fits.0 h.1 (sym regrouped ∙ h.2.1) in
            (ge p.0 fits.0).past p.1 c cs fits.1 (subst (λ a. (g a).Begins ((g p.0).spell p.1 ++ c ∷ cs)) (sym one.value) (subst (λ l. (g h.0).Begins l) (sym one.rest) h.2.2))
      ]

  both_shorter : (front more : List ℕ) → both.Begins (front ++ more) → both.Begins front
  both_shorter front more begins = elim begins [
    | inl h ↦ inl (fe.shorter front more h)
    | inr h ↦ elim (cuts (f.spell h.0) h.2.0 front more (sym h.2.1)) [
      | inl k ↦ inl (fe.fronts h.0 front k.0 h.1 k.1)
      | inr k ↦ inr (h.0, h.1, (k.between, k.longer, (ge h.0 h.1).shorter k.between more (subst (g h.0).Begins k.shorter h.2.2)))
    ]
  ]

  pub both_exact : Exact (f ▷ g)
  both_exact = record { shorter = both_shorter; again = both_again; takes = both_takes; stops = both_stops; fronts = both_fronts; past = both_past }
