-- Where readers stop that are made of readers.
use Rattle.std.proofs.Common.{◌≡◌, ℕ, suc, ◌-◌, ◌≤◌, List, [], ◌∷◌, ◌++◌, length, Ok, Err, sym, ap, subst, ◌∙◌, append_assoc, arith, inl, inr}
use Rattle.std.specs.List.{flat_map}
use Rattle.byte_formats.specs.Reading.{◌>>=◌, Read}
use Rattle.row_blob.specs.Reading.{each_at}
use Rattle.row_blob.specs.Kept.{AreEach}
use Rattle.byte_formats.proofs.Readers.{IsBytes, IsReader, HasFront, bind_ok, ok_is}
use Rattle.byte_formats.proofs.Same.{Same}
use Rattle.byte_formats.proofs.Stopping.{bind_err, GoesTo, IsExact, goes_longer, behind_within, behind_left_goes, behind_left_stops}

-- a value made of what was read
pub record IsMapped {A B : Type 0} (f : A → B) (s : A → List ℕ) (P : A → Type 0) (spell : B → List ℕ) (Q : B → Type 0) : Type 0 where
  pub to : (a : A) → P a → Q (f a) × (spell (f a) ≡ s a)
  pub from : (b : B) → Q b → (a : A) × P a × (spell b ≡ s a)

pub mapped_exact : {A B : Type 0} (f : A → B) (read : List ℕ → Read A) (s : A → List ℕ) (P : A → Type 0) (spell : B → List ℕ) (Q : B → Type 0) → IsMapped f s P spell Q → IsExact read s P
    → IsExact (λ bytes. read bytes >>= λ x. Ok (f x.0, x.1)) spell Q
mapped_exact f read s P spell Q m exact = record {
  some = f exact.some;
  some_fits = (m.to exact.some exact.some_fits).0;
  goes = λ bytes left fits e. elim (bind_err (read bytes) (λ x. Ok (f x.0, x.1)) left e) [
    | inl h ↦
        let g = exact.goes bytes left fits h in
        let to = m.to g.item g.fits in
        record { within = g.within; item = f g.item; fits = to.0; same = subst (λ (l : List ℕ). Same (length bytes - left) l bytes) (sym to.1) g.same }
    | inr h ↦ absurd (let clash = h.2 in cc)
  ];
  stops = λ bytes left b r fits e q same. elim (bind_err (read bytes) (λ x. Ok (f x.0, x.1)) (suc left) e) [
    | inl h ↦
        let from = m.from b q in
        exact.stops bytes left from.0 r fits h from.1 (subst (λ (l : List ℕ). Same (length bytes - left) (l ++ r) bytes) from.2 same)
    | inr h ↦ absurd (let clash = h.2 in cc)
  ];
}

-- two values, one after the other
module _ {A B : Type 0} (r1 : List ℕ → Read A) (s1 : A → List ℕ) (P1 : A → Type 0) (law1 : IsReader r1 s1 P1) (exact1 : IsExact r1 s1 P1)
    (r2 : List ℕ → Read B) (s2 : B → List ℕ) (P2 : B → Type 0) (exact2 : IsExact r2 s2 P2) where
  abbrev pair_at : List ℕ → Read (A × B)
  pair_at bytes = r1 bytes >>= λ x. r2 x.1 >>= λ y. Ok ((x.0, y.0), y.1)

  abbrev pair_spelling : A × B → List ℕ
  pair_spelling p = s1 p.0 ++ s2 p.1

  abbrev IsPair : A × B → Type 0
  IsPair p = P1 p.0 × P2 p.1

  pair_goes : (bytes : List ℕ) (left : ℕ) → IsBytes bytes → pair_at bytes ≡ Err left → GoesTo pair_spelling IsPair bytes left
  pair_goes bytes left fits e = elim (bind_err (r1 bytes) (λ x. r2 x.1 >>= λ y. Ok ((x.0, y.0), y.1)) left e) [
    | inl h ↦
        let g = exact1.goes bytes left fits h in
        record { within = g.within; item = (g.item, exact2.some); fits = (g.fits, exact2.some_fits); same = goes_longer r1 s1 P1 law1 bytes left h g (s2 exact2.some) }
    | inr h ↦
        let x = h.0 in
        let t = law1.takes bytes x fits h.1 in
        elim (bind_err (r2 x.1) (λ y. Ok ((x.0, y.0), y.1)) left h.2) [
          | inl k ↦
              let g = exact2.goes x.1 left t.rest k in
              record { within = behind_within r1 s1 P1 law1 bytes x t left g.within; item = (x.0, g.item); fits = (t.fits, g.fits); same = behind_left_goes r1 s1 P1 law1 bytes x t left (s2 g.item) g.same }
          | inr k ↦ absurd (let clash = k.2 in cc)
        ]
  ]

  pair_stops : (bytes : List ℕ) (left : ℕ) (p : A × B) (r : List ℕ) → IsBytes bytes → pair_at bytes ≡ Err (suc left) → IsPair p → Same (length bytes - left) (pair_spelling p ++ r) bytes → ⊥
  pair_stops bytes left p r fits e q same =
      let n = length bytes - left in
      let regrouped : Same n (s1 p.0 ++ (s2 p.1 ++ r)) bytes = subst (λ (l : List ℕ). Same n l bytes) (append_assoc (s1 p.0) (s2 p.1) r) same in
      elim (bind_err (r1 bytes) (λ x. r2 x.1 >>= λ y. Ok ((x.0, y.0), y.1)) (suc left) e) [
        | inl h ↦ exact1.stops bytes left p.0 (s2 p.1 ++ r) fits h q.0 regrouped
        | inr h ↦
            let x = h.0 in
            let t = law1.takes bytes x fits h.1 in
            elim (bind_err (r2 x.1) (λ y. Ok ((x.0, y.0), y.1)) (suc left) h.2) [
              | inl k ↦
                  let g = exact2.goes x.1 (suc left) t.rest k in
                  let within : suc left ≤ length x.1 = g.within in
                  let b = behind_left_stops r1 s1 P1 law1 bytes x t left p.0 (s2 p.1 ++ r) q.0 (omega arith) regrouped in
                  exact2.stops x.1 left p.1 r t.rest k q.1 b.1
              | inr k ↦ absurd (let clash = k.2 in cc)
            ]
      ]

  pub pair_exact : IsExact (λ bytes. r1 bytes >>= λ x. r2 x.1 >>= λ y. Ok ((x.0, y.0), y.1)) (λ (p : A × B). s1 p.0 ++ s2 p.1) (λ (p : A × B). P1 p.0 × P2 p.1)
  pair_exact = record { some = (exact1.some, exact2.some); some_fits = (exact1.some_fits, exact2.some_fits); goes = pair_goes; stops = pair_stops }

-- one value for each kind
module _ {K A : Type 0} (read : K → List ℕ → Read A) (spell : A → List ℕ) (P : K → A → Type 0) (law : (k : K) → IsReader (read k) spell (P k)) (exact : (k : K) → IsExact (read k) spell (P k)) where
  fill : List K → List A
  fill [] = []
  fill (k ∷ ks) = (exact k).some ∷ fill ks

  fill_fits : (ks : List K) → AreEach P ks (fill ks)
  unfolding fill
  fill_fits [] = tt
  fill_fits (k ∷ ks) = ((exact k).some_fits, fill_fits ks)

  each_goes : (ks : List K) (front : List A) (bytes : List ℕ) (left : ℕ) → IsBytes bytes → each_at read ks front bytes ≡ Err left → GoesTo (flat_map spell) (AreEach P ks) bytes left
  each_goes [] front bytes left fits e = absurd cc
  each_goes (k ∷ ks) front bytes left fits e = elim (bind_err (read k bytes) (λ y. each_at read ks (front ++ y.0 ∷ []) y.1) left e) [
    | inl h ↦
        let g = (exact k).goes bytes left fits h in
        record { within = g.within; item = g.item ∷ fill ks; fits = (g.fits, fill_fits ks); same = goes_longer (read k) spell (P k) (law k) bytes left h g (flat_map spell (fill ks)) }
    | inr h ↦
        let t = (law k).takes bytes h.0 fits h.1 in
        let g = each_goes ks (front ++ h.0.0 ∷ []) h.0.1 left t.rest h.2 in
        record {
          within = behind_within (read k) spell (P k) (law k) bytes h.0 t left g.within;
          item = h.0.0 ∷ g.item;
          fits = (t.fits, g.fits);
          same = behind_left_goes (read k) spell (P k) (law k) bytes h.0 t left (flat_map spell g.item) g.same;
        }
  ]

  each_stops : (ks : List K) (front : List A) (bytes : List ℕ) (left : ℕ) (xs : List A) (r : List ℕ) → IsBytes bytes → each_at read ks front bytes ≡ Err (suc left) → AreEach P ks xs
      → Same (length bytes - left) (flat_map spell xs ++ r) bytes → ⊥
  each_stops [] front bytes left xs r fits e q same = absurd cc
  each_stops (k ∷ ks) front bytes left [] r fits e q same = absurd q
  each_stops (k ∷ ks) front bytes left (x ∷ xs) r fits e q same =
      let n = length bytes - left in
      let regrouped : Same n (spell x ++ (flat_map spell xs ++ r)) bytes = subst (λ (l : List ℕ). Same n l bytes) (append_assoc (spell x) (flat_map spell xs) r) same in
      elim (bind_err (read k bytes) (λ y. each_at read ks (front ++ y.0 ∷ []) y.1) (suc left) e) [
        | inl h ↦ (exact k).stops bytes left x (flat_map spell xs ++ r) fits h q.0 regrouped
        | inr h ↦
            let t = (law k).takes bytes h.0 fits h.1 in
            let g = each_goes ks (front ++ h.0.0 ∷ []) h.0.1 (suc left) t.rest h.2 in
            let within : suc left ≤ length h.0.1 = g.within in
            let b = behind_left_stops (read k) spell (P k) (law k) bytes h.0 t left x (flat_map spell xs ++ r) q.0 (omega arith) regrouped in
            each_stops ks (front ++ h.0.0 ∷ []) h.0.1 left xs r t.rest h.2 q.1 b.1
      ]

  pub each_exact : (ks : List K) → IsExact (each_at read ks []) (flat_map spell) (AreEach P ks)
  each_exact ks = record { some = fill ks; some_fits = fill_fits ks; goes = each_goes ks []; stops = each_stops ks [] }

module _ {A B : Type 0} (r1 : List ℕ → Read A) (s1 : A → List ℕ) (P1 : A → Type 0) (law1 : IsReader r1 s1 P1) (r2 : List ℕ → Read B) (s2 : B → List ℕ) (P2 : B → Type 0) (law2 : IsReader r2 s2 P2) where
  abbrev pair_of : Read A → Read (A × B)
  pair_of m = m >>= λ x. r2 x.1 >>= λ y. Ok ((x.0, y.0), y.1)

  abbrev second_of : A → Read B → Read (A × B)
  second_of a m = m >>= λ y. Ok ((a, y.0), y.1)

  both_take : (bytes : List ℕ) (x : (A × B) × List ℕ) → IsBytes bytes → pair_of (r1 bytes) ≡ Ok x → HasFront (λ (p : A × B). s1 p.0 ++ s2 p.1) (λ (p : A × B). P1 p.0 × P2 p.1) bytes x
  both_take bytes x fits e =
      let a = bind_ok (r1 bytes) (λ x. second_of x.0 (r2 x.1)) x e in
      let b = bind_ok (r2 a.0.1) (λ y. Ok ((a.0.0, y.0), y.1)) x a.2 in
      let s = law1.takes bytes a.0 fits a.1 in
      let t = law2.takes a.0.1 b.0 s.rest b.1 in
      let made : (A × B) × List ℕ = ((a.0.0, b.0.0), b.0.1) in
      subst (λ y. HasFront (λ (p : A × B). s1 p.0 ++ s2 p.1) (λ (p : A × B). P1 p.0 × P2 p.1) bytes y) (ok_is made x b.2)
      (record { parts = s.parts ∙ ap (λ (l : List ℕ). s1 a.0.0 ++ l) t.parts ∙ sym (append_assoc (s1 a.0.0) (s2 b.0.0) b.0.1); rest = t.rest; fits = (s.fits, t.fits) })

  both_again : (p : A × B) (rest : List ℕ) → P1 p.0 × P2 p.1 → pair_of (r1 ((s1 p.0 ++ s2 p.1) ++ rest)) ≡ Ok (p, rest)
  both_again p rest q =
      ap (λ (l : List ℕ). pair_of (r1 l)) (append_assoc (s1 p.0) (s2 p.1) rest) ∙ ap pair_of (law1.again p.0 (s2 p.1 ++ rest) q.0) ∙ ap (second_of p.0) (law2.again p.1 rest q.1)

  pub pair_reader : IsReader (λ bytes. r1 bytes >>= λ x. r2 x.1 >>= λ y. Ok ((x.0, y.0), y.1)) (λ (p : A × B). s1 p.0 ++ s2 p.1) (λ (p : A × B). P1 p.0 × P2 p.1)
  pair_reader = record { takes = both_take; again = both_again }
