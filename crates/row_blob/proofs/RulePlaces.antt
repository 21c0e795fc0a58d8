-- Where items with a rule stop: a first part, which the rule judges by the items before it, and a second part.
use Rattle.std.proofs.Common.{◌≡◌, ℕ, suc, ◌+◌, ◌-◌, ◌<◌, ◌≤◌, Bool, false, cond, List, ◌++◌, length, take, Ok, Err, refl, sym, ap, subst, ◌∙◌, append_assoc, arith, inl, inr}
use Rattle.std.proofs.lemmas.Bool.{both_ways}
use Rattle.std.proofs.lemmas.List.{length-append}
use Rattle.byte_formats.specs.Reading.{◌>>=◌, Read}
use Rattle.byte_formats.proofs.Readers.{IsBytes, bind_ok, guard_ok, ok_is, HasFront, IsReader}
use Rattle.byte_formats.proofs.Same.{Same, same_front}
use Rattle.byte_formats.proofs.Stopping.{IsExact, bind_err, proper, goes_longer, behind_goes, behind_stops}
use Rattle.byte_formats.proofs.Ranges.{err_cases}
use Rattle.row_blob.proofs.ItemPlaces.{begin, ItemGoes, IsPlaced}

module _ {H T A : Type 0} (head : List ℕ → Read H) (hs : H → List ℕ) (PH : H → Type 0) (law : IsReader head hs PH) (exact : IsExact head hs PH)
    (tail : List ℕ → Read T) (ts : T → List ℕ) (PT : T → Type 0) (law2 : IsReader tail ts PT) (exact2 : IsExact tail ts PT)
    (make : H → T → A) (bad : List A → H → Bool) (spell : A → List ℕ) (spelled : (h : H) (t : T) → spell (make h t) ≡ hs h ++ ts t) (off : ℕ) where
  abbrev tail_of : H → Read T → Read A
  tail_of h r = r >>= λ t. Ok (make h t.0, t.1)

  abbrev judged : List A → H × List ℕ → Read A
  judged before h = cond (bad before h.0) (Err (suc (length h.1))) (tail_of h.0 (tail h.1))

  abbrev pub rule_at : List A → List ℕ → Read A
  rule_at before bytes = head bytes >>= λ h. judged before h

  -- the two parts of an item, and what the first n bytes of the file say of it
  pub record Parts (n : ℕ) (before : List A) (y : A) : Type 0 where
    pub key : H
    pub val : T
    pub is : make key val ≡ y
    pub key_fits : PH key
    pub val_fits : PT val
    pub rule : begin spell off before + length (hs key) ≤ n → bad before key ≡ false

  module _ (P : ℕ → List A → A → Type 0) (made : (n : ℕ) (before : List A) (y : A) → Parts n before y → P n before y) (parts : (n : ℕ) (before : List A) (y : A) → P n before y → Parts n before y) where
    -- what was read
    record Found (before : List A) (bytes : List ℕ) (x : A × List ℕ) : Type 0 where
      pub h : H × List ℕ
      pub t : T × List ℕ
      pub first : HasFront hs PH bytes h
      pub good : bad before h.0 ≡ false
      pub second : HasFront ts PT h.1 t
      pub is : x ≡ (make h.0 t.0, t.1)

    found : (before : List A) (bytes : List ℕ) (x : A × List ℕ) → IsBytes bytes → rule_at before bytes ≡ Ok x → Found before bytes x
    found before bytes x fits e =
        let a = bind_ok (head bytes) (λ h. judged before h) x e in
        let first = law.takes bytes a.0 fits a.1 in
        let g = guard_ok (bad before a.0.0) (suc (length a.0.1)) (tail_of a.0.0 (tail a.0.1)) x a.2 in
        let b = bind_ok (tail a.0.1) (λ t. Ok (make a.0.0 t.0, t.1)) x g.1 in
        record { h = a.0; t = b.0; first = first; good = g.0; second = law2.takes a.0.1 b.0 first.rest b.1; is = sym (ok_is (make a.0.0 b.0.0, b.0.1) x b.2) }

    takes : (n : ℕ) (before : List A) (bytes : List ℕ) (x : A × List ℕ) → IsBytes bytes → rule_at before bytes ≡ Ok x → HasFront spell (P n before) bytes x
    takes n before bytes x fits e =
        let f = found before bytes x fits e in
        let parts_are : bytes ≡ spell (make f.h.0 f.t.0) ++ f.t.1 =
        f.first.parts ∙ ap (λ (l : List ℕ). hs f.h.0 ++ l) f.second.parts ∙ sym (append_assoc (hs f.h.0) (ts f.t.0) f.t.1) ∙ ap (λ (l : List ℕ). l ++ f.t.1) (sym (spelled f.h.0 f.t.0)) in
        let fit : P n before (make f.h.0 f.t.0) = made n before (make f.h.0 f.t.0) (record { key = f.h.0; val = f.t.0; is = refl; key_fits = f.first.fits; val_fits = f.second.fits; rule = λ le. f.good }) in
        subst (λ y. HasFront spell (P n before) bytes y) (sym f.is) (record { parts = parts_are; rest = f.second.rest; fits = fit })

    regrouped : (h : H) (t : T) (more : List ℕ) → spell (make h t) ++ more ≡ hs h ++ (ts t ++ more)
    regrouped h t more = ap (λ (l : List ℕ). l ++ more) (spelled h t) ∙ append_assoc (hs h) (ts t) more

    spelled_len : (h : H) (t : T) → length (spell (make h t)) ≡ length (hs h) + length (ts t)
    spelled_len h t = ap length (spelled h t) ∙ length-append (hs h) (ts t)

    head_len : (bytes : List ℕ) (h : H × List ℕ) → HasFront hs PH bytes h → length bytes ≡ length (hs h.0) + length h.1
    head_len bytes h t = ap length t.parts ∙ length-append (hs h.0) h.1

    filler : A
    filler = make exact.some exact2.some

    filler_fits : (n : ℕ) (before : List A) → n < begin spell off before → P n before filler
    unfolding filler
    filler_fits n before lt = made n before (make exact.some exact2.some)
        (record { key = exact.some; val = exact2.some; is = refl; key_fits = exact.some_fits; val_fits = exact2.some_fits; rule = λ le. absurd (omega arith) })

    within : (before : List A) (bytes : List ℕ) (left : ℕ) → IsBytes bytes → rule_at before bytes ≡ Err left → left ≤ suc (length bytes)
    within before bytes left fits e = elim (bind_err (head bytes) (λ h. judged before h) left e) [
      | inl p ↦ let g = (exact.goes bytes left fits p).within in omega arith
      | inr p ↦
          let h = p.0 in
          let t = law.takes bytes h fits p.1 in
          let len = head_len bytes h t in
          elim (err_cases (bad before h.0) (suc (length h.1)) left (tail_of h.0 (tail h.1)) p.2) [
            | inl q ↦ omega (arith, q.1)
            | inr q ↦ elim (bind_err (tail h.1) (λ t. Ok (make h.0 t.0, t.1)) left q.1) [
              | inl r ↦ let g = (exact2.goes h.1 left t.rest r).within in omega arith
              | inr r ↦ absurd (let clash = r.2 in cc)
            ]
          ]
    ]

    goes_head : (before : List A) (bytes : List ℕ) (left n : ℕ) → IsBytes bytes → head bytes ≡ Err left → n + left ≡ begin spell off before + length bytes → ItemGoes spell off P before bytes n
    goes_head before bytes left n fits e sum =
        let g = exact.goes bytes left fits e in
        let le = g.within in
        let at : length bytes - left ≡ n - begin spell off before = omega arith in
        let lt = proper head hs PH law bytes left (length bytes - left) g.item e g.fits (omega arith) g.same in
        let y = make g.item exact2.some in
        let len = spelled_len g.item exact2.some in
        record {
          item = y;
          fits = made n before y (record { key = g.item; val = exact2.some; is = refl; key_fits = g.fits; val_fits = exact2.some_fits; rule = λ reach. absurd (omega arith) });
          same = λ more. ap (λ (l : List ℕ). take (n - begin spell off before) l) (regrouped g.item exact2.some more)
              ∙ subst (λ (m : ℕ). Same m (hs g.item ++ (ts exact2.some ++ more)) bytes) at (goes_longer head hs PH law bytes left e g (ts exact2.some ++ more));
          past = omega arith;
        }

    goes_bad : (before : List A) (bytes : List ℕ) (left n : ℕ) (h : H × List ℕ) → HasFront hs PH bytes h → suc (length h.1) ≡ left → n + left ≡ begin spell off before + length bytes → ItemGoes spell off P before bytes n
    goes_bad before bytes left n h t is sum =
        let len = head_len bytes h t in
        let y = make h.0 exact2.some in
        let len2 = spelled_len h.0 exact2.some in
        let m = n - begin spell off before in
        let short : m ≤ length (hs h.0) = omega arith in
        record {
          item = y;
          fits = made n before y (record { key = h.0; val = exact2.some; is = refl; key_fits = t.fits; val_fits = exact2.some_fits; rule = λ reach. absurd (omega arith) });
          same = λ more. ap (λ (l : List ℕ). take m l) (regrouped h.0 exact2.some more) ∙ same_front m (hs h.0) (ts exact2.some ++ more) h.1 short ∙ ap (λ (l : List ℕ). take m l) (sym t.parts);
          past = omega arith;
        }

    goes_tail : (before : List A) (bytes : List ℕ) (left n : ℕ) (h : H × List ℕ) → HasFront hs PH bytes h → bad before h.0 ≡ false → tail h.1 ≡ Err left → n + left ≡ begin spell off before + length bytes → ItemGoes spell off P before bytes n
    goes_tail before bytes left n h t good e sum =
        let g = exact2.goes h.1 left t.rest e in
        let le = g.within in
        let len = head_len bytes h t in
        let m = n - begin spell off before in
        let at : length h.1 - left ≡ m - length (hs h.0) = omega arith in
        let lt = proper tail ts PT law2 h.1 left (length h.1 - left) g.item e g.fits (omega arith) g.same in
        let y = make h.0 g.item in
        let len2 = spelled_len h.0 g.item in
        record {
          item = y;
          fits = made n before y (record { key = h.0; val = g.item; is = refl; key_fits = t.fits; val_fits = g.fits; rule = λ reach. good });
          same = λ more. ap (λ (l : List ℕ). take m l) (regrouped h.0 g.item more)
              ∙ behind_goes head hs PH law bytes h t m (ts g.item ++ more) (subst (λ (k : ℕ). Same k (ts g.item ++ more) h.1) at (goes_longer tail ts PT law2 h.1 left e g more));
          past = omega arith;
        }

    goes : (before : List A) (bytes : List ℕ) (left n : ℕ) → IsBytes bytes → rule_at before bytes ≡ Err left → n + left ≡ begin spell off before + length bytes → ItemGoes spell off P before bytes n
    goes before bytes left n fits e sum = elim (bind_err (head bytes) (λ h. judged before h) left e) [
      | inl p ↦ goes_head before bytes left n fits p sum
      | inr p ↦
          let h = p.0 in
          let t = law.takes bytes h fits p.1 in
          elim (err_cases (bad before h.0) (suc (length h.1)) left (tail_of h.0 (tail h.1)) p.2) [
            | inl q ↦ goes_bad before bytes left n h t q.1 sum
            | inr q ↦ elim (bind_err (tail h.1) (λ t. Ok (make h.0 t.0, t.1)) left q.1) [
              | inl r ↦ goes_tail before bytes left n h t q.0 r sum
              | inr r ↦ absurd (let clash = r.2 in cc)
            ]
          ]
    ]

    stops : (before : List A) (bytes : List ℕ) (left n : ℕ) (y : A) (r : List ℕ) → IsBytes bytes → rule_at before bytes ≡ Err (suc left) → n + left ≡ begin spell off before + length bytes → P n before y
        → Same (n - begin spell off before) (spell y ++ r) bytes → ⊥
    stops before bytes left n y r fits e sum p same =
        let q = parts n before y p in
        let m = n - begin spell off before in
        let agree : Same m (hs q.key ++ (ts q.val ++ r)) bytes =
        subst (λ (l : List ℕ). Same m l bytes) (regrouped q.key q.val r) (subst (λ (z : A). Same m (spell z ++ r) bytes) (sym q.is) same) in
        elim (bind_err (head bytes) (λ h. judged before h) (suc left) e) [
          | inl u ↦
              let le = (exact.goes bytes (suc left) fits u).within in
              let at : m ≡ length bytes - left = omega arith in
              exact.stops bytes left q.key (ts q.val ++ r) fits u q.key_fits (subst (λ (k : ℕ). Same k (hs q.key ++ (ts q.val ++ r)) bytes) at agree)
          | inr u ↦
              let h = u.0 in
              let t = law.takes bytes h fits u.1 in
              let len = head_len bytes h t in
              elim (err_cases (bad before h.0) (suc (length h.1)) (suc left) (tail_of h.0 (tail h.1)) u.2) [
                | inl v ↦
                    let k = v.1 in
                    let reaches : length (hs h.0) ≤ m = omega arith in
                    let one = (behind_stops head hs PH law bytes h t m q.key (ts q.val ++ r) q.key_fits reaches agree).0 in
                    let rule : begin spell off before + length (hs h.0) ≤ n → bad before h.0 ≡ false = subst (λ (z : H). begin spell off before + length (hs z) ≤ n → bad before z ≡ false) one q.rule in
                    both_ways (bad before h.0) (rule (omega arith)) v.0
                | inr v ↦ elim (bind_err (tail h.1) (λ t. Ok (make h.0 t.0, t.1)) (suc left) v.1) [
                  | inl w ↦
                      let le = (exact2.goes h.1 (suc left) t.rest w).within in
                      let reaches : length (hs h.0) ≤ m = omega arith in
                      let two = (behind_stops head hs PH law bytes h t m q.key (ts q.val ++ r) q.key_fits reaches agree).1 in
                      let at : m - length (hs h.0) ≡ length h.1 - left = omega arith in
                      exact2.stops h.1 left q.val r t.rest w q.val_fits (subst (λ (k : ℕ). Same k (ts q.val ++ r) h.1) at two)
                  | inr w ↦ let clash = w.2 in cc
                ]
              ]
        ]

    same_item : (before : List A) (bytes : List ℕ) (n m : ℕ) (x : A × List ℕ) (y : A) (r : List ℕ) → IsBytes bytes → rule_at before bytes ≡ Ok x → P n before y → length (spell x.0) ≤ m
        → Same m (spell y ++ r) bytes → (y ≡ x.0) × Same (m - length (spell x.0)) r x.1
    same_item before bytes n m x y r fits e p le same =
        let f = found before bytes x fits e in
        let q = parts n before y p in
        let x0 : x.0 ≡ make f.h.0 f.t.0 = ap (λ (z : A × List ℕ). z.0) f.is in
        let x1 : x.1 ≡ f.t.1 = ap (λ (z : A × List ℕ). z.1) f.is in
        let len : length (spell x.0) ≡ length (hs f.h.0) + length (ts f.t.0) = ap (λ (z : A). length (spell z)) x0 ∙ spelled_len f.h.0 f.t.0 in
        let agree : Same m (hs q.key ++ (ts q.val ++ r)) bytes =
        subst (λ (l : List ℕ). Same m l bytes) (regrouped q.key q.val r) (subst (λ (z : A). Same m (spell z ++ r) bytes) (sym q.is) same) in
        let one = behind_stops head hs PH law bytes f.h f.first m q.key (ts q.val ++ r) q.key_fits (omega arith) agree in
        let two = behind_stops tail ts PT law2 f.h.1 f.t f.second (m - length (hs f.h.0)) q.val r q.val_fits (omega arith) one.1 in
        let at : m - length (hs f.h.0) - length (ts f.t.0) ≡ m - length (spell x.0) = omega arith in (
          sym q.is ∙ ap (λ (h : H). make h q.val) one.0 ∙ ap (λ (t : T). make f.h.0 t) two.0 ∙ sym x0,
          subst (λ (l : List ℕ). Same (m - length (spell x.0)) r l) (sym x1) (subst (λ (k : ℕ). Same k r f.t.1) at two.1),
        )

    pub rule_placed : IsPlaced spell off (λ before bytes. head bytes >>= λ h. cond (bad before h.0) (Err (suc (length h.1))) (tail h.1 >>= λ t. Ok (make h.0 t.0, t.1))) P
    rule_placed = record { takes = takes; filler = filler; filler_fits = filler_fits; within = within; goes = goes; stops = stops; same = same_item }
