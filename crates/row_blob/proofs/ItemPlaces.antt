-- Where items behind their count stop, each of which knows those before it.
use Rattle.std.proofs.Common.{◌≡◌, ℕ, zero, suc, ◌+◌, ◌-◌, ◌<◌, ◌≤◌, ◌⊎◌, List, [], ◌∷◌, ◌++◌, length, take, Result, Ok, Err, refl, sym, ap, subst, ◌∙◌, arith, inl, inr}
use Rattle.std.specs.List.{flat_map}
use Rattle.std.proofs.lemmas.List.{append-nil, length-append}
use Rattle.std.proofs.lemmas.Grind.{flat_map-append}
use Rattle.byte_formats.specs.Reading.{◌>>=◌, Read, ended}
use Rattle.row_blob.specs.Reading.{items_at}
use Rattle.row_blob.specs.Kept.{AreInOrder}
use Rattle.byte_formats.proofs.Readers.{IsBytes, bind_ok, HasFront, IsReader}
use Rattle.byte_formats.proofs.Same.{Same, same_behind}
use Rattle.byte_formats.proofs.Stopping.{IsExact, bind_err, proper, goes_longer, behind_stops}

module _ {A : Type 0} (spell : A → List ℕ) (off : ℕ) where
  -- where an item begins, in the file
  abbrev pub begin : List A → ℕ
  begin before = off + length (flat_map spell before)

  pub begin_next : (before : List A) (x : A) → begin (before ++ x ∷ []) ≡ begin before + length (spell x)
  begin_next before x =
      let e : length (flat_map spell (before ++ x ∷ [])) ≡ length (flat_map spell before) + length (spell x) =
      ap length (flat_map-append spell before (x ∷ []) ∙ ap (λ (l : List ℕ). flat_map spell before ++ l) (append-nil (spell x))) ∙ length-append (flat_map spell before) (spell x) in
      omega (arith, e)

  -- an item at which reading stops, with the first n bytes of the file
  pub record ItemGoes (P : ℕ → List A → A → Type 0) (before : List A) (bytes : List ℕ) (n : ℕ) : Type 0 where
    pub item : A
    pub fits : P n before item
    pub same : (more : List ℕ) → Same (n - begin before) (spell item ++ more) bytes
    pub past : n < begin before + length (spell item)

  -- what an item owes, P being what is said of one by the first n bytes of the file
  pub record IsPlaced (item : List A → List ℕ → Read A) (P : ℕ → List A → A → Type 0) : Type 0 where
    pub takes : (n : ℕ) (before : List A) (bytes : List ℕ) (x : A × List ℕ) → IsBytes bytes → item before bytes ≡ Ok x → HasFront spell (P n before) bytes x
    pub filler : A
    pub filler_fits : (n : ℕ) (before : List A) → n < begin before → P n before filler
    pub within : (before : List A) (bytes : List ℕ) (left : ℕ) → IsBytes bytes → item before bytes ≡ Err left → left ≤ suc (length bytes)
    pub goes : (before : List A) (bytes : List ℕ) (left n : ℕ) → IsBytes bytes → item before bytes ≡ Err left → n + left ≡ begin before + length bytes → ItemGoes P before bytes n
    pub stops : (before : List A) (bytes : List ℕ) (left n : ℕ) (y : A) (r : List ℕ) → IsBytes bytes → item before bytes ≡ Err (suc left) → n + left ≡ begin before + length bytes → P n before y
        → Same (n - begin before) (spell y ++ r) bytes → ⊥
    pub same : (before : List A) (bytes : List ℕ) (n m : ℕ) (x : A × List ℕ) (y : A) (r : List ℕ) → IsBytes bytes → item before bytes ≡ Ok x → P n before y → length (spell x.0) ≤ m
        → Same m (spell y ++ r) bytes → (y ≡ x.0) × Same (m - length (spell x.0)) r x.1

  module _ (item : List A → List ℕ → Read A) (P : ℕ → List A → A → Type 0) (placed : IsPlaced item P) where
    abbrev to_end : Read (List A) → Result (List A) ℕ
    to_end r = r >>= λ x. ended x

    -- items that the file's first n bytes don't reach
    pub fills : ℕ → List A
    fills zero = []
    fills (suc k) = placed.filler ∷ fills k

    pub length-fills : (k : ℕ) → length (fills k) ≡ k
    unfolding fills
    length-fills zero = refl
    length-fills (suc k) = ap suc (length-fills k)

    pub fills_fit : (k n : ℕ) (before : List A) → n < begin before → AreInOrder (P n) before (fills k)
    unfolding fills
    fills_fit zero n before lt = tt
    fills_fit (suc k) n before lt = (placed.filler_fits n before lt, fills_fit k n (before ++ placed.filler ∷ []) (let e = begin_next before placed.filler in omega arith))

    -- the first item fails, or it is read and the others fail
    pub record Rest (k : ℕ) (before : List A) (bytes : List ℕ) (left : ℕ) : Type 0 where
      pub first : A × List ℕ
      pub read : item before bytes ≡ Ok first
      pub others : to_end (items_at item k (before ++ first.0 ∷ []) first.1) ≡ Err left

    first_or_rest : (k : ℕ) (before : List A) (bytes : List ℕ) (left : ℕ) → to_end (items_at item (suc k) before bytes) ≡ Err left → (item before bytes ≡ Err left) ⊎ Rest k before bytes left
    first_or_rest k before bytes left e =
        let next = λ (x : A × List ℕ). items_at item k (before ++ x.0 ∷ []) x.1 in
        elim (bind_err (item before bytes >>= next) (λ x. ended x) left e) [
          | inl h ↦ elim (bind_err (item before bytes) next left h) [
            | inl p ↦ inl p
            | inr p ↦ inr (record { first = p.0; read = p.1; others = ap to_end p.2 })
          ]
          | inr h ↦
              let p = bind_ok (item before bytes) next h.0 h.1 in
              inr (record { first = p.0; read = p.1; others = ap to_end p.2 ∙ h.2 })
        ]

    ended_err : (before : List A) (bytes : List ℕ) (left : ℕ) → ended (before, bytes) ≡ Err left → (left ≡ length bytes) × (0 < length bytes)
    ended_err before [] left e = absurd cc
    ended_err before (b ∷ bs) left e = (let h : suc (length bs) ≡ left = cc in omega arith, omega arith)

    parts_len : (before : List A) (bytes : List ℕ) (x : A × List ℕ) → IsBytes bytes → item before bytes ≡ Ok x → length bytes ≡ length (spell x.0) + length x.1
    parts_len before bytes x fits e = ap length (placed.takes 0 before bytes x fits e).parts ∙ length-append (spell x.0) x.1

    pub all_within : (k : ℕ) (before : List A) (bytes : List ℕ) (left : ℕ) → IsBytes bytes → to_end (items_at item k before bytes) ≡ Err left → left ≤ suc (length bytes)
    all_within zero before bytes left fits e = let h = ended_err before bytes left e in omega arith
    all_within (suc k) before bytes left fits e = elim (first_or_rest k before bytes left e) [
      | inl h ↦ placed.within before bytes left fits h
      | inr h ↦
          let t = placed.takes 0 before bytes h.first fits h.read in
          let ih = all_within k (before ++ h.first.0 ∷ []) h.first.1 left t.rest h.others in
          let e2 = parts_len before bytes h.first fits h.read in
          omega arith
    ]

    pub record AllGo (k : ℕ) (before : List A) (bytes : List ℕ) (n : ℕ) : Type 0 where
      pub items : List A
      pub count : length items ≡ k
      pub fit : AreInOrder (P n) before items
      pub same : Same (n - begin before) (flat_map spell items) bytes

    pub all_go : (k : ℕ) (before : List A) (bytes : List ℕ) (left n : ℕ) → IsBytes bytes → to_end (items_at item k before bytes) ≡ Err left → n + left ≡ begin before + length bytes → AllGo k before bytes n
    all_go zero before bytes left n fits e sum =
        let h = ended_err before bytes left e in
        let none : n - begin before ≡ 0 = omega (arith, h.0) in
        record { items = []; count = refl; fit = tt; same = subst (λ (m : ℕ). Same m [] bytes) (sym none) refl }
    all_go (suc k) before bytes left n fits e sum = elim (first_or_rest k before bytes left e) [
      | inl h ↦
          let g = placed.goes before bytes left n fits h sum in
          let past : n < begin (before ++ g.item ∷ []) = let e2 = begin_next before g.item in let lt = g.past in omega arith in
          record { items = g.item ∷ fills k; count = ap suc (length-fills k); fit = (g.fits, fills_fit k n (before ++ g.item ∷ []) past); same = g.same (flat_map spell (fills k)) }
      | inr h ↦
          let x = h.first in
          let t = placed.takes n before bytes x fits h.read in
          let len = parts_len before bytes x fits h.read in
          let next = begin_next before x.0 in
          let ih = all_go k (before ++ x.0 ∷ []) x.1 left n t.rest h.others (omega arith) in
          let at : n - begin (before ++ x.0 ∷ []) ≡ n - begin before - length (spell x.0) = omega arith in
          record {
            items = x.0 ∷ ih.items;
            count = ap suc ih.count;
            fit = (t.fits, ih.fit);
            same = same_behind (n - begin before) (spell x.0) (flat_map spell ih.items) x.1 (subst (λ (m : ℕ). Same m (flat_map spell ih.items) x.1) at ih.same)
                ∙ ap (λ (l : List ℕ). take (n - begin before) l) (sym t.parts);
          }
    ]

    pub all_stop : (k : ℕ) (before : List A) (bytes : List ℕ) (left n : ℕ) (ys : List A) → IsBytes bytes → to_end (items_at item k before bytes) ≡ Err (suc left) → n + left ≡ begin before + length bytes → length ys ≡ k
        → AreInOrder (P n) before ys → Same (n - begin before) (flat_map spell ys) bytes → ⊥
    all_stop zero before [] left n [] fits e sum len fit same = absurd cc
    all_stop zero before (b ∷ bs) left n [] fits e sum len fit same =
        let h = ended_err before (b ∷ bs) (suc left) e in
        let one : n - begin before ≡ 1 = omega (arith, h.0) in
        let clash : Same 1 [] (b ∷ bs) = subst (λ (m : ℕ). Same m [] (b ∷ bs)) one same in
        cc
    all_stop zero before bytes left n (y ∷ ys) fits e sum len fit same = omega arith
    all_stop (suc k) before bytes left n [] fits e sum len fit same = omega arith
    all_stop (suc k) before bytes left n (y ∷ ys) fits e sum len fit same = elim (first_or_rest k before bytes (suc left) e) [
      | inl h ↦ placed.stops before bytes left n y (flat_map spell ys) fits h sum fit.0 same
      | inr h ↦
          let x = h.first in
          let t = placed.takes n before bytes x fits h.read in
          let parts = parts_len before bytes x fits h.read in
          let next = begin_next before x.0 in
          let within = all_within k (before ++ x.0 ∷ []) x.1 (suc left) t.rest h.others in
          let reaches : length (spell x.0) ≤ n - begin before = omega arith in
          let one = placed.same before bytes n (n - begin before) x y (flat_map spell ys) fits h.read fit.0 reaches same in
          let at : n - begin before - length (spell x.0) ≡ n - begin (before ++ x.0 ∷ []) = omega arith in
          let fit2 : AreInOrder (P n) (before ++ x.0 ∷ []) ys = subst (λ (z : A). AreInOrder (P n) (before ++ z ∷ []) ys) one.0 fit.1 in
          all_stop k (before ++ x.0 ∷ []) x.1 left n ys t.rest h.others (omega arith) (omega arith) fit2 (subst (λ (m : ℕ). Same m (flat_map spell ys) x.1) at one.1)
    ]

  -- ---- items with no rule

  pub plain_placed : (read : List ℕ → Read A) (P : A → Type 0) → IsReader read spell P → IsExact read spell P → IsPlaced (λ before. read) (λ n before. P)
  plain_placed read P law exact = record {
    takes = λ n before bytes x fits e. law.takes bytes x fits e;
    filler = exact.some;
    filler_fits = λ n before lt. exact.some_fits;
    within = λ before bytes left fits e. let g = (exact.goes bytes left fits e).within in omega arith;
    goes = λ before bytes left n fits e sum.
        let g = exact.goes bytes left fits e in
        let within = g.within in
        let at : length bytes - left ≡ n - begin before = omega arith in
        let lt = proper read spell P law bytes left (length bytes - left) g.item e g.fits (omega arith) g.same in
        record {
          item = g.item;
          fits = g.fits;
          same = λ more. subst (λ (m : ℕ). Same m (spell g.item ++ more) bytes) at (goes_longer read spell P law bytes left e g more);
          past = omega arith;
        };
    stops = λ before bytes left n y r fits e sum p same.
        let within = (exact.goes bytes (suc left) fits e).within in
        let at : n - begin before ≡ length bytes - left = omega arith in
        exact.stops bytes left y r fits e p (subst (λ (m : ℕ). Same m (spell y ++ r) bytes) at same);
    same = λ before bytes n m x y r fits e p le same. behind_stops read spell P law bytes x (law.takes bytes x fits e) m y r p le same;
  }
