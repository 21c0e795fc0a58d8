-- Where a file stops: in its opening, its header, or its items, or behind them.
use Rattle.std.proofs.Common.{◌≡◌, ℕ, suc, ◌+◌, ◌-◌, ◌<◌, ◌≤◌, ◌⊎◌, Bool, cond, eqb, List, [], ◌∷◌, ◌++◌, length, take, Result, Ok, Err, refl, sym, ap, subst, ◌∙◌, arith, inl, inr}
use Rattle.std.specs.List.{flat_map}
use Rattle.std.proofs.lemmas.Bool.{cases_Bool, eqb-true, eqb-false}
use Rattle.std.proofs.lemmas.List.{length-append}
use Rattle.row_blob.specs.declared.kept.Kept.{Kept}
use Rattle.row_blob.specs.Spelling.{opening}
use Rattle.byte_formats.specs.Reading.{◌>>=◌, Read, literal_at, ended}
use Rattle.row_blob.specs.Reading.{items_at}
use Rattle.row_blob.specs.Kept.{AreInOrder}
use Rattle.byte_formats.proofs.Readers.{IsBytes, bind_ok, HasFront, IsReader}
use Rattle.row_blob.proofs.KeptLaws.{literal_takes}
use Rattle.byte_formats.proofs.Same.{Same, same_longer, same_behind, same_cancel}
use Rattle.byte_formats.proofs.Stopping.{IsExact, bind_err, proper, goes_longer, behind_goes, behind_stops}
use Rattle.byte_formats.proofs.Exact.{bytes_behind}
use Rattle.row_blob.proofs.ItemPlaces.{IsPlaced, begin, fills, length-fills, fills_fit, all_within, all_go, all_stop}

-- ---- fixed bytes

pub record LiteralGoes (cs bytes : List ℕ) (left : ℕ) : Type 0 where
  pub within : left ≤ length bytes
  pub short : length bytes - left < length cs
  pub same : Same (length bytes - left) cs bytes

literal_goes : (cs bytes : List ℕ) (left : ℕ) → literal_at cs bytes ≡ Err left → LiteralGoes cs bytes left
literal_goes [] bytes left e = absurd cc
literal_goes (c ∷ cs) [] left e =
    let z : 0 ≡ left = cc in
    let n : length {A = ℕ} [] - left ≡ 0 = omega arith in
    record { within = omega arith; short = omega arith; same = subst (λ (m : ℕ). Same m (c ∷ cs) []) (sym n) refl }
literal_goes (c ∷ cs) (b ∷ bs) left e = elim (cases_Bool (eqb b c)) [
  | inl t ↦
      let inner : literal_at cs bs ≡ Err left = sym (ap (λ (u : Bool). cond u (literal_at cs bs) (Err (suc (length bs)))) t) ∙ e in
      let g = literal_goes cs bs left inner in
      let within = g.within in
      let short = g.short in
      let first : c ≡ b = sym (eqb-true b c t) in
      let n : suc (length bs - left) ≡ length (b ∷ bs) - left = omega arith in
      record {
        within = omega arith;
        short = omega arith;
        same = subst (λ (m : ℕ). Same m (c ∷ cs) (b ∷ bs)) n (ap (λ (x : ℕ). x ∷ take (length bs - left) cs) first ∙ ap (λ (l : List ℕ). b ∷ l) g.same);
      }
  | inr f ↦
      let there : Err (suc (length bs)) ≡ Err left = sym (ap (λ (u : Bool). cond u (literal_at cs bs) (Err (suc (length bs)))) f) ∙ e in
      let z : suc (length bs) ≡ left = cc in
      let n : length (b ∷ bs) - left ≡ 0 = omega arith in
      record { within = omega arith; short = omega arith; same = subst (λ (m : ℕ). Same m (c ∷ cs) (b ∷ bs)) (sym n) refl }
]

literal_stops : (cs bytes : List ℕ) (left : ℕ) (r : List ℕ) → literal_at cs bytes ≡ Err (suc left) → Same (length bytes - left) (cs ++ r) bytes → ⊥
literal_stops [] bytes left r e same = cc
literal_stops (c ∷ cs) [] left r e same = let z : 0 ≡ suc left = cc in omega arith
literal_stops (c ∷ cs) (b ∷ bs) left r e same =
    let within = (literal_goes (c ∷ cs) (b ∷ bs) (suc left) e).within in
    let n : length (b ∷ bs) - left ≡ suc (length bs - left) = omega arith in
    let both : Same (suc (length bs - left)) (c ∷ (cs ++ r)) (b ∷ bs) = subst (λ (m : ℕ). Same m (c ∷ (cs ++ r)) (b ∷ bs)) n same in
    let first : b ≡ c = cc in
    let rest : Same (length bs - left) (cs ++ r) bs = cc in
    elim (cases_Bool (eqb b c)) [
      | inl t ↦ literal_stops cs bs left r (sym (ap (λ (u : Bool). cond u (literal_at cs bs) (Err (suc (length bs)))) t) ∙ e) rest
      | inr f ↦ eqb-false b c f first
    ]

-- what was read before the end doesn't matter
pub ended_as : {Y Z : Type 0} (y : Y) (z : Z) (rest : List ℕ) (left : ℕ) → ended (y, rest) ≡ Err left → ended (z, rest) ≡ Err left
ended_as y z [] left e = absurd cc
ended_as y z (b ∷ bs) left e = let h : suc (length bs) ≡ left = cc in ap (λ (n : ℕ). Err n) h

module _ {X A : Type 0} (form : ℕ) (header : List ℕ → Read X) (hs : X → List ℕ) (PX : X → Type 0) (law : IsReader header hs PX) (exact : IsExact header hs PX)
    (spell : A → List ℕ) (off : ℕ) (header_len : (h : X) → 8 + length (hs h) ≡ off) (item : X → List A → List ℕ → Read A) (P : X → ℕ → List A → A → Type 0)
    (placed : (h : X) → IsPlaced spell off (item h) (P h)) (count : X → ℕ) where
  abbrev items_of : X × List ℕ → Result (List A) ℕ
  items_of h = items_at (item h.0) (count h.0) [] h.1 >>= λ x. ended x

  abbrev pub whole : X → List A → List ℕ
  whole h xs = opening form ++ (hs h ++ flat_map spell xs)

  -- the part that stops
  pub record ItemsFail (rest : List ℕ) (left : ℕ) : Type 0 where
    pub h : X × List ℕ
    pub read : header rest ≡ Ok h
    pub items : items_of h ≡ Err left

  pub record BehindOpening (bytes : List ℕ) (left : ℕ) : Type 0 where
    pub rest : List ℕ
    pub read : literal_at (opening form) bytes ≡ Ok rest
    pub fails : (header rest ≡ Err left) ⊎ ItemsFail rest left

  abbrev pub FileFails : List ℕ → ℕ → Type 0
  FileFails bytes left = (literal_at (opening form) bytes ≡ Err left) ⊎ BehindOpening bytes left

  -- what a file holds, as far as its first n bytes tell
  pub record Holds (n : ℕ) (h : X) (xs : List A) : Type 0 where
    pub header_fits : PX h
    pub counted : length xs ≡ count h
    pub fit : AreInOrder (P h n) [] xs

  pub record FileGoes (bytes : List ℕ) (left : ℕ) : Type 0 where
    pub within : left ≤ length bytes
    pub h : X
    pub xs : List A
    pub holds : Holds (length bytes - left) h xs
    pub same : Same (length bytes - left) (whole h xs) bytes

  filled : X → List A
  filled h = fills spell off (item h) (P h) (placed h) (count h)

  filled_holds : (n : ℕ) (h : X) → PX h → n < off → Holds n h (filled h)
  unfolding filled
  filled_holds n h fits lt = record {
    header_fits = fits;
    counted = length-fills spell off (item h) (P h) (placed h) (count h);
    fit = fills_fit spell off (item h) (P h) (placed h) (count h) n [] (omega arith);
  }

  rest_len : (bytes rest : List ℕ) → literal_at (opening form) bytes ≡ Ok rest → length bytes ≡ 8 + length rest
  rest_len bytes rest e = ap length (literal_takes (opening form) bytes rest e) ∙ length-append (opening form) rest

  -- behind the opening
  opened_goes : (bytes rest : List ℕ) (n : ℕ) (ys : List ℕ) → literal_at (opening form) bytes ≡ Ok rest → Same (n - 8) ys rest → Same n (opening form ++ ys) bytes
  opened_goes bytes rest n ys e same = same_behind n (opening form) ys rest same ∙ ap (λ (l : List ℕ). take n l) (sym (literal_takes (opening form) bytes rest e))

  opened_stops : (bytes rest : List ℕ) (n : ℕ) (ys : List ℕ) → literal_at (opening form) bytes ≡ Ok rest → 8 ≤ n → Same n (opening form ++ ys) bytes → Same (n - 8) ys rest
  opened_stops bytes rest n ys e le same = same_cancel n (opening form) ys rest le (same ∙ ap (λ (l : List ℕ). take n l) (literal_takes (opening form) bytes rest e))

  rest_fits : (bytes rest : List ℕ) → IsBytes bytes → literal_at (opening form) bytes ≡ Ok rest → IsBytes rest
  rest_fits bytes rest fits e = bytes_behind (opening form) rest (subst IsBytes (literal_takes (opening form) bytes rest e) fits)

  items_len : (rest : List ℕ) (h : X × List ℕ) → HasFront hs PX rest h → length rest ≡ length (hs h.0) + length h.1
  items_len rest h t = ap length t.parts ∙ length-append (hs h.0) h.1

  pub file_goes : (bytes : List ℕ) (left : ℕ) → IsBytes bytes → FileFails bytes left → FileGoes bytes left
  file_goes bytes left fits fails = elim fails [
    | inl e ↦
        let g = literal_goes (opening form) bytes left e in
        let short : length bytes - left < 8 = g.short in
        let h = exact.some in
        let len = header_len h in
        record {
          within = g.within;
          h = h;
          xs = filled h;
          holds = filled_holds (length bytes - left) h exact.some_fits (omega arith);
          same = same_longer (length bytes - left) (opening form) (hs h ++ flat_map spell (filled h)) bytes (omega arith) g.same;
        }
    | inr b ↦
        let n = length bytes - left in
        let rest = b.rest in
        let fits2 = rest_fits bytes rest fits b.read in
        let len = rest_len bytes rest b.read in
        elim b.fails [
          | inl e ↦
              let g = exact.goes rest left fits2 e in
              let within = g.within in
              let lt = proper header hs PX law rest left (length rest - left) g.item e g.fits (omega arith) g.same in
              let len2 = header_len g.item in
              let at : length rest - left ≡ n - 8 = omega arith in
              let ys = hs g.item ++ flat_map spell (filled g.item) in
              record {
                within = omega arith;
                h = g.item;
                xs = filled g.item;
                holds = filled_holds n g.item g.fits (omega arith);
                same = opened_goes bytes rest n ys b.read (subst (λ (m : ℕ). Same m ys rest) at (goes_longer header hs PX law rest left e g (flat_map spell (filled g.item))));
              }
          | inr i ↦
              let h = i.h in
              let t = law.takes rest h fits2 i.read in
              let len2 = items_len rest h t in
              let len3 = header_len h.0 in
              let within = all_within spell off (item h.0) (P h.0) (placed h.0) (count h.0) [] h.1 left t.rest i.items in
              let sum : n + left ≡ begin spell off [] + length h.1 = omega arith in
              let g = all_go spell off (item h.0) (P h.0) (placed h.0) (count h.0) [] h.1 left n t.rest i.items sum in
              let at : n - begin spell off [] ≡ n - 8 - length (hs h.0) = omega arith in
              let ys = flat_map spell g.items in
              record {
                within = omega arith;
                h = h.0;
                xs = g.items;
                holds = record { header_fits = t.fits; counted = g.count; fit = g.fit };
                same = opened_goes bytes rest n (hs h.0 ++ ys) b.read (behind_goes header hs PX law rest h t (n - 8) ys (subst (λ (m : ℕ). Same m ys h.1) at g.same));
              }
        ]
  ]

  pub file_stops : (bytes : List ℕ) (left : ℕ) (k : X) (xs : List A) → IsBytes bytes → FileFails bytes (suc left) → Holds (length bytes - left) k xs → Same (length bytes - left) (whole k xs) bytes → ⊥
  file_stops bytes left k xs fits fails holds same =
      let n = length bytes - left in
      let ys = flat_map spell xs in
      elim fails [
        | inl e ↦ literal_stops (opening form) bytes left (hs k ++ ys) e same
        | inr b ↦
            let rest = b.rest in
            let fits2 = rest_fits bytes rest fits b.read in
            let len = rest_len bytes rest b.read in
            elim b.fails [
              | inl e ↦
                  let within = (exact.goes rest (suc left) fits2 e).within in
                  let same2 = opened_stops bytes rest n (hs k ++ ys) b.read (omega arith) same in
                  let at : n - 8 ≡ length rest - left = omega arith in
                  exact.stops rest left k ys fits2 e holds.header_fits (subst (λ (m : ℕ). Same m (hs k ++ ys) rest) at same2)
              | inr i ↦
                  let h = i.h in
                  let t = law.takes rest h fits2 i.read in
                  let len2 = items_len rest h t in
                  let len3 = header_len h.0 in
                  let within = all_within spell off (item h.0) (P h.0) (placed h.0) (count h.0) [] h.1 (suc left) t.rest i.items in
                  let same2 = opened_stops bytes rest n (hs k ++ ys) b.read (omega arith) same in
                  let one = behind_stops header hs PX law rest h t (n - 8) k ys holds.header_fits (omega arith) same2 in
                  let held : Holds n h.0 xs = subst (λ (z : X). Holds n z xs) one.0 holds in
                  let sum : n + left ≡ begin spell off [] + length h.1 = omega arith in
                  let at : n - 8 - length (hs h.0) ≡ n - begin spell off [] = omega arith in
                  all_stop spell off (item h.0) (P h.0) (placed h.0) (count h.0) [] h.1 left n xs t.rest i.items sum held.counted held.fit (subst (λ (m : ℕ). Same m ys h.1) at one.1)
            ]
      ]

  -- ---- how a file is read

  pub counted_fails : (make : List A → Kept) (bytes : List ℕ) (left : ℕ)
      → (literal_at (opening form) bytes >>= λ rest. (header rest >>= λ h. items_at (item h.0) (count h.0) [] h.1) >>= λ xs. ended (make xs.0, xs.1)) ≡ Err left → FileFails bytes left
  counted_fails make bytes left e =
      let items = λ (h : X × List ℕ). items_at (item h.0) (count h.0) [] h.1 in
      elim (bind_err (literal_at (opening form) bytes) (λ rest. (header rest >>= items) >>= λ xs. ended (make xs.0, xs.1)) left e) [
        | inl p ↦ inl p
        | inr p ↦ inr (record {
          rest = p.0;
          read = p.1;
          fails = elim (bind_err (header p.0 >>= items) (λ xs. ended (make xs.0, xs.1)) left p.2) [
            | inl q ↦ elim (bind_err (header p.0) items left q) [
              | inl r ↦ inl r
              | inr r ↦ inr (record { h = r.0; read = r.1; items = ap (λ (m : Read (List A)). m >>= λ x. ended x) r.2 })
            ]
            | inr q ↦
                let r = bind_ok (header p.0) items q.0 q.1 in
                inr (record { h = r.0; read = r.1; items = ap (λ (m : Read (List A)). m >>= λ x. ended x) r.2 ∙ ended_as (make q.0.0) q.0.0 q.0.1 left q.2 })
          ];
        })
      ]
