-- Bodies and gates as bytes: a file has one reading.
use Rattle.std.proofs.Common.{◌≡◌, ◌≢◌, ◌⊎◌, inl, inr, ℕ, ◌+◌, ◌^◌, ◌<◌, List, [], ◌∷◌, ◌++◌, length, take, drop, refl, sym, ap, ◌∙◌, subst, arith, append_assoc}
use Rattle.std.specs.List.{All}
use Rattle.std.specs.Int.{w32, from_be_bytes}
use Rattle.std.proofs.lemmas.List.{append_cancel_left, take_at, drop_at, take-append-le, take-take}
use Rattle.std.proofs.lemmas.List.Elements.{All-head, All-tail}
use Rattle.std.proofs.lemmas.Bool.{cases_order}
use Rattle.std.proofs.lemmas.Nat.{from_be_bytes-to_be_bytes_4}
use Rattle.gated_log.specs.Logs.{header, length_bytes, spelled, IsBody, blocks, front, Reads, NoGate, StopsInHeader, StopsAt}

pub length-length_bytes : (n : ℕ) → length (length_bytes n) ≡ 4
unfolding length_bytes
length-length_bytes n = refl

-- a length is known by its bytes
pub length_bytes_back : (n : ℕ) → n < 2 ^ 32 → from_be_bytes w32 (length_bytes n) ≡ n
unfolding length_bytes
length_bytes_back n small = from_be_bytes-to_be_bytes_4 n small

pub length_bytes_same : (m n : ℕ) → m < 2 ^ 32 → n < 2 ^ 32 → length_bytes m ≡ length_bytes n → m ≡ n
length_bytes_same m n small_m small_n same =
    sym (length_bytes_back m small_m) ∙ ap (λ (l : List ℕ). from_be_bytes w32 l) same ∙ length_bytes_back n small_n

-- the fronts of one length of equal lists are equal, and so is what stands behind them
pub same_fronts : (a b xs ys : List ℕ) → length a ≡ length b → a ++ xs ≡ b ++ ys → a ≡ b
same_fronts a b xs ys size same =
    sym (take_at a xs (length a) refl) ∙ ap (λ (l : List ℕ). take (length a) l) same ∙ take_at b ys (length a) (sym size)

pub same_backs : (a b xs ys : List ℕ) → length a ≡ length b → a ++ xs ≡ b ++ ys → xs ≡ ys
same_backs a b xs ys size same =
    sym (drop_at a xs (length a) refl) ∙ ap (λ (l : List ℕ). drop (length a) l) same ∙ drop_at b ys (length a) (sym size)

-- what stands in front of these bytes as a length and a body is one body
pub same_bodies : (a b xs ys : List ℕ) → IsBody a → IsBody b → spelled a ++ xs ≡ spelled b ++ ys → a ≡ b
same_bodies a b xs ys is_a is_b same =
    let regrouped : length_bytes (length a) ++ (a ++ xs) ≡ length_bytes (length b) ++ (b ++ ys) =
    sym (append_assoc (length_bytes (length a)) a xs) ∙ same ∙ append_assoc (length_bytes (length b)) b ys in
    let sizes : length (length_bytes (length a)) ≡ length (length_bytes (length b)) = length-length_bytes (length a) ∙ sym (length-length_bytes (length b)) in
    let size : length a ≡ length b = length_bytes_same (length a) (length b) is_a.1 is_b.1 (same_fronts _ _ _ _ sizes regrouped) in
    same_fronts a b xs ys size (same_backs (length_bytes (length a)) (length_bytes (length b)) (a ++ xs) (b ++ ys) sizes regrouped)

pub same_behind : (a b xs ys : List ℕ) → IsBody a → IsBody b → spelled a ++ xs ≡ spelled b ++ ys → xs ≡ ys
same_behind a b xs ys is_a is_b same =
    let one : a ≡ b = same_bodies a b xs ys is_a is_b same in
    append_cancel_left (spelled b) xs ys (ap (λ (l : List ℕ). spelled l ++ xs) (sym one) ∙ same)

-- an open gate stands here, and a body behind it
abbrev pub HasBody : List ℕ → Type 0
HasBody bytes = (body : List ℕ) × (after : List ℕ) × IsBody body × (bytes ≡ 1 ∷ (spelled body ++ after))

-- Two readings of the same bytes: either the bodies are the same, and so is what stands behind them, or behind the
-- bodies of one there is a further body.
abbrev pub Compared : List (List ℕ) → List (List ℕ) → List ℕ → List ℕ → Type 0
Compared ps qs xs ys = ((ps ≡ qs) × (xs ≡ ys)) ⊎ (HasBody xs ⊎ HasBody ys)

pub compare_blocks : (ps qs : List (List ℕ)) (xs ys : List ℕ) → All IsBody ps → All IsBody qs → blocks ps ++ xs ≡ blocks qs ++ ys → Compared ps qs xs ys
compare_blocks [] [] xs ys all_p all_q same = inl (refl, same)
compare_blocks [] (q ∷ qs) xs ys all_p all_q same =
    inr (inl (q, blocks qs ++ ys, All-head IsBody q qs all_q, same ∙ ap (λ (l : List ℕ). 1 ∷ l) (append_assoc (spelled q) (blocks qs) ys)))
compare_blocks (p ∷ ps) [] xs ys all_p all_q same =
    inr (inr (p, blocks ps ++ xs, All-head IsBody p ps all_p, sym same ∙ ap (λ (l : List ℕ). 1 ∷ l) (append_assoc (spelled p) (blocks ps) xs)))
compare_blocks (p ∷ ps) (q ∷ qs) xs ys all_p all_q same =
    let is_p : IsBody p = All-head IsBody p ps all_p in
    let is_q : IsBody q = All-head IsBody q qs all_q in
    let behind_gate : (spelled p ++ blocks ps) ++ xs ≡ (spelled q ++ blocks qs) ++ ys = cc in
    let regrouped : spelled p ++ (blocks ps ++ xs) ≡ spelled q ++ (blocks qs ++ ys) =
    sym (append_assoc (spelled p) (blocks ps) xs) ∙ behind_gate ∙ append_assoc (spelled q) (blocks qs) ys in
    let one : p ≡ q = same_bodies p q (blocks ps ++ xs) (blocks qs ++ ys) is_p is_q regrouped in
    let rest : blocks ps ++ xs ≡ blocks qs ++ ys = same_behind p q (blocks ps ++ xs) (blocks qs ++ ys) is_p is_q regrouped in
    elim (compare_blocks ps qs xs ys (All-tail IsBody p ps all_p) (All-tail IsBody q qs all_q) rest) [
      | inl both ↦ inl (let tails : ps ≡ qs = both.0 in cc, both.1)
      | inr further ↦ inr further
    ]

pub compare_fronts : (ps qs : List (List ℕ)) (xs ys : List ℕ) → All IsBody ps → All IsBody qs → front ps ++ xs ≡ front qs ++ ys → Compared ps qs xs ys
unfolding front
compare_fronts ps qs xs ys all_p all_q same =
    compare_blocks ps qs xs ys all_p all_q (append_cancel_left header (blocks ps ++ xs) (blocks qs ++ ys) same)

closed_has_none : (gate : ℕ) (rest : List ℕ) → gate ≢ 1 → HasBody (gate ∷ rest) → ⊥
closed_has_none gate rest closed has = closed (let is = has.3 in cc)

no_gate_has_none : (bytes : List ℕ) → NoGate bytes → HasBody bytes → ⊥
no_gate_has_none [] bad has = let is = has.3 in cc
no_gate_has_none (gate ∷ more) bad has =
    bad.1 has.0 has.1 has.2 (let is = has.3 in cc)

-- A file has one reading.
pub one_reading : (ps qs : List (List ℕ)) (file : List ℕ) → Reads ps file → Reads qs file → ps ≡ qs
one_reading ps qs file p q = elim (compare_fronts ps qs _ _ p.sizes q.sizes (sym p.is ∙ q.is)) [
  | inl both ↦ both.0
  | inr further ↦ elim further [
    | inl has ↦ absurd (closed_has_none p.gate p.rest p.closed has)
    | inr has ↦ absurd (closed_has_none q.gate q.rest q.closed has)
  ]
]

in_front : (at : ℕ) (ps : List (List ℕ)) (file rest : List ℕ) → at < 8 → file ≡ front ps ++ rest → take (at + 1) file ≡ take (at + 1) header
unfolding front
in_front at ps file rest within is =
    ap (λ (l : List ℕ). take (at + 1) l) is ∙ take-append-le (at + 1) header (blocks ps ++ rest) (omega (arith, within))

-- A file that has a reading is read to its end.
pub reads_or_stops : (ps : List (List ℕ)) (at : ℕ) (file : List ℕ) → Reads ps file → StopsAt at file → ⊥
reads_or_stops ps at file p (inl stop) = stop.differs (in_front at ps file (p.gate ∷ p.rest) stop.within p.is)
reads_or_stops ps at file p (inr stop) = elim (compare_fronts ps stop.0 _ _ p.sizes stop.1.sizes (sym p.is ∙ stop.1.is)) [
  | inl both ↦ no_gate_closed p.gate p.rest p.closed (subst NoGate (sym both.1) stop.1.bad)
  | inr further ↦ elim further [
    | inl has ↦ closed_has_none p.gate p.rest p.closed has
    | inr has ↦ no_gate_has_none stop.1.rest stop.1.bad has
  ]
] where
  no_gate_closed : (gate : ℕ) (rest : List ℕ) → gate ≢ 1 → NoGate (gate ∷ rest) → ⊥
  no_gate_closed gate rest closed bad = closed bad.0

header_first : (a b : ℕ) (file : List ℕ) → StopsInHeader a file → StopsInHeader b file → a < b → ⊥
header_first a b file first second less =
    first.differs (sym (take-take (a + 1) b file (omega (arith, less))) ∙ ap (λ (l : List ℕ). take (a + 1) l) second.same ∙ take-take (a + 1) b header (omega (arith, less)))

-- Reading stops at one place.
pub stops_once : (a b : ℕ) (file : List ℕ) → StopsAt a file → StopsAt b file → a ≡ b
stops_once a b file (inl first) (inl second) = elim (cases_order a b) [
  | inl same ↦ same
  | inr other ↦ elim other [
    | inl less ↦ absurd (header_first a b file first second less)
    | inr more ↦ absurd (header_first b a file second first more)
  ]
]
stops_once a b file (inl first) (inr second) = absurd (first.differs (in_front a second.0 file second.1.rest first.within second.1.is))
stops_once a b file (inr first) (inl second) = absurd (second.differs (in_front b first.0 file first.1.rest second.within first.1.is))
stops_once a b file (inr first) (inr second) =
    elim (compare_fronts first.0 second.0 _ _ first.1.sizes second.1.sizes (sym first.1.is ∙ second.1.is)) [
      | inl both ↦ first.1.place ∙ ap (λ (ps : List (List ℕ)). length (front ps)) both.0 ∙ sym second.1.place
      | inr further ↦ elim further [
        | inl has ↦ absurd (no_gate_has_none first.1.rest first.1.bad has)
        | inr has ↦ absurd (no_gate_has_none second.1.rest second.1.bad has)
      ]
    ]
