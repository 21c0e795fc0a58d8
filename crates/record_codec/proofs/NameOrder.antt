-- Which first bytes of a name reach another: what reaches it does so from each of its fronts, and where it stops.
use Rattle.std.proofs.Common.{◌≡◌, ℕ, zero, suc, ◌-◌, ◌<◌, ◌≤◌, inl, inr, Bool, true, false, ◌&&◌, ◌||◌, ◌==◌, eqb, ltb, leb, cond, List, [], ◌∷◌, ◌++◌, length, refl, sym, ap, subst, ◌∙◌, arith}
use Rattle.std.specs.Char.{is_ascii_digit, is_ascii_lowercase}
use Rattle.std.specs.List.{list_all}
use Rattle.std.proofs.lemmas.Bool.{and_parts, and_from, and_right, or_cases, or_left, or_right, or_from, cases_Bool, ltb-true, ltb-false, lt-ltb, le-ltb, eqb-true, ne_eqb, leb-true, leb-false, lt-leb}
use Rattle.std.proofs.lemmas.List.{append-nil}
use Rattle.rows_core.specs.Name.{IsName, is_name_byte}
use Rattle.byte_formats.specs.Format.{name, name_spelling}
use Rattle.byte_formats.proofs.Exact.{Exact}
use Rattle.byte_formats.proofs.Names.{name_exact, name_parts}
use Rattle.record_codec.specs.Order.{not_below, may_reach, may_reach_sized, left_unreached, left_unreached_sized}
use Rattle.record_codec.specs.Formats.{name_from}
use Rattle.record_codec.proofs.Reaching.{Reach, reaching_exact}

-- where the first byte reaches, `z` does
z_reaches : (c b : ℕ) (deeper : Bool) (rest : Bool) → leb b 122 ≡ true → (rest ≡ true → deeper ≡ true) → (ltb c b || (eqb c b && rest)) ≡ true → (ltb c 122 || (eqb c 122 && deeper)) ≡ true
z_reaches c b deeper rest small down e = elim (or_cases (ltb c b) (eqb c b && rest) e) [
  | inl h ↦ or_left (ltb c 122) (eqb c 122 && deeper) (lt-ltb c 122 (let lt = ltb-true c b h in let le = leb-true b 122 small in omega arith))
  | inr h ↦
      let p = and_parts (eqb c b) rest h in
      let same : c ≡ b = eqb-true c b p.0 in
      elim (cases_Bool (ltb c 122)) [
        | inl lt ↦ or_left (ltb c 122) (eqb c 122 && deeper) lt
        | inr ge ↦
            let z : c ≡ 122 = (let le = leb-true b 122 small in let low = ltb-false c 122 ge in omega arith) in
            or_right (ltb c 122) (eqb c 122 && deeper) (and_from (eqb c 122) deeper (ap (λ (n : ℕ). eqb n 122) z) (down p.1))
      ]
]

reach_from_none : (previous : List ℕ) (room : ℕ) (more : List ℕ) → may_reach previous room more ≡ true → may_reach previous room [] ≡ true
reach_from_none [] room more e = refl
reach_from_none (c ∷ cs) zero more e = absurd cc
reach_from_none (c ∷ cs) (suc room) [] e = e
reach_from_none (c ∷ cs) (suc room) (b ∷ bs) e =
    let p = and_parts (leb b 122) (ltb c b || (eqb c b && may_reach cs room bs)) e in
    z_reaches c b (may_reach cs room []) (may_reach cs room bs) p.0 (reach_from_none cs room bs) p.1

step : (c b : ℕ) (one other : Bool) → (one ≡ true → other ≡ true) → (leb b 122 && (ltb c b || (eqb c b && one))) ≡ true → (leb b 122 && (ltb c b || (eqb c b && other))) ≡ true
step c b one other on e =
    let p = and_parts (leb b 122) (ltb c b || (eqb c b && one)) e in
    and_from (leb b 122) (ltb c b || (eqb c b && other)) p.0 (elim (or_cases (ltb c b) (eqb c b && one) p.1) [
      | inl h ↦ or_left (ltb c b) (eqb c b && other) h
      | inr h ↦ let q = and_parts (eqb c b) one h in or_right (ltb c b) (eqb c b && other) (and_from (eqb c b) other q.0 (on q.1))
    ])

reach_shorter : (previous : List ℕ) (room : ℕ) (front more : List ℕ) → may_reach previous room (front ++ more) ≡ true → may_reach previous room front ≡ true
reach_shorter [] room front more e = refl
reach_shorter (c ∷ cs) zero front more e = absurd cc
reach_shorter (c ∷ cs) (suc room) [] more e = reach_from_none (c ∷ cs) (suc room) more e
reach_shorter (c ∷ cs) (suc room) (b ∷ front) more e = step c b (may_reach cs room (front ++ more)) (may_reach cs room front) (reach_shorter cs room front more) e

sized_shorter : (previous front more : List ℕ) → may_reach_sized previous (front ++ more) ≡ true → may_reach_sized previous front ≡ true
sized_shorter previous [] more e = refl
sized_shorter previous (len ∷ front) more e = reach_shorter previous len front more e

-- ---- where it stops

-- behind a byte that is the other's
same_byte : (c : ℕ) (cs : List ℕ) (room : ℕ) (b : ℕ) (bs : List ℕ) (left : ℕ) → leb b 122 ≡ true → eqb c b ≡ true → Reach (may_reach cs room) bs left → Reach (may_reach (c ∷ cs) (suc room)) (b ∷ bs) left
same_byte c cs room b bs left small same r = record {
  front = b ∷ r.front;
  back = r.back;
  parts = λ i. b ∷ r.parts i;
  size = r.size;
  holds = and_from (leb b 122) (ltb c b || (eqb c b && may_reach cs room r.front)) small (or_right (ltb c b) (eqb c b && may_reach cs room r.front) (and_from (eqb c b) (may_reach cs room r.front) same r.holds));
  fails = λ d ds back.
      let none = r.fails d ds back in
      let equal : c ≡ b = eqb-true c b same in
      let not_more : ltb c b ≡ false = le-ltb c b (omega arith) in
      ap (λ (t : Bool). leb b 122 && (ltb c b || (eqb c b && t))) none ∙ ap (λ (t : Bool). leb b 122 && (t || (eqb c b && false))) not_more ∙ ap (λ (t : Bool). leb b 122 && (t && false)) same ∙ ap (λ (t : Bool). t && false) small;
}

-- behind a byte above the other's
greater_byte : (c : ℕ) (cs : List ℕ) (room : ℕ) (b : ℕ) (bs : List ℕ) → leb b 122 ≡ true → ltb c b ≡ true → Reach (may_reach (c ∷ cs) (suc room)) (b ∷ bs) 0
greater_byte c cs room b bs small more = record {
  front = b ∷ bs;
  back = [];
  parts = sym (append-nil (b ∷ bs));
  size = refl;
  holds = and_from (leb b 122) (ltb c b || (eqb c b && may_reach cs room bs)) small (or_left (ltb c b) (eqb c b && may_reach cs room bs) more);
  fails = λ d ds back. absurd cc;
}

reach_left : (previous : List ℕ) (room : ℕ) (bytes : List ℕ) → may_reach previous room [] ≡ true → Reach (may_reach previous room) bytes (left_unreached previous room bytes)
reach_left previous room [] e = record { front = []; back = []; parts = refl; size = refl; holds = e; fails = λ b bs back. absurd cc }
reach_left [] room (b ∷ bs) e = record { front = b ∷ bs; back = []; parts = sym (append-nil (b ∷ bs)); size = refl; holds = refl; fails = λ d ds back. absurd cc }
reach_left (c ∷ cs) zero (b ∷ bs) e = absurd cc
reach_left (c ∷ cs) (suc room) (b ∷ bs) e = elim (cases_Bool (may_reach (c ∷ cs) (suc room) (b ∷ []))) [
  | inr t ↦
      subst (λ (n : ℕ). Reach (may_reach (c ∷ cs) (suc room)) (b ∷ bs) n) (ap (λ (u : Bool). cond u (cond (eqb c b) (left_unreached cs room bs) 0) (suc (length bs))) (sym t))
      (record { front = []; back = b ∷ bs; parts = refl; size = refl; holds = e; fails = λ d ds back. (let head : b ≡ d = cc in subst (λ (x : ℕ). may_reach (c ∷ cs) (suc room) (x ∷ []) ≡ false) head t) })
  | inl t ↦
      let p = and_parts (leb b 122) (ltb c b || (eqb c b && may_reach cs room [])) t in
      subst (λ (n : ℕ). Reach (may_reach (c ∷ cs) (suc room)) (b ∷ bs) n) (ap (λ (u : Bool). cond u (cond (eqb c b) (left_unreached cs room bs) 0) (suc (length bs))) (sym t))
      (elim (cases_Bool (eqb c b)) [
        | inl same ↦
            let below : may_reach cs room [] ≡ true = elim (or_cases (ltb c b) (eqb c b && may_reach cs room []) p.1) [
              | inl more ↦ absurd (let lt = ltb-true c b more in let is = eqb-true c b same in omega arith)
              | inr h ↦ (and_parts (eqb c b) (may_reach cs room []) h).1
            ] in
            subst (λ (n : ℕ). Reach (may_reach (c ∷ cs) (suc room)) (b ∷ bs) n) (ap (λ (u : Bool). cond u (left_unreached cs room bs) 0) (sym same)) (same_byte c cs room b bs (left_unreached cs room bs) p.0 same (reach_left cs room bs below))
        | inr other ↦
            let more : ltb c b ≡ true = elim (or_cases (ltb c b) (eqb c b && may_reach cs room []) p.1) [
              | inl h ↦ h
              | inr h ↦ absurd (let q = (and_parts (eqb c b) (may_reach cs room []) h).0 in let both : true ≡ false = sym q ∙ other in cc)
            ] in
            subst (λ (n : ℕ). Reach (may_reach (c ∷ cs) (suc room)) (b ∷ bs) n) (ap (λ (u : Bool). cond u (left_unreached cs room bs) 0) (sym other)) (greater_byte c cs room b bs p.0 more)
      ])
]

behind_len : (previous : List ℕ) (len : ℕ) (bs : List ℕ) (left : ℕ) → Reach (may_reach previous len) bs left → Reach (may_reach_sized previous) (len ∷ bs) left
behind_len previous len bs left r = record {
  front = len ∷ r.front;
  back = r.back;
  parts = λ i. len ∷ r.parts i;
  size = r.size;
  holds = r.holds;
  fails = r.fails;
}

sized_left : (previous bytes : List ℕ) → Reach (may_reach_sized previous) bytes (left_unreached_sized previous bytes)
sized_left previous [] = record { front = []; back = []; parts = refl; size = refl; holds = refl; fails = λ b bs back. absurd cc }
sized_left previous (len ∷ bs) = elim (cases_Bool (may_reach previous len [])) [
  | inl t ↦
      subst (λ (n : ℕ). Reach (may_reach_sized previous) (len ∷ bs) n) (ap (λ (u : Bool). cond u (left_unreached previous len bs) (suc (length bs))) (sym t))
      (behind_len previous len bs (left_unreached previous len bs) (reach_left previous len bs t))
  | inr t ↦
      subst (λ (n : ℕ). Reach (may_reach_sized previous) (len ∷ bs) n) (ap (λ (u : Bool). cond u (left_unreached previous len bs) (suc (length bs))) (sym t))
      (record { front = []; back = len ∷ bs; parts = refl; size = refl; holds = refl; fails = λ d ds back. (let head : len ≡ d = cc in subst (λ (x : ℕ). may_reach previous x [] ≡ false) head t) })
]

pub name_from_exact : (previous : List ℕ) → Exact (name_from previous)
name_from_exact previous = reaching_exact (may_reach_sized previous) (left_unreached_sized previous) name name_exact (sized_shorter previous) (sized_left previous)

-- ---- a whole name reaches another exactly where it isn't below it

name_byte_small : (b : ℕ) → is_name_byte b ≡ true → leb b 122 ≡ true
name_byte_small b e = elim (cases_Bool (leb b 122)) [
  | inl t ↦ t
  | inr t ↦
      let big = leb-false b 122 t in
      let no_letter : is_ascii_lowercase b ≡ false = and_right (leb 97 b) (leb b 122) t in
      let no_digit : is_ascii_digit b ≡ false = and_right (leb 48 b) (leb b 57) (lt-leb b 57 (omega arith)) in
      let no_line : eqb b 95 ≡ false = ne_eqb b 95 (λ is. (omega arith)) in
      absurd (let no = or_from (is_ascii_lowercase b || is_ascii_digit b) (b == 95) (or_from (is_ascii_lowercase b) (is_ascii_digit b) no_letter no_digit) no_line in let both : true ≡ false = sym e ∙ no in cc)
]

whole_reaches : (previous bytes : List ℕ) → list_all is_name_byte bytes ≡ true → may_reach previous (length bytes) bytes ≡ not_below previous bytes
whole_reaches [] bytes all = refl
whole_reaches (c ∷ cs) [] all = refl
whole_reaches (c ∷ cs) (b ∷ bs) all =
    let p = and_parts (is_name_byte b) (list_all is_name_byte bs) all in
    ap (λ (t : Bool). t && (ltb c b || (eqb c b && may_reach cs (length bs) bs))) (name_byte_small b p.0)
    ∙ ap (λ (t : Bool). ltb c b || (eqb c b && t)) (whole_reaches cs bs p.1)

pub name_reaches : (previous bytes : List ℕ) → IsName bytes → may_reach_sized previous (name_spelling bytes) ≡ not_below previous bytes
name_reaches previous bytes is = whole_reaches previous bytes (name_parts bytes is).all
