-- The table of well-formed UTF-8 takes the texts and nothing else.
use Rattle.std.proofs.Common.{◌≡◌, ℕ, zero, suc, ◌+◌, ◌-◌, ◌*◌, ◌/◌, ◌%◌, ◌<◌, ◌≤◌, ◌⊎◌, Bool, true, false, ◌&&◌, ◌||◌, cond, ltb, leb, eqb, List, [], ◌∷◌, ◌++◌, length, Option, Some, None, refl, sym, ap, subst, ◌∙◌, arith, inl, inr}
use Rattle.std.specs.List.{list_all}
use Rattle.std.specs.Str.{IsUtf8}
use Rattle.std.proofs.Math.Utf8.{scalar, scalars, encode, encodes, scalar_cases}
use Rattle.std.proofs.lemmas.Str.{IsUtf8-nil, IsUtf8-append, IsUtf8-encode, encode_ascii}
use Rattle.std.proofs.lemmas.Bool.{ltb-true, ltb-false, lt-ltb, le-ltb, eqb-true, eqb-false, eq-eqb, ne_eqb, le-leb, leb-true, cases_lt, cases_eq, or_parts, or_from, cond-true, cond-false, and_parts, and_from}
use Rattle.std.proofs.lemmas.List.Folds.{list_all-append}
use Rattle.rows_core.specs.Txt.{IsText, is_text_byte}
use Rattle.byte_formats.specs.declared.text.Followers.{Followers}
use Rattle.byte_formats.specs.Reading.{following, any_following, followers_of, followers_after}

-- what the table takes from a place where e says what follows
abbrev pub Accepts : Followers → List ℕ → Type 0
Accepts e [] = e.count ≡ 0
Accepts e (b ∷ bs) = (f : Followers) × (followers_after e b ≡ Some f) × Accepts f bs

pub some_is : {A : Type 0} (x y : A) → Some x ≡ Some y → x ≡ y
some_is x y e = cc

split : {A : Type 0} (t : Bool) (x y : Option A) (f : A) → cond t x y ≡ Some f → ((t ≡ true) × (x ≡ Some f)) ⊎ ((t ≡ false) × (y ≡ Some f))
split true x y f e = inl (refl, e)
split false x y f e = inr (refl, e)

-- ---- within a character

pub after_start : (e : Followers) (b : ℕ) → e.count ≡ 0 → followers_after e b ≡ followers_of b
unfolding followers_after
after_start e b z = cond-true _ _ _ (eq-eqb e.count 0 z)

pub after_more : (e : Followers) (b : ℕ) (f : Followers) → 0 < e.count → followers_after e b ≡ Some f → (e.least ≤ b) × (b ≤ e.greatest) × (f ≡ any_following (e.count - 1))
unfolding followers_after
after_more e b f positive is =
    let after : Option Followers = cond (ltb b e.least || ltb e.greatest b) None (Some (any_following (e.count - 1))) in
    elim (split (eqb e.count 0) (followers_of b) after f is) [
      | inl p ↦ absurd (let z = eqb-true e.count 0 p.0 in omega arith)
      | inr p ↦ elim (split (ltb b e.least || ltb e.greatest b) None (Some (any_following (e.count - 1))) f p.1) [
        | inl q ↦ absurd (let clash = q.1 in cc)
        | inr q ↦
            let r = or_parts (ltb b e.least) (ltb e.greatest b) q.0 in
            (ltb-false b e.least r.0, ltb-false e.greatest b r.1, sym (some_is (any_following (e.count - 1)) f q.1))
      ]
    ]

pub after_goes : (e : Followers) (b : ℕ) → 0 < e.count → e.least ≤ b → b ≤ e.greatest → followers_after e b ≡ Some (any_following (e.count - 1))
unfolding followers_after
after_goes e b positive low high =
    cond-false _ _ _ (ne_eqb e.count 0 (λ z. omega arith))
    ∙ cond-false _ _ _ (or_from (ltb b e.least) (ltb e.greatest b) (le-ltb b e.least low) (le-ltb e.greatest b high))

-- ---- the first byte of a character

abbrev Lead : ℕ → Followers → Type 0
Lead b f =
    ((f.count ≡ 0) × (32 ≤ b) × (b < 128))
    ⊎ (((f.count ≡ 1) × (194 ≤ b) × (b < 224) × (128 ≤ f.least) × (f.greatest ≤ 191))
    ⊎ (((f.count ≡ 2) × (224 ≤ b) × (b < 240) × (128 ≤ f.least) × (f.greatest ≤ 191) × (b ≡ 224 → 160 ≤ f.least) × (b ≡ 237 → f.greatest ≤ 159))
    ⊎ ((f.count ≡ 3) × (240 ≤ b) × (b ≤ 244) × (128 ≤ f.least) × (f.greatest ≤ 191) × (b ≡ 240 → 144 ≤ f.least) × (b ≡ 244 → f.greatest ≤ 143))))

-- what the table says of a first byte, and that something may follow
abbrev IsLead : ℕ → Followers → Type 0
IsLead b f = Lead b f × (f.least ≤ f.greatest)

abbrev from_f4 : ℕ → Option Followers
from_f4 b = cond (eqb b 0xF4) (Some (following 3 0x80 0x8F)) None

abbrev from_f1 : ℕ → Option Followers
from_f1 b = cond (ltb b 0xF4) (Some (any_following 3)) (from_f4 b)

abbrev from_f0 : ℕ → Option Followers
from_f0 b = cond (eqb b 0xF0) (Some (following 3 0x90 0xBF)) (from_f1 b)

abbrev from_e1 : ℕ → Option Followers
from_e1 b = cond (ltb b 0xF0) (Some (any_following 2)) (from_f0 b)

abbrev from_ed : ℕ → Option Followers
from_ed b = cond (eqb b 0xED) (Some (following 2 0x80 0x9F)) (from_e1 b)

abbrev from_e0 : ℕ → Option Followers
from_e0 b = cond (eqb b 0xE0) (Some (following 2 0xA0 0xBF)) (from_ed b)

abbrev from_c2 : ℕ → Option Followers
from_c2 b = cond (ltb b 0xE0) (Some (any_following 1)) (from_e0 b)

abbrev from_80 : ℕ → Option Followers
from_80 b = cond (ltb b 0xC2) None (from_c2 b)

abbrev from_20 : ℕ → Option Followers
from_20 b = cond (ltb b 0x80) (Some (any_following 0)) (from_80 b)

lead_f4 : (b : ℕ) (f : Followers) → 244 ≤ b → from_f4 b ≡ Some f → IsLead b f
lead_f4 b f low e = elim (split (eqb b 0xF4) (Some (following 3 0x80 0x8F)) None f e) [
  | inl p ↦ let is = eqb-true b 0xF4 p.0 in subst (IsLead b) (some_is (following 3 0x80 0x8F) f p.1) (inr (inr (inr (refl, omega arith, omega arith, omega arith, omega arith, λ u. omega arith, λ u. omega arith))), omega arith)
  | inr p ↦ absurd (let clash = p.1 in cc)
]

lead_f1 : (b : ℕ) (f : Followers) → 240 < b → from_f1 b ≡ Some f → IsLead b f
lead_f1 b f low e = elim (split (ltb b 0xF4) (Some (any_following 3)) (from_f4 b) f e) [
  | inl p ↦ let lt = ltb-true b 0xF4 p.0 in subst (IsLead b) (some_is (any_following 3) f p.1) (inr (inr (inr (refl, omega arith, omega arith, omega arith, omega arith, λ u. omega arith, λ u. omega arith))), omega arith)
  | inr p ↦ lead_f4 b f (ltb-false b 0xF4 p.0) p.1
]

lead_f0 : (b : ℕ) (f : Followers) → 240 ≤ b → from_f0 b ≡ Some f → IsLead b f
lead_f0 b f low e = elim (split (eqb b 0xF0) (Some (following 3 0x90 0xBF)) (from_f1 b) f e) [
  | inl p ↦ let is = eqb-true b 0xF0 p.0 in subst (IsLead b) (some_is (following 3 0x90 0xBF) f p.1) (inr (inr (inr (refl, omega arith, omega arith, omega arith, omega arith, λ u. omega arith, λ u. omega arith))), omega arith)
  | inr p ↦ lead_f1 b f (let ne = eqb-false b 0xF0 p.0 in elim (cases_eq b 0xF0) [ inl u ↦ absurd (ne u) | inr u ↦ omega arith ]) p.1
]

lead_e1 : (b : ℕ) (f : Followers) → 224 < b → (b ≡ 237 → ⊥) → from_e1 b ≡ Some f → IsLead b f
lead_e1 b f low other e = elim (split (ltb b 0xF0) (Some (any_following 2)) (from_f0 b) f e) [
  | inl p ↦ let lt = ltb-true b 0xF0 p.0 in subst (IsLead b) (some_is (any_following 2) f p.1) (inr (inr (inl (refl, omega arith, omega arith, omega arith, omega arith, λ u. omega arith, λ u. absurd (other u)))), omega arith)
  | inr p ↦ lead_f0 b f (ltb-false b 0xF0 p.0) p.1
]

lead_ed : (b : ℕ) (f : Followers) → 224 < b → from_ed b ≡ Some f → IsLead b f
lead_ed b f low e = elim (split (eqb b 0xED) (Some (following 2 0x80 0x9F)) (from_e1 b) f e) [
  | inl p ↦ let is = eqb-true b 0xED p.0 in subst (IsLead b) (some_is (following 2 0x80 0x9F) f p.1) (inr (inr (inl (refl, omega arith, omega arith, omega arith, omega arith, λ u. omega arith, λ u. omega arith))), omega arith)
  | inr p ↦ lead_e1 b f low (eqb-false b 0xED p.0) p.1
]

lead_e0 : (b : ℕ) (f : Followers) → 224 ≤ b → from_e0 b ≡ Some f → IsLead b f
lead_e0 b f low e = elim (split (eqb b 0xE0) (Some (following 2 0xA0 0xBF)) (from_ed b) f e) [
  | inl p ↦ let is = eqb-true b 0xE0 p.0 in subst (IsLead b) (some_is (following 2 0xA0 0xBF) f p.1) (inr (inr (inl (refl, omega arith, omega arith, omega arith, omega arith, λ u. omega arith, λ u. omega arith))), omega arith)
  | inr p ↦ lead_ed b f (let ne = eqb-false b 0xE0 p.0 in elim (cases_eq b 0xE0) [ inl u ↦ absurd (ne u) | inr u ↦ omega arith ]) p.1
]

lead_c2 : (b : ℕ) (f : Followers) → 194 ≤ b → from_c2 b ≡ Some f → IsLead b f
lead_c2 b f low e = elim (split (ltb b 0xE0) (Some (any_following 1)) (from_e0 b) f e) [
  | inl p ↦ let lt = ltb-true b 0xE0 p.0 in subst (IsLead b) (some_is (any_following 1) f p.1) (inr (inl (refl, omega arith, omega arith, omega arith, omega arith)), omega arith)
  | inr p ↦ lead_e0 b f (ltb-false b 0xE0 p.0) p.1
]

lead_80 : (b : ℕ) (f : Followers) → from_80 b ≡ Some f → IsLead b f
lead_80 b f e = elim (split (ltb b 0xC2) None (from_c2 b) f e) [
  | inl p ↦ absurd (let clash = p.1 in cc)
  | inr p ↦ lead_c2 b f (ltb-false b 0xC2 p.0) p.1
]

lead_20 : (b : ℕ) (f : Followers) → 32 ≤ b → from_20 b ≡ Some f → IsLead b f
lead_20 b f low e = elim (split (ltb b 0x80) (Some (any_following 0)) (from_80 b) f e) [
  | inl p ↦ let lt = ltb-true b 0x80 p.0 in subst (IsLead b) (some_is (any_following 0) f p.1) (inl (refl, low, omega arith), omega arith)
  | inr p ↦ lead_80 b f p.1
]

lead : (b : ℕ) (f : Followers) → followers_of b ≡ Some f → IsLead b f
unfolding followers_of
lead b f e = elim (split (ltb b 0x20) None (from_20 b) f e) [
  | inl p ↦ absurd (let clash = p.1 in cc)
  | inr p ↦ lead_20 b f (ltb-false b 0x20 p.0) p.1
]

pub after_valid : (e : Followers) (b : ℕ) (f : Followers) → followers_after e b ≡ Some f → f.least ≤ f.greatest
after_valid e b f is = elim (cases_lt 0 e.count) [
  | inl lt ↦ subst (λ (g : Followers). g.least ≤ g.greatest) (sym (after_more e b f lt is).2) (omega arith)
  | inr z ↦ (lead b f (sym (after_start e b (omega arith)) ∙ is)).1
]

-- ---- what is taken is a text

text_nil : IsText []
text_nil = (IsUtf8-nil, refl)

text_append : (xs ys : List ℕ) → IsUtf8 xs → list_all is_text_byte xs ≡ true → IsText ys → IsText (xs ++ ys)
text_append xs ys u printable t =
    (IsUtf8-append xs ys u t.0, list_all-append is_text_byte xs ys ∙ and_from (list_all is_text_byte xs) (list_all is_text_byte ys) printable t.1)

printable : (b : ℕ) → 32 ≤ b → is_text_byte b ≡ true
printable b low = le-leb 32 b low

encode_two : (c : ℕ) → 0x80 ≤ c → c < 0x800 → encode c ≡ (192 + c / 64) ∷ (128 + c % 64) ∷ []
unfolding encode
encode_two c low high = cond-false _ _ _ (le-ltb c 128 low) ∙ cond-true _ _ _ (lt-ltb c 2048 high)

encode_three : (c : ℕ) → 0x800 ≤ c → c < 0x10000 → encode c ≡ (224 + c / 4096) ∷ (128 + c / 64 % 64) ∷ (128 + c % 64) ∷ []
unfolding encode
encode_three c low high = cond-false _ _ _ (le-ltb c 128 (omega arith)) ∙ cond-false _ _ _ (le-ltb c 2048 low) ∙ cond-true _ _ _ (lt-ltb c 65536 high)

encode_four : (c : ℕ) → 0x10000 ≤ c → encode c ≡ (240 + c / 262144) ∷ (128 + c / 4096 % 64) ∷ (128 + c / 64 % 64) ∷ (128 + c % 64) ∷ []
unfolding encode
encode_four c low = cond-false _ _ _ (le-ltb c 128 (omega arith)) ∙ cond-false _ _ _ (le-ltb c 2048 (omega arith)) ∙ cond-false _ _ _ (le-ltb c 65536 low)

is_scalar : (c : ℕ) → (c < 55296) ⊎ ((57344 ≤ c) × (c < 1114112)) → scalar c ≡ true
is_scalar c h = elim h [
  | inl lt ↦ cond-true _ _ _ (lt-ltb c 55296 lt)
  | inr between ↦ cond-false _ _ _ (le-ltb c 55296 (omega arith)) ∙ and_from (leb 57344 c) (ltb c 1114112) (le-leb 57344 c between.0) (lt-ltb c 1114112 between.1)
]

text_one : (b : ℕ) (rest : List ℕ) → 32 ≤ b → b < 128 → IsText rest → IsText (b ∷ rest)
text_one b rest low high t =
    let u : IsUtf8 (b ∷ []) = subst IsUtf8 (encode_ascii b high) (IsUtf8-encode b (is_scalar b (inl (omega arith)))) in
    text_append (b ∷ []) rest u (and_from (is_text_byte b) true (printable b low) refl) t

text_two : (a b : ℕ) (rest : List ℕ) → 194 ≤ a → a < 224 → 128 ≤ b → b ≤ 191 → IsText rest → IsText (a ∷ b ∷ rest)
text_two a b rest h0 h1 h2 h3 t =
    let c = (a - 192) * 64 + (b - 128) in
    let p : 192 + c / 64 ≡ a = omega arith in
    let q : 128 + c % 64 ≡ b = omega arith in
    let spelled : encode c ≡ a ∷ b ∷ [] = encode_two c (omega arith) (omega arith) ∙ (λ k. p k ∷ q k ∷ []) in
    let u : IsUtf8 (a ∷ b ∷ []) = subst IsUtf8 spelled (IsUtf8-encode c (is_scalar c (inl (omega arith)))) in
    text_append (a ∷ b ∷ []) rest u (and_from (is_text_byte a) (is_text_byte b && true) (printable a (omega arith)) (and_from (is_text_byte b) true (printable b (omega arith)) refl)) t

text_three : (a b d : ℕ) (rest : List ℕ) → 224 ≤ a → a < 240 → 128 ≤ b → b ≤ 191 → (a ≡ 224 → 160 ≤ b) → (a ≡ 237 → b ≤ 159) → 128 ≤ d → d ≤ 191 → IsText rest → IsText (a ∷ b ∷ d ∷ rest)
text_three a b d rest h0 h1 h2 h3 h4 h5 h6 h7 t =
    let c = (a - 224) * 4096 + (b - 128) * 64 + (d - 128) in
    let p : 224 + c / 4096 ≡ a = omega arith in
    let q : 128 + c / 64 % 64 ≡ b = omega arith in
    let r : 128 + c % 64 ≡ d = omega arith in
    let low : 2048 ≤ c = elim (cases_eq a 224) [ inl e ↦ let k = h4 e in omega arith | inr ne ↦ let k : 225 ≤ a = elim (cases_lt a 225) [ inl lt ↦ absurd (ne (omega arith)) | inr ge ↦ ge ] in omega arith ] in
    let no_surrogate : (c < 55296) ⊎ ((57344 ≤ c) × (c < 1114112)) = elim (cases_lt a 237) [
      | inl lt ↦ inl (omega arith)
      | inr ge ↦ elim (cases_eq a 237) [ inl e ↦ let k = h5 e in inl (omega arith) | inr ne ↦ let k : 238 ≤ a = elim (cases_lt a 238) [ inl lt ↦ absurd (ne (omega arith)) | inr ge2 ↦ ge2 ] in inr (omega arith, omega arith) ]
    ] in
    let spelled : encode c ≡ a ∷ b ∷ d ∷ [] = encode_three c low (omega arith) ∙ (λ k. p k ∷ q k ∷ r k ∷ []) in
    let u : IsUtf8 (a ∷ b ∷ d ∷ []) = subst IsUtf8 spelled (IsUtf8-encode c (is_scalar c no_surrogate)) in
    text_append (a ∷ b ∷ d ∷ []) rest u
    (and_from (is_text_byte a) (is_text_byte b && (is_text_byte d && true)) (printable a (omega arith))
    (and_from (is_text_byte b) (is_text_byte d && true) (printable b (omega arith)) (and_from (is_text_byte d) true (printable d (omega arith)) refl))) t

text_four : (a b d f : ℕ) (rest : List ℕ) → 240 ≤ a → a ≤ 244 → 128 ≤ b → b ≤ 191 → (a ≡ 240 → 144 ≤ b) → (a ≡ 244 → b ≤ 143) → 128 ≤ d → d ≤ 191 → 128 ≤ f → f ≤ 191 → IsText rest → IsText (a ∷ b ∷ d ∷ f ∷ rest)
text_four a b d f rest h0 h1 h2 h3 h4 h5 h6 h7 h8 h9 t =
    let c = (a - 240) * 262144 + (b - 128) * 4096 + (d - 128) * 64 + (f - 128) in
    let p : 240 + c / 262144 ≡ a = omega arith in
    let q : 128 + c / 4096 % 64 ≡ b = omega arith in
    let e : c / 64 ≡ (a - 240) * 4096 + (b - 128) * 64 + (d - 128) = omega arith in
    let r : 128 + c / 64 % 64 ≡ d = ap (λ (m : ℕ). 128 + m % 64) e ∙ omega arith in
    let s : 128 + c % 64 ≡ f = omega arith in
    let low : 65536 ≤ c = elim (cases_eq a 240) [ inl e ↦ let k = h4 e in omega arith | inr ne ↦ let k : 241 ≤ a = elim (cases_lt a 241) [ inl lt ↦ absurd (ne (omega arith)) | inr ge ↦ ge ] in omega arith ] in
    let high : c < 1114112 = elim (cases_eq a 244) [ inl e ↦ let k = h5 e in omega arith | inr ne ↦ let k : a ≤ 243 = elim (cases_lt 243 a) [ inl lt ↦ absurd (ne (omega arith)) | inr ge ↦ ge ] in omega arith ] in
    let spelled : encode c ≡ a ∷ b ∷ d ∷ f ∷ [] = encode_four c low ∙ (λ k. p k ∷ q k ∷ r k ∷ s k ∷ []) in
    let u : IsUtf8 (a ∷ b ∷ d ∷ f ∷ []) = subst IsUtf8 spelled (IsUtf8-encode c (is_scalar c (inr (omega arith, high)))) in
    text_append (a ∷ b ∷ d ∷ f ∷ []) rest u
    (and_from (is_text_byte a) (is_text_byte b && (is_text_byte d && (is_text_byte f && true))) (printable a (omega arith))
    (and_from (is_text_byte b) (is_text_byte d && (is_text_byte f && true)) (printable b (omega arith))
    (and_from (is_text_byte d) (is_text_byte f && true) (printable d (omega arith)) (and_from (is_text_byte f) true (printable f (omega arith)) refl)))) t

-- a byte that is due
record Next (e : Followers) (k : ℕ) (t : List ℕ) : Type 0 where
  pub byte : ℕ
  pub rest : List ℕ
  pub is : t ≡ byte ∷ rest
  pub low : e.least ≤ byte
  pub high : byte ≤ e.greatest
  pub goes : Accepts (any_following k) rest

next_byte : (e : Followers) (k : ℕ) (t : List ℕ) → e.count ≡ suc k → Accepts e t → Next e k t
next_byte e k [] is a = absurd (omega (arith, a))
next_byte e k (b ∷ bs) is a =
    let m = after_more e b a.0 (omega arith) a.1 in
    let n : e.count - 1 ≡ k = omega arith in
    record { byte = b; rest = bs; is = refl; low = m.0; high = m.1; goes = subst (λ (f : Followers). Accepts f bs) (m.2 ∙ ap any_following n) a.2 }

sound_to : (n : ℕ) (e : Followers) (t : List ℕ) → length t ≤ n → e.count ≡ 0 → Accepts e t → IsText t
sound_to n e [] le z a = text_nil
sound_to zero e (b ∷ bs) le z a = absurd (omega arith)
sound_to (suc n) e (b ∷ bs) le z a =
    let f = a.0 in
    let shorter : length bs ≤ n = omega arith in
    elim (lead b f (sym (after_start e b z) ∙ a.1)).0 [
      | inl one ↦ text_one b bs one.1 one.2 (sound_to n f bs shorter one.0 a.2)
      | inr more ↦ elim more [
        | inl two ↦
            let x = next_byte f 0 bs two.0 a.2 in
            let len : length bs ≡ suc (length x.rest) = ap length x.is in
            let low = x.low in
            let high = x.high in
            let t = text_two b x.byte x.rest two.1 two.2 (omega arith) (omega arith) (sound_to n (any_following 0) x.rest (omega arith) refl x.goes) in
            subst (λ (l : List ℕ). IsText (b ∷ l)) (sym x.is) t
        | inr longer ↦ elim longer [
          | inl three ↦
              let x = next_byte f 1 bs three.0 a.2 in
              let y = next_byte (any_following 1) 0 x.rest refl x.goes in
              let len : length bs ≡ suc (length x.rest) = ap length x.is in
              let len2 : length x.rest ≡ suc (length y.rest) = ap length y.is in
              let low = x.low in
              let high = x.high in
              let t = text_three b x.byte y.byte y.rest three.1 three.2 (omega arith) (omega arith) (λ u. let k = three.5 u in omega arith) (λ u. let k = three.6 u in omega arith) y.low y.high
              (sound_to n (any_following 0) y.rest (omega arith) refl y.goes) in
              subst (λ (l : List ℕ). IsText (b ∷ l)) (sym x.is) (subst (λ (l : List ℕ). IsText (b ∷ x.byte ∷ l)) (sym y.is) t)
          | inr four ↦
              let x = next_byte f 2 bs four.0 a.2 in
              let y = next_byte (any_following 2) 1 x.rest refl x.goes in
              let w = next_byte (any_following 1) 0 y.rest refl y.goes in
              let len : length bs ≡ suc (length x.rest) = ap length x.is in
              let len2 : length x.rest ≡ suc (length y.rest) = ap length y.is in
              let len3 : length y.rest ≡ suc (length w.rest) = ap length w.is in
              let low = x.low in
              let high = x.high in
              let t = text_four b x.byte y.byte w.byte w.rest four.1 four.2 (omega arith) (omega arith) (λ u. let k = four.5 u in omega arith) (λ u. let k = four.6 u in omega arith) y.low y.high w.low w.high
              (sound_to n (any_following 0) w.rest (omega arith) refl w.goes) in
              subst (λ (l : List ℕ). IsText (b ∷ l)) (sym x.is) (subst (λ (l : List ℕ). IsText (b ∷ x.byte ∷ l)) (sym y.is) (subst (λ (l : List ℕ). IsText (b ∷ x.byte ∷ y.byte ∷ l)) (sym w.is) t))
        ]
      ]
    ]

pub sound : (t : List ℕ) → Accepts (any_following 0) t → IsText t
sound t a = sound_to (length t) (any_following 0) t (omega arith) refl a

-- ---- a text is taken

-- the table takes a first byte, and what may follow it
record Begins (b count : ℕ) (P : ℕ → Type 0) : Type 0 where
  pub after : Followers
  pub is : followers_of b ≡ Some after
  pub count_is : after.count ≡ count
  pub bounds : (y : ℕ) → 128 ≤ y → y ≤ 191 → P y → (after.least ≤ y) × (y ≤ after.greatest)

begins_one : (b : ℕ) → 32 ≤ b → b < 128 → followers_of b ≡ Some (any_following 0)
unfolding followers_of
begins_one b low high = cond-false _ _ _ (le-ltb b 0x20 low) ∙ cond-true _ _ _ (lt-ltb b 0x80 high)

begins_two : (b : ℕ) → 194 ≤ b → b < 224 → followers_of b ≡ Some (any_following 1)
unfolding followers_of
begins_two b low high =
    cond-false _ _ _ (le-ltb b 0x20 (omega arith)) ∙ cond-false _ _ _ (le-ltb b 0x80 (omega arith)) ∙ cond-false _ _ _ (le-ltb b 0xC2 low) ∙ cond-true _ _ _ (lt-ltb b 0xE0 high)

past_e0 : (b : ℕ) → 224 ≤ b → followers_of b ≡ from_e0 b
unfolding followers_of
past_e0 b low =
    cond-false _ _ _ (le-ltb b 0x20 (omega arith)) ∙ cond-false _ _ _ (le-ltb b 0x80 (omega arith)) ∙ cond-false _ _ _ (le-ltb b 0xC2 (omega arith)) ∙ cond-false _ _ _ (le-ltb b 0xE0 low)

past_f0 : (b : ℕ) → 240 ≤ b → followers_of b ≡ from_f0 b
past_f0 b low =
    past_e0 b (omega arith) ∙ cond-false _ _ _ (ne_eqb b 0xE0 (λ e. omega arith)) ∙ cond-false _ _ _ (ne_eqb b 0xED (λ e. omega arith)) ∙ cond-false _ _ _ (le-ltb b 0xF0 low)

begins_three : (b : ℕ) → 224 ≤ b → b < 240 → Begins b 2 (λ y. (b ≡ 224 → 160 ≤ y) × (b ≡ 237 → y ≤ 159))
begins_three b low high = elim (cases_eq b 224) [
  | inl e ↦ record { after = following 2 0xA0 0xBF; is = past_e0 b low ∙ cond-true _ _ _ (eq-eqb b 0xE0 e); count_is = refl; bounds = λ y l h p. (p.0 e, h) }
  | inr ne ↦ elim (cases_eq b 237) [
    | inl e ↦ record { after = following 2 0x80 0x9F; is = past_e0 b low ∙ cond-false _ _ _ (ne_eqb b 0xE0 ne) ∙ cond-true _ _ _ (eq-eqb b 0xED e); count_is = refl; bounds = λ y l h p. (l, p.1 e) }
    | inr ne2 ↦ record {
      after = any_following 2;
      is = past_e0 b low ∙ cond-false _ _ _ (ne_eqb b 0xE0 ne) ∙ cond-false _ _ _ (ne_eqb b 0xED ne2) ∙ cond-true _ _ _ (lt-ltb b 0xF0 high);
      count_is = refl;
      bounds = λ y l h p. (l, h);
    }
  ]
]

begins_four : (b : ℕ) → 240 ≤ b → b ≤ 244 → Begins b 3 (λ y. (b ≡ 240 → 144 ≤ y) × (b ≡ 244 → y ≤ 143))
begins_four b low high = elim (cases_eq b 240) [
  | inl e ↦ record { after = following 3 0x90 0xBF; is = past_f0 b low ∙ cond-true _ _ _ (eq-eqb b 0xF0 e); count_is = refl; bounds = λ y l h p. (p.0 e, h) }
  | inr ne ↦ elim (cases_lt b 244) [
    | inl lt ↦ record { after = any_following 3; is = past_f0 b low ∙ cond-false _ _ _ (ne_eqb b 0xF0 ne) ∙ cond-true _ _ _ (lt-ltb b 0xF4 lt); count_is = refl; bounds = λ y l h p. (l, h) }
    | inr ge ↦
        let e : b ≡ 244 = omega arith in
        record {
          after = following 3 0x80 0x8F;
          is = past_f0 b low ∙ cond-false _ _ _ (ne_eqb b 0xF0 ne) ∙ cond-false _ _ _ (le-ltb b 0xF4 ge) ∙ cond-true _ _ _ (eq-eqb b 0xF4 e);
          count_is = refl;
          bounds = λ y l h p. (l, p.1 e);
        }
  ]
]

-- a byte that is due is taken
takes_next : (e : Followers) (k y : ℕ) (rest : List ℕ) → e.count ≡ suc k → e.least ≤ y → y ≤ e.greatest → Accepts (any_following k) rest → Accepts e (y ∷ rest)
takes_next e k y rest is low high a =
    let n : e.count - 1 ≡ k = omega arith in
    (any_following k, after_goes e y (omega arith) low high ∙ ap (λ (m : ℕ). Some (any_following m)) n, a)

char_taken : (c : ℕ) (rest : List ℕ) → scalar c ≡ true → (c < 128 → 32 ≤ c) → Accepts (any_following 0) rest → Accepts (any_following 0) (encode c ++ rest)
char_taken c rest is printable a =
    let e0 = any_following 0 in
    let scalar_is = scalar_cases c is in
    elim (cases_lt c 128) [
      | inl one ↦ subst (λ (l : List ℕ). Accepts e0 (l ++ rest)) (sym (encode_ascii c one)) (any_following 0, after_start e0 c refl ∙ begins_one c (printable one) one, a)
      | inr from_two ↦ elim (cases_lt c 2048) [
        | inl two ↦
            let x = 192 + c / 64 in
            let y = 128 + c % 64 in
            subst (λ (l : List ℕ). Accepts e0 (l ++ rest)) (sym (encode_two c from_two two))
            (any_following 1, after_start e0 x refl ∙ begins_two x (omega arith) (omega arith), takes_next (any_following 1) 0 y rest refl (omega arith) (omega arith) a)
        | inr from_three ↦ elim (cases_lt c 65536) [
          | inl three ↦
              let x = 224 + c / 4096 in
              let y = 128 + c / 64 % 64 in
              let z = 128 + c % 64 in
              let f = begins_three x (omega arith) (omega arith) in
              let no_surrogate : x ≡ 237 → y ≤ 159 = λ e. elim scalar_is [ inl lt ↦ omega arith | inr ge ↦ omega (arith, ge.0) ] in
              let b = f.bounds y (omega arith) (omega arith) (λ e. omega arith, no_surrogate) in
              subst (λ (l : List ℕ). Accepts e0 (l ++ rest)) (sym (encode_three c from_three three))
              (f.after, after_start e0 x refl ∙ f.is, takes_next f.after 1 y (z ∷ rest) f.count_is b.0 b.1 (takes_next (any_following 1) 0 z rest refl (omega arith) (omega arith) a))
          | inr four ↦
              let x = 240 + c / 262144 in
              let y = 128 + c / 4096 % 64 in
              let z = 128 + c / 64 % 64 in
              let w = 128 + c % 64 in
              let top : c < 1114112 = elim scalar_is [ inl lt ↦ omega arith | inr ge ↦ ge.1 ] in
              let f = begins_four x (omega arith) (omega arith) in
              let b = f.bounds y (omega arith) (omega arith) (λ e. omega arith, λ e. omega arith) in
              subst (λ (l : List ℕ). Accepts e0 (l ++ rest)) (sym (encode_four c four)) (
                f.after,
                after_start e0 x refl ∙ f.is,
                takes_next f.after 2 y (z ∷ w ∷ rest) f.count_is b.0 b.1
                    (takes_next (any_following 2) 1 z (w ∷ rest) refl (omega arith) (omega arith) (takes_next (any_following 1) 0 w rest refl (omega arith) (omega arith) a)),
              )
        ]
      ]
    ]

chars_taken : (cs : List ℕ) → scalars cs ≡ true → list_all is_text_byte (encodes cs) ≡ true → Accepts (any_following 0) (encodes cs)
chars_taken [] s p = refl
chars_taken (c ∷ cs) s p =
    let q = and_parts (scalar c) (scalars cs) s in
    let r = and_parts (list_all is_text_byte (encode c)) (list_all is_text_byte (encodes cs)) (sym (list_all-append is_text_byte (encode c) (encodes cs)) ∙ p) in
    let printable = λ (lt : c < 128).
    let one : (is_text_byte c && true) ≡ true = ap (λ (l : List ℕ). list_all is_text_byte l) (sym (encode_ascii c lt)) ∙ r.0 in
    leb-true 32 c (and_parts (is_text_byte c) true one).0 in
    char_taken c (encodes cs) q.0 printable (chars_taken cs q.1 r.1)

pub complete : (t : List ℕ) → IsText t → Accepts (any_following 0) t
complete t h =
    let cs = h.0.0 in
    let e = h.0.1.1 in
    subst (λ (l : List ℕ). Accepts (any_following 0) l) e (chars_taken cs h.0.1.0 (ap (λ (l : List ℕ). list_all is_text_byte l) e ∙ h.1))
