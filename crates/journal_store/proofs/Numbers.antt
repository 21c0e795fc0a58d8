-- The root's bodies as numbers from 0 on.
use Rattle.std.proofs.Common.{◌≡◌, ◌≢◌, inl, inr, ℕ, zero, suc, ◌+◌, ◌*◌, ◌<◌, ◌≤◌, List, [], ◌∷◌, ◌++◌, length, take, get_or, Err, IsErrOf, refl, sym, ap, ◌∙◌, arith, length-append, add-one}
use Rattle.std.specs.Prelude.{Vec}
use Rattle.std.specs.declared.alloc.Global.{Global}
use Rattle.std.proofs.Math.Seq.{take-length}
use Rattle.std.proofs.lemmas.List.{take-append-le, take-take, length-map, take-map, take_more, map-append, append_cancel_left}
use Rattle.std.proofs.lemmas.Bool.{cases_order, cases_eq}
use Rattle.gated_log.specs.Logs.{header, length_bytes, spelled, blocks, front, contents, Reads}
use Rattle.gated_log.proofs.Blocks.{length-length_bytes}
use Rattle.gated_log.proofs.Crash.{length-front_empty, length-front_push}
use Rattle.journal_store.specs.declared.refusal.JournalRefusal.TheVariants.{NotAStore}
use Rattle.journal_store.specs.Readings.{number_bytes, numbers_below, generations, StopsAtNumber}

pub length-numbers_below : (n : ℕ) → length (numbers_below n) ≡ n
length-numbers_below zero = refl
length-numbers_below (suc n) = omega (arith, length-append (numbers_below n) (number_bytes n ∷ []), length-numbers_below n)

-- the first of the numbers
pub take-numbers_below : (m n : ℕ) → m ≤ n → take m (numbers_below n) ≡ numbers_below m
take-numbers_below m zero low = let none : m ≡ 0 = omega (arith, low) in cc
take-numbers_below m (suc n) low = elim (cases_eq m (suc n)) [
  | inl same ↦ ap (λ (k : ℕ). take k (numbers_below (suc n))) (same ∙ sym (length-numbers_below (suc n))) ∙ take-length (numbers_below (suc n)) ∙ ap numbers_below (sym same)
  | inr other ↦
      let below : m ≤ n = omega (arith, low, other) in
      take-append-le m (numbers_below n) (number_bytes n ∷ []) (omega (arith, below, length-numbers_below n)) ∙ take-numbers_below m n below
]

-- a root names one generation
pub generations_once : (g h : ℕ) → generations g ≡ generations h → g ≡ h
generations_once g h same = omega (arith, ap length same, length-numbers_below (g + 1), length-numbers_below (h + 1))

pub generations_some : (g : ℕ) → generations g ≡ [] → ⊥
generations_some g none = omega (arith, ap length none, length-numbers_below (g + 1))

-- no number of a root that names a generation is another
pub generations_agree : (g i at : ℕ) → StopsAtNumber i (generations g) at → ⊥
generations_agree g i at stops =
    stops.differs (take-numbers_below (i + 1) (g + 1) (omega (arith, stops.within, length-numbers_below (g + 1))))

number_first : (i j a b : ℕ) (bodies : List (List ℕ)) → StopsAtNumber i bodies a → StopsAtNumber j bodies b → i < j → ⊥
number_first i j a b bodies first second less =
    first.differs (sym (take-take (i + 1) j bodies (omega (arith, less))) ∙ ap (λ (l : List (List ℕ)). take (i + 1) l) second.same ∙ take-numbers_below (i + 1) j (omega (arith, less)))

-- the first body that isn't its number is one
pub number_once : (i j a b : ℕ) (bodies : List (List ℕ)) → StopsAtNumber i bodies a → StopsAtNumber j bodies b → a ≡ b
number_once i j a b bodies first second = elim (cases_order i j) [
  | inl same ↦ first.place ∙ ap (λ (k : ℕ). length (front (take k bodies)) + 5) same ∙ sym second.place
  | inr other ↦ elim other [
    | inl less ↦ absurd (number_first i j a b bodies first second less)
    | inr more ↦ absurd (number_first j i b a bodies second first more)
  ]
]

length-blocks : (bodies : List (List ℕ)) → 5 * length bodies ≤ length (blocks bodies)
length-blocks [] = omega arith
length-blocks (body ∷ bodies) =
    omega (arith, length-append (spelled body) (blocks bodies), length-append (length_bytes (length body)) body, length-length_bytes (length body), length-blocks bodies)

-- each body takes five bytes and more
pub length-front_bodies : (bodies : List (List ℕ)) → 5 * length bodies + 8 ≤ length (front bodies)
unfolding front
length-front_bodies bodies = omega (arith, length-append header (blocks bodies), length-blocks bodies)

-- so a short log has none
pub short_has_none : (bodies : List (List ℕ)) (file : List ℕ) → length file ≤ 9 → Reads bodies file → bodies ≡ []
short_has_none [] file short reads = refl
short_has_none (body ∷ bodies) file short reads =
    absurd (omega (arith, short, ap length reads.is, length-append (front (body ∷ bodies)) (reads.gate ∷ reads.rest), length-front_bodies (body ∷ bodies)))

pub numbers_more : (i : ℕ) → numbers_below (i + 1) ≡ numbers_below i ++ number_bytes i ∷ []
numbers_more i = ap numbers_below (add-one i)

pub length-number_bytes : (n : ℕ) → length (number_bytes n) ≡ 8
unfolding number_bytes
length-number_bytes n = refl

length-front_numbers : (n : ℕ) → length (front (numbers_below n)) ≡ 13 * n + 8
length-front_numbers zero = length-front_empty
length-front_numbers (suc n) = omega (arith, length-front_push (numbers_below n) (number_bytes n), length-number_bytes n, length-front_numbers n)

-- the root of a generation takes 13 bytes for each number up to it
pub length-front_generations : (g : ℕ) → length (front (generations g)) ≡ 13 * (g + 1) + 8
length-front_generations g = length-front_numbers (g + 1)

-- so that is where it ends
pub root_end : (bodies : List (List ℕ)) (g end : ℕ) → bodies ≡ generations g → end ≡ length (front bodies) + 1 → end ≡ 13 * (g + 1) + 9
root_end bodies g end names end_is = omega (arith, end_is, ap (λ (l : List (List ℕ)). length (front l)) names, length-front_generations g)

-- ## The loop over the root's bodies

contents_more : (vecs : List (Vec ℕ Global)) (i : ℕ) (v : Vec ℕ Global) → i < length vecs → v ≡ get_or vecs i v
    → take (i + 1) (contents vecs) ≡ take i (contents vecs) ++ v.items ∷ []
contents_more vecs i v within is =
    take-map (λ (w : Vec ℕ Global). w.items) (i + 1) vecs
    ∙ ap contents (take_more vecs i v within ∙ ap (λ (w : Vec ℕ Global). take i vecs ++ w ∷ []) (sym is))
    ∙ map-append (λ (w : Vec ℕ Global). w.items) (take i vecs) (v ∷ [])
    ∙ ap (λ (l : List (List ℕ)). l ++ v.items ∷ []) (sym (take-map (λ (w : Vec ℕ Global). w.items) i vecs))

-- one number more
pub numbers_go_on : (vecs : List (Vec ℕ Global)) (i : ℕ) (v : Vec ℕ Global) → i < length vecs → v ≡ get_or vecs i v
    → take i (contents vecs) ≡ numbers_below i → v.items ≡ number_bytes i → take (i + 1) (contents vecs) ≡ numbers_below (i + 1)
numbers_go_on vecs i v within is same number =
    contents_more vecs i v within is ∙ ap (λ (l : List (List ℕ)). l ++ v.items ∷ []) same
    ∙ ap (λ (b : List ℕ). numbers_below i ++ b ∷ []) number ∙ sym (numbers_more i)

-- or another body
pub numbers_end : (vecs : List (Vec ℕ Global)) (i : ℕ) (v : Vec ℕ Global) → i < length vecs → v ≡ get_or vecs i v
    → take i (contents vecs) ≡ numbers_below i → (v.items ≡ number_bytes i → ⊥) → take (i + 1) (contents vecs) ≢ numbers_below (i + 1)
numbers_end vecs i v within is same other = λ all.
    let fronts : take i (contents vecs) ++ v.items ∷ [] ≡ numbers_below i ++ number_bytes i ∷ [] =
    sym (contents_more vecs i v within is) ∙ all ∙ numbers_more i in
    let backs : v.items ∷ [] ≡ number_bytes i ∷ [] =
    append_cancel_left (numbers_below i) (v.items ∷ []) (number_bytes i ∷ []) (ap (λ (l : List (List ℕ)). l ++ v.items ∷ []) (sym same) ∙ fronts) in
    other (cc)

pub number_stops : {T : Type 0} (vecs : List (Vec ℕ Global)) (i place file at : ℕ) → i < length vecs → take i (contents vecs) ≡ numbers_below i
    → take (i + 1) (contents vecs) ≢ numbers_below (i + 1) → place ≡ length (front (contents (take i vecs))) + 5
    → IsErrOf {T = T} (Err (NotAStore 0 place)) (NotAStore file at) → (file ≡ 0) × (x : ℕ) × StopsAtNumber x (contents vecs) at
number_stops vecs i place file at within same differs place_is err =
    let h : NotAStore 0 place ≡ NotAStore file at = cc in
    let at_is : at ≡ place = cc in (
      cc,
      i,
      record {
        within = omega (arith, within, length-map vecs (λ (w : Vec ℕ Global). w.items));
        same = same;
        differs = differs;
        place = at_is ∙ place_is ∙ ap (λ (l : List (List ℕ)). length (front l) + 5) (sym (take-map (λ (w : Vec ℕ Global). w.items) i vecs));
      },
    )
