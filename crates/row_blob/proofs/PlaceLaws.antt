-- The more bytes tell of a kept form, the more is said of it; all of them say that it is one of the shape.
use Rattle.std.proofs.Common.{◌≡◌, ℕ, ◌+◌, ◌≤◌, ◌↔◌, List, [], ◌∷◌, ◌++◌, length, arith, inl, inr}
use Rattle.std.specs.List.{flat_map}
use Rattle.std.proofs.lemmas.Bool.{cases_order}
use Rattle.std.proofs.lemmas.List.{length-append}
use Rattle.row_blob.specs.declared.kept.Kept.{Kept}
use Rattle.row_blob.specs.declared.kept.Kept.TheVariants as kept
use Rattle.row_blob.specs.declared.shape.Shape.{Shape}
use Rattle.row_blob.specs.declared.shape.Shape.TheVariants as shape
use Rattle.row_blob.specs.Spelling.{row_spelling, acc_spelling, group_spelling, tagged_spelling, kept_spelling}
use Rattle.row_blob.specs.Kept.{AreInOrder, IsNextGroup, IsNextTagged, IsKept}
use Rattle.row_blob.specs.Place.{IsGroupTo, IsTaggedTo, IsKeptTo, GoesOn, StopsAt}
use Rattle.byte_formats.proofs.Same.{same_less}
use Rattle.row_blob.proofs.ItemPlaces.{begin_next}

in_order : {A : Type 0} (P Q : List A → A → Type 0) → ((before : List A) (x : A) → P before x → Q before x) → (before xs : List A) → AreInOrder P before xs → AreInOrder Q before xs
in_order P Q f before [] fit = tt
in_order P Q f before (x ∷ xs) fit = (f before x fit.0, in_order P Q f (before ++ x ∷ []) xs fit.1)

-- the same, where each item ends within the first n bytes
in_order_to : {A : Type 0} (spell : A → List ℕ) (off n : ℕ) (P Q : List A → A → Type 0) → ((before : List A) (x : A) → off + length (flat_map spell before) + length (spell x) ≤ n → P before x → Q before x)
    → (before xs : List A) → off + length (flat_map spell before) + length (flat_map spell xs) ≤ n → AreInOrder P before xs → AreInOrder Q before xs
in_order_to spell off n P Q f before [] le fit = tt
in_order_to spell off n P Q f before (x ∷ xs) le fit =
    let len = length-append (spell x) (flat_map spell xs) in
    let next = begin_next spell off before x in
    (f before x (omega arith) fit.0, in_order_to spell off n P Q f (before ++ x ∷ []) xs (omega arith) fit.1)

kept_to_less : (shape : Shape) (k : Kept) (m n : ℕ) → m ≤ n → IsKeptTo n shape k → IsKeptTo m shape k
kept_to_less (shape.Rows kinds) (kept.Rows rows) m n le is = is
kept_to_less (shape.Groups keys kinds) (kept.Groups groups) m n le is =
    (is.0, in_order (IsGroupTo keys kinds n) (IsGroupTo keys kinds m) (λ before g fit. (fit.0, fit.1, λ reach. fit.2 (omega arith))) [] groups is.1)
kept_to_less (shape.Tagged kinds) (kept.Tagged left rows) m n le is =
    (is.0, is.1, in_order (IsTaggedTo left kinds n) (IsTaggedTo left kinds m) (λ before t fit. (fit.0, fit.1, λ reach. fit.2 (omega arith))) [] rows is.2)
kept_to_less _ _ m n le is = absurd is

goes_less : (shape : Shape) (bytes : List ℕ) (m n : ℕ) → m ≤ n → GoesOn shape bytes n → GoesOn shape bytes m
goes_less shape bytes m n le goes = (goes.0, kept_to_less shape goes.0 m n le goes.1, same_less m n (kept_spelling goes.0) bytes le goes.2)

pub same_place : (shape : Shape) (bytes : List ℕ) (a b : ℕ) → StopsAt shape bytes a → StopsAt shape bytes b → a ≡ b
same_place shape bytes a b p q =
    let p_within = p.0 in
    let q_within = q.0 in
    elim (cases_order a b) [
      | inl e ↦ e
      | inr other ↦ elim other [
        | inl lt ↦ absurd (p.2 (omega arith) (goes_less shape bytes (a + 1) b (omega arith) q.1))
        | inr gt ↦ absurd (q.2 (omega arith) (goes_less shape bytes (b + 1) a (omega arith) p.1))
      ]
    ]

kept_from : (shape : Shape) (k : Kept) (n : ℕ) → length (kept_spelling k) ≤ n → IsKeptTo n shape k → IsKept shape k
kept_from (shape.Rows kinds) (kept.Rows rows) n le is = is
kept_from (shape.Groups keys kinds) (kept.Groups groups) n le is = (
  is.0,
  in_order_to group_spelling 16 n (IsGroupTo keys kinds n) (IsNextGroup keys kinds)
      (λ before g reach fit. (fit.0, fit.1, fit.2 (let len = length-append (row_spelling g.key) (flat_map acc_spelling g.accs) in omega arith)))
      [] groups (omega arith) is.1,
)
kept_from (shape.Tagged kinds) (kept.Tagged left rows) n le is = (
  is.0,
  is.1,
  in_order_to tagged_spelling 24 n (IsTaggedTo left kinds n) (IsNextTagged left kinds)
      (λ before t reach fit. let r = fit.2 (omega arith) in (r.0, r.1, fit.1))
      [] rows (omega arith) is.2,
)
kept_from _ _ n le is = absurd is

kept_to : (shape : Shape) (k : Kept) (n : ℕ) → IsKept shape k → IsKeptTo n shape k
kept_to (shape.Rows kinds) (kept.Rows rows) n is = is
kept_to (shape.Groups keys kinds) (kept.Groups groups) n is =
    (is.0, in_order (IsNextGroup keys kinds) (IsGroupTo keys kinds n) (λ before g fit. (fit.0, fit.1, λ reach. fit.2)) [] groups is.1)
kept_to (shape.Tagged kinds) (kept.Tagged left rows) n is =
    let small = is.1 in
    (is.0, is.1, in_order (IsNextTagged left kinds) (IsTaggedTo left kinds n) (λ before t fit. (let lt = fit.1 in omega arith, fit.2, λ reach. (fit.0, fit.1))) [] rows is.2)
kept_to _ _ n is = absurd is

pub kept_to_all : (shape : Shape) (k : Kept) (n : ℕ) → length (kept_spelling k) ≤ n → IsKeptTo n shape k ↔ IsKept shape k
kept_to_all shape k n le = (kept_from shape k n le, kept_to shape k n)
