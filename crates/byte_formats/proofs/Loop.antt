-- Items that are read one after the other, as a loop does.
use Rattle.std.proofs.Common.{◌≡◌, ℕ, suc, ◌-◌, ◌+◌, ◌<◌, ◌≤◌, List, [], ◌∷◌, ◌++◌, Ok, Err, refl, sym, ap, ◌∙◌, append_assoc, arith}
use Rattle.std.proofs.lemmas.List.{append-nil}
use Rattle.byte_formats.specs.declared.unread.Unread.{Unread}
use Rattle.byte_formats.specs.declared.unread.Unread.TheVariants.{Left, Memory}
use Rattle.byte_formats.specs.Reading.{◌>>=◌, Read, Fails}
use Rattle.byte_formats.specs.Format.{Format, read_as, items_at, counted}

-- what was read, and then what is read behind it
abbrev pub with_front : {A : Type 0} → List A → Read (List A) → Read (List A)
with_front front r = r >>= λ x. Ok (front ++ x.0, x.1)

abbrev pub HasRead : {A : Type 0} → (List ℕ → Read A) → ℕ → ℕ → List A → List ℕ → List ℕ → Type 0
HasRead read count index front rest bytes = with_front front (items_at read (count - index) rest) ≡ items_at read count bytes

pub with_none : {A : Type 0} (r : Read (List A)) → with_front [] r ≡ r
with_none (Ok x) = refl
with_none (Err left) = refl

pub with_one : {A : Type 0} (front : List A) (a : A) (r : Read (List A)) → with_front front (r >>= λ x. Ok (a ∷ x.0, x.1)) ≡ with_front (front ++ a ∷ []) r
with_one front a (Ok x) = ap (λ (l : List _). Ok (l, x.1)) (sym (append_assoc front (a ∷ []) x.0))
with_one front a (Err left) = refl

module _ {A : Type 0} (read : List ℕ → Read A) where
  abbrev behind : ℕ → Read A → Read (List A)
  behind n r = r >>= λ a. items_at read n a.1 >>= λ x. Ok (a.0 ∷ x.0, x.1)

  one_less : (count index : ℕ) → index < count → count - index ≡ suc (count - (index + 1))
  one_less count index lt = omega arith

  pub read_start : (count : ℕ) (bytes : List ℕ) → HasRead read count 0 [] bytes bytes
  read_start count bytes = with_none (items_at read (count - 0) bytes) ∙ ap (λ (n : ℕ). items_at read n bytes) (omega arith)

  pub read_more : (count index : ℕ) (front : List A) (rest : List ℕ) (a : A) (after bytes : List ℕ) → index < count → read rest ≡ Ok (a, after) → HasRead read count index front rest bytes
      → HasRead read count (index + 1) (front ++ a ∷ []) after bytes
  read_more count index front rest a after bytes lt e so_far =
      let n = count - (index + 1) in
      let step : items_at read (count - index) rest ≡ behind n (Ok (a, after)) = ap (λ (m : ℕ). items_at read m rest) (one_less count index lt) ∙ ap (behind n) e in
      sym (with_one front a (items_at read n after)) ∙ ap (with_front front) (sym step) ∙ so_far

  pub read_end : (count index : ℕ) (front : List A) (rest bytes : List ℕ) → count ≤ index → HasRead read count index front rest bytes → items_at read count bytes ≡ Ok (front, rest)
  read_end count index front rest bytes le so_far =
      let none : count - index ≡ 0 = omega arith in
      sym so_far ∙ ap (λ (m : ℕ). with_front front (items_at read m rest)) none ∙ ap (λ (l : List A). Ok (l, rest)) (append-nil front)

  pub read_fails : (e : Unread) (count index : ℕ) (front : List A) (rest bytes : List ℕ) → index < count → Fails e (read rest) → HasRead read count index front rest bytes → Fails e (items_at read count bytes)
  read_fails Memory count index front rest bytes lt fails so_far = tt
  read_fails (Left left) count index front rest bytes lt fails so_far =
      let n = count - (index + 1) in
      sym so_far ∙ ap (λ (m : ℕ). with_front front (items_at read m rest)) (one_less count index lt) ∙ ap (λ r. with_front front (behind n r)) fails

-- ---- items behind their count

module _ {A : Type 0} (count : Format ℕ) (item : Format A) where
  abbrev list_of : Read (ℕ × List A) → Read (List A)
  list_of r = read_as (λ (p : ℕ × List A). p.1) r

  abbrev with_count : ℕ → Read (List A) → Read (ℕ × List A)
  with_count n r = r >>= λ x. Ok ((n, x.0), x.1)

  pub counted_reads : (n : ℕ) (items : List A) (bytes rest after : List ℕ) → count.read bytes ≡ Ok (n, rest) → items_at item.read n rest ≡ Ok (items, after) → (counted count item).read bytes ≡ Ok (items, after)
  counted_reads n items bytes rest after e h = ap (λ (r : Read ℕ). list_of (r >>= λ a. with_count a.0 (items_at item.read a.0 a.1))) e ∙ ap (λ (r : Read (List A)). list_of (with_count n r)) h

  pub counted_fails : (e : Unread) (n : ℕ) (bytes rest : List ℕ) → count.read bytes ≡ Ok (n, rest) → Fails e (items_at item.read n rest) → Fails e ((counted count item).read bytes)
  counted_fails Memory n bytes rest e fails = tt
  counted_fails (Left left) n bytes rest e fails = ap (λ (r : Read ℕ). list_of (r >>= λ a. with_count a.0 (items_at item.read a.0 a.1))) e ∙ ap (λ (r : Read (List A)). list_of (with_count n r)) fails
