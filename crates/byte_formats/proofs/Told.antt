-- Symbols of a table, signed numbers and texts are exact.
use Rattle.std.proofs.Common.{◌≡◌, ℕ, ℤ, suc, ◌+◌, ◌-◌, ◌^◌, ◌<◌, ◌≤◌, inl, inr, Bool, true, false, eqb, cond, List, [], ◌∷◌, ◌++◌, length, take, drop, Some, Err, refl, sym, ap, ◌∙◌, append_assoc, arith}
use Rattle.std.specs.Int.{Width, w32, w64, to_be_bytes, cast_signed, cast_unsigned}
use Rattle.std.specs.Int.RustNames.{FitsSigned}
use Rattle.std.specs.List.{AllByRecursion}
use Rattle.std.proofs.lemmas.Bool.{eqb-true, cases_Bool}
use Rattle.std.proofs.lemmas.Int.{of_z-to_z, to_z-of_z}
use Rattle.std.proofs.lemmas.List.{append-nil, take-append-drop, length-append, length-drop, take_at}
use mir.ValLaws.{to_z-Fits, of_z_fits}
use Rattle.rows_core.specs.Txt.{IsTxt}
use Rattle.byte_formats.specs.Reading.{Read, bounded_at, text_at}
use Rattle.byte_formats.proofs.Readers.{IsReader, IsBytes, ok_is}
use Rattle.byte_formats.proofs.Fields.{IsWide, wide32, wide64, bounded_reader}
use Rattle.byte_formats.proofs.Ranges.{IsBig, big32, big64, bounded_exact}
use Rattle.byte_formats.proofs.TextLaws.{text_takes, text_again}
use Rattle.byte_formats.proofs.Stopping.{IsExact}
use Rattle.byte_formats.proofs.TextPlaces.{text_exact as text_places}
use Rattle.byte_formats.specs.Format.{Format, beside, symbol, flag, flag_of_byte, byte_of_flag, ◌⊗◌, told, between, u64, signed, i64, text, text_spelling}
use Rattle.byte_formats.proofs.Exact.{Stops, Exact, both_exact}
use Rattle.byte_formats.proofs.Laws.{symbol_exact, made_exact, u64_exact}

-- a table that gives each value its own byte
pub beside_is : {A : Type 0} (byte_of : A → ℕ) (rows : List (ℕ × A)) (b : ℕ) (a : A) → AllByRecursion (λ row. byte_of row.1 ≡ row.0) rows → beside rows b ≡ Some a → byte_of a ≡ b
beside_is byte_of [] b a own e = absurd cc
beside_is byte_of (row ∷ rows) b a own e = elim (cases_Bool (eqb b row.0)) [
  | inl t ↦
      let is : Some row.1 ≡ Some a = ap (λ (c : Bool). cond c (Some row.1) (beside rows b)) (sym t) ∙ e in
      let same : row.1 ≡ a = cc in
      ap byte_of (sym same) ∙ own.0 ∙ sym (eqb-true b row.0 t)
  | inr t ↦ beside_is byte_of rows b a own.1 (ap (λ (c : Bool). cond c (Some row.1) (beside rows b)) (sym t) ∙ e)
]

pub table_exact : {A : Type 0} (byte_of : A → ℕ) (rows : List (ℕ × A)) → AllByRecursion (λ row. byte_of row.1 ≡ row.0) rows → Exact (symbol byte_of (beside rows))
table_exact byte_of rows own = symbol_exact byte_of (beside rows) (λ b a e. beside_is byte_of rows b a own e)

pub flag_is : (b : ℕ) (f : Bool) → flag_of_byte b ≡ Some f → byte_of_flag f ≡ b
flag_is b f e = beside_is byte_of_flag ((0, false) ∷ (1, true) ∷ []) b f (refl, (refl, tt)) e

pub flag_fits : (f : Bool) → flag.Fits f
flag_fits false = refl
flag_fits true = refl

pub flag_exact : Exact flag
flag_exact = symbol_exact byte_of_flag flag_of_byte flag_is

pub pair_exact : {A B : Type 0} (f : Format A) (g : Format B) → Exact f → Exact g → Exact (f ⊗ g)
pair_exact f g fe ge = both_exact f (λ a. g) fe (λ a fits. ge)

i64_from : (z : ℤ) → FitsSigned w64 z → (n : ℕ) × u64.Fits n × (cast_signed w64 n ≡ z)
i64_from z fits = (cast_unsigned w64 z, (of_z_fits w64 z fits).fits, to_z-of_z w64 z fits)

pub i64_exact : Exact i64
i64_exact = made_exact (cast_signed w64) (FitsSigned w64) (signed w64) u64 u64_exact (record {
  to = λ n fits. (to_z-Fits w64 n (record { fits = fits }), ap (to_be_bytes w64) (of_z-to_z w64 n fits));
  from = i64_from;
})

-- ---- what was proved for a reader of bytes alone

module _ {A : Type 0} (Fits : A → Type 0) (spell : A → List ℕ) (read : List ℕ → Read A) (reader : IsReader read spell Fits) (places : IsExact read spell Fits) where
  told_dead : (bytes : List ℕ) (left : ℕ) (front : List ℕ) (b : ℕ) (bs : List ℕ) → IsBytes bytes → read bytes ≡ Err left → bytes ≡ front ++ b ∷ bs → left ≡ suc (length bs)
      → (told Fits spell read).Begins (front ++ b ∷ []) → ⊥
  told_dead bytes left front b bs wide e parts size begins =
      let x = front ++ b ∷ [] in
      let k = length bytes - length bs in
      let whole : bytes ≡ x ++ bs = parts ∙ sym (append_assoc front (b ∷ []) bs) in
      let all : length bytes ≡ length x + length bs = ap length whole ∙ length-append x bs in
      let len : length x ≡ k = omega arith in
      let a = begins.0 in
      let spelled : spell a ≡ x ++ begins.2.0 = begins.2.1 in
      places.stops bytes (length bs) a [] wide (e ∙ ap (λ (n : ℕ). Err n) size) begins.1
      (ap (take k) (append-nil (spell a) ∙ spelled) ∙ take_at x begins.2.0 k len ∙ sym (take_at x bs k len) ∙ ap (take k) (sym whole))

  told_past : (a : A) (c : ℕ) (cs : List ℕ) → Fits a → (told Fits spell read).Begins (spell a ++ c ∷ cs) → ⊥
  told_past a c cs fits begins =
      let b = begins.0 in
      let more = begins.2.0 in
      let whole : spell b ++ [] ≡ spell a ++ (c ∷ (cs ++ more)) = append-nil (spell b) ∙ begins.2.1 ∙ append_assoc (spell a) (c ∷ cs) more in
      let same = ok_is (b, []) (a, c ∷ (cs ++ more)) (sym (reader.again b [] begins.1) ∙ ap read whole ∙ reader.again a (c ∷ (cs ++ more)) fits) in
      let rest : [] ≡ c ∷ (cs ++ more) = ap (λ (x : A × List ℕ). x.1) same in
      cc

  told_stops : (bytes : List ℕ) (left : ℕ) → IsBytes bytes → read bytes ≡ Err left → Stops (told Fits spell read) bytes left
  told_stops bytes left wide e =
      let g = places.goes bytes left wide e in
      let n = length bytes - left in
      let within = g.within in
      record {
        front = take n bytes;
        back = drop n bytes;
        parts = sym (take-append-drop n bytes);
        size = (let l = length-drop n bytes in omega arith);
        goes = (g.item, g.fits, (drop n (spell g.item), sym (take-append-drop n (spell g.item)) ∙ ap (λ (l : List ℕ). l ++ drop n (spell g.item)) g.same));
        dead = λ b bs back begins. told_dead bytes left (take n bytes) b bs wide e (sym (take-append-drop n bytes) ∙ ap (λ (l : List ℕ). take n bytes ++ l) back)
            (let l = length-drop n bytes in let m : length (drop n bytes) ≡ suc (length bs) = ap length back in omega arith) begins;
      }

  pub told_exact : Exact (told Fits spell read)
  told_exact = record {
    again = reader.again;
    takes = λ bytes x wide e. (let t = reader.takes bytes x wide e in record { fits = t.fits; parts = t.parts });
    stops = told_stops;
    fronts = λ a front more fits e. (a, fits, (more, e));
    past = told_past;
    shorter = λ front more begins. (begins.0, begins.1, (more ++ begins.2.0, begins.2.1 ∙ append_assoc front more begins.2.0));
  }

pub text_exact : Exact text
text_exact = told_exact IsTxt text_spelling text_at (record { takes = text_takes; again = text_again }) text_places

pub between_exact : (w : Width) (limit : ℕ) → IsWide w limit → IsBig w → (low high : ℕ) → low ≤ high → high < limit → Exact (between w low high)
between_exact w limit wide big low high order small =
    told_exact (λ n. (low ≤ n) × (n ≤ high)) (to_be_bytes w) (bounded_at w low high) (bounded_reader w limit wide low high small) (bounded_exact w limit wide big low high order small)

pub u32_between_exact : (low high : ℕ) → low ≤ high → high < 2 ^ 32 → Exact (between w32 low high)
u32_between_exact = between_exact w32 (2 ^ 32) wide32 big32

pub u64_between_exact : (low high : ℕ) → low ≤ high → high < 2 ^ 64 → Exact (between w64 low high)
u64_between_exact = between_exact w64 (2 ^ 64) wide64 big64
