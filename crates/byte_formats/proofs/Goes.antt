-- Bytes that begin a spelling, as far as reading can tell, are the first bytes of one: of a value that is as the format
-- says, but for a rule that counts only where it is broken, as the bound of a nesting.
use Rattle.std.proofs.Common.{◌≡◌, ℕ, zero, suc, ◌-◌, ◌^◌, ◌<◌, inl, inr, false, ltb, List, [], ◌∷◌, ◌++◌, length, Option, Some, refl, sym, ap, subst, ◌∙◌, append_assoc, arith}
use Rattle.std.specs.Int.{Width, w32, w64, byte_len, to_be_bytes, from_be_bytes, cast_signed}
use Rattle.std.specs.Int.RustNames.{FitsSigned}
use Rattle.std.specs.List.{flat_map, AllByRecursion}
use Rattle.std.proofs.lemmas.List.{append-nil, length-append}
use Rattle.std.proofs.lemmas.Int.{of_z-to_z}
use Rattle.std.proofs.lemmas.Str.{IsUtf8-nil}
use mir.ValLaws.{to_z-Fits}
use Rattle.rows_core.specs.Txt.{IsTxt}
use Rattle.byte_formats.specs.Reading.{Read, text_at}
use Rattle.byte_formats.proofs.Fields.{IsWide, wide32, wide64}
use Rattle.byte_formats.specs.Format.{Format, beside, number_of_byte, byte, byte_of_flag, flag_of_byte, flag, u32, u64, signed, i64, text_spelling, text, formed, told, symbol, number, made, ◌▷◌, ◌⊗◌, nothing, times, counted}
use Rattle.byte_formats.proofs.Readers.{IsBytes}
use Rattle.byte_formats.proofs.Exact.{bytes_behind}
use Rattle.byte_formats.proofs.Laws.{some_if}
use Rattle.byte_formats.proofs.Told.{beside_is, flag_is}

pub record Front {A : Type 0} (format : Format A) (Loose : A → Type 0) (front : List ℕ) : Type 0 where
  pub value : A
  pub fits : Loose value
  pub more : List ℕ
  pub spelled : format.spell value ≡ front ++ more

pub record Goes {A : Type 0} (format : Format A) (Loose : A → Type 0) : Type 0 where
  pub some : A
  pub some_fits : Loose some
  pub tight : (a : A) → format.Fits a → Loose a
  pub goes : (front : List ℕ) → IsBytes front → format.Begins front → Front format Loose front

at_once : {A : Type 0} (format : Format A) (Loose : A → Type 0) (a : A) → Loose a → Front format Loose []
at_once format Loose a fits = record { value = a; fits = fits; more = format.spell a; spelled = refl }

-- ---- one byte, numbers

module _ {A : Type 0} (byte_of : A → ℕ) (value_of : ℕ → Option A) (one_byte : (b : ℕ) (a : A) → value_of b ≡ Some a → byte_of a ≡ b) (some : A) (fits : value_of (byte_of some) ≡ Some some) where
  abbrev own : Format A
  own = symbol byte_of value_of

  symbol_front : (front : List ℕ) → own.Begins front → Front own own.Fits front
  symbol_front [] begins = at_once own own.Fits some fits
  symbol_front (b ∷ []) begins =
      let is = one_byte b begins.0 begins.1 in
      record { value = begins.0; fits = subst (λ (c : ℕ). value_of c ≡ Some begins.0) (sym is) begins.1; more = []; spelled = λ i. is i ∷ [] }
  symbol_front (b ∷ c ∷ front) begins = absurd begins

  pub symbol_goes : Goes (symbol byte_of value_of) (symbol byte_of value_of).Fits
  symbol_goes = record { some = some; some_fits = fits; tight = λ a f. f; goes = λ front wide begins. symbol_front front begins }

pub zeros : ℕ → List ℕ
zeros zero = []
zeros (suc n) = 0 ∷ zeros n

pub length-zeros : (n : ℕ) → length (zeros n) ≡ n
unfolding zeros
length-zeros zero = refl
length-zeros (suc n) = ap suc (length-zeros n)

wide-zeros : (front : List ℕ) (n : ℕ) → IsBytes front → IsBytes (front ++ zeros n)
unfolding zeros
wide-zeros [] zero wide i = wide i
wide-zeros [] (suc n) wide zero = omega arith
wide-zeros [] (suc n) wide (suc i) = wide-zeros [] n wide i
wide-zeros (f ∷ front) n wide zero = wide zero
wide-zeros (f ∷ front) n wide (suc i) = wide-zeros front n (λ j. wide (suc j)) i

pub number_goes : (w : Width) (limit : ℕ) → 0 < limit → IsWide w limit → Goes (number w limit) (λ n. n < limit)
number_goes w limit positive law = record {
  some = 0;
  some_fits = positive;
  tight = λ n f. f;
  goes = λ front wide begins.
      let rest = zeros (byte_len w - length front) in
      let all = front ++ rest in
      let len : length all ≡ byte_len w = length-append front rest ∙ (let l = length-zeros (byte_len w - length front) in omega arith) in
      let bytes = wide-zeros front (byte_len w - length front) wide in
      record { value = from_be_bytes w all; fits = law.below all bytes; more = rest; spelled = law.back all len bytes };
}

pub told_goes : {A : Type 0} (Fits : A → Type 0) (spell : A → List ℕ) (read : List ℕ → Read A) (some : A) → Fits some → Goes (told Fits spell read) Fits
told_goes Fits spell read some fits = record {
  some = some;
  some_fits = fits;
  tight = λ a f. f;
  goes = λ front wide begins. record { value = begins.0; fits = begins.1; more = begins.2.0; spelled = begins.2.1 };
}

-- ---- one behind another, made values

module _ {A : Type 0} {B : A → Type 0} (f : Format A) (g : (a : A) → Format (B a)) (LF : A → Type 0) (LG : (a : A) → B a → Type 0) (fg : Goes f LF) (gg : (a : A) → LF a → Goes (g a) (LG a)) where
  abbrev Both : (a : A) × B a → Type 0
  Both p = LF p.0 × LG p.0 p.1

  both_front : (front : List ℕ) → IsBytes front → (f ▷ g).Begins front → Front (f ▷ g) Both front
  both_front front wide begins = elim begins [
    | inl h ↦
        let a = fg.goes front wide h in
        let b = gg a.value a.fits in
        record { value = (a.value, b.some); fits = (a.fits, b.some_fits); more = a.more ++ (g a.value).spell b.some; spelled = ap (λ (l : List ℕ). l ++ (g a.value).spell b.some) a.spelled ∙ append_assoc front a.more ((g a.value).spell b.some) }
    | inr h ↦
        let fits = fg.tight h.0 h.1 in
        let b = (gg h.0 fits).goes h.2.0 (bytes_behind (f.spell h.0) h.2.0 (subst IsBytes h.2.1 wide)) h.2.2 in
        record { value = (h.0, b.value); fits = (fits, b.fits); more = b.more; spelled = ap (λ (l : List ℕ). f.spell h.0 ++ l) b.spelled ∙ sym (append_assoc (f.spell h.0) h.2.0 b.more) ∙ ap (λ (l : List ℕ). l ++ b.more) (sym h.2.1) }
  ]

  pub both_goes : Goes (f ▷ g) (λ p. LF p.0 × LG p.0 p.1)
  both_goes = record {
    some = (fg.some, (gg fg.some fg.some_fits).some);
    some_fits = (fg.some_fits, (gg fg.some fg.some_fits).some_fits);
    tight = λ p fits. (let a = fg.tight p.0 fits.0 in (a, (gg p.0 a).tight p.1 fits.1));
    goes = both_front;
  }

pub pair_goes : {A B : Type 0} (f : Format A) (g : Format B) (LF : A → Type 0) (LG : B → Type 0) → Goes f LF → Goes g LG → Goes (f ⊗ g) (λ p. LF p.0 × LG p.1)
pair_goes f g LF LG fg gg = both_goes f (λ a. g) LF (λ a. LG) fg (λ a fits. gg)

module _ {A B : Type 0} (make : A → B) (Fits : B → Type 0) (spell : B → List ℕ) (parts : Format A) (LA : A → Type 0) (LB : B → Type 0) (pg : Goes parts LA)
    (to : (a : A) → LA a → LB (make a) × (spell (make a) ≡ parts.spell a)) (tight : (b : B) → Fits b → LB b) where
  pub made_goes : Goes (made make Fits spell parts) LB
  made_goes = record {
    some = make pg.some;
    some_fits = (to pg.some pg.some_fits).0;
    tight = tight;
    goes = λ front wide begins.
        let a = pg.goes front wide begins in
        let t = to a.value a.fits in
        record { value = make a.value; fits = t.0; more = a.more; spelled = t.1 ∙ a.spelled };
  }

-- ---- items, and where nothing may stand

module _ {A : Type 0} (item : Format A) (Loose : A → Type 0) (ig : Goes item Loose) where
  all_tight : (items : List A) → AllByRecursion item.Fits items → AllByRecursion Loose items
  all_tight [] fits = tt
  all_tight (x ∷ items) fits = (ig.tight x fits.0, all_tight items fits.1)

  pub times_goes : (n : ℕ) → Goes (times n item) (λ items. (length items ≡ n) × AllByRecursion Loose items)
  times_goes zero = record {
    some = [];
    some_fits = (refl, tt);
    tight = λ items fits. (fits.0, all_tight items fits.1);
    goes = λ front wide begins. record { value = []; fits = (refl, tt); more = []; spelled = sym (append-nil front ∙ begins) };
  }
  times_goes (suc n) =
      let two = pair_goes item (times n item) Loose (λ items. (length items ≡ n) × AllByRecursion Loose items) ig (times_goes n) in
      record {
        some = two.some.0 ∷ two.some.1;
        some_fits = (ap suc two.some_fits.1.0, (two.some_fits.0, two.some_fits.1.1));
        tight = λ items fits. (fits.0, all_tight items fits.1);
        goes = λ front wide begins.
            let p = two.goes front wide begins in
            let f = p.fits in
            record { value = p.value.0 ∷ p.value.1; fits = (ap suc f.1.0, (f.0, f.1.1)); more = p.more; spelled = p.spelled };
      }

  module _ (count : Format ℕ) (cg : Goes count count.Fits) where
    pub counted_goes : Goes (counted count item) (λ items. count.Fits (length items) × AllByRecursion Loose items)
    counted_goes =
        made_goes (λ (p : ℕ × List A). p.1) (λ items. count.Fits (length items) × AllByRecursion item.Fits items) (λ items. count.spell (length items) ++ flat_map item.spell items) (count ▷ λ n. times n item)
        (λ p. count.Fits p.0 × ((length p.1 ≡ p.0) × AllByRecursion Loose p.1)) (λ items. count.Fits (length items) × AllByRecursion Loose items)
        (both_goes count (λ n. times n item) count.Fits (λ n items. (length items ≡ n) × AllByRecursion Loose items) cg (λ n fits. times_goes n))
        (λ p fits. ((subst count.Fits (sym fits.1.0) fits.0, fits.1.1), ap (λ (n : ℕ). count.spell n ++ flat_map item.spell p.1) fits.1.0))
        (λ items fits. (fits.0, all_tight items fits.1))

pub nothing_goes : {A : Type 0} (Fits : A → Type 0) (spell : A → List ℕ) (Loose : A → Type 0) (some : A) → Loose some → ((a : A) → Fits a → Loose a) → Goes (formed Fits spell nothing) Loose
nothing_goes Fits spell Loose some fits tight = record {
  some = some;
  some_fits = fits;
  tight = tight;
  goes = λ front wide begins. record { value = some; fits = fits; more = spell some; spelled = ap (λ (l : List ℕ). l ++ spell some) (sym begins) };
}

-- ---- the formats at hand

pub u32_goes : Goes u32 (λ n. n < 2 ^ 32)
u32_goes = number_goes w32 (2 ^ 32) (omega arith) wide32

pub i64_goes : Goes i64 (FitsSigned w64)
i64_goes =
    made_goes (cast_signed w64) (FitsSigned w64) (signed w64) u64 (λ n. n < 2 ^ 64) (FitsSigned w64) (number_goes w64 (2 ^ 64) (omega arith) wide64)
    (λ n fits. (to_z-Fits w64 n (record { fits = fits }), ap (to_be_bytes w64) (of_z-to_z w64 n fits))) (λ z fits. fits)

pub text_goes : Goes text IsTxt
text_goes = told_goes IsTxt text_spelling text_at [] ((IsUtf8-nil, refl), omega arith)

pub byte_goes : Goes byte byte.Fits
byte_goes = symbol_goes (λ b. b) number_of_byte (λ b a e. (some_if (ltb b 256) b a e).1) 0 refl

pub flag_goes : Goes flag flag.Fits
flag_goes = symbol_goes byte_of_flag flag_of_byte flag_is false refl

pub table_goes : {A : Type 0} (byte_of : A → ℕ) (rows : List (ℕ × A)) → AllByRecursion (λ row. byte_of row.1 ≡ row.0) rows → (some : A) → beside rows (byte_of some) ≡ Some some
    → Goes (symbol byte_of (beside rows)) (symbol byte_of (beside rows)).Fits
table_goes byte_of rows own some there = symbol_goes byte_of (beside rows) (λ b a e. beside_is byte_of rows b a own e) some there
