-- Each way of making a format gives an exact one.
use Rattle.std.proofs.Common.{◌≡◌, ℕ, zero, suc, ◌+◌, ◌^◌, ◌<◌, inl, inr, Bool, true, false, ltb, cond, List, [], ◌∷◌, ◌++◌, length, take, drop, Option, Some, None, Ok, Err, refl, sym, ap, subst, ◌∙◌, arith}
use Rattle.std.specs.Int.{Width, w32, w64, byte_len, to_be_bytes, from_be_bytes}
use Rattle.std.specs.List.{flat_map, AllByRecursion}
use Rattle.std.proofs.lemmas.Bool.{ltb-true, lt-ltb}
use Rattle.std.proofs.lemmas.List.{append-nil, length-append}
use Rattle.byte_formats.specs.Reading.{◌>>=◌, Read}
use Rattle.byte_formats.proofs.Fields.{IsWide, wide32, wide64, number_reader}
use Rattle.byte_formats.proofs.Ranges.{err_cases}
use Rattle.byte_formats.specs.Format.{Format, found_or_stop, symbol_at, BeginsSymbol, symbol, number_of_byte, byte, number, u32, u64, ◌▷◌, ◌⊗◌, made, formed, read_as, first_of, AreTimes, items_at, times, counted, nothing}
use Rattle.byte_formats.proofs.Readers.{IsBytes, bind_ok, ok_is}
use Rattle.byte_formats.proofs.Exact.{Takes, Stops, Exact, both_exact}
use Rattle.byte_formats.proofs.Stopping.{bind_err}

-- ---- one byte

found_is : {A : Type 0} (o : Option A) (bytes : List ℕ) (x : A × List ℕ) → found_or_stop o bytes ≡ Ok x → (o ≡ Some x.0) × (bytes ≡ x.1)
found_is None bytes x e = absurd cc
found_is (Some a) bytes x e = let is = ok_is (a, bytes) x e in (ap (λ (y : _ × List ℕ). Some y.0) is, ap (λ (y : _ × List ℕ). y.1) is)

stop_is : {A : Type 0} (o : Option A) (bytes : List ℕ) (left : ℕ) → found_or_stop o bytes ≡ Err left → (o ≡ None) × (suc (length bytes) ≡ left)
stop_is None bytes left e = (refl, cc)
stop_is (Some a) bytes left e = absurd cc

module _ {A : Type 0} (byte_of : A → ℕ) (value_of : ℕ → Option A) (one_byte : (b : ℕ) (a : A) → value_of b ≡ Some a → byte_of a ≡ b) where
  symbol_takes : (bytes : List ℕ) (x : A × List ℕ) → IsBytes bytes → symbol_at value_of bytes ≡ Ok x → Takes (symbol byte_of value_of) bytes x
  symbol_takes [] x wide e = absurd cc
  symbol_takes (b ∷ bytes) x wide e =
      let f = found_is (value_of b) bytes x e in
      let is : byte_of x.0 ≡ b = one_byte b x.0 f.0 in
      record { fits = subst (λ (c : ℕ). value_of c ≡ Some x.0) (sym is) f.0; parts = λ i. sym is i ∷ f.1 i }

  symbol_stops : (bytes : List ℕ) (left : ℕ) → IsBytes bytes → symbol_at value_of bytes ≡ Err left → Stops (symbol byte_of value_of) bytes left
  symbol_stops [] left wide e = record { front = []; back = []; parts = refl; size = cc; goes = tt; dead = λ b bs back. absurd cc }
  symbol_stops (b ∷ bytes) left wide e =
      let f = stop_is (value_of b) bytes left e in
      record { front = []; back = b ∷ bytes; parts = refl; size = f.1; goes = tt; dead = λ c cs back begins. (let head : b ≡ c = cc in let clash : Some begins.0 ≡ None = sym begins.1 ∙ ap value_of (sym head) ∙ f.0 in cc) }

  symbol_again : (a : A) (rest : List ℕ) → value_of (byte_of a) ≡ Some a → symbol_at value_of (byte_of a ∷ rest) ≡ Ok (a, rest)
  symbol_again a rest fits = ap (λ o. found_or_stop o rest) fits

  symbol_fronts : (a : A) (front more : List ℕ) → value_of (byte_of a) ≡ Some a → byte_of a ∷ [] ≡ front ++ more → BeginsSymbol value_of front
  symbol_fronts a [] more fits e = tt
  symbol_fronts a (f ∷ []) more fits e = let head : byte_of a ≡ f = cc in (a, subst (λ b. value_of b ≡ Some a) head fits)
  symbol_fronts a (f ∷ g ∷ front) more fits e = absurd cc

  symbol_shorter : (front more : List ℕ) → BeginsSymbol value_of (front ++ more) → BeginsSymbol value_of front
  symbol_shorter [] more begins = tt
  symbol_shorter (f ∷ []) [] begins = begins
  symbol_shorter (f ∷ []) (m ∷ more) begins = absurd begins
  symbol_shorter (f ∷ g ∷ front) more begins = begins

  pub symbol_exact : Exact (symbol byte_of value_of)
  symbol_exact = record {
    again = symbol_again;
    takes = symbol_takes;
    stops = symbol_stops;
    fronts = symbol_fronts;
    past = λ a c cs fits begins. begins;
    shorter = symbol_shorter;
  }

pub some_if : (t : Bool) (b a : ℕ) → cond t (Some b) None ≡ Some a → (t ≡ true) × (a ≡ b)
some_if true b a e = (refl, cc)
some_if false b a e = absurd cc

pub byte_exact : Exact byte
byte_exact = symbol_exact (λ b. b) number_of_byte (λ b a e. (some_if (ltb b 256) b a e).1)

pub byte_fits : (n : ℕ) → n < 256 → byte.Fits n
byte_fits n lt = ap (λ (t : Bool). cond t (Some n) None) (lt-ltb n 256 lt)

pub byte_below : (n : ℕ) → byte.Fits n → n < 256
byte_below n fits = ltb-true n 256 (some_if (ltb n 256) n n fits).0

-- ---- a number

pub number_exact : (w : Width) (limit : ℕ) → IsWide w limit → Exact (number w limit)
number_exact w limit wide =
    let law = number_reader w limit wide in
    record {
      again = law.again;
      takes = λ bytes x fits e. let t = law.takes bytes x fits e in record { fits = t.fits; parts = t.parts };
      stops = λ bytes left fits e.
          elim (err_cases (ltb (length bytes) (byte_len w)) 0 left (Ok (from_be_bytes w (take (byte_len w) bytes), drop (byte_len w) bytes)) e) [
            | inl p ↦ record { front = bytes; back = []; parts = sym (append-nil bytes); size = p.1; goes = (let lt = ltb-true (length bytes) (byte_len w) p.0 in omega arith); dead = λ b bs back. absurd cc }
            | inr p ↦ absurd (let clash = p.1 in cc)
          ];
      fronts = λ n front more fits e. (let len = wide.len n in let both : length (to_be_bytes w n) ≡ length front + length more = ap length e ∙ length-append front more in omega arith);
      past = λ n c cs fits begins. (let len = wide.len n in let both = length-append (to_be_bytes w n) (c ∷ cs) in omega arith);
      shorter = λ front more begins. (let both = length-append front more in omega arith);
    }

pub u32_exact : Exact u32
u32_exact = number_exact w32 (2 ^ 32) wide32

pub u64_exact : Exact u64
u64_exact = number_exact w64 (2 ^ 64) wide64

-- ---- the same reading in other words

pub alike : {A : Type 0} (format : Format A) (read : List ℕ → Read A) → ((bytes : List ℕ) → read bytes ≡ format.read bytes) → Exact format
    → Exact (record { Fits = format.Fits; spell = format.spell; Begins = format.Begins; read = read })
alike format read same exact = record {
  again = λ a rest fits. same (format.spell a ++ rest) ∙ exact.again a rest fits;
  takes = λ bytes x wide e. (let t = exact.takes bytes x wide (sym (same bytes) ∙ e) in record { fits = t.fits; parts = t.parts });
  stops = λ bytes left wide e. (let s = exact.stops bytes left wide (sym (same bytes) ∙ e) in record { front = s.front; back = s.back; parts = s.parts; size = s.size; goes = s.goes; dead = s.dead });
  fronts = exact.fronts;
  past = exact.past;
  shorter = exact.shorter;
}

-- ---- a value made of what is read

pub record IsMade {A B : Type 0} (make : A → B) (Fits : B → Type 0) (spell : B → List ℕ) (parts : Format A) : Type 0 where
  pub to : (a : A) → parts.Fits a → Fits (make a) × (spell (make a) ≡ parts.spell a)
  pub from : (b : B) → Fits b → (a : A) × parts.Fits a × (make a ≡ b)

module _ {A B : Type 0} (make : A → B) (Fits : B → Type 0) (spell : B → List ℕ) (parts : Format A) (exact : Exact parts) (is : IsMade make Fits spell parts) where
  abbrev result : Format B
  result = made make Fits spell parts

  made_spelling : (b : B) (fits : Fits b) → spell b ≡ parts.spell (is.from b fits).0
  made_spelling b fits = let f = is.from b fits in ap spell (sym f.2) ∙ (is.to f.0 f.1).1

  made_again : (b : B) (rest : List ℕ) → Fits b → result.read (spell b ++ rest) ≡ Ok (b, rest)
  made_again b rest fits =
      let f = is.from b fits in
      ap (λ (l : List ℕ). result.read (l ++ rest)) (made_spelling b fits) ∙ ap (read_as make) (exact.again f.0 rest f.1) ∙ ap (λ (x : B). Ok (x, rest)) f.2

  made_takes : (bytes : List ℕ) (x : B × List ℕ) → IsBytes bytes → result.read bytes ≡ Ok x → Takes result bytes x
  made_takes bytes x wide e =
      let a = bind_ok (parts.read bytes) (λ a. Ok (make a.0, a.1)) x e in
      let t = exact.takes bytes a.0 wide a.1 in
      let to = is.to a.0.0 t.fits in
      subst (λ y. Takes result bytes y) (ok_is (make a.0.0, a.0.1) x a.2)
      (record { fits = to.0; parts = t.parts ∙ ap (λ (l : List ℕ). l ++ a.0.1) (sym to.1) })

  made_stops : (bytes : List ℕ) (left : ℕ) → IsBytes bytes → result.read bytes ≡ Err left → Stops result bytes left
  made_stops bytes left wide e = elim (bind_err (parts.read bytes) (λ a. Ok (make a.0, a.1)) left e) [
    | inl h ↦ let s = exact.stops bytes left wide h in record { front = s.front; back = s.back; parts = s.parts; size = s.size; goes = s.goes; dead = s.dead }
    | inr h ↦ absurd (let clash = h.2 in cc)
  ]

  pub made_exact : Exact (made make Fits spell parts)
  made_exact = record {
    again = made_again;
    takes = made_takes;
    stops = made_stops;
    fronts = λ b front more fits e. (let f = is.from b fits in exact.fronts f.0 front more f.1 (sym (made_spelling b fits) ∙ e));
    past = λ b c cs fits begins. (let f = is.from b fits in exact.past f.0 c cs f.1 (subst (λ (l : List ℕ). parts.Begins (l ++ c ∷ cs)) (made_spelling b fits) begins));
    shorter = exact.shorter;
  }

-- ---- items

pub nothing_left : (front more : List ℕ) → [] ≡ front ++ more → front ≡ []
nothing_left [] more e = refl
nothing_left (f ∷ front) more e = absurd cc

module _ {A : Type 0} (item : Format A) (exact : Exact item) where
  no_items : (x : List A × List ℕ) (bytes : List ℕ) → ([], bytes) ≡ x → Takes (times 0 item) bytes x
  no_items x bytes is = subst (λ y. Takes (times 0 item) bytes y) is (record { fits = (refl, tt); parts = refl })

  none_again : (items : List A) (rest : List ℕ) → AreTimes 0 item items → (times 0 item).read (flat_map item.spell items ++ rest) ≡ Ok (items, rest)
  none_again [] rest fits = refl
  none_again (x ∷ items) rest fits = absurd (let e = fits.0 in omega arith)

  none_fronts : (items : List A) (front more : List ℕ) → AreTimes 0 item items → flat_map item.spell items ≡ front ++ more → front ≡ []
  none_fronts [] front more fits e = nothing_left front more e
  none_fronts (x ∷ items) front more fits e = absurd (let e = fits.0 in omega arith)

  none_past : (items : List A) (c : ℕ) (cs : List ℕ) → AreTimes 0 item items → flat_map item.spell items ++ c ∷ cs ≡ [] → ⊥
  none_past [] c cs fits e = cc
  none_past (x ∷ items) c cs fits e = let e = fits.0 in omega arith

  after_first : (a : A) (r : Read (List A)) → (r >>= λ x. Ok (a ∷ x.0, x.1)) ≡ read_as first_of (r >>= λ x. let p : A × List A = (a, x.0) in Ok (p, x.1))
  after_first a (Err left) = refl
  after_first a (Ok x) = refl

  -- the first, and those behind it
  split_first : (n : ℕ) (items : List A) → AreTimes (suc n) item items → (p : A × List A) × (item ⊗ times n item).Fits p × (first_of p ≡ items)
  split_first n [] fits = absurd (let e = fits.0 in omega arith)
  split_first n (x ∷ items) fits = ((x, items), (fits.1.0, ((let e = fits.0 in omega arith), fits.1.1)), refl)

  one_step : (n : ℕ) (r : Read A) → (r >>= λ a. items_at item.read n a.1 >>= λ x. Ok (a.0 ∷ x.0, x.1)) ≡ read_as first_of (r >>= λ a. items_at item.read n a.1 >>= λ x. Ok ((a.0, x.0), x.1))
  one_step n (Err left) = refl
  one_step n (Ok a) = after_first a.0 (items_at item.read n a.1)

  pub times_exact : (n : ℕ) → Exact (times n item)
  times_exact zero = record {
    again = none_again;
    takes = λ bytes x wide e. no_items x bytes (ok_is ([], bytes) x e);
    stops = λ bytes left wide e. absurd cc;
    fronts = none_fronts;
    past = none_past;
    shorter = λ front more begins. nothing_left front more (sym begins);
  }
  times_exact (suc n) =
      alike (made first_of (AreTimes (suc n) item) (flat_map item.spell) (item ⊗ times n item)) (items_at item.read (suc n)) (λ bytes. one_step n (item.read bytes))
      (made_exact first_of (AreTimes (suc n) item) (flat_map item.spell) (item ⊗ times n item) (both_exact item (λ x. times n item) exact (λ x fits. times_exact n))
      (record { to = λ p fits. (((let e = fits.1.0 in omega arith), (fits.0, fits.1.1)), refl); from = split_first n }))

module _ {A : Type 0} (count : Format ℕ) (item : Format A) (count_exact : Exact count) (exact : Exact item) where
  count_parts : (items : List A) → count.Fits (length items) × AllByRecursion item.Fits items → (p : ℕ × List A) × (count ▷ λ n. times n item).Fits p × (p.1 ≡ items)
  count_parts items fits = ((length items, items), (fits.0, (refl, fits.1)), refl)

  pub counted_exact : Exact (counted count item)
  counted_exact =
      made_exact (λ (p : ℕ × List A). p.1) (λ items. count.Fits (length items) × AllByRecursion item.Fits items) (λ items. count.spell (length items) ++ flat_map item.spell items) (count ▷ λ n. times n item)
      (both_exact count (λ n. times n item) count_exact (λ n fits. times_exact item exact n))
      (record { to = λ p fits. ((subst count.Fits (sym fits.1.0) fits.0, fits.1.1), ap (λ (n : ℕ). count.spell n ++ flat_map item.spell p.1) fits.1.0); from = count_parts })

-- ---- where nothing may stand

pub nothing_exact : {A : Type 0} (Fits : A → Type 0) (spell : A → List ℕ) → ((a : A) → Fits a → ⊥) → Exact (formed Fits spell nothing)
nothing_exact Fits spell none = record {
  again = λ a rest fits. absurd (none a fits);
  takes = λ bytes x wide e. absurd cc;
  stops = λ bytes left wide e. record { front = []; back = bytes; parts = refl; size = cc; goes = refl; dead = λ b bs back begins. cc };
  fronts = λ a front more fits e. absurd (none a fits);
  past = λ a c cs fits begins. none a fits;
  shorter = λ front more begins. nothing_left front more (sym begins);
}
