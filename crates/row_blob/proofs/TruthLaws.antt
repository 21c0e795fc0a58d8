-- A truth value's byte: what is read is spelled so, what is spelled so is read, and reading stops at any other byte.
use Rattle.std.proofs.Common.{◌≡◌, ℕ, suc, ◌-◌, Bool, false, List, [], ◌∷◌, length, Option, Some, None, Ok, Err, refl, sym, ap, subst, ◌∙◌, arith}
use Rattle.byte_formats.specs.Reading.{Read}
use Rattle.byte_formats.specs.Format.{byte_of_flag, flag_of_byte, found_or_stop, flag}
use Rattle.byte_formats.proofs.Readers.{IsBytes, IsReader}
use Rattle.byte_formats.proofs.Exact.{bytes_behind}
use Rattle.byte_formats.proofs.Same.{Same, same_byte}
use Rattle.byte_formats.proofs.Stopping.{GoesTo, IsExact}
use Rattle.byte_formats.proofs.Told.{flag_exact}

pub flag_reader : IsReader flag.read flag.spell flag.Fits
flag_reader = record {
  takes = λ bytes x wide e. (
      let t = flag_exact.takes bytes x wide e in
      record { parts = t.parts; rest = bytes_behind (flag.spell x.0) x.1 (subst IsBytes t.parts wide); fits = t.fits }
      );
  again = flag_exact.again;
}

flag_goes : (bytes : List ℕ) (left : ℕ) → IsBytes bytes → flag.read bytes ≡ Err left → GoesTo flag.spell flag.Fits bytes left
flag_goes [] left wide e =
    let end : 0 ≡ left = cc in
    let none : 0 - left ≡ 0 = omega (arith, end) in
    record { within = omega (arith, end); item = false; fits = refl; same = subst (λ n. Same n (0 ∷ []) []) (sym none) refl }
flag_goes (b ∷ bytes) left wide e = go (flag_of_byte b) e
  where
    go : (o : Option Bool) → found_or_stop o bytes ≡ Err left → GoesTo flag.spell flag.Fits (b ∷ bytes) left
    go None h =
        let all : suc (length bytes) ≡ left = cc in
        let none : suc (length bytes) - left ≡ 0 = omega (arith, all) in
        record { within = omega (arith, all); item = false; fits = refl; same = subst (λ n. Same n (0 ∷ []) (b ∷ bytes)) (sym none) refl }
    go (Some a) h = absurd cc

flag_stops : (bytes : List ℕ) (left : ℕ) (a : Bool) (r : List ℕ) → IsBytes bytes → flag.read bytes ≡ Err (suc left) → flag.Fits a → Same (length bytes - left) (byte_of_flag a ∷ r) bytes → ⊥
flag_stops [] left a r wide e fits same = absurd cc
flag_stops (b ∷ bytes) left a r wide e fits same = go (flag_of_byte b) refl e
  where
    go : (o : Option Bool) → flag_of_byte b ≡ o → found_or_stop o bytes ≡ Err (suc left) → ⊥
    go None is h =
        let all : suc (length bytes) ≡ suc left = cc in
        let one : suc (length bytes) - left ≡ 1 = omega (arith, all) in
        let first : byte_of_flag a ≡ b = same_byte 1 0 (byte_of_flag a ∷ r) (b ∷ bytes) (omega arith) (subst (λ n. Same n (byte_of_flag a ∷ r) (b ∷ bytes)) one same) in
        let clash : ◌≡◌ {A = Option Bool} (Some a) None = sym fits ∙ ap flag_of_byte first ∙ is in
        cc
    go (Some c) is h = absurd cc

pub flag_places : IsExact flag.read flag.spell flag.Fits
flag_places = record { some = false; some_fits = refl; goes = flag_goes; stops = flag_stops }
