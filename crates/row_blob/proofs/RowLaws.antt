-- Texts, values and rows that are read are spelled so, and what is spelled so is read.
use Rattle.std.proofs.Common.{◌≡◌, ℕ, ℤ, ◌^◌, List, ◌++◌, Ok, sym, ap, subst, ◌∙◌}
use Rattle.std.specs.Int.{w64, to_be_bytes, cast_signed, cast_unsigned}
use Rattle.std.proofs.lemmas.Int.{of_z-to_z, to_z-of_z}
use mir.ValLaws.{to_z-Fits, of_z_fits}
use Rattle.rows_core.specs.declared.kind.Kind as kind
use Rattle.rows_core.specs.declared.kind.Kind.TheVariants as the_kind
use Rattle.rows_core.specs.declared.value.Value.{Value}
use Rattle.rows_core.specs.declared.value.Value.TheVariants as value
use Rattle.row_blob.specs.Spelling.{value_spelling, row_spelling}
use Rattle.byte_formats.specs.Format.{flag}
use Rattle.byte_formats.specs.Reading.{◌>>=◌, number_at, text_at}
use Rattle.row_blob.specs.Reading.{value_at, row_at}
use Rattle.row_blob.specs.Kept.{IsValue, IsRow}
use Rattle.byte_formats.proofs.Readers.{IsBytes, bind_ok, ok_is, HasFront, IsReader}
use Rattle.row_blob.proofs.Readers.{each_reader}
use Rattle.byte_formats.proofs.Fields.{wide64, number_reader}
use Rattle.byte_formats.proofs.TextLaws.{text_takes, text_again}
use Rattle.byte_formats.proofs.Told.{flag_fits}
use Rattle.row_blob.proofs.TruthLaws.{flag_reader}

value_takes : (kind : kind.Kind) (bytes : List ℕ) (x : Value × List ℕ) → IsBytes bytes → value_at kind bytes ≡ Ok x → HasFront value_spelling (IsValue kind) bytes x
unfolding value_at
value_takes the_kind.Int bytes x fits e =
    let b = bind_ok (number_at w64 bytes) (λ n. Ok (value.Int (cast_signed w64 n.0), n.1)) x e in
    let t = (number_reader w64 (2 ^ 64) wide64).takes bytes b.0 fits b.1 in
    let back : cast_unsigned w64 (cast_signed w64 b.0.0) ≡ b.0.0 = of_z-to_z w64 b.0.0 t.fits in
    subst (λ y. HasFront value_spelling (IsValue the_kind.Int) bytes y) (ok_is (value.Int (cast_signed w64 b.0.0), b.0.1) x b.2)
    (record { parts = t.parts ∙ ap (λ (m : ℕ). to_be_bytes w64 m ++ b.0.1) (sym back); rest = t.rest; fits = to_z-Fits w64 b.0.0 (record { fits = t.fits }) })
value_takes the_kind.Text bytes x fits e =
    let b = bind_ok (text_at bytes) (λ t. Ok (value.Text t.0, t.1)) x e in
    let t = text_takes bytes b.0 fits b.1 in
    subst (λ y. HasFront value_spelling (IsValue the_kind.Text) bytes y) (ok_is (value.Text b.0.0, b.0.1) x b.2)
    (record { parts = t.parts; rest = t.rest; fits = t.fits })
value_takes the_kind.Bool bytes x fits e =
    let b = bind_ok (flag.read bytes) (λ t. Ok (value.Bool t.0, t.1)) x e in
    let t = flag_reader.takes bytes b.0 fits b.1 in
    subst (λ y. HasFront value_spelling (IsValue the_kind.Bool) bytes y) (ok_is (value.Bool b.0.0, b.0.1) x b.2)
    (record { parts = t.parts; rest = t.rest; fits = tt })

value_again : (kind : kind.Kind) (v : Value) (rest : List ℕ) → IsValue kind v → value_at kind (value_spelling v ++ rest) ≡ Ok (v, rest)
unfolding value_at
value_again the_kind.Int (value.Int n) rest fits =
    let first = (number_reader w64 (2 ^ 64) wide64).again (cast_unsigned w64 n) rest (of_z_fits w64 n fits).fits in
    ap (λ r. r >>= λ m. Ok (value.Int (cast_signed w64 m.0), m.1)) first ∙ ap (λ (z : ℤ). Ok (value.Int z, rest)) (to_z-of_z w64 n fits)
value_again the_kind.Text (value.Text t) rest fits =
    ap (λ r. r >>= λ s. Ok (value.Text s.0, s.1)) (text_again t rest fits)
value_again the_kind.Bool (value.Bool b) rest fits =
    ap (λ r. r >>= λ s. Ok (value.Bool s.0, s.1)) (flag_reader.again b rest (flag_fits b))
value_again _ _ rest fits = absurd fits

pub value_reader : (kind : kind.Kind) → IsReader (value_at kind) value_spelling (IsValue kind)
value_reader kind = record { takes = value_takes kind; again = value_again kind }

pub row_reader : (kinds : List kind.Kind) → IsReader (row_at kinds) row_spelling (IsRow kinds)
unfolding row_at
row_reader kinds = each_reader value_at value_spelling IsValue value_reader kinds
