-- Where values, rows, sums, counts and accumulators stop.
use Rattle.std.proofs.Common.{◌≡◌, ℕ, ℤ, pos, negsuc, suc, ◌-◌, ◌/◌, ◌%◌, ◌^◌, ◌<◌, ◌≤◌, Bool, cond, ltb, List, ◌++◌, length, Ok, Err, refl, sym, ap, subst, ◌∙◌, arith, inl, inr}
use Rattle.std.specs.Prelude.{slice_index}
use Rattle.std.specs.Int.{w64, w128, to_be_bytes, cast_signed, cast_unsigned}
use Rattle.std.specs.List.{flat_map}
use Rattle.std.proofs.lemmas.Bool.{ltb-true, ltb-false, cases_Bool, cond-true, cond-false}
use Rattle.std.proofs.lemmas.Int.{of_z-to_z}
use mir.ValLaws.{to_z-Fits, of_z_fits}
use Rattle.rows_core.specs.declared.kind.Kind as kind
use Rattle.rows_core.specs.declared.kind.Kind.TheVariants as the_kind
use Rattle.rows_core.specs.declared.value.Value.{Value}
use Rattle.rows_core.specs.declared.value.Value.TheVariants as value
use Rattle.rows_core.specs.Txt.{IsTxt}
use Rattle.row_blob.specs.declared.kept.Acc.{Acc}
use Rattle.row_blob.specs.declared.kept.Acc.TheVariants as acc
use Rattle.row_blob.specs.declared.shape.AccKind.{AccKind}
use Rattle.row_blob.specs.declared.shape.AccKind.TheVariants as acc_kind
use Rattle.byte_formats.specs.Format.{signed, text_spelling, flag}
use Rattle.row_blob.specs.Spelling.{value_spelling, row_spelling, acc_spelling}
use Rattle.byte_formats.specs.Reading.{◌>>=◌, Read, number_at, bounded_at, text_at}
use Rattle.row_blob.specs.Reading.{value_at, row_at, sum_bound, sum_low, sum_high, sum_at, count_at, acc_at, accs_at}
use Rattle.row_blob.specs.Kept.{AreEach, IsValue, IsRow, IsCount, IsSum, IsAcc}
use Rattle.byte_formats.proofs.Readers.{IsBytes}
use Rattle.byte_formats.proofs.Fields.{wide64, IsBetween}
use Rattle.byte_formats.proofs.Wide.{wide128}
use Rattle.row_blob.proofs.RowLaws.{value_reader}
use Rattle.row_blob.proofs.SumLaws.{from_positive, from_negative, first_of_positive, first_of_negative, chosen, sum_reader}
use Rattle.row_blob.proofs.GroupLaws.{acc_reader}
use Rattle.byte_formats.proofs.Same.{Same, same_byte}
use Rattle.byte_formats.proofs.Stopping.{GoesTo, IsExact, bind_err}
use Rattle.row_blob.proofs.Exact.{mapped_exact, pair_exact, each_exact}
use Rattle.byte_formats.proofs.Ranges.{big64, big128, number_exact, bounded_exact}
use Rattle.byte_formats.proofs.TextPlaces.{text_exact}
use Rattle.byte_formats.proofs.Told.{flag_fits}
use Rattle.row_blob.proofs.TruthLaws.{flag_places}

-- ---- values and rows

int_from : (v : Value) → IsValue the_kind.Int v → (n : ℕ) × (n < 2 ^ 64) × (value_spelling v ≡ to_be_bytes w64 n)
int_from (value.Int n) fits = (cast_unsigned w64 n, (of_z_fits w64 n fits).fits, refl)
int_from _ fits = absurd fits

text_from : (v : Value) → IsValue the_kind.Text v → (t : List ℕ) × IsTxt t × (value_spelling v ≡ text_spelling t)
text_from (value.Text t) fits = (t, fits, refl)
text_from _ fits = absurd fits

truth_from : (v : Value) → IsValue the_kind.Bool v → (b : Bool) × flag.Fits b × (value_spelling v ≡ flag.spell b)
truth_from (value.Bool b) fits = (b, flag_fits b, refl)
truth_from _ fits = absurd fits

pub value_exact : (kind : kind.Kind) → IsExact (value_at kind) value_spelling (IsValue kind)
unfolding value_at
value_exact the_kind.Int =
    mapped_exact (λ (n : ℕ). value.Int (cast_signed w64 n)) (number_at w64) (to_be_bytes w64) (λ (n : ℕ). n < 2 ^ 64) value_spelling (IsValue the_kind.Int)
    (record { to = λ n lt. (to_z-Fits w64 n (record { fits = lt }), ap (λ (m : ℕ). to_be_bytes w64 m) (of_z-to_z w64 n lt)); from = int_from })
    (number_exact w64 (2 ^ 64) wide64 big64 (omega arith))
value_exact the_kind.Text =
    mapped_exact (λ (t : List ℕ). value.Text t) text_at text_spelling IsTxt value_spelling (IsValue the_kind.Text)
    (record { to = λ t fits. (fits, refl); from = text_from }) text_exact
value_exact the_kind.Bool =
    mapped_exact (λ (b : Bool). value.Bool b) flag.read flag.spell flag.Fits value_spelling (IsValue the_kind.Bool)
    (record { to = λ b fits. (tt, refl); from = truth_from }) flag_places

pub row_exact : (kinds : List kind.Kind) → IsExact (row_at kinds) row_spelling (IsRow kinds)
unfolding row_at
row_exact kinds = each_exact value_at value_spelling IsValue value_reader value_exact kinds

-- ---- counts and sums

pub count_exact : IsExact count_at (to_be_bytes w64) IsCount
unfolding count_at
count_exact = bounded_exact w64 (2 ^ 64) wide64 big64 1 4294967295 (omega arith) (omega arith)

positives : IsExact (bounded_at w128 0 sum_bound) (to_be_bytes w128) (IsBetween 0 (2 ^ 95))
unfolding sum_bound
positives = bounded_exact w128 (2 ^ 128) wide128 big128 0 (2 ^ 95) (omega arith) (omega arith)

negatives : IsExact (bounded_at w128 sum_low sum_high) (to_be_bytes w128) (IsBetween (2 ^ 128 - 2 ^ 95) (2 ^ 128 - 1))
unfolding sum_low sum_high
negatives = bounded_exact w128 (2 ^ 128) wide128 big128 (2 ^ 128 - 2 ^ 95) (2 ^ 128 - 1) (omega arith) (omega arith)

abbrev bits_at : List ℕ → Read ℕ
bits_at bytes = cond (ltb (slice_index bytes 0) 128) (bounded_at w128 0 sum_bound bytes) (bounded_at w128 sum_low sum_high bytes)

bits_goes : (bytes : List ℕ) (left : ℕ) → IsBytes bytes → bits_at bytes ≡ Err left → GoesTo (signed w128) IsSum bytes left
bits_goes bytes left fits e =
    chosen (ltb (slice_index bytes 0) 128) (bounded_at w128 0 sum_bound bytes) (bounded_at w128 sum_low sum_high bytes) (Err left) (GoesTo (signed w128) IsSum bytes left) e
    (λ h.
    let g = positives.goes bytes left fits h in
    let s = from_positive g.item g.fits.1 in
    record { within = g.within; item = cast_signed w128 g.item; fits = s.0; same = subst (λ (m : ℕ). Same (length bytes - left) (to_be_bytes w128 m) bytes) (sym s.1) g.same })
    (λ h.
    let g = negatives.goes bytes left fits h in
    let s = from_negative g.item g.fits in
    record { within = g.within; item = cast_signed w128 g.item; fits = s.0; same = subst (λ (m : ℕ). Same (length bytes - left) (to_be_bytes w128 m) bytes) (sym s.1) g.same })

below_half : (bytes : List ℕ) (left : ℕ) (s : ℤ) (r : List ℕ) → IsBytes bytes → bounded_at w128 0 sum_bound bytes ≡ Err (suc left) → slice_index bytes 0 < 128 → IsSum s → Same (length bytes - left) (signed w128 s ++ r) bytes → ⊥
below_half bytes left (pos n) r fits e low sum same = positives.stops bytes left n r fits e (omega arith, sum) same
below_half bytes left (negsuc k) r fits e low sum same =
    let within : suc left ≤ length bytes = (positives.goes bytes (suc left) fits e).within in
    let n = 2 ^ 128 - suc k in
    let first : n / 256 ^ 15 % 256 ≡ slice_index bytes 0 = same_byte (length bytes - left) 0 (to_be_bytes w128 n ++ r) bytes (omega arith) same in
    let high : 128 ≤ n / 256 ^ 15 % 256 = first_of_negative n (omega arith) (omega arith) in
    omega (arith, first, high, low)

above_half : (bytes : List ℕ) (left : ℕ) (s : ℤ) (r : List ℕ) → IsBytes bytes → bounded_at w128 sum_low sum_high bytes ≡ Err (suc left) → 128 ≤ slice_index bytes 0 → IsSum s → Same (length bytes - left) (signed w128 s ++ r) bytes → ⊥
above_half bytes left (negsuc k) r fits e high sum same = negatives.stops bytes left (2 ^ 128 - suc k) r fits e (omega arith, omega arith) same
above_half bytes left (pos n) r fits e high sum same =
    let within : suc left ≤ length bytes = (negatives.goes bytes (suc left) fits e).within in
    let first : n / 256 ^ 15 % 256 ≡ slice_index bytes 0 = same_byte (length bytes - left) 0 (to_be_bytes w128 n ++ r) bytes (omega arith) same in
    let low : n / 256 ^ 15 % 256 < 128 = first_of_positive n sum in
    omega (arith, first, high, low)

bits_stops : (bytes : List ℕ) (left : ℕ) (s : ℤ) (r : List ℕ) → IsBytes bytes → bits_at bytes ≡ Err (suc left) → IsSum s → Same (length bytes - left) (signed w128 s ++ r) bytes → ⊥
bits_stops bytes left s r fits e sum same = elim (cases_Bool (ltb (slice_index bytes 0) 128)) [
  | inl t ↦ below_half bytes left s r fits (sym (cond-true _ _ _ t) ∙ e) (ltb-true (slice_index bytes 0) 128 t) sum same
  | inr t ↦ above_half bytes left s r fits (sym (cond-false _ _ _ t) ∙ e) (ltb-false (slice_index bytes 0) 128 t) sum same
]

pub sum_exact : IsExact sum_at (signed w128) IsSum
unfolding sum_at
sum_exact = record {
  some = pos 0;
  some_fits = omega arith;
  goes = λ bytes left fits e. elim (bind_err (bits_at bytes) (λ n. Ok (cast_signed w128 n.0, n.1)) left e) [
    | inl h ↦ bits_goes bytes left fits h
    | inr h ↦ absurd (let clash = h.2 in cc)
  ];
  stops = λ bytes left s r fits e sum same. elim (bind_err (bits_at bytes) (λ n. Ok (cast_signed w128 n.0, n.1)) (suc left) e) [
    | inl h ↦ bits_stops bytes left s r fits h sum same
    | inr h ↦ absurd (let clash = h.2 in cc)
  ];
}

-- ---- accumulators

count_from : (a : Acc) → IsAcc acc_kind.Count a → (n : ℕ) × IsCount n × (acc_spelling a ≡ to_be_bytes w64 n)
count_from (acc.Count n) fits = (n, fits, refl)
count_from _ fits = absurd fits

sum_from : (a : Acc) → IsAcc acc_kind.Sum a → (s : ℤ) × IsSum s × (acc_spelling a ≡ signed w128 s)
sum_from (acc.Sum s) fits = (s, fits, refl)
sum_from _ fits = absurd fits

avg_from : (a : Acc) → IsAcc acc_kind.Avg a → (p : ℤ × ℕ) × (IsSum p.0 × IsCount p.1) × (acc_spelling a ≡ signed w128 p.0 ++ to_be_bytes w64 p.1)
avg_from (acc.Avg s n) fits = ((s, n), fits, refl)
avg_from _ fits = absurd fits

pick_from : (kind : kind.Kind) (a : Acc) → IsAcc (acc_kind.Pick kind) a → (v : Value) × IsValue kind v × (acc_spelling a ≡ value_spelling v)
pick_from kind (acc.Pick v) fits = (v, fits, refl)
pick_from kind _ fits = absurd fits

pub exact_as : {A : Type 0} (r s : List ℕ → Read A) (spell : A → List ℕ) (P : A → Type 0) → ((bytes : List ℕ) → r bytes ≡ s bytes) → IsExact r spell P → IsExact s spell P
exact_as r s spell P same exact = record {
  some = exact.some;
  some_fits = exact.some_fits;
  goes = λ bytes left fits e. exact.goes bytes left fits (same bytes ∙ e);
  stops = λ bytes left a more fits e p agree. exact.stops bytes left a more fits (same bytes ∙ e) p agree;
}

abbrev count_behind : ℤ → Read ℕ → Read (ℤ × ℕ)
count_behind s m = m >>= λ n. Ok ((s, n.0), n.1)

abbrev both_of : Read ℤ → Read (ℤ × ℕ)
both_of m = m >>= λ s. count_behind s.0 (count_at s.1)

abbrev avg_of : Read (ℤ × ℕ) → Read Acc
avg_of m = m >>= λ p. Ok (acc.Avg p.0.0 p.0.1, p.1)

abbrev avg_behind : ℤ → Read ℕ → Read Acc
avg_behind s m = m >>= λ n. Ok (acc.Avg s n.0, n.1)

avg_inner : (s : ℤ) (m : Read ℕ) → avg_of (count_behind s m) ≡ avg_behind s m
avg_inner s (Ok n) = refl
avg_inner s (Err d) = refl

avg_same : (m : Read ℤ) → avg_of (both_of m) ≡ (m >>= λ s. avg_behind s.0 (count_at s.1))
avg_same (Ok s) = avg_inner s.0 (count_at s.1)
avg_same (Err d) = refl

avg_exact : IsExact (λ bytes. sum_at bytes >>= λ s. avg_behind s.0 (count_at s.1)) acc_spelling (IsAcc acc_kind.Avg)
avg_exact =
    exact_as (λ bytes. avg_of (both_of (sum_at bytes))) (λ bytes. sum_at bytes >>= λ s. avg_behind s.0 (count_at s.1)) acc_spelling (IsAcc acc_kind.Avg) (λ bytes. avg_same (sum_at bytes))
    (mapped_exact (λ (p : ℤ × ℕ). acc.Avg p.0 p.1) (λ bytes. both_of (sum_at bytes)) (λ (p : ℤ × ℕ). signed w128 p.0 ++ to_be_bytes w64 p.1) (λ (p : ℤ × ℕ). IsSum p.0 × IsCount p.1)
    acc_spelling (IsAcc acc_kind.Avg) (record { to = λ p fits. (fits, refl); from = avg_from })
    (pair_exact sum_at (signed w128) IsSum sum_reader sum_exact count_at (to_be_bytes w64) IsCount count_exact))

pub acc_exact : (kind : AccKind) → IsExact (acc_at kind) acc_spelling (IsAcc kind)
unfolding acc_at
acc_exact acc_kind.Count = mapped_exact (λ (n : ℕ). acc.Count n) count_at (to_be_bytes w64) IsCount acc_spelling (IsAcc acc_kind.Count) (record { to = λ n fits. (fits, refl); from = count_from }) count_exact
acc_exact acc_kind.Sum = mapped_exact (λ (s : ℤ). acc.Sum s) sum_at (signed w128) IsSum acc_spelling (IsAcc acc_kind.Sum) (record { to = λ s fits. (fits, refl); from = sum_from }) sum_exact
acc_exact acc_kind.Avg = avg_exact
acc_exact (acc_kind.Pick kind) =
    mapped_exact (λ (v : Value). acc.Pick v) (value_at kind) value_spelling (IsValue kind) acc_spelling (IsAcc (acc_kind.Pick kind)) (record { to = λ v fits. (fits, refl); from = pick_from kind }) (value_exact kind)

pub accs_exact : (kinds : List AccKind) → IsExact (accs_at kinds) (flat_map acc_spelling) (AreEach IsAcc kinds)
unfolding accs_at
accs_exact kinds = each_exact acc_at acc_spelling IsAcc (acc_reader sum_reader) acc_exact kinds
