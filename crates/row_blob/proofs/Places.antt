-- The place of a refusal is the first byte with which no spelling goes on.
use Rattle.std.proofs.Common.{◌≡◌, ℕ, zero, suc, ◌+◌, ◌-◌, ◌^◌, ◌<◌, ◌≤◌, ◌⊎◌, ltb, ◌||◌, List, [], ◌++◌, length, take, Result, Ok, Err, refl, sym, ap, subst, ◌∙◌, arith, inl, inr}
use Rattle.std.specs.Prelude.{IfErr, nat_le}
use Rattle.std.specs.Int.{w64, to_be_bytes}
use Rattle.std.specs.List.{list_any, flat_map}
use Rattle.std.proofs.lemmas.Bool.{ltb-false, leb-false, le-ltb, lt-leb, or_parts, or_from}
use Rattle.rows_core.specs.declared.kind.Kind as kind
use Rattle.row_blob.specs.declared.refusal.BlobRefusal.{BlobRefusal}
use Rattle.row_blob.specs.declared.refusal.BlobRefusal.TheVariants as refusal
use Rattle.rows_core.specs.declared.value.Value.{Value}
use Rattle.row_blob.specs.declared.kept.Acc.{Acc}
use Rattle.row_blob.specs.declared.kept.GroupRow.{GroupRow}
use Rattle.row_blob.specs.declared.kept.TaggedRow.{TaggedRow}
use Rattle.row_blob.specs.declared.kept.Kept.{Kept}
use Rattle.row_blob.specs.declared.kept.Kept.TheVariants as kept
use Rattle.row_blob.specs.declared.shape.AccKind.{AccKind}
use Rattle.row_blob.specs.declared.shape.Shape.{Shape}
use Rattle.row_blob.specs.declared.shape.Shape.TheVariants as shape
use Rattle.row_blob.specs.Spelling.{row_spelling, acc_spelling, group_spelling, tagged_spelling, opening}
use Rattle.byte_formats.specs.Reading.{◌>>=◌, Read, literal_at, number_at, bounded_at, ended}
use Rattle.row_blob.specs.Reading.{Reads, row_at, group_at, group_after, accs_at, tagged_at, items_at, rows_at, groups_at, tagged_rows_at, kept_at}
use Rattle.rows_core.specs.Value.{row_eq}
use Rattle.row_blob.specs.Kept.{keys_of, last_left, AreEach, IsRow, IsAcc}
use Rattle.row_blob.specs.Place.{IsGroupTo, IsTaggedTo, GoesOn, IsPlace}
use Rattle.byte_formats.proofs.Readers.{IsBytes, bind_ok, ok_is, IsReader}
use Rattle.byte_formats.proofs.Fields.{wide64, IsBetween, number_reader, bounded_reader}
use Rattle.row_blob.proofs.RowLaws.{row_reader}
use Rattle.row_blob.proofs.SumLaws.{sum_reader}
use Rattle.row_blob.proofs.GroupLaws.{accs_reader}
use Rattle.byte_formats.proofs.Stopping.{IsExact, bind_err}
use Rattle.row_blob.proofs.Exact.{pair_reader, pair_exact}
use Rattle.byte_formats.proofs.Ranges.{big64, number_exact, bounded_exact}
use Rattle.row_blob.proofs.ValuePlaces.{row_exact, accs_exact}
use Rattle.row_blob.proofs.ItemPlaces.{IsPlaced, plain_placed}
use Rattle.row_blob.proofs.RulePlaces.{rule_placed}
use Rattle.row_blob.proofs.FilePlaces.{FileFails, ItemsFail, file_goes, file_stops, counted_fails, ended_as}

-- ---- the items of each shape

rows_placed : (kinds : List kind.Kind) → IsPlaced row_spelling 16 (λ before. row_at kinds) (λ n before. IsRow kinds)
rows_placed kinds = plain_placed row_spelling 16 (row_at kinds) (IsRow kinds) (row_reader kinds) (row_exact kinds)

abbrev group_of : List Value → List Acc → GroupRow
group_of key accs = record { key = key; accs = accs }

groups_placed : (keys : List kind.Kind) (kinds : List AccKind) → IsPlaced group_spelling 16 (group_after keys kinds) (IsGroupTo keys kinds)
unfolding group_at
groups_placed keys kinds =
    rule_placed (row_at keys) row_spelling (IsRow keys) (row_reader keys) (row_exact keys) (accs_at kinds) (flat_map acc_spelling) (AreEach IsAcc kinds) (accs_reader sum_reader kinds) (accs_exact kinds)
    group_of (λ before key. list_any (row_eq key) (keys_of before)) group_spelling (λ h t. refl) 16 (IsGroupTo keys kinds)
    (λ n before y p. subst (IsGroupTo keys kinds n before) p.is (p.key_fits, p.val_fits, p.rule))
    (λ n before y q. record { key = y.key; val = y.accs; is = refl; key_fits = q.0; val_fits = q.1; rule = q.2 })

abbrev tagged_of : ℕ → List Value → TaggedRow
tagged_of left row = record { left = left; row = row }

abbrev counts : IsReader (number_at w64) (to_be_bytes w64) (λ n. n < 2 ^ 64)
counts = number_reader w64 (2 ^ 64) wide64

counts_exact : IsExact (number_at w64) (to_be_bytes w64) (λ n. n < 2 ^ 64)
counts_exact = number_exact w64 (2 ^ 64) wide64 big64 (omega arith)

tagged_placed : (left : ℕ) (kinds : List kind.Kind) → IsPlaced tagged_spelling 24 (tagged_at left kinds) (IsTaggedTo left kinds)
unfolding tagged_at
tagged_placed left kinds =
    rule_placed (number_at w64) (to_be_bytes w64) (λ n. n < 2 ^ 64) counts counts_exact (row_at kinds) row_spelling (IsRow kinds) (row_reader kinds) (row_exact kinds)
    tagged_of (λ before n. ltb n (last_left before) || nat_le left n) tagged_spelling (λ h t. refl) 24 (IsTaggedTo left kinds)
    (λ n before y p.
    subst (IsTaggedTo left kinds n before) p.is (
      p.key_fits,
      p.val_fits,
      λ le.
          let r = or_parts (ltb p.key (last_left before)) (nat_le left p.key) (p.rule le) in
          (ltb-false p.key (last_left before) r.0, leb-false left p.key r.1),
    ))
    (λ n before y q. record {
      key = y.left;
      val = y.row;
      is = refl;
      key_fits = q.0;
      val_fits = q.1;
      rule = λ le. let r = q.2 le in or_from (ltb y.left (last_left before)) (nat_le left y.left) (le-ltb y.left (last_left before) r.0) (lt-leb left y.left r.1);
    })

-- ---- the header of a join

abbrev Lengths : ℕ × ℕ → Type 0
Lengths p = (p.0 < 2 ^ 64) × IsBetween 0 4294967295 p.1

abbrev lengths_spelling : ℕ × ℕ → List ℕ
lengths_spelling p = to_be_bytes w64 p.0 ++ to_be_bytes w64 p.1

abbrev lengths_at : List ℕ → Read (ℕ × ℕ)
lengths_at bytes = number_at w64 bytes >>= λ x. bounded_at w64 0 4294967295 x.1 >>= λ y. Ok ((x.0, y.0), y.1)

lefts : IsReader (bounded_at w64 0 4294967295) (to_be_bytes w64) (IsBetween 0 4294967295)
lefts = bounded_reader w64 (2 ^ 64) wide64 0 4294967295 (omega arith)

lefts_exact : IsExact (bounded_at w64 0 4294967295) (to_be_bytes w64) (IsBetween 0 4294967295)
lefts_exact = bounded_exact w64 (2 ^ 64) wide64 big64 0 4294967295 (omega arith) (omega arith)

lengths_reader : IsReader lengths_at lengths_spelling Lengths
lengths_reader = pair_reader (number_at w64) (to_be_bytes w64) (λ n. n < 2 ^ 64) counts (bounded_at w64 0 4294967295) (to_be_bytes w64) (IsBetween 0 4294967295) lefts

lengths_exact : IsExact lengths_at lengths_spelling Lengths
lengths_exact = pair_exact (number_at w64) (to_be_bytes w64) (λ n. n < 2 ^ 64) counts counts_exact (bounded_at w64 0 4294967295) (to_be_bytes w64) (IsBetween 0 4294967295) lefts_exact

-- ---- the files of each shape

-- both halves of what a refusal says, left bytes being behind the place
record Placed (shape : Shape) (bytes : List ℕ) (left : ℕ) : Type 0 where
  pub within : left ≤ length bytes
  pub goes : GoesOn shape bytes (length bytes - left)
  pub stops : (l : ℕ) → left ≡ suc l → GoesOn shape bytes (length bytes - l) → ⊥

module _ (kinds : List kind.Kind) where
  abbrev RowsFail : List ℕ → ℕ → Type 0
  RowsFail = FileFails 0 (number_at w64) (to_be_bytes w64) (λ n. n < 2 ^ 64) counts counts_exact row_spelling 16 (λ h. refl) (λ h before. row_at kinds) (λ h n before. IsRow kinds) (λ h. rows_placed kinds) (λ h. h)

  rows_fail : (bytes : List ℕ) (left : ℕ) → kept_at (shape.Rows kinds) bytes ≡ Err left → RowsFail bytes left
  unfolding kept_at rows_at
  rows_fail bytes left e =
      counted_fails 0 (number_at w64) (to_be_bytes w64) (λ n. n < 2 ^ 64) counts counts_exact row_spelling 16 (λ h. refl) (λ h before. row_at kinds) (λ h n before. IsRow kinds) (λ h. rows_placed kinds) (λ h. h) kept.Rows bytes left e

  rows_stop : (bytes : List ℕ) (left : ℕ) → IsBytes bytes → RowsFail bytes (suc left) → GoesOn (shape.Rows kinds) bytes (length bytes - left) → ⊥
  rows_stop bytes left fits fails (kept.Rows rows, is, same) =
      file_stops 0 (number_at w64) (to_be_bytes w64) (λ n. n < 2 ^ 64) counts counts_exact row_spelling 16 (λ h. refl) (λ h before. row_at kinds) (λ h n before. IsRow kinds) (λ h. rows_placed kinds) (λ h. h)
      bytes left (length rows) rows fits fails (record { header_fits = is.0; counted = refl; fit = is.1 }) same
  rows_stop bytes left fits fails (kept.Groups groups, is, same) = is
  rows_stop bytes left fits fails (kept.Tagged n rows, is, same) = is

  rows_place : (bytes : List ℕ) (left : ℕ) → IsBytes bytes → RowsFail bytes left → Placed (shape.Rows kinds) bytes left
  rows_place bytes left fits fails =
      let g = file_goes 0 (number_at w64) (to_be_bytes w64) (λ n. n < 2 ^ 64) counts counts_exact row_spelling 16 (λ h. refl) (λ h before. row_at kinds) (λ h n before. IsRow kinds) (λ h. rows_placed kinds) (λ h. h) bytes left fits fails in
      let counted : g.h ≡ length g.xs = sym g.holds.counted in
      record {
        within = g.within;
        goes = (
          kept.Rows g.xs,
          (subst (λ (n : ℕ). n < 2 ^ 64) counted g.holds.header_fits, g.holds.fit),
          subst (λ (m : ℕ). take (length bytes - left) (opening 0 ++ (to_be_bytes w64 m ++ flat_map row_spelling g.xs)) ≡ take (length bytes - left) bytes) counted g.same,
        );
        stops = λ l is. rows_stop bytes l fits (subst (RowsFail bytes) is fails);
      }

module _ (keys : List kind.Kind) (kinds : List AccKind) where
  abbrev GroupsFail : List ℕ → ℕ → Type 0
  GroupsFail = FileFails 1 (number_at w64) (to_be_bytes w64) (λ n. n < 2 ^ 64) counts counts_exact group_spelling 16 (λ h. refl) (λ h. group_after keys kinds) (λ h. IsGroupTo keys kinds) (λ h. groups_placed keys kinds) (λ h. h)

  groups_fail : (bytes : List ℕ) (left : ℕ) → kept_at (shape.Groups keys kinds) bytes ≡ Err left → GroupsFail bytes left
  unfolding kept_at groups_at
  groups_fail bytes left e =
      counted_fails 1 (number_at w64) (to_be_bytes w64) (λ n. n < 2 ^ 64) counts counts_exact group_spelling 16 (λ h. refl) (λ h. group_after keys kinds) (λ h. IsGroupTo keys kinds) (λ h. groups_placed keys kinds) (λ h. h) kept.Groups bytes left e

  groups_stop : (bytes : List ℕ) (left : ℕ) → IsBytes bytes → GroupsFail bytes (suc left) → GoesOn (shape.Groups keys kinds) bytes (length bytes - left) → ⊥
  groups_stop bytes left fits fails (kept.Groups groups, is, same) =
      file_stops 1 (number_at w64) (to_be_bytes w64) (λ n. n < 2 ^ 64) counts counts_exact group_spelling 16 (λ h. refl) (λ h. group_after keys kinds) (λ h. IsGroupTo keys kinds) (λ h. groups_placed keys kinds) (λ h. h)
      bytes left (length groups) groups fits fails (record { header_fits = is.0; counted = refl; fit = is.1 }) same
  groups_stop bytes left fits fails (kept.Rows rows, is, same) = is
  groups_stop bytes left fits fails (kept.Tagged n rows, is, same) = is

  groups_place : (bytes : List ℕ) (left : ℕ) → IsBytes bytes → GroupsFail bytes left → Placed (shape.Groups keys kinds) bytes left
  groups_place bytes left fits fails =
      let g = file_goes 1 (number_at w64) (to_be_bytes w64) (λ n. n < 2 ^ 64) counts counts_exact group_spelling 16 (λ h. refl) (λ h. group_after keys kinds) (λ h. IsGroupTo keys kinds) (λ h. groups_placed keys kinds) (λ h. h) bytes left fits fails in
      let counted : g.h ≡ length g.xs = sym g.holds.counted in
      record {
        within = g.within;
        goes = (
          kept.Groups g.xs,
          (subst (λ (n : ℕ). n < 2 ^ 64) counted g.holds.header_fits, g.holds.fit),
          subst (λ (m : ℕ). take (length bytes - left) (opening 1 ++ (to_be_bytes w64 m ++ flat_map group_spelling g.xs)) ≡ take (length bytes - left) bytes) counted g.same,
        );
        stops = λ l is. groups_stop bytes l fits (subst (GroupsFail bytes) is fails);
      }

module _ (kinds : List kind.Kind) where
  abbrev JoinFails : List ℕ → ℕ → Type 0
  JoinFails = FileFails 2 lengths_at lengths_spelling Lengths lengths_reader lengths_exact tagged_spelling 24 (λ h. refl) (λ h. tagged_at h.1 kinds) (λ h. IsTaggedTo h.1 kinds) (λ h. tagged_placed h.1 kinds) (λ h. h.0)

  abbrev rows_behind : ℕ → ℕ × List ℕ → Read (ℕ × List TaggedRow)
  rows_behind n left = items_at (tagged_at left.0 kinds) n [] left.1 >>= λ rows. Ok ((left.0, rows.0), rows.1)

  abbrev JoinRowsFail : List ℕ → ℕ → Type 0
  JoinRowsFail = ItemsFail 2 lengths_at lengths_spelling Lengths lengths_reader lengths_exact tagged_spelling 24 (λ h. refl) (λ h. tagged_at h.1 kinds) (λ h. IsTaggedTo h.1 kinds) (λ h. tagged_placed h.1 kinds) (λ h. h.0)

  -- the header, as it is read
  header_read : (rest : List ℕ) (n left : ℕ × List ℕ) → number_at w64 rest ≡ Ok n → bounded_at w64 0 4294967295 n.1 ≡ Ok left → lengths_at rest ≡ Ok ((n.0, left.0), left.1)
  header_read rest n left e f =
      ap (λ (m : Read ℕ). m >>= λ x. bounded_at w64 0 4294967295 x.1 >>= λ y. Ok ((x.0, y.0), y.1)) e ∙ ap (λ (m : Read ℕ). m >>= λ y. Ok ((n.0, y.0), y.1)) f

  join_rows_fail : (rest : List ℕ) (left : ℕ) → tagged_rows_at kinds rest ≡ Err left → (lengths_at rest ≡ Err left) ⊎ JoinRowsFail rest left
  unfolding tagged_rows_at
  join_rows_fail rest left e = elim (bind_err (number_at w64 rest) (λ n. bounded_at w64 0 4294967295 n.1 >>= λ l. rows_behind n.0 l) left e) [
    | inl p ↦ inl (ap (λ (m : Read ℕ). m >>= λ x. bounded_at w64 0 4294967295 x.1 >>= λ y. Ok ((x.0, y.0), y.1)) p)
    | inr p ↦ elim (bind_err (bounded_at w64 0 4294967295 p.0.1) (λ l. rows_behind p.0.0 l) left p.2) [
      | inl q ↦ inl (ap (λ (m : Read ℕ). m >>= λ x. bounded_at w64 0 4294967295 x.1 >>= λ y. Ok ((x.0, y.0), y.1)) p.1 ∙ ap (λ (m : Read ℕ). m >>= λ y. Ok ((p.0.0, y.0), y.1)) q)
      | inr q ↦ elim (bind_err (items_at (tagged_at q.0.0 kinds) p.0.0 [] q.0.1) (λ rows. Ok ((q.0.0, rows.0), rows.1)) left q.2) [
        | inl r ↦ inr (record { h = ((p.0.0, q.0.0), q.0.1); read = header_read rest p.0 q.0 p.1 q.1; items = ap (λ (m : Read (List TaggedRow)). m >>= λ x. ended x) r })
        | inr r ↦ absurd (let clash = r.2 in cc)
      ]
    ]
  ]

  join_end_fails : (rest : List ℕ) (left : ℕ) (x : (ℕ × List TaggedRow) × List ℕ) → tagged_rows_at kinds rest ≡ Ok x → ended (kept.Tagged x.0.0 x.0.1, x.1) ≡ Err left → JoinRowsFail rest left
  unfolding tagged_rows_at
  join_end_fails rest left x e end' =
      let a = bind_ok (number_at w64 rest) (λ n. bounded_at w64 0 4294967295 n.1 >>= λ l. rows_behind n.0 l) x e in
      let b = bind_ok (bounded_at w64 0 4294967295 a.0.1) (λ l. rows_behind a.0.0 l) x a.2 in
      let c = bind_ok (items_at (tagged_at b.0.0 kinds) a.0.0 [] b.0.1) (λ rows. Ok ((b.0.0, rows.0), rows.1)) x b.2 in
      let made : (ℕ × List TaggedRow) × List ℕ = ((b.0.0, c.0.0), c.0.1) in
      let behind : x.1 ≡ c.0.1 = ap (λ (z : (ℕ × List TaggedRow) × List ℕ). z.1) (sym (ok_is made x c.2)) in
      let k : Kept = kept.Tagged x.0.0 x.0.1 in
      record {
        h = ((a.0.0, b.0.0), b.0.1);
        read = header_read rest a.0 b.0 a.1 b.1;
        items = ap (λ (m : Read (List TaggedRow)). m >>= λ x. ended x) c.1 ∙ ended_as k c.0.0 c.0.1 left (subst (λ (l : List ℕ). ended (k, l) ≡ Err left) behind end');
      }

  join_fails : (bytes : List ℕ) (left : ℕ) → kept_at (shape.Tagged kinds) bytes ≡ Err left → JoinFails bytes left
  unfolding kept_at
  join_fails bytes left e = elim (bind_err (literal_at (opening 2) bytes) (λ rest. tagged_rows_at kinds rest >>= λ rows. ended (kept.Tagged rows.0.0 rows.0.1, rows.1)) left e) [
    | inl p ↦ inl p
    | inr p ↦ inr (record {
      rest = p.0;
      read = p.1;
      fails = elim (bind_err (tagged_rows_at kinds p.0) (λ rows. ended (kept.Tagged rows.0.0 rows.0.1, rows.1)) left p.2) [
        | inl q ↦ join_rows_fail p.0 left q
        | inr q ↦ inr (join_end_fails p.0 left q.0 q.1 q.2)
      ];
    })
  ]

  join_stop : (bytes : List ℕ) (left : ℕ) → IsBytes bytes → JoinFails bytes (suc left) → GoesOn (shape.Tagged kinds) bytes (length bytes - left) → ⊥
  join_stop bytes left fits fails (kept.Tagged n rows, is, same) =
      file_stops 2 lengths_at lengths_spelling Lengths lengths_reader lengths_exact tagged_spelling 24 (λ h. refl) (λ h. tagged_at h.1 kinds) (λ h. IsTaggedTo h.1 kinds) (λ h. tagged_placed h.1 kinds) (λ h. h.0)
      bytes left (length rows, n) rows fits fails (record { header_fits = (is.0, (omega arith, is.1)); counted = refl; fit = is.2 }) same
  join_stop bytes left fits fails (kept.Rows rows, is, same) = is
  join_stop bytes left fits fails (kept.Groups groups, is, same) = is

  join_place : (bytes : List ℕ) (left : ℕ) → IsBytes bytes → JoinFails bytes left → Placed (shape.Tagged kinds) bytes left
  join_place bytes left fits fails =
      let g = file_goes 2 lengths_at lengths_spelling Lengths lengths_reader lengths_exact tagged_spelling 24 (λ h. refl) (λ h. tagged_at h.1 kinds) (λ h. IsTaggedTo h.1 kinds) (λ h. tagged_placed h.1 kinds) (λ h. h.0) bytes left fits fails in
      let counted : g.h.0 ≡ length g.xs = sym g.holds.counted in
      record {
        within = g.within;
        goes = (
          kept.Tagged g.h.1 g.xs,
          (subst (λ (n : ℕ). n < 2 ^ 64) counted g.holds.header_fits.0, g.holds.header_fits.1.1, g.holds.fit),
          subst (λ (m : ℕ). take (length bytes - left) (opening 2 ++ ((to_be_bytes w64 m ++ to_be_bytes w64 g.h.1) ++ flat_map tagged_spelling g.xs)) ≡ take (length bytes - left) bytes) counted g.same,
        );
        stops = λ l is. join_stop bytes l fits (subst (JoinFails bytes) is fails);
      }

-- ---- what a call returned

place_of : (shape : Shape) (bytes : List ℕ) (left : ℕ) → IsBytes bytes → kept_at shape bytes ≡ Err left → Placed shape bytes left
place_of (shape.Rows kinds) bytes left fits e = rows_place kinds bytes left fits (rows_fail kinds bytes left e)
place_of (shape.Groups keys kinds) bytes left fits e = groups_place keys kinds bytes left fits (groups_fail keys kinds bytes left e)
place_of (shape.Tagged kinds) bytes left fits e = join_place kinds bytes left fits (join_fails kinds bytes left e)

not_with_it : (shape : Shape) (bytes : List ℕ) (left at : ℕ) → Placed shape bytes left → at ≡ length bytes - left → at < length bytes → GoesOn shape bytes (at + 1) → ⊥
not_with_it shape bytes zero at p is lt goes = omega arith
not_with_it shape bytes (suc l) at p is lt goes =
    let within = p.within in
    let n : at + 1 ≡ length bytes - l = omega arith in
    p.stops l refl (subst (λ (m : ℕ). GoesOn shape bytes m) n goes)

pub is_place : (shape : Shape) (bytes : List ℕ) (r : Result Kept BlobRefusal) → IsBytes bytes → Reads r (kept_at shape bytes) (length bytes) → IfErr r (λ e. IsPlace shape bytes e)
is_place shape bytes (Ok k) fits read = tt
is_place shape bytes (Err refusal.Memory) fits read = tt
is_place shape bytes (Err (refusal.NotBlob at)) fits read =
    let p = place_of shape bytes read.0 fits read.1 in
    let is : at ≡ length bytes - read.0 = read.2 in
    (omega arith, subst (λ (n : ℕ). GoesOn shape bytes n) (sym is) p.goes, not_with_it shape bytes read.0 at p is)
