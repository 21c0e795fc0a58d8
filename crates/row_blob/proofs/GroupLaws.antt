-- Accumulators, groups and rows of a join that are read are spelled so, and what is spelled so is read.
use Rattle.std.proofs.Common.{◌≡◌, ℕ, suc, ◌^◌, ◌≤◌, Bool, false, ◌||◌, cond, ltb, List, ◌++◌, length, Ok, Err, refl, sym, ap, subst, ◌∙◌, append_assoc, arith}
use Rattle.std.specs.Prelude.{nat_le}
use Rattle.std.specs.Int.{w64, w128, to_be_bytes}
use Rattle.std.specs.List.{list_any, flat_map}
use Rattle.std.proofs.lemmas.Bool.{ltb-false, le-ltb, leb-false, lt-leb, or_parts}
use Rattle.rows_core.specs.declared.kind.Kind as kind
use Rattle.row_blob.specs.declared.kept.Acc.{Acc}
use Rattle.row_blob.specs.declared.kept.Acc.TheVariants as acc
use Rattle.row_blob.specs.declared.kept.GroupRow.{GroupRow}
use Rattle.row_blob.specs.declared.kept.TaggedRow.{TaggedRow}
use Rattle.row_blob.specs.declared.shape.AccKind.{AccKind}
use Rattle.row_blob.specs.declared.shape.AccKind.TheVariants as acc_kind
use Rattle.byte_formats.specs.Format.{signed}
use Rattle.row_blob.specs.Spelling.{row_spelling, acc_spelling, group_spelling, tagged_spelling}
use Rattle.byte_formats.specs.Reading.{◌>>=◌, number_at}
use Rattle.row_blob.specs.Reading.{value_at, row_at, count_at, sum_at, acc_at, accs_at, group_at, group_after, tagged_at}
use Rattle.rows_core.specs.Value.{row_eq}
use Rattle.row_blob.specs.Kept.{keys_of, last_left, AreEach, IsCount, IsSum, IsAcc, IsNextGroup, IsNextTagged}
use Rattle.byte_formats.proofs.Readers.{IsBytes, bind_ok, guard_ok, ok_is, HasFront, IsReader}
use Rattle.row_blob.proofs.Readers.{each_reader}
use Rattle.byte_formats.proofs.Fields.{wide64, number_reader, bounded_reader}
use Rattle.row_blob.proofs.RowLaws.{value_reader, row_reader}

pub count_reader : IsReader count_at (to_be_bytes w64) IsCount
unfolding count_at
count_reader = bounded_reader w64 (2 ^ 64) wide64 1 4294967295 (omega arith)

module _ (sums : IsReader sum_at (signed w128) IsSum) where
  acc_takes : (kind : AccKind) (bytes : List ℕ) (x : Acc × List ℕ) → IsBytes bytes → acc_at kind bytes ≡ Ok x → HasFront acc_spelling (IsAcc kind) bytes x
  unfolding acc_at
  acc_takes acc_kind.Count bytes x fits e =
      let b = bind_ok (count_at bytes) (λ n. Ok (acc.Count n.0, n.1)) x e in
      let t = count_reader.takes bytes b.0 fits b.1 in
      subst (λ y. HasFront acc_spelling (IsAcc acc_kind.Count) bytes y) (ok_is (acc.Count b.0.0, b.0.1) x b.2) (record { parts = t.parts; rest = t.rest; fits = t.fits })
  acc_takes acc_kind.Sum bytes x fits e =
      let b = bind_ok (sum_at bytes) (λ s. Ok (acc.Sum s.0, s.1)) x e in
      let t = sums.takes bytes b.0 fits b.1 in
      subst (λ y. HasFront acc_spelling (IsAcc acc_kind.Sum) bytes y) (ok_is (acc.Sum b.0.0, b.0.1) x b.2) (record { parts = t.parts; rest = t.rest; fits = t.fits })
  acc_takes acc_kind.Avg bytes x fits e =
      let a = bind_ok (sum_at bytes) (λ s. count_at s.1 >>= λ n. Ok (acc.Avg s.0 n.0, n.1)) x e in
      let b = bind_ok (count_at a.0.1) (λ n. Ok (acc.Avg a.0.0 n.0, n.1)) x a.2 in
      let s = sums.takes bytes a.0 fits a.1 in
      let t = count_reader.takes a.0.1 b.0 s.rest b.1 in
      subst (λ y. HasFront acc_spelling (IsAcc acc_kind.Avg) bytes y) (ok_is (acc.Avg a.0.0 b.0.0, b.0.1) x b.2)
      (record { parts = s.parts ∙ ap (λ (l : List ℕ). signed w128 a.0.0 ++ l) t.parts ∙ sym (append_assoc (signed w128 a.0.0) (to_be_bytes w64 b.0.0) b.0.1); rest = t.rest; fits = (s.fits, t.fits) })
  acc_takes (acc_kind.Pick kind) bytes x fits e =
      let b = bind_ok (value_at kind bytes) (λ v. Ok (acc.Pick v.0, v.1)) x e in
      let t = (value_reader kind).takes bytes b.0 fits b.1 in
      subst (λ y. HasFront acc_spelling (IsAcc (acc_kind.Pick kind)) bytes y) (ok_is (acc.Pick b.0.0, b.0.1) x b.2) (record { parts = t.parts; rest = t.rest; fits = t.fits })

  acc_again : (kind : AccKind) (a : Acc) (rest : List ℕ) → IsAcc kind a → acc_at kind (acc_spelling a ++ rest) ≡ Ok (a, rest)
  unfolding acc_at
  acc_again acc_kind.Count (acc.Count n) rest fits = ap (λ r. r >>= λ m. Ok (acc.Count m.0, m.1)) (count_reader.again n rest fits)
  acc_again acc_kind.Sum (acc.Sum s) rest fits = ap (λ r. r >>= λ m. Ok (acc.Sum m.0, m.1)) (sums.again s rest fits)
  acc_again acc_kind.Avg (acc.Avg s n) rest fits =
      let regrouped : acc_spelling (acc.Avg s n) ++ rest ≡ signed w128 s ++ (to_be_bytes w64 n ++ rest) = append_assoc (signed w128 s) (to_be_bytes w64 n) rest in
      ap (acc_at acc_kind.Avg) regrouped
      ∙ ap (λ r. r >>= λ m. count_at m.1 >>= λ k. Ok (acc.Avg m.0 k.0, k.1)) (sums.again s (to_be_bytes w64 n ++ rest) fits.0)
      ∙ ap (λ r. r >>= λ k. Ok (acc.Avg s k.0, k.1)) (count_reader.again n rest fits.1)
  acc_again (acc_kind.Pick kind) (acc.Pick v) rest fits = ap (λ r. r >>= λ m. Ok (acc.Pick m.0, m.1)) ((value_reader kind).again v rest fits)
  acc_again _ _ rest fits = absurd fits

  pub acc_reader : (kind : AccKind) → IsReader (acc_at kind) acc_spelling (IsAcc kind)
  acc_reader kind = record { takes = acc_takes kind; again = acc_again kind }

  pub accs_reader : (kinds : List AccKind) → IsReader (accs_at kinds) (flat_map acc_spelling) (AreEach IsAcc kinds)
  unfolding accs_at
  accs_reader kinds = each_reader acc_at acc_spelling IsAcc acc_reader kinds

  group_takes : (keys : List kind.Kind) (kinds : List AccKind) (before : List GroupRow) (bytes : List ℕ) (x : GroupRow × List ℕ) → IsBytes bytes → group_after keys kinds before bytes ≡ Ok x
      → HasFront group_spelling (IsNextGroup keys kinds before) bytes x
  unfolding group_at
  group_takes keys kinds before bytes x fits e =
      let a = bind_ok (row_at keys bytes) (λ key. cond (list_any (row_eq key.0) (keys_of before)) (Err (suc (length key.1))) (accs_at kinds key.1 >>= λ accs. Ok (record { key = key.0; accs = accs.0 }, accs.1))) x e in
      let g = guard_ok (list_any (row_eq a.0.0) (keys_of before)) (suc (length a.0.1)) (accs_at kinds a.0.1 >>= λ accs. Ok (record { key = a.0.0; accs = accs.0 }, accs.1)) x a.2 in
      let b = bind_ok (accs_at kinds a.0.1) (λ accs. Ok (record { key = a.0.0; accs = accs.0 }, accs.1)) x g.1 in
      let s = (row_reader keys).takes bytes a.0 fits a.1 in
      let t = (accs_reader kinds).takes a.0.1 b.0 s.rest b.1 in
      let made : GroupRow × List ℕ = (record { key = a.0.0; accs = b.0.0 }, b.0.1) in
      subst (λ y. HasFront group_spelling (IsNextGroup keys kinds before) bytes y) (ok_is made x b.2)
      (record { parts = s.parts ∙ ap (λ (l : List ℕ). row_spelling a.0.0 ++ l) t.parts ∙ sym (append_assoc (row_spelling a.0.0) (flat_map acc_spelling b.0.0) b.0.1); rest = t.rest; fits = (s.fits, t.fits, g.0) })

  group_again : (keys : List kind.Kind) (kinds : List AccKind) (before : List GroupRow) (g : GroupRow) (rest : List ℕ) → IsNextGroup keys kinds before g → group_after keys kinds before (group_spelling g ++ rest) ≡ Ok (g, rest)
  unfolding group_at
  group_again keys kinds before g rest fits =
      let behind = flat_map acc_spelling g.accs ++ rest in
      let regrouped : group_spelling g ++ rest ≡ row_spelling g.key ++ behind = append_assoc (row_spelling g.key) (flat_map acc_spelling g.accs) rest in
      ap (group_after keys kinds before) regrouped
      ∙ ap (λ r. r >>= λ key. cond (list_any (row_eq key.0) (keys_of before)) (Err (suc (length key.1))) (accs_at kinds key.1 >>= λ accs. Ok (record { key = key.0; accs = accs.0 }, accs.1))) ((row_reader keys).again g.key behind fits.0)
      ∙ ap (λ (b : Bool). cond b (Err (suc (length behind))) (accs_at kinds behind >>= λ accs. Ok (record { key = g.key; accs = accs.0 }, accs.1))) fits.2
      ∙ ap (λ r. r >>= λ accs. Ok (record { key = g.key; accs = accs.0 }, accs.1)) ((accs_reader kinds).again g.accs rest fits.1)

  pub group_reader : (keys : List kind.Kind) (kinds : List AccKind) (before : List GroupRow) → IsReader (group_after keys kinds before) group_spelling (IsNextGroup keys kinds before)
  group_reader keys kinds before = record { takes = group_takes keys kinds before; again = group_again keys kinds before }

-- ---- rows of a join

tagged_takes : (left : ℕ) (kinds : List kind.Kind) (before : List TaggedRow) (bytes : List ℕ) (x : TaggedRow × List ℕ) → IsBytes bytes → tagged_at left kinds before bytes ≡ Ok x
    → HasFront tagged_spelling (IsNextTagged left kinds before) bytes x
unfolding tagged_at
tagged_takes left kinds before bytes x fits e =
    let a = bind_ok (number_at w64 bytes) (λ n. cond (ltb n.0 (last_left before) || nat_le left n.0) (Err (suc (length n.1))) (row_at kinds n.1 >>= λ row. Ok (record { left = n.0; row = row.0 }, row.1))) x e in
    let g = guard_ok (ltb a.0.0 (last_left before) || nat_le left a.0.0) (suc (length a.0.1)) (row_at kinds a.0.1 >>= λ row. Ok (record { left = a.0.0; row = row.0 }, row.1)) x a.2 in
    let b = bind_ok (row_at kinds a.0.1) (λ row. Ok (record { left = a.0.0; row = row.0 }, row.1)) x g.1 in
    let tests = or_parts (ltb a.0.0 (last_left before)) (nat_le left a.0.0) g.0 in
    let s = (number_reader w64 (2 ^ 64) wide64).takes bytes a.0 fits a.1 in
    let t = (row_reader kinds).takes a.0.1 b.0 s.rest b.1 in
    let made : TaggedRow × List ℕ = (record { left = a.0.0; row = b.0.0 }, b.0.1) in
    subst (λ y. HasFront tagged_spelling (IsNextTagged left kinds before) bytes y) (ok_is made x b.2)
    (record { parts = s.parts ∙ ap (λ (l : List ℕ). to_be_bytes w64 a.0.0 ++ l) t.parts ∙ sym (append_assoc (to_be_bytes w64 a.0.0) (row_spelling b.0.0) b.0.1); rest = t.rest; fits = (ltb-false _ _ tests.0, leb-false _ _ tests.1, t.fits) })

tagged_again : (left : ℕ) (small : left ≤ 4294967295) (kinds : List kind.Kind) (before : List TaggedRow) (row : TaggedRow) (rest : List ℕ) → IsNextTagged left kinds before row → tagged_at left kinds before (tagged_spelling row ++ rest) ≡ Ok (row, rest)
unfolding tagged_at
tagged_again left small kinds before row rest fits =
    let behind = row_spelling row.row ++ rest in
    let regrouped : tagged_spelling row ++ rest ≡ to_be_bytes w64 row.left ++ behind = append_assoc (to_be_bytes w64 row.left) (row_spelling row.row) rest in
    let rises : ltb row.left (last_left before) ≡ false = le-ltb _ _ fits.0 in
    let within : nat_le left row.left ≡ false = lt-leb _ _ fits.1 in
    let both : (ltb row.left (last_left before) || nat_le left row.left) ≡ false = rw (rises, within) refl in
    ap (tagged_at left kinds before) regrouped
    ∙ ap (λ r. r >>= λ n. cond (ltb n.0 (last_left before) || nat_le left n.0) (Err (suc (length n.1))) (row_at kinds n.1 >>= λ row. Ok (record { left = n.0; row = row.0 }, row.1))) ((number_reader w64 (2 ^ 64) wide64).again row.left behind (omega (arith, fits.1)))
    ∙ ap (λ (b : Bool). cond b (Err (suc (length behind))) (row_at kinds behind >>= λ r. Ok (record { left = row.left; row = r.0 }, r.1))) both
    ∙ ap (λ r. r >>= λ s. Ok (record { left = row.left; row = s.0 }, s.1)) ((row_reader kinds).again row.row rest fits.2)

pub tagged_reader : (left : ℕ) → left ≤ 4294967295 → (kinds : List kind.Kind) (before : List TaggedRow) → IsReader (tagged_at left kinds before) tagged_spelling (IsNextTagged left kinds before)
tagged_reader left small kinds before = record { takes = tagged_takes left kinds before; again = tagged_again left small kinds before }
