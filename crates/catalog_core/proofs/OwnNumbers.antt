-- The files of a table keep numbers of their own.
use Rattle.std.proofs.Common.{◌≡◌, inl, inr, ◌≢◌, refl, sym, ap, subst, ◌∙◌, ℕ, zero, suc, ◌+◌, ◌<◌, ◌≤◌, ◌==◌, Bool, true, false, cond, not, List, [], ◌∷◌, ◌++◌, length, map, arith}
use Rattle.std.specs.Cmp.{nat_eq_equiv}
use Rattle.std.specs.List.{AllByRecursion, Contains, IsDistinct}
use Rattle.std.specs.List.Sorted.{IsPermutation}
use Rattle.std.proofs.lemmas.Bool.{eqb-false, ne_eqb}
use Rattle.std.proofs.lemmas.Grind.{flat_map-append}
use Rattle.std.proofs.lemmas.List.{append-nil, append_assoc, map-append}
use Rattle.std.proofs.lemmas.List.Elements.{All-from_recursion, recursion_from_All}
use Rattle.std.proofs.lemmas.List.Sorted.{All-permutation, IsPermutation-append_left, IsPermutation-append_right, IsPermutation-middle, IsPermutation-sym, IsPermutation-trans}
use Rattle.std.proofs.lemmas.Map.Keys.{IsDistinct-cons, IsDistinct-IsPermutation}
use Rattle.catalog_types.specs.PlainEntry.{PlainEntry, PlainNewEntry}
use Rattle.catalog_types.specs.declared.extent.Extent.{Extent}
use Rattle.catalog_types.specs.declared.snapshot.StreamState.{StreamState}
use Rattle.cache_index.proofs.Searching.{all-map}
use Rattle.entry_table.specs.Ids.{is_among, without}
use Rattle.entry_table.specs.Keyed.{Digests}
use Rattle.entry_table.specs.Results.{HaveNextFiles}
use Rattle.entry_table.specs.Work.{used, with_use, with_uses, new_entries}
use Rattle.rewrite_core.proofs.Looking.{Contains-cons_cases, Contains-none}
use Rattle.catalog_core.specs.IsTable.{IsTable}
use Rattle.catalog_core.specs.OwnFiles.{extent_files, result_files, files_in, HaveOwnFiles, IsGiven}
use Rattle.catalog_core.specs.Table.{Table, updated, with_extent}
use Rattle.catalog_core.proofs.AskedResults.{all-at}
use Rattle.catalog_core.proofs.Typings.{sides}

-- ---- numbers that differ

abbrev AreDistinct : List ℕ → Type 0
AreDistinct files = IsDistinct (λ a b. a == b) files

-- it is none of these
abbrev IsNoneOf : List ℕ → ℕ → Type 0
IsNoneOf files file = AllByRecursion (λ other. (file == other) ≡ false) files

other-number : (a b : ℕ) → a < b → (a == b) ≡ false
other-number a b less = ne_eqb a b (λ same. omega (arith, less, same))

all-joined : (P : ℕ → Type 0) (xs ys : List ℕ) → AllByRecursion P xs → AllByRecursion P ys → AllByRecursion P (xs ++ ys)
all-joined P [] ys front behind = behind
all-joined P (x ∷ xs) ys front behind = (front.0, all-joined P xs ys front.1 behind)

all-mapped : {A : Type 0} (P : ℕ → Type 0) (f : A → ℕ) (xs : List A) → AllByRecursion P (map f xs) → AllByRecursion (λ x. P (f x)) xs
all-mapped P f [] all = tt
all-mapped P f (x ∷ xs) all = (all.0, all-mapped P f xs all.1)

distinct-parts : (xs ys : List ℕ) → AreDistinct (xs ++ ys) → AreDistinct xs × AreDistinct ys × AllByRecursion (IsNoneOf ys) xs
unfolding IsDistinct
distinct-parts [] ys differ = (tt, differ, tt)
distinct-parts (x ∷ xs) ys differ =
    let first = sides (λ other. (x == other) ≡ false) xs ys differ.0 in
    let rest = distinct-parts xs ys differ.1 in
    ((first.0, rest.0), rest.1, (first.1, rest.2))

distinct-joined : (xs ys : List ℕ) → AreDistinct xs → AreDistinct ys → AllByRecursion (IsNoneOf ys) xs → AreDistinct (xs ++ ys)
unfolding IsDistinct
distinct-joined [] ys front behind apart = behind
distinct-joined (x ∷ xs) ys front behind apart = (all-joined (λ other. (x == other) ≡ false) xs ys front.0 apart.0, distinct-joined xs ys front.1 behind apart.1)

-- ---- a stream without an extent

no-file-more : (streams : List StreamState) (s : StreamState) → s.extents ≡ [] → extent_files (streams ++ s ∷ []) ≡ extent_files streams
no-file-more streams s none =
    flat_map-append (λ (stream : StreamState). map (λ (extent : Extent). extent.file.file) stream.extents) streams (s ∷ [])
    ∙ ap (λ (extents : List Extent). extent_files streams ++ (map (λ (extent : Extent). extent.file.file) extents ++ [])) none
    ∙ append-nil (extent_files streams)

pub files-stream : (next : ℕ) (streams : List StreamState) (entries : List PlainEntry) (s : StreamState) → s.extents ≡ [] → HaveOwnFiles next streams entries → HaveOwnFiles next (streams ++ s ∷ []) entries
files-stream next streams entries s none own =
    let same = sym (no-file-more streams s none) in
    record {
      given = subst (λ (files : List ℕ). AllByRecursion (IsGiven next) (files ++ result_files entries)) same own.given;
      differ = subst (λ (files : List ℕ). AreDistinct (files ++ result_files entries)) same own.differ;
    }

-- ---- an extent more

-- they are those from before and the new one's, in another order
files-grown : (streams : List StreamState) (place : ℕ) (extent : Extent) → place < length streams
    → IsPermutation (extent.file.file ∷ extent_files streams) (extent_files (updated (with_extent extent) streams place))
files-grown [] place extent low = absurd (omega (arith, low))
files-grown (x ∷ xs) zero extent low =
    let own = map (λ (e : Extent). e.file.file) x.extents in
    let others = extent_files xs in
    let file = extent.file.file in
    let all : map (λ (e : Extent). e.file.file) (x.extents ++ extent ∷ []) ++ others ≡ own ++ file ∷ others =
    ap (λ (files : List ℕ). files ++ others) (map-append (λ (e : Extent). e.file.file) x.extents (extent ∷ [])) ∙ append_assoc own (file ∷ []) others in
    subst (IsPermutation (file ∷ (own ++ others))) (sym all) (IsPermutation-sym (own ++ file ∷ others) (file ∷ (own ++ others)) (IsPermutation-middle own file others))
files-grown (x ∷ xs) (suc n) extent low =
    let own = map (λ (e : Extent). e.file.file) x.extents in
    let others = extent_files xs in
    let file = extent.file.file in
    let grown = extent_files (updated (with_extent extent) xs n) in
    IsPermutation-trans (file ∷ (own ++ others)) (own ++ file ∷ others) (own ++ grown)
    (IsPermutation-sym (own ++ file ∷ others) (file ∷ (own ++ others)) (IsPermutation-middle own file others))
    (IsPermutation-append_right own (file ∷ others) grown (files-grown xs n extent (omega (arith, low))))

pub files-append : (next : ℕ) (streams : List StreamState) (entries : List PlainEntry) (place : ℕ) (extent : Extent) → 0 < next → place < length streams → extent.file.file ≡ next
    → HaveOwnFiles next streams entries → HaveOwnFiles (next + 1) (updated (with_extent extent) streams place) entries
files-append next streams entries place extent first low is own =
    let file = extent.file.file in
    let old = files_in streams entries in
    let new = files_in (updated (with_extent extent) streams place) entries in
    let moved : IsPermutation (file ∷ old) new =
    IsPermutation-append_left (result_files entries) (file ∷ extent_files streams) (extent_files (updated (with_extent extent) streams place)) (files-grown streams place extent low) in
    let given : AllByRecursion (IsGiven (next + 1)) (file ∷ old) =
    ((omega (arith, first, is), omega (arith, is)), all-map (IsGiven next) (IsGiven (next + 1)) (λ other it. (it.0, omega (arith, it.1))) old own.given) in
    let apart : IsNoneOf old file = all-map (IsGiven next) (λ other. (file == other) ≡ false) (λ other it. ne_eqb file other (λ same. omega (arith, it.1, is, same))) old own.given in
    record {
      given = recursion_from_All (IsGiven (next + 1)) new (All-permutation (IsGiven (next + 1)) (file ∷ old) new moved (All-from_recursion (IsGiven (next + 1)) (file ∷ old) given));
      differ = IsDistinct-IsPermutation (λ a b. a == b) nat_eq_equiv.symm (file ∷ old) new moved (IsDistinct-cons (λ a b. a == b) file old apart own.differ);
    }

-- ---- results that go

files-left : (P : ℕ → Type 0) (ids : List ℕ) (es : List PlainEntry) → AllByRecursion P (result_files es) → AllByRecursion P (result_files (without ids es))
files-left P ids [] all = tt
files-left P ids (e ∷ es) all = by (not (is_among ids e.id)) (files-left P ids es all.1)
  where
    by : (b : Bool) → AllByRecursion P (result_files (without ids es)) → AllByRecursion P (result_files (cond b (e ∷ without ids es) (without ids es)))
    by true rest = (all.0, rest)
    by false rest = rest

distinct-left : (ids : List ℕ) (es : List PlainEntry) → AreDistinct (result_files es) → AreDistinct (result_files (without ids es))
unfolding IsDistinct
distinct-left ids [] differ = tt
distinct-left ids (e ∷ es) differ = by (not (is_among ids e.id)) (distinct-left ids es differ.1)
  where
    by : (b : Bool) → AreDistinct (result_files (without ids es)) → AreDistinct (result_files (cond b (e ∷ without ids es) (without ids es)))
    by true rest = (files-left (λ other. (e.file.file == other) ≡ false) ids es differ.0, rest)
    by false rest = rest

pub files-collection : (ids : List ℕ) (next : ℕ) (streams : List StreamState) (entries : List PlainEntry) → HaveOwnFiles next streams entries → HaveOwnFiles next streams (without ids entries)
files-collection ids next streams entries own =
    let extents = extent_files streams in
    let results = result_files entries in
    let left = result_files (without ids entries) in
    let given = sides (IsGiven next) extents results own.given in
    let parts = distinct-parts extents results own.differ in
    record {
      given = all-joined (IsGiven next) extents left given.0 (files-left (IsGiven next) ids entries given.1);
      differ = distinct-joined extents left parts.0 (distinct-left ids entries parts.1)
          (all-map (IsNoneOf results) (IsNoneOf left) (λ file others. files-left (λ other. (file == other) ≡ false) ids entries others) extents parts.2);
    }

-- ---- uses, and new results

used-file : (tick : ℕ) (ids : List ℕ) (e : PlainEntry) → (used tick ids e).file.file ≡ e.file.file
used-file tick ids e = by (is_among ids e.id)
  where
    by : (b : Bool) → (cond b (with_use tick e) e).file.file ≡ e.file.file
    by true = refl
    by false = refl

files-used : (tick : ℕ) (ids : List ℕ) (es : List PlainEntry) → result_files (with_uses tick ids es) ≡ result_files es
files-used tick ids [] = refl
files-used tick ids (e ∷ es) = λ i. used-file tick ids e i ∷ files-used tick ids es i

-- the file is one of so many from this one on
abbrev IsFrom : ℕ → ℕ → ℕ → Type 0
IsFrom first count file = (first ≤ file) × (file < first + count)

new-from : (digests : Digests) (tick id file : ℕ) (news : List PlainNewEntry) → HaveNextFiles file news → AllByRecursion (IsFrom file (length news)) (result_files (new_entries digests tick id news))
new-from digests tick id file [] files = tt
new-from digests tick id file (new ∷ news) files =
    let first = files.0 in (
      (omega (arith, first), omega (arith, first)),
      all-map (IsFrom (file + 1) (length news)) (IsFrom file (length (new ∷ news))) (λ other it. (omega (arith, it.0), omega (arith, it.1))) (result_files (new_entries digests tick (id + 1) news)) (new-from digests tick (id + 1) (file + 1) news files.2),
    )

new-distinct : (digests : Digests) (tick id file : ℕ) (news : List PlainNewEntry) → HaveNextFiles file news → AreDistinct (result_files (new_entries digests tick id news))
unfolding IsDistinct
new-distinct digests tick id file [] files = tt
new-distinct digests tick id file (new ∷ news) files =
    let first = files.0 in (
      all-map (IsFrom (file + 1) (length news)) (λ other. (new.file.file == other) ≡ false) (λ other it. other-number new.file.file other (omega (arith, first, it.0))) (result_files (new_entries digests tick (id + 1) news))
          (new-from digests tick (id + 1) (file + 1) news files.2),
      new-distinct digests tick (id + 1) (file + 1) news files.2,
    )

-- new results behind
files-new : (digests : Digests) (tick id next : ℕ) (news : List PlainNewEntry) (files : List ℕ) → 0 < next → HaveNextFiles next news → AllByRecursion (IsGiven next) files → AreDistinct files
    → (let all = files ++ result_files (new_entries digests tick id news) in AllByRecursion (IsGiven (next + length news)) all × AreDistinct all)
files-new digests tick id next news files first are given differ =
    let come = result_files (new_entries digests tick id news) in
    let from = new-from digests tick id next news are in (
      all-joined (IsGiven (next + length news)) files come (all-map (IsGiven next) (IsGiven (next + length news)) (λ file it. (it.0, omega (arith, it.1))) files given)
          (all-map (IsFrom next (length news)) (IsGiven (next + length news)) (λ file it. (omega (arith, it.0, first), it.1)) come from),
      distinct-joined files come differ (new-distinct digests tick id next news are)
          (all-map (IsGiven next) (IsNoneOf come)
          (λ file it. all-map (IsFrom next (length news)) (λ other. (file == other) ≡ false) (λ other later. other-number file other (omega (arith, it.1, later.0))) come from) files given),
    )

pub files-work : (digests : Digests) (tick id next : ℕ) (reads dropped : List ℕ) (news : List PlainNewEntry) (streams : List StreamState) (entries : List PlainEntry)
    → 0 < next → HaveNextFiles next news → HaveOwnFiles next streams entries
    → HaveOwnFiles (next + length news) streams (with_uses tick reads (without dropped entries) ++ new_entries digests tick id news)
files-work digests tick id next reads dropped news streams entries first files own =
    let left = without dropped entries in
    let come = new_entries digests tick id news in
    let stay = files-collection dropped next streams entries own in
    let all : files_in streams (with_uses tick reads left ++ come) ≡ files_in streams left ++ result_files come =
    ap (λ (fs : List ℕ). extent_files streams ++ fs) (map-append (λ (e : PlainEntry). e.file.file) (with_uses tick reads left) come ∙ ap (λ (fs : List ℕ). fs ++ result_files come) (files-used tick reads left))
    ∙ sym (append_assoc (extent_files streams) (result_files left) (result_files come)) in
    let are = files-new digests tick id next news (files_in streams left) first files stay.given stay.differ in
    record {
      given = subst (AllByRecursion (IsGiven (next + length news))) (sym all) are.0;
      differ = subst AreDistinct (sym all) are.1;
    }

-- ---- the numbers of one table

one-file : (es : List PlainEntry) (x y : PlainEntry) → AreDistinct (result_files es) → Contains es x → Contains es y → x.file.file ≡ y.file.file → x ≡ y
unfolding IsDistinct
one-file [] x y differ has also same = absurd (Contains-none x has)
one-file (e ∷ es) x y differ has also same = elim (Contains-cons_cases e es x has) [
  | inl is ↦ elim (Contains-cons_cases e es y also) [
    | inl it ↦ sym is ∙ it
    | inr more ↦ absurd (eqb-false e.file.file y.file.file (apart y more) (ap (λ (z : PlainEntry). z.file.file) is ∙ same))
  ]
  | inr further ↦ elim (Contains-cons_cases e es y also) [
    | inl it ↦ absurd (eqb-false e.file.file x.file.file (apart x further) (ap (λ (z : PlainEntry). z.file.file) it ∙ sym same))
    | inr more ↦ one-file es x y differ.1 further more same
  ]
]
  where
    apart : (z : PlainEntry) → Contains es z → (e.file.file == z.file.file) ≡ false
    apart z there = all-at (λ (other : PlainEntry). (e.file.file == other.file.file) ≡ false) es z (all-mapped (λ other. (e.file.file == other) ≡ false) (λ (other : PlainEntry). other.file.file) es differ.0) there

all-extents : (P : ℕ → Type 0) (streams : List StreamState) → AllByRecursion P (extent_files streams) → AllByRecursion (λ stream. AllByRecursion (λ extent. P extent.file.file) stream.extents) streams
all-extents P [] all = tt
all-extents P (x ∷ xs) all =
    let both = sides P (map (λ (extent : Extent). extent.file.file) x.extents) (extent_files xs) all in
    (all-mapped P (λ (extent : Extent). extent.file.file) x.extents both.0, all-extents P xs both.1)

pub result-given : (t : Table) (e : PlainEntry) → IsTable t → Contains t.entries e → (0 < e.file.file) × (e.file.file < t.next_file)
result-given t e is has =
    let given = sides (IsGiven t.next_file) (extent_files t.streams) (result_files t.entries) is.own_files.given in
    all-at (λ (other : PlainEntry). IsGiven t.next_file other.file.file) t.entries e (all-mapped (IsGiven t.next_file) (λ (other : PlainEntry). other.file.file) t.entries given.1) has

pub result-own : (t : Table) (e other : PlainEntry) → IsTable t → Contains t.entries e → Contains t.entries other → e.file.file ≡ other.file.file → e ≡ other
result-own t e other is has also same =
    one-file t.entries e other (distinct-parts (extent_files t.streams) (result_files t.entries) is.own_files.differ).1 has also same

pub result-apart : (t : Table) (e : PlainEntry) (stream : StreamState) (extent : Extent) → IsTable t → Contains t.entries e → Contains t.streams stream → Contains stream.extents extent → e.file.file ≢ extent.file.file
result-apart t e stream extent is has of_table of_stream =
    let results = result_files t.entries in
    let apart = all-extents (IsNoneOf results) t.streams (distinct-parts (extent_files t.streams) results is.own_files.differ).2 in
    let of_one = all-at (λ (s : StreamState). AllByRecursion (λ (other : Extent). IsNoneOf results other.file.file) s.extents) t.streams stream apart of_table in
    let others = all-at (λ (other : Extent). IsNoneOf results other.file.file) stream.extents extent of_one of_stream in
    let differs = all-at (λ (other : PlainEntry). (extent.file.file == other.file.file) ≡ false) t.entries e (all-mapped (λ other. (extent.file.file == other) ≡ false) (λ (other : PlainEntry). other.file.file) t.entries others) has in
    λ same. eqb-false extent.file.file e.file.file differs (sym same)
