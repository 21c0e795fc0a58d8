-- Files that are read one after another.
use Rattle.std.proofs.Common.{◌≡◌, ◌≢◌, refl, sym, ap, ◌∙◌, subst, ℕ, ◌+◌, ◌<◌, ◌≤◌, ◌^◌, ◌-◌, min, Bool, List, [], ◌∷◌, ◌++◌, length, take, IsTrue, append_assoc, sum_by, arith}
use Rattle.std.specs.List.{AllByRecursion}
use Rattle.std.proofs.lemmas.List.{append-nil, length-take}
use Rattle.std.proofs.lemmas.List.Sums.{sum_by-append, sum_by_push}
use Rattle.rows_core.specs.declared.file_ref.FileRef.{FileRef}
use Rattle.row_blob.specs.Spelling.{kept_spelling}
use Rattle.row_blob.specs.declared.kept.Kept.{Kept}
use Rattle.row_blob.specs.declared.shape.Shape.{Shape}
use Rattle.estimator.specs.Bytes.{capped}
use Rattle.outside_traits.specs.View.{View, Counts}
use Rattle.outside_traits.specs.Calls.{CountsTaken, MayRaiseReads, Idles}
use Rattle.plan_core.specs.PlainPlan.{leaves}
use Rattle.plan_core.specs.PlanTyping.{Kinds}
use Rattle.rewrite_core.specs.Files.{FileName}
use Rattle.growth_laws.specs.KeptResults.{KeptResults}
use Rattle.growth_laws.specs.Lists.{Extents}
use Rattle.growth_laws.specs.Pieces.{Piece, Entry, Gathered}
use Rattle.executor.specs.Progress.{left_in, ArePartsOf, HaveRead}
use Rattle.executor.specs.Reads.{HoldsOnly}
use Rattle.executor.specs.Running.{held_bytes, HaveTaken, TookAtMost, kept_bytes, ReadsOn}
use Rattle.executor.specs.Sources.{sources, HoldsPiece, HoldFiles, HasTaken}
use Rattle.executor.specs.declared.part.Part.{Part}

-- ---- what was taken

pub rises_on : (old half new : Counts) → MayRaiseReads old half → MayRaiseReads half new → MayRaiseReads old new
rises_on old half new first then =
    let a : old.reads ≤ half.reads = first.reads in let b : half.reads ≤ new.reads = then.reads in
    let d : old.taken ≤ half.taken = first.taken in let e : half.taken ≤ new.taken = then.taken in
    record { reads = omega (arith, a, b); writes = then.writes ∙ first.writes; removes = then.removes ∙ first.removes; taken = omega (arith, d, e) }

taken_on : (names : List FileName) (extents : Extents) (results : KeptResults) (name : FileName) (old half new : Counts) → HaveTaken extents results names old half → HasTaken extents results name half new
    → HaveTaken extents results (names ++ name ∷ []) old new
taken_on [] extents results name old half new before now =
    let one : sum_by (held_bytes extents results) (name ∷ []) ≡ 0 + held_bytes extents results name = refl in
    let same : half.taken ≡ old.taken = before in
    let taken : new.taken ≡ min (half.taken + held_bytes extents results name) (2 ^ 64 - 1) = now in omega (arith, one, same, taken)
taken_on (n ∷ names) extents results name old half new before now =
    let more : sum_by (held_bytes extents results) (n ∷ (names ++ name ∷ [])) ≡ sum_by (held_bytes extents results) (n ∷ names) + held_bytes extents results name =
    sum_by_push (held_bytes extents results) (n ∷ names) name in
    let same : half.taken ≡ min (old.taken + sum_by (held_bytes extents results) (n ∷ names)) (2 ^ 64 - 1) = before in
    let taken : new.taken ≡ min (half.taken + held_bytes extents results name) (2 ^ 64 - 1) = now in omega (arith, more, same, taken)

most_on : (places : FileName → FileRef) (names : List FileName) (name : FileName) (old half new : Counts) → TookAtMost (kept_bytes places names) old half → TookAtMost (places name).len half new
    → TookAtMost (kept_bytes places (names ++ name ∷ [])) old new
most_on places names name old half new before now =
    let len : FileName → ℕ = λ (n : FileName). (places n).len in
    let more : kept_bytes places (names ++ name ∷ []) ≡ kept_bytes places names + (places name).len = sum_by_push len names name in
    let first : half.taken ≤ old.taken + kept_bytes places names = before in
    let then : new.taken ≤ half.taken + (places name).len = now in omega (arith, more, first, then)

-- and no more than count of all files
pub most_of_all : (places : FileName → FileRef) (all names : List FileName) (name : FileName) (others : List FileName) (old half new : Counts) → all ≡ names ++ name ∷ others
    → TookAtMost (kept_bytes places names) old half → TookAtMost (places name).len half new → TookAtMost (kept_bytes places all) old new
most_of_all places all names name others old half new split before now =
    let len : FileName → ℕ = λ (n : FileName). (places n).len in
    let regrouped : all ≡ (names ++ name ∷ []) ++ others = split ∙ sym (append_assoc names (name ∷ []) others) in
    let whole : kept_bytes places all ≡ kept_bytes places (names ++ name ∷ []) + kept_bytes places others =
    ap (kept_bytes places) regrouped ∙ sum_by-append len (names ++ name ∷ []) others in
    let front : new.taken ≤ old.taken + kept_bytes places (names ++ name ∷ []) = most_on places names name old half new before now in omega (arith, whole, front)

-- so many bytes are counted before a file is read
pub counted_yet : (places : FileName → FileRef) (all names : List FileName) (taken : ℕ) → taken < 2 ^ 64 → all ≡ names ++ all → taken ≡ capped (taken + kept_bytes places names)
counted_yet places all names taken fits split =
    let len : FileName → ℕ = λ (n : FileName). (places n).len in
    let none : kept_bytes places all ≡ kept_bytes places names + kept_bytes places all = ap (kept_bytes places) split ∙ sum_by-append len names all in omega (arith, fits, none)

-- and when one more is read
pub counted_on : (places : FileName → FileRef) (all front names : List FileName) (name : FileName) (others : List FileName) (before half taken : ℕ) → all ≡ front ++ name ∷ others → all ≡ names ++ others
    → half ≡ capped (before + kept_bytes places front) → taken ≡ capped (half + (places name).len) → taken ≡ capped (before + kept_bytes places names)
counted_on places all front names name others before half taken split as_split first then =
    let len : FileName → ℕ = λ (n : FileName). (places n).len in
    let regrouped : all ≡ (front ++ name ∷ []) ++ others = split ∙ sym (append_assoc front (name ∷ []) others) in
    let more : kept_bytes places (front ++ name ∷ []) ≡ kept_bytes places front + (places name).len = sum_by_push len front name in
    let whole : kept_bytes places all ≡ kept_bytes places (front ++ name ∷ []) + kept_bytes places others =
    ap (kept_bytes places) regrouped ∙ sum_by-append len (front ++ name ∷ []) others in
    let as_whole : kept_bytes places all ≡ kept_bytes places names + kept_bytes places others = ap (kept_bytes places) as_split ∙ sum_by-append len names others in
    omega (arith, more, whole, as_whole, first, then)

pub most_at_end : (places : FileName → FileRef) (all names left : List FileName) (old new : Counts) → all ≡ names ++ left → left ≡ [] → TookAtMost (kept_bytes places names) old new → TookAtMost (kept_bytes places all) old new
most_at_end places all names left old new split none most =
    let same : all ≡ names = split ∙ ap (λ (l : List FileName). names ++ l) none ∙ append-nil names in subst (λ (l : List FileName). TookAtMost (kept_bytes places l) old new) (sym same) most

-- bytes that spell what was read are no more than count of the file
pub took_spelled : (len : ℕ) (file : List ℕ) (form : Kept) (old new : Counts) → take len file ≡ kept_spelling form → CountsTaken (length (kept_spelling form)) old new → TookAtMost len old new
took_spelled len file form old new spelled now =
    let bytes : min len (length file) ≡ length (kept_spelling form) = sym (length-take len file) ∙ ap length spelled in
    let taken : new.taken ≡ min (old.taken + length (kept_spelling form)) (2 ^ 64 - 1) = now in omega (arith, bytes, taken)

-- ---- files that read the same hold the same

module _ (tells : Bool) (files later : ℕ → List ℕ) (places : FileName → FileRef) (machines : ℕ → ℕ) (schemas : List Kinds) (same : (g : ℕ) → later g ≡ files g) where
  only : (shape : Shape) (at : FileRef) (form : Kept) → HoldsOnly tells shape at (files at.file) form → HoldsOnly tells shape at (later at.file) form
  only shape at form holds = subst (λ (bytes : List ℕ). HoldsOnly tells shape at bytes form) (sym (same at.file)) holds

  piece_held : (extents : Extents) (results : KeptResults) (piece : Piece) → HoldsPiece (sources tells files places machines schemas) extents results piece
      → HoldsPiece (sources tells later places machines schemas) extents results piece
  piece_held extents results (Entry plan id) holds = (only _ _ _ holds.0, holds.1)
  piece_held extents results (Gathered plan cuts) holds = λ (stream : ℕ) (of_stream : leaves plan ≡ stream ∷ []).
      let held = holds stream of_stream in (held.0, held.1, (λ (number : ℕ) (low : held.0.from ≤ number) (high : number < held.0.to). only _ _ _ (held.2 number low high)))

  all_held : (extents : Extents) (results : KeptResults) (pieces : List Piece) → HoldFiles (sources tells files places machines schemas) extents results pieces
      → HoldFiles (sources tells later places machines schemas) extents results pieces
  all_held extents results [] hold = tt
  all_held extents results (piece ∷ pieces) hold = (piece_held extents results piece hold.0, all_held extents results pieces hold.1)

  -- one more
  pub reads_more : (before mid after : List Part) (old half new : Counts) → ReadsOn (sources tells files places machines schemas) before mid old half
      → (name : FileName) × (left_in mid ≡ name ∷ left_in after)
      → ((pieces : List Piece) → ArePartsOf schemas pieces mid → ArePartsOf schemas pieces after)
      → ((extents : Extents) (results : KeptResults) (pieces : List Piece) (name : FileName) (others : List FileName) → left_in mid ≡ name ∷ others
      → HoldFiles (sources tells later places machines schemas) extents results pieces → ArePartsOf schemas pieces mid → HaveRead schemas extents results pieces mid
      → HaveRead schemas extents results pieces after × HasTaken extents results name half new)
      → ((name : FileName) (others : List FileName) → left_in mid ≡ name ∷ others → IsTrue tells → TookAtMost (places name).len half new)
      → new.reads ≡ half.reads → MayRaiseReads half new → ReadsOn (sources tells files places machines schemas) before after old new
  reads_more before mid after old half new so_far next parts read most no_fault counts = record {
    names = so_far.names ++ next.0 ∷ [];
    left = so_far.left ∙ ap (λ (l : List FileName). so_far.names ++ l) next.1 ∙ sym (append_assoc so_far.names (next.0 ∷ []) (left_in after));
    parts = λ (pieces : List Piece) (are : ArePartsOf schemas pieces before). parts pieces (so_far.parts pieces are);
    read = λ (extents : Extents) (results : KeptResults) (pieces : List Piece) hold are have.
        let then = so_far.read extents results pieces hold are have in
        let now = read extents results pieces next.0 (left_in after) next.1 (all_held extents results pieces hold) (so_far.parts pieces are) then.0 in
        (now.0, taken_on so_far.names extents results next.0 old half new then.1 now.1);
    most = λ (told : IsTrue tells). most_on places so_far.names next.0 old half new (so_far.most told) (most next.0 (left_in after) next.1 told);
    no_fault = no_fault ∙ so_far.no_fault;
    counts = rises_on old half new so_far.counts counts;
  }

pub none_yet : (tells : Bool) (files : ℕ → List ℕ) (places : FileName → FileRef) (machines : ℕ → ℕ) (schemas : List Kinds) (parts : List Part) (counts : Counts)
    → ReadsOn (sources tells files places machines schemas) parts parts counts counts
none_yet tells files places machines schemas parts counts = record {
  names = [];
  left = refl;
  parts = λ (pieces : List Piece) are. are;
  read = λ (extents : Extents) (results : KeptResults) (pieces : List Piece) hold are have. (have, refl);
  most = λ (told : IsTrue tells). omega arith;
  no_fault = refl;
  counts = record { reads = omega arith; writes = refl; removes = refl; taken = omega arith };
}

pub rest_there : (Has : FileName → Type 0) (all names left : List FileName) → all ≡ names ++ left → AllByRecursion Has all → AllByRecursion Has left
rest_there Has all names left split there = behind names left (subst (AllByRecursion Has) split there)
  where
    behind : (names left : List FileName) → AllByRecursion Has (names ++ left) → AllByRecursion Has left
    behind [] left there = there
    behind (name ∷ names) left there = behind names left there.1

pub one_shorter : (before after : List FileName) (name : FileName) → before ≡ name ∷ after → length after < length before
one_shorter before after name is = let l : length before ≡ length (name ∷ after) = ap length is in omega (arith, l)

-- as many as are left, by their count
pub some_left : (names : List FileName) (n : ℕ) → n ≡ capped (length names) → 0 < n → names ≢ []
some_left names n is above none =
    let count : length names ≡ 0 = ap length none in let capped_count : n ≡ min (length names) (2 ^ 64 - 1) = is in omega (arith, count, capped_count, above)

pub none_left : (names : List FileName) (n : ℕ) → n ≡ capped (length names) → n ≤ 0 → names ≡ []
none_left [] n is low = refl
none_left (name ∷ names) n is low = absurd (let capped_count : n ≡ min (length (name ∷ names)) (2 ^ 64 - 1) = is in omega (arith, capped_count, low))

-- where nothing was called, nothing changed
pub idles_yet : (v : View) → Idles v v
idles_yet v = record {
  time = record { later = omega arith; kept = λ k file x before left. left; no_more = λ k file x before left. left };
  same = λ g. refl;
  same_there = λ g. refl;
  no_more = λ k g x later high. absurd (omega (arith, later, high));
  kept = λ g x now. now;
}
