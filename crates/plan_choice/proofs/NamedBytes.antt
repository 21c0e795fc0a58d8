-- The bytes that a rewriting reads are those of the files that it names.
use Rattle.std.proofs.Common.{◌≡◌, ◌≢◌, refl, sym, ap, subst, ◌∙◌, ℕ, zero, suc, ◌+◌, ◌-◌, ◌<◌, ◌≤◌, List, [], ◌∷◌, ◌++◌, length, take, drop, arith}
use Rattle.std.specs.Prelude.{slice_index}
use Rattle.std.specs.List.{Contains, sum, sum_by}
use Rattle.std.proofs.lemmas.List.{drop_more}
use Rattle.std.proofs.lemmas.List.Sums.{sum_by-append, sum_by-cons}
use Rattle.plan_core.specs.PlainPlan.{PlainPlan}
use Rattle.plan_core.specs.PlainPlan as plan
use Rattle.estimator.specs.Bytes.{Lengths, interval_bytes, lengths_at, whole_bytes, new_bytes, IsCutOf}
use Rattle.estimator.specs.Cuts.{Cuts, added_cut}
use Rattle.rewrite_core.specs.Entries.{Entry, Entries, entry_of}
use Rattle.rewrite_core.specs.Files.{FileName, Extent, Result, extents_from, scan_files, new_files, files_of, way_files, delta_files, delta_way_files}
use Rattle.rewrite_core.specs.IsRewriting.{IsRewriting, IsWay, IsDelta, IsDeltaWay, IsScan, lefts, rights, among}
use Rattle.rewrite_core.specs.PlainRewriting.{PlainRewriting, Node, PlainWay, Scan, One, Two, Read, Tail, LeftGrew, RightGrew, BothGrew, PlainDelta, Change, PlainDeltaWay, Unchanged, NewRows, OfChild, OfDistinct, OfJoin}
use Rattle.rewriter.specs.InStreams.{AreCutsOf, IsInStreams, IsWayInStreams, IsDeltaInStreams, IsDeltaWayInStreams}
use Rattle.rewriter.specs.Reads.{reads_of, way_reads, delta_reads, delta_way_reads}
use Rattle.growth_laws.proofs.TreeOwners.{from_one, from_two, from_sides, from_tail, from_delta_tail, from_distinct}

-- ---- sums of equal parts

nothing_behind : (a b : ℕ) → a ≡ b → a + 0 ≡ b
nothing_behind a b is = omega (arith, is)

nothing_more : (a b : ℕ) → a ≡ b → a ≡ b + 0
nothing_more a b is = omega (arith, is)

of_one_more : (a b x y : ℕ) → a ≡ x → b ≡ y → a + b ≡ x + y
of_one_more a b x y first rest = λ i. first i + rest i

of_two_more : (a b c x y : ℕ) → a ≡ x → b + c ≡ y → a + b + c ≡ x + y
of_two_more a b c x y first rest = omega (arith, first, rest)

of_four_more : (a b c d e x y : ℕ) → a ≡ x → b + c + d + e ≡ y → a + b + c + d + e ≡ x + y
of_four_more a b c d e x y first rest = omega (arith, first, rest)

-- ---- files whose lengths are told: those of extents as lists, those of kept results by their entries

module _ (lengths : Lengths) (entries : Entries) (len : FileName → ℕ)
    (extents : (stream number : ℕ) → number < length (lengths_at lengths stream) → slice_index (lengths_at lengths stream) number ≡ len (Extent stream number))
    (results : (e : Entry) → Contains entries e → len (Result e.id) ≡ e.len) where
  -- the bytes of extents that are there
  extent_bytes : (stream number count : ℕ) → number + count ≤ length (lengths_at lengths stream) → sum (take count (drop number (lengths_at lengths stream))) ≡ sum_by len (extents_from stream number count)
  extent_bytes stream number zero fits = refl
  extent_bytes stream number (suc count) fits =
      let lens = lengths_at lengths stream in
      let here : number < length lens = omega (arith, fits) in
      let behind : List ℕ = drop (number + 1) lens in
      ap (λ l. sum (take (suc count) l)) (drop_more lens number 0 here)
      ∙ sum_by-cons (λ n. n) (slice_index lens number) (take count behind)
      ∙ of_one_more _ _ _ _ (extents stream number here) (extent_bytes stream (number + 1) count (omega (arith, fits)))
      ∙ sym (sum_by-cons len (Extent stream number) (extents_from stream (number + 1) count))

  scan_bytes : (p : PlainPlan) (c : Cuts) → IsScan p → IsCutOf lengths p c → whole_bytes lengths p c ≡ sum_by len (scan_files p c)
  scan_bytes (plan.Scan stream) [] is within = absurd within
  scan_bytes (plan.Scan stream) (cut ∷ []) is within =
      nothing_behind (interval_bytes (lengths_at lengths stream) cut) (sum_by len (extents_from stream cut.from (cut.to - cut.from))) (extent_bytes stream cut.from (cut.to - cut.from) (omega (arith, within.0, within.1)))
  scan_bytes (plan.Scan stream) (cut ∷ next ∷ cuts) is within = absurd within.2
  scan_bytes _ c is within = absurd is

  new_file_bytes : (p : PlainPlan) (old new : Cuts) → IsScan p → AreCutsOf lengths p old new → new_bytes lengths p old new ≡ sum_by len (new_files p old new)
  new_file_bytes (plan.Scan stream) [] new is cuts = absurd cuts.before
  new_file_bytes (plan.Scan stream) (o ∷ []) [] is cuts = absurd cuts.after
  new_file_bytes (plan.Scan stream) (o ∷ []) (n ∷ []) is cuts =
      let grows = cuts.grows.0 in
      let there = cuts.after.1 in
      nothing_behind (interval_bytes (lengths_at lengths stream) (added_cut o n)) (sum_by len (extents_from stream o.to (n.to - o.to))) (extent_bytes stream o.to (n.to - o.to) (omega (arith, grows, there)))
  new_file_bytes (plan.Scan stream) (o ∷ []) (n ∷ next ∷ news) is cuts = absurd cuts.after.2
  new_file_bytes (plan.Scan stream) (o ∷ next ∷ olds) new is cuts = absurd cuts.before.2
  new_file_bytes _ old new is cuts = absurd is

  -- of two lists, and of a kept result in front of others
  both : (a b : ℕ) (xs ys : List FileName) → a ≡ sum_by len xs → b ≡ sum_by len ys → a + b ≡ sum_by len (xs ++ ys)
  both a b xs ys first second = of_one_more a b _ _ first second ∙ sym (sum_by-append len xs ys)

  in_front : (n id : ℕ) (xs : List FileName) → n ≡ len (Result id) + sum_by len xs → n ≡ sum_by len (Result id ∷ xs)
  in_front n id xs is = is ∙ sym (sum_by-cons len (Result id) xs)

  -- ---- whole trees

  mutual
    pub reads_are : (r : PlainRewriting) (q : PlainPlan) (c : Cuts) → IsRewriting (among entries) q c r → IsInStreams lengths r → reads_of lengths r ≡ sum_by len (files_of r)
    reads_are (Node p cuts way) q c is within = way_reads_are way p cuts q c is.0 is.2 within.0 within.1

    way_reads_are : (way : PlainWay) (p : PlainPlan) (cuts : Cuts) (q : PlainPlan) (c : Cuts) → p ≡ q → IsWay (among entries) q c way → IsCutOf lengths p cuts → IsWayInStreams lengths p cuts way
        → way_reads lengths p cuts way ≡ sum_by len (way_files p cuts way)
    way_reads_are Scan p cuts q c same is cut within = scan_bytes p cuts (subst IsScan (sym same) is) cut
    way_reads_are (One r) p cuts q c same is cut within =
        from_one (λ child. IsRewriting (among entries) child c r) (reads_of lengths r ≡ sum_by len (files_of r)) (λ child of. reads_are r child c of within) q is
    way_reads_are (Two l r) p cuts q c same is cut within =
        from_two (λ left right. IsRewriting (among entries) left (lefts left c) l × IsRewriting (among entries) right (rights left c) r)
        (reads_of lengths l + reads_of lengths r ≡ sum_by len (files_of l ++ files_of r))
        (λ left right of. both _ _ (files_of l) (files_of r) (reads_are l left (lefts left c) of.0 within.0) (reads_are r right (rights left c) of.1 within.1)) q is
    way_reads_are (Read hit) p cuts q c same is cut within = in_front hit.len hit.id [] (nothing_more hit.len (len (Result hit.id)) (sym (results (entry_of q hit) is.kept)))
    way_reads_are (Tail hit d) p cuts q c same is cut within =
        from_tail (λ child o n. IsDelta (among entries) child o n d) (hit.len + delta_reads lengths d ≡ sum_by len (Result hit.id ∷ delta_files d))
        (λ child o n of. in_front _ hit.id (delta_files d)
        (of_one_more _ _ _ _ (sym (results (entry_of q hit) is.0.candidate.kept)) (delta_reads_are d child o n of within.1))) hit.cuts c q is.1
    way_reads_are (LeftGrew hit d r) p cuts q c same is cut within =
        from_sides (λ left right. (rights left hit.cuts ≡ rights left c) × IsDelta (among entries) left (lefts left hit.cuts) (lefts left c) d × IsRewriting (among entries) right (rights left c) r)
        (hit.len + delta_reads lengths d + reads_of lengths r ≡ sum_by len (Result hit.id ∷ (delta_files d ++ files_of r)))
        (λ left right of. in_front _ hit.id (delta_files d ++ files_of r)
        (of_two_more _ _ _ _ _ (sym (results (entry_of q hit) is.0.candidate.kept))
        (both _ _ (delta_files d) (files_of r) (delta_reads_are d left (lefts left hit.cuts) (lefts left c) of.1 within.1) (reads_are r right (rights left c) of.2 within.2)))) q is.1
    way_reads_are (RightGrew hit l d) p cuts q c same is cut within =
        from_sides (λ left right. (lefts left hit.cuts ≡ lefts left c) × IsRewriting (among entries) left (lefts left c) l × IsDelta (among entries) right (rights left hit.cuts) (rights left c) d)
        (hit.len + reads_of lengths l + delta_reads lengths d ≡ sum_by len (Result hit.id ∷ (files_of l ++ delta_files d)))
        (λ left right of. in_front _ hit.id (files_of l ++ delta_files d)
        (of_two_more _ _ _ _ _ (sym (results (entry_of q hit) is.0.candidate.kept))
        (both _ _ (files_of l) (delta_files d) (reads_are l left (lefts left c) of.1 within.1) (delta_reads_are d right (rights left hit.cuts) (rights left c) of.2 within.2)))) q is.1
    way_reads_are (BothGrew hit l rd ld r) p cuts q c same is cut within =
        from_sides (λ left right. (lefts left hit.cuts ≢ lefts left c) × (rights left hit.cuts ≢ rights left c)
        × IsRewriting (among entries) left (lefts left hit.cuts) l × IsDelta (among entries) right (rights left hit.cuts) (rights left c) rd
        × IsDelta (among entries) left (lefts left hit.cuts) (lefts left c) ld × IsRewriting (among entries) right (rights left c) r)
        (hit.len + reads_of lengths l + delta_reads lengths rd + delta_reads lengths ld + reads_of lengths r
        ≡ sum_by len (Result hit.id ∷ (files_of l ++ delta_files rd ++ delta_files ld ++ files_of r)))
        (λ left right of. in_front _ hit.id (files_of l ++ delta_files rd ++ delta_files ld ++ files_of r)
        (of_four_more _ _ _ _ _ _ _ (sym (results (entry_of q hit) is.0.candidate.kept))
        (both _ _ (files_of l ++ delta_files rd ++ delta_files ld) (files_of r)
        (both _ _ (files_of l ++ delta_files rd) (delta_files ld)
        (both _ _ (files_of l) (delta_files rd) (reads_are l left (lefts left hit.cuts) of.2 within.1)
        (delta_reads_are rd right (rights left hit.cuts) (rights left c) of.3 within.2))
        (delta_reads_are ld left (lefts left hit.cuts) (lefts left c) of.4 within.3))
        (reads_are r right (rights left c) of.5 within.4)))) q is.1

    delta_reads_are : (d : PlainDelta) (q : PlainPlan) (old new : Cuts) → IsDelta (among entries) q old new d → IsDeltaInStreams lengths d → delta_reads lengths d ≡ sum_by len (delta_files d)
    delta_reads_are (Change p o n way) q old new is within = delta_way_reads_are way p o n q old new is.0 is.3 within.0 within.1

    delta_way_reads_are : (way : PlainDeltaWay) (p : PlainPlan) (o n : Cuts) (q : PlainPlan) (old new : Cuts) → p ≡ q → IsDeltaWay (among entries) q old new way → AreCutsOf lengths p o n
        → IsDeltaWayInStreams lengths p o n way → delta_way_reads lengths p o n way ≡ sum_by len (delta_way_files p o n way)
    delta_way_reads_are Unchanged p o n q old new same is cuts within = refl
    delta_way_reads_are NewRows p o n q old new same is cuts within = new_file_bytes p o n (subst IsScan (sym same) is.0) cuts
    delta_way_reads_are (OfChild d) p o n q old new same is cuts within =
        from_delta_tail (λ child a b. IsDelta (among entries) child a b d) (delta_reads lengths d ≡ sum_by len (delta_files d)) (λ child a b of. delta_reads_are d child a b of within) old new q is.1
    delta_way_reads_are (OfDistinct r d) p o n q old new same is cuts within =
        from_distinct (λ child. IsDelta (among entries) child old new d) (reads_of lengths r + delta_reads lengths d ≡ sum_by len (files_of r ++ delta_files d))
        (λ child of. both _ _ (files_of r) (delta_files d) (reads_are r q old is.1 within.0) (delta_reads_are d child old new of within.1)) q is.2
    delta_way_reads_are (OfJoin d r) p o n q old new same is cuts within =
        from_sides (λ left right. (rights left old ≡ rights left new) × IsDelta (among entries) left (lefts left old) (lefts left new) d × IsRewriting (among entries) right (rights left new) r)
        (delta_reads lengths d + reads_of lengths r ≡ sum_by len (delta_files d ++ files_of r))
        (λ left right of. both _ _ (delta_files d) (files_of r) (delta_reads_are d left (lefts left old) (lefts left new) of.1 within.0) (reads_are r right (rights left new) of.2 within.1)) q is.1
