-- Worked searches over one kept result: of a window with the same beginning the least rewriting grows it, and of one that begins elsewhere it computes.
use Rattle.std.proofs.Common.{◌≡◌, ◌≢◌, ◌≤◌, inl, inr, [], refl, sym, ap, ◌∙◌, subst, length, arith}
use Rattle.std.specs.List.{Contains}
use Rattle.plan_core.specs.Nesting.{node_count}
use Rattle.plan_core.specs.PlainPlan.{leaf_count}
use Rattle.estimator.specs.Cuts.{Cuts, AreIntervals}
use Rattle.rewrite_core.specs.declared.rewriting.Hit.{Hit}
use Rattle.rewrite_core.specs.Entries.{Entry, Entries, entry_of, AreSound, IsWhole}
use Rattle.rewrite_core.specs.Estimate.{estimate_of, IsLeast}
use Rattle.rewrite_core.specs.Examples.{lengths, scan, times_ten, window, kept_at, only_at, grown_from}
use Rattle.rewrite_core.specs.IsRewriting.{among}
use Rattle.rewrite_core.specs.PlainRewriting.{PlainRewriting, Node, Scan, One, Change, NewRows}
use Rattle.rewrite_core.proofs.Examples.{apart, window_is_earlier, window_is_grown, moved_is_earlier, no_delta_of_moved}
use Rattle.rewrite_core.proofs.Looking.{Contains-cons_cases, Contains-none}
use Rattle.rewriter.specs.Forms.{IsComputed, IsRead, IsLeastOf, HasNone}
use Rattle.rewriter.proofs.LeastParts.{computed_scan, computed_one, read_none, grown_no_scan, grown_one, grown_one_none, delta_scan, least_of_forms}

-- ---- the one entry

only : (old : Cuts) (e : Entry) → Contains (only_at old) e → entry_of times_ten (kept_at old) ≡ e
only old e has = elim (Contains-cons_cases (entry_of times_ten (kept_at old)) [] e has) [
  | inl first ↦ first
  | inr behind ↦ absurd (Contains-none e behind)
]

sound : (old : Cuts) → AreIntervals old → length old ≡ 1 → AreSound (only_at old)
sound old are one = record {
  ids = λ e f first second same. sym (only old e first) ∙ only old f second;
  places = λ e f first second plans cuts. sym (only old e first) ∙ only old f second;
  intervals = λ e has. subst (λ (x : Entry). AreIntervals x.cuts) (only old e has) are;
  leaves = λ e has. subst (λ (x : Entry). length x.cuts ≡ leaf_count x.plan) (only old e has) one;
}

-- nothing is kept of the stream, nor of the projection at this window
no_scan_kept : (old : Cuts) (hit : Hit) → IsWhole (only_at old) scan (window 1 3) hit → ⊥
no_scan_kept old hit is =
    let same : 2 ≡ 1 = ap (λ (x : Entry). node_count x.plan) (only old (entry_of scan hit) is.kept) in absurd (omega (arith, same))

none_read : (old : Cuts) → old ≢ window 1 3 → HasNone IsRead (only_at old) times_ten (window 1 3)
none_read old other = read_none (only_at old) lengths times_ten (window 1 3)
    (λ hit is. other (ap (λ (x : Entry). x.cuts) (only old (entry_of times_ten hit) is.kept) ∙ is.here))

-- ---- what computes

abbrev scanned : PlainRewriting
scanned = Node scan (window 1 3) Scan

abbrev projected : PlainRewriting
projected = Node times_ten (window 1 3) (One scanned)

scan_is_least : (old : Cuts) → IsLeast (only_at old) lengths scan (window 1 3) scanned
scan_is_least old =
    let entries : Entries = only_at old in
    let best : IsLeastOf IsComputed entries lengths scan (window 1 3) scanned = computed_scan entries lengths scan (window 1 3) tt in
    least_of_forms entries lengths scan (window 1 3) scanned best.is best.least
    (λ other is form. absurd (read_none entries lengths scan (window 1 3) (no_scan_kept old) other is form))
    (λ other is form. absurd (grown_no_scan entries lengths scan (window 1 3) tt other is form))

best_computed : (old : Cuts) → IsLeastOf IsComputed (only_at old) lengths times_ten (window 1 3) projected
best_computed old = computed_one (only_at old) lengths times_ten (window 1 3) scan scanned refl (scan_is_least old)

-- ---- the least rewritings

pub window_is_least : IsLeast (only_at (window 1 2)) lengths times_ten (window 1 3) (grown_from (window 1 2))
window_is_least =
    let entries : Entries = only_at (window 1 2) in
    let delta = delta_scan entries lengths scan (window 1 2) (window 1 3) tt (refl, omega arith) in
    let grown = grown_one entries (sound (window 1 2) (omega arith, tt) refl) lengths times_ten (window 1 3) (kept_at (window 1 2)) window_is_earlier scan (Change scan (window 1 2) (window 1 3) NewRows) refl delta in
    let own : estimate_of lengths (grown_from (window 1 2)) ≡ 56 = refl in
    least_of_forms entries lengths times_ten (window 1 3) (grown_from (window 1 2)) window_is_grown
    (λ other is form. let more : 96 ≤ estimate_of lengths other = (best_computed (window 1 2)).least other is form in omega (arith, own, more))
    (λ other is form. absurd (none_read (window 1 2) (apart (window 1 2) (window 1 3) (omega arith)) other is form)) grown.least

pub moved_is_computed : IsLeast (only_at (window 0 2)) lengths times_ten (window 1 3) projected
moved_is_computed =
    let entries : Entries = only_at (window 0 2) in
    let best = best_computed (window 0 2) in
    let never = grown_one_none entries (sound (window 0 2) (omega arith, tt) refl) lengths times_ten (window 1 3) (kept_at (window 0 2)) moved_is_earlier scan refl
    (λ d is. no_delta_of_moved (among entries) d (window 0 2) refl is) in
    least_of_forms entries lengths times_ten (window 1 3) projected best.is best.least
    (λ other is form. absurd (none_read (window 0 2) (apart (window 0 2) (window 1 3) (omega arith)) other is form)) (λ other is form. absurd (never other is form))
