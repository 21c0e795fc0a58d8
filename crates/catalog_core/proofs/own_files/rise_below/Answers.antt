use Rattle.std.proofs.Common.{◌≡◌, refl, sym, ap, subst, ◌∙◌, ℕ, suc, ◌+◌, ◌<◌, ◌≤◌, List, [], ◌∷◌, ◌++◌, length, slice_index_or, take, drop, drop-cons, arith}
use Rattle.std.proofs.lemmas.List.{take_more, take_all, take-append-drop}
use Rattle.catalog_core.proofs.Rising.{IsLast, RiseBelow, rise-more, last-more, no-rise, rise-is, rise-of}
use Rattle.catalog_core.proofs.own_files.rise_below.Goals.{then-file-last-via-then-file-last, then-file-last-via-else-file-last+then-next-file}
use Rattle.catalog_core.proofs.own_files.rise_below.Goals as goal

pub returns-then-file-last : goal.returns-then-file-last
returns-then-file-last c =
    let files = c.args.files.now in
    let i = c.loop-file.file-index in
    let last = c.loop-file.last in
    let next = c.args.next in
    let low : i < length files = omega (arith, c.loop-file-test.true) in
    let x : ℕ = slice_index_or files i 0 in
    let whole : files ≡ take i files ++ x ∷ drop (suc i) files = sym (take-append-drop i files) ∙ ap (λ (l : List ℕ). take i files ++ l) (drop-cons files i 0 low) in
    let wrong : last < x → x < next → ⊥ =
    elim c.then-file-last.branch [
      | then-file-last-via-then-file-last w ↦ (λ above below. omega (arith, w.if-file-last.true, above))
      | then-file-last-via-else-file-last+then-next-file w ↦ (λ above below. omega (arith, w.if-next-file.true, below))
    ] in
    (λ e. absurd (cc), λ is. absurd (no-rise next 0 last x (take i files) (drop (suc i) files) c.loop-file.invariant.is_last wrong (subst (RiseBelow next 0) whole (rise-of next files is))))

pub loop-file-preserved : goal.loop-file-preserved
loop-file-preserved c =
    let files = c.args.files.now in
    let i = c.loop-file.file-index in
    let low : i < length files = omega (arith, c.loop-file-test.true) in
    let x : ℕ = slice_index_or files i 0 in
    let more : take (i + 1) files ≡ take i files ++ x ∷ [] = take_more files i 0 low in
    record {
      rise = subst (RiseBelow c.args.next 0) (sym more)
          (rise-more c.args.next 0 c.loop-file.last x (take i files) c.loop-file.invariant.rise c.loop-file.invariant.is_last (omega (arith, c.if-file-last.false)) (omega (arith, c.if-next-file.false)));
      is_last = subst (IsLast x 0) (sym more) (last-more 0 x (take i files));
    }

pub returns : goal.returns
returns c =
    let files = c.args.files.now in
    let i = c.loop-file.file-index in
    let past : length files ≤ i = omega (arith, c.loop-file-test.false) in
    (λ _. rise-is c.args.next files (subst (RiseBelow c.args.next 0) (take_all i files past) c.loop-file.invariant.rise), λ _. refl)
