-- The reader between the lines of a piece.
use Rattle.std.proofs.Common.{◌≡◌, ℕ, ◌+◌, ◌-◌, ◌<◌, ◌≤◌, List, [], ◌++◌, take, drop, length, sym, ap, ◌∙◌, subst, append_assoc, inl, inr, take-append-drop, length-drop, arith}
use Rattle.script_text.specs.Script.{items, Completes}
use Rattle.script_text.specs.Reader.{Stands}
use Rattle.script_text.specs.declared.item.Item.{Item}
use Rattle.script_text.specs.declared.lines.Lines.{Lines}
use Rattle.std.proofs.lemmas.List.{take-take, drop-take, take_all}
use Rattle.std.proofs.lemmas.Bool.{cases_lt}

-- so many bytes of the piece were taken, and no command ended in them
pub record TakesSoFar (old now : Lines) (piece : List ℕ) (taken : ℕ) : Type 0 where
  pub bound : taken ≤ length piece
  pub stands : (before : List ℕ) → Stands old before → Stands now (before ++ take taken piece)
  pub quiet : (before : List ℕ) → Stands old before → (k : ℕ) → k < taken → items (before ++ take k piece) ≡ []

-- the rest of a piece
pub rest_is : (piece : List ℕ) (taken : ℕ) → take (length piece - taken) (drop taken piece) ≡ drop taken piece
rest_is piece taken = take_all (length piece - taken) (drop taken piece) (omega (arith, length-drop taken piece))

-- the bytes so far, and the next
pub taken_next : (piece : List ℕ) (taken k : ℕ) → take taken piece ++ take k (take (length piece - taken) (drop taken piece)) ≡ take (taken + k) piece
taken_next piece taken k =
    ap (λ p. take taken piece ++ take k p) (rest_is piece taken) ∙ ap (λ p. take taken piece ++ p) (sym (drop-take taken k piece)) ∙ ap (λ p. p ++ drop taken (take (taken + k) piece)) (sym (take-take taken (taken + k) piece (omega arith))) ∙ take-append-drop taken (take (taken + k) piece)

joined : (before piece : List ℕ) (taken k : ℕ) → (before ++ take taken piece) ++ take k (take (length piece - taken) (drop taken piece)) ≡ before ++ take (taken + k) piece
joined before piece taken k = append_assoc before (take taken piece) (take k (take (length piece - taken) (drop taken piece))) ∙ ap (λ p. before ++ p) (taken_next piece taken k)

module _ (old now : Lines) (piece : List ℕ) (taken count : ℕ) (so_far : TakesSoFar old now piece taken) where
  abbrev part : List ℕ
  part = take (length piece - taken) (drop taken piece)

  -- a line further, no command has ended before its end
  pub quiet-more : ((before : List ℕ) → Stands now before → (k : ℕ) → k < count → items (before ++ take k part) ≡ [])
      → (before : List ℕ) → Stands old before → (k : ℕ) → k < taken + count → items (before ++ take k piece) ≡ []
  quiet-more quiet before stood k below = elim (cases_lt k taken) [
    | inl h ↦ so_far.quiet before stood k h
    | inr h ↦ (
        let same : taken + (k - taken) ≡ k = omega arith in
        ap (λ n. items (before ++ take n piece)) (sym same) ∙ ap items (sym (joined before piece taken (k - taken))) ∙ quiet (before ++ take taken piece) (so_far.stands before stood) (k - taken) (omega arith))
  ]

  pub TakesSoFar-more : (new : Lines) → count ≤ length part → ((before : List ℕ) → Stands now before → Stands new (before ++ take count part))
      → ((before : List ℕ) → Stands now before → (k : ℕ) → k < count → items (before ++ take k part) ≡ [])
      → TakesSoFar old new piece (taken + count)
  TakesSoFar-more new fits stands quiet = record {
    bound = omega (arith, fits, ap length (rest_is piece taken), length-drop taken piece, so_far.bound);
    stands = λ before stood. subst (Stands new) (joined before piece taken count) (stands (before ++ take taken piece) (so_far.stands before stood));
    quiet = quiet-more quiet;
  }

  -- a line further, a command has ended
  pub Completes-more : (new : Lines) (item : Item) → ((before : List ℕ) → Stands now before → Stands new [] × Completes (before ++ take count part) item)
      → (before : List ℕ) → Stands old before → Stands new [] × Completes (before ++ take (taken + count) piece) item
  Completes-more new item ended before stood =
      let h = ended (before ++ take taken piece) (so_far.stands before stood) in
      (h.0, subst (λ t. Completes t item) (joined before piece taken count) h.1)
