-- On the words of a line.
use Rattle.std.proofs.Common.{◌≡◌, ℕ, true, false, cond, ◌&&◌, nat_eq, List, [], ◌∷◌, length, take, drop, Some, None, refl}
use Rattle.std.specs.Cmp.Lexicographic.{pointwise}
use Rattle.script_text.specs.Words.{behind_word, ends_word}

-- what stands behind a word, by the word's length
pub behind_word-value : (word text : List ℕ) → behind_word word text ≡ cond (pointwise nat_eq (take (length word) text) word) (cond (ends_word (drop (length word) text)) (Some (drop (length word) text)) None) None
behind_word-value [] text = refl
behind_word-value (w ∷ ws) [] = refl
behind_word-value (w ∷ ws) (c ∷ cs) =
    elim (nat_eq c w) as (λ b. cond b (behind_word ws cs) None ≡ cond (b && pointwise nat_eq (take (length ws) cs) ws) (cond (ends_word (drop (length ws) cs)) (Some (drop (length ws) cs)) None) None) [
      | true ↦ behind_word-value ws cs
      | false ↦ refl
    ]
