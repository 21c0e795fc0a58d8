-- How long the front of a log is.
use Rattle.std.proofs.Common.{◌≡◌, ℕ, ◌+◌, ◌<◌, ◌≤◌, List, [], ◌∷◌, ◌++◌, length, take, drop, get_or, refl, sym, ap, ◌∙◌, arith, length-append, append_assoc, take-append-drop}
use Rattle.std.specs.Prelude.{Vec}
use Rattle.std.specs.declared.alloc.Global.{Global}
use Rattle.std.proofs.lemmas.List.{take_more, map-append}
use Rattle.gated_log.specs.Logs.{spelled, blocks, front, contents}
use Rattle.gated_log.proofs.Crash.{length-front_push}

-- one body more
pub length-front_more : (vecs : List (Vec ℕ Global)) (i : ℕ) (v : Vec ℕ Global) → i < length vecs → v ≡ get_or vecs i v
    → length (front (contents (take (i + 1) vecs))) ≡ length (front (contents (take i vecs))) + length v.items + 5
length-front_more vecs i v within is =
    let pushed : contents (take (i + 1) vecs) ≡ contents (take i vecs) ++ v.items ∷ [] =
    ap contents (take_more vecs i v within ∙ ap (λ (w : Vec ℕ Global). take i vecs ++ w ∷ []) (sym is))
    ∙ map-append (λ (w : Vec ℕ Global). w.items) (take i vecs) (v ∷ []) in
    ap (λ (l : List (List ℕ)). length (front l)) pushed ∙ length-front_push (contents (take i vecs)) v.items

blocks_append : (ps qs : List (List ℕ)) → blocks (ps ++ qs) ≡ blocks ps ++ blocks qs
blocks_append [] qs = refl
blocks_append (p ∷ ps) qs = ap (λ (l : List ℕ). 1 ∷ (spelled p ++ l)) (blocks_append ps qs) ∙ ap (λ (l : List ℕ). 1 ∷ l) (sym (append_assoc (spelled p) (blocks ps) (blocks qs)))

-- the first bodies are no longer than all
pub length-front_take : (vecs : List (Vec ℕ Global)) (i : ℕ) → length (front (contents (take i vecs))) ≤ length (front (contents vecs))
unfolding front
length-front_take vecs i =
    let all : contents vecs ≡ contents (take i vecs) ++ contents (drop i vecs) =
    ap contents (sym (take-append-drop i vecs)) ∙ map-append (λ (w : Vec ℕ Global). w.items) (take i vecs) (drop i vecs) in
    let bytes : blocks (contents vecs) ≡ blocks (contents (take i vecs)) ++ blocks (contents (drop i vecs)) = ap blocks all ∙ blocks_append (contents (take i vecs)) (contents (drop i vecs)) in
    omega (arith, ap length bytes, length-append (blocks (contents (take i vecs))) (blocks (contents (drop i vecs))))

-- the header is in front of all
pub front_long : (ps : List (List ℕ)) → 8 ≤ length (front ps)
unfolding front
front_long ps = omega arith
