-- What a crash leaves while a body is committed.
use Rattle.std.proofs.Common.{◌≡◌, inl, inr, ℕ, ◌+◌, ◌≤◌, min, List, [], ◌∷◌, ◌++◌, length, take, drop, refl, sym, ap, ◌∙◌, subst, arith, length-append, append_assoc}
use Rattle.std.specs.List.{All}
use Rattle.std.proofs.lemmas.List.{append-nil, take_at, drop_at, take-take, drop-drop, take-append-drop}
use Rattle.std.proofs.lemmas.List.Elements.{All-nil, All-push}
use Rattle.std.proofs.lemmas.Bool.{cases_eq}
use Rattle.outside_traits.specs.View.{View}
use Rattle.outside_traits.specs.Calls.{Acts, Torn, Shortened, overlaid}
use Rattle.outside_traits.specs.Runs.{Touches}
use Rattle.outside_traits.proofs.RunLemmas.{called}
use Rattle.outside_traits.proofs.ByteLemmas.{overlaid_over, overlaid_within, torn_within}
use Rattle.gated_log.specs.Logs.{header, length_bytes, spelled, IsBody, blocks, front, sealed, Reads}
use Rattle.gated_log.specs.Stands.{IsBeforeOrAfter, IsStaged}
use Rattle.gated_log.proofs.Blocks.{length-length_bytes}

-- what stands up to and with the last gate
regrouped : (xs : List ℕ) (gate : ℕ) (rest : List ℕ) → xs ++ gate ∷ rest ≡ (xs ++ gate ∷ []) ++ rest
regrouped xs gate rest = sym (append_assoc xs (gate ∷ []) rest)

-- a write behind the last gate keeps the bodies, however it is torn
pub behind : (ps : List (List ℕ)) (end at n : ℕ) (d x : List ℕ) → end ≡ length (front ps) + 1 → end ≤ at → Reads ps d → Torn at n d x → Reads ps x
behind ps end at n d x end_is low reads torn =
    let kept : List ℕ = front ps ++ reads.gate ∷ [] in
    let size : length kept ≡ end = omega (arith, length-append (front ps) (reads.gate ∷ []), end_is) in
    let is : d ≡ kept ++ reads.rest = reads.is ∙ regrouped (front ps) reads.gate reads.rest in
    let long : end ≤ length d = omega (arith, ap length is, length-append kept reads.rest, size) in
    let same : take end x ≡ kept =
    sym (take-take end (min at (length d)) x (omega (arith, low, long)))
    ∙ ap (λ (l : List ℕ). take end l) torn.before
    ∙ take-take end at d low
    ∙ ap (λ (l : List ℕ). take end l) is
    ∙ take_at kept reads.rest end size in
    record {
      gate = reads.gate;
      rest = drop end x;
      is = sym (take-append-drop end x) ∙ ap (λ (l : List ℕ). l ++ drop end x) same ∙ append_assoc (front ps) (reads.gate ∷ []) (drop end x);
      closed = reads.closed;
      sizes = reads.sizes;
    }

-- so a run of such writes keeps them
pub wrote_behind : (file : ℕ) (ps : List (List ℕ)) (end at n : ℕ) (u v w : View) → end ≡ length (front ps) + 1 → end ≤ at
    → Touches file (Reads ps) u v → Acts file (Torn at n) v w → Touches file (Reads ps) u w
wrote_behind file ps end at n u v w end_is low run acts =
    called file (Reads ps) (Torn at n) u v w run acts
    (λ d x now torn. behind ps end at n d x end_is low (run.each v.moment d run.time.later (omega arith) now) torn)

-- what stands behind the three writes is what stood there
same_rest : (kept rest f0 : List ℕ) (end len size : ℕ) → length kept ≡ end → len ≡ 4 → f0 ≡ kept ++ rest → drop 1 (drop size (drop len rest)) ≡ drop (end + size + 5) f0
same_rest kept rest f0 end len size place four is =
    ap (λ (l : List ℕ). drop 1 l) (drop-drop size len rest) ∙ drop-drop 1 (len + size) rest
    ∙ ap (λ (m : ℕ). drop m rest) (let e : len + size + 1 ≡ size + 5 = omega (arith, four) in e)
    ∙ ap (λ (l : List ℕ). drop (size + 5) l) (sym (drop_at kept rest end place)) ∙ drop-drop (size + 5) end (kept ++ rest)
    ∙ ap (λ (m : ℕ). drop m (kept ++ rest)) (let e : end + (size + 5) ≡ end + size + 5 = omega arith in e)
    ∙ ap (λ (l : List ℕ). drop (end + size + 5) l) (sym is)

-- the three writes, all done, stage the body
pub staged_by : (ps : List (List ℕ)) (end : ℕ) (body f0 f1 f2 f3 : List ℕ) → end ≡ length (front ps) + 1 → IsBody body → Reads ps f0
    → f1 ≡ overlaid f0 end (length_bytes (length body)) → f2 ≡ overlaid f1 (end + 4) body → f3 ≡ overlaid f2 (end + 4 + length body) (0 ∷ []) → IsStaged ps body (drop (end + length body + 5) f0) f3
staged_by ps end body f0 f1 f2 f3 end_is is_body reads is_1 is_2 is_3 =
    let kept : List ℕ = front ps ++ reads.gate ∷ [] in
    let size : length kept ≡ end = omega (arith, length-append (front ps) (reads.gate ∷ []), end_is) in
    let len : List ℕ = length_bytes (length body) in
    let len_size : length len ≡ 4 = length-length_bytes (length body) in
    let rest_1 : List ℕ = drop (length len) reads.rest in
    let rest_2 : List ℕ = drop (length body) rest_1 in
    let rest_3 : List ℕ = drop 1 rest_2 in
    let at_0 : f0 ≡ kept ++ reads.rest = reads.is ∙ regrouped (front ps) reads.gate reads.rest in
    let at_1 : f1 ≡ (kept ++ len) ++ rest_1 =
    is_1 ∙ ap (λ (l : List ℕ). overlaid l end len) at_0 ∙ overlaid_over kept reads.rest len end size ∙ sym (append_assoc kept len rest_1) in
    let size_1 : length (kept ++ len) ≡ end + 4 = omega (arith, length-append kept len, size, len_size) in
    let at_2 : f2 ≡ ((kept ++ len) ++ body) ++ rest_2 =
    is_2 ∙ ap (λ (l : List ℕ). overlaid l (end + 4) body) at_1 ∙ overlaid_over (kept ++ len) rest_1 body (end + 4) size_1 ∙ sym (append_assoc (kept ++ len) body rest_2) in
    let size_2 : length ((kept ++ len) ++ body) ≡ end + 4 + length body = omega (arith, length-append (kept ++ len) body, size_1) in
    let at_3 : f3 ≡ ((kept ++ len) ++ body) ++ (0 ∷ rest_3) =
    is_3 ∙ ap (λ (l : List ℕ). overlaid l (end + 4 + length body) (0 ∷ [])) at_2 ∙ overlaid_over ((kept ++ len) ++ body) rest_2 (0 ∷ []) (end + 4 + length body) size_2 in
    let behind : rest_3 ≡ drop (end + length body + 5) f0 = same_rest kept reads.rest f0 end (length len) (length body) size len_size at_0 in
    record {
      gate = reads.gate;
      is = at_3 ∙ ap (λ (l : List ℕ). l ++ (0 ∷ rest_3)) (append_assoc kept len body) ∙ append_assoc kept (len ++ body) (0 ∷ rest_3) ∙ append_assoc (front ps) (reads.gate ∷ []) ((len ++ body) ++ (0 ∷ rest_3))
          ∙ ap (λ (l : List ℕ). front ps ++ reads.gate ∷ (spelled body ++ 0 ∷ l)) behind;
      closed = reads.closed;
      sizes = reads.sizes;
      size = is_body;
    }

-- while the gate is closed, the staged body isn't read
pub staged_reads : (ps : List (List ℕ)) (body rest x : List ℕ) → IsStaged ps body rest x → Reads ps x
staged_reads ps body rest x staged =
    record { gate = staged.gate; rest = spelled body ++ 0 ∷ rest; is = staged.is; closed = staged.closed; sizes = staged.sizes }

blocks_push : (ps : List (List ℕ)) (body : List ℕ) → blocks (ps ++ body ∷ []) ≡ blocks ps ++ (1 ∷ spelled body)
blocks_push [] body = append-nil (1 ∷ spelled body)
blocks_push (p ∷ ps) body = ap (λ (l : List ℕ). 1 ∷ (spelled p ++ l)) (blocks_push ps body) ∙ ap (λ (l : List ℕ). 1 ∷ l) (sym (append_assoc (spelled p) (blocks ps) (1 ∷ spelled body)))

pub front_push : (ps : List (List ℕ)) (body : List ℕ) → front (ps ++ body ∷ []) ≡ front ps ++ (1 ∷ spelled body)
unfolding front
front_push ps body = ap (λ (l : List ℕ). header ++ l) (blocks_push ps body)

pub length-front_push : (ps : List (List ℕ)) (body : List ℕ) → length (front (ps ++ body ∷ [])) ≡ length (front ps) + length body + 5
length-front_push ps body =
    omega (arith, ap length (front_push ps body), length-append (front ps) (1 ∷ spelled body), length-append (length_bytes (length body)) body, length-length_bytes (length body))

-- with the gate open it is the last body
sealed_push : (ps : List (List ℕ)) (body rest : List ℕ) → front ps ++ (1 ∷ (spelled body ++ 0 ∷ rest)) ≡ sealed (ps ++ body ∷ []) rest
sealed_push ps body rest = sym (append_assoc (front ps) (1 ∷ spelled body) (0 ∷ rest)) ∙ ap (λ (l : List ℕ). l ++ 0 ∷ rest) (sym (front_push ps body))

pub sealed_reads : (ps : List (List ℕ)) (rest x : List ℕ) → All IsBody ps → x ≡ sealed ps rest → Reads ps x
sealed_reads ps rest x sizes is = record { gate = 0; rest = rest; is = is; closed = λ is. cc; sizes = sizes }

-- the write of the gate, however it is torn, leaves the bodies without the new one or with it
pub gate_torn : (ps : List (List ℕ)) (body rest : List ℕ) (at : ℕ) (d x : List ℕ) → length (front ps) ≡ at → IsStaged ps body rest d → Torn at 1 d x → IsBeforeOrAfter ps body x
gate_torn ps body rest at d x place staged torn =
    let behind_gate : List ℕ = spelled body ++ 0 ∷ rest in
    let torn_here : Torn at 1 (front ps ++ ((staged.gate ∷ []) ++ behind_gate)) x = subst (λ (l : List ℕ). Torn at 1 l x) staged.is torn in
    let parts = torn_within (front ps) (staged.gate ∷ []) behind_gate x at 1 place refl torn_here in
    by_gate parts.0 parts.1 parts.2
  where
    by_gate : (mid : List ℕ) → length mid ≡ 1 → x ≡ front ps ++ (mid ++ (spelled body ++ 0 ∷ rest)) → IsBeforeOrAfter ps body x
    by_gate [] one is = absurd (omega (arith, one))
    by_gate (gate ∷ []) one is = elim (cases_eq gate 1) [
      | inl open_ ↦ inr (sealed_reads (ps ++ body ∷ []) rest x (All-push IsBody ps body staged.sizes staged.size)
          (is ∙ ap (λ (b : ℕ). front ps ++ (b ∷ (spelled body ++ 0 ∷ rest))) open_ ∙ sealed_push ps body rest))
      | inr closed ↦ inl (record { gate = gate; rest = spelled body ++ 0 ∷ rest; is = is; closed = closed; sizes = staged.sizes })
    ]
    by_gate (a ∷ b ∷ mid) one is = absurd (omega (arith, one))

-- and once it is done, with it
pub gate_opened : (ps : List (List ℕ)) (body rest : List ℕ) (at : ℕ) (d x : List ℕ) → length (front ps) ≡ at → IsStaged ps body rest d → x ≡ overlaid d at (1 ∷ [])
    → x ≡ sealed (ps ++ body ∷ []) rest
gate_opened ps body rest at d x place staged is =
    is ∙ ap (λ (l : List ℕ). overlaid l at (1 ∷ [])) staged.is
    ∙ overlaid_within (front ps) (staged.gate ∷ []) (spelled body ++ 0 ∷ rest) (1 ∷ []) at place refl ∙ sealed_push ps body rest

-- an empty log
pub empty_log : (x : List ℕ) → x ≡ sealed [] [] → Reads [] x
empty_log x is = sealed_reads [] [] x (All-nil IsBody) is

pub sealed_empty : sealed [] [] ≡ 78 ∷ 88 ∷ 76 ∷ 49 ∷ 0 ∷ 0 ∷ 0 ∷ 0 ∷ 0 ∷ []
unfolding front
sealed_empty = refl

pub length-front_empty : length (front []) ≡ 8
unfolding front
length-front_empty = refl

-- a file that is short stays short while it is made a log
pub cut_short : (n len : ℕ) (d x : List ℕ) → length d ≤ n → Shortened len d x → length x ≤ n
cut_short n len d x short cut = omega (arith, short, cut.no_longer)

pub torn_short : (n at size : ℕ) (d x : List ℕ) → at + size ≤ n → length d ≤ n → Torn at size d x → length x ≤ n
torn_short n at size d x room short torn = omega (arith, room, short, torn.no_longer)
