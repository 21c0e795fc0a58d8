use Rattle.std.proofs.Common.{◌≡◌, ◌++◌, inl, inr, List, ℕ, take, drop, length, sym, ap, subst, ◌∙◌, arith}
use Rattle.std.proofs.lemmas.List.{take_rest}
use Rattle.gated_log.specs.Logs.{spelled, IsBody}
use Rattle.gated_log.proofs.Parse.{short_has_none, none_in, body_in}
use Rattle.gated_log.proofs.reading.first_body.Goals as goal
use Rattle.gated_log.proofs.reading.first_body.Goals.{then-len-eq0-via-then-len-eq0, then-len-eq0-via-else-len-eq0+then-more-len}

pub returns-then-len-eq0 : goal.returns-then-len-eq0
returns-then-len-eq0 c = elim c.then-len-eq0.branch [
  | then-len-eq0-via-then-len-eq0 w ↦
      none_in c.args.bytes.now c.from_be_bytes-len.result (omega arith) c.from_be_bytes-len.ensures (inl (omega arith))
  | then-len-eq0-via-else-len-eq0+then-more-len w ↦
      none_in c.args.bytes.now c.from_be_bytes-len.result (omega arith) c.from_be_bytes-len.ensures
      (inr (omega (arith, ap length (take_rest c.args.bytes.now 4))))
]

pub returns-in_default : goal.returns-in_default
returns-in_default c = short_has_none c.args.bytes.now (omega arith)

pub returns-else-more-len : goal.returns-else-more-len
returns-else-more-len c =
    let rest = take_rest c.args.bytes.now 4 in
    let found = body_in c.args.bytes.now c.from_be_bytes-len.result (omega arith) c.from_be_bytes-len.ensures (omega arith) (omega arith)
    (omega (arith, ap length rest)) (λ i. omega (arith, c.type_inv.bytes i)) in
    let front : c.split_at.result.0.now ≡ take c.from_be_bytes-len.result (drop 4 c.args.bytes.now) =
    c.split_at.ensures.front ∙ ap (λ (l : List ℕ). take c.from_be_bytes-len.result l) rest in
    let back : c.split_at.result.1.now ≡ drop c.from_be_bytes-len.result (drop 4 c.args.bytes.now) =
    c.split_at.ensures.back ∙ ap (λ (l : List ℕ). drop c.from_be_bytes-len.result l) rest in
    (subst IsBody (sym front) found.0, found.1 ∙ (λ i. spelled (sym front i) ++ sym back i))
