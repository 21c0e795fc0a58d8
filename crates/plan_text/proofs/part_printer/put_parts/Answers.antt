use Rattle.std.proofs.Common.{rules, ◌≡◌, sym, ap, ◌∙◌, ◌++◌, ◌∷◌, ◌<◌, length, append_assoc, arith}
use Rattle.std.specs.List.{flat_map}
use Rattle.plan_text.specs.Canonical.{text_of}
use Rattle.plan_text.proofs.Printing.{behind_first, text_of_listed_at, OnOk-map}
use Rattle.plan_text.proofs.part_printer.put_parts.Goals as goal

pub returns : goal.returns
returns g c =
    let some : 0 < length c.args.parts.now = omega (arith, c.in-len1-up.len_at_least) in
    let others = flat_map (λ part. 44 ∷ 32 ∷ text_of (g.T.Part.pieces part)) (behind_first c.args.parts.now) in
    let first : c.put.new.to.items ≡ c.args.to.now.items ++ text_of (g.T.Part.pieces c.first-item.result) = search rules in
    let all = text_of_listed_at g.T.Part.pieces c.args.parts.now c.first-item.result some c.first-item.is in
    OnOk-map c.put_others.result (λ put. put ∙ ap (λ bytes. bytes ++ others) first ∙ append_assoc c.args.to.now.items (text_of (g.T.Part.pieces c.first-item.result)) others ∙ ap (λ bytes. c.args.to.now.items ++ bytes) (sym all)) c.put_others.ensures
