use Rattle.std.proofs.Common.{◌≡◌, ◌++◌, ◌∷◌, [], List, Option, None, ℕ, take, get_or, sym, ap, ◌∙◌, arith, rules}
use Rattle.std.proofs.lemmas.List.{get_or_default}
use Rattle.mem_outside.specs.Outcomes.{freed}
use Rattle.mem_outside.proofs.Building.{freed_more}
use Rattle.mem_outside.proofs.file_state.freed.Goals as goal

pub loop-i-preserved : goal.loop-i-preserved
loop-i-preserved c =
    let fixed : List (Option ℕ) = c.args.fixed.now in
    let byte : Option ℕ = get_or fixed c.loop-i.i None in
    let pushed : c.push.new.self.items ≡ c.loop-i.out.items ++ c.freed_byte.result ∷ [] = search rules in
    let more = freed_more c.args.at c.args.len c.loop-i.i fixed byte (omega arith) (get_or_default fixed c.loop-i.i None byte (omega arith)) in
    pushed ∙ ap (λ (l : List (Option ℕ)). l ++ c.freed_byte.result ∷ []) c.loop-i.invariant
    ∙ ap (λ (r : Option ℕ). freed c.args.at c.args.len (take c.loop-i.i fixed) ++ r ∷ []) c.freed_byte.ensures ∙ sym more
