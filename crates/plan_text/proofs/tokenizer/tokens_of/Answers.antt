use Rattle.std.proofs.Common.{rules, ◌≡◌, ◌<◌, length, [], ◌∷◌, ◌++◌, Some, subst, sym}
use Rattle.plan_text.specs.Token.{token_at, IsToken}
use Rattle.plan_text.proofs.TokenLemmas.{IsBetween, IsBetween-first, IsBetween-next, IsBetween-none, IsBetween-end}
use Rattle.plan_text.proofs.TextTokenLaws.{behind_shorter}
use Rattle.plan_text.proofs.tokenizer.tokens_of.Goals as goal

pub loop-rest-init : goal.loop-rest-init
loop-rest-init c =
    let from_first = subst (λ r. IsBetween c.args.text.now [] r) (sym c.trim_start-rest.ensures) (IsBetween-first c.args.text.now) in
    subst (λ ts. IsBetween c.args.text.now ts c.trim_start-rest.result.now) (sym c.new-tokens.ensures.items) from_first

pub returns-in_default-clause-none : goal.returns-in_default-clause-none
returns-in_default-clause-none c =
    let some : 0 < length c.loop-rest.rest.now = search rules in
    IsBetween-none c.args.text.now c.loop-rest.tokens.items c.loop-rest.rest.now c.loop-rest.invariant (search rules) some

pub loop-rest-preserved : goal.loop-rest-preserved
loop-rest-preserved c =
    let some : 0 < length c.loop-rest.rest.now = search rules in
    let found : (token_at c.loop-rest.rest.now ≡ Some (c.in-Some.token, c.in-Some.behind.now)) × IsToken c.in-Some.token = search rules in
    let next = IsBetween-next c.args.text.now c.loop-rest.tokens.items c.loop-rest.rest.now c.loop-rest.invariant c.in-Some.token c.in-Some.behind.now found.0 found.1 some in
    let pushed : c.push.new.self.items ≡ c.loop-rest.tokens.items ++ c.in-Some.token ∷ [] = search rules in
    let trimmed_next = subst (λ r. IsBetween c.args.text.now (c.loop-rest.tokens.items ++ c.in-Some.token ∷ []) r) (sym c.trim_start-rest-in-loop-rest.ensures) next in
    subst (λ ts. IsBetween c.args.text.now ts c.trim_start-rest-in-loop-rest.result.now) (sym pushed) trimmed_next

pub returns-clause-found : goal.returns-clause-found
returns-clause-found c =
    let empty : length c.loop-rest.rest.now ≡ 0 = search rules in
    IsBetween-end c.args.text.now c.loop-rest.tokens.items c.loop-rest.rest.now c.loop-rest.invariant empty

pub loop-rest-smaller : goal.loop-rest-smaller
loop-rest-smaller c =
    let found : (token_at c.loop-rest.rest.now ≡ Some (c.in-Some.token, c.in-Some.behind.now)) × IsToken c.in-Some.token = search rules in
    subst (λ r. length r < length c.loop-rest.rest.now) (sym c.trim_start-rest-in-loop-rest.ensures) (behind_shorter c.loop-rest.rest.now c.in-Some.token c.in-Some.behind.now found.0)
