-- How a text is read as tokens.
use Rattle.std.proofs.Common.{◌≡◌, refl, sym, ap, ◌∙◌, subst, ℕ, ◌<◌, Bool, true, false, cond, ◌==◌, List, [], ◌∷◌, ◌++◌, length, Option, Some, None, append_assoc, append-nil, arith}
use Rattle.std.specs.Option.{option_map}
use Rattle.plan_text.specs.declared.token.Token.{Token}
use Rattle.plan_text.specs.Token.{with_byte, trimmed, token_at, IsToken, AreTokens}

-- these bytes of a text, and then those of the rest
abbrev pub behind_bytes : List ℕ → Option (List ℕ × List ℕ) → Option (List ℕ × List ℕ)
behind_bytes front found = option_map (λ f. (front ++ f.0, f.1)) found

pub behind_bytes-more : (front : List ℕ) (c : ℕ) (found : Option (List ℕ × List ℕ)) → behind_bytes front (with_byte c found) ≡ behind_bytes (front ++ c ∷ []) found
behind_bytes-more front c None = refl
behind_bytes-more front c (Some f) = ap (λ t. Some (t, f.1)) (sym (append_assoc front (c ∷ []) f.0))

-- what two equal finds found
pub both : {A B : Type 0} (a c : A) (b d : B) → ◌≡◌ {A = Option (A × B)} (Some (a, b)) (Some (c, d)) → (a ≡ c) × (b ≡ d)
both a c b d e =
    let first : Some a ≡ Some c = ap (option_map (λ p. p.0)) e in
    let second : Some b ≡ Some d = ap (option_map (λ p. p.1)) e in
    (cc first, cc second)

trimmed-twice : (text : List ℕ) → trimmed (trimmed text) ≡ trimmed text
trimmed-twice [] = refl
trimmed-twice (c ∷ cs) = by (c == 32) refl (trimmed-twice cs)
  where
    by : (b : Bool) → (c == 32) ≡ b → trimmed (trimmed cs) ≡ trimmed cs → trimmed (cond b (trimmed cs) (c ∷ cs)) ≡ cond b (trimmed cs) (c ∷ cs)
    by true e again = again
    by false e again = ap (λ b. cond b (trimmed cs) (c ∷ cs)) e

-- the text is these tokens, and then those of the rest, which doesn't begin with a space
pub record IsBetween (text : List ℕ) (done : List Token) (rest : List ℕ) : Type 0 where
  pub forth : (more : List Token) → AreTokens more rest → AreTokens (done ++ more) text
  pub back : (all : List Token) → AreTokens all text → (more : List Token) × (all ≡ done ++ more) × AreTokens more rest
  pub is_trimmed : trimmed rest ≡ rest

AreTokens-trimmed : (text : List ℕ) (tokens : List Token) → AreTokens tokens (trimmed text) → AreTokens tokens text
AreTokens-trimmed text [] a = sym (trimmed-twice text) ∙ a
AreTokens-trimmed text (t ∷ tokens) a = (a.0, sym (ap token_at (trimmed-twice text)) ∙ a.1, a.2, a.3)

AreTokens-trim : (text : List ℕ) (tokens : List Token) → AreTokens tokens text → AreTokens tokens (trimmed text)
AreTokens-trim text [] a = trimmed-twice text ∙ a
AreTokens-trim text (t ∷ tokens) a = (a.0, ap token_at (trimmed-twice text) ∙ a.1, a.2, a.3)

pub IsBetween-first : (text : List ℕ) → IsBetween text [] (trimmed text)
IsBetween-first text = record { forth = λ more a. AreTokens-trimmed text more a; back = λ all a. (all, refl, AreTokens-trim text all a); is_trimmed = trimmed-twice text }

module _ (text : List ℕ) (done : List Token) (rest : List ℕ) (between : IsBetween text done rest) where
  pub IsBetween-next : (token : Token) (behind : List ℕ) → token_at rest ≡ Some (token, behind) → IsToken token → 0 < length rest → IsBetween text (done ++ token ∷ []) (trimmed behind)
  IsBetween-next token behind at is some = record {
    forth = λ more a. subst (λ ts. AreTokens ts text) (sym (append_assoc done (token ∷ []) more)) (between.forth (token ∷ more) (behind, ap token_at between.is_trimmed ∙ at, is, AreTokens-trimmed behind more a));
    back = λ all a. let found = between.back all a in step all found.0 found.1 found.2;
    is_trimmed = trimmed-twice behind;
  }
    where
      step : (all more : List Token) → all ≡ done ++ more → AreTokens more rest → (left : List Token) × (all ≡ (done ++ token ∷ []) ++ left) × AreTokens left (trimmed behind)
      step all [] e a = let none : rest ≡ [] = sym between.is_trimmed ∙ a in absurd (omega (arith, some, ap length none))
      step all (t ∷ left) e a =
          let same = both t token a.0 behind (sym a.1 ∙ ap token_at between.is_trimmed ∙ at) in
          let first : t ≡ token = same.0 in
          let after : a.0 ≡ behind = same.1 in
          (left, e ∙ ap (λ u. done ++ u ∷ left) first ∙ sym (append_assoc done (token ∷ []) left), AreTokens-trim behind left (subst (λ r. AreTokens left r) after a.3))

  pub IsBetween-none : ((token : Token) (behind : List ℕ) → token_at rest ≡ Some (token, behind) → IsToken token → ⊥) → 0 < length rest → (all : List Token) → AreTokens all text → ⊥
  IsBetween-none none some all a = let found = between.back all a in step found.0 found.2
    where
      step : (more : List Token) → AreTokens more rest → ⊥
      step [] b = let empty : rest ≡ [] = sym between.is_trimmed ∙ b in absurd (omega (arith, some, ap length empty))
      step (t ∷ left) b = none t b.0 (sym (ap token_at between.is_trimmed) ∙ b.1) b.2

  pub IsBetween-end : length rest ≡ 0 → AreTokens done text
  IsBetween-end e = subst (λ ts. AreTokens ts text) (append-nil done) (between.forth [] (ap trimmed (empty rest e)))
    where
      empty : (xs : List ℕ) → length xs ≡ 0 → xs ≡ []
      empty [] e = refl
      empty (x ∷ xs) e = absurd (omega (arith, e))
