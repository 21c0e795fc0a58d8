-- The bodies of the generation in use are the log files' alone.
use Rattle.std.proofs.Common.{◌≡◌, ◌^◌, ◌<◌, inl, inr, ℕ, List, [], sym, subst, arith}
use Rattle.gated_log.specs.Logs.{Reads}
use Rattle.journal_store.specs.Readings.{generation_file, generations, IsUnfinished, HaveBodies}
use Rattle.journal_store.proofs.OneReading.{unfinished_names}

pub none_of_unfinished : (files : ℕ → List ℕ) (g : ℕ) (bodies : List (List ℕ)) → HaveBodies files g bodies → IsUnfinished (files 0) → (g ≡ 0) × (bodies ≡ [])
none_of_unfinished files g bodies (inl made) unfinished = absurd (unfinished_names g (files 0) made.root unfinished)
none_of_unfinished files g bodies (inr unmade) unfinished = (unmade.first, unmade.none)

-- they are read of the root and of the generation's log
pub have_same : (a b : ℕ → List ℕ) (g : ℕ) (bodies : List (List ℕ)) → b 0 ≡ a 0 → b (generation_file g) ≡ a (generation_file g) → HaveBodies a g bodies → HaveBodies b g bodies
have_same a b g bodies root log (inl made) = inl (record { root = subst (λ x. Reads (generations g) x) (sym root) made.root; log = subst (λ x. Reads bodies x) (sym log) made.log; few = made.few })
have_same a b g bodies root log (inr unmade) = inr (record { root = subst (λ x. IsUnfinished x) (sym root) unmade.root; first = unmade.first; none = unmade.none })

-- a generation's log ends before the users' file
pub few_in : (files : ℕ → List ℕ) (g : ℕ) (bodies : List (List ℕ)) → HaveBodies files g bodies → g < 2 ^ 62
few_in files g bodies (inl made) = made.few
few_in files g bodies (inr unmade) = omega (arith, unmade.first)
