use Rattle.std.proofs.Common.{◌≡◌, ◌≤◌, ℕ, List, [], ◌∷◌, length, refl, sym, ap, ◌∙◌, arith}
use Rattle.outside_traits.specs.View.{View}
use Rattle.outside_traits.specs.Calls.{overlaid, Acts, Torn}
use Rattle.outside_traits.specs.Runs.{Touches}
use Rattle.outside_traits.proofs.RunLemmas.{called, synced, now_has}
use Rattle.outside_traits.proofs.ByteLemmas.{overlaid_end}
use Rattle.gated_log.specs.Logs.{sealed}
use Rattle.gated_log.proofs.Crash.{torn_short, empty_log, sealed_empty, length-front_empty}
use Rattle.gated_log.proofs.log.Log.create.Goals as goal

-- the write keeps a short file short
written : (n file : ℕ) (v0 v1 v2 : View) → 9 ≤ n → Touches file (λ x. length x ≤ n) v0 v1 → Acts file (Torn 0 9) v1 v2 → Touches file (λ x. length x ≤ n) v0 v2
written n file v0 v1 v2 room run write =
    let P : List ℕ → Type 0 = λ x. length x ≤ n in
    called file P (Torn 0 9) v0 v1 v2 run write (λ d x now step. torn_short n 0 9 d x room (now_has file P v0 v1 run d now) step)

pub returns-in_err-write-clause-crash : goal.returns-in_err-write-clause-crash
returns-in_err-write-clause-crash g c = λ n room short.
    written n c.args.file _ _ _ room (c.clear.ensures.crash n short) c.write.ensures.acts

pub returns-in_err-sync-clause-crash : goal.returns-in_err-sync-clause-crash
returns-in_err-sync-clause-crash g c = λ n room short.
    synced c.args.file (λ x. length x ≤ n) _ _ _ (written n c.args.file _ _ _ room (c.clear.ensures.crash n short) c.write.ensures.acts) c.sync.ensures.acts

pub returns-clause-crash : goal.returns-clause-crash
returns-clause-crash g c = λ n room short.
    synced c.args.file (λ x. length x ≤ n) _ _ _ (written n c.args.file _ _ _ room (c.clear.ensures.crash n short) c.write.ensures.acts) c.sync.ensures.acts

-- a write of the bytes of an empty log into an empty file
one : (old new : List ℕ) → old ≡ [] → new ≡ overlaid old 0 (78 ∷ 88 ∷ 76 ∷ 49 ∷ 0 ∷ 0 ∷ 0 ∷ 0 ∷ 0 ∷ []) → new ≡ sealed [] []
one old new cleared is =
    let empty : List ℕ = 78 ∷ 88 ∷ 76 ∷ 49 ∷ 0 ∷ 0 ∷ 0 ∷ 0 ∷ 0 ∷ [] in
    is ∙ ap (λ (l : List ℕ). overlaid l 0 empty) cleared ∙ overlaid_end [] empty 0 refl ∙ sym sealed_empty

pub returns-clause-bytes : goal.returns-clause-bytes
returns-clause-bytes g c = λ told.
    c.sync.ensures.acts.seen ∙ one _ _ (c.in_ok-clear.ensures.stable told _ (g.met.D.Store.reads_outcome c.clear.new.store c.args.file)) (c.in_ok-write.ensures.written told)

pub returns-clause-stable : goal.returns-clause-stable
returns-clause-stable g c = λ told x now.
    c.in_ok-sync.ensures.stable told x now
    ∙ one _ _ (c.in_ok-clear.ensures.stable told _ (g.met.D.Store.reads_outcome c.clear.new.store c.args.file)) (c.in_ok-write.ensures.written told)

pub returns-clause-made : goal.returns-clause-made
returns-clause-made g c = λ told. record {
  end = omega (arith, length-front_empty);
  outcomes = λ x now. empty_log x (c.in_ok-sync.ensures.stable told x now
      ∙ one _ _ (c.in_ok-clear.ensures.stable told _ (g.met.D.Store.reads_outcome c.clear.new.store c.args.file)) (c.in_ok-write.ensures.written told));
}
