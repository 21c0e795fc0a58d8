use Rattle.std.proofs.Common.{◌≡◌, ◌+◌, ◌≤◌, ℕ, List, length, sym, ap, subst, ◌∙◌, arith}
use Rattle.outside_traits.specs.View.{View, Now}
use Rattle.outside_traits.specs.Calls.{overlaid, Acts, Torn}
use Rattle.outside_traits.specs.Runs.{Touches}
use Rattle.outside_traits.proofs.RunLemmas.{started, synced}
use Rattle.gated_log.specs.Logs.{front, length_bytes, Reads}
use Rattle.gated_log.specs.Stands.{IsStaged}
use Rattle.gated_log.proofs.Crash.{wrote_behind, staged_by}
use Rattle.gated_log.proofs.log.Log.stage.Goals as goal

module _ (file : ℕ) (ps : List (List ℕ)) (end : ℕ) (end_is : end ≡ length (front ps) + 1) where
  one : (a m : ℕ) (v0 v1 : View) → end ≤ a → ((x : List ℕ) → Now v0 file x → Reads ps x) → Acts file (Torn a m) v0 v1 → Touches file (Reads ps) v0 v1
  one a m v0 v1 low here acts = wrote_behind file ps end a m v0 v0 v1 end_is low (started file (Reads ps) v0 here) acts

  more : (a m : ℕ) (v0 v1 v2 : View) → end ≤ a → Touches file (Reads ps) v0 v1 → Acts file (Torn a m) v1 v2 → Touches file (Reads ps) v0 v2
  more a m v0 v1 v2 low run acts = wrote_behind file ps end a m v0 v1 v2 end_is low run acts

pub returns-in_err-write-clause-crash : goal.returns-in_err-write-clause-crash
returns-in_err-write-clause-crash g c = λ bodies stands.
    one c.args.self.now.file bodies c.args.self.now.end stands.end _ _ _ _ (omega arith) stands.outcomes c.write.ensures.acts

pub returns-in_err-write-2-clause-crash : goal.returns-in_err-write-2-clause-crash
returns-in_err-write-2-clause-crash g c = λ bodies stands.
    more c.args.self.now.file bodies c.args.self.now.end stands.end _ _ _ _ _ (omega arith)
    (one c.args.self.now.file bodies c.args.self.now.end stands.end _ _ _ _ (omega arith) stands.outcomes c.write.ensures.acts)
    c.write-2.ensures.acts

pub returns-in_err-write-3-clause-crash : goal.returns-in_err-write-3-clause-crash
returns-in_err-write-3-clause-crash g c = λ bodies stands.
    more c.args.self.now.file bodies c.args.self.now.end stands.end _ _ _ _ _ (omega arith)
    (more c.args.self.now.file bodies c.args.self.now.end stands.end _ _ _ _ _ (omega arith)
    (one c.args.self.now.file bodies c.args.self.now.end stands.end _ _ _ _ (omega arith) stands.outcomes c.write.ensures.acts)
    c.write-2.ensures.acts)
    c.write-3.ensures.acts

pub returns-in_err-sync-clause-crash : goal.returns-in_err-sync-clause-crash
returns-in_err-sync-clause-crash g c = λ bodies stands.
    synced c.args.self.now.file (Reads bodies) _ _ _
    (more c.args.self.now.file bodies c.args.self.now.end stands.end _ _ _ _ _ (omega arith)
    (more c.args.self.now.file bodies c.args.self.now.end stands.end _ _ _ _ _ (omega arith)
    (one c.args.self.now.file bodies c.args.self.now.end stands.end _ _ _ _ (omega arith) stands.outcomes c.write.ensures.acts)
    c.write-2.ensures.acts)
    c.write-3.ensures.acts)
    c.sync.ensures.acts

pub returns-clause-crash : goal.returns-clause-crash
returns-clause-crash g c = λ bodies stands.
    synced c.args.self.now.file (Reads bodies) _ _ _
    (more c.args.self.now.file bodies c.args.self.now.end stands.end _ _ _ _ _ (omega arith)
    (more c.args.self.now.file bodies c.args.self.now.end stands.end _ _ _ _ _ (omega arith)
    (one c.args.self.now.file bodies c.args.self.now.end stands.end _ _ _ _ (omega arith) stands.outcomes c.write.ensures.acts)
    c.write-2.ensures.acts)
    c.write-3.ensures.acts)
    c.sync.ensures.acts

pub returns-clause-staged : goal.returns-clause-staged
returns-clause-staged g c = λ told bodies stands x now.
    let file = c.args.self.now.file in
    let end = c.args.self.now.end in
    let first : Reads bodies ((g.D.Store.view c.args.store.now).files file) = stands.outcomes _ (g.met.D.Store.reads_outcome c.args.store.now file) in
    let len_is = c.length_bytes-len.ensures in
    let wrote : (g.D.Store.view c.write.new.self).files file ≡ overlaid ((g.D.Store.view c.args.store.now).files file) end (length_bytes (length c.args.body.now)) =
    c.in_ok-write.ensures.written told ∙ ap (λ (l : List ℕ). overlaid ((g.D.Store.view c.args.store.now).files file) end l) len_is in
    let staged = staged_by bodies end c.args.body.now _ _ _ _ stands.end c.requires.size first wrote (c.in_ok-write-2.ensures.written told) (c.in_ok-write-3.ensures.written told) in
    subst (IsStaged bodies c.args.body.now _) (sym (c.in_ok-sync.ensures.stable told x now)) staged
