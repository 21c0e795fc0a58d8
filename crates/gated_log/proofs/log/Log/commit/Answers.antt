use Rattle.std.proofs.Common.{inl, [], ◌∷◌, ◌++◌, sym, ◌∙◌, arith}
use Rattle.std.proofs.lemmas.List.Elements.{All-push}
use Rattle.outside_traits.proofs.RunLemmas.{joined, weaker}
use Rattle.gated_log.specs.Logs.{IsBody, Reads}
use Rattle.gated_log.specs.Stands.{IsBeforeOrAfter}
use Rattle.gated_log.proofs.Crash.{length-front_push, sealed_reads}
use Rattle.gated_log.proofs.log.Log.commit.Goals as goal

pub returns-in_err-open_gate-clause-crash : goal.returns-in_err-open_gate-clause-crash
returns-in_err-open_gate-clause-crash g c = λ told bodies stands.
    joined c.args.self.file (IsBeforeOrAfter bodies c.args.body.now) _ _ _
    (weaker c.args.self.file (Reads bodies) (IsBeforeOrAfter bodies c.args.body.now) _ _ (c.stage.ensures.crash bodies stands) (λ x reads. inl reads))
    (c.open_gate.ensures.crash bodies c.args.body.now _ stands.end (c.in_ok-stage.ensures.staged told bodies stands))

pub returns-clause-crash : goal.returns-clause-crash
returns-clause-crash g c = λ told bodies stands.
    joined c.args.self.file (IsBeforeOrAfter bodies c.args.body.now) _ _ _
    (weaker c.args.self.file (Reads bodies) (IsBeforeOrAfter bodies c.args.body.now) _ _ (c.stage.ensures.crash bodies stands) (λ x reads. inl reads))
    (c.open_gate.ensures.crash bodies c.args.body.now _ stands.end (c.in_ok-stage.ensures.staged told bodies stands))

pub returns-clause-committed : goal.returns-clause-committed
returns-clause-committed g c = λ told bodies stands. record {
  end = omega (arith, stands.end, length-front_push bodies c.args.body.now);
  outcomes = λ x now. sealed_reads (bodies ++ c.args.body.now ∷ []) _ x
      (All-push IsBody bodies c.args.body.now (stands.outcomes _ (g.met.D.Store.reads_outcome c.args.store.now c.args.self.file)).sizes c.requires.size)
      (c.in_ok-open_gate.ensures.opened told bodies c.args.body.now _ stands.end (c.in_ok-stage.ensures.staged told bodies stands) x now);
}

pub returns-clause-bytes : goal.returns-clause-bytes
returns-clause-bytes g c = λ told bodies stands.
    c.in_ok-open_gate.ensures.opened told bodies c.args.body.now _ stands.end (c.in_ok-stage.ensures.staged told bodies stands)
    _ (g.met.D.Store.reads_outcome c.open_gate.new.store c.args.self.file)

pub returns-clause-stable : goal.returns-clause-stable
returns-clause-stable g c = λ told bodies stands x now.
    let one = c.in_ok-open_gate.ensures.opened told bodies c.args.body.now _ stands.end (c.in_ok-stage.ensures.staged told bodies stands) in
    one x now ∙ sym (one _ (g.met.D.Store.reads_outcome c.open_gate.new.store c.args.self.file))
