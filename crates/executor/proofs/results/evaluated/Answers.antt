-- The stack is the loaded pieces, the first one last.
use Rattle.std.proofs.Common.{◌≡◌, sym, ap, subst, ◌∙◌, [], reverse}
use Rattle.std.proofs.lemmas.List.{append-nil, reverse-reverse}
use Rattle.growth_laws.specs.Pieces.{pieces_of}
use Rattle.rewrite_core.specs.PlainRewriting.{rewriting_of}
use Rattle.result_ops.specs.Fitting.{IsFit}
use Rattle.plan_core.specs.PlainPlan.{plan_of}
use Rattle.executor.specs.Loading.{HoldAll, AreFit}
use Rattle.executor.specs.Recording.{Records, HasRecorded, recorded_below}
use Rattle.executor.proofs.Records.{then_on_ok, first_on_ok}
use Rattle.executor.proofs.results.evaluated.Goals as goal

pub returns-clause-made : goal.returns-clause-made
returns-clause-made c = λ extents results held.
    let pieces = pieces_of (rewriting_of c.args.rewriting.now) in
    let stack : reverse c.reverse.new.self.items ≡ c.args.pieces.items = ap reverse c.reverse.ensures.items ∙ reverse-reverse c.args.pieces.items in
    (c.made_unrecorded.ensures.made extents results [] (subst (λ ps. HoldAll extents results ps (reverse c.reverse.new.self.items)) (sym (append-nil pieces)) (subst (HoldAll extents results pieces) (sym stack) held))).0

pub returns-clause-fit : goal.returns-clause-fit
returns-clause-fit c = λ schemas kinds fit.
    let pieces = pieces_of (rewriting_of c.args.rewriting.now) in
    let stack : reverse c.reverse.new.self.items ≡ c.args.pieces.items = ap reverse c.reverse.ensures.items ∙ reverse-reverse c.args.pieces.items in
    first_on_ok (λ made. IsFit schemas (plan_of c.args.rewriting.now.plan) made.kept) (λ made. AreFit schemas [] (reverse c.made_unrecorded.new.pieces.items)) c.made_unrecorded.result
    (c.made_unrecorded.ensures.fit schemas [] kinds (subst (λ ps. AreFit schemas ps (reverse c.reverse.new.self.items)) (sym (append-nil pieces)) (subst (AreFit schemas pieces) (sym stack) fit)))

pub returns-clause-recorded : goal.returns-clause-recorded
returns-clause-recorded c = λ extents results held.
    let pieces = pieces_of (rewriting_of c.args.rewriting.now) in
    let trees = recorded_below (rewriting_of c.args.rewriting.now) in
    let stack : reverse c.reverse.new.self.items ≡ c.args.pieces.items = ap reverse c.reverse.ensures.items ∙ reverse-reverse c.args.pieces.items in
    then_on_ok (Records pieces trees c.reverse.new.self.items c.made_unrecorded.new.pieces.items c.args.found.now c.made_unrecorded.new.found)
    (HasRecorded extents results trees c.args.found.now c.made_unrecorded.new.found) c.made_unrecorded.result
    (λ records. (records extents results [] (subst (λ ps. HoldAll extents results ps (reverse c.reverse.new.self.items)) (sym (append-nil pieces)) (subst (HoldAll extents results pieces) (sym stack) held))).1) c.made_unrecorded.ensures.places
