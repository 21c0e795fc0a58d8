use Rattle.script_text.proofs.ReaderLemmas.{StandsAt-push}
use Rattle.script_text.proofs.lines.Lines.push.Goals as goal

pub returns : goal.returns
returns c = λ before stood. StandsAt-push c.args.self.now.place _ _ c.args.piece.now before _ _ c.requires (λ line held. rw (← c.is_outside-outside.ensures) (c.push.ensures line (rw (c.is_outside-outside.ensures) held))) stood
