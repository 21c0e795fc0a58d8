-- A line more was passed over, or the result was found.
use Rattle.std.proofs.Common.{◌≡◌, ◌≢◌, ℕ, IfSome, true, false, rules}
use Rattle.csv_rows.proofs.LineLemmas.{HasNoResult-passed, IsFound-head, IsPassed-line, IsPassed-none}
use Rattle.csv_rows.proofs.lines.find.Goals.{in-1+in-None-1, in_default-1}
use Rattle.csv_rows.proofs.lines.find.Goals as goal

pub loop-turn-init : goal.loop-turn-init
loop-turn-init g c bytes known = IsPassed-none bytes c.args.number (g.R.Read.remaining c.args.answers.now) known

pub loop-turn-preserved : goal.loop-turn-preserved
loop-turn-preserved g c bytes known =
    let is : c.in_ok-read_line.field-0 ≡ true = search rules in
    let was = c.loop-turn.invariant bytes known in
    let other : IfSome c.count_of-head.result (λ (count : ℕ). c.loop-turn.left ≢ 1) = elim c.match-left.branch [
      | in-1+in-None-1 w ↦ search rules
      | in_default-1 w ↦ search rules
    ] in
    IsPassed-line bytes c.args.number c.loop-turn.left c.left_behind-left.result _ (g.R.Read.remaining c.read_line.new.answers) c.read_line.new.line.items c.count_of-head.result was (c.in_ok-read_line.ensures.next is was.rest was.known_is)
    c.count_of-head.ensures.fits (rw c.as_slice.ensures.value at c.count_of-head.ensures.some) (rw c.as_slice.ensures.value at c.count_of-head.ensures.none) c.left_behind-left.ensures other

pub returns-in-1-Some-clause-found : goal.returns-in-1-Some-clause-found
returns-in-1-Some-clause-found g c bytes known =
    let is : c.in_ok-read_line.field-0 ≡ true = search rules in
    let was = c.loop-turn.invariant bytes known in
    let head = rw (c.in-1-Some.is-1, c.as_slice.ensures.value) at c.count_of-head.ensures.some in
    IsFound-head bytes c.args.number c.loop-turn.left c.in-1-Some.count _ (g.R.Read.remaining c.read_line.new.answers) c.read_line.new.line.items was c.in-1-Some.is-0
    (c.in_ok-read_line.ensures.next is was.rest was.known_is) head

pub returns-then-not-branch-clause-none : goal.returns-then-not-branch-clause-none
returns-then-not-branch-clause-none g c bytes known =
    let none : c.in_ok-read_line.field-0 ≡ false = search rules in
    let was = c.loop-turn.invariant bytes known in
    HasNoResult-passed bytes c.args.number c.loop-turn.left _ was (c.in_ok-read_line.ensures.none none was.rest was.known_is)
