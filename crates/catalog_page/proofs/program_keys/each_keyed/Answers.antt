use Rattle.std.proofs.Common.{rules, ◌≡◌, [], ◌∷◌, ◌++◌}
use Rattle.catalog_page.proofs.Programs.{keyed_more, keyed_end}
use Rattle.catalog_page.proofs.program_keys.each_keyed.Goals as goal

pub loop-program-preserved : goal.loop-program-preserved
loop-program-preserved c =
    let pushed : c.push.new.self.items ≡ c.loop-program.keyed.items ++ c.in_ok-found.found ∷ [] = search rules in
    keyed_more _ _ _ _ _ _ _ c.loop-program-test.true c.program-item.is pushed c.loop-program.invariant c.in_ok-found.ensures

pub returns : goal.returns
returns c = keyed_end _ _ _ _ c.loop-program-test.false c.loop-program.invariant
