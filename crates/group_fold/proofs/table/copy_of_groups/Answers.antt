use Rattle.std.proofs.Common.{◌≡◌, ◌++◌, ◌∷◌, [], List, ap, sym, ◌∙◌, append_assoc, Vec, Global}
use Rattle.row_blob.specs.declared.kept.Acc.{Acc}
use Rattle.row_blob.specs.declared.kept.GroupRow.{GroupRow}
use Rattle.plan_core.specs.Columns.{Row}
use Rattle.group_fold.specs.Table.{groups_in}
use Rattle.group_fold.proofs.table.copy_of_groups.Goals as goal

abbrev items : Vec Acc Global → List Acc
items accs = accs.items

-- a copy of the next group goes behind the others
one_copy : (copies : List GroupRow) (copy : GroupRow) (es rest : List (Row × Vec Acc Global)) (e : Row × Vec Acc Global) (all : List GroupRow)
    → es ≡ e ∷ rest → copy.key ≡ e.0 → copy.accs ≡ items e.1 → copies ++ groups_in items es ≡ all → (copies ++ copy ∷ []) ++ groups_in items rest ≡ all
one_copy copies copy es rest e all steps key accs so_far =
    append_assoc copies (copy ∷ []) (groups_in items rest)
    ∙ ap (λ k. copies ++ record { key = k; accs = copy.accs } ∷ groups_in items rest) key
    ∙ ap (λ a. copies ++ record { key = e.0; accs = a } ∷ groups_in items rest) accs
    ∙ ap (λ (l : List (Row × Vec Acc Global)). copies ++ groups_in items l) (sym steps) ∙ so_far

pub loop-key-preserved : goal.loop-key-preserved
loop-key-preserved c =
    ap (λ (l : List GroupRow). l ++ groups_in items c.next.new.self) c.in_ok-push.ensures.items
    ∙ one_copy c.loop-key.groups.items c.in_ok-group.group c.loop-key.key-iterator c.next.new.self (c.in-Some.key.now, c.in-Some.accs.now)
    (groups_in items c.args.table.now.entries) c.in-Some.ensures.steps c.in_ok-group.ensures.0 (c.in_ok-group.ensures.1 ∙ c.deref.ensures.value) c.loop-key.invariant
