use Rattle.std.proofs.Common.{◌≡◌, ◌∷◌, ◌++◌, [], Some, None, sym, subst, ap, ◌∙◌, rules}
use Rattle.script_text.specs.StreamLine.{parts_at, column_of, columns_of}
use Rattle.script_text.proofs.StreamLemmas.{columns_behind, columns_of-more, columns_of-broken, columns_of-ended, columns_of-broken_last}
use Rattle.script_text.proofs.stream_line.columns_of.Goals as goal

pub returns-in_default-2 : goal.returns-in_default-2
returns-in_default-2 c =
    let parted : parts_at 44 c.loop-part.rest.now ≡ Some (record { before = c.in-Some.part.now; behind = c.in-Some.behind.now }) = search rules in
    let none : column_of c.in-Some.part.now ≡ None = search rules in
    sym (columns_of-broken c.args.text.now c.loop-part.rest.now c.loop-part.columns.items c.loop-part.invariant _ parted none)

pub loop-part-preserved : goal.loop-part-preserved
loop-part-preserved c =
    let parted : parts_at 44 c.loop-part.rest.now ≡ Some (record { before = c.in-Some.part.now; behind = c.in-Some.behind.now }) = search rules in
    let some : column_of c.in-Some.part.now ≡ Some c.in-Some-2.column = search rules in
    let pushed : c.push.new.self.items ≡ c.loop-part.columns.items ++ c.in-Some-2.column ∷ [] = search rules in
    subst (λ columns. columns_of c.args.text.now ≡ columns_behind columns (columns_of c.in-Some.behind.now)) (sym pushed)
    (columns_of-more c.args.text.now c.loop-part.rest.now c.loop-part.columns.items c.loop-part.invariant _ parted c.in-Some-2.column some)

pub returns-in_default-3 : goal.returns-in_default-3
returns-in_default-3 c =
    let parted : parts_at 44 c.loop-part.rest.now ≡ None = search rules in
    let none : column_of c.loop-part.rest.now ≡ None = search rules in
    sym (columns_of-broken_last c.args.text.now c.loop-part.rest.now c.loop-part.columns.items c.loop-part.invariant parted none)

pub returns : goal.returns
returns c =
    let parted : parts_at 44 c.loop-part.rest.now ≡ None = search rules in
    let some : column_of c.loop-part.rest.now ≡ Some c.in-Some-3.column = search rules in
    let pushed : c.new.result ≡ c.loop-part.columns.items ++ c.in-Some-3.column ∷ [] = search rules in
    ap Some pushed ∙ sym (columns_of-ended c.args.text.now c.loop-part.rest.now c.loop-part.columns.items c.loop-part.invariant parted c.in-Some-3.column some)
