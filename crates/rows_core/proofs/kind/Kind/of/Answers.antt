-- A kind's word is no word that is no kind's.
use Rattle.std.proofs.Common.{arith, sym}
use Rattle.std.proofs.lemmas.Slice.Eq.{text_from_reads}
use Rattle.rows_core.specs.Kind.{kind_word}
use Rattle.rows_core.specs.declared.kind.Kind.TheVariants.{Int, Text, Bool}
use Rattle.rows_core.proofs.kind.Kind.of.Goals as goal

pub returns-in-int-clause-none : goal.returns-in-int-clause-none
returns-in-int-clause-none c =
    let same = text_from_reads c.args.word.now (kind_word Int) (omega arith) (omega arith, (omega arith, (omega arith, tt))) in
    (λ e. cc, λ other. absurd (other Int (sym same)))

pub returns-in-116-clause-none : goal.returns-in-116-clause-none
returns-in-116-clause-none c =
    let same = text_from_reads c.args.word.now (kind_word Text) (omega arith) (omega arith, (omega arith, (omega arith, (omega arith, tt)))) in
    (λ e. cc, λ other. absurd (other Text (sym same)))

pub returns-in-bool-clause-none : goal.returns-in-bool-clause-none
returns-in-bool-clause-none c =
    let same = text_from_reads c.args.word.now (kind_word Bool) (omega arith) (omega arith, (omega arith, (omega arith, (omega arith, tt)))) in
    (λ e. cc, λ other. absurd (other Bool (sym same)))
