-- What the grammar spells as an expression is read, and what is read is spelled.
use Prim.Native.Nat.{zero, suc}
use Rattle.std.proofs.Common.{◌≡◌, refl, sym, ap, ◌∙◌, subst, ℕ, ◌<◌, ◌≤◌, true, false, cond, nat_lt, nat_le, List, [], ◌∷◌, length, Option, Some, None, ℤ, pos, negsuc, neg_ℤ, FitsSigned, w64, arith, Bool, nat_eq}
use Rattle.std.proofs.lemmas.Bool.Decides.{nat_tests, Decides-ltb}
use Rattle.scalar_ops.specs.declared.cell.Cell.TheVariants as cell
use Rattle.scalar_ops.specs.declared.table.Op.{Op}
use Rattle.scalar_ops.specs.declared.table.Op.TheVariants as op
use Rattle.plan_text.specs.declared.token.Token.{Token}
use Rattle.plan_text.specs.declared.token.Token.TheVariants.{Word, Number, Text, Mark, Name}
use Rattle.plan_text.specs.declared.token.Mark.TheVariants as mark
use Rattle.plan_text.specs.declared.token.Word as the_word
use Rattle.plan_text.specs.declared.token.Word.TheVariants as word
use Rattle.plan_text.specs.declared.operator.Operator.TheVariants as operator
use Rattle.plan_text.specs.declared.operator.Infix.{Infix}
use Rattle.plan_text.specs.declared.operator.Prefix.{Prefix}
use Rattle.plan_text.specs.Token.{greatest_number}
use Rattle.plan_text.specs.PlainNamed.{PlainExpr, Column, Literal, Call1, Binary, If}
use Rattle.plan_text.specs.Operators.{Rule, ATOM, UN, NOT, E, infix_of, prefix_of, call1_op, call2_op}
use Rattle.plan_text.specs.Grammar as g
use Rattle.plan_text.specs.Grammar.{Spells, EndsExpr}
use Rattle.plan_text.proofs.OperatorLaws.{Fits, infix_fits}
use Rattle.plan_text.specs.declared.counts.Counts.{Counts}
use Rattle.plan_text.specs.Draft.{draft_of, kept_one, with2, with3, PlainDraft, with1}
use Rattle.plan_text.specs.declared.parser.Terminal.TheVariants.{Comma, Close, Open}
use Rattle.plan_text.specs.Reader.{ReadOf, and_then, terminal_at, up_to, all_repeated}
use Rattle.plan_text.specs.Reading.{Readers, Operand, argument, operated, call1_at, call2_at, choice_at, word_atom, atom_at, spelled_by, first_step, first_at, operator_step, operator_at, joined_onto, operand_onto, operands_at, below, rule_at, inner, expr_at, Reader, function_at, mark_atom, number_atom, minus_atom, read_by}
use Rattle.plan_text.proofs.DraftLemmas.{with1-draft, with2-draft, with3-draft}
use Rattle.plan_text.proofs.RepeatLemmas.{Repeats, Repeats-first, Repeats-next, Repeats-end, then_some, made_some, repeated_keeps}
use Rattle.plan_text.proofs.Levels.{below_is, terminal_some, up_to_some}
use Rattle.plan_text.specs.declared.token.Mark as the_mark
use Rattle.plan_text.proofs.TokenLemmas.{both}

-- each spelling takes a token at least
pub shorter : {rule : Rule} {n : ℕ} {e : PlainExpr} {from rest : List Token} → Spells rule n e from rest → length rest < length from
shorter (g.looser le s) = shorter s
shorter (g.operation t e s u) = omega (arith, shorter s, shorter u)
shorter (g.prefixed t e s) = omega (arith, shorter s)
shorter (g.an_int fits) = omega arith
shorter (g.a_minus_int e fits) = omega arith
shorter g.a_text = omega arith
shorter g.a_truth = omega arith
shorter g.a_column = omega arith
shorter (g.in_parens s) = omega (arith, shorter s)
shorter (g.call1 w e s) = omega (arith, shorter s)
shorter (g.call2 w e s t) = omega (arith, shorter s, shorter t)
shorter (g.choice s t u) = omega (arith, shorter s, shorter t, shorter u)

-- an operator that stands here is of this rule or a looser one
abbrev pub Loose : Rule → List Token → Type 0
Loose rule [] = Unit {0}
Loose rule (t ∷ ts) = (o : Infix) → infix_of t ≡ Some o → rule ≤ o.rule

looser_too : (r s : Rule) (rest : List Token) → r ≤ s → Loose s rest → Loose r rest
looser_too r s [] le loose = tt
looser_too r s (t ∷ ts) le loose = λ o e. omega (arith, le, loose o e)

-- a tighter rule ends here
stops : (r s : Rule) (rest : List Token) → r < s → Loose s rest → operator_at r rest ≡ None
stops r s [] less loose = refl
stops r s (t ∷ ts) less loose = by (infix_of t) refl
  where
    by : (x : Option Infix) → infix_of t ≡ x → operator_step r ts x ≡ None
    by None e = refl
    by (Some o) e =
        let le = loose o e in
        let above : nat_le o.rule r ≡ false = grind (arith, nat_tests, less, le) in
        ap (λ b. cond {A = ReadOf Infix} b (Some (o, ts)) None) above

-- and so does a rule of a prefix, which has no operator between operands
prefix_stops : (t : Token) (p : Prefix) (rest : List Token) → prefix_of t ≡ Some p → Loose p.rule rest → operator_at p.rule rest ≡ None
prefix_stops t p [] is loose = refl
prefix_stops t p (u ∷ ts) is loose = by (infix_of u) refl
  where
    rule_is : (t : Token) → prefix_of t ≡ Some p → (o : Infix) → Fits o → p.rule ≤ o.rule → p.rule < o.rule
    rule_is (Word word.Not) e o f le = let same : NOT ≡ p.rule = cc in let other = f.no_not in omega (arith, same, other, le)
    rule_is (Mark mark.Minus) e o f le = let same : UN ≡ p.rule = cc in let other = f.no_un in omega (arith, same, other, le)
    rule_is _ e o f le = absurd (cc e)

    by : (x : Option Infix) → infix_of u ≡ x → operator_step p.rule ts x ≡ None
    by None e = refl
    by (Some o) e =
        let less = rule_is t is o (infix_fits u o e) (loose o e) in
        let above : nat_le o.rule p.rule ≡ false = grind (arith, nat_tests, less) in
        ap (λ b. cond {A = ReadOf Infix} b (Some (o, ts)) None) above

pub is_le : (m n : ℕ) → m ≤ n → nat_le m n ≡ true
is_le m n le = grind (arith, nat_tests, le)

module _ (most : Counts) where
  word_call1 : (i : Readers) (w : the_word.Word) (o : Op) (ts : List Token) → call1_op w ≡ Some o → (prefix_of (Word w) ≡ None) × (word_atom most i w (Mark mark.Open ∷ ts) ≡ call1_at most i o ts)
  word_call1 i word.Len o ts e = let same : op.Len ≡ o = cc in (refl, ap (λ o. call1_at most i o ts) same)
  word_call1 i word.Abs o ts e = let same : op.Abs ≡ o = cc in (refl, ap (λ o. call1_at most i o ts) same)
  word_call1 i _ o ts e = absurd (cc)

  word_call2 : (i : Readers) (w : the_word.Word) (o : Op) (ts : List Token) → call2_op w ≡ Some o → (prefix_of (Word w) ≡ None) × (word_atom most i w (Mark mark.Open ∷ ts) ≡ call2_at most i o ts)
  word_call2 i word.Starts o ts e = let same : op.Starts ≡ o = cc in (refl, ap (λ o. call2_at most i o ts) same)
  word_call2 i word.Least o ts e = let same : op.Least ≡ o = cc in (refl, ap (λ o. call2_at most i o ts) same)
  word_call2 i word.Most o ts e = let same : op.Most ≡ o = cc in (refl, ap (λ o. call2_at most i o ts) same)
  word_call2 i _ o ts e = absurd (cc)

  -- the reader by the rule `within` has read the expression up to a rest, as spelled by a rule that is no looser than `rule`
  pub record Reached (within rule : Rule) (n : ℕ) (e : PlainExpr) (from rest : List Token) : Type 0 where
    pub by : Rule
    pub tight : by ≤ rule
    pub reaches : Repeats (operator_at within) (operand_onto most (below most (inner most n) within)) (operands_at most (inner most n) (below most (inner most n) within) within from) (draft_of most e, by) rest

  abbrev pub Complete : Rule → ℕ → PlainExpr → List Token → List Token → Type 0
  Complete rule n e from rest = Loose rule rest → (within : Rule) → rule ≤ within → Reached within rule n e from rest

  -- where it ends there, that is what it reads
  pub ended : (within rule : Rule) (n : ℕ) (e : PlainExpr) (from rest : List Token) → Reached within rule n e from rest → operator_at within rest ≡ None → rule_at most (inner most n) within from ≡ Some (draft_of most e, rest)
  ended within rule n e from rest r none =
      let operands = below most (inner most n) within in
      ap (λ r. and_then r (λ operand rest. Some (operand.0, rest))) (Repeats-end (operator_at within) (operand_onto most operands) (operands_at most (inner most n) operands within from) (draft_of most e, r.by) rest r.reaches none)

  -- what an expression in a construct is read as
  inside : (n : ℕ) (e : PlainExpr) (mid rest : List Token) → Complete E n e mid rest → Loose E rest → operator_at E rest ≡ None → inner most (suc n) E mid ≡ Some (draft_of most e, rest)
  unfolding inner
  inside n e mid rest c loose none = ended E E n e mid rest (c loose E (omega arith)) none

  module _ (n : ℕ) (e : PlainExpr) (mid rest : List Token) where
    last_is : Complete E n e mid (Mark mark.Close ∷ rest) → argument (inner most (suc n)) Close mid ≡ Some (draft_of most e, rest)
    last_is c = ap (up_to (terminal_at Close)) (inside n e mid (Mark mark.Close ∷ rest) c (λ o e. absurd (cc e)) refl)

    argument_is : Complete E n e mid (Mark mark.Comma ∷ rest) → argument (inner most (suc n)) Comma mid ≡ Some (draft_of most e, rest)
    argument_is c = ap (up_to (terminal_at Comma)) (inside n e mid (Mark mark.Comma ∷ rest) c (λ o e. absurd (cc e)) refl)

  call2_is : (i : Readers) (o : Op) (mid after rest : List Token) (a b : PlainExpr) → argument i Comma mid ≡ Some (draft_of most a, after) → argument i Close after ≡ Some (draft_of most b, rest) → call2_at most i o mid ≡ Some (draft_of most (Binary (operator.Call o) a b), rest)
  call2_is i o mid after rest a b first last =
      ap (λ r. and_then r (λ a next. and_then (argument i Close next) (λ b rest. Some (with2 most (Binary (operator.Call o)) a b, rest)))) first
      ∙ ap (λ r. and_then r (λ b rest. Some (with2 most (Binary (operator.Call o)) (draft_of most a) b, rest))) last
      ∙ ap (λ d. Some (d, rest)) (with2-draft most (Binary (operator.Call o)) a b)

  choice_is : (i : Readers) (mid after third rest : List Token) (c a b : PlainExpr) → argument i Comma mid ≡ Some (draft_of most c, after) → argument i Comma after ≡ Some (draft_of most a, third) → argument i Close third ≡ Some (draft_of most b, rest) → choice_at most i mid ≡ Some (draft_of most (If c a b), rest)
  choice_is i mid after third rest c a b first second last =
      ap (λ r. and_then r (λ c next. and_then (argument i Comma next) (λ a last. and_then (argument i Close last) (λ b rest. Some (with3 most If c a b, rest))))) first
      ∙ ap (λ r. and_then r (λ a last. and_then (argument i Close last) (λ b rest. Some (with3 most If (draft_of most c) a b, rest)))) second
      ∙ ap (λ r. and_then r (λ b rest. Some (with3 most If (draft_of most c) (draft_of most a) b, rest))) last
      ∙ ap (λ d. Some (d, rest)) (with3-draft most If c a b)

  in_range : (number : ℕ) → FitsSigned w64 (pos number) → nat_lt number greatest_number ≡ true
  in_range number fits = (Decides-ltb number greatest_number).1 (omega (arith, fits.sfits))

  minus_in_range : (number : ℕ) (z : ℤ) → z ≡ neg_ℤ (pos number) → FitsSigned w64 z → nat_le number greatest_number ≡ true
  minus_in_range zero z e fits = refl
  minus_in_range (suc k) z e fits =
      let same : FitsSigned w64 (negsuc k) = subst (FitsSigned w64) e fits in
      let small : suc k ≤ greatest_number = omega (arith, same.sfits) in
      grind (arith, nat_tests, small)

  -- an atom, whatever stands behind it
  an_atom : (n : ℕ) (e : PlainExpr) (t : Token) (ts rest : List Token) → prefix_of t ≡ None → atom_at most (inner most n) t ts ≡ Some (draft_of most e, rest) → Complete ATOM n e (t ∷ ts) rest
  an_atom n e t ts rest none read = λ loose within le. record {
    by = ATOM;
    tight = omega arith;
    reaches = Repeats-first (operator_at within) (operand_onto most (below most (inner most n) within)) (first_at most (inner most n) within (t ∷ ts)) (draft_of most e, ATOM) rest
        (ap (first_step most (inner most n) within t ts) none ∙ ap (spelled_by ATOM) read);
  }

  -- an operation before its operand
  a_prefixed : (n : ℕ) (a : PlainExpr) (t : Token) (p : Prefix) (mid rest : List Token) → prefix_of t ≡ Some p → Complete p.rule n a mid rest → Complete p.rule (suc n) (Call1 p.op a) (t ∷ mid) rest
  unfolding inner
  a_prefixed n a t p mid rest is c = λ loose within le.
      let i = inner most (suc n) in
      let operand : inner most (suc n) p.rule mid ≡ Some (draft_of most a, rest) = ended p.rule p.rule n a mid rest (c loose p.rule (omega arith)) (prefix_stops t p rest is loose) in
      record {
        by = p.rule;
        tight = omega arith;
        reaches = Repeats-first (operator_at within) (operand_onto most (below most i within)) (first_at most i within (t ∷ mid)) (draft_of most (Call1 p.op a), p.rule) rest
            (ap (first_step most i within t mid) is
            ∙ ap (λ b. cond {A = ReadOf Operand} b (spelled_by p.rule (operated most p.op (i p.rule mid))) None) (is_le p.rule within le)
            ∙ ap (λ r. spelled_by p.rule (operated most p.op r)) operand
            ∙ ap (λ d. Some ((d, p.rule), rest)) (with1-draft most (Call1 p.op) a));
      }

  -- an operator between two operands
  module _ (n : ℕ) (a b : PlainExpr) (t : Token) (o : Infix) (from mid rest : List Token) (is : infix_of t ≡ Some o) where
    own : Loose o.left (t ∷ mid)
    own q e =
        let same : o ≡ q = cc (is, e) in
        let fits = infix_fits t o is in
        let le = fits.left in
        subst (λ (x : Infix). o.left ≤ x.rule) same le

    an_operation : Complete o.left n a from (t ∷ mid) → Complete o.right n b mid rest → length rest < length mid → Complete o.rule n (Binary o.operator a b) from rest
    an_operation c d shorter = λ loose within le.
        let fits = infix_fits t o is in
        let i = inner most n in
        let left = fits.left in
        let right = fits.right in
        let first = c own within (omega (arith, left, le)) in
        let last = d (looser_too o.right o.rule rest (omega (arith, right)) loose) o.right (omega arith) in
        let operand = below_is most i within o.right mid (omega (arith, right, le)) ∙ ended o.right o.right n b mid rest last (stops o.right o.rule rest right loose) in
        let tight = first.tight in
        record {
          by = o.rule;
          tight = omega arith;
          reaches = Repeats-next (operator_at within) (operand_onto most (below most i within)) (operands_at most i (below most i within) within from) (draft_of most a, first.by) (t ∷ mid) first.reaches o mid
              (ap (operator_step within mid) is ∙ ap (λ b. cond {A = ReadOf Infix} b (Some (o, mid)) None) (is_le o.rule within le))
              (draft_of most (Binary o.operator a b), o.rule) rest
              (ap (λ c. cond {A = ReadOf Operand} c (spelled_by o.rule (joined_onto most (below most i within) o (draft_of most a) mid)) None) (is_le first.by o.left tight)
              ∙ ap (λ r. spelled_by o.rule (and_then r (λ b rest. Some (with2 most (Binary o.operator) (draft_of most a) b, rest)))) operand
              ∙ ap (λ d. Some ((d, o.rule), rest)) (with2-draft most (Binary o.operator) a b))
              (omega (arith, shorter));
        }

  pub complete : {rule : Rule} {n : ℕ} {e : PlainExpr} {from rest : List Token} → Spells rule n e from rest → Complete rule n e from rest
  complete (g.looser {r = r} {s = s} {n = n} {e = e} {from = from} {rest = rest} h x) = λ loose within le.
      let q = complete x (looser_too r s rest h loose) within (omega (arith, h, le)) in
      let tight = q.tight in
      record { by = q.by; tight = omega (arith, tight, h); reaches = q.reaches }
  complete (g.operation {n = n} {a = a} {b = b} {from = from} {mid = mid} {rest = rest} t {o = o} e s u) = an_operation n a b t o from mid rest e (complete s) (complete u) (shorter u)
  complete (g.prefixed {n = n} {a = a} {mid = mid} {rest = rest} t {p = p} e s) = a_prefixed n a t p mid rest e (complete s)
  complete (g.an_int {n = n} {number = number} {rest = rest} fits) =
      an_atom n (Literal (cell.Int (pos number))) (Number number) rest rest refl (ap (λ b. cond b (Some (kept_one most (Literal (cell.Int (pos number))), rest)) None) (in_range number fits))
  complete (g.a_minus_int {n = n} {number = number} {z = z} {rest = rest} e fits) =
      an_atom n (Literal (cell.Int z)) (Mark mark.Sign) (Number number ∷ rest) rest refl
      (ap (λ b. cond b (Some (kept_one most (Literal (cell.Int (neg_ℤ (pos number)))), rest)) None) (minus_in_range number z e fits)
      ∙ ap (λ z. Some (kept_one most (Literal (cell.Int z)), rest)) (sym e))
  complete (g.a_text {n = n} {t = t} {rest = rest}) = an_atom n (Literal (cell.Text t)) (Text t) rest rest refl refl
  complete (g.a_truth {n = n} {b = true} {rest = rest}) = an_atom n (Literal (cell.Bool true)) (Word word.True) rest rest refl refl
  complete (g.a_truth {n = n} {b = false} {rest = rest}) = an_atom n (Literal (cell.Bool false)) (Word word.False) rest rest refl refl
  complete (g.a_column {n = n} {name = name} {rest = rest}) = an_atom n (Column name) (Name name) rest rest refl refl
  complete (g.in_parens {n = n} {e = e} {mid = mid} {rest = rest} s) = an_atom (suc n) e (Mark mark.Open) mid rest refl (last_is n e mid rest (complete s))
  complete (g.call1 {n = n} {a = a} {mid = mid} {rest = rest} w {o = o} e s) =
      let call = word_call1 (inner most (suc n)) w o mid e in
      an_atom (suc n) (Call1 o a) (Word w) (Mark mark.Open ∷ mid) rest call.0 (call.1 ∙ ap (operated most o) (last_is n a mid rest (complete s)) ∙ ap (λ d. Some (d, rest)) (with1-draft most (Call1 o) a))
  complete (g.call2 {n = n} {a = a} {b = b} {mid = mid} {next = after} {rest = rest} w {o = o} e s t) =
      let call = word_call2 (inner most (suc n)) w o mid e in
      an_atom (suc n) (Binary (operator.Call o) a b) (Word w) (Mark mark.Open ∷ mid) rest call.0
      (call.1 ∙ call2_is (inner most (suc n)) o mid after rest a b (argument_is n a mid after (complete s)) (last_is n b after rest (complete t)))
  complete (g.choice {n = n} {c = c} {a = a} {b = b} {mid = mid} {next = after} {last = third} {rest = rest} s t u) =
      an_atom (suc n) (If c a b) (Word word.If) (Mark mark.Open ∷ mid) rest refl
      (choice_is (inner most (suc n)) mid after third rest c a b (argument_is n c mid after (complete s)) (argument_is n a after third (complete t)) (last_is n b third rest (complete u)))

-- no operator stands behind an expression
record NoOperator (rest : List Token) : Type 0 where
  loose : Loose E rest
  no_operator : operator_at E rest ≡ None

expr_ends : (rest : List Token) → EndsExpr rest → NoOperator rest
expr_ends [] e = record { loose = tt; no_operator = refl }
expr_ends (Mark mark.Bar ∷ rest) e = record { loose = λ o e. absurd (cc e); no_operator = refl }
expr_ends (Mark mark.Comma ∷ rest) e = record { loose = λ o e. absurd (cc e); no_operator = refl }
expr_ends (Mark mark.Close ∷ rest) e = record { loose = λ o e. absurd (cc e); no_operator = refl }
expr_ends _ e = absurd e

pub spelled_is_read : (most : Counts) (levels : ℕ) (e : PlainExpr) (from rest : List Token) → EndsExpr rest → Spells E levels e from rest → expr_at most (inner most levels) from ≡ Some (draft_of most e, rest)
spelled_is_read most n e from rest behind s = let no = expr_ends rest behind in ended most E E n e from rest (complete most s no.loose E (omega arith)) no.no_operator

-- the rule spells an expression of which this is kept
pub record Spelled (most : Counts) (rule : Rule) (n : ℕ) (d : PlainDraft) (from rest : List Token) : Type 0 where
  pub expr : PlainExpr
  pub is : d ≡ draft_of most expr
  pub spells : Spells rule n expr from rest

-- a rule spells the operand, one that is no looser than `within`
record SpelledOperand (most : Counts) (within n : ℕ) (x : Operand) (from rest : List Token) : Type 0 where
  expr : PlainExpr
  rule : Rule
  is : x ≡ (draft_of most expr, rule)
  tight : rule ≤ within
  spells : Spells rule n expr from rest

-- the readers within a construct, of which n levels may be open
abbrev SoundWithin : Counts → ℕ → Readers → Type 0
SoundWithin most n i = (rule : Rule) (from rest : List Token) (d : PlainDraft) → i rule from ≡ Some (d, rest) → (m : ℕ) × (n ≡ suc m) × Spelled most rule m d from rest

module _ (most : Counts) where
  abbrev pub Sound : Rule → ℕ → Reader → Type 0
  Sound rule n reader = (from rest : List Token) (d : PlainDraft) → reader from ≡ Some (d, rest) → Spelled most rule n d from rest

  here : (rule : Rule) (n : ℕ) (e : PlainExpr) (from ts rest : List Token) (d : PlainDraft) → Spells rule n e from ts → ◌≡◌ {A = ReadOf PlainDraft} (Some (draft_of most e, ts)) (Some (d, rest)) → Spelled most rule n d from rest
  here rule n e from ts rest d s q = let p = both (draft_of most e) d ts rest q in record { expr = e; is = sym p.0; spells = subst (λ r. Spells rule n e from r) p.1 s }

  in_i64 : (number : ℕ) → nat_lt number greatest_number ≡ true → FitsSigned w64 (pos number)
  in_i64 number e = let small = (Decides-ltb number greatest_number).0 e in record { sfits = omega (arith, small) }

  minus_in_i64 : (number : ℕ) → nat_le number greatest_number ≡ true → FitsSigned w64 (neg_ℤ (pos number))
  minus_in_i64 zero e = record { sfits = omega arith }
  minus_in_i64 (suc k) e = let small : suc k ≤ greatest_number = grind (arith, nat_tests, e) in record { sfits = omega (arith, small) }

  number_sound : (n number : ℕ) (ts rest : List Token) (d : PlainDraft) → number_atom most number ts ≡ Some (d, rest) → Spelled most ATOM n d (Number number ∷ ts) rest
  number_sound n number ts rest d q = by (nat_lt number greatest_number) refl q
    where
      by : (b : Bool) → nat_lt number greatest_number ≡ b → cond {A = ReadOf PlainDraft} b (Some (kept_one most (Literal (cell.Int (pos number))), ts)) None ≡ Some (d, rest) → Spelled most ATOM n d (Number number ∷ ts) rest
      by true e q = here ATOM n (Literal (cell.Int (pos number))) (Number number ∷ ts) ts rest d (g.an_int (in_i64 number e)) q
      by false e q = absurd (cc q)

  minus_sound : (n : ℕ) (ts rest : List Token) (d : PlainDraft) → minus_atom most ts ≡ Some (d, rest) → Spelled most ATOM n d (Mark mark.Sign ∷ ts) rest
  minus_sound n (Number number ∷ ts) rest d q = by (nat_le number greatest_number) refl q
    where
      by : (b : Bool) → nat_le number greatest_number ≡ b → cond {A = ReadOf PlainDraft} b (Some (kept_one most (Literal (cell.Int (neg_ℤ (pos number)))), ts)) None ≡ Some (d, rest) → Spelled most ATOM n d (Mark mark.Sign ∷ Number number ∷ ts) rest
      by true e q = here ATOM n (Literal (cell.Int (neg_ℤ (pos number)))) (Mark mark.Sign ∷ Number number ∷ ts) ts rest d (g.a_minus_int refl (minus_in_i64 number e)) q
      by false e q = absurd (cc q)
  minus_sound n _ rest d q = absurd (cc q)

  module _ (i : Readers) (n : ℕ) (within : SoundWithin most n i) where
    call1_sound : (w : the_word.Word) (o : Op) → call1_op w ≡ Some o → (mid rest : List Token) (d : PlainDraft) → call1_at most i o mid ≡ Some (d, rest) → Spelled most ATOM n d (Word w ∷ Mark mark.Open ∷ mid) rest
    call1_sound w o e mid rest d q =
        let read = made_some (argument i Close mid) (with1 most (Call1 o)) d rest q in
        let s = within E mid (Mark mark.Close ∷ rest) read.0 (up_to_some Close (i E mid) read.0 rest read.1) in
        let whole : Spells ATOM (suc s.0) (Call1 o s.2.expr) (Word w ∷ Mark mark.Open ∷ mid) rest = g.call1 w e s.2.spells in
        record {
          expr = Call1 o s.2.expr;
          is = read.2 ∙ ap (with1 most (Call1 o)) s.2.is ∙ with1-draft most (Call1 o) s.2.expr;
          spells = subst (λ k. Spells ATOM k (Call1 o s.2.expr) (Word w ∷ Mark mark.Open ∷ mid) rest) (sym s.1) whole;
        }

    -- arguments, each with the levels that are left
    call2_sound : (w : the_word.Word) (o : Op) → call2_op w ≡ Some o → (mid rest : List Token) (d : PlainDraft) → call2_at most i o mid ≡ Some (d, rest) → Spelled most ATOM n d (Word w ∷ Mark mark.Open ∷ mid) rest
    call2_sound w o e mid rest d q =
        let first = then_some (argument i Comma mid) (λ a next. and_then (argument i Close next) (λ b rest. Some (with2 most (Binary (operator.Call o)) a b, rest))) (d, rest) q in
        let last = made_some (argument i Close first.1) (with2 most (Binary (operator.Call o)) first.0) d rest first.3 in
        let s = within E mid (Mark mark.Comma ∷ first.1) first.0 (up_to_some Comma (i E mid) first.0 first.1 first.2) in
        let t = within E first.1 (Mark mark.Close ∷ rest) last.0 (up_to_some Close (i E first.1) last.0 rest last.1) in
        let same : t.0 ≡ s.0 = omega (arith, s.1, t.1) in
        let second : Spells E s.0 t.2.expr first.1 (Mark mark.Close ∷ rest) = subst (λ k. Spells E k t.2.expr first.1 (Mark mark.Close ∷ rest)) same t.2.spells in
        let whole : Spells ATOM (suc s.0) (Binary (operator.Call o) s.2.expr t.2.expr) (Word w ∷ Mark mark.Open ∷ mid) rest = g.call2 w e s.2.spells second in
        record {
          expr = Binary (operator.Call o) s.2.expr t.2.expr;
          is = last.2 ∙ (λ k. with2 most (Binary (operator.Call o)) (s.2.is k) (t.2.is k)) ∙ with2-draft most (Binary (operator.Call o)) s.2.expr t.2.expr;
          spells = subst (λ k. Spells ATOM k (Binary (operator.Call o) s.2.expr t.2.expr) (Word w ∷ Mark mark.Open ∷ mid) rest) (sym s.1) whole;
        }

    choice_sound : (mid rest : List Token) (d : PlainDraft) → choice_at most i mid ≡ Some (d, rest) → Spelled most ATOM n d (Word word.If ∷ Mark mark.Open ∷ mid) rest
    choice_sound mid rest d q =
        let first = then_some (argument i Comma mid) (λ c next. and_then (argument i Comma next) (λ a last. and_then (argument i Close last) (λ b rest. Some (with3 most If c a b, rest)))) (d, rest) q in
        let second = then_some (argument i Comma first.1) (λ a last. and_then (argument i Close last) (λ b rest. Some (with3 most If first.0 a b, rest))) (d, rest) first.3 in
        let last = made_some (argument i Close second.1) (with3 most If first.0 second.0) d rest second.3 in
        let s = within E mid (Mark mark.Comma ∷ first.1) first.0 (up_to_some Comma (i E mid) first.0 first.1 first.2) in
        let t = within E first.1 (Mark mark.Comma ∷ second.1) second.0 (up_to_some Comma (i E first.1) second.0 second.1 second.2) in
        let u = within E second.1 (Mark mark.Close ∷ rest) last.0 (up_to_some Close (i E second.1) last.0 rest last.1) in
        let same : t.0 ≡ s.0 = omega (arith, s.1, t.1) in
        let again : u.0 ≡ s.0 = omega (arith, s.1, u.1) in
        let two : Spells E s.0 t.2.expr first.1 (Mark mark.Comma ∷ second.1) = subst (λ k. Spells E k t.2.expr first.1 (Mark mark.Comma ∷ second.1)) same t.2.spells in
        let three : Spells E s.0 u.2.expr second.1 (Mark mark.Close ∷ rest) = subst (λ k. Spells E k u.2.expr second.1 (Mark mark.Close ∷ rest)) again u.2.spells in
        let whole : Spells ATOM (suc s.0) (If s.2.expr t.2.expr u.2.expr) (Word word.If ∷ Mark mark.Open ∷ mid) rest = g.choice s.2.spells two three in
        record {
          expr = If s.2.expr t.2.expr u.2.expr;
          is = last.2 ∙ (λ k. with3 most If (s.2.is k) (t.2.is k) (u.2.is k)) ∙ with3-draft most If s.2.expr t.2.expr u.2.expr;
          spells = subst (λ k. Spells ATOM k (If s.2.expr t.2.expr u.2.expr) (Word word.If ∷ Mark mark.Open ∷ mid) rest) (sym s.1) whole;
        }

    function_sound : (w : the_word.Word) (mid rest : List Token) (d : PlainDraft) → function_at most i w mid ≡ Some (d, rest) → Spelled most ATOM n d (Word w ∷ Mark mark.Open ∷ mid) rest
    function_sound word.If mid rest d q = choice_sound mid rest d q
    function_sound word.Len mid rest d q = call1_sound word.Len op.Len refl mid rest d q
    function_sound word.Abs mid rest d q = call1_sound word.Abs op.Abs refl mid rest d q
    function_sound word.Starts mid rest d q = call2_sound word.Starts op.Starts refl mid rest d q
    function_sound word.Least mid rest d q = call2_sound word.Least op.Least refl mid rest d q
    function_sound word.Most mid rest d q = call2_sound word.Most op.Most refl mid rest d q
    function_sound _ mid rest d q = absurd (cc q)

    opened : (w : the_word.Word) (ts rest : List Token) (d : PlainDraft) → and_then (terminal_at Open ts) (λ _. function_at most i w) ≡ Some (d, rest) → Spelled most ATOM n d (Word w ∷ ts) rest
    opened w ts rest d q =
        let o = then_some (terminal_at Open ts) (λ _. function_at most i w) (d, rest) q in
        subst (λ ts. Spelled most ATOM n d (Word w ∷ ts) rest) (sym (terminal_some Open ts o.1 o.2)) (function_sound w o.1 rest d o.3)

    word_sound : (w : the_word.Word) (ts rest : List Token) (d : PlainDraft) → word_atom most i w ts ≡ Some (d, rest) → Spelled most ATOM n d (Word w ∷ ts) rest
    word_sound word.True ts rest d q = here ATOM n (Literal (cell.Bool true)) (Word word.True ∷ ts) ts rest d (g.a_truth {b = true}) q
    word_sound word.False ts rest d q = here ATOM n (Literal (cell.Bool false)) (Word word.False ∷ ts) ts rest d (g.a_truth {b = false}) q
    word_sound w ts rest d q = opened w ts rest d q

    mark_sound : (m : the_mark.Mark) (ts rest : List Token) (d : PlainDraft) → mark_atom most i m ts ≡ Some (d, rest) → Spelled most ATOM n d (Mark m ∷ ts) rest
    mark_sound mark.Open ts rest d q =
        let s = within E ts (Mark mark.Close ∷ rest) d (up_to_some Close (i E ts) d rest q) in
        let whole : Spells ATOM (suc s.0) s.2.expr (Mark mark.Open ∷ ts) rest = g.in_parens s.2.spells in
        record { expr = s.2.expr; is = s.2.is; spells = subst (λ k. Spells ATOM k s.2.expr (Mark mark.Open ∷ ts) rest) (sym s.1) whole }
    mark_sound mark.Sign ts rest d q = minus_sound n ts rest d q
    mark_sound _ ts rest d q = absurd (cc q)

    atom_sound : (t : Token) (ts rest : List Token) (d : PlainDraft) → atom_at most i t ts ≡ Some (d, rest) → Spelled most ATOM n d (t ∷ ts) rest
    atom_sound (Name name) ts rest d q = here ATOM n (Column name) (Name name ∷ ts) ts rest d g.a_column q
    atom_sound (Word w) ts rest d q = word_sound w ts rest d q
    atom_sound (Number number) ts rest d q = number_sound n number ts rest d q
    atom_sound (Text text) ts rest d q = here ATOM n (Literal (cell.Text text)) (Text text ∷ ts) ts rest d g.a_text q
    atom_sound (Mark m) ts rest d q = mark_sound m ts rest d q

    prefixed_sound : (t : Token) (p : Prefix) → prefix_of t ≡ Some p → (ts rest : List Token) (d : PlainDraft) → operated most p.op (i p.rule ts) ≡ Some (d, rest) → Spelled most p.rule n d (t ∷ ts) rest
    prefixed_sound t p e ts rest d q =
        let read = made_some (i p.rule ts) (with1 most (Call1 p.op)) d rest q in
        let s = within p.rule ts rest read.0 read.1 in
        let whole : Spells p.rule (suc s.0) (Call1 p.op s.2.expr) (t ∷ ts) rest = g.prefixed t e s.2.spells in
        record {
          expr = Call1 p.op s.2.expr;
          is = read.2 ∙ ap (with1 most (Call1 p.op)) s.2.is ∙ with1-draft most (Call1 p.op) s.2.expr;
          spells = subst (λ k. Spells p.rule k (Call1 p.op s.2.expr) (t ∷ ts) rest) (sym s.1) whole;
        }

    -- what was spelled by a rule
    by_rule : (own rule : Rule) (from : List Token) → own ≤ rule → (read : ReadOf PlainDraft) (x : Operand) (rest : List Token) → spelled_by own read ≡ Some (x, rest)
        → ((d : PlainDraft) → read ≡ Some (d, rest) → Spelled most own n d from rest) → SpelledOperand most rule n x from rest
    by_rule own rule from le read x rest q sound =
        let f = made_some read (λ d. (d, own)) x rest q in
        let s = sound f.0 f.1 in
        record { expr = s.expr; rule = own; is = f.2 ∙ ap (λ d. (d, own)) s.is; tight = le; spells = s.spells }

    first_sound : (rule : Rule) (from rest : List Token) (x : Operand) → first_at most i rule from ≡ Some (x, rest) → SpelledOperand most rule n x from rest
    first_sound rule [] rest x q = absurd (cc q)
    first_sound rule (t ∷ ts) rest x q = by (prefix_of t) refl q
      where
        by : (o : Option Prefix) → prefix_of t ≡ o → first_step most i rule t ts o ≡ Some (x, rest) → SpelledOperand most rule n x (t ∷ ts) rest
        by None e q = by_rule ATOM rule (t ∷ ts) (omega arith) (atom_at most i t ts) x rest q (λ d r. atom_sound t ts rest d r)
        by (Some p) e q = allowed (nat_le p.rule rule) refl q
          where
            allowed : (b : Bool) → nat_le p.rule rule ≡ b → cond {A = ReadOf Operand} b (spelled_by p.rule (operated most p.op (i p.rule ts))) None ≡ Some (x, rest) → SpelledOperand most rule n x (t ∷ ts) rest
            allowed true le q = by_rule p.rule rule (t ∷ ts) (grind (arith, nat_tests, le)) (operated most p.op (i p.rule ts)) x rest q (λ d r. prefixed_sound t p e ts rest d r)
            allowed false le q = absurd (cc q)

    -- operands with operators between them, of a rule whose tighter ones are sound
    module _ (rule : Rule) (operands : Readers) (sound : (r : Rule) → Sound r n (operands r)) where
      operator_some : (ts mid : List Token) (o : Infix) → operator_at rule ts ≡ Some (o, mid) → (t : Token) × (ts ≡ t ∷ mid) × (infix_of t ≡ Some o) × (o.rule ≤ rule)
      operator_some [] mid o q = absurd (cc q)
      operator_some (t ∷ ts) mid o q = by (infix_of t) refl q
        where
          by : (x : Option Infix) → infix_of t ≡ x → operator_step rule ts x ≡ Some (o, mid) → (u : Token) × (t ∷ ts ≡ u ∷ mid) × (infix_of u ≡ Some o) × (o.rule ≤ rule)
          by None e q = absurd (cc q)
          by (Some y) e q = allowed (nat_le y.rule rule) refl q
            where
              allowed : (b : Bool) → nat_le y.rule rule ≡ b → cond {A = ReadOf Infix} b (Some (y, ts)) None ≡ Some (o, mid) → (u : Token) × (t ∷ ts ≡ u ∷ mid) × (infix_of u ≡ Some o) × (o.rule ≤ rule)
              allowed true le q =
                  let p = both y o ts mid q in
                  let within : y.rule ≤ rule = grind (arith, nat_tests, le) in
                  (t, ap (λ r. t ∷ r) p.1, e ∙ ap Some p.0, subst (λ (z : Infix). z.rule ≤ rule) p.0 within)
              allowed false le q = absurd (cc q)

      module _ (from : List Token) where
        keeps : (x : Operand) (ts : List Token) (o : Infix) (mid : List Token) (y : Operand) (after : List Token) → SpelledOperand most rule n x from ts → operator_at rule ts ≡ Some (o, mid) → operand_onto most operands o x mid ≡ Some (y, after) → SpelledOperand most rule n y from after
        keeps x ts o mid y after k found q =
            let f = operator_some ts mid o found in
            let onto : operand_onto most operands o (draft_of most k.expr, k.rule) mid ≡ Some (y, after) = sym (ap (λ x. operand_onto most operands o x mid) k.is) ∙ q in
            allowed f.0 f.1 f.2 f.3 (nat_le k.rule o.left) refl onto
          where
            allowed : (t : Token) → ts ≡ t ∷ mid → infix_of t ≡ Some o → o.rule ≤ rule → (b : Bool) → nat_le k.rule o.left ≡ b
                → cond {A = ReadOf Operand} b (spelled_by o.rule (joined_onto most operands o (draft_of most k.expr) mid)) None ≡ Some (y, after) → SpelledOperand most rule n y from after
            allowed t at is within true le q = by_rule o.rule rule from within (joined_onto most operands o (draft_of most k.expr) mid) y after q (λ d r.
                let read = made_some (operands o.right mid) (with2 most (Binary o.operator) (draft_of most k.expr)) d after r in
                let s = sound o.right mid after read.0 read.1 in
                let tight : k.rule ≤ o.left = grind (arith, nat_tests, le) in
                let left : Spells o.left n k.expr from (t ∷ mid) = g.looser tight (subst (λ ts. Spells k.rule n k.expr from ts) at k.spells) in
                record {
                  expr = Binary o.operator k.expr s.expr;
                  is = read.2 ∙ ap (with2 most (Binary o.operator) (draft_of most k.expr)) s.is ∙ with2-draft most (Binary o.operator) k.expr s.expr;
                  spells = g.operation t is left s.spells;
                })
            allowed t at is within false le q = absurd (cc q)

        operands_sound : (rest : List Token) (x : Operand) → operands_at most i operands rule from ≡ Some (x, rest) → SpelledOperand most rule n x from rest
        operands_sound rest x q =
            let read = then_some (first_at most i rule from) (all_repeated (operator_at rule) (operand_onto most operands)) (x, rest) q in
            repeated_keeps (operator_at rule) (operand_onto most operands) (λ x ts. SpelledOperand most rule n x from ts) keeps (suc (length read.1)) read.0 read.1 x rest (first_sound rule from read.1 read.0 read.2) read.3

      read_by_sound : Sound rule n (read_by most i operands rule)
      read_by_sound from rest d q =
          let read = made_some (operands_at most i operands rule from) (λ operand. operand.0) d rest q in
          let s = operands_sound from rest read.0 read.1 in
          record { expr = s.expr; is = read.2 ∙ ap (λ x. x.0) s.is; spells = g.looser s.tight s.spells }

    below_sound : (k : ℕ) (rule : Rule) → Sound rule n (below most i k rule)
    unfolding below
    below_sound zero rule from rest d q = absurd (cc q)
    below_sound (suc k) rule from rest d q = by (nat_eq rule k) refl q (below_sound k)
      where
        own : Reader
        own ts = read_by most i (below most i k) k ts

        by : (b : Bool) → nat_eq rule k ≡ b → cond b own (below most i k rule) from ≡ Some (d, rest) → ((r : Rule) → Sound r n (below most i k r)) → Spelled most rule n d from rest
        by true e q again = let same : k ≡ rule = grind (arith, nat_tests, e) in subst (λ r. Spelled most r n d from rest) same (read_by_sound k (below most i k) again from rest d q)
        by false e q again = again rule from rest d q

    rule_sound : (rule : Rule) → Sound rule n (rule_at most i rule)
    rule_sound rule = read_by_sound rule (below most i rule) (below_sound rule)

  inner_sound : (n : ℕ) → SoundWithin most n (inner most n)
  unfolding inner
  inner_sound zero = λ rule from rest d q. absurd (cc q)
  inner_sound (suc n) = λ rule from rest d q. (n, refl, rule_sound (inner most n) n (inner_sound n) rule from rest d q)

  -- what is read as an expression is spelled so
  pub read_is_spelled : (n : ℕ) → Sound E n (rule_at most (inner most n) E)
  read_is_spelled n = rule_sound (inner most n) n (inner_sound n) E
