-- Where some text spells a plan, the bytes of its canonical text are read as its canonical tokens.
use Prim.Native.Nat.{suc}
use Rattle.std.proofs.Common.{◌≡◌, refl, sym, ap, ◌∙◌, subst, ℕ, ◌^◌, ◌<◌, ◌≤◌, Bool, true, false, cond, ◌==◌, nat_le, List, [], ◌∷◌, ◌++◌, take, drop, Option, Some, None, pos, negsuc, FitsSigned, w64, decimal, append_assoc, append-nil, arith}
use Rattle.std.proofs.lemmas.Grind.{flat_map-append}
use Rattle.std.specs.List.{flat_map, AllByRecursion}
use Rattle.std.specs.Option.{option_map}
use Rattle.rows_core.specs.Name.{is_name, is_name_byte, is_reserved}
use Rattle.rows_core.specs.Txt.{IsTxt}
use Rattle.scalar_ops.specs.declared.cell.Cell.{Cell}
use Rattle.scalar_ops.specs.declared.cell.Cell.TheVariants as cell
use Rattle.scalar_ops.specs.declared.table.Op.{Op}
use Rattle.scalar_ops.specs.declared.table.Op.TheVariants as op
use Rattle.plan_text.specs.declared.token.Token.{Token}
use Rattle.plan_text.specs.declared.token.Token.TheVariants.{Name, Word, Number, Text, Mark}
use Rattle.plan_text.specs.declared.token.Mark as the_mark
use Rattle.plan_text.specs.declared.token.Mark.TheVariants as mark
use Rattle.plan_text.specs.declared.token.Word as the_word
use Rattle.plan_text.specs.declared.token.Word.TheVariants as word
use Rattle.plan_text.specs.declared.plan.AggFunction as agg_function
use Rattle.plan_text.specs.declared.plan.AggFunction.TheVariants as column_function
use Rattle.plan_text.specs.declared.plan.NamedAgg.{NamedAgg}
use Rattle.plan_text.specs.declared.plan.NamedAgg.TheVariants as agg
use Rattle.plan_text.specs.Token.{word_with, greatest_number, name_or_number, number_with, word_or, word_token, before, word_len, word_at, mark_at, text_behind, text_at, mark_token, token_at, IsToken, trimmed, AreTokens}
use Rattle.plan_text.specs.PlainNamed.{PlainExpr, PlainTree}
use Rattle.plan_text.specs.Grammar as g
use Rattle.plan_text.specs.declared.operator.Operator as the_operator
use Rattle.plan_text.specs.declared.operator.Operator.TheVariants as operator
use Rattle.plan_text.specs.Operators.{Rule, UN, NOT, E}
use Rattle.plan_text.specs.Grammar.{Spells, Listed, SpellsName, SpellsColumn, SpellsPair, SpellsKey, SpellsResult, SpellsPlan, function_word, agg_word}
use Rattle.plan_text.specs.Spelled.{SpellsExpr, SpellsText}
use Rattle.plan_text.specs.Canonical.{Piece, Space, One, spelling, text_of, piece_bytes, Form, Between, Function, NoForm, form_of, call_form, rule_of, in_parens, within, behind_comma, literal, between, function, call1, formed, bare, canonical_expr, listed, name_piece, named, column_pieces, pair_pieces, key_pieces, argument_pieces, result_pieces, stage, canonical, canonical_text}
use Rattle.plan_text.proofs.CanonicalSpelled.{onto, onto-append, expr_respelled, plan_respelled}
use Rattle.plan_text.proofs.CanonicalRead.{Ends, GoodName, IsGood, is_good_token, is_sign, token_read, sign_read, decimal_digit_first}
use Rattle.plan_text.proofs.TokenLemmas.{both}

-- the bytes of the pieces are read as their tokens, up to a rest before which a token ends
abbrev Reads : List Piece → Type 0
Reads pieces = (more : List Token) (rest : List ℕ) → Ends rest → AreTokens more rest → AreTokens (onto pieces more) (text_of pieces ++ rest)

-- a token ends before these pieces
abbrev Begins : List Piece → Type 0
Begins pieces = (rest : List ℕ) → Ends rest → Ends (text_of pieces ++ rest)

reads_none : Reads []
reads_none more rest e a = a

reads_space : (pieces : List Piece) → Reads pieces → Reads (Space ∷ pieces)
reads_space pieces r more rest e a = by (onto pieces more) (text_of pieces ++ rest) (r more rest e a)
  where
    by : (tokens : List Token) (text : List ℕ) → AreTokens tokens text → AreTokens tokens (32 ∷ text)
    by [] text a = a
    by (t ∷ tokens) text a = a

reads_open : (pieces : List Piece) → Reads pieces → Reads (One (Mark mark.Open) ∷ pieces)
unfolding token_at mark_at
reads_open pieces r more rest e a = (text_of pieces ++ rest, refl, tt, r more rest e a)

reads_close : (pieces : List Piece) → Reads pieces → Reads (One (Mark mark.Close) ∷ pieces)
unfolding token_at mark_at
reads_close pieces r more rest e a = (text_of pieces ++ rest, refl, tt, r more rest e a)

reads_comma : (pieces : List Piece) → Reads pieces → Reads (One (Mark mark.Comma) ∷ pieces)
unfolding token_at mark_at
reads_comma pieces r more rest e a = (text_of pieces ++ rest, refl, tt, r more rest e a)

reads_token : (t : Token) → IsGood t → (pieces : List Piece) → Begins pieces → Reads pieces → Reads (One t ∷ pieces)
reads_token t good pieces begins r more rest e a =
    let behind = text_of pieces ++ rest in
    (behind, ap (λ text. token_at (trimmed text)) (append_assoc (spelling t) (text_of pieces) rest) ∙ token_read t good behind (begins rest e), is_good_token t good, r more rest e a)

reads_last : (t : Token) → IsGood t → Reads (One t ∷ [])
reads_last t good = reads_token t good [] (λ rest e. e) reads_none

reads_append : (xs ys : List Piece) → Reads xs → Begins ys → Reads ys → Reads (xs ++ ys)
reads_append xs ys r begins s more rest e a =
    let both_read : AreTokens (onto xs (onto ys more)) (text_of xs ++ (text_of ys ++ rest)) = r (onto ys more) (text_of ys ++ rest) (begins rest e) (s more rest e a) in
    let bytes : (text_of xs ++ (text_of ys ++ rest)) ≡ text_of (xs ++ ys) ++ rest =
    sym (append_assoc (text_of xs) (text_of ys) rest) ∙ ap (λ b. b ++ rest) (sym (flat_map-append piece_bytes xs ys)) in
    subst (λ ts. AreTokens ts (text_of (xs ++ ys) ++ rest)) (sym (onto-append xs ys more)) (subst (AreTokens (onto xs (onto ys more))) bytes both_read)

reads_in_parens : (pieces : List Piece) → Reads pieces → Reads (in_parens pieces)
reads_in_parens pieces r = reads_open (pieces ++ One (Mark mark.Close) ∷ []) (reads_append pieces (One (Mark mark.Close) ∷ []) r (λ rest e. refl) (reads_close [] reads_none))

reads_between : (xs ys : List Piece) (t : Token) → IsGood t → Reads xs → Reads ys → Reads (between xs t ys)
reads_between xs ys t good r s =
    reads_append xs (Space ∷ One t ∷ Space ∷ ys) r (λ rest e. refl) (reads_space (One t ∷ Space ∷ ys) (reads_token t good (Space ∷ ys) (λ rest e. refl) (reads_space ys s)))

reads_behind_comma : (pieces : List Piece) → Reads pieces → Reads (behind_comma pieces)
reads_behind_comma pieces r = reads_comma (Space ∷ pieces) (reads_space pieces r)

reads_function : (w : the_word.Word) (pieces : List Piece) → Reads pieces → Reads (function w pieces)
reads_function w pieces r = reads_token (Word w) tt (in_parens pieces) (λ rest e. refl) (reads_in_parens pieces r)

reads_word : (w : the_word.Word) (pieces : List Piece) → Reads pieces → Reads (One (Word w) ∷ Space ∷ pieces)
reads_word w pieces r = reads_token (Word w) tt (Space ∷ pieces) (λ rest e. refl) (reads_space pieces r)

reads_name : (name : List ℕ) → GoodName name → Reads (name_piece name)
reads_name name good = reads_last (Name name) good

reads_named : (name : List ℕ) (pieces : List Piece) → GoodName name → Reads pieces → Reads (named name pieces)
reads_named name pieces good r = reads_between (name_piece name) pieces (Mark mark.Equal) refl (reads_name name good) r

-- a number below 0
reads_minus : (number : ℕ) → number ≤ greatest_number → Reads (One (Mark mark.Sign) ∷ One (Number number) ∷ [])
reads_minus number le more rest e a =
    let behind = text_of (One (Number number) ∷ []) ++ rest in
    let small : number < 2 ^ 64 = omega (arith, le) in
    let same : behind ≡ decimal number ++ rest = ap (λ b. b ++ rest) (append-nil (decimal number)) in
    (behind, ap (λ r. token_at (trimmed (45 ∷ r))) same ∙ sign_read (decimal number ++ rest) (decimal_digit_first number small rest) ∙ ap (λ r. Some (Mark mark.Sign, r)) (sym same), tt, reads_last (Number number) le more rest e a)

-- a literal that some text spells
abbrev WrittenCell : Cell → Type 0
WrittenCell (cell.Int z) = FitsSigned w64 z
WrittenCell (cell.Text text) = IsTxt text
WrittenCell (cell.Bool truth) = Unit {0}

reads_literal : (c : Cell) → WrittenCell c → Reads (literal c)
reads_literal (cell.Int (pos number)) w = let small : number ≤ greatest_number = omega (arith, w.sfits) in reads_last (Number number) small
reads_literal (cell.Int (negsuc number)) w = let small : suc number ≤ greatest_number = omega (arith, w.sfits) in reads_minus (suc number) small
reads_literal (cell.Text text) w = reads_last (Text text) w
reads_literal (cell.Bool true) w = reads_last (Word word.True) tt
reads_literal (cell.Bool false) w = reads_last (Word word.False) tt

reads_call1 : (o : Op) (a : Rule → List Piece) → ((rule : Rule) → Reads (a rule)) → Reads (call1 o a)
reads_call1 op.Not a r = reads_word word.Not (a NOT) (r NOT)
reads_call1 op.Neg a r = reads_token (Mark mark.Minus) refl (Space ∷ a UN) (λ rest e. refl) (reads_space (a UN) (r UN))
reads_call1 op.Len a r = reads_function word.Len (a E) (r E)
reads_call1 op.Abs a r = reads_function word.Abs (a E) (r E)
reads_call1 _ a r = reads_none

-- a token that isn't read where it ends stands between no operands
abbrev is_apart : Form → Bool
is_apart (Between (Mark m) o) = is_sign m
is_apart (Between (Word w) o) = false
is_apart (Between _ o) = true
is_apart _ = false

none_apart : (j : the_operator.Operator) → is_apart (form_of j) ≡ false
unfolding call_form
none_apart (operator.Call op.Eq) = refl
none_apart _ = refl

reads_formed : (f : Form) (a b : Rule → List Piece) → is_apart f ≡ false → ((rule : Rule) → Reads (a rule)) → ((rule : Rule) → Reads (b rule)) → Reads (formed f a b)
reads_formed (Between (Mark m) o) a b plain r s = reads_between (a o.left) (b o.right) (Mark m) plain (r o.left) (s o.right)
reads_formed (Between (Word w) o) a b plain r s = reads_between (a o.left) (b o.right) (Word w) tt (r o.left) (s o.right)
reads_formed (Between _ o) a b plain r s = absurd (cc plain)
reads_formed (Function w) a b plain r s = reads_function w (a E ++ behind_comma (b E)) (reads_append (a E) (behind_comma (b E)) (r E) (λ rest e. refl) (reads_behind_comma (b E) (s E)))
reads_formed NoForm a b plain r s = reads_none

reads_within : (wanted own : Rule) (pieces : List Piece) → Reads pieces → Reads (within wanted own pieces)
reads_within wanted own pieces r = by (nat_le own wanted)
  where
    by : (b : Bool) → Reads (cond b pieces (in_parens pieces))
    by true = r
    by false = reads_in_parens pieces r

reads_operands : (j : the_operator.Operator) (a b : PlainExpr) → Reads (bare a) → Reads (bare b) → Reads (formed (form_of j) (λ rule. canonical_expr rule a) (λ rule. canonical_expr rule b))
reads_operands j a b r s =
    reads_formed (form_of j) (λ rule. canonical_expr rule a) (λ rule. canonical_expr rule b) (none_apart j) (λ rule. reads_within rule (rule_of a) (bare a) r) (λ rule. reads_within rule (rule_of b) (bare b) s)

reads_canonical : (rule : Rule) (e : PlainExpr) → Reads (bare e) → Reads (canonical_expr rule e)
reads_canonical rule e r = reads_within rule (rule_of e) (bare e) r

-- lists
module _ {A : Type 0} (item : A → List Piece) where
  abbrev further : List A → List Piece
  further xs = flat_map (λ y. behind_comma (item y)) xs

  begins_further : (xs : List A) → Begins (further xs)
  begins_further [] rest e = e
  begins_further (x ∷ xs) rest e = refl

  reads_further : (xs : List A) → AllByRecursion (λ x. Reads (item x)) xs → Reads (further xs)
  reads_further [] all = reads_none
  reads_further (x ∷ xs) all = reads_comma (Space ∷ (item x ++ further xs)) (reads_space (item x ++ further xs) (reads_append (item x) (further xs) all.0 (begins_further xs) (reads_further xs all.1)))

  reads_listed : (xs : List A) → AllByRecursion (λ x. Reads (item x)) xs → Reads (listed item xs)
  reads_listed [] all = reads_none
  reads_listed (x ∷ xs) all = reads_append (item x) (further xs) all.0 (begins_further xs) (reads_further xs all.1)

agg_name : (a : NamedAgg) → GoodName (agg_word a)
unfolding is_name is_reserved word_with
agg_name agg.Count = (refl, refl)
agg_name (agg.Of f column) = by f
  where
    by : (f : agg_function.AggFunction) → GoodName (function_word f)
    by column_function.Sum = (refl, refl)
    by _ = (refl, refl)

-- a stage with something behind its word
reads_stage : (plan pieces : List Piece) (w : the_word.Word) → Reads plan → Reads pieces → Reads (stage plan w (Space ∷ pieces))
reads_stage plan pieces w r s = reads_between plan (One (Word w) ∷ Space ∷ pieces) (Mark mark.Bar) refl r (reads_word w pieces s)

-- a name or a text as it comes from a text
abbrev FromText : Token → Type 0
FromText (Name name) = GoodName name
FromText (Text text) = IsTxt text
FromText _ = Unit {0}

abbrev AllFromText : List Token → Type 0
AllFromText tokens = AllByRecursion FromText tokens

-- a word that is a name
good_word : (w name : List ℕ) → word_token w ≡ Some (Name name) → GoodName name
good_word w name e = by (word_with w) refl e
  where
    a_name : (b : Bool) → is_name w ≡ b → word_with w ≡ None → cond b (Some (Name w)) (option_map Number (number_with w)) ≡ Some (Name name) → GoodName name
    a_name true is none f = let same : w ≡ name = cc f in subst GoodName same (is, none)
    a_name false is none f = absurd (a_number (number_with w) f)
      where
        a_number : (n : Option ℕ) → option_map Number n ≡ Some (Name name) → ⊥
        a_number None f = cc f
        a_number (Some n) f = cc f

    by : (o : Option the_word.Word) → word_with w ≡ o → word_or o (name_or_number w) ≡ Some (Name name) → GoodName name
    by None none f = a_name (is_name w) refl none f
    by (Some v) some f = absurd (cc f)

good_word_at : (text name rest : List ℕ) → word_at text ≡ Some (Name name, rest) → GoodName name
unfolding word_at
good_word_at text name rest e = let w = word_token (text_word text) in by w refl e
  where
    text_word : List ℕ → List ℕ
    text_word text = take (word_len text) text

    by : (o : Option Token) → word_token (text_word text) ≡ o → before (drop (word_len text) text) o ≡ Some (Name name, rest) → GoodName name
    by None is f = absurd (cc f)
    by (Some t) is f = good_word (text_word text) name (is ∙ ap Some (both t (Name name) (drop (word_len text) text) rest f).0)

good_name : (text name rest : List ℕ) → token_at text ≡ Some (Name name, rest) → GoodName name
unfolding token_at
good_name [] name rest e = absurd (cc e)
good_name (c ∷ cs) name rest e = by (is_name_byte c) (c == 34) e
  where
    no_text : (o : Option (List ℕ × List ℕ)) → option_map {U = Token × List ℕ} (λ f. (Text f.0, f.1)) o ≡ Some (Name name, rest) → ⊥
    no_text None f = cc f
    no_text (Some found) f = let same : Text found.0 ≡ Name name = (both (Text found.0) (Name name) found.1 rest f).0 in absurd (cc same)

    no_mark : (o : Option (the_mark.Mark × List ℕ)) → option_map {U = Token × List ℕ} (λ m. (Mark m.0, m.1)) o ≡ Some (Name name, rest) → ⊥
    no_mark None f = cc f
    no_mark (Some found) f = let same : Mark found.0 ≡ Name name = (both (Mark found.0) (Name name) found.1 rest f).0 in absurd (cc same)

    by : (b q : Bool) → cond b (word_at (c ∷ cs)) (cond q (text_at cs) (mark_token c cs)) ≡ Some (Name name, rest) → GoodName name
    by true q f = good_word_at (c ∷ cs) name rest f
    by false true f = absurd (no_text (text_behind false cs) f)
    by false false f = absurd (no_mark (mark_at c cs) f)

all_from_text : (tokens : List Token) (text : List ℕ) → AreTokens tokens text → AllFromText tokens
all_from_text [] text a = tt
all_from_text (t ∷ tokens) text a = (by t a.1 a.2, all_from_text tokens a.0 a.3)
  where
    by : (t : Token) → token_at (trimmed text) ≡ Some (t, a.0) → IsToken t → FromText t
    by (Name name) at is = good_name (trimmed text) name a.0 at
    by (Text text) at is = is
    by _ at is = tt

-- what is spelled by the tokens of a text is read, and what stands behind it is of the text
reads_expr : {rule : Rule} {n : ℕ} {e : PlainExpr} {from rest : List Token} → Spells rule n e from rest → AllFromText from → Reads (bare e) × AllFromText rest
reads_expr (g.looser h s) all = reads_expr s all
reads_expr (g.operation {a = a} {b = b} t {o = o} e s u) all =
    let v = reads_expr s all in
    let w = reads_expr u v.1.1 in
    (reads_operands o.operator a b v.0 w.0, w.1)
reads_expr (g.prefixed {a = a} t {p = p} e s) all = let v = reads_expr s all.1 in (reads_call1 p.op (λ rule. canonical_expr rule a) (λ rule. reads_canonical rule a v.0), v.1)
reads_expr (g.an_int {number = number} fits) all = (reads_literal (cell.Int (pos number)) fits, all.1)
reads_expr (g.a_minus_int {z = z} e fits) all = (reads_literal (cell.Int z) fits, all.1.1)
reads_expr (g.a_text {t = t}) all = (reads_literal (cell.Text t) all.0, all.1)
reads_expr (g.a_truth {b = b}) all = (reads_literal (cell.Bool b) tt, all.1)
reads_expr (g.a_column {name = name}) all = (reads_name name all.0, all.1)
reads_expr (g.in_parens s) all = let v = reads_expr s all.1 in (v.0, v.1.1)
reads_expr (g.call1 {a = a} w {o = o} e s) all = let v = reads_expr s all.1.1 in (reads_call1 o (λ rule. canonical_expr rule a) (λ rule. reads_canonical rule a v.0), v.1.1)
reads_expr (g.call2 {a = a} {b = b} w {o = o} e s u) all =
    let v = reads_expr s all.1.1 in
    let w = reads_expr u v.1.1 in
    (reads_operands (operator.Call o) a b v.0 w.0, w.1.1)
reads_expr (g.choice {c = c} {a = a} {b = b} s t u) all =
    let first = canonical_expr E c in
    let second = canonical_expr E a in
    let third = canonical_expr E b in
    let v = reads_expr s all.1.1 in
    let w = reads_expr t v.1.1 in
    let x = reads_expr u w.1.1 in (
      reads_function word.If (first ++ (behind_comma second ++ behind_comma third))
          (reads_append first (behind_comma second ++ behind_comma third) (reads_canonical E c v.0) (λ rest e. refl) (reads_append (behind_comma second) (behind_comma third) (reads_behind_comma second (reads_canonical E a w.0)) (λ rest e. refl) (reads_behind_comma third (reads_canonical E b x.0)))),
      x.1.1,
    )

-- an item that is spelled by the tokens of a text
abbrev ReadsItem : {A : Type 0} → (A → List Token → List Token → Type 0) → (A → List Piece) → Type 0
ReadsItem {A} Item item = (x : A) (from rest : List Token) → Item x from rest → AllFromText from → Reads (item x) × AllFromText rest

module _ {A : Type 0} (Item : A → List Token → List Token → Type 0) (item : A → List Piece) (reads : ReadsItem Item item) where
  reads_each : (xs : List A) (from rest : List Token) → Listed Item xs from rest → AllFromText from → AllByRecursion (λ x. Reads (item x)) xs × AllFromText rest
  reads_each [] from rest l all = absurd l
  reads_each (x ∷ []) from rest l all = let a = reads x from rest l all in ((a.0, tt), a.1)
  reads_each (x ∷ y ∷ more) from rest l all =
      let a = reads x from (Mark mark.Comma ∷ l.0) l.1 all in
      let others = reads_each (y ∷ more) l.0 rest l.2 a.1.1 in
      ((a.0, others.0), others.1)

  reads_items : (xs : List A) (from rest : List Token) → Listed Item xs from rest → AllFromText from → Reads (listed item xs) × AllFromText rest
  reads_items xs from rest l all = let each = reads_each xs from rest l all in (reads_listed item xs each.0, each.1)

reads_name_item : ReadsItem SpellsName name_piece
reads_name_item name from rest e all = let a : AllFromText (Name name ∷ rest) = subst AllFromText e all in (reads_name name a.0, a.1)

reads_column : (n : ℕ) → ReadsItem (SpellsColumn n) column_pieces
reads_column n column from rest s all =
    let a : AllFromText (Name column.name ∷ Mark mark.Equal ∷ s.0) = subst AllFromText s.1 all in
    let b = reads_expr s.2 a.1.1 in
    (reads_named column.name (canonical_expr E column.expr) a.0 (reads_canonical E column.expr b.0), b.1)

reads_pair : ReadsItem SpellsPair pair_pieces
reads_pair pair from rest e all =
    let a : AllFromText (Name pair.left ∷ Mark mark.Equal ∷ Name pair.right ∷ rest) = subst AllFromText e all in
    (reads_named pair.left (name_piece pair.right) a.0 (reads_name pair.right a.1.1.0), a.1.1.1)

reads_key : ReadsItem SpellsKey key_pieces
reads_key key from rest e all = let a = subst AllFromText e all in by key.down a.0 a.1
  where
    by : (b : Bool) → GoodName key.column → AllFromText (cond b (Word word.Desc ∷ rest) rest) → Reads (One (Name key.column) ∷ cond b (Space ∷ One (Word word.Desc) ∷ []) []) × AllFromText rest
    by true w all = (reads_token (Name key.column) w (Space ∷ One (Word word.Desc) ∷ []) (λ rest e. refl) (reads_space (One (Word word.Desc) ∷ []) (reads_last (Word word.Desc) tt)), all.1)
    by false w all = (reads_name key.column w, all)

reads_argument : (a : NamedAgg) (rest : List Token) → AllFromText (g.agg_argument a ++ Mark mark.Close ∷ rest) → Reads (argument_pieces a) × AllFromText rest
reads_argument agg.Count rest all = (reads_none, all.1)
reads_argument (agg.Of f column) rest all = (reads_name column all.0, all.1.1)

reads_result : (n : ℕ) → ReadsItem (SpellsResult n) result_pieces
reads_result n result from rest s all =
    let a : AllFromText (Name result.name ∷ Mark mark.Equal ∷ Name (agg_word result.agg) ∷ Mark mark.Open ∷ (g.agg_argument result.agg ++ Mark mark.Close ∷ rest)) = subst AllFromText s.1 all in
    let b = reads_argument result.agg rest a.1.1.1.1 in
    let argument = in_parens (argument_pieces result.agg) in (
      reads_named result.name (One (Name (agg_word result.agg)) ∷ argument) a.0
          (reads_token (Name (agg_word result.agg)) (agg_name result.agg) argument (λ rest e. refl) (reads_in_parens (argument_pieces result.agg) b.0)),
      b.1,
    )

reads_plan : {n : ℕ} {p : PlainTree} {from rest : List Token} → SpellsPlan n p from rest → AllFromText from → Reads (canonical p) × AllFromText rest
reads_plan (g.stream {name = name}) all = (reads_word word.From (name_piece name) (reads_name name all.1.0), all.1.1)
reads_plan (g.filter {p = p} {test = test} s t) all =
    let a = reads_plan s all in
    let b = reads_expr t a.1.1.1 in
    (reads_stage (canonical p) (canonical_expr E test) word.Where a.0 (reads_canonical E test b.0), b.1)
reads_plan (g.select {n = n} {p = p} {columns = columns} {mid = mid} {rest = rest} s l) all =
    let a = reads_plan s all in
    let b = reads_items (SpellsColumn n) column_pieces (reads_column n) columns mid rest l a.1.1.1 in
    (reads_stage (canonical p) (listed column_pieces columns) word.Select a.0 b.0, b.1)
reads_plan (g.distinct {p = p} s) all = let a = reads_plan s all in (reads_between (canonical p) (One (Word word.Distinct) ∷ []) (Mark mark.Bar) refl a.0 (reads_last (Word word.Distinct) tt), a.1.1.1)
reads_plan (g.group {n = n} {p = p} {keys = keys} {results = results} {mid = mid} {rest = rest} next s l r) all =
    let a = reads_plan s all in
    let b = reads_items SpellsName name_piece reads_name_item keys mid (Word word.With ∷ next) l a.1.1.1 in
    let c = reads_items (SpellsResult n) result_pieces (reads_result n) results next rest r b.1.1 in (
      reads_stage (canonical p) (between (listed name_piece keys) (Word word.With) (listed result_pieces results)) word.Group a.0
          (reads_between (listed name_piece keys) (listed result_pieces results) (Word word.With) tt b.0 c.0),
      c.1,
    )
reads_plan (g.join {p = p} {q = q} {on = on} {next = next} {rest = rest} s t l) all =
    let a = reads_plan s all in
    let b = reads_plan t a.1.1.1.1 in
    let c = reads_items SpellsPair pair_pieces reads_pair on next rest l b.1.1.1 in (
      reads_stage (canonical p) (between (in_parens (canonical q)) (Word word.On) (listed pair_pieces on)) word.Join a.0
          (reads_between (in_parens (canonical q)) (listed pair_pieces on) (Word word.On) tt (reads_in_parens (canonical q) b.0) c.0),
      c.1,
    )
reads_plan (g.concat {p = p} {q = q} s t) all =
    let a = reads_plan s all in
    let b = reads_plan t a.1.1.1.1 in
    (reads_stage (canonical p) (in_parens (canonical q)) word.Concat a.0 (reads_in_parens (canonical q) b.0), b.1.1)
reads_plan (g.order {p = p} {keys = keys} {mid = mid} {rest = rest} s l) all =
    let a = reads_plan s all in
    let b = reads_items SpellsKey key_pieces reads_key keys mid rest l a.1.1.1 in
    (reads_stage (canonical p) (listed key_pieces keys) word.Order a.0 b.0, b.1)

-- where some text spells the plan the canonical one does
pub canonical_spells : (plan : PlainTree) (text : List ℕ) → SpellsText plan text → SpellsText plan (canonical_text plan)
canonical_spells plan text s =
    let w = reads_plan s.spells (all_from_text s.tokens text s.are) in
    let are : AreTokens (onto (canonical plan) []) (text_of (canonical plan) ++ []) = w.0 [] [] tt refl in
    record {
      tokens = onto (canonical plan) [];
      are = subst (AreTokens (onto (canonical plan) [])) (append-nil (text_of (canonical plan))) are;
      spells = plan_respelled s.spells [];
    }

pub canonical_expr_spells : (e : PlainExpr) (text : List ℕ) → SpellsExpr e text → SpellsExpr e (text_of (canonical_expr E e))
canonical_expr_spells e text s =
    let pieces = canonical_expr E e in
    let w = reads_expr s.spells (all_from_text s.tokens text s.are) in
    let are : AreTokens (onto pieces []) (text_of pieces ++ []) = reads_canonical E e w.0 [] [] tt refl in
    record {
      tokens = onto pieces [];
      are = subst (AreTokens (onto pieces [])) (append-nil (text_of pieces)) are;
      spells = expr_respelled E 32 e s.tokens [] s.spells [];
    }
