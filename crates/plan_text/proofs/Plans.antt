-- The items of the lists in a plan, and plans: what is spelled is read, and what is read is spelled.
use Prim.Native.Nat.{zero, suc}
use Rattle.std.proofs.Common.{◌≡◌, refl, sym, ap, ◌∙◌, subst, ℕ, ◌<◌, Bool, true, false, cond, List, [], ◌∷◌, ◌++◌, length, Option, Some, None, codes, bytes_eq, arith}
use Rattle.std.proofs.lemmas.Slice.Eq.{bytes_eq-Decides}
use Rattle.std.specs.Option.{option_map}
use Rattle.plan_text.specs.declared.token.Token.{Token}
use Rattle.plan_text.specs.declared.token.Token.TheVariants.{Name, Word, Mark}
use Rattle.plan_text.specs.declared.token.Mark.TheVariants as mark
use Rattle.plan_text.specs.declared.token.Word.TheVariants as word
use Rattle.plan_text.specs.declared.plan.AggFunction as agg_function
use Rattle.plan_text.specs.declared.plan.AggFunction.TheVariants as function
use Rattle.plan_text.specs.declared.plan.NamedAgg.{NamedAgg}
use Rattle.plan_text.specs.declared.plan.NamedAgg.TheVariants as agg
use Rattle.plan_text.specs.declared.plan.NamedResult.{NamedResult}
use Rattle.plan_text.specs.declared.plan.NamedPair.{NamedPair}
use Rattle.plan_text.specs.declared.plan.NamedKey.{NamedKey}
use Rattle.plan_text.specs.PlainNamed.{PlainColumn, PlainExpr, PlainTree, From, Where, Select, Distinct, Group, Join, Concat, Order}
use Rattle.plan_text.specs.Grammar.{EndsExpr, SpellsName, SpellsColumn, SpellsPair, SpellsKey, SpellsResult, function_word, agg_word, agg_argument, Spells, EndsPlan, Listed, SpellsPlan}
use Rattle.plan_text.specs.declared.counts.Counts.{Counts}
use Rattle.plan_text.specs.Draft.{PlainDraft, draft_of, limits}
use Rattle.plan_text.specs.declared.parser.Terminal.TheVariants.{Close, Open, Bar, Comma, On, With}
use Rattle.plan_text.specs.Reader.{and_then, terminal_at, up_to, ReadOf, all_repeated}
use Rattle.plan_text.specs.Reading.{expr_at, inner}
use Rattle.plan_text.specs.PlanDraft.{columns_draft_of, with_column, PlanDraft, plan_draft_of, where_draft, select_draft, group_draft, join_draft, concat_draft, order_draft, from_draft, distinct_draft}
use Rattle.plan_text.specs.PlanReading.{at_end, name_at, named_at, column_at, pair_at, key_of, key_at, function_named, agg_of, count_of, closed_at, argument_at, agg_at, result_at, pairs_at, results_at, inner_plan_at, where_at, select_at, group_at, join_at, concat_at, order_at, stage_at, inner_plan, plan_at, PlanReader, names_at, columns_at, keys_at, from_at, plan_with}
use Rattle.plan_text.proofs.TokenLemmas.{both}
use Rattle.plan_text.proofs.ExprReading.{shorter, read_is_spelled, spelled_is_read}
use Rattle.plan_text.proofs.DraftLemmas.{one_column_more, where_kept, select_kept, distinct_kept, group_kept, join_kept, concat_kept, order_kept}
use Rattle.plan_text.proofs.RepeatLemmas.{then_some, made_some, Repeats, Repeats-start, Repeats-next, Repeats-end, repeated_keeps}
use Rattle.plan_text.proofs.Levels.{terminal_some, up_to_some}
use Rattle.plan_text.proofs.ListLemmas.{itself, ListsItems, ItemSo, list_complete, list_shorter, list_sound, plain_list_sound}
use Rattle.plan_text.specs.Grammar as g
use Rattle.plan_text.specs.Operators.{E}

-- anything may stand behind the item
abbrev pub Anything : List Token → Type 0
Anything rest = Unit {0}

-- no `desc` stands here
abbrev pub NoDesc : List Token → Type 0
NoDesc rest = (name : List ℕ) → key_of name rest ≡ Some (record { column = name; down = false }, rest)

-- what is spelled is read
key_shorter : (down : Bool) (column : List ℕ) (from rest : List Token) → from ≡ Name column ∷ cond down (Word word.Desc ∷ rest) rest → length rest < length from
key_shorter true column from rest e = omega (arith, ap length e)
key_shorter false column from rest e = omega (arith, ap length e)

key_complete : (down : Bool) (column : List ℕ) (rest : List Token) → NoDesc rest → key_of column (cond down (Word word.Desc ∷ rest) rest) ≡ Some (record { column = column; down = down }, rest)
key_complete true column rest ends = refl
key_complete false column rest ends = ends column

agg_shorter : (a : NamedAgg) (rest : List Token) → length rest < length (agg_argument a ++ Mark mark.Close ∷ rest)
agg_shorter agg.Count rest = omega arith
agg_shorter (agg.Of f column) rest = omega arith

agg_complete : (a : NamedAgg) (rest : List Token) → argument_at (agg_word a) (agg_argument a ++ Mark mark.Close ∷ rest) ≡ Some (a, rest)
agg_complete agg.Count rest = refl
agg_complete (agg.Of f column) rest = by f
  where
    by : (f : agg_function.AggFunction) → argument_at (function_word f) (Name column ∷ Mark mark.Close ∷ rest) ≡ Some (agg.Of f column, rest)
    by function.Sum = refl
    by _ = refl

result_complete : (n : ℕ) (name : List ℕ) (a : NamedAgg) (rest : List Token) → 0 < n
    → result_at n (Name name ∷ Mark mark.Equal ∷ Name (agg_word a) ∷ Mark mark.Open ∷ (agg_argument a ++ Mark mark.Close ∷ rest)) ≡ Some (record { name = name; agg = a }, rest)
result_complete zero name a rest some = absurd (omega (arith, some))
result_complete (suc k) name a rest some = ap (λ r. and_then r (λ a rest. Some (record { name = name; agg = a }, rest))) (agg_complete a rest)

result_shorter : (x : NamedResult) (from rest : List Token) → from ≡ Name x.name ∷ Mark mark.Equal ∷ Name (agg_word x.agg) ∷ Mark mark.Open ∷ (agg_argument x.agg ++ Mark mark.Close ∷ rest) → length rest < length from
result_shorter x from rest e = let less = agg_shorter x.agg rest in omega (arith, less, ap length e)

module _ (m : Counts) (n : ℕ) where
  -- what is kept of a column
  abbrev pub column_value : PlainColumn → List ℕ × PlainDraft
  column_value column = (column.name, draft_of m column.expr)

  column_shorter : (x : PlainColumn) (from rest : List Token) → SpellsColumn n x from rest → length rest < length from
  column_shorter x from rest s = let less = shorter s.2 in omega (arith, less, ap length s.1)

  column_complete : (x : PlainColumn) (from rest : List Token) → SpellsColumn n x from rest → EndsExpr rest → column_at m n from ≡ Some (column_value x, rest)
  column_complete x from rest s ends =
      ap (column_at m n) s.1
      ∙ ap (λ r. and_then r (λ e rest. Some ((x.name, e), rest))) (spelled_is_read m n x.expr s.0 rest ends s.2)

-- what is read is spelled
name_some : (from rest : List Token) (a : List ℕ) → name_at from ≡ Some (a, rest) → from ≡ Name a ∷ rest
name_some (Name name ∷ ts) rest a q = let p = both name a ts rest q in λ i. Name (p.0 i) ∷ p.1 i
name_some _ rest a q = absurd (cc q)

named_some : (from rest : List Token) (a : List ℕ) → named_at from ≡ Some (a, rest) → from ≡ Name a ∷ Mark mark.Equal ∷ rest
named_some (Name name ∷ Mark mark.Equal ∷ ts) rest a q = let p = both name a ts rest q in λ i. Name (p.0 i) ∷ Mark mark.Equal ∷ p.1 i
named_some _ rest a q = absurd (cc q)

name_sound : (from rest : List Token) (a : List ℕ) → name_at from ≡ Some (a, rest) → ItemSo SpellsName itself a from rest
name_sound from rest a q = record { item = a; is = refl; spells = name_some from rest a q }

pair_sound : (from rest : List Token) (a : NamedPair) → pair_at from ≡ Some (a, rest) → ItemSo SpellsPair itself a from rest
pair_sound from rest a q =
    let one = then_some (named_at from) (λ left behind. and_then (name_at behind) (λ right rest. Some (record { left = left; right = right }, rest))) (a, rest) q in
    let two = made_some (name_at one.1) (λ right. record { left = one.0; right = right }) a rest one.3 in
    record {
      item = record { left = one.0; right = two.0 };
      is = two.2;
      spells = named_some from one.1 one.0 one.2 ∙ ap (λ r. Name one.0 ∷ Mark mark.Equal ∷ r) (name_some one.1 rest two.0 two.1);
    }

desc_some : (name : List ℕ) (ts rest : List Token) (a : NamedKey) → key_of name ts ≡ Some (a, rest) → (down : Bool) × (a ≡ record { column = name; down = down }) × (ts ≡ cond down (Word word.Desc ∷ rest) rest)
desc_some name (Word word.Desc ∷ ts) rest a q = let p = both (record { column = name; down = true }) a ts rest q in (true, sym p.0, ap (λ r. Word word.Desc ∷ r) p.1)
desc_some name ts rest a q = let p = both (record { column = name; down = false }) a ts rest q in (false, sym p.0, p.1)

key_sound : (from rest : List Token) (a : NamedKey) → key_at from ≡ Some (a, rest) → ItemSo SpellsKey itself a from rest
key_sound from rest a q =
    let one = then_some (name_at from) key_of (a, rest) q in
    let two = desc_some one.0 one.1 rest a one.3 in
    record {
      item = record { column = one.0; down = two.0 };
      is = two.1;
      spells = name_some from one.1 one.0 one.2 ∙ ap (λ r. Name one.0 ∷ r) two.2;
    }

-- the functions are told by their names
one_named : (name : List ℕ) (f found : agg_function.AggFunction) (other : Option agg_function.AggFunction) → cond (bytes_eq name (function_word f)) (Some f) other ≡ Some found → (other ≡ Some found → name ≡ function_word found) → name ≡ function_word found
one_named name f found other q others = by (bytes_eq name (function_word f)) refl q
  where
    by : (b : Bool) → bytes_eq name (function_word f) ≡ b → cond b (Some f) other ≡ Some found → name ≡ function_word found
    by true e q = let same : f ≡ found = cc q in (bytes_eq-Decides name (function_word f)).0 e ∙ ap function_word same
    by false e q = others q

function_some : (name : List ℕ) (found : agg_function.AggFunction) → function_named name ≡ Some found → name ≡ function_word found
function_some name found q =
    one_named name function.Sum found _ q (λ q. one_named name function.Min found _ q (λ q. one_named name function.Max found _ q (λ q.
    one_named name function.First found _ q (λ q. one_named name function.Last found _ q (λ q. one_named name function.Avg found None q (λ q. absurd (cc q)))))))

-- what stands in the parentheses, and behind them
abbrev ArgumentSo : List ℕ → NamedAgg → List Token → List Token → Type 0
ArgumentSo name a ts rest = (name ≡ agg_word a) × (ts ≡ agg_argument a ++ Mark mark.Close ∷ rest)

-- an aggregate that was read up to a parenthesis was there
closed_some : (found : Option NamedAgg) (ts rest : List Token) (a : NamedAgg) → closed_at found ts ≡ Some (a, rest) → (found ≡ Some a) × (ts ≡ Mark mark.Close ∷ rest)
closed_some None ts rest a q = absurd (cc q)
closed_some (Some b) ts rest a q =
    let p = both b a ts (Mark mark.Close ∷ rest) (up_to_some Close (Some (b, ts)) a rest q) in
    (ap Some p.0, p.1)

counted_some : (name : List ℕ) (ts rest : List Token) (a : NamedAgg) → closed_at (count_of name) ts ≡ Some (a, rest) → ArgumentSo name a ts rest
counted_some name ts rest a q = by (bytes_eq name (codes "count")) refl (closed_some (count_of name) ts rest a q).0
  where
    by : (b : Bool) → bytes_eq name (codes "count") ≡ b → cond {A = Option NamedAgg} b (Some agg.Count) None ≡ Some a → ArgumentSo name a ts rest
    by true e found =
        let same : agg.Count ≡ a = cc found in
        let is : name ≡ codes "count" = (bytes_eq-Decides name (codes "count")).0 e in
        subst (λ a. ArgumentSo name a ts rest) same (is, (closed_some (count_of name) ts rest a q).1)
    by false e found = absurd (cc found)

argument_some : (name : List ℕ) (ts rest : List Token) (a : NamedAgg) → argument_at name ts ≡ Some (a, rest) → ArgumentSo name a ts rest
argument_some name (Name column ∷ ts) rest a q = by (function_named name) refl (closed_some (agg_of name column) ts rest a q).0
  where
    by : (o : Option agg_function.AggFunction) → function_named name ≡ o → option_map (λ f. agg.Of f column) o ≡ Some a → ArgumentSo name a (Name column ∷ ts) rest
    by None e found = absurd (cc found)
    by (Some f) e found =
        let same : agg.Of f column ≡ a = cc found in
        subst (λ a. ArgumentSo name a (Name column ∷ ts) rest) same (function_some name f e, ap (λ r. Name column ∷ r) (closed_some (agg_of name column) ts rest a q).1)
argument_some name ts rest a q = counted_some name ts rest a q

agg_some : (n : ℕ) (ts rest : List Token) (a : NamedAgg) → agg_at n ts ≡ Some (a, rest) → (0 < n) × (ts ≡ Name (agg_word a) ∷ Mark mark.Open ∷ (agg_argument a ++ Mark mark.Close ∷ rest))
agg_some zero ts rest a q = absurd (cc q)
agg_some (suc k) ts rest a q =
    let one = then_some (name_at ts) (λ name behind. and_then (terminal_at Open behind) (λ _. argument_at name)) (a, rest) q in
    let two = then_some (terminal_at Open one.1) (λ _. argument_at one.0) (a, rest) one.3 in
    let so = argument_some one.0 two.1 rest a two.3 in
    (omega arith, name_some ts one.1 one.0 one.2 ∙ ap (λ r. Name one.0 ∷ r) (terminal_some Open one.1 two.1 two.2) ∙ (λ i. Name (so.0 i) ∷ Mark mark.Open ∷ so.1 i))

result_sound : (n : ℕ) (from rest : List Token) (a : NamedResult) → result_at n from ≡ Some (a, rest) → ItemSo (SpellsResult n) itself a from rest
result_sound n from rest a q =
    let one = then_some (named_at from) (λ name behind. and_then (agg_at n behind) (λ a rest. Some (record { name = name; agg = a }, rest))) (a, rest) q in
    let two = made_some (agg_at n one.1) (λ a. record { name = one.0; agg = a }) a rest one.3 in
    let so = agg_some n one.1 rest two.0 two.1 in
    record {
      item = record { name = one.0; agg = two.0 };
      is = two.2;
      spells = (so.0, named_some from one.1 one.0 one.2 ∙ ap (λ r. Name one.0 ∷ Mark mark.Equal ∷ r) so.1);
    }

module _ (m : Counts) (n : ℕ) where
  column_sound : (from rest : List Token) (a : List ℕ × PlainDraft) → column_at m n from ≡ Some (a, rest) → ItemSo (SpellsColumn n) (column_value m n) a from rest
  column_sound from rest a q =
      let one = then_some (named_at from) (λ name behind. and_then (expr_at m (inner m n) behind) (λ e rest. Some ((name, e), rest))) (a, rest) q in
      let two = made_some (expr_at m (inner m n) one.1) (λ e. (one.0, e)) a rest one.3 in
      let s = read_is_spelled m n one.1 rest two.0 two.1 in
      record {
        item = record { name = one.0; expr = s.expr };
        is = two.2 ∙ ap (λ e. (one.0, e)) s.is;
        spells = (one.1, named_some from one.1 one.0 one.2, s.spells);
      }

  pub columns_listed : ListsItems (SpellsColumn n) EndsExpr (column_at m n) (with_column m) (columns_draft_of m) (column_value m n)
  columns_listed = record {
    shorter = column_shorter m n;
    complete = column_complete m n;
    sound = column_sound;
    comma = λ rest. tt;
    adds = one_column_more m;
  }

-- the lists of the stages
pub names_listed : ListsItems SpellsName Anything name_at at_end itself itself
names_listed = record {
  shorter = λ x from rest e. omega (arith, ap length e);
  complete = λ x from rest e ends. ap name_at e;
  sound = name_sound;
  comma = λ rest. tt;
  adds = λ done x. refl;
}

pub pairs_listed : ListsItems SpellsPair Anything pair_at at_end itself itself
pairs_listed = record {
  shorter = λ x from rest e. omega (arith, ap length e);
  complete = λ x from rest e ends. ap pair_at e;
  sound = pair_sound;
  comma = λ rest. tt;
  adds = λ done x. refl;
}

pub keys_listed : ListsItems SpellsKey NoDesc key_at at_end itself itself
keys_listed = record {
  shorter = λ x from rest e. key_shorter x.down x.column from rest e;
  complete = λ x from rest e ends. ap key_at e ∙ key_complete x.down x.column rest ends;
  sound = key_sound;
  comma = λ rest name. refl;
  adds = λ done x. refl;
}

pub results_listed : (n : ℕ) → ListsItems (SpellsResult n) Anything (result_at n) at_end itself itself
results_listed n = record {
  shorter = λ x from rest s. result_shorter x from rest s.1;
  complete = λ x from rest s ends. ap (result_at n) s.1 ∙ result_complete n x.name x.agg rest s.0;
  sound = result_sound n;
  comma = λ rest. tt;
  adds = λ done x. refl;
}

-- what may stand behind a stage: a bar, or what may stand behind a plan
record EndsStage (rest : List Token) : Type 0 where
  expr : EndsExpr rest
  no_comma : terminal_at Comma rest ≡ None
  no_desc : NoDesc rest

bar_ends : (rest : List Token) → EndsStage (Mark mark.Bar ∷ rest)
bar_ends rest = record { expr = tt; no_comma = refl; no_desc = λ name. refl }

close_ends : (rest : List Token) → EndsStage (Mark mark.Close ∷ rest)
close_ends rest = record { expr = tt; no_comma = refl; no_desc = λ name. refl }

plan_ends : (rest : List Token) → EndsPlan rest → EndsStage rest
plan_ends [] e = record { expr = tt; no_comma = refl; no_desc = λ name. refl }
plan_ends (Mark mark.Close ∷ rest) e = close_ends rest
plan_ends _ e = absurd e

plan_no_bar : (rest : List Token) → EndsPlan rest → terminal_at Bar rest ≡ None
plan_no_bar [] e = refl
plan_no_bar (Mark mark.Close ∷ rest) e = refl
plan_no_bar _ e = absurd e

-- each plan takes a token at least
pub plan_shorter : {n : ℕ} {p : PlainTree} {from rest : List Token} → SpellsPlan n p from rest → length rest < length from
plan_shorter g.stream = omega arith
plan_shorter (g.filter s t) = omega (arith, plan_shorter s, shorter t)
plan_shorter (g.select {n = n} {columns = columns} {mid = mid} {rest = rest} s t) = let less = list_shorter (columns_listed limits n) columns mid rest t in omega (arith, plan_shorter s, less)
plan_shorter (g.distinct s) = omega (arith, plan_shorter s)
plan_shorter (g.group {n = n} {keys = keys} {results = results} {mid = mid} {rest = rest} behind s t u) =
    let first = list_shorter names_listed keys mid (Word word.With ∷ behind) t in
    let second = list_shorter (results_listed n) results behind rest u in
    omega (arith, plan_shorter s, first, second)
plan_shorter (g.join {on = on} {next = behind} {rest = rest} s t u) = let less = list_shorter pairs_listed on behind rest u in omega (arith, plan_shorter s, plan_shorter t, less)
plan_shorter (g.concat s t) = omega (arith, plan_shorter s, plan_shorter t)
plan_shorter (g.order {keys = keys} {mid = mid} {rest = rest} s t) = let less = list_shorter keys_listed keys mid rest t in omega (arith, plan_shorter s, less)

module _ (most : Counts) where
  -- up to a rest the plan is read, and stages may follow
  abbrev Reading : ℕ → PlainTree → List Token → List Token → Type 0
  Reading n p from rest = Repeats (terminal_at Bar) (λ _. stage_at most (inner_plan most n) n) (plan_at most n from) (plan_draft_of most p) rest

  stage_more : (n : ℕ) (p q : PlainTree) (from behind rest : List Token) → Reading n p from (Mark mark.Bar ∷ behind) → stage_at most (inner_plan most n) n (plan_draft_of most p) behind ≡ Some (plan_draft_of most q, rest) → length rest < length behind → Reading n q from rest
  stage_more n p q from behind rest l read less =
      Repeats-next (terminal_at Bar) (λ _. stage_at most (inner_plan most n) n) (plan_at most n from) (plan_draft_of most p) (Mark mark.Bar ∷ behind) l tt behind refl (plan_draft_of most q) rest read (omega (arith, less))

  ended : (n : ℕ) (p : PlainTree) (from rest : List Token) → terminal_at Bar rest ≡ None → Reading n p from rest → plan_at most n from ≡ Some (plan_draft_of most p, rest)
  ended n p from rest none l = Repeats-end (terminal_at Bar) (λ _. stage_at most (inner_plan most n) n) (plan_at most n from) (plan_draft_of most p) rest l none

  -- a plan in parentheses
  inner_is : (n : ℕ) (ts : List Token) → inner_plan most (suc n) ts ≡ plan_at most n ts
  unfolding inner_plan
  inner_is n ts = refl

  inside : (n : ℕ) (q : PlainTree) (mid rest : List Token) → plan_at most n mid ≡ Some (plan_draft_of most q, Mark mark.Close ∷ rest) → inner_plan_at (inner_plan most (suc n)) (Mark mark.Open ∷ mid) ≡ Some (plan_draft_of most q, rest)
  inside n q mid rest e = ap (up_to (terminal_at Close)) (inner_is n mid ∙ e)

  -- each stage
  module _ (n : ℕ) (p : PlainTree) (mid rest : List Token) (ends : EndsStage rest) where
    abbrev before : PlanDraft
    before = plan_draft_of most p

    where_read : (test : PlainExpr) → Spells E n test mid rest → where_at most n before mid ≡ Some (plan_draft_of most (Where p test), rest)
    where_read test s =
        ap (λ r. and_then r (λ test rest. Some (where_draft most before test, rest))) (spelled_is_read most n test mid rest ends.expr s)
        ∙ ap (λ d. Some (d, rest)) (where_kept most p test)

    select_read : (columns : List PlainColumn) → Listed (SpellsColumn n) columns mid rest → select_at most n before mid ≡ Some (plan_draft_of most (Select p columns), rest)
    select_read columns s =
        ap (λ r. and_then r (λ columns rest. Some (select_draft most before columns, rest))) (list_complete (columns_listed most n) columns mid rest s ends.expr ends.no_comma)
        ∙ ap (λ d. Some (d, rest)) (select_kept most p columns)

    group_read : (keys : List (List ℕ)) (results : List NamedResult) (next : List Token) → Listed SpellsName keys mid (Word word.With ∷ next) → Listed (SpellsResult n) results next rest → group_at most n before mid ≡ Some (plan_draft_of most (Group p keys results), rest)
    group_read keys results next s t =
        ap (λ r. and_then (up_to (terminal_at With) r) (λ keys next. and_then (results_at n next) (λ results rest. Some (group_draft most before keys results, rest)))) (list_complete names_listed keys mid (Word word.With ∷ next) s tt refl)
        ∙ ap (λ r. and_then r (λ results rest. Some (group_draft most before keys results, rest))) (list_complete (results_listed n) results next rest t tt ends.no_comma)
        ∙ ap (λ d. Some (d, rest)) (group_kept most p keys results)

    order_read : (keys : List NamedKey) → Listed SpellsKey keys mid rest → order_at most before mid ≡ Some (plan_draft_of most (Order p keys), rest)
    order_read keys s =
        ap (λ r. and_then r (λ keys rest. Some (order_draft most before keys, rest))) (list_complete keys_listed keys mid rest s ends.no_desc ends.no_comma)
        ∙ ap (λ d. Some (d, rest)) (order_kept most p keys)

    concat_read : (q : PlainTree) → plan_at most n mid ≡ Some (plan_draft_of most q, Mark mark.Close ∷ rest) → concat_at most (inner_plan most (suc n)) before (Mark mark.Open ∷ mid) ≡ Some (plan_draft_of most (Concat p q), rest)
    concat_read q e =
        ap (λ r. and_then r (λ right rest. Some (concat_draft most before right, rest))) (inside n q mid rest e)
        ∙ ap (λ d. Some (d, rest)) (concat_kept most p q)

    join_read : (q : PlainTree) (on : List NamedPair) (next : List Token) → plan_at most n mid ≡ Some (plan_draft_of most q, Mark mark.Close ∷ Word word.On ∷ next) → Listed SpellsPair on next rest → join_at most (inner_plan most (suc n)) before (Mark mark.Open ∷ mid) ≡ Some (plan_draft_of most (Join p q on), rest)
    join_read q on next e s =
        ap (λ r. and_then (up_to (terminal_at On) r) (λ right next. and_then (pairs_at next) (λ on rest. Some (join_draft most before right on, rest)))) (inside n q mid (Word word.On ∷ next) e)
        ∙ ap (λ r. and_then r (λ on rest. Some (join_draft most before (plan_draft_of most q) on, rest))) (list_complete pairs_listed on next rest s tt ends.no_comma)
        ∙ ap (λ d. Some (d, rest)) (join_kept most p q on)

  plan_complete : {n : ℕ} {p : PlainTree} {from rest : List Token} → SpellsPlan n p from rest → EndsStage rest → Reading n p from rest
  plan_complete (g.stream {n = n} {name = name} {rest = rest}) ends =
      Repeats-start (terminal_at Bar) (λ _. stage_at most (inner_plan most n) n) (plan_at most n (Word word.From ∷ Name name ∷ rest)) (plan_draft_of most (From name)) rest refl
  plan_complete (g.filter {n = n} {p = p} {test = test} {from = from} {mid = mid} {rest = rest} s t) ends =
      stage_more n p (Where p test) from (Word word.Where ∷ mid) rest (plan_complete s (bar_ends (Word word.Where ∷ mid))) (where_read n p mid rest ends test t) (omega (arith, shorter t))
  plan_complete (g.select {n = n} {p = p} {columns = columns} {from = from} {mid = mid} {rest = rest} s t) ends =
      let less = list_shorter (columns_listed most n) columns mid rest t in
      stage_more n p (Select p columns) from (Word word.Select ∷ mid) rest (plan_complete s (bar_ends (Word word.Select ∷ mid))) (select_read n p mid rest ends columns t) (omega (arith, less))
  plan_complete (g.distinct {n = n} {p = p} {from = from} {rest = rest} s) ends =
      stage_more n p (Distinct p) from (Word word.Distinct ∷ rest) rest (plan_complete s (bar_ends (Word word.Distinct ∷ rest))) (ap (λ d. Some (d, rest)) (distinct_kept most p)) (omega arith)
  plan_complete (g.group {n = n} {p = p} {keys = keys} {results = results} {from = from} {mid = mid} {rest = rest} next s t u) ends =
      let first = list_shorter names_listed keys mid (Word word.With ∷ next) t in
      let second = list_shorter (results_listed n) results next rest u in
      stage_more n p (Group p keys results) from (Word word.Group ∷ mid) rest (plan_complete s (bar_ends (Word word.Group ∷ mid))) (group_read n p mid rest ends keys results next t u) (omega (arith, first, second))
  plan_complete (g.join {n = n} {p = p} {q = q} {on = on} {from = from} {mid = mid} {next = next} {rest = rest} s t u) ends =
      let less = list_shorter pairs_listed on next rest u in
      let right = ended n q mid (Mark mark.Close ∷ Word word.On ∷ next) refl (plan_complete t (close_ends (Word word.On ∷ next))) in
      stage_more (suc n) p (Join p q on) from (Word word.Join ∷ Mark mark.Open ∷ mid) rest (plan_complete s (bar_ends (Word word.Join ∷ Mark mark.Open ∷ mid))) (join_read n p mid rest ends q on next right u) (omega (arith, plan_shorter t, less))
  plan_complete (g.concat {n = n} {p = p} {q = q} {from = from} {mid = mid} {rest = rest} s t) ends =
      let right = ended n q mid (Mark mark.Close ∷ rest) refl (plan_complete t (close_ends rest)) in
      stage_more (suc n) p (Concat p q) from (Word word.Concat ∷ Mark mark.Open ∷ mid) rest (plan_complete s (bar_ends (Word word.Concat ∷ Mark mark.Open ∷ mid))) (concat_read n p mid rest ends q right) (omega (arith, plan_shorter t))
  plan_complete (g.order {n = n} {p = p} {keys = keys} {from = from} {mid = mid} {rest = rest} s t) ends =
      let less = list_shorter keys_listed keys mid rest t in
      stage_more n p (Order p keys) from (Word word.Order ∷ mid) rest (plan_complete s (bar_ends (Word word.Order ∷ mid))) (order_read n p mid rest ends keys t) (omega (arith, less))

  -- what is spelled is read
  pub spelled_plan_is_read : (levels : ℕ) (p : PlainTree) (from rest : List Token) → EndsPlan rest → SpellsPlan levels p from rest → plan_at most levels from ≡ Some (plan_draft_of most p, rest)
  spelled_plan_is_read n p from rest ends s = ended n p from rest (plan_no_bar rest ends) (plan_complete s (plan_ends rest ends))

-- the grammar spells a plan of which this is kept
pub record PlanSpelled (most : Counts) (n : ℕ) (d : PlanDraft) (from rest : List Token) : Type 0 where
  pub plan : PlainTree
  pub is : d ≡ plan_draft_of most plan
  pub spells : SpellsPlan n plan from rest

module _ (most : Counts) where
  -- the reader within parentheses, where n levels may be open
  abbrev SoundWithin : ℕ → PlanReader → Type 0
  SoundWithin n reader = (from rest : List Token) (d : PlanDraft) → reader from ≡ Some (d, rest) → (m : ℕ) × (n ≡ suc m) × PlanSpelled most m d from rest

  module _ (within : PlanReader) (n : ℕ) (sound : SoundWithin n within) where
    inner_some : (ts rest : List Token) (d : PlanDraft) → inner_plan_at within ts ≡ Some (d, rest) → (mid : List Token) × (ts ≡ Mark mark.Open ∷ mid) × (within mid ≡ Some (d, Mark mark.Close ∷ rest))
    inner_some ts rest d q =
        let o = then_some (terminal_at Open ts) (λ _ mid. up_to (terminal_at Close) (within mid)) (d, rest) q in
        (o.1, terminal_some Open ts o.1 o.2, up_to_some Close (within o.1) d rest o.3)

    -- a stage on a plan that is spelled
    module _ (p : PlainTree) (from : List Token) where
      abbrev kept : PlanDraft
      kept = plan_draft_of most p

      abbrev So : PlanDraft → List Token → Type 0
      So d rest = PlanSpelled most n d from rest

      where_sound : (ts rest : List Token) (d : PlanDraft) → SpellsPlan n p from (Mark mark.Bar ∷ Word word.Where ∷ ts) → where_at most n kept ts ≡ Some (d, rest) → So d rest
      where_sound ts rest d s q =
          let read = made_some (expr_at most (inner most n) ts) (where_draft most kept) d rest q in
          let t = read_is_spelled most n ts rest read.0 read.1 in
          record { plan = Where p t.expr; is = read.2 ∙ ap (where_draft most kept) t.is ∙ where_kept most p t.expr; spells = g.filter s t.spells }

      select_sound : (ts rest : List Token) (d : PlanDraft) → SpellsPlan n p from (Mark mark.Bar ∷ Word word.Select ∷ ts) → select_at most n kept ts ≡ Some (d, rest) → So d rest
      select_sound ts rest d s q =
          let read = made_some (columns_at most n ts) (select_draft most kept) d rest q in
          let t = list_sound (columns_listed most n) ts read.0 rest read.1 in
          record { plan = Select p t.items; is = read.2 ∙ ap (select_draft most kept) t.is ∙ select_kept most p t.items; spells = g.select s t.spells }

      group_sound : (ts rest : List Token) (d : PlanDraft) → SpellsPlan n p from (Mark mark.Bar ∷ Word word.Group ∷ ts) → group_at most n kept ts ≡ Some (d, rest) → So d rest
      group_sound ts rest d s q =
          let keys = then_some (up_to (terminal_at With) (names_at ts)) (λ keys next. and_then (results_at n next) (λ results rest. Some (group_draft most kept keys results, rest))) (d, rest) q in
          let read = made_some (results_at n keys.1) (group_draft most kept keys.0) d rest keys.3 in
          let first = plain_list_sound names_listed ts keys.0 (Word word.With ∷ keys.1) (up_to_some With (names_at ts) keys.0 keys.1 keys.2) in
          let second = plain_list_sound (results_listed n) keys.1 read.0 rest read.1 in
          record { plan = Group p keys.0 read.0; is = read.2 ∙ group_kept most p keys.0 read.0; spells = g.group keys.1 s first second }

      order_sound : (ts rest : List Token) (d : PlanDraft) → SpellsPlan n p from (Mark mark.Bar ∷ Word word.Order ∷ ts) → order_at most kept ts ≡ Some (d, rest) → So d rest
      order_sound ts rest d s q =
          let read = made_some (keys_at ts) (order_draft most kept) d rest q in
          let keys = plain_list_sound keys_listed ts read.0 rest read.1 in
          record { plan = Order p read.0; is = read.2 ∙ order_kept most p read.0; spells = g.order s keys }

      distinct_sound : (ts rest : List Token) (d : PlanDraft) → SpellsPlan n p from (Mark mark.Bar ∷ Word word.Distinct ∷ ts) → ◌≡◌ {A = ReadOf PlanDraft} (Some (distinct_draft most kept, ts)) (Some (d, rest)) → So d rest
      distinct_sound ts rest d s q =
          let e = both (distinct_draft most kept) d ts rest q in
          record { plan = Distinct p; is = sym e.0 ∙ distinct_kept most p; spells = g.distinct (subst (λ r. SpellsPlan n p from (Mark mark.Bar ∷ Word word.Distinct ∷ r)) e.1 s) }

      concat_sound : (ts rest : List Token) (d : PlanDraft) → SpellsPlan n p from (Mark mark.Bar ∷ Word word.Concat ∷ ts) → concat_at most within kept ts ≡ Some (d, rest) → So d rest
      concat_sound ts rest d s q =
          let read = made_some (inner_plan_at within ts) (concat_draft most kept) d rest q in
          let i = inner_some ts rest read.0 read.1 in
          let t = sound i.0 (Mark mark.Close ∷ rest) read.0 i.2 in
          let left : SpellsPlan (suc t.0) p from (Mark mark.Bar ∷ Word word.Concat ∷ Mark mark.Open ∷ i.0) = subst (λ k. SpellsPlan k p from (Mark mark.Bar ∷ Word word.Concat ∷ Mark mark.Open ∷ i.0)) t.1 (subst (λ r. SpellsPlan n p from (Mark mark.Bar ∷ Word word.Concat ∷ r)) i.1 s) in
          let whole : SpellsPlan (suc t.0) (Concat p t.2.plan) from rest = g.concat left t.2.spells in
          record {
            plan = Concat p t.2.plan;
            is = read.2 ∙ ap (concat_draft most kept) t.2.is ∙ concat_kept most p t.2.plan;
            spells = subst (λ k. SpellsPlan k (Concat p t.2.plan) from rest) (sym t.1) whole;
          }

      join_sound : (ts rest : List Token) (d : PlanDraft) → SpellsPlan n p from (Mark mark.Bar ∷ Word word.Join ∷ ts) → join_at most within kept ts ≡ Some (d, rest) → So d rest
      join_sound ts rest d s q =
          let right = then_some (up_to (terminal_at On) (inner_plan_at within ts)) (λ right next. and_then (pairs_at next) (λ on rest. Some (join_draft most kept right on, rest))) (d, rest) q in
          let read = made_some (pairs_at right.1) (join_draft most kept right.0) d rest right.3 in
          let on = plain_list_sound pairs_listed right.1 read.0 rest read.1 in
          let i = inner_some ts (Word word.On ∷ right.1) right.0 (up_to_some On (inner_plan_at within ts) right.0 right.1 right.2) in
          let t = sound i.0 (Mark mark.Close ∷ Word word.On ∷ right.1) right.0 i.2 in
          let left : SpellsPlan (suc t.0) p from (Mark mark.Bar ∷ Word word.Join ∷ Mark mark.Open ∷ i.0) = subst (λ k. SpellsPlan k p from (Mark mark.Bar ∷ Word word.Join ∷ Mark mark.Open ∷ i.0)) t.1 (subst (λ r. SpellsPlan n p from (Mark mark.Bar ∷ Word word.Join ∷ r)) i.1 s) in
          let whole : SpellsPlan (suc t.0) (Join p t.2.plan read.0) from rest = g.join left t.2.spells on in
          record {
            plan = Join p t.2.plan read.0;
            is = read.2 ∙ ap (λ right. join_draft most kept right read.0) t.2.is ∙ join_kept most p t.2.plan read.0;
            spells = subst (λ k. SpellsPlan k (Join p t.2.plan read.0) from rest) (sym t.1) whole;
          }

      stage_sound : (ts rest : List Token) (d : PlanDraft) → SpellsPlan n p from (Mark mark.Bar ∷ ts) → stage_at most within n kept ts ≡ Some (d, rest) → So d rest
      stage_sound (Word word.Where ∷ ts) rest d s q = where_sound ts rest d s q
      stage_sound (Word word.Select ∷ ts) rest d s q = select_sound ts rest d s q
      stage_sound (Word word.Distinct ∷ ts) rest d s q = distinct_sound ts rest d s q
      stage_sound (Word word.Group ∷ ts) rest d s q = group_sound ts rest d s q
      stage_sound (Word word.Join ∷ ts) rest d s q = join_sound ts rest d s q
      stage_sound (Word word.Concat ∷ ts) rest d s q = concat_sound ts rest d s q
      stage_sound (Word word.Order ∷ ts) rest d s q = order_sound ts rest d s q
      stage_sound _ rest d s q = absurd (cc q)

    module _ (from : List Token) where
      first_sound : (rest : List Token) (d : PlanDraft) → from_at most from ≡ Some (d, rest) → PlanSpelled most n d from rest
      first_sound = by from
        where
          by : (from rest : List Token) (d : PlanDraft) → from_at most from ≡ Some (d, rest) → PlanSpelled most n d from rest
          by (Word word.From ∷ Name name ∷ ts) rest d q =
              let e = both (from_draft most name) d ts rest q in
              record { plan = From name; is = sym e.0; spells = subst (λ r. SpellsPlan n (From name) (Word word.From ∷ Name name ∷ ts) r) e.1 g.stream }
          by _ rest d q = absurd (cc q)

      keeps : (d : PlanDraft) (ts : List Token) (o : Unit {0}) (behind : List Token) (t : PlanDraft) (after : List Token) → PlanSpelled most n d from ts → terminal_at Bar ts ≡ Some (o, behind) → stage_at most within n d behind ≡ Some (t, after) → PlanSpelled most n t from after
      keeps d ts o behind t after k found q =
          stage_sound k.plan from behind after t (subst (λ ts. SpellsPlan n k.plan from ts) (terminal_some Bar ts behind found) k.spells) (sym (ap (λ d. stage_at most within n d behind) k.is) ∙ q)

      plan_sound : (rest : List Token) (d : PlanDraft) → plan_with most within n from ≡ Some (d, rest) → PlanSpelled most n d from rest
      plan_sound rest d q =
          let read = then_some (from_at most from) (all_repeated (terminal_at Bar) (λ _. stage_at most within n)) (d, rest) q in
          repeated_keeps (terminal_at Bar) (λ _. stage_at most within n) (λ d ts. PlanSpelled most n d from ts) keeps (suc (length read.1)) read.0 read.1 d rest (first_sound read.1 read.0 read.2) read.3

  inner_plan_sound : (n : ℕ) → SoundWithin n (inner_plan most n)
  unfolding inner_plan
  inner_plan_sound zero = λ from rest d q. absurd (cc q)
  inner_plan_sound (suc n) = λ from rest d q. (n, refl, plan_sound (inner_plan most n) n (inner_plan_sound n) from rest d q)

  -- what is read as a plan is spelled so
  pub read_plan_is_spelled : (levels : ℕ) (from rest : List Token) (d : PlanDraft) → plan_at most levels from ≡ Some (d, rest) → PlanSpelled most levels d from rest
  read_plan_is_spelled n from rest d q = plan_sound (inner_plan most n) n (inner_plan_sound n) from rest d q
