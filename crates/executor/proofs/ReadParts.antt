-- Parts of which no file is left, as what is loaded of their pieces.
use Rattle.std.proofs.Common.{◌≡◌, refl, sym, ap, ◌∙◌, subst, ℕ, zero, suc, ◌+◌, ◌-◌, ◌<◌, ◌≤◌, max, get_or, inl, inr, List, [], ◌∷◌, ◌++◌, length, map, take, drop, append_assoc, Some, None, Ok, Err, Result as Outcome, IfOk, arith}
use Rattle.std.proofs.lemmas.List.{map_push, take_more}
use Rattle.std.specs.List.{flat_map, AllByRecursion}
use Rattle.rows_core.specs.declared.cut.Cut.{Cut}
use Rattle.rows_core.specs.declared.memory.Memory.{Memory}
use Rattle.rows_core.specs.declared.overflow.Overflow.{Overflow}
use Rattle.row_blob.specs.declared.kept.Kept.{Kept}
use Rattle.row_blob.specs.declared.kept.Kept.TheVariants as kept
use Rattle.plan_core.specs.Columns.{Rows}
use Rattle.plan_core.specs.PlainPlan.{PlainPlan, Scan, Filter, Project, Distinct, Group, Join, Concat, Order}
use Rattle.plan_core.specs.PlanTyping.{Kinds}
use Rattle.estimator.specs.Cuts.{Cuts}
use Rattle.rewrite_core.specs.Files.{FileName, extents_from}
use Rattle.growth_laws.specs.Growth as laws
use Rattle.growth_laws.specs.Growth.{whole_made}
use Rattle.growth_laws.specs.KeptResults.{KeptResult, KeptResults}
use Rattle.growth_laws.specs.Lists.{Extents, extents_of, interval_rows, lists_at, plan_lists}
use Rattle.growth_laws.specs.Making.{IsFormOf, made_before}
use Rattle.growth_laws.specs.Pieces.{Piece, Entry, Gathered}
use Rattle.gathering.specs.Gathered.{ComesTo, came_as}
use Rattle.gathering.specs.Gathered as so_far
use Rattle.result_ops.specs.declared.stop.Stop.{Stop}
use Rattle.result_ops.specs.declared.stop.Stop.TheVariants as stop
use Rattle.result_ops.specs.declared.made.Made.{Made}
use Rattle.result_ops.specs.Fitting.{StandsInOrder}
use Rattle.growth_laws.specs.Chains.{IsOneStream}
use Rattle.executor.specs.Loading.{piece_plan, Holds, HoldsPiece, HoldAll, IsFitLoad, AreFit}
use Rattle.executor.specs.Loads.{load_of_rows, load_of_part, HasOneCut}
use Rattle.executor.specs.Progress.{Loaded, files_left, left_in, IsStreamPart, IsPartOf, ArePartsOf, IsLoadOf, up_to, HasFedTo, HasRead, HaveRead}
use Rattle.executor.specs.declared.part.Part.{Part}
use Rattle.executor.specs.declared.part.Part.TheVariants as part

first_nil : (xs ys : List FileName) → xs ++ ys ≡ [] → xs ≡ []
first_nil [] ys e = refl
first_nil (x ∷ xs) ys e = absurd (cc)

second_nil : (xs ys : List FileName) → xs ++ ys ≡ [] → ys ≡ []
second_nil [] ys e = e
second_nil (x ∷ xs) ys e = absurd (cc)

-- ---- one part after another

module _ (items rest : List Part) (p : Part) (split : items ≡ p ∷ rest) where
  both_nil : left_in items ≡ [] → files_left p ++ left_in rest ≡ []
  both_nil nothing = ap left_in (sym split) ∙ nothing

  pub first_read : left_in items ≡ [] → files_left p ≡ []
  first_read nothing = first_nil (files_left p) (left_in rest) (both_nil nothing)

  pub others_read : left_in items ≡ [] → left_in rest ≡ []
  others_read nothing = second_nil (files_left p) (left_in rest) (both_nil nothing)

  pub left_rest : (before after : ℕ) → before ≡ length items → after + 1 ≡ before → after ≡ length rest
  left_rest before after is one_less = let l : length items ≡ length (p ∷ rest) = ap length split in omega (arith, l)

  pub given_next : (all loads next : List (Outcome Made Stop)) (piece : Outcome Made Stop) → all ≡ loads ++ map load_of_part items → piece ≡ load_of_part p → next ≡ loads ++ piece ∷ []
      → all ≡ next ++ map load_of_part rest
  given_next all loads next piece given is pushed =
      let here : all ≡ loads ++ load_of_part p ∷ map load_of_part rest = given ∙ ap (λ (l : List Part). loads ++ map load_of_part l) split in
      let there : next ≡ loads ++ load_of_part p ∷ [] = pushed ∙ ap (λ (l : Outcome Made Stop). loads ++ l ∷ []) is in
      here ∙ sym (append_assoc loads (load_of_part p ∷ []) (map load_of_part rest)) ∙ ap (λ (l : List (Outcome Made Stop)). l ++ map load_of_part rest) (sym there)

-- ---- what a gathering made

load_of_came : (loaded : Loaded) → load_of_rows (came_as loaded) ≡ loaded
load_of_came (Ok made) = refl
load_of_came (Err s) = refl

pub loaded_of_came : (result : Outcome Loaded Memory) (came : Outcome laws.Made Stop) → IfOk result (λ made. came_as made ≡ came) → IfOk result (λ loaded. loaded ≡ load_of_rows came)
loaded_of_came (Ok loaded) came is = sym (load_of_came loaded) ∙ ap load_of_rows is
loaded_of_came (Err e) came is = tt

-- ---- they are fit

stands : (form : Kept) (plan : PlainPlan) → IsOneStream plan → IsFormOf plan form → StandsInOrder form
stands (kept.Rows rows) plan one is = tt
stands (kept.Groups groups) plan one is = tt
stands (kept.Tagged lefts rows) (Scan s) one is = absurd is
stands (kept.Tagged lefts rows) (Filter child test) one is = absurd is
stands (kept.Tagged lefts rows) (Project child columns) one is = absurd is
stands (kept.Tagged lefts rows) (Distinct child) one is = absurd is
stands (kept.Tagged lefts rows) (Group child keys aggs) one is = absurd is
stands (kept.Tagged lefts rows) (Join left right on) one is = absurd one
stands (kept.Tagged lefts rows) (Concat left right) one is = absurd is
stands (kept.Tagged lefts rows) (Order child keys) one is = absurd is

module _ (schemas : List Kinds) where
  fit_rows : (plan : PlainPlan) (given : Outcome laws.Made Overflow) (came : Outcome laws.Made Stop) → IsOneStream plan → ComesTo schemas plan given came → IsFitLoad schemas plan (load_of_rows came)
  fit_rows plan given (Ok made) one comes = (comes.2, stands made.kept plan one comes.2.form_is)
  fit_rows plan given (Err s) one comes = tt

  fit_part : (piece : Piece) (p : Part) → IsPartOf schemas piece p → IsFitLoad schemas (piece_plan piece) (load_of_part p)
  fit_part (Entry plan id) (part.Entry boxed id' None) is = tt
  fit_part (Entry plan id) (part.Entry boxed id' (Some l)) is = is.2.fit
  fit_part (Entry plan id) (part.Gathered gathering stream next end) is = absurd is
  fit_part (Gathered plan cuts) (part.Entry boxed id' l) is = absurd is
  fit_part (Gathered plan cuts) (part.Gathered gathering stream next end) is =
      fit_rows plan (whole_made plan (is.fed ∷ [])) gathering.came is.one
      (subst (λ (q : PlainPlan). ComesTo schemas q (whole_made q (is.fed ∷ [])) gathering.came) is.of_plan is.gathers.comes)

  pub are_fit : (pieces : List Piece) (parts : List Part) → ArePartsOf schemas pieces parts → AreFit schemas pieces (map load_of_part parts)
  are_fit [] [] are = tt
  are_fit [] (p ∷ parts) are = absurd are
  are_fit (piece ∷ pieces) [] are = absurd are
  are_fit (piece ∷ pieces) (p ∷ parts) are = (fit_part piece p are.0, are_fit pieces parts are.1)

-- ---- they are what the definitions give

nothing_left : (stream next count : ℕ) → extents_from stream next count ≡ [] → count ≡ 0
nothing_left stream next zero e = refl
nothing_left stream next (suc m) e = absurd (cc)

abbrev made_is : Kept → ℕ → Outcome laws.Made Overflow
made_is form taken_in = Ok (record { kept = form; taken_in = taken_in })

hold_load : (plan : PlainPlan) (result : KeptResult) (loaded : Loaded) → IsLoadOf plan result loaded → Holds plan (Ok (made_before result)) loaded
hold_load plan result (Ok made) is = ap (λ (k : Kept). made_is k (result.machine - 1)) (sym is.0) ∙ ap (made_is made.kept) (sym is.1)
hold_load plan result (Err stop.Machine) is = (made_before result, refl, inr is)
hold_load plan result (Err stop.Overflow) is = absurd is

hold_rows : (schemas : List Kinds) (plan : PlainPlan) (given : Outcome laws.Made Overflow) (came : Outcome laws.Made Stop) → ComesTo schemas plan given came → Holds plan given (load_of_rows came)
hold_rows schemas plan given (Ok made) comes = comes.0
hold_rows schemas plan given (Err stop.Machine) comes = (comes.0, comes.1, inl comes.2)
hold_rows schemas plan given (Err stop.Overflow) comes = comes

module _ (schemas : List Kinds) (extents : Extents) (results : KeptResults) where
  all_rows : (cut : Cut) (gathering : so_far.Gathered) (stream next end : ℕ) → extents_from stream next (end - next) ≡ [] → HasFedTo schemas extents cut gathering stream next end
      → interval_rows (extents_of extents stream) cut ≡ interval_rows (extents_of extents stream) (up_to cut next)
  all_rows cut gathering stream next end left fed =
      let none : end - next ≡ 0 = nothing_left stream next (end - next) left in
      let ends : end ≡ cut.to = fed.ends in
      let begun : cut.from ≤ next = fed.begun in
      let within : next ≤ max cut.from cut.to = fed.within in
      let count : cut.to - cut.from ≡ next - cut.from = omega arith in ap (λ n. flat_map (λ (rows : Rows). rows) (take n (drop cut.from (extents_of extents stream)))) count

  hold_stream : (plan : PlainPlan) (cuts : Cuts) (gathering : so_far.Gathered) (stream next end : ℕ) → extents_from stream next (end - next) ≡ [] → IsStreamPart schemas plan gathering stream
      → (cut : Cut) → cuts ≡ cut ∷ [] → HasFedTo schemas extents cut gathering stream next end → Holds plan (whole_made plan (plan_lists extents plan cuts)) (load_of_rows gathering.came)
  hold_stream plan cuts gathering stream next end left is cut one fed =
      let rows : Rows = interval_rows (extents_of extents stream) (up_to cut next) in
      let lists : plan_lists extents plan cuts ≡ rows ∷ [] =
      ap (λ (l : List ℕ). lists_at extents l cuts) is.of_stream ∙ ap (λ (c : Cuts). lists_at extents (stream ∷ []) c) one ∙ ap (λ (r : Rows). r ∷ []) (all_rows cut gathering stream next end left fed) in
      let comes : ComesTo schemas plan (whole_made plan (rows ∷ [])) gathering.came = subst (λ (q : PlainPlan). ComesTo schemas q (whole_made q (rows ∷ [])) gathering.came) is.of_plan fed.gathers.comes in
      subst (λ (l : List Rows). Holds plan (whole_made plan l) (load_of_rows gathering.came)) (sym lists) (hold_rows schemas plan (whole_made plan (rows ∷ [])) gathering.came comes)

  hold_part : (piece : Piece) (p : Part) → files_left p ≡ [] → IsPartOf schemas piece p → HasOneCut piece → HasRead schemas extents results piece p → HoldsPiece extents results piece (load_of_part p)
  hold_part (Entry plan id) (part.Entry boxed id' None) left is one read = absurd (cc)
  hold_part (Entry plan id) (part.Entry boxed id' (Some l)) left is one read = hold_load plan (results id) l read
  hold_part (Entry plan id) (part.Gathered gathering stream next end) left is one read = absurd is
  hold_part (Gathered plan cuts) (part.Entry boxed id' l) left is one read = absurd is
  hold_part (Gathered plan cuts) (part.Gathered gathering stream next end) left is one read = hold_stream plan cuts gathering stream next end left is one.0 one.1 (read one.0 one.1)

  pub hold_all : (pieces : List Piece) (parts : List Part) → left_in parts ≡ [] → ArePartsOf schemas pieces parts → AllByRecursion HasOneCut pieces → HaveRead schemas extents results pieces parts
      → HoldAll extents results pieces (map load_of_part parts)
  hold_all [] [] left are one read = tt
  hold_all [] (p ∷ parts) left are one read = absurd are
  hold_all (piece ∷ pieces) [] left are one read = absurd are
  hold_all (piece ∷ pieces) (p ∷ parts) left are one read = (
    hold_part piece p (first_nil (files_left p) (left_in parts) left) are.0 one.0 read.0,
    hold_all pieces parts (second_nil (files_left p) (left_in parts) left) are.1 one.1 read.1,
  )

-- ---- parts by their place

pub nothing_at : (parts : List Part) (k : ℕ) (p : Part) → k < length parts → p ≡ get_or parts k p → left_in parts ≡ [] → files_left p ≡ []
nothing_at [] k p within is nothing = absurd (omega (arith, within))
nothing_at (q ∷ parts) zero p within is nothing = ap files_left is ∙ first_nil (files_left q) (left_in parts) nothing
nothing_at (q ∷ parts) (suc k) p within is nothing = nothing_at parts k p (omega (arith, within)) is (second_nil (files_left q) (left_in parts) nothing)

pub load_next : (parts : List Part) (k : ℕ) (p : Part) (before after : List (Outcome Made Stop)) (piece : Outcome Made Stop) → k < length parts → p ≡ get_or parts k p → before ≡ map load_of_part (take k parts)
    → piece ≡ load_of_part p → after ≡ before ++ piece ∷ [] → after ≡ map load_of_part (take (k + 1) parts)
load_next parts k p before after piece within is so_far loaded pushed =
    let next : take (k + 1) parts ≡ take k parts ++ p ∷ [] = take_more parts k p within ∙ ap (λ (q : Part). take k parts ++ q ∷ []) (sym is) in
    pushed ∙ ap (λ (l : List (Outcome Made Stop)). l ++ piece ∷ []) so_far ∙ ap (λ (x : Outcome Made Stop). map load_of_part (take k parts) ++ x ∷ []) loaded ∙ sym (map_push load_of_part (take k parts) p)
    ∙ sym (ap (map load_of_part) next)
