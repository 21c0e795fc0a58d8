-- Of the results that are recorded: those of one part after another.
use Rattle.std.proofs.Common.{◌≡◌, refl, sym, ap, subst, ◌∙◌, Bool, true, false, cond, List, [], ◌∷◌, ◌++◌, append_assoc, reverse, IfOk, OnOk, Result, Ok, Err}
use Rattle.std.proofs.lemmas.List.{append-nil}
use Rattle.plan_core.specs.PlainPlan.{PlainPlan}
use Rattle.estimator.specs.Cuts.{Cuts, added_cuts}
use Rattle.rewrite_core.specs.declared.rewriting.Hit.{Hit}
use Rattle.rewrite_core.specs.declared.rewriting.Parts as parts
use Rattle.rewrite_core.specs.PlainRewriting.{PlainRewriting, Node, PlainWay, Change, PlainDeltaWay, grown_way}
use Rattle.growth_laws.specs.KeptResults.{KeptResults}
use Rattle.growth_laws.specs.Lists.{Extents}
use Rattle.growth_laws.specs.Pieces.{Piece, Entry, Gathered, is_gathered, is_chain_delta, pieces_of, pieces_in, pieces_of_delta, pieces_in_delta}
use Rattle.growth_laws.specs.Trees.{made_by}
use Rattle.result_ops.specs.declared.made.Made.{Made}
use Rattle.result_ops.specs.declared.refusal.MakeRefusal.{MakeRefusal}
use Rattle.result_ops.specs.Steps.{made_of}
use Rattle.executor.specs.Evaluating.{MakesFit, Tree}
use Rattle.executor.specs.Loading.{Loads, HoldAll}
use Rattle.executor.specs.Parts.{pieces_behind}
use Rattle.executor.specs.declared.recording.MadePlace.{MadePlace}
use Rattle.executor.specs.declared.recording.Recording.{Recording}
use Rattle.executor.specs.declared.recording.Recording.TheVariants as recording
use Rattle.executor.specs.Recording.{is_made, is_recorded, if_recorded, recorded_of, recorded_in, recorded_of_delta, recorded_in_delta, recorded_below, AreMade, AreRecorded, HasRecorded, Records, RecordsIf, RecordsOwn}
use Rattle.executor.proofs.Loads.{hold_two, gathered_pieces, other_pieces, gathered_delta_pieces, other_delta_pieces, grown_pieces}
use Rattle.executor.proofs.TakenPieces.{TakesHeld}

pub made_grown : (hit : Hit) (of : parts.Parts) → is_made (grown_way hit of) ≡ true
made_grown hit (parts.Tail' _ _ _ _) = refl
made_grown hit (parts.LeftGrew' _ _ _ _ _ _ _) = refl
made_grown hit (parts.RightGrew' _ _ _ _ _ _ _) = refl
made_grown hit (parts.BothGrew' _ _ _ _ _ _ _ _ _ _ _ _ _ _) = refl

-- ---- of one part after another

module _ (extents : Extents) (results : KeptResults) where
  both_made : (ts us : List PlainRewriting) (ms ns : List MadePlace) → AreMade extents results ts ms → AreMade extents results us ns → AreMade extents results (ts ++ us) (ms ++ ns)
  both_made [] us [] ns first second = second
  both_made [] us (m ∷ ms) ns first second = absurd first
  both_made (t ∷ ts) us [] ns first second = absurd first
  both_made (t ∷ ts) us (m ∷ ms) ns first second = (first.0, both_made ts us ms ns first.1 second)

  joined : (ts us : List PlainRewriting) (f g h : List MadePlace) → AreRecorded extents results ts f g → AreRecorded extents results us g h → AreRecorded extents results (ts ++ us) f h
  joined ts us f g h first second =
      (first.0 ++ second.0, second.1 ∙ ap (λ xs. xs ++ second.0) first.1 ∙ append_assoc f first.0 second.0, both_made ts us first.0 second.0 first.2 second.2)

  both_recorded : (ts us : List PlainRewriting) (f g h : Recording) → HasRecorded extents results ts f g → HasRecorded extents results us g h → HasRecorded extents results (ts ++ us) f h
  both_recorded ts us recording.Off recording.Off recording.Off first second = tt
  both_recorded ts us (recording.On f) (recording.On g) (recording.On h) first second = joined ts us f.items g.items h.items first second
  both_recorded ts us recording.Off (recording.On g) h first second = absurd first
  both_recorded ts us (recording.On f) recording.Off h first second = absurd first
  both_recorded ts us recording.Off recording.Off (recording.On h) first second = absurd second
  both_recorded ts us (recording.On f) (recording.On g) recording.Off first second = absurd second

  nothing_recorded : (f : Recording) → HasRecorded extents results [] f f
  nothing_recorded recording.Off = tt
  nothing_recorded (recording.On f) = ([], sym (append-nil f.items), tt)

pub then_records : (ps qs : List Piece) (ts us : List PlainRewriting) (a b c : Loads) (f g h : Recording) → Records ps ts a b f g → Records qs us b c g h → Records (ps ++ qs) (ts ++ us) a c f h
then_records ps qs ts us a b c f g h first second = λ extents results rest held.
    let part = first extents results (qs ++ rest) (hold_two extents results (reverse a) ps qs rest held) in
    let next = second extents results rest part.0 in
    (next.0, both_recorded extents results ts us f g h part.1 next.1)

-- ---- no result

pub none_recorded : (before : Loads) (f : Recording) → Records [] [] before before f f
none_recorded before f = λ extents results rest held. (held, nothing_recorded extents results f)

taken_records : {X : Type 0} (piece : Piece) (before after : Loads) (f : Recording) (result : Result X MakeRefusal)
    → ((extents : Extents) (results : KeptResults) (rest : List Piece) → HoldAll extents results (piece ∷ rest) (reverse before) → OnOk result (HoldAll extents results rest (reverse after)))
    → OnOk result (Records (piece ∷ []) [] before after f f)
taken_records piece before after f (Ok x) held = λ extents results rest all. (held extents results rest all, nothing_recorded extents results f)
taken_records piece before after f (Err e) held = tt

pub piece_records : (piece : Piece) (before after : Loads) (f : Recording) (result : Result Made MakeRefusal) → TakesHeld before after result → OnOk result (Records (piece ∷ []) [] before after f f)
piece_records piece before after f result held = taken_records piece before after f result (λ extents results rest all. (held extents results piece rest all).1)

module _ (p : PlainPlan) (c : Cuts) (way : PlainWay) (before after : Loads) (f : Recording) where
  pub gathered_records : (result : Result Made MakeRefusal) → is_gathered (Node p c way) ≡ true → TakesHeld before after result
      → OnOk result (Records (pieces_of (Node p c way)) (recorded_below (Node p c way)) before after f f)
  gathered_records result chain held =
      subst (λ ps. OnOk result (Records ps (recorded_below (Node p c way)) before after f f)) (sym (gathered_pieces p c way chain))
      (subst (λ ts. OnOk result (Records (Gathered p c ∷ []) ts before after f f)) (sym (ap (λ b. cond b [] (recorded_in way)) chain)) (piece_records (Gathered p c) before after f result held))

  pub other_records : (g : Recording) (result : Result Made MakeRefusal) → is_gathered (Node p c way) ≡ false → OnOk result (Records (pieces_in p way) (recorded_in way) before after f g)
      → OnOk result (Records (pieces_of (Node p c way)) (recorded_below (Node p c way)) before after f g)
  other_records g result chain held =
      subst (λ ps. OnOk result (Records ps (recorded_below (Node p c way)) before after f g)) (sym (other_pieces p c way chain))
      (subst (λ ts. OnOk result (Records (pieces_in p way) ts before after f g)) (sym (ap (λ b. cond b [] (recorded_in way)) chain)) held)

module _ (p : PlainPlan) (old new : Cuts) (way : PlainDeltaWay) (before after : Loads) (f : Recording) where
  pub chain_records : (made : Made) → is_chain_delta (Change p old new way) ≡ true → TakesHeld before after (Ok made) → Records (pieces_of_delta (Change p old new way)) (recorded_of_delta (Change p old new way)) before after f f
  chain_records made chain held =
      subst (λ ps. Records ps (recorded_of_delta (Change p old new way)) before after f f) (sym (gathered_delta_pieces p old new way chain))
      (subst (λ ts. Records (Gathered p (added_cuts old new) ∷ []) ts before after f f) (sym (ap (λ b. cond b [] (recorded_in_delta way)) chain)) (piece_records (Gathered p (added_cuts old new)) before after f (Ok made) held))

  pub other_delta_records : {X : Type 0} (g : Recording) (result : Result X MakeRefusal) → is_chain_delta (Change p old new way) ≡ false → OnOk result (Records (pieces_in_delta way) (recorded_in_delta way) before after f g)
      → OnOk result (Records (pieces_of_delta (Change p old new way)) (recorded_of_delta (Change p old new way)) before after f g)
  other_delta_records g result chain held =
      subst (λ ps. OnOk result (Records ps (recorded_of_delta (Change p old new way)) before after f g)) (sym (other_delta_pieces p old new way chain))
      (subst (λ ts. OnOk result (Records (pieces_in_delta way) ts before after f g)) (sym (ap (λ b. cond b [] (recorded_in_delta way)) chain)) held)

-- ---- behind an earlier result

pub then_grown : (p : PlainPlan) (hit : Hit) (of : parts.Parts) (ts : List PlainRewriting) (before mid after : Loads) (f g : Recording) (old : Made) (result : Result Made MakeRefusal) → TakesHeld before mid (Ok old)
    → OnOk result (Records (pieces_behind (grown_way hit of)) ts mid after f g) → OnOk result (Records (pieces_in p (grown_way hit of)) ts before after f g)
then_grown p hit of ts before mid after f g old (Ok made) held records = λ extents results rest all.
    records extents results rest (held extents results (Entry p hit.id) (pieces_behind (grown_way hit of) ++ rest) (subst (λ ps. HoldAll extents results (ps ++ rest) (reverse before)) (grown_pieces hit p of) all)).1
then_grown p hit of ts before mid after f g old (Err e) held records = tt

-- ---- of a tree itself

module _ (r : PlainRewriting) (before after : Loads) (made : Made) (g h : Recording) where
  pub own_fit : (plan : PlainPlan) (pieces : List Piece) (result : Result Made MakeRefusal) → RecordsOwn r made g h result → MakesFit plan pieces before after (Ok made) → MakesFit plan pieces before after result
  own_fit plan pieces (Ok same) own fit = subst (λ m. MakesFit plan pieces before after (Ok m)) (sym own.0) fit
  own_fit plan pieces (Err e) own fit = λ schemas rest typed are. tt

  pub own_made : (result : Result Made MakeRefusal) → RecordsOwn r made g h result → Tree r before after (Ok made) → Tree r before after result
  own_made (Ok same) own tree = subst (λ m. Tree r before after (Ok m)) (sym own.0) tree
  own_made (Err e) own tree = subst (λ e. Tree r before after (Err e)) (sym own) (λ extents results rest held. (tt, tt))

own_recorded : (extents : Extents) (results : KeptResults) (tree : PlainRewriting) (made : Made) (b : Bool) (g h : Recording) → made_by extents results tree ≡ Ok (made_of made) → RecordsIf b tree made g h
    → HasRecorded extents results (if_recorded b tree) g h
own_recorded extents results tree made false g h is own = subst (HasRecorded extents results [] g) (sym own) (nothing_recorded extents results g)
own_recorded extents results tree made true recording.Off recording.Off is own = tt
own_recorded extents results tree made true (recording.On g) (recording.On h) is own =
    (own.0 ∷ [], own.2, ((own.1.0, own.1.1, is ∙ ap (λ (m : Made). Ok (made_of m)) (sym own.1.2)), tt))
own_recorded extents results tree made true recording.Off (recording.On h) is own = absurd own
own_recorded extents results tree made true (recording.On g) recording.Off is own = absurd own

module _ (p : PlainPlan) (c : Cuts) (way : PlainWay) (before after : Loads) (made : Made) (f g h : Recording) where
  pub own_records : (result : Result Made MakeRefusal) → RecordsOwn (Node p c way) made g h result → Tree (Node p c way) before after (Ok made) → Records (pieces_of (Node p c way)) (recorded_below (Node p c way)) before after f g
      → OnOk result (Records (pieces_of (Node p c way)) (recorded_of (Node p c way)) before after f h)
  own_records (Ok same) own tree records = λ extents results rest held.
      let part = records extents results rest held in
      let counts = is_recorded (Node p c way) in
      let mine = own_recorded extents results (Node p c way) made counts g h (tree extents results rest held).0.0 own.1 in
      (part.0, both_recorded extents results (recorded_below (Node p c way)) (if_recorded counts (Node p c way)) f g h part.1 mine)
  own_records (Err e) own tree records = tt

pub first_on_ok : (A B : Made → Type 0) (result : Result Made MakeRefusal) → IfOk result (λ made. A made × B made) → IfOk result A
first_on_ok A B (Ok made) both = both.0
first_on_ok A B (Err e) both = tt

pub then_on_ok : {X : Type 0} (A B : Type 0) (result : Result X MakeRefusal) → (A → B) → OnOk result A → OnOk result B
then_on_ok A B (Ok x) f is = f is
then_on_ok A B (Err e) f is = tt
