-- How items are read behind separators, and in lists.
use Prim.Native.Nat.{suc}
use Rattle.std.proofs.Common.{◌≡◌, refl, sym, ap, ◌∙◌, subst, ◌<◌, List, [], ◌∷◌, ◌++◌, length, Some, None, append_assoc, arith}
use Rattle.plan_text.specs.declared.token.Token.{Token}
use Rattle.plan_text.specs.declared.token.Token.TheVariants.{Mark}
use Rattle.plan_text.specs.declared.token.Mark.TheVariants as mark
use Rattle.plan_text.specs.Grammar.{Listed}
use Rattle.plan_text.specs.declared.parser.Terminal.TheVariants.{Comma}
use Rattle.plan_text.specs.Reader.{ReadOf, and_then, terminal_at, all_repeated}
use Rattle.plan_text.specs.PlanReading.{item_onto, list_at, at_end}
use Rattle.plan_text.proofs.RepeatLemmas.{then_some, made_some, Repeats, Repeats-start, Repeats-next, Repeats-end, repeated_keeps}
use Rattle.plan_text.proofs.Levels.{terminal_some}

-- an item that was read is spelled, and of it this is kept
pub record ItemSo {X A : Type 0} (Item : X → List Token → List Token → Type 0) (value : X → A) (a : A) (from rest : List Token) : Type 0 where
  pub item : X
  pub is : a ≡ value item
  pub spells : Item item from rest

-- items that are spelled and read, and what is kept of the items so far
pub record ListsItems {X A S : Type 0} (Item : X → List Token → List Token → Type 0) (Ends : List Token → Type 0) (item : List Token → ReadOf A) (add : S → A → S) (state : List X → S) (value : X → A) : Type 0 where
  pub shorter : (x : X) (from rest : List Token) → Item x from rest → length rest < length from
  pub complete : (x : X) (from rest : List Token) → Item x from rest → Ends rest → item from ≡ Some (value x, rest)
  pub sound : (from rest : List Token) (a : A) → item from ≡ Some (a, rest) → ItemSo Item value a from rest
  pub comma : (rest : List Token) → Ends (Mark mark.Comma ∷ rest)
  pub adds : (done : List X) (x : X) → add (state done) (value x) ≡ state (done ++ x ∷ [])

module _ {X A S : Type 0} {Item : X → List Token → List Token → Type 0} {Ends : List Token → Type 0} {item : List Token → ReadOf A} {add : S → A → S} {state : List X → S} {value : X → A} (lists : ListsItems Item Ends item add state value) where
  module _ (start : ReadOf S) where
    abbrev Listing : S → List Token → Type 0
    Listing = Repeats (terminal_at Comma) (λ _. item_onto item add) start

    -- where one item more is read, the list goes on behind it
    abbrev Turns : List X → List Token → Type 0
    Turns done from = (s : S) (mid : List Token) → item_onto item add (state done) from ≡ Some (s, mid) → length mid < length from → Listing s mid

    item_read : (done : List X) (x : X) (from rest : List Token) → Item x from rest → Ends rest → item_onto item add (state done) from ≡ Some (state (done ++ x ∷ []), rest)
    item_read done x from rest s ends = ap (λ r. and_then r (λ x rest. Some (add (state done) x, rest))) (lists.complete x from rest s ends) ∙ ap (λ s. Some (s, rest)) (lists.adds done x)

    listed : (xs : List X) (x : X) (done : List X) (from rest : List Token) → Listed Item (x ∷ xs) from rest → Ends rest → Turns done from → Listing (state (done ++ x ∷ xs)) rest
    listed [] x done from rest s ends turns = turns (state (done ++ x ∷ [])) rest (item_read done x from rest s ends) (lists.shorter x from rest s)
    listed (y ∷ ys) x done from rest s ends turns =
        let first = turns (state (done ++ x ∷ [])) (Mark mark.Comma ∷ s.0) (item_read done x from (Mark mark.Comma ∷ s.0) s.1 (lists.comma s.0)) (lists.shorter x from (Mark mark.Comma ∷ s.0) s.1) in
        subst (λ all. Listing (state all) rest) (append_assoc done (x ∷ []) (y ∷ ys))
        (listed ys y (done ++ x ∷ []) s.0 rest s.2 ends
        (λ t mid read less. Repeats-next (terminal_at Comma) (λ _. item_onto item add) start (state (done ++ x ∷ [])) (Mark mark.Comma ∷ s.0) first tt s.0 refl t mid read (omega (arith, less))))

  -- a list that is spelled is read
  pub list_complete : (xs : List X) (from rest : List Token) → Listed Item xs from rest → Ends rest → terminal_at Comma rest ≡ None → list_at item add (state []) from ≡ Some (state xs, rest)
  list_complete [] from rest s ends none = absurd s
  list_complete (x ∷ xs) from rest s ends none =
      let start = list_at item add (state []) from in
      Repeats-end (terminal_at Comma) (λ _. item_onto item add) start (state (x ∷ xs)) rest
      (listed start xs x [] from rest s ends (λ t mid read less. Repeats-start (terminal_at Comma) (λ _. item_onto item add) start t mid (ap (λ r. and_then r (all_repeated (terminal_at Comma) (λ _. item_onto item add))) read)))
      none

  pub list_shorter : (xs : List X) (from rest : List Token) → Listed Item xs from rest → length rest < length from
  list_shorter [] from rest s = absurd s
  list_shorter (x ∷ []) from rest s = lists.shorter x from rest s
  list_shorter (x ∷ y ∷ more) from rest s =
      let first = lists.shorter x from (Mark mark.Comma ∷ s.0) s.1 in
      let others = list_shorter (y ∷ more) s.0 rest s.2 in
      omega (arith, first, others)

-- the item itself
abbrev pub itself : {A : Type 0} → A → A
itself x = x

-- one item more at the end of a list
listed-more : {X : Type 0} (Item : X → List Token → List Token → Type 0) (xs : List X) (x : X) (from mid rest : List Token) → Listed Item xs from (Mark mark.Comma ∷ mid) → Item x mid rest → Listed Item (xs ++ x ∷ []) from rest
listed-more Item [] x from mid rest s t = absurd s
listed-more Item (y ∷ []) x from mid rest s t = (mid, s, t)
listed-more Item (y ∷ z ∷ more) x from mid rest s t = (s.0, s.1, listed-more Item (z ∷ more) x s.0 mid rest s.2 t)

-- the items that were read are spelled
pub record ListedSo {X S : Type 0} (Item : X → List Token → List Token → Type 0) (state : List X → S) (from : List Token) (s : S) (rest : List Token) : Type 0 where
  pub items : List X
  pub is : s ≡ state items
  pub spells : Listed Item items from rest

module _ {X A S : Type 0} {Item : X → List Token → List Token → Type 0} {Ends : List Token → Type 0} {item : List Token → ReadOf A} {add : S → A → S} {state : List X → S} {value : X → A} (lists : ListsItems Item Ends item add state value) where
  module _ (from : List Token) where
    keeps : (s : S) (ts : List Token) (o : Unit {0}) (behind : List Token) (t : S) (after : List Token) → ListedSo Item state from s ts → terminal_at Comma ts ≡ Some (o, behind) → item_onto item add s behind ≡ Some (t, after) → ListedSo Item state from t after
    keeps s ts o behind t after k found q =
        let read = made_some (item behind) (add s) t after q in
        let one = lists.sound behind after read.0 read.1 in
        record {
          items = k.items ++ one.item ∷ [];
          is = read.2 ∙ (λ i. add (k.is i) (one.is i)) ∙ lists.adds k.items one.item;
          spells = listed-more Item k.items one.item from behind after (subst (λ ts. Listed Item k.items from ts) (terminal_some Comma ts behind found) k.spells) one.spells;
        }

    first : (t : S) (rest : List Token) → item_onto item add (state []) from ≡ Some (t, rest) → ListedSo Item state from t rest
    first t rest q =
        let read = made_some (item from) (add (state [])) t rest q in
        let one = lists.sound from rest read.0 read.1 in
        record { items = one.item ∷ []; is = read.2 ∙ ap (add (state [])) one.is ∙ lists.adds [] one.item; spells = one.spells }

    -- a list that was read is spelled
    pub list_sound : (t : S) (rest : List Token) → list_at item add (state []) from ≡ Some (t, rest) → ListedSo Item state from t rest
    list_sound t rest q =
        let read = then_some (item_onto item add (state []) from) (all_repeated (terminal_at Comma) (λ _. item_onto item add)) (t, rest) q in
        repeated_keeps (terminal_at Comma) (λ _. item_onto item add) (ListedSo Item state from) keeps (suc (length read.1)) read.0 read.1 t rest (first read.0 read.1 read.2) read.3

-- of items that are kept as they are, those that were read are spelled
pub plain_list_sound : {X : Type 0} {Item : X → List Token → List Token → Type 0} {Ends : List Token → Type 0} {item : List Token → ReadOf X} → ListsItems Item Ends item at_end itself itself
    → (from : List Token) (xs : List X) (rest : List Token) → list_at item at_end [] from ≡ Some (xs, rest) → Listed Item xs from rest
plain_list_sound {Item = Item} lists from xs rest q = let s = list_sound lists from xs rest q in subst (λ xs. Listed Item xs from rest) (sym s.is) s.spells
