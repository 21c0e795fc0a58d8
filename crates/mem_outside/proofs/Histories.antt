-- What the changes of a history do to the states that it gives.
use Rattle.std.proofs.Common.{◌≡◌, inl, inr, ℕ, ◌+◌, ◌<◌, ◌≤◌, Bool, true, false, List, [], ◌∷◌, ◌++◌, Option, Some, IsTrue, length, map, cond, get_or, refl, sym, ap, ◌∙◌, subst, arith, length-append, append_assoc}
use Rattle.std.specs.Prelude.{◌==◌, nat_le}
use Rattle.std.specs.List.{list_all, IsDistinct, AllByRecursion}
use Rattle.std.specs.Map.{keys_of, values_of, lookup}
use Rattle.std.specs.Option.{option_map_or}
use Rattle.std.proofs.lemmas.List.{get_or_at, length-map, map-append}
use Rattle.std.proofs.lemmas.Bool.Decides.{nat_tests}
use Rattle.std.proofs.lemmas.Bool.{cases_eq, false≢true}
use Rattle.indexmap.specs.IndexMap.{insert_entry}
use Rattle.mem_outside.specs.declared.history.Version.{Version}
use Rattle.mem_outside.specs.declared.history.Undo.{Undo}
use Rattle.mem_outside.specs.Shown.{Shown}
use Rattle.mem_outside.specs.Outcomes.{absent, kept, state_in, with_file, left_of}
use Rattle.mem_outside.specs.History.{Newest, shown_at, shown_of, put_back, undone, before_all, states_before, is_fine, is_kept}
use Rattle.mem_outside.specs.Loosening.{both, and_of, same_test, test_same}
use Rattle.mem_outside.specs.Sound.{test_false, look_same, look_other, with_here, with_later}

of_le : (a b : ℕ) → a ≤ b → IsTrue (nat_le a b)
of_le a b h = grind (arith, nat_tests)

le_of : (a b : ℕ) → IsTrue (nat_le a b) → a ≤ b
le_of a b h = grind (arith, nat_tests)

over : (a b : ℕ) → b ≤ a → nat_le (a + 1) b ≡ false
over a b h = grind (arith, nat_tests)

test_true : (a b : ℕ) → a ≡ b → (b == a) ≡ true
test_true a b same = subst (λ (n : ℕ). IsTrue (n == a)) same (same_test a)

-- ---- look-ups

own_number : (m : ℕ) (e : ℕ × Version) → IsTrue (is_fine m e) → e.1.state.number ≡ e.0
own_number m e fine = test_same e.1.state.number e.0 (both (e.1.state.number == e.0) (nat_le e.1.made m) fine).0

-- the version at a number is that of the number's file
found : (m synced : ℕ) (es : List (ℕ × Version)) (g : ℕ) → IsTrue (list_all (is_fine m) es)
    → state_in (map (shown_at synced) (values_of es)) g ≡ option_map_or (shown_at synced) (lookup (λ (k : ℕ). g == k) es) (absent g)
found m synced [] g fine = refl
found m synced (e ∷ es) g fine =
    let parts = both (is_fine m e) (list_all (is_fine m) es) fine in
    let number = own_number m e parts.0 in
    let by : Bool → Shown = λ b. option_map_or (shown_at synced) (cond b (Some e.1) (lookup (λ (k : ℕ). g == k) es)) (absent g) in
    elim (cases_eq e.0 g) [
      | inl same ↦ look_same (shown_at synced e.1) (map (shown_at synced) (values_of es)) g (number ∙ same) ∙ ap by (sym (test_true e.0 g same))
      | inr other ↦
          look_other (shown_at synced e.1) (map (shown_at synced) (values_of es)) g (λ is. other (sym number ∙ is))
          ∙ found m synced es g parts.1 ∙ ap by (sym (test_false g e.0 (λ is. other (sym is))))
    ]

pub found_in : (m synced : ℕ) (es : List (ℕ × Version)) (g : ℕ) (o : Option Version) → IsTrue (is_kept m (record { versions = es; synced = synced })) → o ≡ lookup (λ (k : ℕ). g == k) es
    → state_in (map (shown_at synced) (values_of es)) g ≡ option_map_or (shown_at synced) o (absent g)
found_in m synced es g o held is =
    found m synced es g (both (nat_le synced m) (list_all (is_fine m) es) held).1 ∙ ap (λ (p : Option Version). option_map_or (shown_at synced) p (absent g)) (sym is)

-- ---- a change

module _ (m synced next : ℕ) (all : Bool) (v : Version) (new : nat_le next v.made ≡ true)
    (others : (k : ℕ) → k ≤ m → (s : Shown) → kept (nat_le next k) s ≡ kept all (kept (nat_le synced k) s)) where
  other : (e : ℕ × Version) → IsTrue (is_fine m e) → shown_at next e.1 ≡ kept all (shown_at synced e.1)
  other e fine = others e.1.made (le_of e.1.made m (both (e.1.state.number == e.0) (nat_le e.1.made m) fine).1) e.1.state

  all_others : (es : List (ℕ × Version)) → IsTrue (list_all (is_fine m) es) → map (shown_at next) (values_of es) ≡ map (kept all) (map (shown_at synced) (values_of es))
  all_others [] fine = refl
  all_others (e ∷ es) fine =
      let parts = both (is_fine m e) (list_all (is_fine m) es) fine in
      let first = other e parts.0 in
      let rest = all_others es parts.1 in
      λ i. first i ∷ rest i

  inserted_shown : (es : List (ℕ × Version)) → IsTrue (list_all (is_fine m) es)
      → map (shown_at next) (values_of (insert_entry (λ a b. a == b) es v.state.number v)) ≡ with_file all v.state (map (shown_at synced) (values_of es))
  inserted_shown [] fine = ap (λ (b : Bool). kept b v.state ∷ []) new
  inserted_shown (e ∷ es) fine =
      let parts = both (is_fine m e) (list_all (is_fine m) es) fine in
      let number = own_number m e parts.0 in
      let by : Bool → List Shown = λ b. map (shown_at next) (values_of (cond b ((e.0, v) ∷ es) (e ∷ insert_entry (λ c d. c == d) es v.state.number v))) in
      elim (cases_eq e.0 v.state.number) [
        | inl same ↦
            let rest = all_others es parts.1 in
            ap by (test_true e.0 v.state.number same) ∙ (λ i. kept (new i) v.state ∷ rest i)
            ∙ sym (with_here all v.state (shown_at synced e.1) (map (shown_at synced) (values_of es)) (number ∙ same))
        | inr apart ↦
            let first = other e parts.0 in
            let rest = inserted_shown es parts.1 in
            ap by (test_false v.state.number e.0 (λ is. apart (sym is))) ∙ (λ i. first i ∷ rest i)
            ∙ sym (with_later all v.state (shown_at synced e.1) (map (shown_at synced) (values_of es)) (λ is. apart (sym number ∙ is)))
      ]

-- the files after a change
change_shown : (m synced : ℕ) (all : Bool) (v : Version) (es : List (ℕ × Version)) → synced ≤ m → v.made ≡ m + 1 → IsTrue (list_all (is_fine m) es)
    → map (shown_at (cond all synced (m + 1))) (values_of (insert_entry (λ a b. a == b) es v.state.number v)) ≡ with_file all v.state (map (shown_at synced) (values_of es))
change_shown m synced true v es within made fine =
    inserted_shown m synced synced true v (of_le synced v.made (omega (arith, within, made))) (λ k le s. refl) es fine
change_shown m synced false v es within made fine =
    inserted_shown m synced (m + 1) false v (of_le (m + 1) v.made (omega (arith, made))) (λ k le s. ap (λ (b : Bool). kept b s) (over m k le)) es fine

-- ---- what is kept

finer : (m : ℕ) (es : List (ℕ × Version)) → IsTrue (list_all (is_fine m) es) → IsTrue (list_all (is_fine (m + 1)) es)
finer m [] fine = refl
finer m (e ∷ es) fine =
    let parts = both (is_fine m e) (list_all (is_fine m) es) fine in
    let one = both (e.1.state.number == e.0) (nat_le e.1.made m) parts.0 in
    and_of (is_fine (m + 1) e) (list_all (is_fine (m + 1)) es)
    (and_of (e.1.state.number == e.0) (nat_le e.1.made (m + 1)) one.0 (of_le e.1.made (m + 1) (omega (arith, le_of e.1.made m one.1))))
    (finer m es parts.1)

inserted_fine : (m : ℕ) (v : Version) (es : List (ℕ × Version)) → v.made ≡ m + 1 → IsTrue (list_all (is_fine m) es)
    → IsTrue (list_all (is_fine (m + 1)) (insert_entry (λ a b. a == b) es v.state.number v))
inserted_fine m v [] made fine =
    and_of (is_fine (m + 1) (v.state.number, v)) true
    (and_of (v.state.number == v.state.number) (nat_le v.made (m + 1)) (same_test v.state.number) (of_le v.made (m + 1) (omega (arith, made)))) refl
inserted_fine m v (e ∷ es) made fine =
    let parts = both (is_fine m e) (list_all (is_fine m) es) fine in
    let by : Bool → Type 0 = λ b. IsTrue (list_all (is_fine (m + 1)) (cond b ((e.0, v) ∷ es) (e ∷ insert_entry (λ c d. c == d) es v.state.number v))) in
    let more = finer m (e ∷ es) fine in
    let moved = both (is_fine (m + 1) e) (list_all (is_fine (m + 1)) es) more in
    elim (cases_eq e.0 v.state.number) [
      | inl same ↦ subst by (sym (test_true e.0 v.state.number same))
          (and_of (is_fine (m + 1) (e.0, v)) (list_all (is_fine (m + 1)) es)
          (and_of (v.state.number == e.0) (nat_le v.made (m + 1)) (test_true e.0 v.state.number same) (of_le v.made (m + 1) (omega (arith, made))))
          moved.1)
      | inr apart ↦ subst by (sym (test_false v.state.number e.0 (λ is. apart (sym is))))
          (and_of (is_fine (m + 1) e) (list_all (is_fine (m + 1)) (insert_entry (λ c d. c == d) es v.state.number v)) moved.0 (inserted_fine m v es made parts.1))
    ]

change_kept : (m synced : ℕ) (all : Bool) (v : Version) (es : List (ℕ × Version)) → v.made ≡ m + 1 → IsTrue (is_kept m (record { versions = es; synced = synced }))
    → IsTrue (is_kept (m + 1) (record { versions = insert_entry (λ a b. a == b) es v.state.number v; synced = cond all synced (m + 1) }))
change_kept m synced all v es made held =
    let parts = both (nat_le synced m) (list_all (is_fine m) es) held in
    and_of (nat_le (cond all synced (m + 1)) (m + 1)) (list_all (is_fine (m + 1)) (insert_entry (λ a b. a == b) es v.state.number v))
    (within all) (inserted_fine m v es made parts.1)
  where
    within : (b : Bool) → IsTrue (nat_le (cond b synced (m + 1)) (m + 1))
    within true = of_le synced (m + 1) (omega (arith, le_of synced m (both (nat_le synced m) (list_all (is_fine m) es) held).0))
    within false = of_le (m + 1) (m + 1) (omega arith)

-- ---- the states before

put_back_inserted : (n : ℕ) (v : Version) (es : List (ℕ × Version)) → put_back n (lookup (λ (k : ℕ). n == k) es) (insert_entry (λ a b. a == b) es n v) ≡ es
put_back_inserted n v [] = ap (λ (b : Bool). cond b [] ((n, v) ∷ [])) (same_test n)
put_back_inserted n v (e ∷ es) =
    let was = lookup (λ (k : ℕ). n == k) es in
    let after = insert_entry (λ a b. a == b) es n v in
    let by : Bool → List (ℕ × Version) = λ b. put_back n (cond b (Some e.1) was) (cond b ((e.0, v) ∷ es) (e ∷ after)) in
    elim (cases_eq e.0 n) [
      | inl same ↦ ap by (test_true e.0 n same) ∙ ap (λ (b : Bool). cond b (e ∷ es) ((e.0, v) ∷ put_back n (Some e.1) es)) (test_true e.0 n same)
      | inr apart ↦
          let no_ = test_false n e.0 (λ is. apart (sym is)) in
          ap by no_ ∙ ap (λ (b : Bool). cond b (option_map_or (λ (w : Version). (e.0, w) ∷ after) was after) (e ∷ put_back n was after)) no_
          ∙ ap (λ (l : List (ℕ × Version)). e ∷ l) (put_back_inserted n v es)
    ]

before_push : (us : List Undo) (u : Undo) (now old : Newest) → undone u now ≡ old → before_all (us ++ u ∷ []) now ≡ before_all us old
before_push [] u now old is = is
before_push (w ∷ us) u now old is = ap (undone w) (before_push us u now old is)

states_push : (us : List Undo) (u : Undo) (now old : Newest) → undone u now ≡ old → states_before (us ++ u ∷ []) now ≡ states_before us old ++ shown_of old ∷ []
states_push [] u now old is = ap (λ (n : Newest). shown_of n ∷ []) is
states_push (w ∷ us) u now old is =
    let first = ap (λ (n : Newest). shown_of (undone w n)) (before_push us u now old is) in
    let rest = states_push us u now old is in
    λ i. first i ∷ rest i

-- one state more before the present one
change_past : (us : List Undo) (u : Undo) (synced next : ℕ) (v : Version) (es : List (ℕ × Version)) → u.earlier ≡ lookup (λ (k : ℕ). u.number == k) es → u.synced ≡ synced
    → states_before (us ++ u ∷ []) (record { versions = insert_entry (λ a b. a == b) es u.number v; synced = next })
    ≡ states_before us (record { versions = es; synced = synced }) ++ map (shown_at synced) (values_of es) ∷ []
change_past us u synced next v es earlier was =
    let back = ap (λ (o : Option Version). put_back u.number o (insert_entry (λ a b. a == b) es u.number v)) earlier ∙ put_back_inserted u.number v es in
    states_push us u (record { versions = insert_entry (λ a b. a == b) es u.number v; synced = next }) (record { versions = es; synced = synced })
    (λ i. record { versions = back i; synced = was i })

-- ---- the next moment

module _ (us more : List Undo) (synced next n : ℕ) (earlier : Option Version) (all : Bool) (v : Version) (es put : List (ℕ × Version))
    (pushed : more ≡ us ++ record { number = n; earlier = earlier; synced = synced } ∷ []) (inserted : put ≡ insert_entry (λ a b. a == b) es n v)
    (number : n ≡ v.state.number) (sync : next ≡ cond all synced v.made) (made : v.made ≡ length us + 1) where
  own_inserted : put ≡ insert_entry (λ a b. a == b) es v.state.number v
  own_inserted = inserted ∙ ap (λ (k : ℕ). insert_entry (λ a b. a == b) es k v) number

  synced_next : next ≡ cond all synced (length us + 1)
  synced_next = sync ∙ ap (λ (k : ℕ). cond all synced k) made

  pub next_kept : IsTrue (is_kept (length us) (record { versions = es; synced = synced })) → IsTrue (is_kept (length more) (record { versions = put; synced = next }))
  next_kept held =
      let size : length more ≡ length us + 1 = omega (arith, ap length pushed, length-append us (record { number = n; earlier = earlier; synced = synced } ∷ [])) in
      subst (λ (k : ℕ). IsTrue (is_kept k (record { versions = put; synced = next }))) (sym size)
      (subst (λ (newest : Newest). IsTrue (is_kept (length us + 1) newest)) (λ i. record { versions = sym own_inserted i; synced = sym synced_next i })
      (change_kept (length us) synced all v es made held))

  pub next_shown : IsTrue (is_kept (length us) (record { versions = es; synced = synced }))
      → map (shown_at next) (values_of put) ≡ with_file all v.state (map (shown_at synced) (values_of es))
  next_shown held =
      let parts = both (nat_le synced (length us)) (list_all (is_fine (length us)) es) held in
      (λ i. map (shown_at (synced_next i)) (values_of (own_inserted i)))
      ∙ change_shown (length us) synced all v es (le_of synced (length us) parts.0) made parts.1

  pub next_past : earlier ≡ lookup (λ (k : ℕ). n == k) es
      → states_before more (record { versions = put; synced = next })
      ≡ states_before us (record { versions = es; synced = synced }) ++ map (shown_at synced) (values_of es) ∷ []
  next_past was =
      (λ i. states_before (pushed i) (record { versions = inserted i; synced = next }))
      ∙ change_past us (record { number = n; earlier = earlier; synced = synced }) synced next v es was refl

-- ---- after a crash

at_key : (P : ℕ → Type 0) (es : List (ℕ × Version)) (w : ℕ × Version) (more : List (ℕ × Version)) → AllByRecursion P (keys_of (es ++ w ∷ more)) → P w.0
at_key P [] w more all = all.0
at_key P (e ∷ es) w more all = at_key P es w more all.1

-- a number that differs from the others goes last
inserted_last : (es : List (ℕ × Version)) (w : ℕ × Version) (more : List (ℕ × Version)) → IsDistinct (λ a b. a == b) (keys_of (es ++ w ∷ more)) → insert_entry (λ a b. a == b) es w.0 w.1 ≡ es ++ w ∷ []
unfolding IsDistinct
inserted_last [] w more distinct = refl
inserted_last (e ∷ es) w more distinct =
    let apart : (e.0 == w.0) ≡ false = at_key (λ (k : ℕ). (e.0 == k) ≡ false) es w more distinct.0 in
    ap (λ (b : Bool). cond b ((e.0, w.1) ∷ es) (e ∷ insert_entry (λ c d. c == d) es w.0 w.1)) (test_false w.0 e.0 (λ is. false≢true (sym apart ∙ test_true w.0 e.0 is)))
    ∙ ap (λ (l : List (ℕ × Version)). e ∷ l) (inserted_last es w more distinct.1)

module _ (greatest : Bool) (filler : ℕ) (removed_too : Bool) (synced : ℕ) where
  abbrev pub left_entry : ℕ × Version → ℕ × Version
  left_entry e = (e.0, record { state = left_of greatest filler removed_too (shown_at synced e.1); made = 0 })

  pub left_shown : (es : List (ℕ × Version)) → map (shown_at 0) (values_of (map left_entry es)) ≡ map (left_of greatest filler removed_too) (map (shown_at synced) (values_of es))
  left_shown [] = refl
  left_shown (e ∷ es) = ap (λ (l : List Shown). left_of greatest filler removed_too (shown_at synced e.1) ∷ l) (left_shown es)

  pub left_fine : (m : ℕ) (es : List (ℕ × Version)) → IsTrue (list_all (is_fine m) es) → IsTrue (list_all (is_fine 0) (map left_entry es))
  left_fine m [] fine = refl
  left_fine m (e ∷ es) fine =
      let parts = both (is_fine m e) (list_all (is_fine m) es) fine in
      let one = both (e.1.state.number == e.0) (nat_le e.1.made m) parts.0 in
      and_of (is_fine 0 (left_entry e)) (list_all (is_fine 0) (map left_entry es)) (and_of (e.1.state.number == e.0) true one.0 refl) (left_fine m es parts.1)

  pub left_kept : (m : ℕ) (es left : List (ℕ × Version)) → IsTrue (is_kept m (record { versions = es; synced = synced })) → left ≡ map left_entry es
      → IsTrue (is_kept 0 (record { versions = left; synced = 0 }))
  left_kept m es left held is =
      subst (λ (l : List (ℕ × Version)). IsTrue (is_kept 0 (record { versions = l; synced = 0 }))) (sym is)
      (left_fine m es (both (nat_le synced m) (list_all (is_fine m) es) held).1)

  same_keys : (es : List (ℕ × Version)) → keys_of es ≡ keys_of (map left_entry es)
  same_keys [] = refl
  same_keys (e ∷ es) = ap (λ (l : List ℕ). e.0 ∷ l) (same_keys es)

  -- one entry more
  pub left_more : (es rest more left : List (ℕ × Version)) (e w : ℕ × Version) → IsDistinct (λ a b. a == b) (keys_of es) → left ++ map left_entry rest ≡ map left_entry es → rest ≡ e ∷ more
      → w ≡ left_entry e → insert_entry (λ a b. a == b) left w.0 w.1 ++ map left_entry more ≡ map left_entry es
  left_more es rest more left e w distinct whole is entry =
      let all : left ++ w ∷ map left_entry more ≡ map left_entry es =
      ap (λ (x : ℕ × Version). left ++ x ∷ map left_entry more) entry ∙ ap (λ (l : List (ℕ × Version)). left ++ map left_entry l) (sym is) ∙ whole in
      let apart : IsDistinct (λ a b. a == b) (keys_of (left ++ w ∷ map left_entry more)) =
      subst (λ (l : List (ℕ × Version)). IsDistinct (λ a b. a == b) (keys_of l)) (sym all) (subst (IsDistinct (λ a b. a == b)) (same_keys es) distinct) in
      ap (λ (l : List (ℕ × Version)). l ++ map left_entry more) (inserted_last left w (map left_entry more) apart) ∙ append_assoc left (w ∷ []) (map left_entry more) ∙ all

-- ---- the walk to the nearest file

pub item_at : (synced : ℕ) (values seen more : List Version) (v : Version) → seen ++ v ∷ more ≡ values
    → (shown_at synced v ≡ get_or (map (shown_at synced) values) (length seen) (shown_at synced v)) × (length seen < length (map (shown_at synced) values))
item_at synced values seen more v is =
    let split : map (shown_at synced) values ≡ map (shown_at synced) seen ++ shown_at synced v ∷ map (shown_at synced) more =
    ap (map (shown_at synced)) (sym is) ∙ map-append (shown_at synced) seen (v ∷ more) in
    let size : length (map (shown_at synced) seen) ≡ length seen = length-map seen (shown_at synced) in (
      sym (ap (λ (l : List Shown). get_or l (length seen) (shown_at synced v)) split ∙ get_or_at (map (shown_at synced) seen) (shown_at synced v) (map (shown_at synced) more) (shown_at synced v) (length seen) size),
      omega (arith, ap length split, length-append (map (shown_at synced) seen) (shown_at synced v ∷ map (shown_at synced) more), size),
    )
