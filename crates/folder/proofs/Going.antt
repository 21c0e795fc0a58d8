-- The loop over bodies: what is replayed of those that are left leads from the table so far.
use Rattle.std.proofs.Common.{◌≡◌, inl, inr, ℕ, zero, suc, ◌+◌, ◌^◌, ◌<◌, ◌≤◌, Bool, true, false, List, [], ◌∷◌, ◌++◌, length, take, drop, slice_index_or, add-one, Err, IsErrOf, refl, sym, ap, ◌∙◌, subst, arith}
use Rattle.std.specs.Prelude.{Vec}
use Rattle.std.specs.declared.alloc.Global.{Global}
use Rattle.std.proofs.lemmas.Bool.{false≢true}
use Rattle.gated_log.specs.Logs.{front, contents}
use Rattle.gated_log.proofs.Crash.{length-front_push, length-front_empty}
use Rattle.gated_log.proofs.Places.{length-front_take}
use Rattle.catalog_types.specs.declared.change.Change.{Change}
use Rattle.record_codec.specs.declared.form.Form.{Form}
use Rattle.catalog_core.specs.Table.{Table, empty_table, after}
use Rattle.folder.specs.declared.replay.ReplayRefusal.{ReplayRefusal}
use Rattle.folder.specs.declared.replay.ReplayRefusal.TheVariants as replay
use Rattle.folder.specs.Refusals.{from_place, FitsFrom, IsStop}
use Rattle.folder.specs.Replay.{IsBodyOf, MayBeMade, Replays, StopsIn, StopsReplay}

next_of : (xs : List (Vec ℕ Global)) (i : ℕ) (x : Vec ℕ Global) → i < length xs → x ≡ slice_index_or xs i x → contents (take (suc i) xs) ≡ contents (take i xs) ++ x.items ∷ []
next_of [] i x low is = absurd (omega (arith, low))
next_of (y ∷ ys) zero x low is = ap (λ v. v.items ∷ []) (sym is)
next_of (y ∷ ys) (suc i) x low is = ap (λ l. y.items ∷ l) (next_of ys i x (omega (arith, low)) is)

left_of : (xs : List (Vec ℕ Global)) (i : ℕ) (x : Vec ℕ Global) → i < length xs → x ≡ slice_index_or xs i x → contents (drop i xs) ≡ x.items ∷ contents (drop (suc i) xs)
left_of [] i x low is = absurd (omega (arith, low))
left_of (y ∷ ys) zero x low is = ap (λ v. v.items ∷ contents ys) (sym is)
left_of (y ∷ ys) (suc i) x low is = left_of ys i x (omega (arith, low)) is

none_left : (xs : List (Vec ℕ Global)) → contents (drop (length xs) xs) ≡ []
none_left [] = refl
none_left (x ∷ xs) = none_left xs

-- the place of the gate of body i
pub gate_at : List (Vec ℕ Global) → ℕ → ℕ
gate_at xs i = length (front (contents (take i xs)))

gate_next : (xs : List (Vec ℕ Global)) (i : ℕ) (x : Vec ℕ Global) → i < length xs → x ≡ slice_index_or xs i x → gate_at xs (suc i) ≡ gate_at xs i + length x.items + 5
unfolding gate_at
gate_next xs i x low is = ap (λ l. length (front l)) (next_of xs i x low is) ∙ length-front_push (contents (take i xs)) x.items

-- What is said of the bodies that are left, from this table on, is said of all.
pub record Going (f : Form) (due : Bool) (all : List (Vec ℕ Global)) (i : ℕ) (now : Bool) (t : Table) : Type 0 where
  pub reached : (t' : Table) → Replays f now t (contents (drop i all)) t' → Replays f due empty_table (contents all) t'
  pub stopped : (at : ℕ) → StopsReplay f now t (gate_at all i) (contents (drop i all)) at → StopsReplay f due empty_table 8 (contents all) at
  pub first : now ≡ true → i ≡ 0
  pub fresh : now ≡ true → t ≡ empty_table

pub going_from : (f : Form) (due : Bool) (all : List (Vec ℕ Global)) (now : Bool) (t : Table) → now ≡ due → t ≡ empty_table → Going f due all 0 now t
unfolding gate_at
going_from f due all now t now_is t_is = record {
  reached = λ t' run. subst (λ x. Replays f due x (contents all) t') t_is (subst (λ b. Replays f b t (contents all) t') now_is run);
  stopped = λ at stops. subst (λ n. StopsReplay f due empty_table n (contents all) at) length-front_empty
      (subst (λ x. StopsReplay f due x (length (front [])) (contents all) at) t_is (subst (λ b. StopsReplay f b t (length (front [])) (contents all) at) now_is stops));
  first = λ is. refl;
  fresh = λ is. t_is;
}

pub stops_at : (m n : ℕ) → replay.Stops m ≡ replay.Stops n → m ≡ n
stops_at m n is = cc

module _ (f : Form) (due : Bool) (all : List (Vec ℕ Global)) (i : ℕ) (now : Bool) (t : Table) (going : Going f due all i now t)
    (body : Vec ℕ Global) (low : i < length all) (is : body ≡ slice_index_or all i body) where
  on_by : (t' : Table) (c : Change) → IsBodyOf f c body.items → MayBeMade now t c → t' ≡ after c t → Going f due all (suc i) false t'
  on_by t' c of may t_is = record {
    reached = λ x run. going.reached x (subst (λ l. Replays f now t l x) (sym (left_of all i body low is)) (c, of, may, subst (λ y. Replays f false y (contents (drop (suc i) all)) x) t_is run));
    stopped = λ at stops. going.stopped at (subst (λ l. StopsReplay f now t (gate_at all i) l at) (sym (left_of all i body low is))
        (inr (
          c,
          of,
          may,
          subst (λ n. StopsReplay f false (after c t) n (contents (drop (suc i) all)) at) (gate_next all i body low is)
              (subst (λ y. StopsReplay f false y (gate_at all (suc i)) (contents (drop (suc i) all)) at) t_is stops),
        )));
    first = λ is. absurd (false≢true is);
    fresh = λ is. absurd (false≢true is);
  }

  pub going_on : (t' : Table) (bytes : List ℕ) (c : Change) → bytes ≡ body.items → IsBodyOf f c bytes → MayBeMade now t c → t' ≡ after c t → Going f due all (i + 1) false t'
  going_on t' bytes c bytes_are of may t_is = subst (λ n. Going f due all n false t') (sym (add-one i)) (on_by t' c (subst (λ l. IsBodyOf f c l) bytes_are of) may t_is)

  stops_here : (bytes : List ℕ) (within : ℕ) → bytes ≡ body.items → StopsIn f now t bytes within → StopsReplay f due empty_table 8 (contents all) (length (front (contents (take i all))) + 5 + within)
  unfolding gate_at
  stops_here bytes within bytes_are stops = going.stopped (length (front (contents (take i all))) + 5 + within)
      (subst (λ l. StopsReplay f now t (gate_at all i) l (length (front (contents (take i all))) + 5 + within)) (sym (left_of all i body low is))
      (inl (within, subst (λ l. StopsIn f now t l within) bytes_are stops, refl)))

  -- the place lies within the log
  place_below : (bytes : List ℕ) (within : ℕ) → bytes ≡ body.items → within ≤ length bytes → length (front (contents all)) < 2 ^ 63
      → length (front (contents (take i all))) + 5 + within < 2 ^ 64
  unfolding gate_at
  place_below bytes within bytes_are short fits =
      let most : length (front (contents (take (suc i) all))) ≤ length (front (contents all)) = length-front_take all (suc i) in
      let next : length (front (contents (take (suc i) all))) ≡ length (front (contents (take i all))) + length body.items + 5 = gate_next all i body low is in
      let size : length bytes ≡ length body.items = ap length bytes_are in
      omega (arith, most, next, size, short, fits)

  pub going_stops : (bytes : List ℕ) (place : ℕ) (r : ReplayRefusal) → bytes ≡ body.items → place ≡ length (front (contents (take i all))) + 5 → IsStop f now t bytes r
      → (at : ℕ) → from_place place r ≡ replay.Stops at → StopsReplay f due empty_table 8 (contents all) at
  going_stops bytes place (replay.Stops within) bytes_are place_is stop at is =
      let there : length (front (contents (take i all))) + 5 + within ≡ at = ap (λ n. n + within) (sym place_is) ∙ stops_at (place + within) at is in
      subst (λ n. StopsReplay f due empty_table 8 (contents all) n) there (stops_here bytes within bytes_are stop.0)
  going_stops bytes place replay.Memory bytes_are place_is stop at is = absurd (cc)

  pub going_fits : (bytes : List ℕ) (place : ℕ) (r : ReplayRefusal) → bytes ≡ body.items → place ≡ length (front (contents (take i all))) + 5 → IsStop f now t bytes r
      → length (front (contents all)) < 2 ^ 63 → FitsFrom place r
  going_fits bytes place (replay.Stops within) bytes_are place_is stop fits =
      subst (λ n. n + within < 2 ^ 64) (sym place_is) (place_below bytes within bytes_are stop.1 fits)
  going_fits bytes place replay.Memory bytes_are place_is stop fits = tt

pub front_below : (all : List (Vec ℕ Global)) (i : ℕ) → length (front (contents all)) < 2 ^ 63 → length (front (contents (take i all))) + 5 < 2 ^ 64
front_below all i fits =
    let most : length (front (contents (take i all))) ≤ length (front (contents all)) = length-front_take all i in
    omega (arith, most, fits)

-- at the end no body is left
pub going_ended : (f : Form) (due : Bool) (all : List (Vec ℕ Global)) (i : ℕ) (t : Table) → Going f due all i false t → i ≡ length all → Replays f due empty_table (contents all) t
going_ended f due all i t going end = going.reached t
    (subst (λ n. Replays f false t (contents (drop n all)) t) (sym end) (subst (λ l. Replays f false t l t) (sym (none_left all)) (refl, refl)))

pub going_due : (f : Form) (due : Bool) (all : List (Vec ℕ Global)) (i : ℕ) (now : Bool) (t : Table) → Going f due all i now t → now ≡ true → i ≡ length all → StopsReplay f due empty_table 8 (contents all) 8
unfolding gate_at
going_due f due all i now t going is end = going.stopped 8
    (subst (λ n. StopsReplay f now t (gate_at all n) (contents (drop n all)) 8) (sym end)
    (subst (λ l. StopsReplay f now t (gate_at all (length all)) l 8) (sym (none_left all))
    (is, sym length-front_empty ∙ ap (λ n. length (front (contents (take n all)))) (sym (going.first is) ∙ end))))

-- an error and what it is an error of
pub err_same : {T E : Type 0} (x y : E) → IsErrOf {T = T} {E = E} (Err x) y → x ≡ y
err_same x y is = cc
