-- The commands of a piece of the script, one after another.
use Rattle.std.proofs.Common.{◌≡◌, ℕ, ◌+◌, ◌-◌, ◌≤◌, Bool, IsTrue, List, [], ◌++◌, length, take, drop, Option, refl, sym, ap, ◌∙◌, subst, append_assoc, append-nil, take-append-drop, length-take, length-drop, arith}
use Rattle.std.proofs.lemmas.List.{take_all, drop_all, drop-drop}
use Rattle.outside_traits.specs.View.{View, Counts}
use Rattle.script_text.specs.declared.lines.Lines.{Lines}
use Rattle.script_text.proofs.TakeLemmas.{taken_next, rest_is}
use Rattle.session.specs.Standing.{HoldsJobs}
use Rattle.session.specs.declared.session.Session.{Session}
use Rattle.nectar_top.specs.Crash.{Found}
use Rattle.nectar_top.specs.Outside.{Outside, shown, faults, NoneFell}
use Rattle.nectar_top.specs.Run.{longest_script}
use Rattle.nectar_top.specs.Turns.{Serving, Ends, HasCause}
use Rattle.nectar_top.specs.declared.exit.Exit.{Exit}
use Rattle.nectar_top.specs.declared.summary.Summary.{Summary}
use Rattle.nectar_top.proofs.CauseLemmas.{none_fell, none_fell_on, caused_since}

-- where the first session serves so many of these bytes first, the second one is left with the others
abbrev pub Serves : Bool → Found → View → Lines → Session → Summary → Option (List ℕ) → View → Counts → List ℕ → Lines → Session → Summary → Option (List ℕ) → View → Counts → List ℕ → List ℕ → Type 0
Serves quiet found u r0 s0 m0 w0 v0 c0 piece r1 s1 m1 w1 v1 c1 more rest =
    (served : List ℕ) (begun : Outside) (left : Option (List ℕ)) → Serving found u v0 r0 s0 m0 served piece begun (shown quiet left w0 c0) → Serving found u v1 r1 s1 m1 (served ++ more) rest begun (shown quiet left w1 c1)

-- so many bytes of the piece were taken, over a store of this type
pub record TakenSoFar (D : Type 0) (view : D → View) (tells quiet : Bool) (r0 r1 : Lines) (s0 s1 : Session) (m0 m1 : Summary) (w0 w1 : Option (List ℕ)) (v0 v1 : View) (f0 f1 : ℕ) (c0 c1 : Counts) (piece : List ℕ) (at : ℕ) : Type 0 where
  pub bound : at ≤ length piece
  pub holds : HoldsJobs s1
  pub serving : IsTrue tells → (found : Found) (origin : D) → Serves quiet found (view origin) r0 s0 m0 w0 v0 c0 piece r1 s1 m1 w1 v1 c1 (take at piece) (drop at piece)
  pub counts : (source : ℕ) → NoneFell (faults source f0 c0) (faults source f1 c1)
  pub writes : c1.writes ≡ c0.writes

pub TakenSoFar-none : (D : Type 0) (view : D → View) (tells quiet : Bool) (reader : Lines) (session : Session) (summary : Summary) (written : Option (List ℕ)) (v : View) (f : ℕ) (c : Counts) (piece : List ℕ) → HoldsJobs session → TakenSoFar D view tells quiet reader reader session session summary summary written written v v f f c c piece 0
TakenSoFar-none D view tells quiet reader session summary written v f c piece holds = record {
  bound = omega arith;
  holds = holds;
  serving = λ told found origin served begun left at. subst (λ t. Serving found (view origin) v reader session summary t piece begun (shown quiet left written c)) (sym (append-nil served)) at;
  counts = λ source. none_fell (faults source f c);
  writes = refl;
}

module _ (D : Type 0) (view : D → View) (tells quiet : Bool) (r0 r1 : Lines) (s0 s1 : Session) (m0 m1 : Summary) (w0 w1 : Option (List ℕ)) (v0 v1 : View) (f0 f1 : ℕ) (c0 c1 : Counts) (piece : List ℕ) (at : ℕ)
    (so_far : TakenSoFar D view tells quiet r0 r1 s0 s1 m0 m1 w0 w1 v0 v1 f0 f1 c0 c1 piece at) where
  abbrev part : List ℕ
  part = take (length piece - at) (drop at piece)

  -- what is served of the piece, with its rest as the code cuts it
  at_part : IsTrue tells → (found : Found) (origin : D) (served : List ℕ) (begun : Outside) (left : Option (List ℕ)) → Serving found (view origin) v0 r0 s0 m0 served piece begun (shown quiet left w0 c0)
      → Serving found (view origin) v1 r1 s1 m1 (served ++ take at piece) part begun (shown quiet left w1 c1)
  at_part told found origin served begun left serving =
      subst (λ rest. Serving found (view origin) v1 r1 s1 m1 (served ++ take at piece) rest begun (shown quiet left w1 c1)) (sym (rest_is piece at)) (so_far.serving told found origin served begun left serving)

  rest_next : (count : ℕ) → drop count part ≡ drop (at + count) piece
  rest_next count = ap (drop count) (rest_is piece at) ∙ drop-drop count at piece

  pub TakenSoFar-more : (r2 : Lines) (s2 : Session) (m2 : Summary) (w2 : Option (List ℕ)) (v2 : View) (f2 : ℕ) (c2 : Counts) (count : ℕ) → HoldsJobs s2 → count ≤ length part
      → (IsTrue tells → (found : Found) (origin : D) → Serves quiet found (view origin) r1 s1 m1 w1 v1 c1 part r2 s2 m2 w2 v2 c2 (take count part) (drop count part))
      → ((source : ℕ) → NoneFell (faults source f1 c1) (faults source f2 c2)) → c2.writes ≡ c1.writes → TakenSoFar D view tells quiet r0 r2 s0 s2 m0 m2 w0 w2 v0 v2 f0 f2 c0 c2 piece (at + count)
  TakenSoFar-more r2 s2 m2 w2 v2 f2 c2 count holds fits serves counts writes = record {
    holds = holds;
    bound = omega (arith, fits, so_far.bound, length-take (length piece - at) (drop at piece), length-drop at piece);
    serving = λ told found origin served begun left serving.
        subst (λ rest. Serving found (view origin) v2 r2 s2 m2 (served ++ take (at + count) piece) rest begun (shown quiet left w2 c2)) (rest_next count)
        (subst (λ t. Serving found (view origin) v2 r2 s2 m2 t (drop count part) begun (shown quiet left w2 c2)) (append_assoc served (take at piece) (take count part) ∙ ap (λ t. served ++ t) (taken_next piece at count))
        (serves told found origin (served ++ take at piece) begun left (at_part told found origin served begun left serving)));
    counts = λ source. none_fell_on (faults source f0 c0) (faults source f1 c1) (faults source f2 c2) (so_far.counts source) (counts source);
    writes = writes ∙ so_far.writes;
  }

  -- the bytes are those of the piece, whichever part of them is served
  whole : (served : List ℕ) → (served ++ take at piece) ++ part ≡ served ++ piece
  whole served = append_assoc served (take at piece) part ∙ ap (λ t. served ++ t) (ap (λ t. take at piece ++ t) (rest_is piece at) ∙ take-append-drop at piece)

  pub Ends-more : (exit : Exit) (w2 : Option (List ℕ)) (v2 : View) (c2 : Counts)
      → (IsTrue tells → (found : Found) (origin : D) (served : List ℕ) (begun : Outside) (left : Option (List ℕ)) → Serving found (view origin) v1 r1 s1 m1 served part begun (shown quiet left w1 c1) → length (served ++ part) ≤ longest_script → Ends found (view origin) v2 exit begun (shown quiet left w2 c2))
      → IsTrue tells → (found : Found) (origin : D) (served : List ℕ) (begun : Outside) (left : Option (List ℕ)) → Serving found (view origin) v0 r0 s0 m0 served piece begun (shown quiet left w0 c0) → length (served ++ piece) ≤ longest_script → Ends found (view origin) v2 exit begun (shown quiet left w2 c2)
  Ends-more exit w2 v2 c2 ends told found origin served begun left serving within =
      ends told found origin (served ++ take at piece) begun left (at_part told found origin served begun left serving) (omega (arith, within, ap length (whole served)))

  pub HasCause-more : (exit : Exit) (f2 : ℕ) (c2 : Counts) → ((source : ℕ) → HasCause exit (faults source f1 c1) (faults source f2 c2)) → (source : ℕ) → HasCause exit (faults source f0 c0) (faults source f2 c2)
  HasCause-more exit f2 c2 cause source = caused_since exit (faults source f0 c0) (faults source f1 c1) (faults source f2 c2) (so_far.counts source) so_far.writes (cause source)

  -- all of the piece is served
  pub Serves-all : length piece ≤ at → IsTrue tells → (found : Found) (origin : D) → Serves quiet found (view origin) r0 s0 m0 w0 v0 c0 piece r1 s1 m1 w1 v1 c1 piece []
  Serves-all all told found origin served begun left serving =
      subst (λ rest. Serving found (view origin) v1 r1 s1 m1 (served ++ piece) rest begun (shown quiet left w1 c1)) (drop_all at piece all)
      (subst (λ t. Serving found (view origin) v1 r1 s1 m1 (served ++ t) (drop at piece) begun (shown quiet left w1 c1)) (take_all at piece all) (so_far.serving told found origin served begun left serving))
