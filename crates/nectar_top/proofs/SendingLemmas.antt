-- Bytes on their way to a sink.
use Rattle.std.proofs.Common.{◌≡◌, ℕ, ◌+◌, ◌-◌, ◌<◌, ◌≤◌, List, [], ◌∷◌, ◌++◌, length, length-append, get_or, take, drop, flat_map, decimal, Option, Result, Ok, Err, OnErr, refl, sym, ap, ◌∙◌, subst, append_assoc, append-nil, take-append-drop, length-drop, length-take, arith}
use Rattle.std.specs.Io.KnownBytes.{Appends, Keeps}
use Rattle.std.proofs.KnownBytes.{Appends-nil, Appends-trans, Appends-kept}
use Rattle.std.proofs.lemmas.List.Concat.{flat_map-append}
use Rattle.std.proofs.lemmas.List.{take_all, take_more}
use Rattle.script_text.proofs.TakeLemmas.{taken_next}
use Rattle.script_text.specs.Answer.{printed_line}
use Rattle.nectar_top.specs.Sending.{SentInPart}

-- so many bytes from the front were written
pub record SentSoFar (written written' : Option (List ℕ)) (faults faults' : ℕ) (bytes : List ℕ) (sent : ℕ) : Type 0 where
  pub bound : sent ≤ length bytes
  pub wrote : Appends written written' (take sent bytes)
  pub counts : faults ≤ faults'

module _ (w w' w'' : Option (List ℕ)) (f f' f'' : ℕ) (bytes : List ℕ) (sent : ℕ) (so_far : SentSoFar w w' f f' bytes sent) where
  pub SentSoFar-more : (count : ℕ) → count ≤ length (take (length bytes - sent) (drop sent bytes)) → Appends w' w'' (take count (take (length bytes - sent) (drop sent bytes))) → f' ≤ f'' → SentSoFar w w'' f f'' bytes (sent + count)
  SentSoFar-more count fits more counts = record {
    bound = omega (arith, fits, so_far.bound, length-take (length bytes - sent) (drop sent bytes));
    wrote = subst (Appends w w'') (taken_next bytes sent count) (Appends-trans w w' w'' _ _ so_far.wrote more);
    counts = omega (arith, so_far.counts);
  }

  pub SentInPart-failed : sent < length bytes → Keeps w' w'' → SentInPart w w'' bytes
  SentInPart-failed lacks kept = record {
    part = take sent bytes;
    rest = drop sent bytes;
    whole = sym (take-append-drop sent bytes);
    lacks = omega (arith, length-drop sent bytes);
    wrote = Appends-kept w w' w'' (take sent bytes) so_far.wrote kept;
  }

-- one element more
flat_map-take : {X : Type 0} (f : X → List ℕ) (xs : List X) (k : ℕ) (d : X) → k < length xs → flat_map f (take (k + 1) xs) ≡ flat_map f (take k xs) ++ f (get_or xs k d)
flat_map-take f xs k d below = ap (flat_map f) (take_more xs k d below) ∙ flat_map-append f (take k xs) (get_or xs k d ∷ []) ∙ ap (λ r. flat_map f (take k xs) ++ r) (append-nil (f (get_or xs k d)))

-- so many of these lines were made: what is in the room is held back, and all before it is written
pub record SentLines (written written' : Option (List ℕ)) (faults faults' : ℕ) (lines : List (List ℕ)) (room : List ℕ) (line : ℕ) : Type 0 where
  pub sent : List ℕ
  pub whole : sent ++ room ≡ flat_map printed_line (take line lines)
  pub wrote : Appends written written' sent
  pub counts : faults ≤ faults'

pub SentLines-none : (w : Option (List ℕ)) (f : ℕ) (lines : List (List ℕ)) → SentLines w w f f lines [] 0
SentLines-none w f lines = record { sent = []; whole = refl; wrote = Appends-nil w; counts = omega arith }

module _ (w w' : Option (List ℕ)) (f f' : ℕ) (lines : List (List ℕ)) (room : List ℕ) (line : ℕ) (at : SentLines w w' f f' lines room line) where
  -- one line more is held back
  pub SentLines-more : (room' : List ℕ) → line < length lines → room' ≡ room ++ printed_line (get_or lines line []) → SentLines w w' f f' lines room' (line + 1)
  SentLines-more room' below is = record {
    sent = at.sent;
    whole = ap (λ t. at.sent ++ t) is ∙ sym (append_assoc at.sent room (printed_line (get_or lines line []))) ∙ ap (λ t. t ++ printed_line (get_or lines line [])) at.whole ∙ sym (flat_map-take printed_line lines line [] below);
    wrote = at.wrote;
    counts = at.counts;
  }

  -- what is held back was written
  pub SentLines-written : (w'' : Option (List ℕ)) (f'' : ℕ) → Appends w' w'' room → f' ≤ f'' → SentLines w w'' f f'' lines [] line
  SentLines-written w'' f'' more counts = record {
    sent = at.sent ++ room;
    whole = append-nil (at.sent ++ room) ∙ at.whole;
    wrote = Appends-trans w w' w'' at.sent room at.wrote more;
    counts = omega (arith, at.counts, counts);
  }

  -- or a part of it
  pub SentInPart-lines : (w'' : Option (List ℕ)) → SentInPart w' w'' room → SentInPart w w'' (flat_map printed_line lines)
  SentInPart-lines w'' broken =
      let behind = flat_map printed_line (drop line lines) in
      let front : flat_map printed_line (take line lines) ≡ (at.sent ++ broken.part) ++ broken.rest = sym at.whole ∙ ap (λ t. at.sent ++ t) broken.whole ∙ sym (append_assoc at.sent broken.part broken.rest) in
      record {
        part = at.sent ++ broken.part;
        rest = broken.rest ++ behind;
        whole = ap (flat_map printed_line) (sym (take-append-drop line lines)) ∙ flat_map-append printed_line (take line lines) (drop line lines) ∙ ap (λ t. t ++ behind) front ∙ append_assoc (at.sent ++ broken.part) broken.rest behind;
        lacks = omega (arith, broken.lacks, length-append broken.rest behind);
        wrote = Appends-trans w w' w'' at.sent broken.part at.wrote broken.wrote;
      }

  -- all lines are made, and what was held back is written
  pub SentLines-all : (w'' : Option (List ℕ)) → length lines ≤ line → Appends w' w'' room → Appends w w'' (flat_map printed_line lines)
  SentLines-all w'' all more =
      subst (Appends w w'') (at.whole ∙ ap (flat_map printed_line) (take_all line lines all)) (Appends-trans w w' w'' at.sent room at.wrote more)

-- two parts, of which the first was not written whole; or it was, and not the second one
pub SentInPart-front : (w w' : Option (List ℕ)) (front behind : List ℕ) → SentInPart w w' front → SentInPart w w' (front ++ behind)
SentInPart-front w w' front behind sent = record {
  part = sent.part;
  rest = sent.rest ++ behind;
  whole = ap (λ t. t ++ behind) sent.whole ∙ append_assoc sent.part sent.rest behind;
  lacks = omega (arith, sent.lacks, length-append sent.rest behind);
  wrote = sent.wrote;
}

pub SentInPart-behind : (w w' w'' : Option (List ℕ)) (front behind : List ℕ) → Appends w w' front → SentInPart w' w'' behind → SentInPart w w'' (front ++ behind)
SentInPart-behind w w' w'' front behind wrote sent = record {
  part = front ++ sent.part;
  rest = sent.rest;
  whole = ap (λ t. front ++ t) sent.whole ∙ sym (append_assoc front sent.part sent.rest);
  lacks = sent.lacks;
  wrote = Appends-trans w w' w'' front sent.part wrote sent.wrote;
}

-- what is said of an error is said otherwise
pub on_err : {A B : Type 0} {P Q : Type 0} (r : Result A B) → OnErr r P → (P → Q) → OnErr r Q
on_err (Ok a) is more = tt
on_err (Err b) is more = more is

-- a line of a word and a number, of which the word or the number was not written whole
pub SentInPart-word : (w w' : Option (List ℕ)) (word : List ℕ) (number : ℕ) → SentInPart w w' word → SentInPart w w' (printed_line (word ++ decimal number))
SentInPart-word w w' word number sent = subst (SentInPart w w') (sym (append_assoc word (decimal number) (10 ∷ []))) (SentInPart-front w w' word (printed_line (decimal number)) sent)

pub SentInPart-number : (w w' w'' : Option (List ℕ)) (word digits : List ℕ) (number : ℕ) → digits ≡ decimal number → Appends w w' word → SentInPart w' w'' (printed_line digits) → SentInPart w w'' (printed_line (word ++ decimal number))
SentInPart-number w w' w'' word digits number is wrote sent =
    subst (SentInPart w w'') (sym (append_assoc word (decimal number) (10 ∷ []))) (SentInPart-behind w w' w'' word (printed_line (decimal number)) wrote (subst (λ d. SentInPart w' w'' (printed_line d)) is sent))
