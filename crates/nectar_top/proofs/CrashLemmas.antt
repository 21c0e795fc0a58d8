-- What crashes leave, as a run goes on.
use Rattle.std.proofs.Common.{◌⊎◌, ℕ, List, [], ◌∷◌, ◌++◌, refl, sym, ap, ◌∙◌, append_assoc, append-nil, inl, inr}
use Rattle.outside_traits.specs.View.{View}
use Rattle.outside_traits.proofs.RunLemmas.{spans_none, spans_wider, spans_on}
use Rattle.script_text.specs.declared.answer.Answer.{Answer}
use Rattle.script_text.specs.declared.item.Item.{Item}
use Rattle.folder.specs.Sound.{Care, IsSound}
use Rattle.folder.specs.State.{State}
use Rattle.folder.specs.Left.{IsLeft, Everything, Since}
use Rattle.session.specs.Machine.{Machine, without_jobs}
use Rattle.nectar_top.specs.Crash.{Found, IsOfPrefix, IsReached, Reaches}
use Rattle.nectar_top.specs.Machine.{Run}

module _ (care : Care) (start : State) where
  -- with more commands
  prefix_more : (commands : List Item) (answers : List Answer) (cs : List Item) (more : List Answer) (image : ℕ → List ℕ) → IsOfPrefix care start commands answers image → IsOfPrefix care start (commands ++ cs) (answers ++ more) image
  prefix_more commands answers cs more image is = record {
    before = is.before;
    behind = is.behind ++ cs;
    parts = ap (λ l. l ++ cs) is.parts ∙ append_assoc is.before is.behind cs;
    given = is.given;
    others = is.others ++ more;
    answers_are = ap (λ l. l ++ more) is.answers_are ∙ append_assoc is.given is.others more;
    machine = is.machine;
    run = is.run;
    sound = is.sound;
  }

  -- the machine after some of them
  prefix_here : (commands : List Item) (answers : List Answer) (cs : List Item) (more : List Answer) (m : Machine) (image : ℕ → List ℕ) → Run care (without_jobs start) commands answers m → IsSound care image m.state → IsOfPrefix care start (commands ++ cs) (answers ++ more) image
  prefix_here commands answers cs more m image run sound = record {
    before = commands;
    behind = cs;
    parts = refl;
    given = answers;
    others = more;
    answers_are = refl;
    machine = m;
    run = run;
    sound = sound;
  }

  -- and after all
  prefix_all : (commands : List Item) (answers : List Answer) (m : Machine) (image : ℕ → List ℕ) → Run care (without_jobs start) commands answers m → IsSound care image m.state → IsOfPrefix care start commands answers image
  prefix_all commands answers m image run sound = record {
    before = commands;
    behind = [];
    parts = sym (append-nil commands);
    given = answers;
    others = [];
    answers_are = sym (append-nil answers);
    machine = m;
    run = run;
    sound = sound;
  }

-- the folder was loaded
pub reaches_loaded : (found : Found) (u v : View) → Since found.care found.first found.other u v → Reaches found [] [] u v
reaches_loaded found u v since =
    spans_wider Everything Everything (λ image. IsSound found.care image found.first ⊎ IsSound found.care image found.other) (IsReached found [] []) u v since (λ g any. any)
    (λ image is others. elim is [
      | inl first ↦ inr (prefix_all found.care found.first [] [] (without_jobs found.first) image refl first)
      | inr other ↦ inl other
    ])

-- one command more, from m to m', of which the machine may give this answer
pub reaches_on : (found : Found) (u v w : View) (commands : List Item) (answers : List Answer) (c : Item) (a : Answer) (m m' : Machine) → Run found.care (without_jobs found.first) commands answers m → Run found.care (without_jobs found.first) (commands ++ c ∷ []) (answers ++ a ∷ []) m'
    → Reaches found commands answers u v → Since found.care m.state m'.state v w → Reaches found (commands ++ c ∷ []) (answers ++ a ∷ []) u w
reaches_on found u v w commands answers c a m m' run run' before since =
    let Q : (ℕ → List ℕ) → Type 0 = IsReached found (commands ++ c ∷ []) (answers ++ a ∷ []) in
    spans_on Everything Q u v w
    (spans_wider Everything Everything (IsReached found commands answers) Q u v before (λ g any. any) (λ image is others. elim is [
      | inl other ↦ inl other
      | inr prefix ↦ inr (prefix_more found.care found.first commands answers (c ∷ []) (a ∷ []) image prefix)
    ]))
    (spans_wider Everything Everything (λ image. IsSound found.care image m.state ⊎ IsSound found.care image m'.state) Q v w since (λ g any. any) (λ image is others. elim is [
      | inl old ↦ inr (prefix_here found.care found.first commands answers (c ∷ []) (a ∷ []) m image run old)
      | inr new ↦ inr (prefix_all found.care found.first (commands ++ c ∷ []) (answers ++ a ∷ []) m' image run' new)
    ]))

-- no time passes in a state that the store is left with
pub since_none : (care : Care) (v : View) (s : State) → IsLeft care v s s → Since care s s v v
since_none care v s left = spans_none Everything (λ image. IsSound care image s ⊎ IsSound care image s) v left.images
