-- Calls that follow each other: from a run and one more call to a longer run, each by one line.
use Rattle.std.proofs.Common.{◌≡◌, ◌≢◌, ◌⊎◌, inl, inr, ℕ, ◌<◌, ◌≤◌, Bool, true, false, cond, List, ◌∙◌, ap, subst, sym, refl, arith}
use Rattle.std.specs.Prelude.{IsTrue, ◌==◌}
use Rattle.std.proofs.lemmas.Bool.{cases_lt, cases_eq, cases_Bool, eq-eqb, false≢true}
use Rattle.outside_traits.specs.View.{View, Now, IsImageAt, LeftSince}
use Rattle.outside_traits.specs.Calls.{Passes, Acts, Idles, Same}
use Rattle.outside_traits.specs.Runs.{Touches, Spans, Narrows, put_back}

-- ## Images

-- A crash may leave one file as in one image and another as in another: a mix of images is an image.
pub mixed : (v : View) (k : ℕ) (pick : ℕ → Bool) (a b : ℕ → List ℕ) → IsImageAt v k a → IsImageAt v k b
    → IsImageAt v k (λ file. cond (pick file) (a file) (b file))
mixed v k pick a b is_a is_b =
    λ file. elim (pick file) as (λ p. v.left_at k file (cond p (a file) (b file))) [ true ↦ is_a file | false ↦ is_b file ]

-- After a run, an image since an earlier moment was one before the run, or is one since its start.
pub left_since_before : (old new : View) (t : ℕ) (image : ℕ → List ℕ) → Passes old new → LeftSince new t image
    → LeftSince old t image ⊎ LeftSince new old.moment image
left_since_before old new t image time left = elim (cases_lt old.moment left.0) [
  | inl later ↦ inr (left.0, omega (arith, later), left.2, left.3)
  | inr before ↦ inl (left.0, left.1, before, λ file. time.no_more left.0 file (image file) before (left.3 file))
]

-- ## Time

pub passes_none : (v : View) → Passes v v
passes_none v = record { later = omega arith; kept = λ k file x le left. left; no_more = λ k file x le left. left }

pub passes_on : (u v w : View) → Passes u v → Passes v w → Passes u w
passes_on u v w first then = record {
  later = omega (arith, first.later, then.later);
  kept = λ k file x le left. then.kept k file x (omega (arith, le, first.later)) (first.kept k file x le left);
  no_more = λ k file x le left. first.no_more k file x le (then.no_more k file x (omega (arith, le, first.later)) left);
}

-- ## Runs that change no file

pub narrows_none : (v : View) → Narrows v v
narrows_none v = record {
  time = passes_none v;
  each = λ k g x low high left. subst (λ (m : ℕ). v.left_at m g x) (omega (arith, low, high)) left;
  same = λ g. refl;
  same_there = λ g. refl;
}

-- what a longer run leaves at a moment was left by its first part, or by its second
module _ (u v w : View) (first : Passes u v) (then : Passes v w) (k g : ℕ) (x : List ℕ) (left : w.left_at k g x) where
  by_parts : (Z : Type 0) → (k ≤ v.moment → v.left_at k g x → Z) → (v.moment < k → Z) → Z
  by_parts Z before after = elim (cases_lt v.moment k) [
    | inl later ↦ after later
    | inr early ↦ before early (then.no_more k g x early left)
  ]

pub narrows_on : (u v w : View) → Narrows u v → Narrows v w → Narrows u w
narrows_on u v w first then = record {
  time = passes_on u v w first.time then.time;
  each = λ k g x low high left. by_parts u v w first.time then.time k g x left (Now u g x)
      (λ le was. first.each k g x low le was)
      (λ later. first.each v.moment g x first.time.later (omega arith) (then.each k g x (omega (arith, later)) high left));
  same = λ g. then.same g ∙ first.same g;
  same_there = λ g. then.same_there g ∙ first.same_there g;
}

pub idles_narrow : (u v : View) → Idles u v → Narrows u v
idles_narrow u v idle = record {
  time = idle.time;
  each = λ k g x low high left. elim (cases_lt u.moment k) [
    | inl later ↦ idle.no_more k g x later high left
    | inr early ↦
        let same : k ≡ u.moment = omega (arith, low, early) in
        subst (λ (m : ℕ). u.left_at m g x) same (idle.time.no_more k g x early left)
  ];
  same = idle.same;
  same_there = idle.same_there;
}

-- two calls that only look, one after the other
pub idles_on : (u v w : View) → Idles u v → Idles v w → Idles u w
idles_on u v w first then = record {
  time = passes_on u v w first.time then.time;
  same = λ g. then.same g ∙ first.same g;
  same_there = λ g. then.same_there g ∙ first.same_there g;
  no_more = λ k g x low high left. (narrows_on u v w (idles_narrow u v first) (idles_narrow v w then)).each k g x (omega (arith, low)) high left;
  kept = λ g x now. then.kept g x (first.kept g x now);
}

-- at the moment of a call's start, what is left is what was left before the call
left_then : (u v : View) (k g : ℕ) (x : List ℕ) → Passes u v → u.moment ≤ k → k ≤ u.moment → v.left_at k g x → Now u g x
left_then u v k g x time low high left =
    let same : k ≡ u.moment = omega (arith, low, high) in
    subst (λ (m : ℕ). u.left_at m g x) same (time.no_more k g x high left)

-- a sync changes no file
pub sync_narrows : (file : ℕ) (u v : View) → Acts file Same u v → v.there file ≡ u.there file → Narrows u v
sync_narrows file u v acts there = record {
  time = acts.time;
  each = λ k g x low high left. elim (cases_lt u.moment k) [
    | inl later ↦ elim (cases_eq g file) [
      | inl mine ↦
          let at_file = subst (λ (m : ℕ). v.left_at k m x) mine left in
          let from = acts.here k x later high at_file in
          let now : Now u file x = subst (λ (y : List ℕ). Now u file y) (sym from.2) from.1 in
          subst (λ (m : ℕ). Now u m x) (sym mine) now
      | inr other ↦ acts.others k g x later high other left
    ]
    | inr early ↦ left_then u v k g x acts.time low early left
  ];
  same = λ g. elim (cases_eq g file) [
    | inl mine ↦ subst (λ (m : ℕ). v.files m ≡ u.files m) (sym mine) acts.seen
    | inr other ↦ acts.same g other
  ];
  same_there = λ g. elim (cases_eq g file) [
    | inl mine ↦ subst (λ (m : ℕ). v.there m ≡ u.there m) (sym mine) there
    | inr other ↦ acts.same_there g other
  ];
}

-- ## Runs on one file

module _ (file : ℕ) where
  -- before the first call
  pub started : (P : List ℕ → Type 0) (v : View) → ((x : List ℕ) → Now v file x → P x) → Touches file P v v
  started P v here = record {
    time = passes_none v;
    each = λ k x low high left. here x (left_then v v k file x (passes_none v) low high left);
    others = λ k g x low high other left. left_then v v k g x (passes_none v) low high left;
    same = λ g other. refl;
    same_there = λ g other. refl;
  }

  -- two runs, one after the other
  pub joined : (P : List ℕ → Type 0) (u v w : View) → Touches file P u v → Touches file P v w → Touches file P u w
  joined P u v w first then = record {
    time = passes_on u v w first.time then.time;
    each = λ k x low high left. by_parts u v w first.time then.time k file x left (P x)
        (λ le was. first.each k x low le was)
        (λ later. then.each k x (omega (arith, later)) high left);
    others = λ k g x low high other left. by_parts u v w first.time then.time k g x left (Now u g x)
        (λ le was. first.others k g x low le other was)
        (λ later. first.others v.moment g x first.time.later (omega arith) other (then.others k g x (omega (arith, later)) high other left));
    same = λ g other. then.same g other ∙ first.same g other;
    same_there = λ g other. then.same_there g other ∙ first.same_there g other;
  }

  -- the same run, of which less is said
  pub weaker : (P Q : List ℕ → Type 0) (u v : View) → Touches file P u v → ((x : List ℕ) → P x → Q x) → Touches file Q u v
  weaker P Q u v run then = record {
    time = run.time;
    each = λ k x low high left. then x (run.each k x low high left);
    others = run.others;
    same = run.same;
    same_there = run.same_there;
  }

  -- a call alone, from outcomes that have P to outcomes that have P
  pub one_call : (P : List ℕ → Type 0) (step : List ℕ → List ℕ → Type 0) (u v : View) → Acts file step u v
      → ((x : List ℕ) → Now u file x → P x) → ((d x : List ℕ) → Now u file d → step d x → P x) → Touches file P u v
  one_call P step u v acts before after = record {
    time = acts.time;
    each = λ k x low high left. elim (cases_lt u.moment k) [
      | inl later ↦ let from = acts.here k x later high left in after from.0 x from.1 from.2
      | inr early ↦ before x (left_then u v k file x acts.time low early left)
    ];
    others = λ k g x low high other left. elim (cases_lt u.moment k) [
      | inl later ↦ acts.others k g x later high other left
      | inr early ↦ left_then u v k g x acts.time low early left
    ];
    same = acts.same;
    same_there = acts.same_there;
  }

  -- what a crash now may leave after a run has P
  pub now_has : (P : List ℕ → Type 0) (u v : View) → Touches file P u v → (x : List ℕ) → Now v file x → P x
  now_has P u v run x now = run.each v.moment x run.time.later (omega arith) now

  -- a run, and one call more on the file, whose step from what a crash may leave before it to what has P
  pub called : (P : List ℕ → Type 0) (step : List ℕ → List ℕ → Type 0) (u v w : View) → Touches file P u v → Acts file step v w
      → ((d x : List ℕ) → Now v file d → step d x → P x) → Touches file P u w
  called P step u v w run acts after = joined P u v w run (one_call P step v w acts (now_has P u v run) after)

  -- a sync of the file keeps what its outcomes have
  pub synced : (P : List ℕ → Type 0) (u v w : View) → Touches file P u v → Acts file Same v w → Touches file P u w
  synced P u v w run acts = called P Same u v w run acts (λ d x now is. subst P (sym is) (now_has P u v run d now))

  -- a run that changes no file
  pub narrowed : (P : List ℕ → Type 0) (u v : View) → Narrows u v → ((x : List ℕ) → Now u file x → P x) → Touches file P u v
  narrowed P u v run here = record {
    time = run.time;
    each = λ k x low high left. here x (run.each k file x low high left);
    others = λ k g x low high other left. run.each k g x low high left;
    same = λ g other. run.same g;
    same_there = λ g other. run.same_there g;
  }

  -- what is read after a run has P too, since it is one of the outcomes
  pub seen_of : (P : List ℕ → Type 0) (u v : View) → Touches file P u v → Now v file (v.files file) → P (v.files file)
  seen_of P u v run law = now_has P u v run (v.files file) law

-- ## Runs on several files

-- before the first call
pub spans_none : (mine : ℕ → Type 0) (Q : (ℕ → List ℕ) → Type 0) (v : View) → ((image : ℕ → List ℕ) → IsImageAt v v.moment image → Q image)
    → Spans mine Q v v
spans_none mine Q v here = record {
  time = passes_none v;
  each = λ k image low high left. here image (λ g. left_then v v k g (image g) (passes_none v) low high (left g));
  others = λ k g x low high other left. left_then v v k g x (passes_none v) low high left;
  same = λ g other. refl;
  same_there = λ g other. refl;
}

-- a run on one file, within one on several: an image has Q where the file has P and each other file is as in an image
-- at the start
pub spans_of : (file : ℕ) (P : List ℕ → Type 0) (mine : ℕ → Type 0) (Q : (ℕ → List ℕ) → Type 0) (u v : View) → Touches file P u v → mine file
    → ((image : ℕ → List ℕ) → P (image file) → ((g : ℕ) → g ≢ file → Now u g (image g)) → Q image) → Spans mine Q u v
spans_of file P mine Q u v run is_mine all = record {
  time = run.time;
  each = λ k image low high left. all image (run.each k (image file) low high (left file))
      (λ g other. run.others k g (image g) low high other (left g));
  others = λ k g x low high other left. run.others k g x low high (not_it g other) left;
  same = λ g other. run.same g (not_it g other);
  same_there = λ g other. run.same_there g (not_it g other);
} where
  not_it : (g : ℕ) → (mine g → ⊥) → g ≢ file
  not_it g other same = other (subst mine (sym same) is_mine)

-- two runs, one after the other
pub spans_on : (mine : ℕ → Type 0) (Q : (ℕ → List ℕ) → Type 0) (u v w : View) → Spans mine Q u v → Spans mine Q v w → Spans mine Q u w
spans_on mine Q u v w first then = record {
  time = passes_on u v w first.time then.time;
  each = λ k image low high left. elim (cases_lt v.moment k) [
    | inl later ↦ then.each k image (omega (arith, later)) high left
    | inr early ↦ first.each k image low early (λ g. then.time.no_more k g (image g) early (left g))
  ];
  others = λ k g x low high other left. by_parts u v w first.time then.time k g x left (Now u g x)
      (λ le was. first.others k g x low le other was)
      (λ later. first.others v.moment g x first.time.later (omega arith) other (then.others k g x (omega (arith, later)) high other left));
  same = λ g other. then.same g other ∙ first.same g other;
  same_there = λ g other. then.same_there g other ∙ first.same_there g other;
}

-- the same run, with more files, of which something else is said that follows from Q and from what is left alone
pub spans_wider : (mine wide : ℕ → Type 0) (Q R : (ℕ → List ℕ) → Type 0) (u v : View) → Spans mine Q u v → ((g : ℕ) → mine g → wide g)
    → ((image : ℕ → List ℕ) → Q image → ((g : ℕ) → (mine g → ⊥) → Now u g (image g)) → R image) → Spans wide R u v
spans_wider mine wide Q R u v run within all = record {
  time = run.time;
  each = λ k image low high left. all image (run.each k image low high left) (λ g other. run.others k g (image g) low high other (left g));
  others = λ k g x low high other left. run.others k g x low high (λ is. other (within g is)) left;
  same = λ g other. run.same g (λ is. other (within g is));
  same_there = λ g other. run.same_there g (λ is. other (within g is));
}

-- a run that changes no file
pub spans_narrowed : (mine : ℕ → Type 0) (Q : (ℕ → List ℕ) → Type 0) (u v : View) → Narrows u v
    → ((image : ℕ → List ℕ) → IsImageAt u u.moment image → Q image) → Spans mine Q u v
spans_narrowed mine Q u v run here = record {
  time = run.time;
  each = λ k image low high left. here image (λ g. run.each k g (image g) low high (left g));
  others = λ k g x low high other left. run.each k g x low high left;
  same = λ g other. run.same g;
  same_there = λ g other. run.same_there g;
}

-- each image now, after a run, has Q
pub image_has : (mine : ℕ → Type 0) (Q : (ℕ → List ℕ) → Type 0) (u v : View) → Spans mine Q u v
    → (image : ℕ → List ℕ) → IsImageAt v v.moment image → Q image
image_has mine Q u v run image now = run.each v.moment image run.time.later (omega arith) now

-- what is read after a run has Q too, since it is one of the images
pub files_have : (mine : ℕ → Type 0) (Q : (ℕ → List ℕ) → Type 0) (u v : View) → Spans mine Q u v
    → ((file : ℕ) → Now v file (v.files file)) → Q v.files
files_have mine Q u v run law = image_has mine Q u v run v.files law

-- each image since the start of a run has Q
pub since_has : (mine : ℕ → Type 0) (Q : (ℕ → List ℕ) → Type 0) (u v : View) → Spans mine Q u v
    → (image : ℕ → List ℕ) → LeftSince v u.moment image → Q image
since_has mine Q u v run image left = run.each left.0 image left.1 left.2 left.3

-- ## Images before a run

choose : (b : Bool) (Q : List ℕ → Type 0) (x y : List ℕ) → Q x → (b ≡ false → Q y) → Q (cond b x y)
choose true Q x y here other = here
choose false Q x y here other = other refl

module _ (mine : ℕ → Bool) where
  -- a file that was put back reads as then, and each other as in the image
  pub put_back_mine : (files image : ℕ → List ℕ) (g : ℕ) → IsTrue (mine g) → put_back mine files image g ≡ files g
  put_back_mine files image g is = ap (λ (b : Bool). cond b (files g) (image g)) is

  pub put_back_other : (files image : ℕ → List ℕ) (g : ℕ) → (IsTrue (mine g) → ⊥) → put_back mine files image g ≡ image g
  put_back_other files image g other =
      elim (cases_Bool (mine g)) [
        | inl is ↦ absurd (other is)
        | inr is ↦ ap (λ (b : Bool). cond b (files g) (image g)) is
      ]

  -- What some of the files read as, with an outcome of each other one, is an image.
  pub image_before : (u : View) (image : ℕ → List ℕ) → ((g : ℕ) → Now u g (u.files g)) → ((g : ℕ) → (IsTrue (mine g) → ⊥) → Now u g (image g))
      → IsImageAt u u.moment (put_back mine u.files image)
  image_before u image law others = λ g.
      choose (mine g) (Now u g) (u.files g) (image g) (law g) (λ is_other. others g (λ is. false≢true (sym is_other ∙ is)))

  -- An image during a run on these files, with them put back as they read at its start, is an image at its start.
  pub image_before_spans : (Q : (ℕ → List ℕ) → Type 0) (u v : View) → Spans (λ g. IsTrue (mine g)) Q u v → ((g : ℕ) → Now u g (u.files g))
      → (k : ℕ) (image : ℕ → List ℕ) → u.moment ≤ k → k ≤ v.moment → IsImageAt v k image → IsImageAt u u.moment (put_back mine u.files image)
  image_before_spans Q u v run law k image low high is =
      image_before u image law (λ g other. run.others k g (image g) low high other (is g))

-- And so is one during a run on one file.
pub image_before_touches : (file : ℕ) (P : List ℕ → Type 0) (u v : View) → Touches file P u v → ((g : ℕ) → Now u g (u.files g))
    → (k : ℕ) (image : ℕ → List ℕ) → u.moment ≤ k → k ≤ v.moment → IsImageAt v k image → IsImageAt u u.moment (put_back (λ g. g == file) u.files image)
image_before_touches file P u v run law k image low high is =
    image_before (λ g. g == file) u image law (λ g other. run.others k g (image g) low high (λ same. other (eq-eqb g file same)) (is g))
