-- The marks of each part go into the marks of the whole.
use Rattle.std.proofs.Common.{◌≡◌, refl, sym, ap, subst, ◌∙◌, Bool, false, List, [], ◌∷◌, ◌++◌, IfOk, arith}
use Rattle.std.specs.Prelude.{IsTrue, ◌↔◌}
use Rattle.plan_core.specs.PlainPlan.{plan_of}
use Rattle.rewrite_core.specs.IsRewriting.{lefts, rights}
use Rattle.rewrite_core.specs.PlainRewriting.{One, Two, Read, Tail, LeftGrew, RightGrew, BothGrew, Unchanged, NewRows, OfChild, OfDistinct, OfJoin, PlainWay, PlainDeltaWay, rewriting_of, way_of, grown_way, delta_of, delta_way_of, Change}
use Rattle.rewrite_core.specs.PlainRewriting as tree
use Rattle.made_places.specs.Formed.{IsFormed, IsFormedWay, IsFormedDelta, delta_plan}
use Rattle.growth_laws.specs.Parts.{plan_at}
use Rattle.made_places.specs.Marks.{either, tail_cuts}
use Rattle.made_places.proofs.Formed as formed
use Rattle.made_places.proofs.Found.{own_is, tree_found, delta_found}
use Rattle.made_places.proofs.MarkLemmas.{nowhere_marked, scan_marks}
use Rattle.made_places.proofs.MarkedWays as marked
use Rattle.made_places.proofs.MarkedWays.{tree_marks, delta_marks, way_marks}
use Rattle.made_places.proofs.Sizes.{size_of, way_size, delta_size, delta_way_size, size_grown}
use Rattle.made_places.proofs.marks.+marks.Goals as goal

pub marked-marked_in-requires : goal.marked-marked_in-requires
marked-marked_in-requires t c =
    let r = c.args.tree.now in (omega (arith, c.decreases), formed.formed_way (plan_of r.plan) r.cuts (way_of r.way) c.requires)

pub marked-returns : goal.marked-returns
marked-returns t c =
    let r = c.args.tree.now in
    let own = own_is (plan_of r.plan) r.cuts c.args.at.now (way_of r.way) c.are_same_cuts-own.result (subst (λ cuts. IsTrue c.are_same_cuts-own.result ↔ (cuts ≡ c.args.at.now)) c.items.ensures c.are_same_cuts-own.ensures) in
    c.marked_in.ensures (rewriting_of r ∷ []) own

pub marked_in-marked-requires : goal.marked_in-marked-requires
marked_in-marked-requires t c =
    let p = plan_of c.args.plan.now in
    let r = rewriting_of c.in-One.input.value in
    let w : way_of c.args.way.now ≡ One r = ap way_of c.in-One.is in
    let is : IsFormedWay p (One r) = subst (IsFormedWay p) w c.requires in
    (omega (arith, ap way_size w, ap (λ v. size_of (rewriting_of v)) c.deref.ensures, c.decreases), subst (λ v. IsFormed (rewriting_of v)) (sym c.deref.ensures) (formed.one_input p r is).input)

pub marked_in-returns-in_ok-marked-in-One : goal.marked_in-returns-in_ok-marked-in-One
marked_in-returns-in_ok-marked-in-One t c =
    let p = plan_of c.args.plan.now in
    let r = rewriting_of c.in-One.input.value in
    let w : way_of c.args.way.now ≡ One r = ap way_of c.in-One.is in
    let is : IsFormedWay p (One r) = subst (IsFormedWay p) w c.requires in
    λ root own.
    let found = tree_found c.deref.result.now c.in-One.input.value c.in_ok-marked-in-One.field-0.items c.args.at.now c.args.at.now c.deref.ensures c.in_ok-marked-in-One.ensures refl in
    let whole = ap (λ (ms : List Bool). ms ++ c.args.own ∷ []) found ∙ sym (marked.one_marks p c.args.at.now root c.args.own own r is)
    ∙ ap (way_marks p c.args.at.now root c.args.own own) (sym w) in
    subst (λ (ms : List Bool). IfOk c.of_one-in-One.result (λ all. all.items ≡ ms)) whole c.of_one-in-One.ensures

pub marked_in-marked-requires-in-Two : goal.marked_in-marked-requires-in-Two
marked_in-marked-requires-in-Two t c =
    let p = plan_of c.args.plan.now in
    let l = rewriting_of c.in-Two.left.value in
    let r = rewriting_of c.in-Two.right.value in
    let w : way_of c.args.way.now ≡ Two l r = ap way_of c.in-Two.is in
    let is : IsFormedWay p (Two l r) = subst (IsFormedWay p) w c.requires in
    (omega (arith, ap way_size w, ap (λ v. size_of (rewriting_of v)) c.deref-in-Two-2.ensures, c.decreases), subst (λ v. IsFormed (rewriting_of v)) (sym c.deref-in-Two-2.ensures) (formed.two_inputs p l r is).left)

pub marked_in-marked-requires-in-Two-2 : goal.marked_in-marked-requires-in-Two-2
marked_in-marked-requires-in-Two-2 t c =
    let p = plan_of c.args.plan.now in
    let l = rewriting_of c.in-Two.left.value in
    let r = rewriting_of c.in-Two.right.value in
    let w : way_of c.args.way.now ≡ Two l r = ap way_of c.in-Two.is in
    let is : IsFormedWay p (Two l r) = subst (IsFormedWay p) w c.requires in
    (omega (arith, ap way_size w, ap (λ v. size_of (rewriting_of v)) c.deref-in-Two-3.ensures, c.decreases), subst (λ v. IsFormed (rewriting_of v)) (sym c.deref-in-Two-3.ensures) (formed.two_inputs p l r is).right)

pub marked_in-returns-in_ok-marked-in-Two : goal.marked_in-returns-in_ok-marked-in-Two
marked_in-returns-in_ok-marked-in-Two t c =
    let p = plan_of c.args.plan.now in
    let l = rewriting_of c.in-Two.left.value in
    let r = rewriting_of c.in-Two.right.value in
    let w : way_of c.args.way.now ≡ Two l r = ap way_of c.in-Two.is in
    let is : IsFormedWay p (Two l r) = subst (IsFormedWay p) w c.requires in
    λ root own.
    let side = ap (λ v. lefts (plan_of v.plan) c.args.at.now) c.deref-in-Two.ensures in
    let other = ap (λ v. rights (plan_of v.plan) c.args.at.now) c.deref-in-Two.ensures in
    let left = tree_found c.deref-in-Two-2.result.now c.in-Two.left.value c.in_ok-left-in-Two.left.items c.sides.result.0.now (lefts (plan_at l) c.args.at.now) c.deref-in-Two-2.ensures c.in_ok-left-in-Two.ensures (c.sides.ensures.lefts ∙ side) in
    let right = tree_found c.deref-in-Two-3.result.now c.in-Two.right.value c.in_ok-marked-in-Two.field-0.items c.sides.result.1.now (rights (plan_at l) c.args.at.now) c.deref-in-Two-3.ensures c.in_ok-marked-in-Two.ensures (c.sides.ensures.rights ∙ other) in
    let whole = (λ i. left i ++ (right i ++ c.args.own ∷ [])) ∙ sym (marked.two_marks p c.args.at.now root c.args.own own l r is)
    ∙ ap (way_marks p c.args.at.now root c.args.own own) (sym w) in
    subst (λ (ms : List Bool). IfOk c.of_two.result (λ all. all.items ≡ ms)) whole c.of_two.ensures

pub marked_in-marked_in_grown-requires : goal.marked_in-marked_in_grown-requires
marked_in-marked_in_grown-requires t c =
    let p = plan_of c.args.plan.now in
    let hit = c.in-Grown.hit in
    let of = c.deref-in-Grown.result.now in
    let w : way_of c.args.way.now ≡ grown_way hit of = ap way_of c.in-Grown.is ∙ ap (grown_way hit) (sym c.deref-in-Grown.ensures) in
    (omega (arith, ap way_size w, size_grown hit of, c.decreases), (hit, subst (IsFormedWay p) w c.requires))

pub marked_in-returns-in-Grown : goal.marked_in-returns-in-Grown
marked_in-returns-in-Grown t c =
    let p = plan_of c.args.plan.now in
    let hit = c.in-Grown.hit in
    let of = c.deref-in-Grown.result.now in
    let w : way_of c.args.way.now ≡ grown_way hit of = ap way_of c.in-Grown.is ∙ ap (grown_way hit) (sym c.deref-in-Grown.ensures) in
    λ root own.
    subst (λ (ms : List Bool). IfOk c.marked_in_grown.result (λ all. all.items ≡ ms)) (ap (way_marks p c.args.at.now root c.args.own own) (sym w)) (c.marked_in_grown.ensures hit root own)

pub marked_in-returns-in-Read : goal.marked_in-returns-in-Read
marked_in-returns-in-Read t c =
    let p = plan_of c.args.plan.now in
    let w : way_of c.args.way.now ≡ Read c.in-Read.field-0 = ap way_of c.in-Read.is in
    λ root own.
    let whole = sym (nowhere_marked p c.args.at.now) ∙ ap (way_marks p c.args.at.now root c.args.own own) (sym w) in
    subst (λ (ms : List Bool). IfOk c.unmarked.result (λ all. all.items ≡ ms)) whole c.unmarked.ensures

pub marked_in-returns-in-Scan : goal.marked_in-returns-in-Scan
marked_in-returns-in-Scan t c =
    let p = plan_of c.args.plan.now in
    let w : way_of c.args.way.now ≡ tree.Scan = ap way_of c.in-Scan.is in
    let is : IsFormedWay p tree.Scan = subst (IsFormedWay p) w c.requires in
    λ root own.
    let whole = ap (λ (ms : List Bool). ms ++ c.args.own ∷ []) c.new.ensures.items ∙ sym (scan_marks p c.args.at.now root c.args.own own is.1)
    ∙ ap (way_marks p c.args.at.now root c.args.own own) (sym w) in
    subst (λ (ms : List Bool). IfOk c.of_one.result (λ all. all.items ≡ ms)) whole c.of_one.ensures

pub marked_in_grown-marked_in_delta-requires : goal.marked_in_grown-marked_in_delta-requires
marked_in_grown-marked_in_delta-requires t c =
    let p = plan_of c.args.plan.now in
    let hit = c.requires.0 in
    let d = delta_of c.in-Tail.delta in
    let w : grown_way hit c.args.parts.now ≡ Tail hit d = ap (grown_way hit) c.in-Tail.is in
    let is : IsFormedWay p (Tail hit d) = subst (IsFormedWay p) w c.requires.1 in
    (omega (arith, ap way_size w, size_grown hit c.args.parts.now, c.decreases), (formed.tail_input p hit d is).input)

pub marked_in_grown-returns-in_ok-marked_in_delta-in-Tail : goal.marked_in_grown-returns-in_ok-marked_in_delta-in-Tail
marked_in_grown-returns-in_ok-marked_in_delta-in-Tail t c =
    let p = plan_of c.args.plan.now in
    let hit = c.requires.0 in
    let d = delta_of c.in-Tail.delta in
    let w : grown_way hit c.args.parts.now ≡ Tail hit d = ap (grown_way hit) c.in-Tail.is in
    let is : IsFormedWay p (Tail hit d) = subst (IsFormedWay p) w c.requires.1 in
    let before = c.in_ok-before-in-Tail.ensures in
    let behind = delta_found c.in-Tail.delta c.in-Tail.delta c.in_ok-marked_in_delta-in-Tail.field-0.items c.tail_cuts.result.now (tail_cuts p c.args.at.now) refl c.in_ok-marked_in_delta-in-Tail.ensures c.tail_cuts.ensures in
    λ hit2 root own.
    let v : grown_way hit2 c.args.parts.now ≡ Tail hit2 d = ap (grown_way hit2) c.in-Tail.is in
    let whole = (λ i. before i ++ (behind i ++ c.args.own ∷ [])) ∙ sym (marked.tail_marks p c.args.at.now root c.args.own own hit d is)
    ∙ ap (way_marks p c.args.at.now root c.args.own own) (sym v) in
    subst (λ (ms : List Bool). IfOk c.of_two.result (λ all. all.items ≡ ms)) whole c.of_two.ensures

pub marked_in_grown-marked_in_delta-requires-in-LeftGrew : goal.marked_in_grown-marked_in_delta-requires-in-LeftGrew
marked_in_grown-marked_in_delta-requires-in-LeftGrew t c =
    let p = plan_of c.args.plan.now in
    let hit = c.requires.0 in
    let d = delta_of c.in-LeftGrew.left in
    let r = rewriting_of c.in-LeftGrew.right in
    let w : grown_way hit c.args.parts.now ≡ LeftGrew hit d r = ap (grown_way hit) c.in-LeftGrew.is in
    let is : IsFormedWay p (LeftGrew hit d r) = subst (IsFormedWay p) w c.requires.1 in
    (omega (arith, ap way_size w, size_grown hit c.args.parts.now, c.decreases), (formed.left_grown p hit d r is).left)

pub marked_in_grown-marked-requires : goal.marked_in_grown-marked-requires
marked_in_grown-marked-requires t c =
    let p = plan_of c.args.plan.now in
    let hit = c.requires.0 in
    let d = delta_of c.in-LeftGrew.left in
    let r = rewriting_of c.in-LeftGrew.right in
    let w : grown_way hit c.args.parts.now ≡ LeftGrew hit d r = ap (grown_way hit) c.in-LeftGrew.is in
    let is : IsFormedWay p (LeftGrew hit d r) = subst (IsFormedWay p) w c.requires.1 in
    (omega (arith, ap way_size w, size_grown hit c.args.parts.now, c.decreases), (formed.left_grown p hit d r is).right)

pub marked_in_grown-returns-in_ok-marked-in-LeftGrew : goal.marked_in_grown-returns-in_ok-marked-in-LeftGrew
marked_in_grown-returns-in_ok-marked-in-LeftGrew t c =
    let p = plan_of c.args.plan.now in
    let hit = c.requires.0 in
    let d = delta_of c.in-LeftGrew.left in
    let r = rewriting_of c.in-LeftGrew.right in
    let w : grown_way hit c.args.parts.now ≡ LeftGrew hit d r = ap (grown_way hit) c.in-LeftGrew.is in
    let is : IsFormedWay p (LeftGrew hit d r) = subst (IsFormedWay p) w c.requires.1 in
    let left = delta_found c.in-LeftGrew.left c.in-LeftGrew.left c.in_ok-left-in-LeftGrew.left.items c.sides.result.0.now (lefts (delta_plan d) c.args.at.now) refl c.in_ok-left-in-LeftGrew.ensures c.sides.ensures.lefts in
    let right = tree_found c.in-LeftGrew.right c.in-LeftGrew.right c.in_ok-marked-in-LeftGrew.field-0.items c.sides.result.1.now (rights (delta_plan d) c.args.at.now) refl c.in_ok-marked-in-LeftGrew.ensures c.sides.ensures.rights in
    λ hit2 root own.
    let v : grown_way hit2 c.args.parts.now ≡ LeftGrew hit2 d r = ap (grown_way hit2) c.in-LeftGrew.is in
    let whole = (λ i. left i ++ (right i ++ c.args.own ∷ [])) ∙ sym (marked.left_marks p c.args.at.now root c.args.own own hit d r is)
    ∙ ap (way_marks p c.args.at.now root c.args.own own) (sym v) in
    subst (λ (ms : List Bool). IfOk c.of_two-in-LeftGrew.result (λ all. all.items ≡ ms)) whole c.of_two-in-LeftGrew.ensures

pub marked_in_grown-marked-requires-in-RightGrew : goal.marked_in_grown-marked-requires-in-RightGrew
marked_in_grown-marked-requires-in-RightGrew t c =
    let p = plan_of c.args.plan.now in
    let hit = c.requires.0 in
    let l = rewriting_of c.in-RightGrew.left in
    let d = delta_of c.in-RightGrew.right in
    let w : grown_way hit c.args.parts.now ≡ RightGrew hit l d = ap (grown_way hit) c.in-RightGrew.is in
    let is : IsFormedWay p (RightGrew hit l d) = subst (IsFormedWay p) w c.requires.1 in
    (omega (arith, ap way_size w, size_grown hit c.args.parts.now, c.decreases), (formed.right_grown p hit l d is).left)

pub marked_in_grown-marked_in_delta-requires-in-RightGrew : goal.marked_in_grown-marked_in_delta-requires-in-RightGrew
marked_in_grown-marked_in_delta-requires-in-RightGrew t c =
    let p = plan_of c.args.plan.now in
    let hit = c.requires.0 in
    let l = rewriting_of c.in-RightGrew.left in
    let d = delta_of c.in-RightGrew.right in
    let w : grown_way hit c.args.parts.now ≡ RightGrew hit l d = ap (grown_way hit) c.in-RightGrew.is in
    let is : IsFormedWay p (RightGrew hit l d) = subst (IsFormedWay p) w c.requires.1 in
    (omega (arith, ap way_size w, size_grown hit c.args.parts.now, c.decreases), (formed.right_grown p hit l d is).right)

pub marked_in_grown-returns-in_ok-marked_in_delta-in-RightGrew : goal.marked_in_grown-returns-in_ok-marked_in_delta-in-RightGrew
marked_in_grown-returns-in_ok-marked_in_delta-in-RightGrew t c =
    let p = plan_of c.args.plan.now in
    let hit = c.requires.0 in
    let l = rewriting_of c.in-RightGrew.left in
    let d = delta_of c.in-RightGrew.right in
    let w : grown_way hit c.args.parts.now ≡ RightGrew hit l d = ap (grown_way hit) c.in-RightGrew.is in
    let is : IsFormedWay p (RightGrew hit l d) = subst (IsFormedWay p) w c.requires.1 in
    let left = tree_found c.in-RightGrew.left c.in-RightGrew.left c.in_ok-left-in-RightGrew.left.items c.sides-in-RightGrew.result.0.now (lefts (plan_at l) c.args.at.now) refl c.in_ok-left-in-RightGrew.ensures c.sides-in-RightGrew.ensures.lefts in
    let right = delta_found c.in-RightGrew.right c.in-RightGrew.right c.in_ok-marked_in_delta-in-RightGrew.field-0.items c.sides-in-RightGrew.result.1.now (rights (plan_at l) c.args.at.now) refl c.in_ok-marked_in_delta-in-RightGrew.ensures c.sides-in-RightGrew.ensures.rights in
    λ hit2 root own.
    let v : grown_way hit2 c.args.parts.now ≡ RightGrew hit2 l d = ap (grown_way hit2) c.in-RightGrew.is in
    let whole = (λ i. left i ++ (right i ++ c.args.own ∷ [])) ∙ sym (marked.right_marks p c.args.at.now root c.args.own own hit l d is)
    ∙ ap (way_marks p c.args.at.now root c.args.own own) (sym v) in
    subst (λ (ms : List Bool). IfOk c.of_two-in-RightGrew.result (λ all. all.items ≡ ms)) whole c.of_two-in-RightGrew.ensures

pub marked_in_grown-marked-requires-in-BothGrew : goal.marked_in_grown-marked-requires-in-BothGrew
marked_in_grown-marked-requires-in-BothGrew t c =
    let p = plan_of c.args.plan.now in
    let hit = c.requires.0 in
    let l = rewriting_of c.in-BothGrew.old_left in
    let rd = delta_of c.in-BothGrew.right_delta in
    let ld = delta_of c.in-BothGrew.left_delta in
    let r = rewriting_of c.in-BothGrew.right in
    let w : grown_way hit c.args.parts.now ≡ BothGrew hit l rd ld r = ap (grown_way hit) c.in-BothGrew.is in
    let is : IsFormedWay p (BothGrew hit l rd ld r) = subst (IsFormedWay p) w c.requires.1 in
    (omega (arith, ap way_size w, size_grown hit c.args.parts.now, c.decreases), (formed.both_grown p hit l rd ld r is).of_left)

pub marked_in_grown-marked_in_delta-requires-in-BothGrew : goal.marked_in_grown-marked_in_delta-requires-in-BothGrew
marked_in_grown-marked_in_delta-requires-in-BothGrew t c =
    let p = plan_of c.args.plan.now in
    let hit = c.requires.0 in
    let l = rewriting_of c.in-BothGrew.old_left in
    let rd = delta_of c.in-BothGrew.right_delta in
    let ld = delta_of c.in-BothGrew.left_delta in
    let r = rewriting_of c.in-BothGrew.right in
    let w : grown_way hit c.args.parts.now ≡ BothGrew hit l rd ld r = ap (grown_way hit) c.in-BothGrew.is in
    let is : IsFormedWay p (BothGrew hit l rd ld r) = subst (IsFormedWay p) w c.requires.1 in
    (omega (arith, ap way_size w, size_grown hit c.args.parts.now, c.decreases), (formed.both_grown p hit l rd ld r is).of_left_delta)

pub marked_in_grown-marked_in_delta-requires-in-BothGrew-2 : goal.marked_in_grown-marked_in_delta-requires-in-BothGrew-2
marked_in_grown-marked_in_delta-requires-in-BothGrew-2 t c =
    let p = plan_of c.args.plan.now in
    let hit = c.requires.0 in
    let l = rewriting_of c.in-BothGrew.old_left in
    let rd = delta_of c.in-BothGrew.right_delta in
    let ld = delta_of c.in-BothGrew.left_delta in
    let r = rewriting_of c.in-BothGrew.right in
    let w : grown_way hit c.args.parts.now ≡ BothGrew hit l rd ld r = ap (grown_way hit) c.in-BothGrew.is in
    let is : IsFormedWay p (BothGrew hit l rd ld r) = subst (IsFormedWay p) w c.requires.1 in
    (omega (arith, ap way_size w, size_grown hit c.args.parts.now, c.decreases), (formed.both_grown p hit l rd ld r is).of_right_delta)

pub marked_in_grown-marked-requires-in-BothGrew-2 : goal.marked_in_grown-marked-requires-in-BothGrew-2
marked_in_grown-marked-requires-in-BothGrew-2 t c =
    let p = plan_of c.args.plan.now in
    let hit = c.requires.0 in
    let l = rewriting_of c.in-BothGrew.old_left in
    let rd = delta_of c.in-BothGrew.right_delta in
    let ld = delta_of c.in-BothGrew.left_delta in
    let r = rewriting_of c.in-BothGrew.right in
    let w : grown_way hit c.args.parts.now ≡ BothGrew hit l rd ld r = ap (grown_way hit) c.in-BothGrew.is in
    let is : IsFormedWay p (BothGrew hit l rd ld r) = subst (IsFormedWay p) w c.requires.1 in
    (omega (arith, ap way_size w, size_grown hit c.args.parts.now, c.decreases), (formed.both_grown p hit l rd ld r is).of_right)

pub marked_in_grown-returns-in_ok-right-in-BothGrew : goal.marked_in_grown-returns-in_ok-right-in-BothGrew
marked_in_grown-returns-in_ok-right-in-BothGrew t c =
    let p = plan_of c.args.plan.now in
    let hit = c.requires.0 in
    let l = rewriting_of c.in-BothGrew.old_left in
    let rd = delta_of c.in-BothGrew.right_delta in
    let ld = delta_of c.in-BothGrew.left_delta in
    let r = rewriting_of c.in-BothGrew.right in
    let w : grown_way hit c.args.parts.now ≡ BothGrew hit l rd ld r = ap (grown_way hit) c.in-BothGrew.is in
    let is : IsFormedWay p (BothGrew hit l rd ld r) = subst (IsFormedWay p) w c.requires.1 in
    let old = tree_found c.in-BothGrew.old_left c.in-BothGrew.old_left c.in_ok-old-in-BothGrew.old.items c.sides-in-BothGrew.result.0.now (lefts (plan_at l) c.args.at.now) refl c.in_ok-old-in-BothGrew.ensures c.sides-in-BothGrew.ensures.lefts in
    let came = delta_found c.in-BothGrew.left_delta c.in-BothGrew.left_delta c.in_ok-marked_in_delta-in-BothGrew.field-0.items c.sides-in-BothGrew.result.0.now (lefts (plan_at l) c.args.at.now) refl c.in_ok-marked_in_delta-in-BothGrew.ensures c.sides-in-BothGrew.ensures.lefts in
    let grown = delta_found c.in-BothGrew.right_delta c.in-BothGrew.right_delta c.in_ok-grown-in-BothGrew.grown.items c.sides-in-BothGrew.result.1.now (rights (plan_at l) c.args.at.now) refl c.in_ok-grown-in-BothGrew.ensures c.sides-in-BothGrew.ensures.rights in
    let whole_right = tree_found c.in-BothGrew.right c.in-BothGrew.right c.in_ok-marked-in-BothGrew.field-0.items c.sides-in-BothGrew.result.1.now (rights (plan_at l) c.args.at.now) refl c.in_ok-marked-in-BothGrew.ensures c.sides-in-BothGrew.ensures.rights in
    let left = c.in_ok-left-in-BothGrew.ensures ∙ (λ i. either (old i) (came i)) in
    let right = c.in_ok-right-in-BothGrew.ensures ∙ (λ i. either (grown i) (whole_right i)) in
    λ hit2 root own.
    let v : grown_way hit2 c.args.parts.now ≡ BothGrew hit2 l rd ld r = ap (grown_way hit2) c.in-BothGrew.is in
    let whole = (λ i. left i ++ (right i ++ c.args.own ∷ [])) ∙ sym (marked.both_marks p c.args.at.now root c.args.own own hit l rd ld r is)
    ∙ ap (way_marks p c.args.at.now root c.args.own own) (sym v) in
    subst (λ (ms : List Bool). IfOk c.of_two-in-BothGrew.result (λ all. all.items ≡ ms)) whole c.of_two-in-BothGrew.ensures

pub marked_in_delta-marked_in_delta-requires : goal.marked_in_delta-marked_in_delta-requires
marked_in_delta-marked_in_delta-requires t c =
    let d0 = c.args.delta.now in
    let p = plan_of d0.plan in
    let d = delta_of c.in-Tail.input.value in
    let w : delta_way_of d0.way ≡ OfChild d = ap delta_way_of c.in-Tail.is in
    let is : IsFormedDelta (Change p d0.old d0.new (OfChild d)) = subst (λ way. IsFormedDelta (Change p d0.old d0.new way)) w c.requires in
    (omega (arith, ap delta_way_size w, ap (λ v. delta_size (delta_of v)) c.deref.ensures, c.decreases), subst (λ v. IsFormedDelta (delta_of v)) (sym c.deref.ensures) (formed.child_input p d0.old d0.new d is).input)

pub marked_in_delta-returns-in_ok-behind-in-Tail : goal.marked_in_delta-returns-in_ok-behind-in-Tail
marked_in_delta-returns-in_ok-behind-in-Tail t c =
    let d0 = c.args.delta.now in
    let p = plan_of d0.plan in
    let d = delta_of c.in-Tail.input.value in
    let w : delta_way_of d0.way ≡ OfChild d = ap delta_way_of c.in-Tail.is in
    let is : IsFormedDelta (Change p d0.old d0.new (OfChild d)) = subst (λ way. IsFormedDelta (Change p d0.old d0.new way)) w c.requires in
    let before = c.in_ok-before-in-Tail.ensures in
    let behind = delta_found c.deref.result.now c.in-Tail.input.value c.in_ok-behind-in-Tail.behind.items c.tail_cuts.result.now (tail_cuts p c.args.at.now) c.deref.ensures c.in_ok-behind-in-Tail.ensures c.tail_cuts.ensures in
    let whole = (λ i. before i ++ (behind i ++ false ∷ [])) ∙ sym (marked.child_marks p d0.old d0.new c.args.at.now d is)
    ∙ ap (λ (way : PlainDeltaWay). delta_marks (Change p d0.old d0.new way) c.args.at.now) (sym w) in
    subst (λ (ms : List Bool). IfOk c.of_two.result (λ all. all.items ≡ ms)) whole c.of_two.ensures

pub marked_in_delta-marked_in_delta-requires-in-Distinct : goal.marked_in_delta-marked_in_delta-requires-in-Distinct
marked_in_delta-marked_in_delta-requires-in-Distinct t c =
    let d0 = c.args.delta.now in
    let p = plan_of d0.plan in
    let r = rewriting_of c.in-Distinct.old.value in
    let d = delta_of c.in-Distinct.child.value in
    let w : delta_way_of d0.way ≡ OfDistinct r d = ap delta_way_of c.in-Distinct.is in
    let is : IsFormedDelta (Change p d0.old d0.new (OfDistinct r d)) = subst (λ way. IsFormedDelta (Change p d0.old d0.new way)) w c.requires in
    (omega (arith, ap delta_way_size w, ap (λ v. delta_size (delta_of v)) c.deref-in-Distinct.ensures, c.decreases), subst (λ v. IsFormedDelta (delta_of v)) (sym c.deref-in-Distinct.ensures) (formed.distinct_inputs p d0.old d0.new r d is).of_child)

pub marked_in_delta-marked-requires : goal.marked_in_delta-marked-requires
marked_in_delta-marked-requires t c =
    let d0 = c.args.delta.now in
    let p = plan_of d0.plan in
    let r = rewriting_of c.in-Distinct.old.value in
    let d = delta_of c.in-Distinct.child.value in
    let w : delta_way_of d0.way ≡ OfDistinct r d = ap delta_way_of c.in-Distinct.is in
    let is : IsFormedDelta (Change p d0.old d0.new (OfDistinct r d)) = subst (λ way. IsFormedDelta (Change p d0.old d0.new way)) w c.requires in
    (omega (arith, ap delta_way_size w, ap (λ v. size_of (rewriting_of v)) c.deref-in-Distinct-2.ensures, c.decreases), subst (λ v. IsFormed (rewriting_of v)) (sym c.deref-in-Distinct-2.ensures) (formed.distinct_inputs p d0.old d0.new r d is).of_old)

pub marked_in_delta-returns-in_ok-marked-in-Distinct : goal.marked_in_delta-returns-in_ok-marked-in-Distinct
marked_in_delta-returns-in_ok-marked-in-Distinct t c =
    let d0 = c.args.delta.now in
    let p = plan_of d0.plan in
    let r = rewriting_of c.in-Distinct.old.value in
    let d = delta_of c.in-Distinct.child.value in
    let w : delta_way_of d0.way ≡ OfDistinct r d = ap delta_way_of c.in-Distinct.is in
    let is : IsFormedDelta (Change p d0.old d0.new (OfDistinct r d)) = subst (λ way. IsFormedDelta (Change p d0.old d0.new way)) w c.requires in
    let child = delta_found c.deref-in-Distinct.result.now c.in-Distinct.child.value c.in_ok-marked_in_delta-in-Distinct.field-0.items c.args.at.now c.args.at.now c.deref-in-Distinct.ensures c.in_ok-marked_in_delta-in-Distinct.ensures refl in
    let old = tree_found c.deref-in-Distinct-2.result.now c.in-Distinct.old.value c.in_ok-marked-in-Distinct.field-0.items c.args.at.now c.args.at.now c.deref-in-Distinct-2.ensures c.in_ok-marked-in-Distinct.ensures refl in
    let found = c.in_ok-found-in-Distinct.ensures ∙ ap (λ (ms : List Bool). ms ++ false ∷ []) child in
    let whole = (λ i. either (old i) (found i)) ∙ sym (marked.distinct_marks p d0.old d0.new c.args.at.now r d is)
    ∙ ap (λ (way : PlainDeltaWay). delta_marks (Change p d0.old d0.new way) c.args.at.now) (sym w) in
    subst (λ (ms : List Bool). IfOk c.either.result (λ all. all.items ≡ ms)) whole c.either.ensures

pub marked_in_delta-marked_in_delta-requires-in-Join : goal.marked_in_delta-marked_in_delta-requires-in-Join
marked_in_delta-marked_in_delta-requires-in-Join t c =
    let d0 = c.args.delta.now in
    let p = plan_of d0.plan in
    let d = delta_of c.in-Join.left.value in
    let r = rewriting_of c.in-Join.right.value in
    let w : delta_way_of d0.way ≡ OfJoin d r = ap delta_way_of c.in-Join.is in
    let is : IsFormedDelta (Change p d0.old d0.new (OfJoin d r)) = subst (λ way. IsFormedDelta (Change p d0.old d0.new way)) w c.requires in
    (omega (arith, ap delta_way_size w, ap (λ v. delta_size (delta_of v)) c.deref-in-Join-2.ensures, c.decreases), subst (λ v. IsFormedDelta (delta_of v)) (sym c.deref-in-Join-2.ensures) (formed.join_inputs p d0.old d0.new d r is).left)

pub marked_in_delta-marked-requires-in-Join : goal.marked_in_delta-marked-requires-in-Join
marked_in_delta-marked-requires-in-Join t c =
    let d0 = c.args.delta.now in
    let p = plan_of d0.plan in
    let d = delta_of c.in-Join.left.value in
    let r = rewriting_of c.in-Join.right.value in
    let w : delta_way_of d0.way ≡ OfJoin d r = ap delta_way_of c.in-Join.is in
    let is : IsFormedDelta (Change p d0.old d0.new (OfJoin d r)) = subst (λ way. IsFormedDelta (Change p d0.old d0.new way)) w c.requires in
    (omega (arith, ap delta_way_size w, ap (λ v. size_of (rewriting_of v)) c.deref-in-Join-3.ensures, c.decreases), subst (λ v. IsFormed (rewriting_of v)) (sym c.deref-in-Join-3.ensures) (formed.join_inputs p d0.old d0.new d r is).right)

pub marked_in_delta-returns-in_ok-marked-in-Join : goal.marked_in_delta-returns-in_ok-marked-in-Join
marked_in_delta-returns-in_ok-marked-in-Join t c =
    let d0 = c.args.delta.now in
    let p = plan_of d0.plan in
    let d = delta_of c.in-Join.left.value in
    let r = rewriting_of c.in-Join.right.value in
    let w : delta_way_of d0.way ≡ OfJoin d r = ap delta_way_of c.in-Join.is in
    let is : IsFormedDelta (Change p d0.old d0.new (OfJoin d r)) = subst (λ way. IsFormedDelta (Change p d0.old d0.new way)) w c.requires in
    let side = ap (λ v. lefts (plan_of v.plan) c.args.at.now) c.deref-in-Join.ensures in
    let other = ap (λ v. rights (plan_of v.plan) c.args.at.now) c.deref-in-Join.ensures in
    let left = delta_found c.deref-in-Join-2.result.now c.in-Join.left.value c.in_ok-left-in-Join.left.items c.sides.result.0.now (lefts (delta_plan d) c.args.at.now) c.deref-in-Join-2.ensures c.in_ok-left-in-Join.ensures (c.sides.ensures.lefts ∙ side) in
    let right = tree_found c.deref-in-Join-3.result.now c.in-Join.right.value c.in_ok-marked-in-Join.field-0.items c.sides.result.1.now (rights (delta_plan d) c.args.at.now) c.deref-in-Join-3.ensures c.in_ok-marked-in-Join.ensures (c.sides.ensures.rights ∙ other) in
    let whole = (λ i. left i ++ (right i ++ false ∷ [])) ∙ sym (marked.join_marks p d0.old d0.new c.args.at.now d r is)
    ∙ ap (λ (way : PlainDeltaWay). delta_marks (Change p d0.old d0.new way) c.args.at.now) (sym w) in
    subst (λ (ms : List Bool). IfOk c.of_two-in-Join.result (λ all. all.items ≡ ms)) whole c.of_two-in-Join.ensures

pub marked_in_delta-returns-in-Unchanged : goal.marked_in_delta-returns-in-Unchanged
marked_in_delta-returns-in-Unchanged t c =
    let d0 = c.args.delta.now in
    let p = plan_of d0.plan in
    let w : delta_way_of d0.way ≡ Unchanged = ap delta_way_of c.in-Unchanged.is in
    let whole = sym (nowhere_marked p c.args.at.now) ∙ ap (λ (way : PlainDeltaWay). delta_marks (Change p d0.old d0.new way) c.args.at.now) (sym w) in
    subst (λ (ms : List Bool). IfOk c.unmarked.result (λ all. all.items ≡ ms)) whole c.unmarked.ensures

pub marked_in_delta-returns-in-Scan : goal.marked_in_delta-returns-in-Scan
marked_in_delta-returns-in-Scan t c =
    let d0 = c.args.delta.now in
    let p = plan_of d0.plan in
    let w : delta_way_of d0.way ≡ NewRows = ap delta_way_of c.in-Scan.is in
    let whole = sym (nowhere_marked p c.args.at.now) ∙ ap (λ (way : PlainDeltaWay). delta_marks (Change p d0.old d0.new way) c.args.at.now) (sym w) in
    subst (λ (ms : List Bool). IfOk c.unmarked-in-Scan.result (λ all. all.items ≡ ms)) whole c.unmarked-in-Scan.ensures
