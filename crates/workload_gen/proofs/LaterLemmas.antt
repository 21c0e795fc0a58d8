-- A part of the script that is drawn from a later state is the part with the later draws.
use Rattle.std.proofs.Common.{◌≡◌, ap, ◌∙◌, sym, ℕ, ◌+◌, ◌*◌, ◌%◌, ◌==◌, cond, [], ◌++◌, codes, decimal, pos, ◌-ℤ◌, add_assoc, add_comm, add-zero}
use Rattle.std.specs.Fmt.{signed_decimal}
use Rattle.workload_gen.specs.Draws.{state_after, draw}
use Rattle.workload_gen.specs.Programs.{program_text}
use Rattle.workload_gen.specs.Script.{line, row_line, append_line, row_lines, append_block, run_line, run_lines, runs_behind, collection_behind, round}
use Rattle.workload_gen.proofs.DrawLemmas.{draw-later}
use Rattle.workload_gen.proofs.LoopLemmas.{each_below-same}

-- a step behind a place that is behind another
behind : {X : Type 0} (f : ℕ → X) (first at step : ℕ) → f (first + (at + step)) ≡ f (first + at + step)
behind f first at step = ap f (sym (add_assoc first at step))

row_line-later : (number first at id : ℕ) → row_line (state_after number first) at id ≡ row_line number (first + at) id
unfolding row_line
row_line-later number first at id =
    let tag = draw-later number first at 20 in
    let quantity = draw-later number first (at + 1) 1000 ∙ behind (λ n. draw number n 1000) first at 1 in
    λ i. line (decimal id ++ codes ",\"t" ++ decimal (tag i) ++ codes "\"," ++ signed_decimal (pos (quantity i) -ℤ pos 200))

append_line-later : (number first at : ℕ) → append_line (state_after number first) at ≡ append_line number (first + at)
unfolding append_line
append_line-later number first at = ap (λ stream. line (codes "append s" ++ decimal stream)) (draw-later number first at 3)

row_lines-later : (number first at id : ℕ) → row_lines (state_after number first) at id ≡ row_lines number (first + at) id
unfolding row_lines
row_lines-later number first at id =
    each_below-same 500 _ _ (λ j. row_line-later number first (at + 2 * j) (id + j) ∙ behind (λ n. row_line number n (id + j)) first at (2 * j))

append_block-later : (number first at a : ℕ) → append_block (state_after number first) at a ≡ append_block number (first + at) a
unfolding append_block
append_block-later number first at a =
    let head = append_line-later number first at in
    let rows = row_lines-later number first (at + 1) (a * 500) ∙ behind (λ n. row_lines number n (a * 500)) first at 1 in
    λ i. head i ++ rows i ++ line (codes "end")

run_line-later : (number first at : ℕ) → run_line (state_after number first) at ≡ run_line number (first + at)
unfolding run_line
run_line-later number first at =
    ap (λ program. line (codes "run p" ++ decimal program ++ codes " = " ++ program_text program)) (draw-later number first at 12)

run_lines-later : (number first at : ℕ) → run_lines (state_after number first) at ≡ run_lines number (first + at)
unfolding run_lines
run_lines-later number first at =
    each_below-same 3 _ _ (λ k. run_line-later number first (at + k) ∙ behind (run_line number) first at k)

runs_behind-later : (number first at a : ℕ) → runs_behind (state_after number first) at a ≡ runs_behind number (first + at) a
unfolding runs_behind
runs_behind-later number first at a = ap (λ runs. cond (a % 10 == 9) runs []) (run_lines-later number first at)

round-later : (number first at a : ℕ) → round (state_after number first) at a ≡ round number (first + at) a
unfolding round
round-later number first at a =
    let block = append_block-later number first at a in
    let runs = runs_behind-later number first (at + 1001) a ∙ behind (λ n. runs_behind number n a) first at 1001 in
    λ i. block i ++ runs i ++ collection_behind a

-- the same for a part whose draws begin with this state
pub row_line-here : (number at id state : ℕ) → state ≡ state_after number at → row_line state 0 id ≡ row_line number (0 + at) id
row_line-here number at id state is = ap (λ s. row_line s 0 id) is ∙ row_line-later number at 0 id ∙ ap (λ n. row_line number n id) (add_comm at 0)

pub row_lines-here : (number at first state : ℕ) → state ≡ state_after number at → row_lines state 0 first ≡ row_lines number (0 + at) first
row_lines-here number at first state is =
    ap (λ s. row_lines s 0 first) is ∙ row_lines-later number at 0 first ∙ ap (λ n. row_lines number n first) (add_comm at 0)

pub run_line-here : (number at state : ℕ) → state ≡ state_after number at → run_line state 0 ≡ run_line number (0 + at)
run_line-here number at state is = ap (λ s. run_line s 0) is ∙ run_line-later number at 0 ∙ ap (run_line number) (add_comm at 0)

pub runs_behind-here : (number at a state : ℕ) → state ≡ state_after number at → runs_behind state 0 a ≡ runs_behind number (0 + at) a
runs_behind-here number at a state is =
    ap (λ s. runs_behind s 0 a) is ∙ runs_behind-later number at 0 a ∙ ap (λ n. runs_behind number n a) (add_comm at 0)

pub round-here : (number at a state : ℕ) → state ≡ state_after number at → round state 0 a ≡ round number at a
round-here number at a state is = ap (λ s. round s 0 a) is ∙ round-later number at 0 a ∙ ap (λ n. round number n a) (add-zero at)
