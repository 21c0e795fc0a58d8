-- How long the parts of the script are.
use Prim.Native.Nat.{zero, suc}
use Rattle.std.proofs.Common.{refl, ap, ◌∙◌, sym, ℕ, ◌+◌, ◌*◌, ◌%◌, ◌<◌, ◌≤◌, ◌==◌, Bool, true, false, cond, IsTrue, nat_le, List, [], ◌∷◌, length, get_or, codes, pos, FitsSigned, w64, rules, ◌-ℤ◌, arith, length-append, add-one, lit<, lit≤}
use Rattle.std.specs.List.{list_all}
use Rattle.std.proofs.lemmas.Bool.Decides.{nat_tests}
use Rattle.std.proofs.lemmas.Int.{ints}
use Rattle.std.proofs.lemmas.Fmt.{length-decimal-le, length_signed_le}
use Rattle.workload_gen.specs.Draws.{draw}
use Rattle.workload_gen.specs.Programs.{program_text, program_texts}
use Rattle.workload_gen.specs.Script.{each_below, line, stream_line, row_line, append_line, row_lines, append_block, run_line, run_lines, runs_behind, collection_behind, round, round_start, generated_script}
use Rattle.workload_gen.proofs.DrawLemmas.{draw-small}
use Rattle.workload_gen.proofs.LoopLemmas.{each_below-none, each_below-more}

length-each_below : (text : ℕ → List ℕ) (most n : ℕ) → ((k : ℕ) → k < n → length (text k) ≤ most) → length (each_below n text) ≤ n * most
length-each_below text most zero short = let none = ap length (each_below-none text) in omega (arith, none)
length-each_below text most (suc n) short =
    let parts = ap (λ k. length (each_below k text)) (sym (add-one n)) ∙ ap length (each_below-more text n) ∙ length-append (each_below n text) (text n) in
    let so_far = length-each_below text most n (λ k below. short k (omega arith)) in
    omega (arith, parts, so_far, short n (omega arith))

-- a quantity is a number in i64
FitsSigned-quantity : (q : ℕ) → q < 1000 → FitsSigned w64 (pos q -ℤ pos 200)
FitsSigned-quantity q small = search (rules, ints)

short-texts : (texts : List (List ℕ)) (most k : ℕ) → IsTrue (list_all (λ text. nat_le (length text) most) texts) → length (get_or texts k []) ≤ most
short-texts [] most k all = omega arith
short-texts (text ∷ texts) most zero all = grind (arith, nat_tests)
short-texts (text ∷ texts) most (suc k) all = short-texts texts most k (grind (arith, nat_tests))

length-program_text : (program : ℕ) → length (program_text program) ≤ 120
unfolding program_text
length-program_text program = short-texts program_texts 120 program refl

length-row_line : (number at id : ℕ) → id < 100000 → length (row_line number at id) ≤ 64
unfolding row_line
length-row_line number at id small =
    let tag = length-decimal-le 2 (draw number at 20) (lit< tt) (omega (arith, draw-small number at 20 (lit< tt))) (omega (arith, draw-small number at 20 (lit< tt))) in
    let digits = length-decimal-le 5 id (lit< tt) (omega arith) (omega arith) in
    let less = (FitsSigned-quantity (draw number (at + 1) 1000) (draw-small number (at + 1) 1000 (lit< tt))).sfits in
    let quantity = length_signed_le 19 (pos (draw number (at + 1) 1000) -ℤ pos 200) (omega (arith, less)) less in
    simp length-append (omega (arith, tag, digits, quantity))

length-append_line : (number at : ℕ) → length (append_line number at) ≤ 64
unfolding append_line
length-append_line number at =
    let small = draw-small number at 3 (lit< tt) in
    let stream = length-decimal-le 1 (draw number at 3) (lit< tt) (omega (arith, small)) (omega (arith, small)) in
    simp length-append (omega (arith, stream))

length-row_lines : (number at first : ℕ) → first ≤ 99500 → length (row_lines number at first) ≤ 32000
unfolding row_lines
length-row_lines number at first small =
    length-each_below (λ j. row_line number (at + 2 * j) (first + j)) 64 500 (λ j below. length-row_line number (at + 2 * j) (first + j) (omega arith))

length-append_block : (number at a : ℕ) → a < 200 → length (append_block number at a) ≤ 33000
unfolding append_block
length-append_block number at a small =
    let head = length-append_line number at in
    let rows = length-row_lines number (at + 1) (a * 500) (omega arith) in
    simp length-append (omega (arith, head, rows))

length-run_line : (number at : ℕ) → length (run_line number at) ≤ 200
unfolding run_line
length-run_line number at =
    let small = draw-small number at 12 (lit< tt) in
    let program = length-decimal-le 2 (draw number at 12) (lit< tt) (omega (arith, small)) (omega (arith, small)) in
    let text = length-program_text (draw number at 12) in
    simp length-append (omega (arith, program, text))

length-run_lines : (number at : ℕ) → length (run_lines number at) ≤ 600
unfolding run_lines
length-run_lines number at = length-each_below (λ i. run_line number (at + i)) 200 3 (λ i below. length-run_line number (at + i))

length-cond : (b : Bool) (text : List ℕ) (most : ℕ) → length text ≤ most → length (cond b text []) ≤ most
length-cond true text most short = short
length-cond false text most short = omega arith

length-runs_behind : (number at a : ℕ) → length (runs_behind number at a) ≤ 600
unfolding runs_behind
length-runs_behind number at a = length-cond (a % 10 == 9) (run_lines number at) 600 (length-run_lines number at)

length-collection_behind : (a : ℕ) → length (collection_behind a) ≤ 64
unfolding collection_behind
length-collection_behind a = length-cond (a % 20 == 19) (line (codes "collect 20000")) 64 (lit≤ tt)

length-round : (number at a : ℕ) → a < 200 → length (round number at a) ≤ 40000
unfolding round
length-round number at a small =
    let block = length-append_block number at a small in
    let runs = length-runs_behind number (at + 1001) a in
    let collection = length-collection_behind a in
    simp length-append (omega (arith, block, runs, collection))

length-stream_line : (i : ℕ) → i < 3 → length (stream_line i) ≤ 64
unfolding stream_line
length-stream_line i small =
    let stream = length-decimal-le 1 i (lit< tt) (omega arith) (omega arith) in
    simp length-append (omega (arith, stream))

pub length-generated_script : (number : ℕ) → length (generated_script number) ≤ 1073741824
unfolding generated_script
length-generated_script number =
    let streams = length-each_below stream_line 64 3 length-stream_line in
    let rounds = length-each_below (λ a. round number (round_start a) a) 40000 200 (λ a small. length-round number (round_start a) a small) in
    simp length-append (omega (arith, streams, rounds))
