-- The generated script of a number: three streams, 200 appends of 500 rows, runs behind each tenth append and a collection behind
-- each twentieth. `number` is what the generator begins with, and `at` the number of the first draw that a part of the script uses.
use Rattle.std.specs.Prelude.{ℕ, ◌+◌, ◌*◌, ◌/◌, ◌%◌, ◌==◌, if◌then◌else◌, pos, ◌-ℤ◌, List, [], ◌∷◌, ◌++◌, codes, decimal}
use Rattle.std.specs.List.{flat_map, range_with_len}
use Rattle.std.specs.Fmt.{signed_decimal}
use Rattle.workload_gen.specs.Draws.{draw}
use Rattle.workload_gen.specs.Programs.{program_text}

-- what each of 0, 1, 2 and so on below a count gives, one behind another
unfoldable pub each_below : ℕ → (ℕ → List ℕ) → List ℕ
each_below count text = flat_map text (range_with_len 0 count)

-- a text with LF behind it
abbrev pub line : List ℕ → List ℕ
line text = text ++ 10 ∷ []

-- `stream sI (id:int, tag:text, qty:int)`
unfoldable pub stream_line : ℕ → List ℕ
stream_line i = line (codes "stream s" ++ decimal i ++ codes " (id:int, tag:text, qty:int)")

-- `ID,"tT",Q`: T is drawn below 20, and then Q + 200 below 1,000
unfoldable pub row_line : ℕ → ℕ → ℕ → List ℕ
row_line number at id =
    line (decimal id ++ codes ",\"t" ++ decimal (draw number at 20) ++ codes "\"," ++ signed_decimal (pos (draw number (at + 1) 1000) -ℤ pos 200))

-- `append sC`, C drawn below 3
unfoldable pub append_line : ℕ → ℕ → List ℕ
append_line number at = line (codes "append s" ++ decimal (draw number at 3))

-- 500 rows with the ids from `first` on; each uses two draws
unfoldable pub row_lines : ℕ → ℕ → ℕ → List ℕ
row_lines number at first = each_below 500 (λ j. row_line number (at + 2 * j) (first + j))

-- append `a`, from 0
unfoldable pub append_block : ℕ → ℕ → ℕ → List ℕ
append_block number at a = append_line number at ++ row_lines number (at + 1) (a * 500) ++ line (codes "end")

-- `run pK = ` and program K, K drawn below 12
unfoldable pub run_line : ℕ → ℕ → List ℕ
run_line number at = line (codes "run p" ++ decimal (draw number at 12) ++ codes " = " ++ program_text (draw number at 12))

-- three runs, one draw each
unfoldable pub run_lines : ℕ → ℕ → List ℕ
run_lines number at = each_below 3 (λ i. run_line number (at + i))

-- three runs where `a` is 9, 19, 29 and so on
unfoldable pub runs_behind : ℕ → ℕ → ℕ → List ℕ
runs_behind number at a = if a % 10 == 9 then run_lines number at else []

-- a collection where `a` is 19, 39, 59 and so on
unfoldable pub collection_behind : ℕ → List ℕ
collection_behind a = if a % 20 == 19 then line (codes "collect 20000") else []

-- append `a`, the runs behind it and the collection behind them; the append uses 1,001 draws
unfoldable pub round : ℕ → ℕ → ℕ → List ℕ
round number at a = append_block number at a ++ runs_behind number (at + 1001) a ++ collection_behind a

-- the draw at which append `a` begins: behind 1,001 for each append before it and three for each ten of them
abbrev pub round_start : ℕ → ℕ
round_start a = a * 1001 + 3 * (a / 10)

-- the whole script
unfoldable pub generated_script : ℕ → List ℕ
generated_script number = each_below 3 stream_line ++ each_below 200 (λ a. round number (round_start a) a)
