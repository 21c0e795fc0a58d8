-- The texts of the programs that the script runs.
use Rattle.std.specs.Prelude.{ℕ, List, [], ◌∷◌, codes, slice_index_or}

abbrev pub program_texts : List (List ℕ)
program_texts =
    codes "from s0 | group tag with n = count()"
    ∷ codes "from s0 | group tag with t = sum(qty), a = avg(qty)"
    ∷ codes "from s1 | where qty > 0 | group tag with t = sum(qty)"
    ∷ codes "from s1 | where qty > 0 | select k = tag, v = qty * 2"
    ∷ codes "from s2 | select k = tag | distinct"
    ∷ codes "from s2 | select k = tag | distinct | order k"
    ∷ codes "from s0 | order qty desc, id"
    ∷ codes "from s0 | concat (from s1) | group tag with n = count()"
    ∷ codes "from s0 | join (from s1 | group tag with m = max(qty) | select k = tag, w = m) on tag = k | where qty = w"
    ∷ codes "from s2 | join (from s2 | where qty > 780 | select k = id) on id = k"
    ∷ codes "from s1 | group tag with f = first(id), l = last(id)"
    ∷ codes "from s0 | where qty < -100 or qty > 700 | select d = qty % 7 | group d with n = count()"
    ∷ []

-- the text of the program of this number, from 0 to 11
unfoldable pub program_text : ℕ → List ℕ
program_text program = slice_index_or program_texts program []
