-- The order of names, and which first bytes of a name may still end at or above another.
use Rattle.std.specs.Prelude.{◌≡◌, ℕ, zero, suc, ◌==◌, ◌&&◌, ◌||◌, Bool, true, false, if◌then◌else◌, List, [], ◌∷◌, length, nat_lt, nat_le}

-- in the order of bytes, not below
abbrev pub not_below : List ℕ → List ℕ → Bool
not_below [] name = true
not_below (c ∷ cs) [] = false
not_below (c ∷ cs) (b ∷ bs) = nat_lt c b || ((c == b) && not_below cs bs)

-- Some name that begins with these bytes and has room for so many in all isn't below: the greatest goes on with `z`.
abbrev pub may_reach : List ℕ → ℕ → List ℕ → Bool
may_reach [] room front = true
may_reach (c ∷ cs) zero front = false
may_reach (c ∷ cs) (suc room) [] = nat_lt c 122 || ((c == 122) && may_reach cs room [])
may_reach (c ∷ cs) (suc room) (b ∷ bs) = nat_le b 122 && (nat_lt c b || ((c == b) && may_reach cs room bs))

-- the same behind a length
abbrev pub may_reach_sized : List ℕ → List ℕ → Bool
may_reach_sized previous [] = true
may_reach_sized previous (len ∷ front) = may_reach previous len front

-- how many bytes are left from the first with which none of these names is reached
abbrev pub left_unreached : List ℕ → ℕ → List ℕ → ℕ
left_unreached previous room [] = 0
left_unreached [] room (b ∷ bs) = 0
left_unreached (c ∷ cs) zero (b ∷ bs) = suc (length bs)
left_unreached (c ∷ cs) (suc room) (b ∷ bs) =
    if may_reach (c ∷ cs) (suc room) (b ∷ []) then (if c == b then left_unreached cs room bs else 0) else suc (length bs)

abbrev pub left_unreached_sized : List ℕ → List ℕ → ℕ
left_unreached_sized previous [] = 0
left_unreached_sized previous (len ∷ bs) = if may_reach previous len [] then left_unreached previous len bs else suc (length bs)
