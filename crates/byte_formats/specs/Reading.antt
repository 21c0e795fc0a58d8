-- What bytes are read as, from left to right: a value with the bytes after it, or how many bytes are left from the
-- place where reading stops. The functions that read are told in these words.
use Rattle.std.specs.Prelude.{◌≡◌, ℕ, zero, suc, ◌-◌, Bool, true, ◌&&◌, ◌||◌, ◌==◌, nat_lt, if◌then◌else◌, List, [], ◌∷◌, length, take, drop, Option, Some, None, Result, Ok, Err}
use Rattle.std.specs.Int.{Width, w32, byte_len, from_be_bytes, to_be_bytes}
use Rattle.std.specs.List.{list_all}
use Rattle.std.specs.Str.{is_utf8}
use Rattle.rows_core.specs.Txt.{is_text_byte}
use Rattle.byte_formats.specs.declared.unread.Unread.{Unread}
use Rattle.byte_formats.specs.declared.unread.Unread.TheVariants.{Left, Memory}
use Rattle.byte_formats.specs.declared.text.Followers.{Followers}

infixl 10 ◌>>=◌
abbrev pub ◌>>=◌ : {A B : Type 0} → Result A ℕ → (A → Result B ℕ) → Result B ℕ
(Ok x) >>= f = f x
(Err left) >>= f = Err left

abbrev pub Read : Type 0 → Type 0
Read A = Result (A × List ℕ) ℕ

-- What a function returned, seen by view, is what reading gives, unless memory ran out.
abbrev pub Fails : {Y : Type 0} → Unread → Result Y ℕ → Type 0
Fails Memory read = Unit {0}
Fails (Left left) read = read ≡ Err left

abbrev pub Gives : {X Y : Type 0} → (X → Y) → Result X Unread → Result Y ℕ → Type 0
Gives view (Ok x) read = read ≡ Ok (view x)
Gives view (Err e) read = Fails e read

-- these bytes, and no others
abbrev pub literal_at : List ℕ → List ℕ → Result (List ℕ) ℕ
literal_at [] bytes = Ok bytes
literal_at (c ∷ cs) [] = Err 0
literal_at (c ∷ cs) (b ∷ bs) = if b == c then literal_at cs bs else Err (suc (length bs))

abbrev pub number_at : Width → List ℕ → Read ℕ
number_at w bytes =
    if nat_lt (length bytes) (byte_len w) then Err 0
    else Ok (from_be_bytes w (take (byte_len w) bytes), drop (byte_len w) bytes)

-- Where a number of a range stops: at a byte below the least number's, all before it being the least number's, or
-- above the greatest's, all before it being the greatest's.
abbrev pub left_between : List ℕ → List ℕ → List ℕ → Bool → Bool → ℕ
left_between [] high bytes at_low at_high = 0
left_between (l ∷ ls) [] bytes at_low at_high = 0
left_between (l ∷ ls) (h ∷ hs) [] at_low at_high = 0
left_between (l ∷ ls) (h ∷ hs) (b ∷ bs) at_low at_high =
    if (at_low && nat_lt b l) || (at_high && nat_lt h b) then suc (length bs)
    else left_between ls hs bs (at_low && (b == l)) (at_high && (b == h))

-- a number from low to high
unfoldable pub bounded_at : Width → ℕ → ℕ → List ℕ → Read ℕ
bounded_at w low high bytes =
    let left = left_between (to_be_bytes w low) (to_be_bytes w high) bytes true true in
    let number = from_be_bytes w (take (byte_len w) bytes) in
    if nat_lt (length bytes) (byte_len w) then Err left
    else (if nat_lt number low || nat_lt high number then Err left else Ok (number, drop (byte_len w) bytes))

-- how many bytes follow a lead byte, and the least and greatest that the first of them may be
abbrev pub following : ℕ → ℕ → ℕ → Followers
following count least greatest = record { count = count; least = least; greatest = greatest }

abbrev pub any_following : ℕ → Followers
any_following count = following count 0x80 0xBF

-- Unicode's table of well-formed UTF-8. A byte below 0x20 leads nothing.
unfoldable pub followers_of : ℕ → Option Followers
followers_of b =
    if nat_lt b 0x20 then None
    else (if nat_lt b 0x80 then Some (any_following 0)
    else (if nat_lt b 0xC2 then None
    else (if nat_lt b 0xE0 then Some (any_following 1)
    else (if b == 0xE0 then Some (following 2 0xA0 0xBF)
    else (if b == 0xED then Some (following 2 0x80 0x9F)
    else (if nat_lt b 0xF0 then Some (any_following 2)
    else (if b == 0xF0 then Some (following 3 0x90 0xBF)
    else (if nat_lt b 0xF4 then Some (any_following 3)
    else (if b == 0xF4 then Some (following 3 0x80 0x8F) else None)))))))))

-- what follows a byte that stands where `expected` says what follows
unfoldable pub followers_after : Followers → ℕ → Option Followers
followers_after expected b =
    if expected.count == 0 then followers_of b
    else (if nat_lt b expected.least || nat_lt expected.greatest b then None else Some (any_following (expected.count - 1)))

-- y of what is there, else d
abbrev pub or_else : {A : Type 0} → Option A → ℕ → (A → ℕ) → ℕ
or_else None d y = d
or_else (Some x) d y = y x

-- what is left where a text of room bytes stops: at a byte that the table refuses, or whose followers lack room
unfoldable pub left_in_text : Followers → ℕ → List ℕ → ℕ
left_in_text expected room [] = 0
left_in_text expected zero (b ∷ bs) = 0
left_in_text expected (suc room) (b ∷ bs) =
    or_else (followers_after expected b) (suc (length bs))
    (λ next. if nat_lt room next.count then suc (length bs) else left_in_text next room bs)

abbrev pub is_text : List ℕ → Bool
is_text bytes = is_utf8 bytes && list_all is_text_byte bytes

-- a length of 1,000 at most, and a text of that length
unfoldable pub text_at : List ℕ → Read (List ℕ)
text_at bytes = do
  n ← bounded_at w32 0 1000 bytes
  if nat_lt (length n.1) n.0 then Err (left_in_text (any_following 0) n.0 n.1) else (if is_text (take n.0 n.1) then Ok (take n.0 n.1, drop n.0 n.1) else Err (left_in_text (any_following 0) n.0 n.1))

-- all of the bytes
abbrev pub ended : {A : Type 0} → A × List ℕ → Result A ℕ
ended (x, []) = Ok x
ended (x, b ∷ bs) = Err (suc (length bs))
