-- The page of a catalogue: three tables, a row for each stream, each program and each kept result.
use Rattle.std.specs.Prelude.{ℕ, ◌+◌, ◌-◌, max, Bool, false, List, [], ◌∷◌, ◌++◌, Option, None, Some, bytes_eq, if◌then◌else◌}
use Rattle.std.specs.List.{find, flat_map, list_any, sum_by}
use Rattle.rows_core.specs.Kind.{kind_word}
use Rattle.rows_core.specs.declared.schema.Column as a_column
use Rattle.catalog_page.specs.declared.catalogue.Keyed.{Keyed}
use Rattle.catalog_page.specs.declared.catalogue.LeafCut.{LeafCut}
use Rattle.catalog_page.specs.declared.catalogue.StreamLine.{StreamLine}
use Rattle.catalog_page.specs.declared.fragment.Fragment.TheVariants.{Head, Tick, Streams, Programs, Results, Foot, Row, RowEnd, Columns, ProgramPlan, Id, Extents, Rows, BytesKept, Plan, Bytes, Machine, Uses, SinceUse, SinceMaking, Column, Space, SpanEnd, Code, CodeEnd, By, NoProgram, Cut, To, Of, Bar, BarWhole, BarPart, BarWidth, BarEnd}
use Rattle.catalog_page.specs.Markup.{Piece, Markup, Shown, Count}
use Rattle.catalog_page.specs.Plain.{PlainKept}

-- ---- bytes of kept results

-- one of its leaves is of this stream
abbrev pub reads : List ℕ → PlainKept → Bool
reads stream k = list_any (λ c. bytes_eq c.stream stream) k.cuts

-- its plan has this key, where there is one
abbrev pub has_key : Option (List ℕ) → PlainKept → Bool
has_key None k = false
has_key (Some key) k = bytes_eq key k.key

unfoldable pub bytes_where : (PlainKept → Bool) → List PlainKept → ℕ
bytes_where is = sum_by (λ k. if is k then k.standing.size else 0)

-- ---- streams

abbrev pub column_pieces : a_column.Column → List Piece
column_pieces c = Markup Column ∷ Shown c.name ∷ Markup Space ∷ Shown (kind_word c.kind) ∷ Markup SpanEnd ∷ []

unfoldable pub stream_head : StreamLine → List Piece
stream_head s = Markup Row ∷ Shown s.name ∷ Markup Columns ∷ []

unfoldable pub stream_numbers : List PlainKept → StreamLine → List Piece
stream_numbers results s =
    Markup Extents ∷ Count s.extents ∷ Markup Rows ∷ Count s.rows ∷ Markup BytesKept ∷ Count (bytes_where (reads s.name) results) ∷ Markup RowEnd ∷ []

-- the name, the columns, how many extents, the rows, and the bytes of the kept results that read it
unfoldable pub stream_row : List PlainKept → StreamLine → List Piece
stream_row results s = stream_head s ++ flat_map column_pieces s.schema ++ stream_numbers results s

-- ---- programs

-- the name, the text and the bytes of the kept results of its plan
unfoldable pub program_row : List PlainKept → Keyed → List Piece
program_row results p =
    Markup Row ∷ Shown p.name ∷ Markup ProgramPlan ∷ Markup Code ∷ Shown p.text ∷ Markup CodeEnd ∷ Markup BytesKept
    ∷ Count (bytes_where (has_key p.key) results) ∷ Markup RowEnd ∷ []

-- ---- kept results

-- the text and the name
abbrev pub program_pieces : Keyed → List Piece
program_pieces p = Markup Code ∷ Shown p.text ∷ Markup CodeEnd ∷ Markup By ∷ Shown p.name ∷ Markup SpanEnd ∷ []

abbrev pub key_pieces : List ℕ → List Piece
key_pieces key = Markup NoProgram ∷ Markup Code ∷ Shown key ∷ Markup CodeEnd ∷ []

abbrev pub named_pieces : List ℕ → Option Keyed → List Piece
named_pieces key (Some p) = program_pieces p
named_pieces key None = key_pieces key

-- of the first program that has its plan, or else its key
unfoldable pub plan_pieces : List Keyed → PlainKept → List Piece
plan_pieces programs k = named_pieces k.key (find (λ p. has_key p.key k) programs)

-- how many extents the stream of this name has
abbrev pub extents_in : Option StreamLine → ℕ
extents_in None = 0
extents_in (Some s) = s.extents

abbrev pub extents_of : List StreamLine → List ℕ → ℕ
extents_of streams name = extents_in (find (λ s. bytes_eq s.name name) streams)

-- the extents of a leaf in words, and as a bar over all extents of the stream: an extent is one wide
unfoldable pub cut_pieces : List StreamLine → LeafCut → List Piece
cut_pieces streams c =
    Markup Cut ∷ Shown c.stream ∷ Markup Space ∷ Count c.from ∷ Markup To ∷ Count c.to ∷ Markup Of ∷ Count (extents_of streams c.stream)
    ∷ Markup Bar ∷ Count (max (extents_of streams c.stream) 1) ∷ Markup BarWhole ∷ Count (extents_of streams c.stream)
    ∷ Markup BarPart ∷ Count c.from ∷ Markup BarWidth ∷ Count (c.to - c.from) ∷ Markup BarEnd ∷ []

unfoldable pub result_head : ℕ → PlainKept → List Piece
result_head place k = Markup Row ∷ Count place ∷ Markup Id ∷ Count k.standing.id ∷ Markup Plan ∷ []

-- with the ticks at the next one since the last use and since the making
unfoldable pub result_numbers : ℕ → PlainKept → List Piece
result_numbers tick k =
    Markup Bytes ∷ Count k.standing.size ∷ Markup Machine ∷ Count k.machine ∷ Markup Uses ∷ Count k.uses
    ∷ Markup SinceUse ∷ Count (tick + 1 - k.last) ∷ Markup SinceMaking ∷ Count (tick + 1 - k.made) ∷ Markup RowEnd ∷ []

-- the place, the id, the plan, the extents, the bytes, the machine time, the uses and both ages
unfoldable pub result_row : List StreamLine → List Keyed → ℕ → ℕ → PlainKept → List Piece
result_row streams programs tick place k =
    result_head place k ++ plan_pieces programs k ++ (Markup Extents ∷ []) ++ flat_map (cut_pieces streams) k.cuts ++ result_numbers tick k

-- from this place on
abbrev pub result_rows : List StreamLine → List Keyed → ℕ → ℕ → List PlainKept → List Piece
result_rows streams programs tick place [] = []
result_rows streams programs tick place (k ∷ ks) =
    result_row streams programs tick place k ++ result_rows streams programs tick (place + 1) ks

-- ---- the whole

unfoldable pub head_pieces : ℕ → List Piece
head_pieces tick = Markup Head ∷ Markup Tick ∷ Count tick ∷ Markup Streams ∷ []

unfoldable pub document : List StreamLine → List Keyed → List PlainKept → ℕ → List Piece
document streams programs results tick =
    head_pieces tick ++ flat_map (stream_row results) streams
    ++ (Markup Programs ∷ []) ++ flat_map (program_row results) programs
    ++ (Markup Results ∷ []) ++ result_rows streams programs tick 1 results
    ++ (Markup Foot ∷ [])
