-- Where the words of a chunk lie. A table has a row of words for each chunk, behind 14 that are spare: the chunk's head,
-- its time, its label, and as many more words as the table has slots. A slot has no bytes: their number alone counts.
use Rattle.std.specs.Prelude.{ℕ, zero, suc, ◌+◌, ◌-◌, ◌*◌, ◌/◌, ◌<◌, List, [], ◌∷◌, slice_index}
use Rattle.atomic_table.specs.Seated.{TableId}

-- the head of the chunk; its time stands one place behind, word i of its labels two and i places
unfoldable pub head_place : ℕ → ℕ → ℕ
head_place slots chunk = chunk * (slots + 3) + 14

-- how many chunks have all their words
unfoldable pub rows : TableId → ℕ
rows table = (table.words - 14) / (table.slots + 3)

abbrev pub HasChunk : TableId → ℕ → Type 0
HasChunk table chunk = chunk < rows table

-- so many of the words, from this place on
abbrev pub words_from : List ℕ → ℕ → ℕ → List ℕ
words_from words place zero = []
words_from words place (suc count) = slice_index words place ∷ words_from words (place + 1) count

-- What a hold keeps of a chunk: its label, which is word 0 of the row, and then its further words, of which number i is
-- word i + 1.
abbrev pub row_at : ℕ → List ℕ → ℕ → List ℕ
row_at slots words chunk = words_from words (head_place slots chunk + 2) (slots + 1)

-- word i of its row
abbrev pub words_at : ℕ → List ℕ → ℕ → ℕ → ℕ
words_at slots words chunk = slice_index (row_at slots words chunk)
