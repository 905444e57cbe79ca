-- A number for each key, or none, in pages: the pages in their order, each with the numbers of its keys, and an empty
-- page with none.
use Rattle.std.specs.Prelude.{ℕ, ◌<◌, ◌/◌, ◌%◌, List, [], Option, Some, None, length, slice_index_or}

-- the page of a key
abbrev pub page_at : List (List (Option ℕ)) → ℕ → List (Option ℕ)
page_at pages page = slice_index_or pages page []

-- the number of a key, where it has one
abbrev pub number_of : List (List (Option ℕ)) → ℕ → Option ℕ
number_of pages key = slice_index_or (page_at pages (key / 65536)) (key % 65536) None

-- 1 where there is a number
abbrev pub one_of : Option ℕ → ℕ
one_of None = 0
one_of (Some number) = 1

-- 1 where a key has a number
abbrev pub held : List (List (Option ℕ)) → ℕ → ℕ
held pages key = one_of (number_of pages key)

-- there is a place for the number of a key
abbrev pub HasPlace : List (List (Option ℕ)) → ℕ → Type 0
HasPlace pages key = key % 65536 < length (page_at pages (key / 65536))
