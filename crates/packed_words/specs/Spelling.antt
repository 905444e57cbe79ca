-- A byte string of any length as words: its length in the first word, its bytes behind it, eight a word, and zeros.
use Rattle.std.specs.Prelude.{ℕ, suc, ◌+◌, ◌-◌, ◌*◌, ◌/◌, List, [], ◌∷◌, ◌++◌, length}
use Rattle.std.specs.Prelude.{replicate, slice_index}
use Rattle.std.specs.Int.{w64, from_le_bytes}
use Rattle.packed_words.specs.Strings.{words_of}

-- how many words a string of so many bytes needs: one for its length, and one for each eight bytes, or part of eight
abbrev pub words_for : ℕ → ℕ
words_for bytes = suc ((bytes + 7) / 8)

-- bytes, and zeros behind them up to the end of so many words
abbrev pub filled : ℕ → List ℕ → List ℕ
filled words bytes = bytes ++ replicate (8 * words - length bytes) 0

-- the words of a string, in so many words
unfoldable pub long_string : ℕ → List ℕ → List ℕ
long_string w bytes = length bytes ∷ words_of (w - 1) (filled (w - 1) bytes)

-- the eight bytes from this place on as one word; where the bytes end, zeros follow
abbrev pub word_from : List ℕ → ℕ → ℕ
word_from xs first =
    let byte : ℕ → ℕ = λ k. slice_index xs (first + k) in
    from_le_bytes w64 (byte 0 ∷ byte 1 ∷ byte 2 ∷ byte 3 ∷ byte 4 ∷ byte 5 ∷ byte 6 ∷ byte 7 ∷ [])
