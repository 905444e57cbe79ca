-- A byte string as words: its length in two bytes, its bytes, and zeros behind them, eight bytes a word.
use Rattle.std.specs.Prelude.{◌≡◌, ℕ, zero, suc, ◌+◌, ◌-◌, ◌*◌, ◌/◌, ◌%◌, ◌^◌, ◌<◌, ◌≤◌, List, [], ◌∷◌, ◌++◌, length}
use Rattle.std.specs.Prelude.{take, drop, replicate, slice_index, All}
use Rattle.std.specs.List.{flat_map}
use Rattle.std.specs.Int.{w64, from_le_bytes, to_le_bytes}

-- strings may take this many words at most
abbrev pub most_words : ℕ
most_words = 64

-- a string of n bytes has room in w words
abbrev pub HasRoom : ℕ → ℕ → Type 0
HasRoom w n = (w ≤ most_words) × (n + 2 ≤ 8 * w)

-- each number is a byte
abbrev pub AreBytes : List ℕ → Type 0
AreBytes bytes = All (λ b. b < 256) bytes

-- w words may hold this string
abbrev pub MayHold : ℕ → List ℕ → Type 0
MayHold w bytes = HasRoom w (length bytes) × AreBytes bytes

-- a string with its length in front, the lower byte first
abbrev pub counted : List ℕ → List ℕ
counted bytes = (length bytes % 256) ∷ (length bytes / 256) ∷ bytes

-- the bytes of w words that hold a string
abbrev pub laid_out : ℕ → List ℕ → List ℕ
laid_out w bytes = counted bytes ++ replicate (8 * w - (length bytes + 2)) 0

-- w words of bytes, eight a word, the lowest first
unfoldable pub words_of : ℕ → List ℕ → List ℕ
words_of zero bytes = []
words_of (suc w) bytes = from_le_bytes w64 (take 8 bytes) ∷ words_of w (drop 8 bytes)

-- the word at this place of the words of bytes; where the bytes end, zeros follow
abbrev pub word_in : List ℕ → ℕ → ℕ
word_in xs at =
    let byte : ℕ → ℕ = λ k. slice_index xs (8 * at + k) in
    from_le_bytes w64 (byte 0 ∷ byte 1 ∷ byte 2 ∷ byte 3 ∷ byte 4 ∷ byte 5 ∷ byte 6 ∷ byte 7 ∷ [])

-- the words of a string
unfoldable pub string_words : ℕ → List ℕ → List ℕ
string_words w bytes = words_of w (laid_out w bytes)

-- the bytes of words
unfoldable pub bytes_of : List ℕ → List ℕ
bytes_of words = flat_map (to_le_bytes w64) words

-- the string that words hold
unfoldable pub string_in : List ℕ → List ℕ
string_in words = take (slice_index words 0 % 2 ^ 16) (drop 2 (bytes_of words))

-- the words are those of a string
pub record IsString (w : ℕ) (words : List ℕ) : Type 0 where
  pub held : MayHold w (string_in words)
  pub spelled : words ≡ string_words w (string_in words)
