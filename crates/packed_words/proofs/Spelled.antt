-- The words of a string, as they are written one behind the other.
use Rattle.std.proofs.Common.{◌≡◌, ℕ, zero, suc, ◌+◌, ◌-◌, ◌*◌, ◌<◌, List, length}
use Rattle.std.proofs.Common.{get_or, sym, ap, ◌∙◌, arith}
use Rattle.std.proofs.lemmas.Grind.{same_number_lists}
use Rattle.packed_words.specs.Strings.{words_of, word_in}
use Rattle.packed_words.proofs.StringReads.{padded, same_word, word_of}
use Rattle.packed_words.specs.Spelling.{filled, long_string}
use Rattle.packed_words.specs.SpellingLaws.{length-long_string}

-- a word of a string's bytes and of the zeros behind them
filled_word : (n : ℕ) (bytes : List ℕ) (k : ℕ) → k < n → get_or (words_of n (filled n bytes)) k 0 ≡ word_in bytes k
filled_word n bytes k p =
    word_of n (filled n bytes) k p ∙ same_word (filled n bytes) bytes k (padded bytes (8 * n - length bytes))

-- the length and so many words behind it are the string's
pub record IsSpelledTo (bytes words : List ℕ) (end : ℕ) : Type 0 where
  pub count : get_or words 0 0 ≡ length bytes
  pub body : (k : ℕ) → k < end → get_or words (k + 1) 0 ≡ word_in bytes k

-- a word of the string, by its place
each : (w end : ℕ) (bytes words : List ℕ) → end + 1 ≡ w → IsSpelledTo bytes words end
    → (k : ℕ) → k < w → get_or words k 0 ≡ get_or (long_string w bytes) k 0
unfolding long_string
each w end bytes words whole h zero p = h.count
each w end bytes words whole h (suc k) p =
    let here : get_or words (suc k) 0 ≡ word_in bytes k =
    ap (λ (m : ℕ). get_or words m 0) (omega arith) ∙ h.body k (omega arith) in
    here ∙ sym (filled_word (w - 1) bytes k (omega arith))

-- all words
pub spelled_all : (w end : ℕ) (bytes words : List ℕ) → length words ≡ w → end + 1 ≡ w → IsSpelledTo bytes words end
    → words ≡ long_string w bytes
spelled_all w end bytes words long whole h =
    let some : 0 < w = omega arith in
    same_number_lists words (long_string w bytes) (long ∙ sym (length-long_string w bytes some))
    (λ k p. each w end bytes words whole h k (omega arith))
