-- What is read of the words of a string, and the words that a string gets.
use Rattle.std.proofs.Common.{◌≡◌, ℕ, zero, suc, ◌+◌, ◌-◌, ◌*◌, ◌/◌, ◌%◌, ◌^◌, ◌<◌, ◌≤◌, List, [], ◌∷◌, ◌++◌, length}
use Rattle.std.proofs.Common.{take, drop, get_or, refl, sym, ap, ◌∙◌, subst, arith}
use Rattle.std.specs.Prelude.{replicate, nat_eq}
use Rattle.std.specs.Bool.{one_answer}
use Rattle.std.specs.Cmp.Lexicographic.{pointwise, bytes_decides}
use Rattle.std.specs.Int.{w64, to_le_bytes}
use Rattle.std.proofs.lemmas.List.{get_or-drop, get_or-take, get_or-append_right}
use Rattle.std.proofs.lemmas.Grind.{same_number_lists, get_or_default_zero}
use Rattle.packed_words.specs.Strings.{AreBytes, MayHold, counted, laid_out, word_in, words_of, string_words, bytes_of, string_in, IsString}
use Rattle.packed_words.specs.StringLaws.{length-words_of, length-string_words, count_is, is_string}

-- words that are those of a string are a string's
pub held_by : (w : ℕ) (bytes words : List ℕ) → MayHold w bytes → words ≡ string_words w bytes → IsString w words
held_by w bytes words h e = subst (IsString w) (sym e) (is_string w bytes h)

-- the words of two strings are the same exactly where the strings are
pub equal_strings : (w : ℕ) (xs ys : List ℕ) → IsString w xs → IsString w ys
    → pointwise nat_eq xs ys ≡ pointwise nat_eq (string_in xs) (string_in ys)
equal_strings w xs ys h g =
    let words = bytes_decides xs ys in
    let strings = bytes_decides (string_in xs) (string_in ys) in
    let spelled : string_in xs ≡ string_in ys → xs ≡ ys =
    λ same. h.spelled ∙ ap (string_words w) same ∙ sym g.spelled in
    one_answer (pointwise nat_eq xs ys) (pointwise nat_eq (string_in xs) (string_in ys)) words
    ((λ told. spelled (strings.0 told)), (λ same. strings.1 (ap string_in same)))

-- the number in the first word is the length of the string in the words
pub count_in : (w : ℕ) (words : List ℕ) → IsString w words → get_or words 0 0 % 2 ^ 16 ≡ length (string_in words)
count_in w words h = ap (λ (l : List ℕ). get_or l 0 0 % 2 ^ 16) h.spelled ∙ count_is w (string_in words) h.held

-- the bytes of a word, in front of others
low_byte : (n : ℕ) (rest : List ℕ) (j : ℕ) → j < 8 → get_or (to_le_bytes w64 n ++ rest) j 0 ≡ n / 2 ^ (8 * j) % 256
low_byte n rest zero p = omega arith
low_byte n rest (suc zero) p = refl
low_byte n rest (suc (suc zero)) p = refl
low_byte n rest (suc (suc (suc zero))) p = refl
low_byte n rest (suc (suc (suc (suc zero)))) p = refl
low_byte n rest (suc (suc (suc (suc (suc zero))))) p = refl
low_byte n rest (suc (suc (suc (suc (suc (suc zero)))))) p = refl
low_byte n rest (suc (suc (suc (suc (suc (suc (suc zero))))))) p = refl
low_byte n rest (suc (suc (suc (suc (suc (suc (suc (suc j)))))))) p = absurd (omega arith)

-- a byte of words stands in the word of its eight
byte_of : (words : List ℕ) (k j m : ℕ) → j < 8 → k < length words → m ≡ 8 * k + j
    → get_or (bytes_of words) m 0 ≡ get_or words k 0 / 2 ^ (8 * j) % 256
unfolding bytes_of
byte_of [] k j m small p e = absurd (omega arith)
byte_of (x ∷ words) zero j m small p e =
    let at : m ≡ j = omega arith in
    ap (λ (i : ℕ). get_or (to_le_bytes w64 x ++ bytes_of words) i 0) at ∙ low_byte x (bytes_of words) j small
byte_of (x ∷ words) (suc k) j m small p e =
    get_or-append_right (to_le_bytes w64 x) (bytes_of words) 8 m 0 refl (omega arith)
    ∙ byte_of words k j (m - 8) small (omega arith) (omega arith)

-- a byte of the string in words, as it is read
pub byte_in : (w : ℕ) (words : List ℕ) (i : ℕ) → IsString w words → i < length (string_in words)
    → get_or words ((i + 2) / 8) 0 / 2 ^ (8 * ((i + 2) % 8)) % 256 ≡ get_or (string_in words) i 0
unfolding string_in
byte_in w words i h p =
    let raw : List ℕ = bytes_of words in
    let n : ℕ = get_or words 0 0 % 2 ^ 16 in
    let n_is : n ≡ length (string_in words) = count_in w words h in
    let long : length words ≡ w = ap length h.spelled ∙ length-string_words w (string_in words) in
    let room : length (string_in words) + 2 ≤ 8 * w = h.held.0.1 in
    let below : i < n = omega arith in
    let within : (i + 2) / 8 < length words = omega arith in
    sym (get_or-take n (drop 2 raw) i 0 below ∙ get_or-drop 2 raw i 0
    ∙ byte_of words ((i + 2) / 8) ((i + 2) % 8) (2 + i) (omega arith) within (omega arith))

-- zeros behind bytes change no byte
pub padded : (xs : List ℕ) (m i : ℕ) → get_or (xs ++ replicate m 0) i 0 ≡ get_or xs i 0
padded [] zero i = refl
padded [] (suc m) zero = refl
padded [] (suc m) (suc i) = padded [] m i
padded (a ∷ xs) m zero = refl
padded (a ∷ xs) m (suc i) = padded xs m i

-- where all bytes are the same, so is a word
pub same_word : (xs ys : List ℕ) (k : ℕ) → ((i : ℕ) → get_or xs i 0 ≡ get_or ys i 0) → word_in xs k ≡ word_in ys k
same_word xs ys k e =
    omega (
      arith,
      e (8 * k + 0),
      e (8 * k + 1),
      e (8 * k + 2),
      e (8 * k + 3),
      e (8 * k + 4),
      e (8 * k + 5),
      e (8 * k + 6),
      e (8 * k + 7),
    )

-- one of the first eight bytes
first_of : (xs : List ℕ) (i : ℕ) → i < 8 → get_or (take 8 xs) i 0 ≡ get_or xs i 0
first_of xs i p = get_or-take 8 xs i 0 p

-- a byte behind the first eight
behind : (xs : List ℕ) (k i : ℕ) → get_or (drop 8 xs) (8 * k + i) 0 ≡ get_or xs (8 * suc k + i) 0
behind xs k i = get_or-drop 8 xs (8 * k + i) 0 ∙ ap (λ (m : ℕ). get_or xs m 0) (omega arith)

-- a word of bytes, by its place
pub word_of : (w : ℕ) (xs : List ℕ) (k : ℕ) → k < w → get_or (words_of w xs) k 0 ≡ word_in xs k
unfolding words_of
word_of zero xs k p = absurd (omega arith)
word_of (suc w) xs zero p =
    omega (
      arith,
      first_of xs 0 (omega arith),
      first_of xs 1 (omega arith),
      first_of xs 2 (omega arith),
      first_of xs 3 (omega arith),
      first_of xs 4 (omega arith),
      first_of xs 5 (omega arith),
      first_of xs 6 (omega arith),
      first_of xs 7 (omega arith),
    )
word_of (suc w) xs (suc k) p =
    let rest : get_or (words_of w (drop 8 xs)) k 0 ≡ word_in (drop 8 xs) k = word_of w (drop 8 xs) k (omega arith) in
    let next : word_in (drop 8 xs) k ≡ word_in xs (suc k) =
    omega (
      arith,
      behind xs k 0,
      behind xs k 1,
      behind xs k 2,
      behind xs k 3,
      behind xs k 4,
      behind xs k 5,
      behind xs k 6,
      behind xs k 7,
    ) in
    rest ∙ next

-- words that are each the one at its place are the string's
pub spelled_by : (w : ℕ) (bytes words : List ℕ) → length words ≡ w
    → ((k : ℕ) → k < w → get_or words k 0 ≡ word_in (counted bytes) k) → words ≡ string_words w bytes
unfolding string_words
spelled_by w bytes words long each =
    let zeros : ℕ = 8 * w - (length bytes + 2) in
    same_number_lists words (words_of w (laid_out w bytes)) (long ∙ sym (length-words_of w (laid_out w bytes)))
    (λ k p.
    let below : k < w = omega arith in
    each k below
    ∙ sym (word_of w (laid_out w bytes) k below ∙ same_word (laid_out w bytes) (counted bytes) k (padded (counted bytes) zeros)))

-- a list of bytes, each of which is one
pub all_bytes : (xs : List ℕ) → ((k : ℕ) → get_or xs k 0 < 256) → AreBytes xs
all_bytes xs each k d p = omega (arith, get_or_default_zero xs k d p, each k)

-- a byte of a string with its length in front, where it is the string's own
pub own_byte : (bytes : List ℕ) (at i : ℕ) → 0 < at
    → get_or bytes (8 * at - 2 + i) 0 ≡ get_or (counted bytes) (8 * at + i) 0
own_byte bytes at i p =
    let n : ℕ = length bytes in
    sym (get_or-append_right ((n % 256) ∷ (n / 256) ∷ []) bytes 2 (8 * at + i) 0 refl (omega arith)
    ∙ ap (λ (m : ℕ). get_or bytes m 0) (omega arith))
