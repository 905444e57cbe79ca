-- The words of a string tell the string.
use Rattle.std.proofs.Common.{◌≡◌, ℕ, zero, suc, ◌+◌, ◌-◌, ◌*◌, ◌/◌, ◌%◌, ◌^◌, ◌<◌, List, [], ◌∷◌, ◌++◌, length}
use Rattle.std.proofs.Common.{take, drop, get_or, refl, sym, ap, ap₂, ◌∙◌, subst, arith, length-append, length-drop}
use Rattle.std.specs.Prelude.{replicate, All}
use Rattle.std.specs.Int.{w64, from_le_bytes, to_le_bytes}
use Rattle.std.proofs.Math.Seq.{take-append_seam}
use Rattle.std.proofs.lemmas.Nat.{le_bytes_8}
use Rattle.std.proofs.lemmas.List.{get_or-drop, take-append-drop, length-take-le, length-replicate}
use Rattle.packed_words.specs.Strings.{AreBytes, MayHold, counted, laid_out, words_of, string_words, bytes_of, string_in, IsString}

-- each number of a list is a byte, and what is read past its end is one, too
abbrev pub EachByte : List ℕ → Type 0
EachByte xs = (k : ℕ) → get_or xs k 0 < 256

-- so are those of a list of bytes
each_of_all : (xs : List ℕ) → AreBytes xs → EachByte xs
each_of_all [] h k = omega arith
each_of_all (a ∷ xs) h zero = h zero 0 (omega arith)
each_of_all (a ∷ xs) h (suc k) = each_of_all xs (λ i d p. h (suc i) d (omega arith)) k

-- two such lists, one behind the other
each_append : (xs ys : List ℕ) → EachByte xs → EachByte ys → EachByte (xs ++ ys)
each_append [] ys e f k = f k
each_append (a ∷ xs) ys e f zero = e zero
each_append (a ∷ xs) ys e f (suc k) = each_append xs ys (λ i. e (suc i)) f k

-- zeros are bytes
each_zero : (n : ℕ) → EachByte (replicate n 0)
each_zero zero k = omega arith
each_zero (suc n) zero = omega arith
each_zero (suc n) (suc k) = each_zero n k

-- the first of such a list
each_take : (n : ℕ) (xs : List ℕ) → EachByte xs → EachByte (take n xs)
each_take zero xs e k = omega arith
each_take (suc n) [] e k = omega arith
each_take (suc n) (a ∷ xs) e zero = e zero
each_take (suc n) (a ∷ xs) e (suc k) = each_take n xs (λ i. e (suc i)) k

-- all but the first of such a list
each_drop : (n : ℕ) (xs : List ℕ) → EachByte xs → EachByte (drop n xs)
each_drop n xs e k = rw get_or-drop (e (n + k))

-- a string with its length in front
each_counted : (bytes : List ℕ) → length bytes < 2 ^ 16 → AreBytes bytes → EachByte (counted bytes)
each_counted bytes short h zero = omega arith
each_counted bytes short h (suc zero) = omega arith
each_counted bytes short h (suc (suc k)) = each_of_all bytes h k

-- what is laid out are bytes
pub each_laid_out : (w : ℕ) (bytes : List ℕ) → MayHold w bytes → EachByte (laid_out w bytes)
each_laid_out w bytes h =
    let n : ℕ = length bytes in
    each_append (counted bytes) (replicate (8 * w - (n + 2)) 0) (each_counted bytes (omega arith) h.1) (each_zero (8 * w - (n + 2)))

-- and they fill the words
pub length-laid_out : (w : ℕ) (bytes : List ℕ) → MayHold w bytes → length (laid_out w bytes) ≡ 8 * w
length-laid_out w bytes h =
    let zeros : ℕ = 8 * w - (length bytes + 2) in
    omega (arith, length-append bytes (replicate zeros 0), length-replicate {A = ℕ} zeros 0)

-- there are w words
pub length-words_of : (w : ℕ) (xs : List ℕ) → length (words_of w xs) ≡ w
unfolding words_of
length-words_of zero xs = refl
length-words_of (suc w) xs = omega (arith, length-words_of w (drop 8 xs))

-- eight bytes make a word
word_below : (xs : List ℕ) → EachByte xs → from_le_bytes w64 xs < 2 ^ 64
word_below xs e = omega (arith, e 0, e 1, e 2, e 3, e 4, e 5, e 6, e 7)

-- each word of bytes is one
words_below : (w : ℕ) (xs : List ℕ) → EachByte xs → All (λ n. n < 2 ^ 64) (words_of w xs)
unfolding words_of
words_below zero xs e k d p = absurd (omega arith)
words_below (suc w) xs e zero d p = word_below (take 8 xs) (each_take 8 xs e)
words_below (suc w) xs e (suc k) d p = words_below w (drop 8 xs) (each_drop 8 xs e) k d (omega arith)

-- the bytes of the words of bytes are these bytes
bytes_back : (w : ℕ) (xs : List ℕ) → length xs ≡ 8 * w → EachByte xs → bytes_of (words_of w xs) ≡ xs
unfolding words_of bytes_of
bytes_back zero [] long e = refl
bytes_back zero (a ∷ xs) long e = absurd (omega arith)
bytes_back (suc w) xs long e =
    let eight : length (take 8 xs) ≡ 8 = length-take-le 8 xs (omega arith) in
    let front : to_le_bytes w64 (from_le_bytes w64 (take 8 xs)) ≡ take 8 xs =
    le_bytes_8 (take 8 xs) (from_le_bytes w64 (take 8 xs)) eight (each_take 8 xs e) refl in
    let rest : length (drop 8 xs) ≡ 8 * w = omega (arith, length-drop 8 xs) in
    ap₂ (λ a b. a ++ b) front (bytes_back w (drop 8 xs) rest (each_drop 8 xs e)) ∙ take-append-drop 8 xs

-- the first word's lower half of a half is what the first two bytes make
first_word : (w a b : ℕ) (xs : List ℕ) → a < 256 → b < 256
    → get_or (words_of (suc w) (a ∷ b ∷ xs)) 0 0 % 2 ^ 16 ≡ a + 256 * b
unfolding words_of
first_word w a b xs a_fits b_fits = omega arith

-- the number in the first word is the string's length
pub count_is : (w : ℕ) (bytes : List ℕ) → MayHold w bytes → get_or (string_words w bytes) 0 0 % 2 ^ 16 ≡ length bytes
unfolding string_words
count_is zero bytes h = absurd (omega arith)
count_is (suc w) bytes h =
    let n : ℕ = length bytes in
    first_word w (n % 256) (n / 256) (bytes ++ replicate (8 * suc w - (n + 2)) 0) (omega arith) (omega arith) ∙ omega arith

-- the string in the words of a string is that string
pub string_back : (w : ℕ) (bytes : List ℕ) → MayHold w bytes → string_in (string_words w bytes) ≡ bytes
unfolding string_words string_in
string_back w bytes h =
    let n : ℕ = length bytes in
    let raw : bytes_of (words_of w (laid_out w bytes)) ≡ laid_out w bytes =
    bytes_back w (laid_out w bytes) (length-laid_out w bytes h) (each_laid_out w bytes h) in
    ap₂ (λ m l. take m (drop 2 l)) (count_is w bytes h) raw ∙ take-append_seam bytes (replicate (8 * w - (n + 2)) 0)

-- a string has as many words as its type
pub length-string_words : (w : ℕ) (bytes : List ℕ) → length (string_words w bytes) ≡ w
unfolding string_words
length-string_words w bytes = length-words_of w (laid_out w bytes)

-- each of them is a word
pub string_words_fit : (w : ℕ) (bytes : List ℕ) → MayHold w bytes → All (λ n. n < 2 ^ 64) (string_words w bytes)
unfolding string_words
string_words_fit w bytes h = words_below w (laid_out w bytes) (each_laid_out w bytes h)

-- two strings with the same words are the same string
pub one_string : (w : ℕ) (xs ys : List ℕ) → MayHold w xs → MayHold w ys → string_words w xs ≡ string_words w ys → xs ≡ ys
one_string w xs ys p q e = sym (string_back w xs p) ∙ ap string_in e ∙ string_back w ys q

-- the words of a string are those of a string
pub is_string : (w : ℕ) (bytes : List ℕ) → MayHold w bytes → IsString w (string_words w bytes)
is_string w bytes h =
    let back : string_in (string_words w bytes) ≡ bytes = string_back w bytes h in
    record {
      held = subst (MayHold w) (sym back) h;
      spelled = ap (string_words w) (sym back);
    }
