-- The words of a string tell the string.
use Rattle.std.proofs.Common.{◌≡◌, ℕ, zero, suc, ◌-◌, ◌*◌, ◌<◌, ◌≤◌, List, [], ◌∷◌, ◌++◌, length}
use Rattle.std.proofs.Common.{take, drop, refl, sym, ap, ap₂, ◌∙◌, arith, length-append, length-drop}
use Rattle.std.specs.Prelude.{replicate, slice_index}
use Rattle.std.specs.Int.{w64, from_le_bytes, to_le_bytes}
use Rattle.std.proofs.Math.Seq.{take-append_seam}
use Rattle.std.proofs.lemmas.Nat.{le_bytes_8}
use Rattle.std.proofs.lemmas.List.{take-append-drop, length-take-le, length-replicate}
use Rattle.std.proofs.lemmas.List.Elements.{All-tail, All-append, All-replicate, All-take, All-drop}
use Rattle.packed_words.specs.Strings.{AreBytes, words_of, bytes_of}
use Rattle.packed_words.specs.StringLaws.{EachByte, length-words_of}
use Rattle.packed_words.specs.Spelling.{words_for, filled, long_string}

-- a byte
abbrev IsByte : ℕ → Type 0
IsByte b = b < 256

-- what is read past the end of bytes is a byte, too
each_byte : (xs : List ℕ) → AreBytes xs → EachByte xs
each_byte [] h k = omega arith
each_byte (a ∷ xs) h zero = h zero 0 (omega arith)
each_byte (a ∷ xs) h (suc k) = each_byte xs (All-tail IsByte a xs h) k

-- bytes stay bytes when they are filled up with zeros
filled_bytes : (n : ℕ) (bytes : List ℕ) → AreBytes bytes → AreBytes (filled n bytes)
filled_bytes n bytes h =
    let zeros : ℕ = 8 * n - length bytes in
    All-append IsByte bytes (replicate zeros 0) h (All-replicate IsByte zeros 0 (omega arith))

-- and they fill the words
length-filled : (n : ℕ) (bytes : List ℕ) → length bytes ≤ 8 * n → length (filled n bytes) ≡ 8 * n
length-filled n bytes room =
    let zeros : ℕ = 8 * n - length bytes in
    omega (arith, length-append bytes (replicate zeros 0), length-replicate {A = ℕ} zeros 0)

-- the bytes of the words of bytes are these bytes
bytes_back : (n : ℕ) (xs : List ℕ) → length xs ≡ 8 * n → AreBytes xs → bytes_of (words_of n xs) ≡ xs
unfolding words_of bytes_of
bytes_back zero [] long h = refl
bytes_back zero (a ∷ xs) long h = absurd (omega arith)
bytes_back (suc n) xs long h =
    let eight : length (take 8 xs) ≡ 8 = length-take-le 8 xs (omega arith) in
    let bytes : EachByte (take 8 xs) = each_byte (take 8 xs) (All-take IsByte 8 xs h) in
    let front : to_le_bytes w64 (from_le_bytes w64 (take 8 xs)) ≡ take 8 xs =
    le_bytes_8 (take 8 xs) (from_le_bytes w64 (take 8 xs)) eight bytes refl in
    let rest : length (drop 8 xs) ≡ 8 * n = omega (arith, length-drop 8 xs) in
    ap₂ (λ a b. a ++ b) front (bytes_back n (drop 8 xs) rest (All-drop IsByte 8 xs h)) ∙ take-append-drop 8 xs

-- a string has as many words as it is given
pub length-long_string : (w : ℕ) (bytes : List ℕ) → 0 < w → length (long_string w bytes) ≡ w
unfolding long_string
length-long_string w bytes some = omega (arith, length-words_of (w - 1) (filled (w - 1) bytes))

-- the first word is the length
pub long_string_count : (w : ℕ) (bytes : List ℕ) → slice_index (long_string w bytes) 0 ≡ length bytes
unfolding long_string
long_string_count w bytes = refl

-- the bytes behind the first word are the string, as far as its length goes
pub long_string_back : (w : ℕ) (bytes : List ℕ) → words_for (length bytes) ≤ w → AreBytes bytes
    → take (length bytes) (bytes_of (drop 1 (long_string w bytes))) ≡ bytes
unfolding long_string
long_string_back w bytes room h =
    let n : ℕ = w - 1 in
    let long : length (filled n bytes) ≡ 8 * n = length-filled n bytes (omega arith) in
    let raw : bytes_of (words_of n (filled n bytes)) ≡ filled n bytes =
    bytes_back n (filled n bytes) long (filled_bytes n bytes h) in
    ap (take (length bytes)) raw ∙ take-append_seam bytes (replicate (8 * n - length bytes) 0)

-- two strings with the same words are the same string
pub one_long_string : (w : ℕ) (xs ys : List ℕ) → words_for (length xs) ≤ w → words_for (length ys) ≤ w
    → AreBytes xs → AreBytes ys → long_string w xs ≡ long_string w ys → xs ≡ ys
one_long_string w xs ys p q g h e =
    let told : List ℕ → List ℕ = λ words. take (slice_index words 0) (bytes_of (drop 1 words)) in
    let back : (bytes : List ℕ) → words_for (length bytes) ≤ w → AreBytes bytes → told (long_string w bytes) ≡ bytes =
    λ bytes room are.
    let words : List ℕ = long_string w bytes in
    ap (λ (n : ℕ). take n (bytes_of (drop 1 words))) (long_string_count w bytes) ∙ long_string_back w bytes room are in
    sym (back xs p g) ∙ ap told e ∙ back ys q h
