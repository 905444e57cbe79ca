-- Texts of lists, numbered.
use Rattle.std.proofs.Common.{◌≡◌, ℕ, ◌+◌, ◌<◌, List, [], ◌∷◌, ◌++◌, length, get_or, map, take, sym, ap, ◌∙◌, append_assoc, append-nil, arith}
use Rattle.std.proofs.lemmas.List.{length-map, length-take-le, map-append, take_more}
use Rattle.store_trace.specs.Reports.{numbered_text}

-- one more behind a list
pub numbered_push : {A : Type 0} (text : ℕ → A → List ℕ) (n : ℕ) (xs : List A) (x : A)
    → numbered_text text n (xs ++ x ∷ []) ≡ numbered_text text n xs ++ text (n + length xs) x
numbered_push text n [] x = append-nil (text n x) ∙ ap (λ (k : ℕ). text k x) (omega arith)
numbered_push text n (y ∷ xs) x =
    ap (λ (t : List ℕ). text n y ++ t) (numbered_push text (n + 1) xs x ∙ ap (λ (k : ℕ). numbered_text text (n + 1) xs ++ text k x) (omega arith))
    ∙ sym (append_assoc (text n y) (numbered_text text (n + 1) xs) (text (n + length (y ∷ xs)) x))

-- one more was told behind those of a list
pub told_more : {A : Type 0} (text : ℕ → A → List ℕ) (xs : List A) (x : A) (i : ℕ) (old before new : List ℕ) → length xs ≡ i
    → before ≡ old ++ numbered_text text 0 xs → new ≡ before ++ text i x → new ≡ old ++ numbered_text text 0 (xs ++ x ∷ [])
told_more text xs x i old before new count is more =
    let same : i ≡ 0 + length xs = omega arith in
    more ∙ ap (λ (t : List ℕ). t ++ text i x) is ∙ append_assoc old (numbered_text text 0 xs) (text i x)
    ∙ ap (λ (t : List ℕ). old ++ t) (ap (λ (k : ℕ). numbered_text text 0 xs ++ text k x) same ∙ sym (numbered_push text 0 xs x))

-- one more of a list was told, behind its first ones
pub told_next : {A : Type 0} (text : ℕ → A → List ℕ) (xs : List A) (i : ℕ) (d : A) (old before new : List ℕ) → i < length xs
    → before ≡ old ++ numbered_text text 0 (take i xs) → new ≡ before ++ text i (get_or xs i d) → new ≡ old ++ numbered_text text 0 (take (i + 1) xs)
told_next text xs i d old before new inside is more =
    told_more text (take i xs) (get_or xs i d) i old before new (length-take-le i xs (omega arith)) is more
    ∙ ap (λ ys. old ++ numbered_text text 0 ys) (sym (take_more xs i d inside))

-- the first ones of a list, and the next one
take_next : {A : Type 0} (xs : List A) (i : ℕ) (x : A) → i < length xs → x ≡ get_or xs i x → take (i + 1) xs ≡ take i xs ++ x ∷ []
take_next xs i x inside at = take_more xs i x inside ∙ ap (λ y. take i xs ++ y ∷ []) (sym at)

-- the same, of what is told of each of a list
pub told_next_of : {A B : Type 0} (text : ℕ → B → List ℕ) (told : A → B) (xs : List A) (i : ℕ) (x : A) (old before new : List ℕ) → i < length xs
    → x ≡ get_or xs i x → before ≡ old ++ numbered_text text 0 (map told (take i xs)) → new ≡ before ++ text i (told x)
    → new ≡ old ++ numbered_text text 0 (map told (take (i + 1) xs))
told_next_of text told xs i x old before new inside at is more =
    told_more text (map told (take i xs)) (told x) i old before new (length-map (take i xs) told ∙ length-take-le i xs (omega arith)) is more
    ∙ ap (λ ys. old ++ numbered_text text 0 ys) (sym (ap (map told) (take_next xs i x inside at) ∙ map-append told (take i xs) (x ∷ [])))
