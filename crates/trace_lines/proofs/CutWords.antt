-- The words between spaces.
use Rattle.std.proofs.Common.{◌≡◌, ℕ, ◌+◌, ◌<◌, ◌≤◌, ◌==◌, Bool, true, false, cond, List, [], ◌∷◌, length, take, drop, Some, None, refl, ap, ◌∙◌, inl, inr, arith}
use Rattle.std.specs.List.{position_or_len, position, onto_first}
use Rattle.std.proofs.lemmas.Bool.{cases_Bool, ltb-true, ltb-false}
use Rattle.std.proofs.lemmas.Bool.Decides.{nat_tests}
use Rattle.std.proofs.lemmas.List.Splits.{slice_split-cons_no, slice_split_first, length-slice_split}
use Rattle.trace_lines.specs.Lines.{split_at_spaces}

-- a space
abbrev is_space : ℕ → Bool
is_space b = b == 32

-- without a space all is one word
words_whole : (bs : List ℕ) → length bs ≤ position_or_len is_space bs → split_at_spaces bs ≡ bs ∷ []
words_whole [] h = refl
words_whole (b ∷ bs) h = elim (cases_Bool (is_space b)) [
  | inl e ↦ let bad = rw e at h in absurd (omega arith)
  | inr e ↦ let more = rw e at h in slice_split-cons_no is_space b bs e ∙ ap (onto_first b) (words_whole bs (omega arith))
]

-- nothing was found
which : (b : Bool) (n : ℕ) → None ≡ cond b (Some n) None → b ≡ false
which true n e = cc
which false n e = refl

-- it was found there
where_at : (b : Bool) (m n : ℕ) → Some m ≡ cond b (Some n) None → (b ≡ true) × (m ≡ n)
where_at true m n e = (refl, cc)
where_at false m n e = cc

-- where no space is found all is one word
pub words_at_none : (bs : List ℕ) → None ≡ position is_space bs → split_at_spaces bs ≡ bs ∷ []
words_at_none bs e = words_whole bs (ltb-false _ _ (which _ _ e))

-- where one is found the first word stands before it, and the others behind
pub words_at_some : (bs : List ℕ) (end : ℕ) → Some end ≡ position is_space bs → (split_at_spaces bs ≡ take end bs ∷ split_at_spaces (drop (end + 1) bs)) × (end < length bs)
words_at_some bs end e =
    let at = where_at _ _ _ e in
    let below : position_or_len is_space bs < length bs = ltb-true _ _ at.0 in
    (rw at.1 (slice_split_first is_space bs 0 below), rw at.1 below)

-- there is at least one word
pub some_word : (bs : List ℕ) → (length (split_at_spaces bs) == 0) ≡ false
some_word bs = rw length-slice_split (grind (arith, nat_tests))
