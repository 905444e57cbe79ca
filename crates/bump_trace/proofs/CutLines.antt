-- The parts between line feeds.
use Rattle.std.proofs.Common.{◌≡◌, ℕ, ◌+◌, ◌<◌, ◌≤◌, ◌==◌, Bool, true, false, cond, List, [], ◌∷◌, length, take, drop, Some, None, refl, ap, ◌∙◌, inl, inr, arith}
use Rattle.std.specs.List.{position_or_len, position, onto_first}
use Rattle.std.proofs.lemmas.Bool.{cases_Bool, ltb-true, ltb-false}
use Rattle.std.proofs.lemmas.List.Splits.{slice_split-cons_no, slice_split_first, length-slice_split}
use Rattle.bump_trace.specs.Stages.{Stage}
use Rattle.bump_trace.specs.Meaning.{parts_of, run, go_on, step}

-- a line feed
abbrev is_feed : ℕ → Bool
is_feed b = b == 10

-- without a line feed all is one part
parts_whole : (bs : List ℕ) → length bs ≤ position_or_len is_feed bs → parts_of bs ≡ bs ∷ []
parts_whole [] h = refl
parts_whole (b ∷ bs) h = elim (cases_Bool (is_feed b)) [
  | inl e ↦ let bad = rw e at h in absurd (omega arith)
  | inr e ↦ let more = rw e at h in slice_split-cons_no is_feed b bs e ∙ ap (onto_first b) (parts_whole bs (omega arith))
]

-- nothing was found
which : (b : Bool) (n : ℕ) → None ≡ cond b (Some n) None → b ≡ false
which true n e = cc
which false n e = refl

-- it was found there
where_at : (b : Bool) (m n : ℕ) → Some m ≡ cond b (Some n) None → (b ≡ true) × (m ≡ n)
where_at true m n e = (refl, cc)
where_at false m n e = cc

-- where no line feed is found all is one part
pub parts_at_none : (bs : List ℕ) → None ≡ position is_feed bs → parts_of bs ≡ bs ∷ []
parts_at_none bs e = parts_whole bs (ltb-false _ _ (which _ _ e))

-- where one is found the first part stands before it, and the others behind
pub parts_at_some : (bs : List ℕ) (end : ℕ) → Some end ≡ position is_feed bs → (parts_of bs ≡ take end bs ∷ parts_of (drop (end + 1) bs)) × (end < length bs)
parts_at_some bs end e =
    let at = where_at _ _ _ e in
    let below : position_or_len is_feed bs < length bs = ltb-true _ _ at.0 in
    (rw at.1 (slice_split_first is_feed bs 0 below), rw at.1 below)

-- a line with more parts behind it
run_parts : (n : ℕ) (line : List ℕ) (parts : List (List ℕ)) (s : Stage) → 0 < length parts → run n (line ∷ parts) s ≡ go_on n (run (n + 1) parts) (step s n line)
run_parts n line [] s h = absurd (omega arith)
run_parts n line (next ∷ parts) s h = refl

-- a line with more behind it
pub run_more : (n : ℕ) (line bytes : List ℕ) (s : Stage) → run n (line ∷ parts_of bytes) s ≡ go_on n (run (n + 1) (parts_of bytes)) (step s n line)
run_more n line bytes s = run_parts n line (parts_of bytes) s (omega (arith, length-slice_split is_feed bytes))
