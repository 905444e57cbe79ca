-- The hits of a text, line by line.
use Rattle.std.proofs.Common.{◌≡◌, ◌<◌, ℕ, ◌==◌, List, [], ◌∷◌, length, refl, arith}
use Rattle.std.proofs.lemmas.List.Splits.{length-slice_split}
use Rattle.bump_trace.specs.Meaning.{parts_of}
use Rattle.replay_runs.specs.Counting.{hits_of_lines, with_line}
use Rattle.replay_runs.specs.declared.counting.HitCounts.{HitCounts}

-- a line with more parts behind it
hits_from-parts : (hits : HitCounts) (line : List ℕ) (parts : List (List ℕ)) → 0 < length parts → hits_of_lines hits (line ∷ parts) ≡ hits_of_lines (with_line line hits) parts
hits_from-parts hits line [] h = absurd (omega arith)
hits_from-parts hits line (next ∷ parts) h = refl

-- a line with more behind it
pub hits_from-line : (hits : HitCounts) (line bytes : List ℕ) → hits_of_lines hits (line ∷ parts_of bytes) ≡ hits_of_lines (with_line line hits) (parts_of bytes)
hits_from-line hits line bytes =
    hits_from-parts hits line (parts_of bytes) (omega (arith, length-slice_split (λ b. b == 10) bytes))
