-- Two lists, one behind the other.
use Rattle.std.specs.Prelude.{◌≡◌, List, ◌++◌, length}
use Rattle.std.proofs.Common.{ap, sym, ◌∙◌, take}
use Rattle.std.proofs.Math.Seq.{take-append_seam}
use Rattle.std.proofs.lemmas.List.{append_cancel_left}

-- where the first lists are of one length, what two lists make tells both
pub same_parts : {X : Type 0} (xs ys us vs : List X) → length xs ≡ length us → xs ++ ys ≡ us ++ vs
    → (xs ≡ us) × (ys ≡ vs)
same_parts xs ys us vs even whole =
    let first : xs ≡ us = sym (take-append_seam xs ys) ∙ ap (λ n. take n (xs ++ ys)) even
    ∙ ap (take (length us)) whole ∙ take-append_seam us vs in
    (first, append_cancel_left us ys vs (ap (λ l. l ++ ys) (sym first) ∙ whole))
