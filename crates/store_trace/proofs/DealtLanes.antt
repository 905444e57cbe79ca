-- What is dealt in turn and gathered in turn stays in order.
use Rattle.std.proofs.Common.{◌≡◌, ℕ, zero, suc, ◌+◌, ◌-◌, ◌<◌, List, [], ◌∷◌, ◌++◌, sym, ap, ◌∙◌, append_assoc, arith}
use Rattle.std.specs.List.{AllZip}
use Rattle.store_trace.specs.Dealing.{in_turn}
use Rattle.store_trace.proofs.InTurn.{zip_push}

-- one more was dealt: the last of those that were left
pub dealt_more : {A : Type 0} (before left : List A) (x : A) (n : ℕ) (old new : List (List A)) (all : List A) → before ≡ left ++ x ∷ []
    → before ++ in_turn n old ≡ all → ((k : ℕ) → in_turn (suc k) new ≡ x ∷ in_turn k old) → left ++ in_turn (suc n) new ≡ all
dealt_more before left x n old new all last is_all step =
    ap (λ xs. left ++ xs) (step n) ∙ sym (append_assoc left (x ∷ []) (in_turn n old)) ∙ sym (ap (λ xs. xs ++ in_turn n old) last) ∙ is_all

-- one more was gathered
pub gathered_more : {A : Type 0} (before done : List A) (x : A) (count i : ℕ) (old new : List (List A)) (all : List A) → done ≡ before ++ x ∷ []
    → i < count → before ++ in_turn (count - i) old ≡ all → ((k : ℕ) → in_turn (suc k) old ≡ x ∷ in_turn k new)
    → done ++ in_turn (count - (i + 1)) new ≡ all
gathered_more before done x count i old new all last inside is_all step =
    let one_less : count - i ≡ suc (count - (i + 1)) = omega arith in
    ap (λ xs. xs ++ in_turn (count - (i + 1)) new) last ∙ append_assoc before (x ∷ []) (in_turn (count - (i + 1)) new)
    ∙ ap (λ xs. before ++ xs) (sym (step (count - (i + 1))) ∙ ap (λ n. in_turn n old) (sym one_less)) ∙ is_all

-- where the groups' elements go together, so do those that they have in turn
pub in_turn_zip : {A : Type 0} (R : A → A → Type 0) (n : ℕ) (gs hs : List (List A)) → AllZip (AllZip R) gs hs → AllZip R (in_turn n gs) (in_turn n hs)
in_turn_zip R zero gs hs each = tt
in_turn_zip R (suc n) [] [] each = tt
in_turn_zip R (suc n) [] (h ∷ hs) each = absurd each
in_turn_zip R (suc n) (g ∷ gs) [] each = absurd each
in_turn_zip R (suc n) ([] ∷ gs) ([] ∷ hs) each = tt
in_turn_zip R (suc n) ([] ∷ gs) ((y ∷ ys) ∷ hs) each = absurd each.0
in_turn_zip R (suc n) ((x ∷ xs) ∷ gs) ([] ∷ hs) each = absurd each.0
in_turn_zip R (suc n) ((x ∷ xs) ∷ gs) ((y ∷ ys) ∷ hs) each =
    (each.0.0, in_turn_zip R n (gs ++ xs ∷ []) (hs ++ ys ∷ []) (zip_push (AllZip R) gs hs xs ys each.1 each.0.1))
