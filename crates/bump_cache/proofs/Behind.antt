-- What a get comes to where it goes on behind a glance.
use Rattle.std.proofs.Common.{Option, Some, None, IfSome, IfNone}

-- what follows of each value follows of an answer
pub some_then : {A : Type 0} (result : Option A) (Has Then : A → Type 0) → ((it : A) → Has it → Then it)
    → IfSome result Has → IfSome result Then
some_then (Some it) Has Then each has = each it has
some_then None Has Then each has = tt

-- and what follows where there is none
pub none_then : {A : Type 0} (result : Option A) (Has Then : Type 0) → (Has → Then) → IfNone result Has
    → IfNone result Then
none_then (Some it) Has Then each has = tt
none_then None Has Then each has = each has
