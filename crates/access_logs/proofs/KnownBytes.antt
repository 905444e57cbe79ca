-- Lemmas on a reader whose bytes are known.
use Rattle.std.proofs.Common.{◌≡◌, ℕ, List, [], sym, ap, ◌∙◌}
use Rattle.std.specs.Prelude.{Option, None, Some, IfSome, ◌==◌, if◌then◌else◌}
use Rattle.std.specs.Io.Buffered.{reader_remaining, reader_buffer, reader_capacity, reader_inner}
use Rattle.std.specs.Io.KnownBytes.{prepend_known, Keeps, Consumes}
use Rattle.std.specs.declared.io.buffered.BufReader.{BufReader}
use Rattle.std.proofs.KnownBytes.{prepend_known-nil}

-- what follows of known bytes
pub if_known : {A : Type 0} (known : Option A) (P Q : A → Type 0) → ((bytes : A) → P bytes → Q bytes) → IfSome known P → IfSome known Q
if_known None P Q follows p = tt
if_known (Some bytes) P Q follows p = follows bytes p

-- what holds of any bytes holds of known ones
pub if_any : {A : Type 0} (known : Option A) (Q : A → Type 0) → ((bytes : A) → Q bytes) → IfSome known Q
if_any None Q all = tt
if_any (Some bytes) Q all = all bytes

-- a buffer that nothing was read into leaves the bytes
pub fresh : {T A : Type 0} (remaining : T → Option (List ℕ)) (reader : BufReader T A) (source : T) → reader_inner reader ≡ source → reader_buffer reader ≡ []
    → reader_capacity reader ≡ 1048576 → reader_remaining remaining reader ≡ remaining source
fresh remaining reader source inner empty capacity =
    ap (λ n. if n == 0 then None else prepend_known (reader_buffer reader) (remaining (reader_inner reader))) capacity
    ∙ ap (λ bytes. prepend_known bytes (remaining (reader_inner reader))) empty ∙ prepend_known-nil (remaining (reader_inner reader)) ∙ ap remaining inner

-- a read behind one that took nothing
pub Consumes-behind : (a b c : Option (List ℕ)) (bytes : List ℕ) → Keeps a b → Consumes b c bytes → Consumes a c bytes
Consumes-behind None b c bytes p q = tt
Consumes-behind (Some x) None c bytes p q = absurd p
Consumes-behind (Some x) (Some y) None bytes p q = absurd q
Consumes-behind (Some x) (Some y) (Some z) bytes p q = sym p ∙ q
