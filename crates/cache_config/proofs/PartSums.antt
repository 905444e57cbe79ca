-- Sums over the parts, as far as a count goes.
use Rattle.std.proofs.Common.{◌≡◌, ℕ, ◌+◌, ◌<◌, List, [], ◌∷◌, length, take, get_or, Some, refl, sym, ap, ◌∙◌, subst, arith}
use native.Mathlib.Decide.{ℕ_discrete}
use Rattle.std.specs.List.{slice_get, sum_by}
use Rattle.std.proofs.lemmas.Option.{get_or_from_slice_get, slice_get_read}
use Rattle.std.proofs.lemmas.List.{take_more}
use Rattle.std.proofs.lemmas.List.Sums.{sum_by-append}
use Rattle.bump_rules.specs.declared.bumps.Accounts.{Accounts}
use Rattle.cache_lists.specs.Counts.{capped}
use Rattle.cache_readers.specs.Readers.{ReaderView}
use Rattle.cache_config.specs.Sums.{bumps_of}

-- one more of the list, as far as the count goes
pub capped_next : {X : Type 0} (f : X → ℕ) (xs : List X) (i : ℕ) (x : X) (so_far : ℕ) → i < length xs
    → get_or xs i x ≡ x → so_far ≡ capped (sum_by f (take i xs))
    → capped (so_far + f x) ≡ capped (sum_by f (take (i + 1) xs))
capped_next f xs i x so_far within at is =
    let next : sum_by f (take (i + 1) xs) ≡ sum_by f (take i xs) + sum_by f (get_or xs i x ∷ []) =
    ap (sum_by f) (take_more xs i x within) ∙ sum_by-append f (take i xs) (get_or xs i x ∷ []) in
    let one : f (get_or xs i x) ≡ f x = ap f at in
    omega (arith, next, one, is)

-- accounts, by their numbers
abbrev both_accounts : ℕ → ℕ → ℕ → ℕ → ℕ → Accounts
both_accounts attempted accepted full busy refs = record {
  attempted = attempted;
  accepted = accepted;
  full = full;
  busy = busy;
  refs = refs;
}

-- accounts of the same numbers are the same
same_accounts : (a b c d e a' b' c' d' e' : ℕ) → a ≡ a' → b ≡ b' → c ≡ c' → d ≡ d' → e ≡ e'
    → both_accounts a b c d e ≡ both_accounts a' b' c' d' e'
same_accounts a b c d e a' b' c' d' e' one two three four five =
    ap (λ n. both_accounts n b c d e) one
    ∙ (ap (λ n. both_accounts a' n c d e) two
    ∙ (ap (λ n. both_accounts a' b' n d e) three
    ∙ (ap (λ n. both_accounts a' b' c' n e) four ∙ ap (λ n. both_accounts a' b' c' d' n) five)))

-- the accounts of one part more
pub bumps_next : (parts : List ReaderView) (i : ℕ) (x : ReaderView) (so_far own : Accounts) → i < length parts
    → get_or parts i x ≡ x → so_far ≡ bumps_of (take i parts) → own ≡ x.worker.sheet.accounts
    → both_accounts (capped (so_far.attempted + own.attempted)) (capped (so_far.accepted + own.accepted))
    (capped (so_far.full + own.full)) (capped (so_far.busy + own.busy)) (capped (so_far.refs + own.refs))
    ≡ bumps_of (take (i + 1) parts)
bumps_next parts i x so_far own within at is own_is = same_accounts _ _ _ _ _ _ _ _ _ _
    (ap (λ n. capped (so_far.attempted + n)) (ap (λ (a : Accounts). a.attempted) own_is)
    ∙ capped_next (λ (part : ReaderView). part.worker.sheet.accounts.attempted) parts i x so_far.attempted within at
    (ap (λ (a : Accounts). a.attempted) is))
    (ap (λ n. capped (so_far.accepted + n)) (ap (λ (a : Accounts). a.accepted) own_is)
    ∙ capped_next (λ (part : ReaderView). part.worker.sheet.accounts.accepted) parts i x so_far.accepted within at
    (ap (λ (a : Accounts). a.accepted) is))
    (ap (λ n. capped (so_far.full + n)) (ap (λ (a : Accounts). a.full) own_is)
    ∙ capped_next (λ (part : ReaderView). part.worker.sheet.accounts.full) parts i x so_far.full within at
    (ap (λ (a : Accounts). a.full) is))
    (ap (λ n. capped (so_far.busy + n)) (ap (λ (a : Accounts). a.busy) own_is)
    ∙ capped_next (λ (part : ReaderView). part.worker.sheet.accounts.busy) parts i x so_far.busy within at
    (ap (λ (a : Accounts). a.busy) is))
    (ap (λ n. capped (so_far.refs + n)) (ap (λ (a : Accounts). a.refs) own_is)
    ∙ capped_next (λ (part : ReaderView). part.worker.sheet.accounts.refs) parts i x so_far.refs within at
    (ap (λ (a : Accounts). a.refs) is))

-- what holds of the first parts and of this one holds of one more
pub each_next : (Holds : ReaderView → Type 0) (parts : List ReaderView) (i : ℕ) (x : ReaderView) → i < length parts
    → get_or parts i x ≡ x → ((k : ℕ) (none : ReaderView) → k < i → Holds (get_or parts k none)) → Holds x
    → (k : ℕ) (none : ReaderView) → k < i + 1 → Holds (get_or parts k none)
each_next Holds parts i x within at before own k none low = by (ℕ_discrete k i)
  where
    by : Dec (k ≡ i) → Holds (get_or parts k none)
    by (yes same) =
        let had : slice_get parts i ≡ Some x = slice_get_read parts (length parts) i x refl within (sym at) in
        let is : get_or parts k none ≡ x =
        ap (λ n. get_or parts n none) same ∙ get_or_from_slice_get parts i x none had in
        subst Holds (sym is) own
    by (no unlike) = before k none (omega (arith, low, unlike))
