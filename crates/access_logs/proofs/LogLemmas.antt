-- Lemmas on a log that was read.
use Rattle.std.proofs.Common.{◌≡◌, refl, ℕ, ◌<◌, Bool, true, false, ◌&&◌, List, [], ◌∷◌, map, All, length, sym, subst, ◌∙◌, true≢false}
use Rattle.std.specs.Prelude.{Option, None, Some, Result, Ok, Err, IfOk, IfErr, IfSome, bytes_eq}
use Rattle.std.specs.List.{list_all, AllByRecursion}
use Rattle.std.proofs.lemmas.List.Elements.{All-from_recursion}
use Rattle.access_logs.specs.Drafts.{IsLogOf}
use Rattle.access_logs.specs.Entries.{Said, keys_in}
use Rattle.access_logs.specs.Keys.{is_among, distinct, number_among, numbers_of}
use Rattle.access_logs.specs.declared.log.Log.{Log}
use Rattle.access_logs.specs.declared.log.LogFault.{LogFault}
use Rattle.access_logs.proofs.EntryLemmas.{unreadable_in-zero}
use Rattle.access_logs.proofs.KeyLemmas.{all_among, position_or_len-present}

-- the number of a key that is there is below how many there are
pub numbers-below : (seen keys : List (List ℕ)) → list_all (is_among seen) keys ≡ true → AllByRecursion (λ number. number < length seen) (map (number_among seen) keys)
numbers-below seen [] all = tt
numbers-below seen (key ∷ keys) all = by (is_among seen key) refl all (numbers-below seen keys)
  where
    by : (b : Bool) → is_among seen key ≡ b → (b && list_all (is_among seen) keys) ≡ true
        → (list_all (is_among seen) keys ≡ true → AllByRecursion (λ number. number < length seen) (map (number_among seen) keys))
        → AllByRecursion (λ number. number < length seen) (map (number_among seen) (key ∷ keys))
    by false is none rest = absurd (true≢false (sym none))
    by true is some rest = (position_or_len-present (bytes_eq key) seen is, rest some)

-- the same of a log
pub below : (strict : Bool) (first : ℕ) (entries : List Said) (log : Log) → IsLogOf strict first entries log → All (λ number. number < log.keys) log.accesses.items
below strict first entries log is =
    let keys = keys_in entries in
    subst (λ numbers. All (λ number. number < log.keys) numbers) (sym is.accesses)
    (subst (λ count. All (λ number. number < count) (numbers_of keys)) (sym is.keys)
    (All-from_recursion (λ number. number < length (distinct keys)) (numbers_of keys) (numbers-below (distinct keys) keys (all_among [] keys))))

-- strictly, each line or record was read
pub strictly : (strict : Bool) (first : ℕ) (entries : List Said) (log : Log) → IsLogOf strict first entries log → strict ≡ true → (log.unreadable ≡ 0) × (log.first_unreadable ≡ None)
strictly strict first entries log is on =
    let none = is.strictly on in
    (is.unreadable ∙ unreadable_in-zero first entries (sym is.first_unreadable ∙ none), none)

-- what holds of each log that was read holds where one was
pub if_read : (result : Result Log LogFault) (P Q : Log → Type 0) → ((log : Log) → P log → Q log) → IfOk result P → IfOk result Q
if_read (Ok log) P Q follows p = follows log p
if_read (Err fault) P Q follows p = tt

-- and so where the bytes are known
pub if_known_read : (known : Option (List ℕ)) (result : Result Log LogFault) (P Q : List ℕ → Log → Type 0) → ((bytes : List ℕ) (log : Log) → P bytes log → Q bytes log)
    → IfSome known (λ bytes. IfOk result (P bytes)) → IfSome known (λ bytes. IfOk result (Q bytes))
if_known_read None result P Q follows p = tt
if_known_read (Some bytes) result P Q follows p = if_read result (P bytes) (Q bytes) (follows bytes) p

-- the same of why no log was read
pub if_refused : (result : Result Log LogFault) (P Q : LogFault → Type 0) → ((why : LogFault) → P why → Q why) → IfErr result P → IfErr result Q
if_refused (Ok log) P Q follows p = tt
if_refused (Err why) P Q follows p = follows why p
