-- Lemmas on what is in a log when one more line or record was read.
use Rattle.std.proofs.Common.{◌≡◌, ℕ, ◌+◌, ◌<◌, ◌≤◌, Bool, List, [], ◌∷◌, ◌++◌, length, refl, sym, ap, subst, ◌∙◌, arith, true≢false, append-nil, length-append}
use Rattle.std.specs.Prelude.{Option, Some, None, is_none, is_some, cond}
use Rattle.std.specs.List.{cons_option}
use Rattle.std.proofs.lemmas.List.Elements.{filter_map-append}
use Rattle.std.proofs.lemmas.List.Sums.{sum_by-append, sum_by-cons}
use Rattle.access_logs.specs.Keys.{distinct}
use Rattle.access_logs.specs.Entries.{Access, Said, Taken, Unread, key_in, size_in, time_in, operation_in, ttl_in, defect_in, is_unread, keys_in, sizes_in, times_in, operations_in, ttls_in, unreadable_in, first_of, first_unreadable_in, RefusesLog}
use Rattle.access_logs.specs.Lines.{IsReadOrMemory}
use Rattle.access_logs.specs.declared.log.Defect.{Defect}
use Rattle.access_logs.specs.declared.log.LogFault.{LogFault}
use Rattle.access_logs.specs.declared.log.LogFault.TheVariants as fault
use Rattle.access_logs.specs.declared.log.Unreadable.{Unreadable}
use Rattle.access_logs.proofs.KeyLemmas.{length-distinct}

-- an access more
pub keys_in-taken : (entries : List Said) (access : Access) → keys_in (entries ++ Taken access ∷ []) ≡ keys_in entries ++ access.key ∷ []
keys_in-taken entries access = filter_map-append key_in entries (Taken access ∷ [])

-- its size, where it has one
pub sizes_in-taken : (entries : List Said) (access : Access) → sizes_in (entries ++ Taken access ∷ []) ≡ sizes_in entries ++ cons_option access.size []
sizes_in-taken entries access = filter_map-append size_in entries (Taken access ∷ [])

-- and its time
pub times_in-taken : (entries : List Said) (access : Access) → times_in (entries ++ Taken access ∷ []) ≡ times_in entries ++ cons_option access.time []
times_in-taken entries access = filter_map-append time_in entries (Taken access ∷ [])

-- and what it asks for
pub operations_in-taken : (entries : List Said) (access : Access) → operations_in (entries ++ Taken access ∷ []) ≡ operations_in entries ++ cons_option access.operation []
operations_in-taken entries access = filter_map-append operation_in entries (Taken access ∷ [])

-- and how long what it puts lasts
pub ttls_in-taken : (entries : List Said) (access : Access) → ttls_in (entries ++ Taken access ∷ []) ≡ ttls_in entries ++ cons_option access.ttl []
ttls_in-taken entries access = filter_map-append ttl_in entries (Taken access ∷ [])

-- nothing more that can be read
pub keys_in-unread : (entries : List Said) (defect : Defect) → keys_in (entries ++ Unread defect ∷ []) ≡ keys_in entries
keys_in-unread entries defect = filter_map-append key_in entries (Unread defect ∷ []) ∙ append-nil (keys_in entries)

-- nor a size
pub sizes_in-unread : (entries : List Said) (defect : Defect) → sizes_in (entries ++ Unread defect ∷ []) ≡ sizes_in entries
sizes_in-unread entries defect = filter_map-append size_in entries (Unread defect ∷ []) ∙ append-nil (sizes_in entries)

-- nor a time
pub times_in-unread : (entries : List Said) (defect : Defect) → times_in (entries ++ Unread defect ∷ []) ≡ times_in entries
times_in-unread entries defect = filter_map-append time_in entries (Unread defect ∷ []) ∙ append-nil (times_in entries)

-- nor an operation
pub operations_in-unread : (entries : List Said) (defect : Defect) → operations_in (entries ++ Unread defect ∷ []) ≡ operations_in entries
operations_in-unread entries defect = filter_map-append operation_in entries (Unread defect ∷ []) ∙ append-nil (operations_in entries)

-- nor how long something lasts
pub ttls_in-unread : (entries : List Said) (defect : Defect) → ttls_in (entries ++ Unread defect ∷ []) ≡ ttls_in entries
ttls_in-unread entries defect = filter_map-append ttl_in entries (Unread defect ∷ []) ∙ append-nil (ttls_in entries)

-- one that can be read leaves the count, and one that can't be is counted
pub unreadable_in-taken : (entries : List Said) (access : Access) → unreadable_in (entries ++ Taken access ∷ []) ≡ unreadable_in entries
unreadable_in-taken entries access = sum_by-append (λ entry. cond (is_unread entry) 1 0) entries (Taken access ∷ []) ∙ omega arith

pub unreadable_in-unread : (entries : List Said) (defect : Defect) → unreadable_in (entries ++ Unread defect ∷ []) ≡ unreadable_in entries + 1
unreadable_in-unread entries defect = sum_by-append (λ entry. cond (is_unread entry) 1 0) entries (Unread defect ∷ [])

-- one more that can be read is not the first that can't be
pub first_unreadable-read : (number : ℕ) (entries : List Said) (entry : Said) → defect_in entry ≡ None → first_unreadable_in number (entries ++ entry ∷ []) ≡ first_unreadable_in number entries
first_unreadable-read number [] entry none = ap (λ d. first_of number d None) none
first_unreadable-read number (other ∷ entries) entry none = ap (first_of number (defect_in other)) (first_unreadable-read (number + 1) entries entry none)

-- the first stays the first
pub first_unreadable-some : (number : ℕ) (entries more : List Said) (first : Unreadable) → first_unreadable_in number entries ≡ Some first → first_unreadable_in number (entries ++ more) ≡ Some first
first_unreadable-some number [] more first is = absurd (true≢false (ap (λ o. is_none o) is))
first_unreadable-some number (entry ∷ entries) more first is = by (defect_in entry) is (first_unreadable-some (number + 1) entries more first)
  where
    by : (d : Option Defect) → first_of number d (first_unreadable_in (number + 1) entries) ≡ Some first
        → (first_unreadable_in (number + 1) entries ≡ Some first → first_unreadable_in (number + 1) (entries ++ more) ≡ Some first)
        → first_of number d (first_unreadable_in (number + 1) (entries ++ more)) ≡ Some first
    by None h rest = rest h
    by (Some defect) h rest = h

-- where all could be read so far, the next one is the first that can't be
pub first_unreadable-none : (number : ℕ) (entries more : List Said) (defect : Defect) → first_unreadable_in number entries ≡ None
    → first_unreadable_in number (entries ++ Unread defect ∷ more) ≡ Some (record { number = number + length entries; defect = defect })
first_unreadable-none number [] more defect is = let same : number ≡ number + 0 = omega arith in ap (λ n. Some (record { number = n; defect = defect })) same
first_unreadable-none number (entry ∷ entries) more defect is = by (defect_in entry) is (first_unreadable-none (number + 1) entries more defect)
  where
    by : (d : Option Defect) → first_of number d (first_unreadable_in (number + 1) entries) ≡ None
        → (first_unreadable_in (number + 1) entries ≡ None → first_unreadable_in (number + 1) (entries ++ Unread defect ∷ more) ≡ Some (record { number = number + 1 + length entries; defect = defect }))
        → first_of number d (first_unreadable_in (number + 1) (entries ++ Unread defect ∷ more)) ≡ Some (record { number = number + length (entry ∷ entries); defect = defect })
    by None h rest = let same : number + 1 + length entries ≡ number + length (entry ∷ entries) = omega arith in rest h ∙ ap (λ n. Some (record { number = n; defect = defect })) same
    by (Some other) h rest = absurd (true≢false (sym (ap (λ o. is_none o) h)))

-- where all can be read, none can't be
pub unreadable_in-zero : (number : ℕ) (entries : List Said) → first_unreadable_in number entries ≡ None → unreadable_in entries ≡ 0
unreadable_in-zero number [] is = refl
unreadable_in-zero number (entry ∷ entries) is = sum_by-cons (λ e. cond (is_unread e) 1 0) entry entries ∙ by (defect_in entry) is (unreadable_in-zero (number + 1) entries)
  where
    by : (d : Option Defect) → first_of number d (first_unreadable_in (number + 1) entries) ≡ None → (first_unreadable_in (number + 1) entries ≡ None → unreadable_in entries ≡ 0)
        → cond (is_some d) 1 0 + unreadable_in entries ≡ 0
    by None h rest = let none = rest h in omega (arith, none)
    by (Some other) h rest = absurd (true≢false (sym (ap (λ o. is_none o) h)))

-- a refusal of what came first is one of all
pub refused-more : (strict : Bool) (number : ℕ) (entries more : List Said) (why : LogFault) → RefusesLog strict number entries why → RefusesLog strict number (entries ++ more) why
refused-more strict number entries more (fault.Read place cause) due = let long = length-append entries more in (due.0, omega (arith, long, due.1))
refused-more strict number entries more fault.TooManyLines due = let long = length-append entries more in omega (arith, long, due)
refused-more strict number entries more fault.Memory due = tt
refused-more strict number entries more (fault.Unreadable first) due = (due.0, first_unreadable-some number entries more first due.1)
refused-more strict number entries more fault.TooManyKeys due =
    let grown = subst (λ keys. length (distinct (keys_in entries)) ≤ length (distinct keys)) (sym (filter_map-append key_in entries more)) (length-distinct (keys_in entries) (keys_in more)) in
    omega (arith, due, grown)
refused-more strict number entries more (fault.NoColumn field) due = absurd due

-- a reader that failed in the next line or record, or memory
pub refused-read : (strict : Bool) (first : ℕ) (entries : List Said) (number : ℕ) (why : LogFault) → IsReadOrMemory number why → 0 < number → number ≤ first + length entries → RefusesLog strict first entries why
refused-read strict first entries number (fault.Read place cause) due some near = (omega (arith, due, some), omega (arith, due, near))
refused-read strict first entries number fault.TooManyLines due some near = absurd due
refused-read strict first entries number fault.Memory due some near = tt
refused-read strict first entries number (fault.Unreadable found) due some near = absurd due
refused-read strict first entries number fault.TooManyKeys due some near = absurd due
refused-read strict first entries number (fault.NoColumn field) due some near = absurd due
