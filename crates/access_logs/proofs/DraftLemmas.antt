-- Lemmas on a draft when one more line or record was read.
use Rattle.std.proofs.Common.{◌≡◌, ℕ, ◌+◌, Bool, true, false, cond, List, [], ◌∷◌, ◌++◌, length, refl, sym, ap, ◌∙◌, arith, length-append, true≢false}
use Rattle.std.specs.Prelude.{Option, Some, None, unwrap_or, is_none}
use Rattle.std.specs.List.{cons_option}
use Rattle.access_logs.specs.Drafts.{IsDraftOf}
use Rattle.access_logs.specs.Entries.{Access, Said, Taken, Unread, keys_in, first_unreadable_in, RefusesLog}
use Rattle.access_logs.specs.Keys.{distinct, with_key, number_among, numbers_of}
use Rattle.access_logs.specs.Numbering.{keys_of, RefusesKey}
use Rattle.access_logs.specs.declared.drafts.Draft.{Draft}
use Rattle.access_logs.specs.declared.log.Defect.{Defect}
use Rattle.access_logs.specs.declared.log.LogFault.{LogFault}
use Rattle.access_logs.specs.declared.log.LogFault.TheVariants as fault
use Rattle.access_logs.specs.declared.log.Unreadable.{Unreadable}
use Rattle.access_logs.proofs.KeyLemmas.{distinct-more, numbers-more}
use Rattle.access_logs.proofs.EntryLemmas.{keys_in-taken, keys_in-unread, sizes_in-taken, sizes_in-unread, times_in-taken, times_in-unread, operations_in-taken, operations_in-unread, ttls_in-taken, ttls_in-unread, unreadable_in-taken, unreadable_in-unread, first_unreadable-read, first_unreadable-none, first_unreadable-some}

-- the distinct keys with one more
pub distinct-some : (entries : List Said) (access : Access) → distinct (keys_in (entries ++ Taken access ∷ [])) ≡ with_key (distinct (keys_in entries)) access.key
distinct-some entries access = ap distinct (keys_in-taken entries access) ∙ distinct-more (keys_in entries) access.key

-- what stands in an option, and the default where nothing does
pub default-none : {A : Type 0} (o : Option A) (a : A) → is_none o ≡ true → Some a ≡ Some (unwrap_or o a)
default-none None a none = refl
default-none (Some earlier) a none = absurd (true≢false (sym none))

pub default-some : {A : Type 0} (o : Option A) (a : A) → is_none o ≡ false → o ≡ Some (unwrap_or o a)
default-some None a some = absurd (true≢false some)
default-some (Some earlier) a some = refl

module _ (strict : Bool) (first : ℕ) (entries : List Said) where
  -- the draft with an access more
  pub draft-some : (old new : Draft) (access : Access) (number : ℕ) → IsDraftOf strict first entries old
      → keys_of new.numbering ≡ with_key (keys_of old.numbering) access.key → number ≡ number_among (keys_of new.numbering) access.key
      → new.accesses.items ≡ old.accesses.items ++ number ∷ [] → new.sizes.items ≡ old.sizes.items ++ cons_option access.size [] → new.times.items ≡ old.times.items ++ cons_option access.time []
      → new.operations.items ≡ old.operations.items ++ cons_option access.operation [] → new.ttls.items ≡ old.ttls.items ++ cons_option access.ttl [] → new.unreadable ≡ old.unreadable → new.first_unreadable ≡ old.first_unreadable → new.strict ≡ old.strict
      → IsDraftOf strict first (entries ++ Taken access ∷ []) new
  draft-some old new access number draft keys is accesses sizes times operations ttls unreadable faulty setting =
      let with_it = keys ∙ ap (λ d. with_key d access.key) draft.keys in
      record {
        keys = with_it ∙ sym (distinct-some entries access);
        accesses = accesses ∙ ap (λ l. l ++ number ∷ []) draft.accesses ∙ ap (λ n. numbers_of (keys_in entries) ++ n ∷ []) (is ∙ ap (λ d. number_among d access.key) with_it)
            ∙ sym (ap numbers_of (keys_in-taken entries access) ∙ numbers-more (keys_in entries) access.key);
        sizes = sizes ∙ ap (λ l. l ++ cons_option access.size []) draft.sizes ∙ sym (sizes_in-taken entries access);
        times = times ∙ ap (λ l. l ++ cons_option access.time []) draft.times ∙ sym (times_in-taken entries access);
        operations = operations ∙ ap (λ l. l ++ cons_option access.operation []) draft.operations ∙ sym (operations_in-taken entries access);
        ttls = ttls ∙ ap (λ l. l ++ cons_option access.ttl []) draft.ttls ∙ sym (ttls_in-taken entries access);
        unreadable = unreadable ∙ draft.unreadable ∙ sym (unreadable_in-taken entries access);
        first_unreadable = faulty ∙ draft.first_unreadable ∙ sym (first_unreadable-read first entries (Taken access) refl);
        setting = setting ∙ draft.setting;
        strictly = λ s. first_unreadable-read first entries (Taken access) refl ∙ draft.strictly s;
      }

  -- a key that got no number
  pub refused-key : (access : Access) (why : LogFault) (keys : List (List ℕ)) → keys ≡ distinct (keys_in entries) → RefusesKey keys access.key why → RefusesLog strict first (entries ++ Taken access ∷ []) why
  refused-key access (fault.Read number cause) keys same due = absurd due
  refused-key access fault.TooManyLines keys same due = absurd due
  refused-key access fault.Memory keys same due = tt
  refused-key access (fault.Unreadable found) keys same due = absurd due
  refused-key access fault.TooManyKeys keys same due =
      let all = distinct-some entries access ∙ sym (ap (λ d. with_key d access.key) same) ∙ ap (λ b. cond b keys (keys ++ access.key ∷ [])) due.1 in
      let long = ap length all in
      let more = length-append keys (access.key ∷ []) in
      omega (arith, long, more, due.0)
  refused-key access (fault.NoColumn field) keys same due = absurd due

  -- the first that can't be read, with one more that can't be
  pub first_unreadable-more : (old : Option Unreadable) (number : ℕ) (defect : Defect) → old ≡ first_unreadable_in first entries → number ≡ first + length entries
      → Some (unwrap_or old (record { number = number; defect = defect })) ≡ first_unreadable_in first (entries ++ Unread defect ∷ [])
  first_unreadable-more None number defect is at = ap (λ n. Some (record { number = n; defect = defect })) at ∙ sym (first_unreadable-none first entries [] defect (sym is))
  first_unreadable-more (Some earlier) number defect is at = sym (first_unreadable-some first entries (Unread defect ∷ []) earlier (sym is))

  -- the draft with one more that can't be read
  pub draft-none : (old new : Draft) (number : ℕ) (defect : Defect) → IsDraftOf strict first entries old → number ≡ first + length entries → old.strict ≡ false
      → keys_of new.numbering ≡ keys_of old.numbering → new.accesses.items ≡ old.accesses.items → new.sizes.items ≡ old.sizes.items → new.times.items ≡ old.times.items
      → new.operations.items ≡ old.operations.items → new.ttls.items ≡ old.ttls.items → new.unreadable ≡ old.unreadable + 1
      → new.first_unreadable ≡ Some (unwrap_or old.first_unreadable (record { number = number; defect = defect })) → new.strict ≡ old.strict
      → IsDraftOf strict first (entries ++ Unread defect ∷ []) new
  draft-none old new number defect draft at lax keys accesses sizes times operations ttls unreadable faulty setting =
      record {
        keys = keys ∙ draft.keys ∙ sym (ap distinct (keys_in-unread entries defect));
        accesses = accesses ∙ draft.accesses ∙ sym (ap numbers_of (keys_in-unread entries defect));
        sizes = sizes ∙ draft.sizes ∙ sym (sizes_in-unread entries defect);
        times = times ∙ draft.times ∙ sym (times_in-unread entries defect);
        operations = operations ∙ draft.operations ∙ sym (operations_in-unread entries defect);
        ttls = ttls ∙ draft.ttls ∙ sym (ttls_in-unread entries defect);
        unreadable = unreadable ∙ ap (λ n. n + 1) draft.unreadable ∙ sym (unreadable_in-unread entries defect);
        first_unreadable = faulty ∙ first_unreadable-more old.first_unreadable number defect draft.first_unreadable at;
        setting = setting ∙ draft.setting;
        strictly = λ s. absurd (true≢false (sym s ∙ sym draft.setting ∙ lax));
      }
