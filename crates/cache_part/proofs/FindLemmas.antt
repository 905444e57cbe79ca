-- The search for a key.
use Rattle.std.proofs.Common.{◌≡◌, ℕ, Bool, true, false, ◌==◌, ◌||◌, List, Option, Some, None, IsSome, IfSome, IsSomeAnd, refl, sym, ap, ◌∙◌, subst, eqb-true}
use Rattle.bump_steps.specs.declared.views.ClassSheet.{ClassSheet}
use Rattle.bump_steps.specs.Views.{owns}
use Rattle.cache_lists.specs.Linked.{linked_at}
use Rattle.cache_index.specs.Views.{Led, led_at}
use Rattle.keyed_hash.specs.declared.seed.Seed.{Seed}
use Rattle.keyed_hash.specs.Hashes.{hash_of}
use Rattle.cache_part.specs.Keys.{key_at, HasKey}
use Rattle.cache_part.specs.Parts.{generation_led, IsPart}
use Rattle.cache_part.proofs.Agreements.{led_some}

-- what is something of which a fact holds is something
pub some_and : (at : Option Led) (P : Led → Type 0) → IsSomeAnd at P → IsSome at
some_and None P h = absurd h
some_and (Some led) P h = refl

-- where the index leads to a chunk its item is linked
pub led_linked : (seed : Seed) (key_words : ℕ) (class : ClassSheet) (table : List (Option Led))
    → IsPart seed key_words class table → (chunk : ℕ) → IsSome (led_at table chunk) → IsSome (linked_at class chunk)
led_linked seed key_words class table is chunk some = by (led_at table chunk) refl some
  where
    by : (at : Option Led) → led_at table chunk ≡ at → IsSome at → IsSome (linked_at class chunk)
    by None e none = absurd (cc none)
    by (Some led) e so = subst IsSome (ap generation_led (sym e) ∙ is.agrees.leads chunk) refl

-- and it is one of the class
pub led_owned : (seed : Seed) (key_words : ℕ) (class : ClassSheet) (table : List (Option Led))
    → IsPart seed key_words class table → (chunk : ℕ) → IsSome (led_at table chunk) → owns chunk class ≡ true
led_owned seed key_words class table is chunk some =
    is.own chunk (led_linked seed key_words class table is chunk some)

-- one chunk more that was answered hasn't the key
pub none_more : (class : ClassSheet) (key_words : ℕ) (key : List ℕ) (before after : ℕ → Bool) (at : ℕ)
    → ((c : ℕ) → after c ≡ (before c || (c == at)))
    → ((c : ℕ) → before c ≡ true → key_at key_words class c ≡ key → ⊥)
    → (key_at key_words class at ≡ key → ⊥)
    → (c : ℕ) → after c ≡ true → key_at key_words class c ≡ key → ⊥
none_more class key_words key before after at more none here c so same =
    by (before c) (c == at) refl refl (sym (more c) ∙ so)
  where
    by : (b b' : Bool) → before c ≡ b → (c == at) ≡ b' → (b || b') ≡ true → ⊥
    by true b' e f h = none c e same
    by false true e f h = here (ap (key_at key_words class) (sym (eqb-true c at f)) ∙ same)
    by false false e f h = absurd (cc h)

-- where each chunk with the key's hash was answered, and none of them has the key, no item has it
pub unknown_all : (seed : Seed) (key_words : ℕ) (class : ClassSheet) (table : List (Option Led))
    → IsPart seed key_words class table → (key : List ℕ) (hash : ℕ) (answered : ℕ → Bool) → hash ≡ hash_of seed key
    → ((chunk : ℕ) → IfSome (led_at table chunk) (λ led. led.hash ≡ hash → answered chunk ≡ true))
    → ((c : ℕ) → answered c ≡ true → key_at key_words class c ≡ key → ⊥)
    → (chunk : ℕ) → HasKey key_words key class chunk → ⊥
unknown_all seed key_words class table is key hash answered hashed all none chunk has =
    by (led_at table chunk) refl (all chunk)
  where
    by : (at : Option Led) → led_at table chunk ≡ at → IfSome at (λ led. led.hash ≡ hash → answered chunk ≡ true) → ⊥
    by None e each =
        let some : IsSome {T = Led} None =
        subst IsSome e (led_some (led_at table chunk) (linked_at class chunk) (is.agrees.leads chunk) has.linked) in
        absurd (cc some)
    by (Some led) e each =
        none chunk (each (is.agrees.hashes chunk led e ∙ (ap (hash_of seed) has.key ∙ sym hashed))) has.key
