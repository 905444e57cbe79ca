-- An index that agrees with what is linked, and what changes of both leave of that.
use Rattle.std.proofs.Common.{◌≡◌, ◌≢◌, ℕ, zero, suc, ◌<◌, Bool, true, false, ◌==◌, List, [], ◌∷◌, Option, Some, None, IsSome, is_some, if◌then◌else◌, length, slice_set, refl, sym, ap, ◌∙◌, subst, eqb-true, eq-eqb, arith}
use Rattle.std.proofs.lemmas.List.{get_or-set_same, get_or-set_other}
use Rattle.cache_index.specs.Views.{Led, led_at}
use Rattle.keyed_hash.specs.declared.seed.Seed.{Seed}
use Rattle.keyed_hash.specs.Hashes.{hash_of}
use Rattle.cache_part.specs.Parts.{generation_led, Agrees}

-- numbers whose test fails differ
pub not_equal : (a b : ℕ) → (a == b) ≡ false → b ≢ a
not_equal a b e same = absurd (cc (sym e ∙ eq-eqb a b (sym same)))

-- what isn't something is nothing
pub nothing_where : (at : Option ℕ) → is_some at ≡ false → at ≡ None
nothing_where None e = refl
nothing_where (Some chunk) e = absurd (cc e)

-- what has a generation is something
pub led_some : (at : Option Led) (linked : Option ℕ) → generation_led at ≡ linked → IsSome linked → IsSome at
led_some None linked e some = let none : IsSome {T = ℕ} None = subst IsSome (sym e) some in absurd (cc none)
led_some (Some led) linked e some = refl

-- the index has nothing at a chunk that it doesn't have
pub led_within : (index : List (Option Led)) (chunk : ℕ) → IsSome (led_at index chunk) → chunk < length index
led_within [] chunk some = absurd (cc some)
led_within (at ∷ index) zero some = omega arith
led_within (at ∷ index) (suc chunk) some = omega (arith, led_within index chunk some)

-- what is linked behind an end was linked
pub some_without : (chunk c : ℕ) (linked : Option ℕ) → IsSome (if chunk == c then None else linked) → IsSome linked
some_without chunk c linked = by (chunk == c)
  where
    by : (b : Bool) → IsSome (if b then None else linked) → IsSome linked
    by true some = absurd (cc some)
    by false some = some

module _ (seed : Seed) (linked : ℕ → Option ℕ) (keys : ℕ → List ℕ) (index : List (Option Led))
    (agrees : Agrees seed linked keys index) where
  -- the same items with the same keys agree with the same index
  pub agrees_same : (left : ℕ → Option ℕ) (kept : ℕ → List ℕ) → ((c : ℕ) → left c ≡ linked c)
      → ((c : ℕ) → kept c ≡ keys c) → Agrees seed left kept index
  agrees_same left kept same words = record {
    leads = λ c. agrees.leads c ∙ sym (same c);
    hashes = λ c led at. agrees.hashes c led at ∙ ap (hash_of seed) (sym (words c));
    once = λ c d at_c at_d one. agrees.once c d (subst IsSome (same c) at_c) (subst IsSome (same d) at_d)
        (sym (words c) ∙ (one ∙ words d));
  }

  -- an item ends, and the index leads to it no more
  pub agrees_without : (chunk : ℕ) → chunk < length index
      → Agrees seed (λ c. if chunk == c then None else linked c) keys (slice_set index chunk None)
  agrees_without chunk within = record {
    leads = λ c. leads c (chunk == c) refl;
    hashes = λ c led at. hashes c led at (chunk == c) refl;
    once = λ c d at_c at_d one. agrees.once c d (some_without chunk c (linked c) at_c)
        (some_without chunk d (linked d) at_d) one;
  }
    where
      left : List (Option Led)
      left = slice_set index chunk None

      gone : (c : ℕ) → (chunk == c) ≡ true → led_at left c ≡ None
      gone c e = ap (led_at left) (sym (eqb-true chunk c e)) ∙ get_or-set_same index chunk None None within

      other : (c : ℕ) → (chunk == c) ≡ false → led_at left c ≡ led_at index c
      other c e = get_or-set_other index chunk c None None (not_equal chunk c e)

      leads : (c : ℕ) (b : Bool) → (chunk == c) ≡ b
          → generation_led (led_at left c) ≡ (if chunk == c then None else linked c)
      leads c true e = ap generation_led (gone c e) ∙ sym (ap (λ b. if b then None else linked c) e)
      leads c false e = ap generation_led (other c e)
          ∙ (agrees.leads c ∙ sym (ap (λ b. if b then None else linked c) e))

      hashes : (c : ℕ) (led : Led) → led_at left c ≡ Some led → (b : Bool) → (chunk == c) ≡ b
          → led.hash ≡ hash_of seed (keys c)
      hashes c led at true e = absurd (cc (sym (gone c e) ∙ at))
      hashes c led at false e = agrees.hashes c led (sym (other c e) ∙ at)

  -- an item begins with a key that no item has, and the index leads to it
  pub agrees_with : (chunk generation hash : ℕ) (key : List ℕ) → chunk < length index → hash ≡ hash_of seed key
      → ((c : ℕ) → IsSome (linked c) → keys c ≡ key → ⊥)
      → Agrees seed (λ c. if chunk == c then Some generation else linked c) (λ c. if chunk == c then key else keys c)
      (slice_set index chunk (Some (record { hash = hash; generation = generation })))
  agrees_with chunk generation hash key within hashed unknown = record {
    leads = λ c. leads c (chunk == c) refl;
    hashes = λ c led at. hashes c led at (chunk == c) refl;
    once = λ c d at_c at_d same. once c d (chunk == c) (chunk == d) refl refl at_c at_d same;
  }
    where
      new : Led
      new = record { hash = hash; generation = generation }

      left : List (Option Led)
      left = slice_set index chunk (Some new)

      there : (c : ℕ) → (chunk == c) ≡ true → led_at left c ≡ Some new
      there c e = ap (led_at left) (sym (eqb-true chunk c e)) ∙ get_or-set_same index chunk (Some new) None within

      other : (c : ℕ) → (chunk == c) ≡ false → led_at left c ≡ led_at index c
      other c e = get_or-set_other index chunk c (Some new) None (not_equal chunk c e)

      leads : (c : ℕ) (b : Bool) → (chunk == c) ≡ b
          → generation_led (led_at left c) ≡ (if chunk == c then Some generation else linked c)
      leads c true e = ap generation_led (there c e) ∙ sym (ap (λ b. if b then Some generation else linked c) e)
      leads c false e = ap generation_led (other c e)
          ∙ (agrees.leads c ∙ sym (ap (λ b. if b then Some generation else linked c) e))

      hashes : (c : ℕ) (led : Led) → led_at left c ≡ Some led → (b : Bool) → (chunk == c) ≡ b
          → led.hash ≡ hash_of seed (if chunk == c then key else keys c)
      hashes c led at true e =
          let is : Some new ≡ Some led = sym (there c e) ∙ at in
          let one : new ≡ led = cc is in
          sym (ap (λ (l : Led). l.hash) one) ∙ (hashed ∙ ap (λ b. hash_of seed (if b then key else keys c)) (sym e))
      hashes c led at false e = agrees.hashes c led (sym (other c e) ∙ at)
          ∙ ap (λ b. hash_of seed (if b then key else keys c)) (sym e)

      once : (c d : ℕ) (b b' : Bool) → (chunk == c) ≡ b → (chunk == d) ≡ b'
          → IsSome (if b then Some generation else linked c) → IsSome (if b' then Some generation else linked d)
          → (if b then key else keys c) ≡ (if b' then key else keys d) → c ≡ d
      once c d true true e f at_c at_d same = sym (eqb-true chunk c e) ∙ eqb-true chunk d f
      once c d true false e f at_c at_d same = absurd (unknown d at_d (sym same))
      once c d false true e f at_c at_d same = absurd (unknown c at_c same)
      once c d false false e f at_c at_d same = agrees.once c d at_c at_d same
