-- What an item that is linked leaves, and the end of the key's old one behind it.
use Rattle.std.proofs.Common.{◌≡◌, ◌≢◌, ℕ, suc, ◌+◌, ◌<◌, ◌≤◌, Bool, true, false, ◌==◌, List, Option, Some, None, IsSome, IfSome, if◌then◌else◌, length, take, drop, slice_set, refl, sym, ap, ap₂, ◌∙◌, subst, eqb-true, eq-eqb, ne_eqb}
use Rattle.std.proofs.lemmas.List.{length-set}
use Rattle.bump_rules.specs.declared.items.ItemId.{ItemId}
use Rattle.bump_steps.specs.Views.{last_word}
use Rattle.bump_class.specs.Books.{BookView}
use Rattle.cache_lists.specs.Items.{IsSameClass, EndsAt, BeginsAt, HasRow}
use Rattle.cache_lists.specs.Linked.{linked_at}
use Rattle.cache_lists.proofs.Standings.{begun_linked}
use Rattle.cache_index.specs.Views.{Led, led_at, with_generation}
use Rattle.keyed_hash.specs.declared.seed.Seed.{Seed}
use Rattle.keyed_hash.specs.Hashes.{hash_of}
use Rattle.cache_part.specs.Keys.{key_at, value_at, HasKey, IsItemOf}
use Rattle.cache_part.specs.Parts.{generation_led, Agrees, IsPart}
use Rattle.cache_part.specs.Putting.{Links, EndsOld, OthersStay, leads_anew}
use Rattle.cache_part.proofs.Agreements.{agrees_same, agrees_without, agrees_with}
use Rattle.cache_part.proofs.KeyLemmas.{words_same, key_of_row, value_of_row}
use Rattle.cache_part.proofs.PartLemmas.{class_then, owned_within, own_begun, own_ended, linked_within, key_begun}

-- the end of the old item leaves the chunks
ended_class : (old : Option ℕ) (begun after : BookView) → EndsOld old begun after → IsSameClass begun after
ended_class None begun after ends = subst (IsSameClass begun) (sym ends) (record { first = refl; count = refl })
ended_class (Some chunk) begun after ends = ends.0.class

-- and all words
ended_words : (old : Option ℕ) (begun after : BookView) → EndsOld old begun after
    → (i c : ℕ) → last_word i after.sheet c ≡ last_word i begun.sheet c
ended_words None begun after ends i c = ap (λ (b : BookView). last_word i b.sheet c) ends
ended_words (Some chunk) begun after ends i c = ends.0.words i c

-- and each other item
ended_stay : (old : Option ℕ) (begun after : BookView) → EndsOld old begun after → (c : ℕ) → old ≢ Some c
    → linked_at after.sheet c ≡ linked_at begun.sheet c
ended_stay None begun after ends c other = ap (λ (b : BookView). linked_at b.sheet c) ends
ended_stay (Some chunk) begun after ends c other = ends.0.linked c
    ∙ ap (λ b. if b then None else linked_at begun.sheet c) (ne_eqb chunk c (λ same. other (ap Some same)))

-- the chunk of a new item isn't that of one that is linked
pub begun_elsewhere : (before begun : BookView) (item : ItemId) (chunk : ℕ) → BeginsAt item before begun
    → IsSome (linked_at before.sheet chunk) → item.chunk ≢ chunk
begun_elsewhere before begun item chunk begins some same =
    let none : IsSome {T = ℕ} None = subst IsSome (ap (linked_at before.sheet) (sym same) ∙ begins.free) some in
    absurd (cc none)

-- what is linked behind the beginning of an item and the end of another
both_linked : (linked : Option ℕ) (generation : ℕ) (chunk item c : ℕ) → item ≢ chunk
    → (if chunk == c then None else (if item == c then Some generation else linked))
    ≡ (if item == c then Some generation else (if chunk == c then None else linked))
both_linked linked generation chunk item c apart = by (chunk == c) (item == c) refl refl
  where
    by : (b b' : Bool) → (chunk == c) ≡ b → (item == c) ≡ b'
        → (if b then None else (if b' then Some generation else linked))
        ≡ (if b' then Some generation else (if b then None else linked))
    by true true e f = absurd (apart (eqb-true item c f ∙ sym (eqb-true chunk c e)))
    by true false e f = refl
    by false true e f = refl
    by false false e f = refl

-- what leads somewhere leads there by its hash, with another generation
led_anew : (at : Option Led) (linked : Option ℕ) (generation : ℕ) → generation_led at ≡ linked → IsSome linked
    → (led : Led) × (at ≡ Some led)
    × (with_generation generation at ≡ Some (record { hash = led.hash; generation = generation }))
led_anew None linked generation e some = let none : IsSome {T = ℕ} None = subst IsSome (sym e) some in absurd (cc none)
led_anew (Some led) linked generation e some = (led, refl, refl)

-- where nothing is linked the index leads to nothing
pub led_nothing : (at : Option Led) (linked : Option ℕ) → generation_led at ≡ linked → linked ≡ None → at ≡ None
led_nothing None linked e none = refl
led_nothing (Some led) linked e none = absurd (cc (e ∙ none))

module _ (seed : Seed) (key_words : ℕ) (before after : BookView) (index : List (Option Led))
    (is : IsPart seed key_words before.sheet index) (row : List ℕ) (expires : ℕ) (few : key_words ≤ length row) where
  -- it stays a part where an item is linked under a key that had none, and the index leads to it
  part_begun : (item : ItemId) (hash : ℕ) → BeginsAt item before after → HasRow item.chunk expires row after
      → hash ≡ hash_of seed (take key_words row) → IsItemOf key_words (take key_words row) None before.sheet
      → IsPart seed key_words after.sheet (leads_anew hash None item index)
  part_begun item hash begins has hashed unknown = record {
    count = ap₂ (λ f n. f + n) begins.class.first begins.class.count
        ∙ (is.count ∙ sym (length-set index item.chunk (Some (record { hash = hash; generation = item.generation }))));
    own = own_begun item before after begins is.own;
    agrees = agrees_same seed (λ c. if item.chunk == c then Some item.generation else linked_at before.sheet c)
        (λ c. if item.chunk == c then take key_words row else key_at key_words before.sheet c)
        (leads_anew hash None item index)
        (agrees_with seed (linked_at before.sheet) (key_at key_words before.sheet) index is.agrees item.chunk
        item.generation hash (take key_words row)
        (owned_within before.sheet index is.count item.chunk begins.own) hashed
        (λ c some same. unknown c (record { linked = some; key = same })))
        (linked_at after.sheet) (key_at key_words after.sheet) begins.linked
        (key_begun before after item.chunk expires key_words row begins.words has few);
  }

  -- and where it is linked in place of the key's old item, which then ends
  part_replaced : (begun : BookView) (item : ItemId) (hash chunk : ℕ) → BeginsAt item before begun
      → HasRow item.chunk expires row begun → EndsAt chunk begun after
      → HasKey key_words (take key_words row) before.sheet chunk
      → IsPart seed key_words after.sheet (leads_anew hash (Some chunk) item index)
  part_replaced begun item hash chunk begins has ends had = record {
    count = ap₂ (λ f n. f + n) (ends.class.first ∙ begins.class.first) (ends.class.count ∙ begins.class.count)
        ∙ (is.count ∙ sym (length-set left item.chunk now ∙ length-set index chunk None));
    own = own_ended chunk begun after ends (own_begun item before begun begins is.own);
    agrees = subst (λ at. Agrees seed (linked_at after.sheet) (key_at key_words after.sheet) (slice_set left item.chunk at))
        (sym there.2)
        (agrees_same seed (λ c. if item.chunk == c then Some item.generation else without c)
        (λ c. if item.chunk == c then take key_words row else key_at key_words before.sheet c)
        (slice_set left item.chunk (Some (record { hash = there.0.hash; generation = item.generation })))
        (agrees_with seed without (key_at key_words before.sheet) left
        (agrees_without seed (linked_at before.sheet) (key_at key_words before.sheet) index is.agrees chunk within)
        item.chunk item.generation there.0.hash (take key_words row)
        (subst (λ n. item.chunk < n) (sym (length-set index chunk None))
        (owned_within before.sheet index is.count item.chunk begins.own))
        (is.agrees.hashes chunk there.0 there.1 ∙ ap (hash_of seed) had.key) unknown)
        (linked_at after.sheet) (key_at key_words after.sheet)
        (λ c. ends.linked c ∙ (ap (λ (l : Option ℕ). if chunk == c then None else l) (begins.linked c)
        ∙ both_linked (linked_at before.sheet c) item.generation chunk item.chunk c
        (begun_elsewhere before begun item chunk begins had.linked)))
        (λ c. words_same begun.sheet after.sheet c 0 key_words (λ i. ends.words i c)
        ∙ key_begun before begun item.chunk expires key_words row begins.words has few c));
  }
    where
      left : List (Option Led)
      left = slice_set index chunk None

      now : Option Led
      now = with_generation item.generation (led_at index chunk)

      without : ℕ → Option ℕ
      without c = if chunk == c then None else linked_at before.sheet c

      within : chunk < length index
      within = linked_within seed key_words before before index is chunk had.linked

      there : (led : Led) × (led_at index chunk ≡ Some led)
          × (now ≡ Some (record { hash = led.hash; generation = item.generation }))
      there = led_anew (led_at index chunk) (linked_at before.sheet chunk) item.generation (is.agrees.leads chunk)
          had.linked

      unknown : (c : ℕ) → IsSome (without c) → key_at key_words before.sheet c ≡ take key_words row → ⊥
      unknown c some same = by (chunk == c) refl some
        where
          by : (b : Bool) → (chunk == c) ≡ b → IsSome (if b then None else linked_at before.sheet c) → ⊥
          by true e none = absurd (cc none)
          by false e linked = absurd (cc (sym e ∙ eq-eqb chunk c
              (sym (is.agrees.once c chunk linked had.linked (same ∙ sym had.key)))))

  -- so it does whichever way the key is put
  pub part_linked : (temporary old : Option ℕ) (item : ItemId) (hash now : ℕ)
      → Links temporary old row expires now item before after
      → hash ≡ hash_of seed (take key_words row) → IsItemOf key_words (take key_words row) old before.sheet
      → IsPart seed key_words after.sheet (leads_anew hash old item index)
  part_linked temporary None item hash now links hashed unknown = part_begun item hash
      (subst (BeginsAt item before) (sym links.ends) links.begins)
      (subst (HasRow item.chunk expires row) (sym links.ends) links.has_row) hashed unknown
  part_linked temporary (Some chunk) item hash now links hashed had =
      part_replaced links.begun item hash chunk links.begins links.has_row links.ends.0 had

module _ (temporary old : Option ℕ) (row : List ℕ) (expires now : ℕ) (item : ItemId) (before after : BookView)
    (links : Links temporary old row expires now item before after) where
  -- the chunks stay the Book's
  pub links_class : IsSameClass before after
  links_class = class_then before links.begun after links.begins.class (ended_class old links.begun after links.ends)

  -- each other item stays
  pub links_stay : OthersStay (Some item.chunk) old None before after
  links_stay = record {
    linked = λ c anew other none. ended_stay old links.begun after links.ends c other
        ∙ (links.begins.linked c ∙ ap (λ b. if b then Some item.generation else linked_at before.sheet c)
        (ne_eqb item.chunk c (λ same. anew (ap Some same))));
    words = λ i c anew. ended_words old links.begun after links.ends i c
        ∙ links.begins.words i c (ne_eqb item.chunk c (λ same. anew (ap Some same)));
  }

  -- the new item is under its key, where the key's old one was linked
  pub links_under : (key_words : ℕ) → key_words ≤ length row
      → ((chunk : ℕ) → old ≡ Some chunk → IsSome (linked_at before.sheet chunk))
      → HasKey key_words (take key_words row) after.sheet item.chunk
  links_under key_words few was = record {
    linked = subst IsSome (sym (ended_stay old links.begun after links.ends item.chunk
        (λ same. begun_elsewhere before links.begun item item.chunk links.begins (was item.chunk same) refl)
        ∙ begun_linked before links.begun item links.begins)) refl;
    key = words_same links.begun.sheet after.sheet item.chunk 0 key_words
        (λ i. ended_words old links.begun after links.ends i item.chunk)
        ∙ key_of_row links.begun item.chunk expires key_words row links.has_row few;
  }

  -- and has the row
  pub links_row : HasRow item.chunk expires row after
  links_row = (
    ended_words old links.begun after links.ends 0 item.chunk ∙ links.has_row.0,
    λ j low. ended_words old links.begun after links.ends (suc j) item.chunk ∙ links.has_row.1 j low,
  )

  -- so it has the row's value
  pub links_value : (key_words value_words : ℕ) → length row ≡ key_words + value_words
      → value_at key_words value_words after.sheet item.chunk ≡ drop key_words row
  links_value key_words value_words all =
      words_same links.begun.sheet after.sheet item.chunk key_words value_words
      (λ i. ended_words old links.begun after links.ends i item.chunk)
      ∙ value_of_row links.begun item.chunk expires key_words value_words row links.has_row all

-- the old item is linked no more
pub links_ended : (temporary old : Option ℕ) (row : List ℕ) (expires now : ℕ) (item : ItemId) (before after : BookView)
    → Links temporary old row expires now item before after → IfSome old (λ chunk. linked_at after.sheet chunk ≡ None)
links_ended temporary None row expires now item before after links = tt
links_ended temporary (Some chunk) row expires now item before after links = links.ends.0.linked chunk
    ∙ ap (λ b. if b then None else linked_at links.begun.sheet chunk) (eq-eqb chunk chunk refl)

-- what stays while room is made, and then while an item is linked
pub stay_then : (chunk old evicted : Option ℕ) (before between after : BookView)
    → OthersStay None None evicted before between → OthersStay chunk old None between after
    → OthersStay chunk old evicted before after
stay_then chunk old evicted before between after one other = record {
  linked = λ c anew gone told. other.linked c anew gone (λ e. absurd (cc e))
      ∙ one.linked c (λ e. absurd (cc e)) (λ e. absurd (cc e)) told;
  words = λ i c anew. other.words i c anew ∙ one.words i c (λ e. absurd (cc e));
}

-- what was evicted is linked no more but where the new item is linked in its chunk
pub gone_then : (chunk : ℕ) (old evicted : Option ℕ) (before between after : BookView)
    → OthersStay (Some chunk) old None between after
    → IfSome evicted (λ c. IsSome (linked_at before.sheet c) × (old ≡ None))
    → IfSome evicted (λ c. linked_at between.sheet c ≡ None)
    → IfSome evicted (λ c. c ≢ chunk → linked_at after.sheet c ≡ None)
gone_then chunk old None before between after stay another gone = tt
gone_then chunk old (Some c) before between after stay another gone = λ other.
    stay.linked c (λ same. let one : chunk ≡ c = cc same in other (sym one))
    (λ same. absurd (cc (sym another.1 ∙ same))) (λ e. absurd (cc e)) ∙ gone

-- the first of two facts about what is something
pub first_fact : (told : Option ℕ) (P Q : ℕ → Type 0) → IfSome told (λ c. P c × Q c) → IfSome told P
first_fact None P Q both = tt
first_fact (Some c) P Q both = both.0
