-- What changes of the lists and of the index leave of a part.
use Rattle.std.proofs.Common.{◌≡◌, ℕ, zero, suc, ◌+◌, ◌-◌, ◌<◌, ◌≤◌, Bool, true, false, ◌==◌, ◌&&◌, nat_le, nat_lt, List, [], Option, Some, None, IsSome, IfSome, IfNone, if◌then◌else◌, length, take, replicate, get_or, slice_set, refl, sym, ap, ap₂, ◌∙◌, subst, eqb-true, le-leb, lt-ltb, arith}
use Rattle.std.proofs.lemmas.Bool.{and_parts}
use Rattle.std.proofs.lemmas.List.{length-set, length-replicate}
use Rattle.bump_steps.specs.declared.views.ClassSheet.{ClassSheet}
use Rattle.bump_steps.specs.Views.{owns, last_word}
use Rattle.bump_class.specs.Books.{BookView}
use Rattle.cache_lists.specs.Items.{IsSameClass, KeepsItems, EndsAt, BeginsAt, HasRow}
use Rattle.bump_rules.specs.declared.items.ItemId.{ItemId}
use Rattle.cache_lists.proofs.Standings.{owns_same}
use Rattle.bump_rules.specs.History.{standing_in}
use Rattle.cache_lists.specs.Linked.{linked_standing, linked_at}
use Rattle.cache_index.specs.Views.{Led, led_at, IndexView}
use Rattle.keyed_hash.specs.declared.seed.Seed.{Seed}
use Rattle.cache_part.specs.Keys.{key_at, HasKey, IsItemOf}
use Rattle.cache_part.specs.Looks.{LooksOnly}
use Rattle.cache_part.specs.Parts.{generation_led, IsPart}
use Rattle.cache_part.proofs.KeyLemmas.{words_same, key_of_row}
use Rattle.cache_part.proofs.LookLemmas.{looks_keep}
use Rattle.cache_part.proofs.Agreements.{led_some, led_within, some_without, agrees_same, agrees_without}

-- a chunk of the class is one of the index
pub owned_within : (class : ClassSheet) (index : List (Option Led)) → class.first + class.count ≡ length index
    → (chunk : ℕ) → owns chunk class ≡ true → chunk < length index
owned_within class index count chunk own =
    let both = and_parts (nat_le class.first chunk) (nat_lt chunk (class.first + class.count)) own in
    grind (arith, both.1, count)

-- and isn't before its first one
pub owned_from : (class : ClassSheet) (chunk : ℕ) → owns chunk class ≡ true → class.first ≤ chunk
owned_from class chunk own =
    let both = and_parts (nat_le class.first chunk) (nat_lt chunk (class.first + class.count)) own in
    grind (arith, both.0)

-- and the other way round
pub within_owned : (class : ClassSheet) (index : List (Option Led)) → class.first + class.count ≡ length index
    → (chunk : ℕ) → class.first ≤ chunk → chunk < length index → owns chunk class ≡ true
within_owned class index count chunk from within =
    ap₂ (λ a b. a && b) (le-leb class.first chunk from)
    (lt-ltb chunk (class.first + class.count) (omega (arith, count, within)))

-- what is linked behind an end is the class's own, where it was
pub own_ended : (chunk : ℕ) (book left : BookView) → EndsAt chunk book left
    → ((c : ℕ) → IsSome (linked_at book.sheet c) → owns c book.sheet ≡ true)
    → (c : ℕ) → IsSome (linked_at left.sheet c) → owns c left.sheet ≡ true
own_ended chunk book left ends own c some = owns_same book left ends.class c
    ∙ own c (some_without chunk c (linked_at book.sheet c) (subst IsSome (ends.linked c) some))

-- and behind a beginning
pub own_begun : (item : ItemId) (book left : BookView) → BeginsAt item book left
    → ((c : ℕ) → IsSome (linked_at book.sheet c) → owns c book.sheet ≡ true)
    → (c : ℕ) → IsSome (linked_at left.sheet c) → owns c left.sheet ≡ true
own_begun item book left begins own c some = owns_same book left begins.class c ∙ by (item.chunk == c) refl
  where
    by : (b : Bool) → (item.chunk == c) ≡ b → owns c book.sheet ≡ true
    by true e = ap (λ n. owns n book.sheet) (sym (eqb-true item.chunk c e)) ∙ begins.own
    by false e = own c (subst IsSome (begins.linked c
        ∙ ap (λ b. if b then Some item.generation else linked_at book.sheet c) e) some)

module _ (seed : Seed) (key_words : ℕ) (book left : BookView) (index : List (Option Led))
    (is : IsPart seed key_words book.sheet index) where
  -- it stays a part where the same items are linked
  pub part_kept : KeepsItems book left → IsPart seed key_words left.sheet index
  part_kept keeps = record {
    count = ap₂ (λ f n. f + n) keeps.class.first keeps.class.count ∙ is.count;
    own = λ c some. owns_same book left keeps.class c ∙ is.own c (subst IsSome (keeps.linked c) some);
    agrees = agrees_same seed (linked_at book.sheet) (key_at key_words book.sheet) index is.agrees (linked_at left.sheet)
        (key_at key_words left.sheet) keeps.linked
        (λ c. words_same book.sheet left.sheet c 0 key_words (λ i. keeps.words i c));
  }

  -- and where an item ends to which the index leads no more
  pub part_ended : (chunk : ℕ) → EndsAt chunk book left
      → IsPart seed key_words left.sheet (slice_set index chunk None)
  part_ended chunk ends = record {
    count = ap₂ (λ f n. f + n) ends.class.first ends.class.count ∙ (is.count ∙ sym (length-set index chunk None));
    own = own_ended chunk book left ends is.own;
    agrees = agrees_same seed (λ c. if chunk == c then None else linked_at book.sheet c) (key_at key_words book.sheet)
        (slice_set index chunk None)
        (agrees_without seed (linked_at book.sheet) (key_at key_words book.sheet) index is.agrees chunk
        (owned_within book.sheet index is.count chunk ends.own)) (linked_at left.sheet)
        (key_at key_words left.sheet) ends.linked
        (λ c. words_same book.sheet left.sheet c 0 key_words (λ i. ends.words i c));
  }

  -- what is linked is one of the index
  pub linked_within : (chunk : ℕ) → IsSome (linked_at book.sheet chunk) → chunk < length index
  linked_within chunk some = led_within index chunk (led_some (led_at index chunk) (linked_at book.sheet chunk)
      (is.agrees.leads chunk) some)

  -- and nothing is before the class's first chunk
  pub linked_from : (chunk : ℕ) → chunk < book.sheet.first → linked_at book.sheet chunk ≡ None
  linked_from chunk low = by (linked_at book.sheet chunk) refl
    where
      by : (at : Option ℕ) → linked_at book.sheet chunk ≡ at → linked_at book.sheet chunk ≡ None
      by None e = e
      by (Some generation) e =
          let from = owned_from book.sheet chunk (is.own chunk (subst IsSome (sym e) refl)) in
          absurd (omega (arith, low, from))

-- the same chunks are a Book's still behind two changes
pub class_then : (book between left : BookView) → IsSameClass book between → IsSameClass between left
    → IsSameClass book left
class_then book between left one other = record {
  first = other.first ∙ one.first;
  count = other.count ∙ one.count;
}

-- and the next turn of looks begins at one of them still
pub cursor_kept : (cursor : ℕ) (book left : BookView) → IsSameClass book left → cursor ≤ book.sheet.count - 1
    → cursor ≤ left.sheet.count - 1
cursor_kept cursor book left class low = subst (λ n. cursor ≤ n - 1) (sym class.count) low

-- and the index's first chunk is theirs
pub first_kept : (first : ℕ) (book left : BookView) → IsSameClass book left → first ≡ book.sheet.first
    → first ≡ left.sheet.first
first_kept first book left class is = is ∙ sym class.first

-- the key of a chunk behind the beginning of an item
pub key_begun : (book begun : BookView) (chunk label key_words : ℕ) (row : List ℕ)
    → ((i c : ℕ) → (chunk == c) ≡ false → last_word i begun.sheet c ≡ last_word i book.sheet c)
    → HasRow chunk label row begun → key_words ≤ length row → (c : ℕ)
    → key_at key_words begun.sheet c ≡ (if chunk == c then take key_words row else key_at key_words book.sheet c)
key_begun book begun chunk label key_words row words has few c = by (chunk == c) refl
  where
    by : (b : Bool) → (chunk == c) ≡ b
        → key_at key_words begun.sheet c ≡ (if chunk == c then take key_words row else key_at key_words book.sheet c)
    by true e = ap (key_at key_words begun.sheet) (sym (eqb-true chunk c e))
        ∙ key_of_row begun chunk label key_words row has few
        ∙ sym (ap (λ b. if b then take key_words row else key_at key_words book.sheet c) e)
    by false e = words_same book.sheet begun.sheet c 0 key_words (λ i. words i c e)
        ∙ sym (ap (λ b. if b then take key_words row else key_at key_words book.sheet c) e)

-- what answers nothing only where nothing is linked answers something where something is
pub where_some : {X : Type 0} (at : Option ℕ) (E : Type 0) (it : Option X) → IsSome at → IfNone it (at ≡ None)
    → IfSome it (λ x. E) → E
where_some at E None has none some = absurd (cc (subst IsSome none has))
where_some at E (Some x) has none some = some

-- it stays a part behind loads of the lists and of the index
pub part_looked : (seed : Seed) (key_words : ℕ) (before after : BookView) (from to : IndexView)
    → IsPart seed key_words before.sheet from.table → LooksOnly before after → to ≡ from
    → IsPart seed key_words after.sheet to.table
part_looked seed key_words before after from to is looks same =
    subst (λ (i : IndexView). IsPart seed key_words after.sheet i.table) (sym same)
    (part_kept seed key_words before after from.table is (looks_keep before after looks))

-- where the key has an item this is it
pub item_some : (key_words : ℕ) (key : List ℕ) (item : Option ℕ) (class : ClassSheet) → IsItemOf key_words key item class
    → IfSome item (λ chunk. HasKey key_words key class chunk)
item_some key_words key None class is = tt
item_some key_words key (Some chunk) class is = is

-- and where it has none no item has the key
pub item_none : (key_words : ℕ) (key : List ℕ) (item : Option ℕ) (class : ClassSheet) → IsItemOf key_words key item class
    → IfNone item ((chunk : ℕ) → HasKey key_words key class chunk → ⊥)
item_none key_words key None class is = is
item_none key_words key (Some chunk) class is = tt

-- the chunk of the key's item is linked
pub item_linked : (key_words : ℕ) (key : List ℕ) (item : Option ℕ) (class : ClassSheet) → IsItemOf key_words key item class
    → (chunk : ℕ) → item ≡ Some chunk → IsSome (linked_at class chunk)
item_linked key_words key item class is chunk same =
    let P : Option ℕ → Type 0 = λ at. IsItemOf key_words key at class in
    let has : HasKey key_words key class chunk = subst P same is in has.linked

-- and the class's own, also behind loads
pub item_owned : (key_words : ℕ) (key : List ℕ) (item : Option ℕ) (book seen : BookView)
    → ((chunk : ℕ) → IsSome (linked_at book.sheet chunk) → owns chunk book.sheet ≡ true) → LooksOnly book seen
    → IsItemOf key_words key item book.sheet → IfSome item (λ chunk. owns chunk seen.sheet ≡ true)
item_owned key_words key None book seen own looks is = tt
item_owned key_words key (Some chunk) book seen own looks is =
    ap (λ (b : BookView). owns chunk b.sheet) looks ∙ own chunk is.linked

-- nothing is linked in a class whose history is empty, and a part of it has an index that leads to nothing
pub part_new : (seed : Seed) (key_words : ℕ) (book : BookView) (index : List (Option Led)) → book.sheet.history ≡ []
    → index ≡ replicate (book.sheet.first + book.sheet.count) None → IsPart seed key_words book.sheet index
part_new seed key_words book index none is = record {
  count = sym (length-replicate (book.sheet.first + book.sheet.count) None) ∙ ap length (sym is);
  own = λ c some. let no : IsSome {T = ℕ} None = subst IsSome (not_linked c) some in absurd (cc no);
  agrees = record {
    leads = λ c. ap generation_led (nothing c) ∙ sym (not_linked c);
    hashes = λ c led at. absurd (cc (sym (nothing c) ∙ at));
    once = λ c d some other same. let no : IsSome {T = ℕ} None = subst IsSome (not_linked c) some in absurd (cc no);
  };
}
  where
    read : (n c : ℕ) → get_or {A = Option Led} (replicate n None) c None ≡ None
    read zero c = refl
    read (suc n) zero = refl
    read (suc n) (suc c) = read n c

    nothing : (c : ℕ) → led_at index c ≡ None
    nothing c = ap (λ i. led_at i c) is ∙ read (book.sheet.first + book.sheet.count) c

    not_linked : (c : ℕ) → linked_at book.sheet c ≡ None
    not_linked c = ap (λ h. linked_standing (standing_in book.sheet.fresh h c)) none
