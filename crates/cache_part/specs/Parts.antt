-- What contracts see of a part, and what every part keeps.
use Rattle.std.specs.Prelude.{◌≡◌, ℕ, ◌+◌, true, List, length, Option, Some, IsSome, option_map}
use Rattle.bump_steps.specs.declared.views.ClassSheet.{ClassSheet}
use Rattle.bump_steps.specs.Views.{owns}
use Rattle.bump_class.specs.Books.{BookView}
use Rattle.cache_lists.specs.declared.flow.Flow.{Flow}
use Rattle.cache_lists.specs.declared.evictions.Evictions.{Evictions}
use Rattle.cache_lists.specs.Counts.{CountedView}
use Rattle.cache_lists.specs.Linked.{linked_at}
use Rattle.cache_index.specs.Views.{Led, led_at}
use Rattle.keyed_hash.specs.declared.seed.Seed.{Seed}
use Rattle.keyed_hash.specs.Hashes.{hash_of}
use Rattle.cache_part.specs.Keys.{key_at, HasKey, IsItemOf}
use Rattle.cache_part.specs.Looks.{LooksOnly}

-- The Book, how its items went from list to list, and what was evicted; what the index leads to, by chunk; the seed of
-- the keys' hashes, how many words a key and a value have, how many items there may be, and within how many ticks an
-- item expires that is linked in TEMP; and at which of the class's chunks, numbered from 0 on, the next turn of looks
-- for expired items begins.
pub record PartView : Type 0 where
  pub book : BookView
  pub flow : Flow
  pub evictions : Evictions
  pub index : List (Option Led)
  pub seed : Seed
  pub key_words : ℕ
  pub value_words : ℕ
  pub items : ℕ
  pub temporary : Option ℕ
  pub cursor : ℕ

-- its Book, and what that counts
abbrev pub counted : PartView → CountedView
counted part = record { book = part.book; flow = part.flow; evictions = part.evictions }

-- the generation to which the index leads, if it does
abbrev pub generation_led : Option Led → Option ℕ
generation_led at = option_map (λ (led : Led). led.generation) at

-- An index leads to what is linked, and to nothing else, by the hash of its key; and each key is that of one item.
pub record Agrees (seed : Seed) (linked : ℕ → Option ℕ) (keys : ℕ → List ℕ) (index : List (Option Led)) : Type 0 where
  pub leads : (chunk : ℕ) → generation_led (led_at index chunk) ≡ linked chunk
  pub hashes : (chunk : ℕ) (led : Led) → led_at index chunk ≡ Some led → led.hash ≡ hash_of seed (keys chunk)
  pub once : (chunk other : ℕ) → IsSome (linked chunk) → IsSome (linked other) → keys chunk ≡ keys other → chunk ≡ other

-- What every part keeps: the class's last chunk is that of the index, all that is linked is the class's own, and both
-- agree. So the index leads to no chunk before the class's first.
pub record IsPart (seed : Seed) (key_words : ℕ) (class : ClassSheet) (index : List (Option Led)) : Type 0 where
  pub count : class.first + class.count ≡ length index
  pub own : (chunk : ℕ) → IsSome (linked_at class chunk) → owns chunk class ≡ true
  pub agrees : Agrees seed (linked_at class) (key_at key_words class) index

-- an item is linked at this chunk, and its key is this
abbrev pub IsUnder : List ℕ → ℕ → PartView → Type 0
IsUnder key chunk part = HasKey part.key_words key part.book.sheet chunk

-- no item has this key
abbrev pub IsUnknown : List ℕ → PartView → Type 0
IsUnknown key part = (chunk : ℕ) → IsUnder key chunk part → ⊥

-- this is the chunk of the key's item, or the key has none
abbrev pub IsItem : List ℕ → Option ℕ → PartView → Type 0
IsItem key item part = IsItemOf part.key_words key item part.book.sheet

-- Nothing changed but what the class's seat notes of its loads.
pub record OnlyReads (before after : PartView) : Type 0 where
  pub looks : LooksOnly before.book after.book
  pub rest : after ≡ record before { book = after.book }
