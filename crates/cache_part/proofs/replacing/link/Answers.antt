use Rattle.std.proofs.Common.{◌≡◌, ◌≤◌, ◌∷◌, ℕ, Option, Some, IsSome, sym, ap, ap₂, ◌∙◌, subst, ne_eqb, if◌then◌else◌}
use Rattle.bump_class.specs.Changes.{book_with_words}
use Rattle.cache_lists.specs.Linked.{linked_at}
use Rattle.cache_lists.proofs.Standings.{owns_same}
use Rattle.cache_index.specs.Views.{led_at}
use Rattle.cache_part.specs.Putting.{Links, TellsOldWords, leads_anew, told_if}
use Rattle.cache_part.proofs.Agreements.{led_some, led_within}
use Rattle.cache_part.proofs.KeyLemmas.{words_same}
use Rattle.cache_part.proofs.LinkLemmas.{begun_elsewhere, led_nothing}
use Rattle.cache_part.proofs.PartLemmas.{owned_from, owned_within}
use Rattle.cache_part.proofs.replacing.link.Goals as goal

pub replace-requires : goal.replace-requires
replace-requires g c =
    let before = c.args.lists.now.book in let begun = c.begin.new.self.book in let table = c.args.index.now.table in
    let begins = c.in-Some.ensures.begins in let id = c.in-Some.id in let old = c.in-Some-chunk.old in
    let was = c.requires.old old c.in-Some-chunk.is in
    let within = led_within table old (led_some (led_at table old) (linked_at before.sheet old) (c.requires.leads old) was) in
    let same : linked_at begun.sheet old ≡ linked_at before.sheet old = begins.linked old
    ∙ ap (λ b. if b then Some id.generation else linked_at before.sheet old)
    (ne_eqb id.chunk old (begun_elsewhere before begun id old begins was)) in
    record {
      within = within;
      own = owns_same before begun begins.class old ∙ c.requires.own old was;
      linked = subst IsSome (sym same) was;
      led = c.requires.leads old ∙ sym same;
      first = subst (λ f. f ≤ id.chunk) (sym c.requires.first) (owned_from before.sheet id.chunk begins.own);
      chunk = owned_within before.sheet table c.requires.count id.chunk begins.own;
      anew = led_nothing (led_at table id.chunk) (linked_at before.sheet id.chunk) (c.requires.leads id.chunk) begins.free;
      told = c.requires.told;
      slots = c.requires.slots;
    }

pub put-requires : goal.put-requires
put-requires g c =
    let before = c.args.lists.now.book in let table = c.args.index.now.table in
    let begins = c.in-Some.ensures.begins in let id = c.in-Some.id in
    record {
      first = subst (λ f. f ≤ id.chunk) (sym c.requires.first) (owned_from before.sheet id.chunk begins.own);
      chunk = owned_within before.sheet table c.requires.count id.chunk begins.own;
      anew = led_nothing (led_at table id.chunk) (linked_at before.sheet id.chunk) (c.requires.leads id.chunk) begins.free;
    }

pub returns-in-Some-chunk-clause-table : goal.returns-in-Some-chunk-clause-table
returns-in-Some-chunk-clause-table g c =
    let P : Option ℕ → Type 0 = λ o. c.replace.new.index.table
    ≡ leads_anew c.args.found.hash o c.in-Some.id c.args.index.now.table in
    subst P (sym c.in-Some-chunk.is) (c.replace.ensures.table c.args.found.hash)

pub returns-in-Some-chunk-clause-links : goal.returns-in-Some-chunk-clause-links
returns-in-Some-chunk-clause-links g c =
    let did = c.in-Some.ensures in
    let P : Option ℕ → Type 0 = λ o. Links c.args.settings.temporary o c.args.row.now c.args.expires c.args.now
    c.in-Some.id c.args.lists.now.book c.replace.new.lists.book in
    subst P (sym c.in-Some-chunk.is) (record {
      first = did.first;
      begun = c.begin.new.self.book;
      linked = subst (λ s. c.begin.new.self.book ≡ book_with_words s c.in-Some.id c.args.expires c.args.row.now c.args.now
          c.args.lists.now.book) c.start-start.ensures did.linked;
      begins = did.begins;
      has_row = did.row;
      ends = (c.replace.ensures.ends, c.replace.ensures.others);
    })

pub returns-in-Some-chunk-clause-told : goal.returns-in-Some-chunk-clause-told
returns-in-Some-chunk-clause-told g c =
    let before = c.args.lists.now.book in let begun = c.begin.new.self.book in
    let begins = c.in-Some.ensures.begins in let id = c.in-Some.id in let old = c.in-Some-chunk.old in
    let kw = c.args.settings.key_words in let vw = c.args.settings.value_words in let tells = c.args.tells in
    let apart = ne_eqb id.chunk old (begun_elsewhere before begun id old begins (c.requires.old old c.in-Some-chunk.is)) in
    let P : Option ℕ → Type 0 = λ o. TellsOldWords tells kw vw o c.args.told.now c.replace.new.told before.sheet in
    subst P (sym c.in-Some-chunk.is) (c.replace.ensures.told ∙ ap (λ words. told_if tells words c.args.told.now)
    (ap₂ (λ x xs. x ∷ xs) (begins.words 0 old apart)
    (words_same before.sheet begun.sheet old kw vw (λ i. begins.words i old apart))))
