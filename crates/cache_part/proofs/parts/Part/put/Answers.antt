use Rattle.std.proofs.Common.{◌+◌, None, Some, IfSome, IsSome, refl, sym, ap, ◌∙◌, rules, subst, arith, take, length, suc, ◌≡◌}
use Rattle.bump_links.specs.Lists.{first_of}
use Rattle.cache_lists.specs.Counts.{CountedView}
use Rattle.cache_lists.specs.Items.{IsSameClass}
use Rattle.cache_lists.specs.Linked.{linked_at}
use Rattle.cache_index.specs.Views.{IndexView}
use Rattle.cache_part.specs.Parts.{IsPart}
use Rattle.cache_part.specs.Putting.{MakesRoom, OthersStay, PutsItem, RefusesItem, Told}
use Rattle.cache_part.proofs.HeldLemmas.{finds_none}
use Rattle.cache_part.proofs.KeyLemmas.{old_told_same}
use Rattle.cache_part.proofs.LinkLemmas.{part_linked, links_class, links_under, links_row, links_value, links_ended, links_stay, stay_then, gone_then, first_fact}
use Rattle.cache_part.proofs.PartLemmas.{class_then, cursor_kept, first_kept, item_linked}
use Rattle.cache_part.proofs.ViewLemmas.{both_stay, seen_from}
use Rattle.cache_part.proofs.parts.Part.put.Goals as goal

pub make_room-room-requires : goal.make_room-room-requires
make_room-room-requires g c =
    let all : length c.args.row.now ≡ c.self.inside.settings.key_words + c.self.inside.settings.value_words =
    c.requires.words ∙ sym (ap (λ v. v.key_words + v.value_words) c.self.view_is) in
    record {
      part = c.self.invariant.0;
      words = all;
      told = c.requires.evicted ∙ sym (ap (λ v. suc (v.key_words + v.value_words)) c.self.view_is);
      few = omega (arith, all, c.self.invariant.1);
    }

pub link-requires : goal.link-requires
link-requires g c =
    let all : length c.args.row.now ≡ c.self.inside.settings.key_words + c.self.inside.settings.value_words =
    c.requires.words ∙ sym (ap (λ v. v.key_words + v.value_words) c.self.view_is) in
    let made = c.make_room-room.ensures in let kw = c.self.inside.settings.key_words in record {
      first = made.first ∙ first_kept c.self.inside.index.first c.self.inside.lists.book c.make_room-room.new.lists.book
          made.class c.self.invariant.3;
      count = made.part.count;
      own = made.part.own;
      leads = made.part.agrees.leads;
      old = item_linked kw (take kw c.args.row.now) c.make_room-room.result.found.chunk
          c.make_room-room.new.lists.book.sheet made.item;
      few = omega (arith, all, c.self.invariant.1);
      law = c.requires.law;
      told = c.requires.old ∙ sym (ap (λ v. suc v.value_words) c.self.view_is);
      slots = c.self.invariant.1;
    }

pub invariant_of-self : goal.invariant_of-self
invariant_of-self g c =
    let made = c.make_room-room.ensures in let none = c.in_default.ensures in
    let seed = c.self.inside.settings.seed in let kw = c.self.inside.settings.key_words in
    let P : CountedView → Type 0 = λ v. IsPart seed kw v.book.sheet c.link.new.index.table in
    let Q : IndexView → Type 0 = λ i. IsPart seed kw c.make_room-room.new.lists.book.sheet i.table in
    let R : CountedView → Type 0 = λ v. IsSameClass c.self.inside.lists.book v.book in (
      subst P (sym none.none) (subst Q (sym none.index) made.part),
      c.self.invariant.1,
      cursor_kept c.self.inside.cursor c.self.inside.lists.book c.link.new.lists.book (subst R (sym none.none) made.class)
          c.self.invariant.2,
      none.first ∙ (made.first ∙ first_kept c.self.inside.index.first c.self.inside.lists.book c.link.new.lists.book
          (subst R (sym none.none) made.class) c.self.invariant.3),
    )

pub returns-in_default : goal.returns-in_default
returns-in_default g c =
    let same = c.self.view_is in let inside = c.self.inside.settings in
    let before = c.self.inside.lists in let made = c.make_room-room.ensures in
    let at = c.make_room-room.result.found.chunk in let evicted = c.make_room-room.result.evicted in
    let none = c.in_default.ensures in let left = c.link.new.lists in
    let lanes = c.args.lanes.now in let drained = c.make_room-room.new.lanes in let most = c.args.most in
    let R : CountedView → Type 0 = λ v. MakesRoom inside.items c.args.now at evicted most before lanes v drained in
    let S : CountedView → Type 0 = λ v. OthersStay None None evicted before.book v.book in
    let T : CountedView → Type 0 = λ v. IfSome evicted (λ c. linked_at v.book.sheet c ≡ None) in
    let full : first_of left.book.lists.unused ≡ None =
    ap (λ (v : CountedView). first_of v.book.lists.unused) none.none ∙ none.free in
    let was : Told = record { old = c.args.old.now; evicted = c.args.evicted.now } in
    let told : Told = record { old = c.link.new.told; evicted = c.make_room-room.new.told } in
    record {
      puts = tt;
      refuses = seen_from (λ v w. RefusesItem c.args.tells (record { evicted = evicted }) c.args.row.now c.args.now most was told v lanes w
          drained) _ _ _ same (record {
            had = none.stays;
            others = subst S (sym none.none) made.stay;
            was_linked = first_fact evicted (λ c. IsSome (linked_at before.book.sheet c)) (λ c. at ≡ None) made.another;
            evicted = made.told;
            gone = subst T (sym none.none) made.gone;
            room = record {
              old = at;
              item = made.was;
              none = finds_none inside.items c.args.now at evicted most before lanes left drained
                  (subst R (sym none.none) made.room) full c.promise.ensures.book;
            };
          });
      lengths = (search rules, search rules);
      rest = both_stay _ _ left c.link.new.index.table same;
    }

pub invariant_of-self-2 : goal.invariant_of-self-2
invariant_of-self-2 g c =
    let made = c.make_room-room.ensures in let did = c.in-Some.ensures in
    let seed = c.self.inside.settings.seed in let kw = c.self.inside.settings.key_words in
    let after = c.link.new.lists in
    let all : length c.args.row.now ≡ c.self.inside.settings.key_words + c.self.inside.settings.value_words =
    c.requires.words ∙ sym (ap (λ v. v.key_words + v.value_words) c.self.view_is) in
    let class = class_then c.self.inside.lists.book c.make_room-room.new.lists.book after.book made.class
    (links_class c.self.inside.settings.temporary c.make_room-room.result.found.chunk c.args.row.now c.args.expires
    c.args.now c.in-Some.id c.make_room-room.new.lists.book after.book did.links) in (
      subst (IsPart seed kw after.book.sheet) (sym did.table)
          (part_linked seed kw c.make_room-room.new.lists.book after.book c.make_room-room.new.index.table made.part
          c.args.row.now c.args.expires (omega (arith, all)) c.self.inside.settings.temporary
          c.make_room-room.result.found.chunk c.in-Some.id c.make_room-room.result.found.hash c.args.now did.links made.hash
          made.item),
      c.self.invariant.1,
      cursor_kept c.self.inside.cursor c.self.inside.lists.book after.book class c.self.invariant.2,
      did.first ∙ (made.first ∙ first_kept c.self.inside.index.first c.self.inside.lists.book after.book class
          c.self.invariant.3),
    )

pub returns : goal.returns
returns g c =
    let same = c.self.view_is in let inside = c.self.inside.settings in
    let kw = inside.key_words in let vw = inside.value_words in let before = c.self.inside.lists in
    let made = c.make_room-room.ensures in let between = c.make_room-room.new.lists in
    let at = c.make_room-room.result.found.chunk in let evicted = c.make_room-room.result.evicted in
    let id = c.in-Some.id in let did = c.in-Some.ensures in let left = c.link.new.lists in
    let row = c.args.row.now in let expires = c.args.expires in let now = c.args.now in
    let temporary = inside.temporary in
    let all : length row ≡ kw + vw = c.requires.words ∙ sym (ap (λ v. v.key_words + v.value_words) same) in
    let stays = links_stay temporary at row expires now id between.book left.book did.links in
    let was : Told = record { old = c.args.old.now; evicted = c.args.evicted.now } in
    let told : Told = record { old = c.link.new.told; evicted = c.make_room-room.new.told } in
    record {
      puts = seen_from (λ v w. PutsItem c.args.tells (record { chunk = id.chunk; old = at; evicted = evicted }) row expires now
          c.args.most was told v c.args.lanes.now w c.make_room-room.new.lanes) _ _ _ same (record {
            item = made.was;
            had = old_told_same c.args.tells kw vw at was.old told.old before.book.sheet between.book.sheet
                (λ i c. made.stay.words i c (λ e. absurd (cc e))) did.told;
            under = links_under temporary at row expires now id between.book left.book did.links kw (omega (arith, all))
                (item_linked kw (take kw row) at between.book.sheet made.item);
            value = links_value temporary at row expires now id between.book left.book did.links kw vw all;
            has_row = links_row temporary at row expires now id between.book left.book did.links;
            ended = links_ended temporary at row expires now id between.book left.book did.links;
            others = stay_then (Some id.chunk) at evicted before.book between.book left.book made.stay stays;
            was_another = made.another;
            evicted = made.told;
            gone = gone_then id.chunk at evicted before.book between.book left.book stays made.another made.gone;
            fresh = λ out. sym (made.stay.linked id.chunk (λ e. absurd (cc e)) (λ e. absurd (cc e)) out)
                ∙ did.links.begins.free;
            puts = record {
              between = between;
              room = made.room;
              item = id;
              at = refl;
              links = did.links;
              evictions = did.evictions;
            };
          });
      refuses = tt;
      lengths = (search rules, search rules);
      rest = both_stay _ _ left c.link.new.index.table same;
    }
