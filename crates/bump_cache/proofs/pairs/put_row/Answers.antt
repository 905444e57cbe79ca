use Rattle.std.proofs.Common.{◌≡◌, true, length, take, drop, sym, ap, ◌∙◌, subst}
use Rattle.cache_part.specs.Putting.{FindsNoRoom, Puts}
use Rattle.cache_shelf.specs.Entries.{AllKept, Had, Keeps, OthersKept, key_of_evicted}
use Rattle.cache_shelf.specs.Turns.{PutsInTurn}
use Rattle.bump_cache.specs.Pairs.{IsPair}
use Rattle.bump_cache.proofs.Telling.{entry_told, evicted_told, first_part, had_item, key_told, old_told, second_part, value_told}
use Rattle.bump_cache.proofs.pairs.put_row.Goals as goal

pub told_value-old-requires-clause-value : goal.told_value-old-requires-clause-value
told_value-old-requires-clause-value g c = value_told g.K.Packed.fits g.K.Packed.as_words g.V.Packed.fits
    g.V.Packed.as_words g.K.Packed.width g.V.Packed.width g.met.K.Packed.length_is g.met.V.Packed.length_is
    c.args.shelf.now.part c.requires.key c.requires.value _ c.in-Ok.did.old _ _ c.in-Ok.ensures.puts.had

pub told_evicted-gone-requires-clause-pair : goal.told_evicted-gone-requires-clause-pair
told_evicted-gone-requires-clause-pair g c = entry_told g.K.Packed.fits g.K.Packed.as_words g.V.Packed.fits
    g.V.Packed.as_words g.K.Packed.width g.V.Packed.width g.met.K.Packed.length_is g.met.V.Packed.length_is
    c.args.shelf.now.part c.requires.key c.requires.value c.in-Ok.did.evicted _ _ _ c.in-Ok.ensures.puts.evicted

pub told_evicted-lost-requires-clause-pair : goal.told_evicted-lost-requires-clause-pair
told_evicted-lost-requires-clause-pair g c = entry_told g.K.Packed.fits g.K.Packed.as_words g.V.Packed.fits
    g.V.Packed.as_words g.K.Packed.width g.V.Packed.width g.met.K.Packed.length_is g.met.V.Packed.length_is
    c.args.shelf.now.part c.requires.key c.requires.value c.in-Err.why.evicted _ _ _ c.in-Err.ensures.refuses.evicted

pub returns-clause-puts : goal.returns-clause-puts
returns-clause-puts g c =
    let now = c.args.shelf.now.part in let row = c.args.row.now in let e = c.in-Ok.ensures.puts in
    let long : now.key_words ≡ length (g.K.Packed.as_words c.args._key.now) =
    c.requires.key ∙ sym (g.met.K.Packed.length_is _ c.requires.in_range.0) in
    let first : take now.key_words row ≡ g.K.Packed.as_words c.args._key.now =
    ap (take now.key_words) c.requires.row ∙ first_part _ _ _ long in
    let second : drop now.key_words row ≡ g.V.Packed.as_words c.args._value.now =
    ap (drop now.key_words) c.requires.row ∙ second_part _ _ _ long in
    let had = subst (λ key. Had (IsPair g.K.Packed.fits g.K.Packed.as_words g.V.Packed.fits g.V.Packed.as_words) key
    c.in-Ok.did.old c.args.had.now c.put.new.old now) first e.had in
    record {
      kept = subst (λ key. Keeps key (g.V.Packed.as_words c.args._value.now) c.args.expires c.put.new.self.part) first
          (subst (λ words. Keeps (take now.key_words row) words c.args.expires c.put.new.self.part) second e.kept);
      old = old_told g.K.Packed.fits g.K.Packed.as_words g.V.Packed.fits g.V.Packed.as_words g.K.Packed.width
          g.V.Packed.width g.met.K.Packed.length_is g.met.V.Packed.length_is now c.requires.key c.requires.value
          c.promise.ensures.part _ c.in-Ok.did.old _ _ c.args.now c.told_value-old.result had
          c.told_value-old.ensures.none c.told_value-old.ensures.told;
      evicted = evicted_told g.K.Packed.fits g.K.Packed.as_words g.V.Packed.fits g.V.Packed.as_words g.K.Packed.width
          g.V.Packed.width g.met.K.Packed.length_is g.met.V.Packed.length_is now c.requires.key c.requires.value
          c.in-Ok.did.evicted _ _ c.args.now _ c.told_evicted-gone.result e.evicted c.told_evicted-gone.ensures.told
          c.told_evicted-gone.ensures.evicted;
      others = subst (λ out. OthersKept (g.K.Packed.as_words c.args._key.now) out now c.put.new.self.part)
          (key_told g.K.Packed.fits g.K.Packed.as_words g.V.Packed.fits g.V.Packed.as_words g.K.Packed.width
          g.V.Packed.width g.met.K.Packed.length_is g.met.V.Packed.length_is now c.requires.key c.requires.value
          c.in-Ok.did.evicted _ _ c.args.now _ c.told_evicted-gone.result e.evicted c.told_evicted-gone.ensures.told
          c.told_evicted-gone.ensures.evicted)
          (subst (λ key. OthersKept key (key_of_evicted c.in-Ok.did.evicted now) now c.put.new.self.part) first
          e.others);
      puts = record {
        old = c.in-Ok.did.old;
        item = had_item true _ _ c.in-Ok.did.old _ _ now had;
        evicted = c.in-Ok.did.evicted;
        told_evicted = sym c.told_evicted-gone.ensures.told;
        chunk = c.in-Ok.did.chunk;
        puts = subst (λ row. PutsInTurn (Puts c.in-Ok.did.old c.in-Ok.did.evicted row c.args.expires c.args.now
            c.in-Ok.did.chunk) c.args.now c.args.shelf.now c.put.new.self) c.requires.row e.puts;
      };
    }

pub returns-in-Err-clause-refuses : goal.returns-in-Err-clause-refuses
returns-in-Err-clause-refuses g c =
    let now = c.args.shelf.now.part in let e = c.in-Err.ensures.refuses in
    let one : take now.key_words c.args.row.now ≡ g.K.Packed.as_words c.args._key.now =
    ap (take now.key_words) c.requires.row ∙ first_part _ _ _
    (c.requires.key ∙ sym (g.met.K.Packed.length_is _ c.requires.in_range.0)) in
    record {
      evicted = evicted_told g.K.Packed.fits g.K.Packed.as_words g.V.Packed.fits g.V.Packed.as_words g.K.Packed.width
          g.V.Packed.width g.met.K.Packed.length_is g.met.V.Packed.length_is now c.requires.key c.requires.value
          c.in-Err.why.evicted _ _ c.args.now _ c.told_evicted-lost.result e.evicted
          c.told_evicted-lost.ensures.told c.told_evicted-lost.ensures.evicted;
      stay = subst (λ out. AllKept out now c.put.new.self.part)
          (key_told g.K.Packed.fits g.K.Packed.as_words g.V.Packed.fits g.V.Packed.as_words g.K.Packed.width
          g.V.Packed.width g.met.K.Packed.length_is g.met.V.Packed.length_is now c.requires.key c.requires.value
          c.in-Err.why.evicted _ _ c.args.now _ c.told_evicted-lost.result e.evicted
          c.told_evicted-lost.ensures.told c.told_evicted-lost.ensures.evicted) e.stay;
      refuses = record {
        evicted = c.in-Err.why.evicted;
        told_evicted = sym c.told_evicted-lost.ensures.told;
        refuses = subst (λ key. PutsInTurn (FindsNoRoom key c.in-Err.why.evicted c.args.now) c.args.now
            c.args.shelf.now c.put.new.self) one e.refuses;
      };
    }
