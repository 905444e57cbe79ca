use Rattle.std.proofs.Common.{◌≡◌, true, subst}
use Rattle.std.specs.Fn.{CalledAt}
use Rattle.cache_part.specs.Visiting.{has_unexpired}
use Rattle.cache_shelf.specs.Visiting.{entry_at}
use Rattle.bump_cache.specs.Retaining.{TakesAway}
use Rattle.bump_cache.specs.Visiting.{TellsEntry}
use Rattle.bump_cache.proofs.pairs.Pairs.ask_at.Goals as goal

pub returns-then-asked_of-clause-asks : goal.returns-then-asked_of-clause-asks
returns-then-asked_of-clause-asks g c =
    let at = c.in-Some.ensures.some in let found = c.in-Some-unexpired_at in let part = c.args.self.now.part in (
      (at.0, subst (λ chunk. has_unexpired c.args.now part.book.sheet chunk ≡ true) at.1 found.ensures.some),
      record {
        item = record { key = found.key; value = found.value; expires = found.expires };
        tells = subst (λ chunk. TellsEntry g.K.Packed.fits g.K.Packed.as_words g.V.Packed.fits g.V.Packed.as_words
            found.key found.value found.expires (entry_at part chunk)) at.1 found.ensures.tells;
        calls = subst (λ stays. CalledAt g.F.FnMut c.args.keep.now
            (record { key = found.key; value = found.value; expires = found.expires }) stays c.asked_of.new.keep)
            c.if-asked_of.true c.asked_of.ensures.asked;
      },
      found.ensures.reads,
    )

pub returns-clause-asks : goal.returns-clause-asks
returns-clause-asks g c =
    let at = c.in-Some.ensures.some in let found = c.in-Some-unexpired_at in let part = c.args.self.now.part in
    let tells = subst (λ chunk. TellsEntry g.K.Packed.fits g.K.Packed.as_words g.V.Packed.fits g.V.Packed.as_words
    found.key found.value found.expires (entry_at part chunk)) at.1 found.ensures.tells in (
      (at.0, subst (λ chunk. has_unexpired c.args.now part.book.sheet chunk ≡ true) at.1 found.ensures.some),
      record {
        item = record { key = found.key; value = found.value; expires = found.expires };
        tells = tells;
        calls = subst (λ stays. CalledAt g.F.FnMut c.args.keep.now
            (record { key = found.key; value = found.value; expires = found.expires }) stays c.asked_of.new.keep)
            c.if-asked_of.false c.asked_of.ensures.asked;
      },
      record {
        between = c.unexpired_at.new.self;
        looks = found.ensures.reads;
        does = subst (λ key. TakesAway key c.unexpired_at.new.self c.remove.new.self) tells.has_key (record {
          gone = c.remove.ensures.gone;
          others = c.remove.ensures.others;
          ends = c.remove.ensures.ends;
          same = c.remove.ensures.same;
        });
      },
    )
