use Rattle.std.proofs.Common.{ℕ, rules, inl, inr, subst}
use Rattle.bump_rules.specs.declared.configs.Config.{Config}
use Rattle.bump_unlocked.specs.Workers.{WorkerState}
use Rattle.cache_readers.specs.Glances.{GlancesInVain}
use Rattle.cache_readers.specs.Looks.{Finds}
use Rattle.cache_readers.proofs.LookLemmas.{found_glanced, found_held}
use Rattle.cache_readers.proofs.ReaderLemmas.{behind_glance, missed_glanced}
use Rattle.cache_readers.proofs.readers.WordReader.get_held.Goals as goal

pub returns-in_default-clause-found : goal.returns-in_default-clause-found
returns-in_default-clause-found g c = λ before glanced _.
    behind_glance (λ (config : Config) (anew : ℕ). Finds g.L.RowLaw.law config c.args.key.now
    c.find_from-found.new.value c.args.now anew c.find_from-found.new.anew before.worker c.find_from-found.new.worker)
    c.args.id before c.args.self.now _ _ glanced (search rules) (search rules) (inr (found_glanced _ _ _ _ _ _ _ _ _ c.in-Ok.sight
    c.in_default.is (c.in-Ok.ensures.finds before.worker
    (subst (λ (w : WorkerState). GlancesInVain c.args.id.chunk before.worker w) (search rules) glanced.glances))))

pub returns-clause-found : goal.returns-clause-found
returns-clause-found g c = λ before glanced _.
    behind_glance (λ (config : Config) (anew : ℕ). Finds g.L.RowLaw.law config c.args.key.now c.read_words.new.words
    c.args.now anew c.find_from-found.new.anew before.worker c.touch.new.worker) c.args.id before c.args.self.now
    _ _ glanced (search rules) (search rules) (inl (record {
      hold = c.in-Some.hold;
      hits = record {
        found = c.in-Some.head;
        between = c.find_from-found.new.worker;
        takes = found_held _ _ _ _ _ _ _ _ _ c.in-Ok.sight _ _ c.in-Some.is
            (c.in-Ok.ensures.finds before.worker
            (subst (λ (w : WorkerState). GlancesInVain c.args.id.chunk before.worker w) (search rules) glanced.glances));
        touches = search rules;
      };
      has_value = search rules;
    }))

pub returns-in-Err-clause-absent : goal.returns-in-Err-clause-absent
returns-in-Err-clause-absent g c = λ before glanced _.
    missed_glanced c.in-Err.why c.args.hash c.args.key.now c.args.now c.args.id before c.args.self.now _ _ _ _ _ _ _ _
    glanced (search rules) (search rules) (search rules) (search rules) (search rules) c.in-Err.ensures.missed
