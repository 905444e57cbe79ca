use Rattle.std.proofs.Common.{◌≡◌, ◌*◌, true, List, sym, ◌∙◌, subst, arith}
use Rattle.std.specs.Prelude.{is_none}
use Rattle.bump_rules.specs.Caches.{cache_refs}
use Rattle.bump_rules.specs.Configs.{first_fault_within, wide_most}
use Rattle.bump_rules.specs.declared.configs.ClassConfig.{ClassConfig}
use Rattle.cache_config.specs.Configs.{class_of}
use Rattle.cache_config.proofs.Places.{get_pushed, length_pushed}
use Rattle.cache_config.proofs.Soundness.{sound, valid_store}
use Rattle.cache_config.proofs.config.CacheConfig.store.Goals as goal

pub loop-part-preserved : goal.loop-part-preserved
loop-part-preserved c =
    let so_far = c.loop-part.invariant in
    let items = c.in_ok-push.ensures.items in record {
      count = length_pushed _ _ c.loop-part.part c.class.result so_far.count items;
      class = get_pushed (class_of c.args.self.now) _ _ c.loop-part.part c.class.result so_far.count items so_far.class
          c.class.ensures;
    }

pub invariant_of-result : goal.invariant_of-result
invariant_of-result c =
    let is = sound c.args.self.now c.requires.sound in
    let so_far = c.loop-part.invariant in
    let end : c.loop-part.part ≡ c.args.self.now.parts =
    omega (arith, c.loop-part-test.false, c.loop-part.auto.part-end) in
    let workers : c.args.self.now.readers * c.args.self.now.parts ≡ c.workers.result =
    omega (arith, c.workers.ensures, is.workers_most) in
    let classes : c.loop-part.classes.items ≡ c.from_vec.result = sym c.from_vec.ensures in
    let valid = valid_store c.args.self.now c.loop-part.classes.items is (so_far.count ∙ end)
    (λ part low. so_far.class part (omega (arith, low, end))) in
    record {
      valid = subst (λ (ks : List ClassConfig).
          is_none (first_fault_within wide_most c.workers.result c.args.self.now.ring cache_refs 1 ks) ≡ true) classes
          (subst (λ n. is_none (first_fault_within wide_most n c.args.self.now.ring cache_refs 1 c.loop-part.classes.items) ≡ true)
          workers valid);
    }
