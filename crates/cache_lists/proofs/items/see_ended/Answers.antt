use Rattle.std.proofs.Common.{refl, ap, ◌∙◌}
use Rattle.cache_lists.specs.Linked.{linked_at}
use Rattle.cache_lists.proofs.LookLemmas.{head_looks, label_looks, looks_then}
use Rattle.cache_lists.proofs.Standings.{unlinked_shown}
use Rattle.cache_lists.proofs.items.see_ended.Goals as goal

pub returns-clause-marks : goal.returns-clause-marks
returns-clause-marks g c = record {
  head = c.load_head-head.result;
  between = c.label-expires.new.self;
  look = c.load_head-head.ensures.looked;
  fits = c.load_head-head.ensures.fits;
  unlinked = unlinked_shown c.label-expires.new.self.sheet c.args.chunk c.load_head-head.result
      (ap (λ b. linked_at b.sheet c.args.chunk) c.label-expires.ensures.seen ∙ c.requires.ended)
      c.load_head-head.ensures.agrees;
  is_fetched = refl;
  is_active = refl;
}

pub returns-clause-looks : goal.returns-clause-looks
returns-clause-looks g c =
    looks_then c.args.book.now c.label-expires.new.self c.load_head-head.new.self
    (label_looks c.args.book.now c.label-expires.new.self c.args.chunk c.label-expires.result c.label-expires.ensures.seen)
    (head_looks c.label-expires.new.self c.load_head-head.new.self c.args.chunk c.load_head-head.result
    c.load_head-head.ensures.looked)
