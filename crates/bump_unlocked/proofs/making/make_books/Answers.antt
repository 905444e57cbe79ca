use Rattle.std.proofs.Common.{rules, ◌-◌, List, map, sym, ap, ◌∙◌}
use Rattle.std.proofs.lemmas.List.{drop_more}
use Rattle.bump_heads.specs.Making.{class_seen}
use Rattle.bump_heads.specs.Seats.{no_class}
use Rattle.bump_heads.specs.declared.views.ClassView.{ClassView}
use Rattle.bump_readers.specs.Seats.{head_or}
use Rattle.bump_rules.specs.declared.configs.ClassConfig.{ClassConfig}
use Rattle.bump_steps.specs.Rule.{class_sheets}
use Rattle.bump_unlocked.proofs.making.make_books.Goals as goal

abbrev none : ClassConfig
none = record { chunks = 0; hot = 0; warm = 0 }

pub unreachable-requires : goal.unreachable-requires
unreachable-requires g c = let l = c.loop-class in
    let some = l.invariant.seats ∙ ap (λ (ks : List ClassConfig). map class_seen (class_sheets (c.args.first_generation - 1) l.class-index l.first ks)) (drop_more c.args.classes.now l.class-index none c.loop-class-test.true) in
    search (rules, some)

pub new-requires-clause-fresh : goal.new-requires-clause-fresh
new-requires-clause-fresh g c = let l = c.loop-class in
    let is = ap (head_or (class_seen no_class)) (sym c.in-Some.ensures.items ∙ l.invariant.seats ∙ ap (λ (ks : List ClassConfig). map class_seen (class_sheets (c.args.first_generation - 1) l.class-index l.first ks)) (drop_more c.args.classes.now l.class-index none c.loop-class-test.true)) in
    record { alone = ap (λ (x : ClassView). x.lane) is; history = ap (λ (x : ClassView). x.sheet.history) is; labels = ap (λ (x : ClassView). x.sheet.labels) is; steps = ap (λ (x : ClassView). x.sheet.steps) is; idle = ap (λ (x : ClassView). x.sheet.applying) is }

pub new-requires-clause-first : goal.new-requires-clause-first
new-requires-clause-first g c = let l = c.loop-class in
    sym (ap (λ (x : ClassView). x.sheet.first) (ap (head_or (class_seen no_class)) (sym c.in-Some.ensures.items ∙ l.invariant.seats ∙ ap (λ (ks : List ClassConfig). map class_seen (class_sheets (c.args.first_generation - 1) l.class-index l.first ks)) (drop_more c.args.classes.now l.class-index none c.loop-class-test.true))))
