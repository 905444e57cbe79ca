use Rattle.std.proofs.Common.{ap, ◌∙◌, List, ◌++◌, map}
use Rattle.bump_heads.specs.declared.views.ClassView.{ClassView}
use Rattle.bump_heads.specs.Making.{class_seen}
use Rattle.bump_heads.proofs.Makings.{class_turn, no_bump}
use Rattle.bump_heads.proofs.making.part_classes.Goals as goal

pub invariant_of-push : goal.invariant_of-push
invariant_of-push g c = let o = c.loop-class.invariant in
    let t = class_turn g.N.Name.table c.loop-class.seat.me c.args.seat.now.me.0 c.loop-class.class c.args.count
    c.loop-class.seats.items (map class_seen c.args.seat.now.me.0.classes) c.part_class-sheet.new.seat.me
    c.part_class-sheet.result.me o.rest o.count c.loop-class-test.true o.numbers o.sheets
    c.part_class-sheet.ensures.sheets.0 c.part_class-sheet.ensures.sheets.1 in
    (t.0, c.part_class-sheet.ensures.same.2 ∙ o.id, t.1, t.2, t.3, (no_bump, t.4))

pub loop-class-preserved : goal.loop-class-preserved
loop-class-preserved g c = let o = c.loop-class.invariant in
    let t = class_turn g.N.Name.table c.loop-class.seat.me c.args.seat.now.me.0 c.loop-class.class c.args.count
    c.loop-class.seats.items (map class_seen c.args.seat.now.me.0.classes) c.part_class-sheet.new.seat.me
    c.part_class-sheet.result.me o.rest o.count c.loop-class-test.true o.numbers o.sheets
    c.part_class-sheet.ensures.sheets.0 c.part_class-sheet.ensures.sheets.1 in
    record {
      id = c.part_class-sheet.ensures.same.0 ∙ o.id;
      rest = t.5;
      count = t.6;
      numbers = t.7;
      sheets =
          ap (λ (x : List ClassView). x ++ map class_seen c.part_class-sheet.new.seat.me.0.classes)
          c.in_ok-push.ensures.items ∙ t.8;
    }
