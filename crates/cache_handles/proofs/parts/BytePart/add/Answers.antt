use Rattle.std.proofs.Common.{List, ℕ, None, length, refl, sym, ap, ◌∙◌, subst}
use Rattle.cache_handles.specs.declared.putting.PutTold.TheVariants as told
use Rattle.cache_handles.specs.Desks.{DeskView}
use Rattle.cache_handles.specs.Looking.{HadWords}
use Rattle.cache_handles.specs.Putting.{Adds, Puts, TellsPut}
use Rattle.cache_handles.specs.Rows.{value_row}
use Rattle.cache_handles.specs.Views.{BytePartView, key_row}
use Rattle.bump_cache.specs.Putting.{HadValue}
use Rattle.cache_handles.proofs.DeskLemmas.{adds_behind, finds_some, key_found, part_of, read_before, rest_found, rest_put, tells_put, width_same}
use Rattle.cache_handles.proofs.parts.BytePart.add.Goals as goal

pub returns-then-find : goal.returns-then-find
returns-then-find g c =
    let before = c.self.inside.desk in
    let is = c.in_default.ensures.rest
    ∙ ap (λ (key : List ℕ). record before { key = key }) c.in_default.ensures.spelled in
    let reads = read_before before c.args.key.now c.refusal.new.desk c.find.new.self is c.find.ensures.reads
    c.find.ensures.rest in
    let had = subst (λ (desk : DeskView). HadWords desk.key c.args.now c.find.new.self.had desk.shelf.part) is
    (c.if-find.ensures.some refl) in
    subst (λ (part : BytePartView). TellsPut (Adds (key_row part c.args.key.now)
    (value_row part.shelf.part.value_words c.args.flags c.args.value.now) c.args.expires c.args.now) c.args.key.now
    (length c.args.value.now) part (part_of c.find.new.self) told.Has) c.self.view_is
    (tells_put _ c.args.key.now (length c.args.value.now) (part_of before) (part_of c.find.new.self) told.Has
    (sym c.in_default.ensures.told)
    (finds_some (key_row (part_of before) c.args.key.now) c.find.new.self.had c.args.now before.shelf
    c.find.new.self.shelf had reads)
    (rest_found before c.args.key.now c.refusal.new.desk c.find.new.self is c.find.ensures.reads
    c.find.ensures.rest))

pub returns : goal.returns
returns g c =
    let before = c.self.inside.desk in
    let found = c.find.new.self in
    let key = key_row (part_of before) c.args.key.now in
    let row : ℕ → List ℕ = λ width. value_row width c.args.flags c.args.value.now in
    let is = c.in_default.ensures.rest
    ∙ ap (λ (key : List ℕ). record before { key = key }) c.in_default.ensures.spelled in
    let reads = read_before before c.args.key.now c.refusal.new.desk found is c.find.ensures.reads
    c.find.ensures.rest in
    let had = subst (λ (desk : DeskView). HadValue desk.key None c.args.now desk.shelf.part) is
    (c.if-find.ensures.none refl) in
    let puts = subst (λ (width : ℕ). Puts key (row width) c.args.expires c.args.now found.shelf c.put.new.self.shelf
    c.put.result) (width_same before.shelf found.shelf reads)
    (subst (λ (words : List ℕ). Puts words (row found.shelf.part.value_words) c.args.expires c.args.now found.shelf
    c.put.new.self.shelf c.put.result) (key_found before c.args.key.now c.refusal.new.desk found is
    c.find.ensures.reads c.find.ensures.rest) c.put.ensures.puts) in
    subst (λ (part : BytePartView). TellsPut (Adds (key_row part c.args.key.now)
    (value_row part.shelf.part.value_words c.args.flags c.args.value.now) c.args.expires c.args.now) c.args.key.now
    (length c.args.value.now) part (part_of c.put.new.self) c.put.result) c.self.view_is
    (tells_put _ c.args.key.now (length c.args.value.now) (part_of before) (part_of c.put.new.self) c.put.result
    (sym c.in_default.ensures.told)
    (adds_behind key (row before.shelf.part.value_words) c.args.expires c.args.now before.shelf found.shelf
    c.put.new.self.shelf c.put.result had reads puts)
    (rest_put before c.args.key.now c.refusal.new.desk found is c.find.ensures.reads c.find.ensures.rest
    c.put.new.self c.put.ensures.rest))
