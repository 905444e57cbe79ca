use Rattle.std.proofs.Common.{List, ℕ, None, drop, refl, sym, ap, ◌∙◌, subst}
use Rattle.cache_handles.specs.declared.putting.PutTold.TheVariants as told
use Rattle.cache_handles.specs.Desks.{DeskView}
use Rattle.cache_handles.specs.Looking.{HadWords}
use Rattle.cache_handles.specs.Putting.{Puts, TellsPut, Touches}
use Rattle.cache_handles.specs.Views.{BytePartView, key_row}
use Rattle.bump_cache.specs.Putting.{HadValue}
use Rattle.cache_handles.proofs.DeskLemmas.{anew_behind, key_found, part_of, read_before, rest_found, rest_put, tells_put}
use Rattle.cache_handles.proofs.parts.BytePart.touch.Goals as goal

pub returns-then-not-find : goal.returns-then-not-find
returns-then-not-find g c =
    let before = c.self.inside.desk in
    let is = c.in_default.ensures.rest
    ∙ ap (λ (key : List ℕ). record before { key = key }) c.in_default.ensures.spelled in
    let reads = read_before before c.args.key.now c.refusal.new.desk c.find.new.self is c.find.ensures.reads
    c.find.ensures.rest in
    let had = subst (λ (desk : DeskView). HadValue desk.key None c.args.now desk.shelf.part) is
    (c.if-not-find.ensures.none refl) in
    subst (λ (part : BytePartView). TellsPut (Touches (key_row part c.args.key.now) c.args.expires c.args.now)
    c.args.key.now 0 part (part_of c.find.new.self) told.Nothing) c.self.view_is
    (tells_put _ c.args.key.now 0 (part_of before) (part_of c.find.new.self) told.Nothing
    (sym c.in_default.ensures.told) (record { had = had; reads = reads })
    (rest_found before c.args.key.now c.refusal.new.desk c.find.new.self is c.find.ensures.reads
    c.find.ensures.rest))

pub returns : goal.returns
returns g c =
    let before = c.self.inside.desk in
    let found = c.find.new.self in
    let key = key_row (part_of before) c.args.key.now in
    let is = c.in_default.ensures.rest
    ∙ ap (λ (key : List ℕ). record before { key = key }) c.in_default.ensures.spelled in
    let reads = read_before before c.args.key.now c.refusal.new.desk found is c.find.ensures.reads
    c.find.ensures.rest in
    let had = subst (λ (desk : DeskView). HadWords desk.key c.args.now found.had desk.shelf.part) is
    (c.if-not-find.ensures.some refl) in
    let puts = subst (λ (value : List ℕ). Puts key value c.args.expires c.args.now found.shelf
    c.put_again.new.self.shelf c.put_again.result) (ap (drop 1) had.words_are)
    (subst (λ (words : List ℕ). Puts words (drop 1 found.had) c.args.expires c.args.now found.shelf
    c.put_again.new.self.shelf c.put_again.result) (key_found before c.args.key.now c.refusal.new.desk found is
    c.find.ensures.reads c.find.ensures.rest) c.put_again.ensures.puts) in
    subst (λ (part : BytePartView). TellsPut (Touches (key_row part c.args.key.now) c.args.expires c.args.now)
    c.args.key.now 0 part (part_of c.put_again.new.self) c.put_again.result) c.self.view_is
    (tells_put _ c.args.key.now 0 (part_of before) (part_of c.put_again.new.self) c.put_again.result
    (sym c.in_default.ensures.told)
    (anew_behind (λ value. value) (λ until. c.args.expires) key found.had c.args.now
    before.shelf found.shelf c.put_again.new.self.shelf c.put_again.result had reads puts)
    (rest_put before c.args.key.now c.refusal.new.desk found is c.find.ensures.reads c.find.ensures.rest
    c.put_again.new.self c.put_again.ensures.rest))
