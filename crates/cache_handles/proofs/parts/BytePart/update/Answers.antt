use Rattle.std.proofs.Common.{◌≡◌, List, ◌∷◌, ℕ, ◌%◌, ◌^◌, None, length, refl, sym, ap, ◌∙◌, subst}
use Rattle.std.specs.Prelude.{slice_index}
use Rattle.cache_handles.specs.declared.putting.PutTold.TheVariants as told
use Rattle.cache_handles.specs.Desks.{DeskView}
use Rattle.cache_handles.specs.Looking.{HadWords}
use Rattle.cache_handles.specs.Putting.{Puts, TellsPut, Updates}
use Rattle.cache_handles.specs.Rows.{value_row}
use Rattle.cache_handles.specs.Views.{BytePartView, key_row}
use Rattle.bump_cache.specs.Putting.{HadValue}
use Rattle.cache_handles.proofs.DeskLemmas.{anew_behind, key_found, part_of, read_before, rest_found, rest_put, tells_put, width_same}
use Rattle.cache_handles.proofs.parts.BytePart.update.Goals as goal

pub returns-then-not-find : goal.returns-then-not-find
returns-then-not-find g c =
    let before = c.self.inside.desk in
    let is = c.in_default.ensures.rest
    ∙ ap (λ (key : List ℕ). record before { key = key }) c.in_default.ensures.spelled in
    let reads = read_before before c.args.key.now c.refusal.new.desk c.find.new.self is c.find.ensures.reads
    c.find.ensures.rest in
    let had = subst (λ (desk : DeskView). HadValue desk.key None c.args.now desk.shelf.part) is
    (c.if-not-find.ensures.none refl) in
    subst (λ (part : BytePartView). TellsPut (Updates part.shelf.part.value_words (key_row part c.args.key.now)
    c.args.value.now c.args.now) c.args.key.now (length c.args.value.now) part (part_of c.find.new.self) told.Nothing) c.self.view_is
    (tells_put _ c.args.key.now (length c.args.value.now) (part_of before) (part_of c.find.new.self) told.Nothing
    (sym c.in_default.ensures.told) (record { had = had; reads = reads })
    (rest_found before c.args.key.now c.refusal.new.desk c.find.new.self is c.find.ensures.reads
    c.find.ensures.rest))

pub returns : goal.returns
returns g c =
    let before = c.self.inside.desk in
    let found = c.find.new.self in
    let key = key_row (part_of before) c.args.key.now in
    let row : ℕ → ℕ → List ℕ = λ width flags. value_row width flags c.args.value.now in
    let shelf = c.put.new.self.shelf in
    let is = c.in_default.ensures.rest
    ∙ ap (λ (key : List ℕ). record before { key = key }) c.in_default.ensures.spelled in
    let reads = read_before before c.args.key.now c.refusal.new.desk found is c.find.ensures.reads
    c.find.ensures.rest in
    let had = subst (λ (desk : DeskView). HadWords desk.key c.args.now found.had desk.shelf.part) is
    (c.if-not-find.ensures.some refl) in
    let word : (i : ℕ) → slice_index found.had i ≡ slice_index (had.expires ∷ had.value) i =
    λ i. ap (λ (words : List ℕ). slice_index words i) had.words_are in
    let flags : c.value.result.flags ≡ slice_index had.value 0 % 2 ^ 32 =
    c.value.ensures.flags_are ∙ ap (λ (n : ℕ). n % 2 ^ 32) (word 1) in
    let expires : c.expires-expires.result ≡ had.expires = c.expires-expires.ensures ∙ word 0 in
    let by_key = subst (λ (words : List ℕ). Puts words (row found.shelf.part.value_words c.value.result.flags)
    c.expires-expires.result c.args.now found.shelf shelf c.put.result) (key_found before c.args.key.now c.refusal.new.desk
    found is c.find.ensures.reads c.find.ensures.rest) c.put.ensures.puts in
    let by_width = subst (λ (width : ℕ). Puts key (row width c.value.result.flags) c.expires-expires.result c.args.now
    found.shelf shelf c.put.result) (width_same before.shelf found.shelf reads) by_key in
    let by_flags = subst (λ (bits : ℕ). Puts key (row before.shelf.part.value_words bits) c.expires-expires.result c.args.now
    found.shelf shelf c.put.result) flags by_width in
    let puts = subst (λ (until : ℕ). Puts key (row before.shelf.part.value_words (slice_index had.value 0 % 2 ^ 32))
    until c.args.now found.shelf shelf c.put.result) expires by_flags in
    subst (λ (part : BytePartView). TellsPut (Updates part.shelf.part.value_words (key_row part c.args.key.now)
    c.args.value.now c.args.now) c.args.key.now (length c.args.value.now) part (part_of c.put.new.self) c.put.result) c.self.view_is
    (tells_put _ c.args.key.now (length c.args.value.now) (part_of before) (part_of c.put.new.self) c.put.result
    (sym c.in_default.ensures.told)
    (anew_behind (λ value. row before.shelf.part.value_words (slice_index value 0 % 2 ^ 32)) (λ until. until) key found.had c.args.now
    before.shelf found.shelf c.put.new.self.shelf c.put.result had reads puts)
    (rest_put before c.args.key.now c.refusal.new.desk found is c.find.ensures.reads c.find.ensures.rest
    c.put.new.self c.put.ensures.rest))
