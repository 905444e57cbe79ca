use Rattle.std.proofs.Common.{List, ℕ, refl, sym, ap, ◌∙◌, subst}
use Rattle.cache_handles.specs.declared.looking.LookTold.TheVariants as looked
use Rattle.cache_handles.specs.declared.looking.Looked.{Looked}
use Rattle.cache_handles.specs.Looking.{TellsLook}
use Rattle.cache_handles.specs.Views.{BytePartView}
use Rattle.cache_handles.proofs.DeskLemmas.{looks_found, looks_nothing, part_of}
use Rattle.cache_handles.proofs.parts.BytePart.look.Goals as goal

pub returns-then-not-find : goal.returns-then-not-find
returns-then-not-find g c =
    let before = c.self.inside.desk in
    let is = c.in_default.ensures.rest
    ∙ ap (λ (key : List ℕ). record before { key = key }) c.in_default.ensures.spelled in
    subst (λ (part : BytePartView). TellsLook c.args.key.now c.args.now part (part_of c.find.new.self) looked.Nothing)
    c.self.view_is (looks_nothing before c.args.key.now c.take_key.new.self c.find.new.self is c.find.ensures.reads
    c.find.ensures.rest c.args.now (sym c.in_default.ensures.told) (c.if-not-find.ensures.none refl))

pub returns : goal.returns
returns g c =
    let before = c.self.inside.desk in
    let is = c.in_default.ensures.rest
    ∙ ap (λ (key : List ℕ). record before { key = key }) c.in_default.ensures.spelled in
    let told : Looked = record { value = c.value.result; expires = c.expires.result } in
    subst (λ (part : BytePartView).
    TellsLook c.args.key.now c.args.now part (part_of c.find.new.self) (looked.Found told))
    c.self.view_is (looks_found before c.args.key.now c.take_key.new.self c.find.new.self is c.find.ensures.reads
    c.find.ensures.rest c.args.now told (sym c.in_default.ensures.told) (c.if-not-find.ensures.some refl)
    c.value.ensures c.expires.ensures)
