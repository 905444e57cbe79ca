use Rattle.std.proofs.Common.{◌≡◌, false, length, take, drop, sym, ap, ◌∙◌, subst}
use Rattle.bump_cache.specs.Setting.{PutsWords, RefusesWords}
use Rattle.bump_cache.proofs.SettingLemmas.{puts_words, refuses_words}
use Rattle.bump_cache.proofs.Telling.{first_part, second_part}
use Rattle.bump_cache.proofs.setting.set_row.Goals as goal

pub returns-in-Ok-clause-sets : goal.returns-in-Ok-clause-sets
returns-in-Ok-clause-sets g c =
    let now = c.args.shelf.now.part in let row = c.args.row.now in
    let long : now.key_words ≡ length (g.K.Packed.as_words c.args._key.now) =
    c.requires.key ∙ sym (g.met.K.Packed.length_is _ c.requires.in_range.0) in
    let first : take now.key_words row ≡ g.K.Packed.as_words c.args._key.now =
    ap (take now.key_words) c.requires.row ∙ first_part _ _ _ long in
    let second : drop now.key_words row ≡ g.V.Packed.as_words c.args._value.now =
    ap (drop now.key_words) c.requires.row ∙ second_part _ _ _ long in
    subst (λ key. PutsWords key (g.V.Packed.as_words c.args._value.now) c.args.expires c.args.now c.is_some.result
    c.args.shelf.now c.put.new.self) first
    (subst (λ value. PutsWords (take now.key_words row) value c.args.expires c.args.now c.is_some.result c.args.shelf.now
    c.put.new.self) second
    (puts_words false _ c.in-Ok.did row _ _ _ _ _ _ _ c.in-Ok.ensures.puts c.is_some.ensures))

pub returns-in-Err-clause-refuses : goal.returns-in-Err-clause-refuses
returns-in-Err-clause-refuses g c =
    let now = c.args.shelf.now.part in
    let first : take now.key_words c.args.row.now ≡ g.K.Packed.as_words c.args._key.now =
    ap (take now.key_words) c.requires.row ∙ first_part _ _ _
    (c.requires.key ∙ sym (g.met.K.Packed.length_is _ c.requires.in_range.0)) in
    subst (λ key. RefusesWords key c.args.now c.is_some-in-Err.result c.args.shelf.now c.put.new.self) first
    (refuses_words false _ c.in-Err.why c.args.row.now _ _ _ _ _ _ c.in-Err.ensures.refuses c.is_some-in-Err.ensures)
