use Rattle.std.proofs.Common.{rules, refl}
use Rattle.cache_readers.specs.declared.vain.Vain.TheVariants as vain
use Rattle.cache_readers.proofs.LookLemmas.{look_takes, looked, vain_of}
use Rattle.cache_readers.proofs.MissLemmas.{another_held}
use Rattle.cache_readers.proofs.looking.look_held.Goals as goal

pub returns-in_default-clause-vain : goal.returns-in_default-clause-vain
returns-in_default-clause-vain g c = λ before glances.
    vain_of vain.Ended c.args.heads.now c.args.key.now c.args.now c.args.id.chunk _ _ c.get_any.result
    (looked _ _ _ c.args.worker.now _ _ glances
    (record { missing = c.get_any.ensures.missing; got = c.get_any.ensures.got }) c.get_any.ensures.few) tt

pub returns-then-life-id-clause-vain : goal.returns-then-life-id-clause-vain
returns-then-life-id-clause-vain g c = λ before glances.
    vain_of vain.Ended c.args.heads.now _ c.args.now c.args.id.chunk _ _ _ (looked _ _ _ c.args.worker.now _ _ glances
    (record { missing = c.in-Ok.ensures.missing; got = c.in-Ok.ensures.got }) c.in-Ok.ensures.few) tt

pub returns-then-not-has_key-clause-vain : goal.returns-then-not-has_key-clause-vain
returns-then-not-has_key-clause-vain g c = λ before glances.
    vain_of vain.Other c.args.heads.now _ c.args.now c.args.id.chunk _ _ _ (looked _ _ _ c.args.worker.now _ _ glances
    (record { missing = c.in-Ok.ensures.missing; got = c.in-Ok.ensures.got }) c.in-Ok.ensures.few)
    (c.if-not-has_key.ensures.other refl)

pub returns-then-has_expired-clause-vain : goal.returns-then-has_expired-clause-vain
returns-then-has_expired-clause-vain g c = λ before glances.
    vain_of vain.Over c.args.heads.now _ c.args.now c.args.id.chunk _ _ _ (looked _ _ _ c.args.worker.now _ _ glances
    (record { missing = c.in-Ok.ensures.missing; got = c.in-Ok.ensures.got }) c.in-Ok.ensures.few)
    (c.if-not-has_key.ensures.has refl, search rules)

pub returns-clause-finds : goal.returns-clause-finds
returns-clause-finds g c = λ before glances.
    look_takes _ c.args.heads.now _ c.args.now c.args.id.chunk _ _ c.in-Ok.hold _ c.in-Ok.found (search rules)
    (looked _ _ _ c.args.worker.now _ _ glances
    (record { missing = c.in-Ok.ensures.missing; got = c.in-Ok.ensures.got }) c.in-Ok.ensures.few)
    (c.if-not-has_key.ensures.has refl) (search rules) c.in-Ok.ensures.law

pub returns-then-not-has_key-clause-other : goal.returns-then-not-has_key-clause-other
returns-then-not-has_key-clause-other g c = λ _.
    another_held c.args.heads.now _ c.args.id c.args.worker.now _ c.in-Ok.hold c.in-Ok.found
    (record { missing = c.in-Ok.ensures.missing; got = c.in-Ok.ensures.got }) (search rules)
    (c.if-not-has_key.ensures.other refl)
