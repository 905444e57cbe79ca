use Rattle.std.proofs.Common.{sym, ap, ◌∙◌, cond, ◌++◌, ◌∷◌, []}
use Rattle.std.specs.Prelude.{is_some, bytes_eq}
use Rattle.access_logs.specs.Keys.{bytes_of, number_among, is_among}
use Rattle.access_logs.specs.Numbering.{keys_of}
use Rattle.access_logs.proofs.KeyLemmas.{succeeded, found, numbered, list_any-map}
use Rattle.access_logs.proofs.numbering.Numbering.number_of.Goals as goal

pub returns-in-Some-clause-number : goal.returns-in-Some-clause-number
returns-in-Some-clause-number c =
    let same = succeeded c.set_bytes.result _ (sym c.is_err.ensures.value ∙ c.if-is_err.false) c.set_bytes.ensures.bytes in
    found (λ k. bytes_of k) c.args.self.now.keys.keys (bytes_of c.set_bytes.new.self) _ (sym c.in-Some.is ∙ c.get_index_of.ensures.index)
    ∙ ap (number_among (keys_of c.args.self.now)) same

pub returns-in-Some-clause-keys : goal.returns-in-Some-clause-keys
returns-in-Some-clause-keys c =
    let same = succeeded c.set_bytes.result _ (sym c.is_err.ensures.value ∙ c.if-is_err.false) c.set_bytes.ensures.bytes in
    let keys = keys_of c.args.self.now in
    let there = list_any-map bytes_of (bytes_eq (bytes_of c.set_bytes.new.self)) c.args.self.now.keys.keys ∙ sym c.get_index_of.ensures.found ∙ ap is_some c.in-Some.is in
    sym (ap (λ b. cond b keys (keys ++ c.args.key.now ∷ [])) (sym (ap (is_among keys) same) ∙ there))

pub add-requires : goal.add-requires
add-requires c =
    let same = succeeded c.set_bytes.result _ (sym c.is_err.ensures.value ∙ c.if-is_err.false) c.set_bytes.ensures.bytes in
    sym (ap (is_among (keys_of c.args.self.now)) same)
    ∙ list_any-map bytes_of (bytes_eq (bytes_of c.set_bytes.new.self)) c.args.self.now.keys.keys ∙ sym c.get_index_of.ensures.found ∙ ap is_some c.in_default.is

pub returns-clause-number : goal.returns-clause-number
returns-clause-number c =
    let same = succeeded c.set_bytes.result _ (sym c.is_err.ensures.value ∙ c.if-is_err.false) c.set_bytes.ensures.bytes in
    let none = sym (ap (is_among (keys_of c.args.self.now)) same)
    ∙ list_any-map bytes_of (bytes_eq (bytes_of c.set_bytes.new.self)) c.args.self.now.keys.keys ∙ sym c.get_index_of.ensures.found ∙ ap is_some c.in_default.is in
    (numbered c.add.result (keys_of c.args.self.now) (keys_of c.add.new.self) c.args.key.now none c.add.ensures.number c.add.ensures.keys).0

pub returns-clause-keys : goal.returns-clause-keys
returns-clause-keys c =
    let same = succeeded c.set_bytes.result _ (sym c.is_err.ensures.value ∙ c.if-is_err.false) c.set_bytes.ensures.bytes in
    let none = sym (ap (is_among (keys_of c.args.self.now)) same)
    ∙ list_any-map bytes_of (bytes_eq (bytes_of c.set_bytes.new.self)) c.args.self.now.keys.keys ∙ sym c.get_index_of.ensures.found ∙ ap is_some c.in_default.is in
    (numbered c.add.result (keys_of c.args.self.now) (keys_of c.add.new.self) c.args.key.now none c.add.ensures.number c.add.ensures.keys).1
