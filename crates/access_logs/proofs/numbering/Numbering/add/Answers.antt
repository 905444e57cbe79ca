use Rattle.std.proofs.Common.{sym, ap, ◌∙◌, map}
use Rattle.access_logs.specs.Keys.{bytes_of}
use Rattle.access_logs.proofs.KeyLemmas.{succeeded, inserted}
use Rattle.access_logs.proofs.numbering.Numbering.add.Goals as goal

pub returns-clause-keys : goal.returns-clause-keys
returns-clause-keys c =
    let keys = succeeded c.insert_full.result _ (sym c.is_err.ensures.value ∙ c.if-is_err.false) c.insert_full.ensures.keys in
    ap (map (λ k. bytes_of k)) keys ∙ inserted (λ k. bytes_of k) c.args.self.now.keys.keys c.in-Ok.owned c.args.key.now c.in-Ok.ensures c.requires
