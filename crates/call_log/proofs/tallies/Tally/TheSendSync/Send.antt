use denote.Param.Send.{IsSend}
use Rattle.call_log.specs.contracts.tallies.Tally.{the_row}
use Rattle.call_log.proofs.Sharing.{tally_keyless}

pub send : IsSend the_row
send = record {
  owned = λ d vs. ((λ vss. (tt, ((λ uss. (tt, tt)), tt))), tally_keyless d.name d.number d.here d.calls);
  leaving = λ k f vs. tt;
}
