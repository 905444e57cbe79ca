use Rattle.std.proofs.Common.{◌≡◌, suc, ◌+◌, take, sym, ap, ◌∙◌, arith, true≢false, option_map}
use Rattle.std.specs.Prelude.{is_some}
use Rattle.std.proofs.lemmas.Bool.{lt-ltb}
use Rattle.csv.specs.Records.{fields_of}
use Rattle.access_logs.specs.Records.{bytes_in}
use Rattle.access_logs.proofs.LongRecords.{bytes_in-take, bytes_in-next, field_at-some}
use Rattle.access_logs.proofs.records.is_long.Goals as goal

pub returns-in_default : goal.returns-in_default
returns-in_default c =
    let fields = fields_of c.args.row.now in
    let there = field_at-some fields c.loop-place.place (omega (arith, c.loop-place-test.true, c.len-place-end.ensures)) in
    absurd (true≢false (sym there ∙ ap is_some (sym c.get.ensures.value ∙ ap (option_map (λ s. s.now)) c.in_default.is)))

pub returns-then-field-room : goal.returns-then-field-room
returns-then-field-room c =
    let fields = fields_of c.args.row.now in
    let place = c.loop-place.place in
    let next = bytes_in-next fields place _ (sym c.get.ensures.value ∙ ap (option_map (λ s. s.now)) c.in-Some.is) in
    let front = bytes_in-take fields (suc place) in
    sym (lt-ltb 65536 (bytes_in fields) (omega (arith, next, front, c.loop-place.invariant, c.if-field-room.true)))

pub loop-place-preserved : goal.loop-place-preserved
loop-place-preserved c =
    let fields = fields_of c.args.row.now in
    let place = c.loop-place.place in
    let next = bytes_in-next fields place _ (sym c.get.ensures.value ∙ ap (option_map (λ s. s.now)) c.in-Some.is) in
    let one : suc place ≡ place + 1 = omega arith in
    let more = ap (λ n. bytes_in (take n fields)) one in
    omega (arith, next, more, c.loop-place.invariant, c.if-field-room.false)
