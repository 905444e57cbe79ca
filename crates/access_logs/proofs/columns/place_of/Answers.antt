use Rattle.std.proofs.Common.{sym, ap, ◌∙◌, arith, true≢false, option_map}
use Rattle.std.specs.Prelude.{is_some, bytes_eq}
use Rattle.csv.specs.Records.{fields_of}
use Rattle.access_logs.proofs.ColumnLemmas.{found-next, found-later, found-none}
use Rattle.access_logs.proofs.LongRecords.{field_at-some}
use Rattle.access_logs.proofs.columns.place_of.Goals as goal

pub returns-in_default : goal.returns-in_default
returns-in_default c =
    let fields = fields_of c.args.header.now in
    let there = field_at-some fields c.loop-place.place (omega (arith, c.loop-place-test.true, c.len-place-end.ensures)) in
    absurd (true≢false (sym there ∙ ap is_some (sym c.get.ensures.value ∙ ap (option_map (λ s. s.now)) c.in_default.is)))

pub returns-then-eq : goal.returns-then-eq
returns-then-eq c =
    let next = sym c.get.ensures.value ∙ ap (option_map (λ s. s.now)) c.in-Some.is in
    sym (c.loop-place.invariant ∙ found-next (bytes_eq c.args.name.now) (fields_of c.args.header.now) c.loop-place.place _ next (ap (λ n. bytes_eq n c.in-Some.field.now) (sym c.as_bytes.ensures.value) ∙ sym c.eq.ensures ∙ c.if-eq.true))

pub loop-place-preserved : goal.loop-place-preserved
loop-place-preserved c =
    let next = sym c.get.ensures.value ∙ ap (option_map (λ s. s.now)) c.in-Some.is in
    c.loop-place.invariant ∙ found-later (bytes_eq c.args.name.now) (fields_of c.args.header.now) c.loop-place.place _ next (ap (λ n. bytes_eq n c.in-Some.field.now) (sym c.as_bytes.ensures.value) ∙ sym c.eq.ensures ∙ c.if-eq.false)

pub returns : goal.returns
returns c = sym (c.loop-place.invariant ∙ found-none (bytes_eq c.args.name.now) (fields_of c.args.header.now) c.loop-place.place (omega (arith, c.loop-place-test.false, c.len-place-end.ensures)))
