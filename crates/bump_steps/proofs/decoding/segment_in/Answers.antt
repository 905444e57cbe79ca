use Rattle.std.proofs.Common.{◌∙◌, sym}
use Rattle.bump_rules.specs.declared.places.Segment.TheVariants.{Warm, Cold, Temp}
use Rattle.bump_steps.proofs.Decoded.{segment_read, segment_left}
use Rattle.bump_steps.proofs.decoding.segment_in.Goals as goal

pub returns-then-bits-segment_xor : goal.returns-then-bits-segment_xor
returns-then-bits-segment_xor c = λ h spelled. segment_read c.args.word h Warm spelled
    (c.if-bits-segment_xor.true ∙ c.segment_xor.ensures)

pub returns-then-bits-segment_xor-2 : goal.returns-then-bits-segment_xor-2
returns-then-bits-segment_xor-2 c = λ h spelled. segment_read c.args.word h Cold spelled
    (c.if-bits-segment_xor-2.true ∙ c.segment_xor-2.ensures)

pub returns-then-bits-segment_xor-3 : goal.returns-then-bits-segment_xor-3
returns-then-bits-segment_xor-3 c = λ h spelled. segment_read c.args.word h Temp spelled
    (c.if-bits-segment_xor-3.true ∙ c.segment_xor-3.ensures)

pub returns : goal.returns
returns c = λ h spelled. segment_left c.args.word h spelled
    (λ e. c.if-bits-segment_xor.false (e ∙ sym c.segment_xor.ensures))
    (λ e. c.if-bits-segment_xor-2.false (e ∙ sym c.segment_xor-2.ensures))
    (λ e. c.if-bits-segment_xor-3.false (e ∙ sym c.segment_xor-3.ensures))
