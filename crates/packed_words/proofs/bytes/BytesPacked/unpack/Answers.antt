use Rattle.std.proofs.Common.{ℕ, ap, sym, ◌∙◌, length}
use Rattle.std.proofs.lemmas.List.{length-replicate}
use Rattle.packed_words.specs.Strings.{string_in, IsString}
use Rattle.packed_words.specs.StringLaws.{string_back, length-string_words}
use Rattle.packed_words.proofs.StringReads.{held_by}
use Rattle.packed_words.proofs.bytes.BytesPacked.unpack.Goals as goal

pub copy_from_slice-requires : goal.copy_from_slice-requires
copy_from_slice-requires g c =
    length-replicate {A = ℕ} g.row.W 0
    ∙ sym (ap length c.requires.1.1 ∙ length-string_words g.row.W c.requires.0)

pub invariant_of-result : goal.invariant_of-result
invariant_of-result g c =
    held_by g.row.W c.requires.0 c.copy_from_slice.new.self c.requires.1.0 (c.copy_from_slice.ensures.after ∙ c.requires.1.1)

pub returns-clause-value : goal.returns-clause-value
returns-clause-value g c v h e =
    ap string_in (c.copy_from_slice.ensures.after ∙ e) ∙ string_back g.row.W v h

pub returns-clause-in_range : goal.returns-clause-in_range
returns-clause-in_range g c =
    let string : IsString g.row.W c.copy_from_slice.new.self =
    held_by g.row.W c.requires.0 c.copy_from_slice.new.self c.requires.1.0 (c.copy_from_slice.ensures.after ∙ c.requires.1.1) in
    string.held
