use Rattle.std.proofs.Common.{sym, ap, ◌∙◌, map, string_bytes, codes}
use Rattle.bumpsim.specs.Words.{mode_in, drainers_in}
use Rattle.bumpsim.proofs.Commands.{value_found, run_meant, no_mode, no_file, no_drainers, refused}
use Rattle.bumpsim.proofs.command_line.choose.Goals as goal

pub returns-in-Err : goal.returns-in-Err
returns-in-Err c = refused (map string_bytes c.args.words.now) c.in-Err.error _ c.in-Err.ensures.kinds c.why_refused.ensures

pub returns-in_default : goal.returns-in_default
returns-in_default c =
    let words = map string_bytes c.args.words.now in
    no_mode words (ap mode_in (sym (value_found c.in-Ok.matches words (codes "mode") c.in-Ok.ensures.values) ∙ sym c.in_default.ensures))

pub returns-in_default-read_mode : goal.returns-in_default-read_mode
returns-in_default-read_mode c =
    let words = map string_bytes c.args.words.now in
    no_mode words (ap mode_in (sym (value_found c.in-Ok.matches words (codes "mode") c.in-Ok.ensures.values) ∙ sym c.in-Some.ensures) ∙ sym c.in_default-read_mode.ensures)

pub returns-in_default-get_str : goal.returns-in_default-get_str
returns-in_default-get_str c =
    let words = map string_bytes c.args.words.now in
    no_file words (sym (value_found c.in-Ok.matches words (codes "file") c.in-Ok.ensures.values) ∙ sym c.in_default-get_str.ensures)

pub returns-in-Some-read_drainers : goal.returns-in-Some-read_drainers
returns-in-Some-read_drainers c =
    let words = map string_bytes c.args.words.now in
    let found = value_found c.in-Ok.matches words in
    let way = c.in-Some-read_mode.mode in
    run_meant words c.in-Some.word.now c.in-Some-get_str.file.now way c.in-Some-read_drainers.drainers c.in-Ok.ensures.kinds
    (sym (found (codes "mode") c.in-Ok.ensures.values) ∙ sym c.in-Some.ensures) (sym c.in-Some-read_mode.ensures)
    (sym (found (codes "file") c.in-Ok.ensures.values) ∙ sym c.in-Some-get_str.ensures)
    (ap (drainers_in way) (sym (c.get_str-3.ensures ∙ found (codes "drainers") c.in-Ok.ensures.values)) ∙ sym c.in-Some-read_drainers.ensures.meant)

pub returns : goal.returns
returns c =
    let words = map string_bytes c.args.words.now in
    let found = value_found c.in-Ok.matches words in
    let way = c.in-Some-read_mode.mode in
    no_drainers words c.in-Some.word.now way (sym (found (codes "mode") c.in-Ok.ensures.values) ∙ sym c.in-Some.ensures) (sym c.in-Some-read_mode.ensures)
    (ap (drainers_in way) (sym (c.get_str-3.ensures ∙ found (codes "drainers") c.in-Ok.ensures.values)) ∙ sym c.in-None.ensures.meant)
