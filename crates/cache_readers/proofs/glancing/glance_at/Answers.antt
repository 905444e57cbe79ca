use Rattle.std.proofs.Common.{rules, refl, sym, ◌∙◌}
use Rattle.cache_readers.proofs.GlanceLemmas.{begun, glance_finds, led_to, reads_then, still_glancing, vain_begun, vain_ended, vain_gone, vain_none, vain_read}
use Rattle.cache_readers.proofs.glancing.glance_at.Goals as goal

pub returns-then-not-glances-clause-vain : goal.returns-then-not-glances-clause-vain
returns-then-not-glances-clause-vain g c = λ _. vain_none c.args.id.chunk _ _ refl

pub returns-in_default-clause-vain : goal.returns-in_default-clause-vain
returns-in_default-clause-vain g c = λ _.
    vain_gone c.args.id.chunk _ _ _ _ c.in_default.ensures.missing c.in_default.ensures.gone

pub returns-then-not-found-clause-vain : goal.returns-then-not-found-clause-vain
returns-then-not-found-clause-vain g c = λ _.
    vain_begun _ _ _ _ _ _ c.in-Some.ensures.glances c.args.id.chunk c.in-Some.ensures.chunk

pub returns-then-found-id-clause-vain : goal.returns-then-found-id-clause-vain
returns-then-found-id-clause-vain g c = λ _.
    vain_begun _ _ _ _ _ _ c.in-Some.ensures.glances c.args.id.chunk c.in-Some.ensures.chunk

pub load_label-requires : goal.load_label-requires
load_label-requires g c = record { glance = begun _ _ _ _ _ _ c.in-Some.ensures.glances }

pub returns-then-has_expired-clause-vain : goal.returns-then-has_expired-clause-vain
returns-then-has_expired-clause-vain g c = λ _.
    vain_read _ _ _ _ _ _ c.in-Some.ensures.glances _ _ c.load_label.ensures.reads c.args.id.chunk
    c.in-Some.ensures.chunk

pub has_key_words-requires-clause-glance : goal.has_key_words-requires-clause-glance
has_key_words-requires-clause-glance g c =
    still_glancing _ _ _ _ (begun _ _ _ _ _ _ c.in-Some.ensures.glances) c.load_label.ensures.reads

pub returns-then-not-has_key_words-clause-vain : goal.returns-then-not-has_key_words-clause-vain
returns-then-not-has_key_words-clause-vain g c = λ _.
    vain_read _ _ _ _ _ _ c.in-Some.ensures.glances _ _
    (reads_then _ _ _ _ _ c.load_label.ensures.reads c.if-not-has_key_words.ensures.reads) c.args.id.chunk
    c.in-Some.ensures.chunk

pub load_words-requires-clause-glance : goal.load_words-requires-clause-glance
load_words-requires-clause-glance g c =
    still_glancing _ _ _ _ (still_glancing _ _ _ _ (begun _ _ _ _ _ _ c.in-Some.ensures.glances)
    c.load_label.ensures.reads) c.if-not-has_key_words.ensures.reads

pub end_glance-last-requires : goal.end_glance-last-requires
end_glance-last-requires g c = record {
  glance = still_glancing _ _ _ _ (still_glancing _ _ _ _ (still_glancing _ _ _ _
      (begun _ _ _ _ _ _ c.in-Some.ensures.glances) c.load_label.ensures.reads) c.if-not-has_key_words.ensures.reads)
      c.load_words.ensures.reads;
}

pub returns-then-last-clause-finds : goal.returns-then-last-clause-finds
returns-then-last-clause-finds g c = λ same.
    glance_finds _ _ _ _ _ _ c.in-Some.ensures.glances _ _
    (reads_then _ _ _ _ _ (reads_then _ _ _ _ _ c.load_label.ensures.reads c.if-not-has_key_words.ensures.reads)
    c.load_words.ensures.reads) c.end_glance-last.result _ c.end_glance-last.ensures.looked c.args.key.now
    c.load_words.new.words c.load_label.result c.args.now (search rules) (λ row has. has.0.1 refl) (λ row has. has.1)
    (λ row has. has.0.0) (search rules) (record {
      fits = c.end_glance-last.ensures.fits;
      linked = search rules;
      generation = search rules;
    }) c.end_glance-last.ensures.faithful

pub returns-then-last-clause-led : goal.returns-then-last-clause-led
returns-then-last-clause-led g c = λ same.
    led_to c.in-Some.glance c.args.id c.end_glance-last.result c.load_words.new.worker c.end_glance-last.new.self
    (still_glancing _ _ _ _ (still_glancing _ _ _ _ (still_glancing _ _ _ _
    (begun _ _ _ _ _ _ c.in-Some.ensures.glances) c.load_label.ensures.reads) c.if-not-has_key_words.ensures.reads)
    c.load_words.ensures.reads) c.end_glance-last.ensures.looked c.in-Some.ensures.chunk
    (sym c.in-Some.ensures.glances.linked.generation ∙ search rules)

pub returns-then-last-clause-vain : goal.returns-then-last-clause-vain
returns-then-last-clause-vain g c = λ _.
    vain_ended _ _ _ _ _ _ c.in-Some.ensures.glances _ _
    (reads_then _ _ _ _ _ (reads_then _ _ _ _ _ c.load_label.ensures.reads c.if-not-has_key_words.ensures.reads)
    c.load_words.ensures.reads) c.end_glance-last.result _ c.end_glance-last.ensures.looked c.args.id.chunk
    c.in-Some.ensures.chunk

pub returns-else-last-clause-vain : goal.returns-else-last-clause-vain
returns-else-last-clause-vain g c = λ _.
    vain_ended _ _ _ _ _ _ c.in-Some.ensures.glances _ _
    (reads_then _ _ _ _ _ (reads_then _ _ _ _ _ c.load_label.ensures.reads c.if-not-has_key_words.ensures.reads)
    c.load_words.ensures.reads) c.end_glance-last.result _ c.end_glance-last.ensures.looked c.args.id.chunk
    c.in-Some.ensures.chunk
