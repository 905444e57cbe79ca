mod GlanceLemmas
