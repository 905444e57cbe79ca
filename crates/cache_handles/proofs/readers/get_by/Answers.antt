use Rattle.std.proofs.Common.{refl, rules}
use Rattle.cache_handles.proofs.readers.get_by.Goals as goal

pub returns-then-not-get : goal.returns-then-not-get
returns-then-not-get g c = record {
  missed = record {
    nothing = c.if-not-get.ensures.nothing refl;
    missed = c.if-not-get.ensures.missed refl;
    ring = c.if-not-get.ensures.ring;
  };
  absent = c.if-not-get.ensures.absent refl;
}

pub returns : goal.returns
returns g c = record {
  read = c.get.new.value;
  many = search rules;
  found = c.if-not-get.ensures.found refl;
  counted = c.if-not-get.ensures.counted refl;
  value = search rules;
  words = search rules;
}
