-- The head of a chunk, and what one atomic step changes of it. The events of the World and the laws of the head word
-- both cite these.
use Rattle.std.specs.Prelude.{ℕ, ◌+◌, ◌-◌, true, false}
use Rattle.bump_rules.specs.declared.places.Segment.{Segment}
use Rattle.bump_rules.specs.declared.places.Segment.TheVariants.{Hot}
use Rattle.bump_rules.specs.declared.places.Start.{Start}
use Rattle.bump_rules.specs.declared.items.Head.{Head}
use Rattle.bump_rules.specs.Places.{first_segment}

-- the head of a chunk before its first life
abbrev pub fresh_head : ℕ → Head
fresh_head generation =
    record { refs = 0; linked = false; fetched = false; active = false; segment = Hot; generation = generation }

-- the head of a new life in a segment
abbrev pub linked_head_in : Segment → ℕ → Head
linked_head_in to generation =
    record { refs = 1; linked = true; fetched = false; active = false; segment = to; generation = generation }

-- and of one in the segment in which it begins
abbrev pub linked_head : Start → ℕ → Head
linked_head start generation = linked_head_in (first_segment start) generation

-- a reference more, or fewer
abbrev pub one_more : Head → Head
one_more head = record head { refs = head.refs + 1 }

abbrev pub one_fewer : Head → Head
one_fewer head = record head { refs = head.refs - 1 }

-- FETCHED set; ACTIVE set, or cleared
abbrev pub fetched_head : Head → Head
fetched_head head = record head { fetched = true }

abbrev pub marked_head : Head → Head
marked_head head = record head { active = true }

abbrev pub cleared_head : Head → Head
cleared_head head = record head { active = false }

-- the segment bits of another segment
abbrev pub moved_head : Segment → Head → Head
moved_head to head = record head { segment = to }

-- the life is unlinked: LINKED is clear, and the link's reference is given back
abbrev pub unlinked_head : Head → Head
unlinked_head head = record head { refs = head.refs - 1; linked = false }
