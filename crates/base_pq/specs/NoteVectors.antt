-- Which inserts make a new least element, computed: into an empty priority queue, or below its least; an element that is the least
-- already doesn't.
use Rattle.std.specs.Prelude.{◌≡◌, Some, None, refl}
use Rattle.conflict.specs.declared.outcome.Note.TheVariants as note
use Rattle.base_pq.specs.Conflicts.{insert_note}

into_empty : insert_note 5 None ≡ note.Least (Some 5)
into_empty = refl

below_least : insert_note 3 (Some 5) ≡ note.Least (Some 3)
below_least = refl

at_least : insert_note 5 (Some 5) ≡ note.Plain
at_least = refl

above_least : insert_note 9 (Some 5) ≡ note.Plain
above_least = refl
