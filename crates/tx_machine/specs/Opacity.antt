-- What TL2 promises of its committed, open and aborted transactions.
use Rattle.std.specs.Prelude.{◌≡◌, ◌≢◌, ℕ, ◌≤◌, true, false, Option, Some, None, List, [], ◌∷◌, ◌==◌, nat_le, if◌then◌else◌}
use Rattle.tx_machine.specs.Actor.{Call, Read, Write, Place, Store, Release}
use Rattle.tx_machine.specs.World.{Memory, put, Record, Ended, World, Event, Ask, Step, run, start}

-- the memory after the calls
unfoldable pub after : Memory → List Call → Memory
after m [] = m
after m (Read l v ∷ cs) = after m cs
after m (Write l v ∷ cs) = after (put m l v) cs

-- each read replied what the memory held then
unfoldable pub IsLegal : Memory → List Call → Type 0
IsLegal m [] = Unit {0}
IsLegal m (Read l v ∷ cs) = (m l ≡ v) × IsLegal m cs
IsLegal m (Write l v ∷ cs) = IsLegal (put m l v) cs

-- what the first read of l replied, if the calls haven't written l before it
abbrev pub first_read : List Call → ℕ → Option ℕ
first_read [] l = None
first_read (Read k v ∷ cs) l = if l == k then Some v else first_read cs l
first_read (Write k v ∷ cs) l = if l == k then None else first_read cs l

-- one whole transaction after another
unfoldable pub memory_after : Memory → List Record → Memory
memory_after m [] = m
memory_after m (r ∷ rs) = memory_after (after m r.calls) rs

unfoldable pub IsRun : Memory → List Record → Type 0
IsRun m [] = Unit {0}
IsRun m (r ∷ rs) = IsLegal m r.calls × IsRun (after m r.calls) rs

-- the records with a number of at most n
unfoldable pub upto : ℕ → List Record → List Record
upto n [] = []
upto n (r ∷ rs) = if nat_le r.number n then r ∷ upto n rs else upto n rs

-- the memory that the records committed so far with a number of at most n leave
unfoldable pub memory_at : World → ℕ → Memory
memory_at s n = memory_after s.opening (upto n s.history)

-- r may stand before x
abbrev pub InOrder : Record → Record → Type 0
InOrder r x =
    (r.number ≤ x.number) × (r.number ≡ x.number → x.writer ≡ false) × (r.number ≡ x.number → r.writer ≡ false → r.actor ≤ x.actor)

abbrev pub AllFrom : Record → List Record → Type 0
AllFrom r [] = Unit {0}
AllFrom r (x ∷ xs) = InOrder r x × AllFrom r xs

-- numbers rise, at one number the writer comes first and then readers by actor, and no two writers share one
abbrev pub IsInOrder : List Record → Type 0
IsInOrder [] = Unit {0}
IsInOrder (r ∷ rs) = AllFrom r rs × IsInOrder rs

abbrev pub AllEnded : (Ended → Type 0) → List Ended → Type 0
AllEnded P [] = Unit {0}
AllEnded P (e ∷ es) = P e × AllEnded P es

-- committed, with its last release still to come
abbrev pub IsHalfDone : Place → Type 0
IsHalfDone (Store ls) = Unit {0}
IsHalfDone Release = Unit {0}
IsHalfDone p = ⊥

abbrev pub IsNoneHalfDone : World → Type 0
IsNoneHalfDone s = (a : ℕ) → IsHalfDone (s.actors a).place → ⊥

-- no number is above n
abbrev pub AllUpto : ℕ → List Record → Type 0
AllUpto n [] = Unit {0}
AllUpto n (r ∷ rs) = (r.number ≤ n) × AllUpto n rs

-- no writer has the number n
abbrev pub NoWriterHas : ℕ → List Record → Type 0
NoWriterHas n [] = Unit {0}
NoWriterHas n (r ∷ rs) = (r.writer ≡ true → r.number ≢ n) × NoWriterHas n rs

-- the actor of an event
abbrev pub whose : Event → ℕ
whose (Ask a request) = a
whose (Step a) = a

-- the world after these events, from an opening
abbrev pub after_events : ℕ → Memory → List Event → World
after_events clock memory events = run events (start clock memory)
