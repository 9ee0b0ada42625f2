-- Which replies of a reservation are weighed, and which of them name its candidates.
use Rattle.std.specs.Prelude.{◌≡◌, ℕ, zero, suc, ◌≤◌, List, length, drop, take, get_or, Option, None}
use Rattle.std.specs.Prelude.{option_map}
use Rattle.seq_model.specs.declared.call.Reply.{Reply}
use Rattle.seq_model.specs.declared.call.Reply.TheVariants.{Nothing}
use Rattle.seq_model.specs.declared.place.JobPlace.{JobPlace}
use Rattle.seq_model.specs.Programs.{after}
use Rattle.vac_model.specs.declared.action.Ask.{Ask}
use Rattle.vac_model.specs.declared.each.Each.{Each}
use Rattle.vac_model.specs.declared.item.Item.{Item}
use Rattle.vac_model.specs.declared.item.Kind.TheVariants.{Car, Flight, Room}
use Rattle.client_sessions.specs.declared.entry.Entry.{Entry}
use Rattle.client_sessions.specs.declared.weighed.Weighed.{Weighed}
use Rattle.client_sessions.specs.Drafts.{AreSound}
use Rattle.client_sessions.specs.Gets.{item_told}
use Rattle.client_sessions.specs.Sessions.{SessionProgram, better, gather}

-- what stands in for an ask where there is none
abbrev pub no_ask : Ask
no_ask = record { kind = Car; id = 0 }

-- the candidate that the reply before this number names, for the ask with the same number: none at 0
abbrev pub named : List Ask → List (Reply Entry) → ℕ → Option (ℕ × Item)
named asks replies zero = None
named asks replies (suc i) = option_map (λ item. ((get_or asks i no_ask).id, item)) (item_told (get_or replies i Nothing))

abbrev pub all_named : List Ask → List (Reply Entry) → Weighed → Each (Option (ℕ × Item))
all_named asks replies w =
    record { car = named asks replies w.car; flight = named asks replies w.flight; room = named asks replies w.room }

-- of each kind the best after an ask that found this
pub record IsBetter (asks : List Ask) (replies : List (Reply Entry)) (ask : Ask) (o : Option Item) (old new : Weighed) : Type 0 where
  pub car : named asks replies new.car ≡ better Car ask o (named asks replies old.car)
  pub flight : named asks replies new.flight ≡ better Flight ask o (named asks replies old.flight)
  pub room : named asks replies new.room ≡ better Room ask o (named asks replies old.room)

-- candidates are named by the first replies alone
pub record AreFirst (count : ℕ) (w : Weighed) : Type 0 where
  pub car : w.car ≤ count
  pub flight : w.flight ≤ count
  pub room : w.room ≤ count

-- what a reservation continues with, once it has its candidates
abbrev pub OnBest : Type 0
OnBest = Option (ℕ × Item) → Option (ℕ × Item) → Option (ℕ × Item) → SessionProgram

-- The replies to the first asks are weighed: after them the program continues with the other asks, from the best that these replies name.
pub record AreWeighed (asks : List Ask) (replies : List (Reply Entry)) (w : Weighed) : Type 0 where
  pub few : w.count ≤ length asks
  pub told : w.count ≤ length replies
  pub first : AreFirst w.count w
  pub sound : AreSound (all_named asks replies w)
  pub leads : (next : OnBest) → after (gather asks None None None next) (take w.count replies)
      ≡ gather (drop w.count asks) (named asks replies w.car) (named asks replies w.flight) (named asks replies w.room) next

-- what a place notes of a reservation: of each kind the reply that names its candidate
abbrev pub weighed_in : JobPlace → Weighed
weighed_in place = record {
  count = place.heard;
  car = get_or place.marks 0 0;
  flight = get_or place.marks 1 0;
  room = get_or place.marks 2 0;
}
