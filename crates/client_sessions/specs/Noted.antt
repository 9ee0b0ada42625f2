-- What a session notes of the replies to its calls.
use Rattle.std.specs.Prelude.{◌≡◌, ℕ, ◌+◌, ◌*◌, ◌≤◌, List, ◌∷◌, ◌++◌, length, drop, take, get_or, Bool, true, ⊤}
use Rattle.std.specs.Prelude.{Option, Some, None, false, not}
use Rattle.seq_model.specs.declared.call.Reply.{Reply}
use Rattle.seq_model.specs.declared.call.Reply.TheVariants.{Value}
use Rattle.seq_model.specs.declared.place.JobPlace.{JobPlace}
use Rattle.seq_model.specs.Programs.{after}
use Rattle.vac_model.specs.declared.action.Action.{Action}
use Rattle.vac_model.specs.declared.action.Action.TheVariants.{Reserve, Delete, Update}
use Rattle.vac_model.specs.declared.action.Change.{Change}
use Rattle.vac_model.specs.declared.action.ChangeReply.{ChangeReply}
use Rattle.vac_model.specs.declared.item.Customer.{Customer}
use Rattle.vac_model.specs.declared.item.Item.{Item}
use Rattle.client_sessions.specs.declared.entry.Entry.{Entry}
use Rattle.client_sessions.specs.declared.entry.Entry.TheVariants.{Customer as Client}
use Rattle.client_sessions.specs.Sessions.{SessionProgram, give_all_back, change_one, change_each, is_customer_within, is_same_item}
use Rattle.client_sessions.specs.Weighed.{AreWeighed, weighed_in}

-- The units of the first bookings are free again, by two calls each: after the replies to them the program continues with the others.
pub record ArePassed (who : Customer) (replies : List (Reply Entry)) (count : ℕ) : Type 0 where
  pub few : count ≤ length who.bookings
  pub told : 2 * count ≤ length replies
  pub leads : (next : SessionProgram) → after (give_all_back who.bookings next) (take (2 * count) replies)
      ≡ give_all_back (drop count who.bookings) next

-- a deletion got its customer as a reply, and then the replies of so many bookings
pub record HasGivenBack (told : List (Reply Entry)) (heard : ℕ) : Type 0 where
  pub who : Customer
  pub rest : List (Reply Entry)
  pub first : told ≡ Value (Client who) ∷ rest
  pub within : is_customer_within who ≡ true
  pub count : ℕ
  pub passed : ArePassed who rest count
  pub all : heard ≡ 2 * count + 1

-- whether a call makes the one entry of a change the other
abbrev pub is_set : Option Item → Option Item → Bool
is_set None None = false
is_set (Some i) (Some j) = not (is_same_item i j)
is_set _ _ = true

-- these replies are those to the calls of the change, and it made this of it
abbrev pub IsMade : Change → List (Reply Entry) → Type 0
IsMade change replies =
    (made : ChangeReply) × ((next : ChangeReply → SessionProgram) → after (change_one change next) replies ≡ next made)

-- The first changes are made: after these replies to their calls the program continues with the other changes.
pub record AreChanged (changes : List Change) (replies : List (Reply Entry)) (heard count : ℕ) : Type 0 where
  pub told : heard ≤ length replies
  pub few : count ≤ length changes
  pub made : List ChangeReply
  pub leads : (next : List ChangeReply → SessionProgram) → after (change_each changes next) (take heard replies)
      ≡ change_each (drop count changes) (λ more. next (made ++ more))

abbrev pub AreNoted : List Change → List (Reply Entry) → JobPlace → Type 0
AreNoted changes told place = AreChanged changes told place.heard (get_or place.marks 0 0)

-- Where a session has noted something, it is this of the replies that it has got. A question has nothing to note.
abbrev pub HasNoted : Action → List (Reply Entry) → JobPlace → Type 0
HasNoted (Reserve c units asks) told place = AreWeighed asks told (weighed_in place)
HasNoted (Delete c) told place = HasGivenBack told place.heard
HasNoted (Update changes) told place = AreNoted changes told place
HasNoted _ told place = ⊤
