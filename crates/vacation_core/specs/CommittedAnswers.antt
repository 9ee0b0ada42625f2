-- The answers of sessions that committed: of the records in commit order, each with what its session answered.
use Rattle.std.specs.Prelude.{◌≡◌, ℕ, zero, suc, Bool, List, [], ◌∷◌, ◌++◌, drop, Option, Some, None, get_or, slice_get}
use Rattle.seq_model.specs.declared.record.Record.{Record}
use Rattle.vac_model.specs.declared.action.Action.{Action}
use Rattle.vac_model.specs.declared.action.ActionReply.{ActionReply}
use Rattle.client_sessions.specs.declared.entry.Entry.{Entry}
use Rattle.client_sessions.specs.Runs.{AreSessions, Deal}
use Rattle.vacation_core.specs.Serial.{actions_of}
use Rattle.vacation_core.specs.Clients.{with_open}
use Rattle.vacation_core.specs.declared.client.Client.{Client}

-- actor, number, whether it wrote, and what was answered
abbrev pub Told : Type 0
Told = ℕ × ℕ × Bool × ActionReply

abbrev pub told_by : Deal → ℕ × Record Entry → Told
told_by d r = (r.0, r.1.number, r.1.writes, d.1)

abbrev pub told_all : List Deal → List (ℕ × Record Entry) → List Told
told_all (d ∷ ds) (r ∷ rs) = told_by d r ∷ told_all ds rs
told_all ds rs = []

-- the actions of the sessions of a client, in their order, with that of the session under way
abbrev pub sessions_of : Client → List Action
sessions_of c = with_open c.current c.done

abbrev pub sessions_found : Option Client → List Action
sessions_found None = []
sessions_found (Some c) = sessions_of c

-- those of actor a; the clients are the actors from 1 on
abbrev pub sessions_in : List Client → ℕ → List Action
sessions_in cs zero = []
sessions_in cs (suc i) = sessions_found (slice_get cs i)

-- how many sessions of actor a are listed so far
abbrev pub told_of : List ℕ → ℕ → ℕ
told_of ns zero = 0
told_of ns (suc i) = get_or ns i 0

-- these are first in the list
abbrev pub AreFirst : List Action → List Action → Type 0
AreFirst xs ys = (rest : List Action) × (xs ++ rest ≡ ys)

-- The records are sessions of these deals; and where so many sessions of each client are listed, those that are left of it begin with its
-- records'.
pub record AreOwn (cs : List Client) (ns : List ℕ) (ds : List Deal) (rs : List (ℕ × Record Entry)) : Type 0 where
  pub sessions : AreSessions ds rs
  pub own : (a : ℕ) → AreFirst (actions_of a ds rs) (drop (told_of ns a) (sessions_in cs a))

-- there are such deals
pub record HaveOwn (cs : List Client) (ns : List ℕ) (rs : List (ℕ × Record Entry)) : Type 0 where
  pub deals : List Deal
  pub are : AreOwn cs ns deals rs

-- and the first record is this
pub record HaveFirst (cs : List Client) (ns : List ℕ) (r : ℕ × Record Entry) : Type 0 where
  pub deal : Deal
  pub deals : List Deal
  pub records : List (ℕ × Record Entry)
  pub are : AreOwn cs ns (deal ∷ deals) (r ∷ records)

-- one record is listed
pub record IsToldOne (cs : List Client) (before after : List ℕ) (r : ℕ × Record Entry) (one : Told) : Type 0 where
  pub goes : (d : Deal) (ds : List Deal) (rs : List (ℕ × Record Entry)) → AreOwn cs before (d ∷ ds) (r ∷ rs)
      → AreOwn cs after ds rs × (one ≡ told_by d r)
