-- The sessions of a list of actions, one after another: their receipts, and the state that they leave.
use Rattle.std.specs.Prelude.{ℕ, List, map}
use Rattle.seq_model.specs.declared.record.Record.{Record}
use Rattle.seq_model.specs.Contents.{Contents}
use Rattle.vac_model.specs.declared.action.Action.{Action}
use Rattle.vac_model.specs.Holdings.{Holdings}
use Rattle.client_sessions.specs.declared.entry.Entry.{Entry}
use Rattle.vacation_core.specs.Served.{AreServed}
use Rattle.vacation_core.specs.declared.session.TheConstants.{CLIENT}

-- the receipts as records of the client
abbrev pub of_client : List (Record Entry) → List (ℕ × Record Entry)
of_client receipts = map (λ r. (CLIENT, r)) receipts

-- There is one receipt for each action, in order: it is one of the action's session, which was answered as the action is on the tables that
-- those before it leave. In their order they are a run from the state of the tables, and s is the state of what they leave, balanced.
abbrev pub AreReceipts : Holdings → List Action → List (Record Entry) → Contents Entry → Type 0
AreReceipts tables done receipts s = AreServed tables done (of_client receipts) s
