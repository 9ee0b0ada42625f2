-- Receipts of sessions, and the lines that are printed for them.
use Rattle.std.specs.Prelude.{◌≡◌, List, [], ◌∷◌, ⊤}
use Rattle.seq_model.specs.declared.record.Record.{Record}
use Rattle.seq_model.specs.Programs.{Answers, after, replies_of}
use Rattle.vac_model.specs.declared.action.Action.{Action}
use Rattle.vac_model.specs.declared.action.ActionReply.{ActionReply}
use Rattle.client_sessions.specs.declared.entry.Entry.{Entry}
use Rattle.client_sessions.specs.Runs.{IsSession}
use Rattle.client_sessions.specs.Sessions.{session}
use Rattle.text_formats.specs.declared.session_print.Line.{Line}
use Rattle.text_formats.specs.declared.session_print.Line.TheVariants.{Done}

-- the receipt has all calls of the session of this action
abbrev pub IsReceipt : Action → Record Entry → Type 0
IsReceipt action r = (reply : ActionReply) × IsSession (action, reply) r.calls

abbrev pub AreReceipts : List Action → List (Record Entry) → Type 0
AreReceipts [] [] = ⊤
AreReceipts (a ∷ more) (r ∷ rs) = IsReceipt a r × AreReceipts more rs
AreReceipts _ _ = ⊥

-- the line has the number of the receipt, and what the session answers by the replies in it
abbrev pub IsLine : Action → Record Entry → Line → Type 0
IsLine action r (Done number reply) = (number ≡ r.number) × (after (session action) (replies_of r.calls) ≡ Answers reply)
IsLine action r line = ⊥

abbrev pub AreLines : List Action → List (Record Entry) → List Line → Type 0
AreLines [] [] [] = ⊤
AreLines (a ∷ more) (r ∷ rs) (l ∷ ls) = IsLine a r l × AreLines more rs ls
AreLines _ _ _ = ⊥
