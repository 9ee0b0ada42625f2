-- A line for each receipt.
use Rattle.std.proofs.Common.{◌≡◌, List, [], ◌∷◌, ◌++◌, ap, sym, subst, length, arith}
use Rattle.std.proofs.lemmas.List.{append_assoc, append-nil}
use Rattle.seq_model.specs.declared.record.Record.{Record}
use Rattle.seq_model.specs.Programs.{Answers, after, asked, replies_of}
use Rattle.seq_model.specs.declared.job.Ask.TheVariants as ask
use Rattle.seq_model.proofs.ProgramLemmas.{follows_after}
use Rattle.vac_model.specs.declared.action.Action.{Action}
use Rattle.client_sessions.specs.declared.entry.Entry.{Entry}
use Rattle.client_sessions.specs.Sessions.{session}
use Rattle.text_formats.specs.declared.session_print.Line.{Line}
use Rattle.session_text.specs.Receipts.{AreLines, AreReceipts, IsLine, IsReceipt}

-- by its receipt a session is done
pub is_done : (a : Action) (r : Record Entry) → IsReceipt a r → asked (after (session a) (replies_of r.calls)) ≡ ask.Done
is_done a r is = ap asked (follows_after r.calls (session a) (Answers is.0) is.1.whole)

-- these lines, and then lines for what is left, are lines for all
abbrev pub GoesOn : (actions left : List Action) → (receipts unread : List (Record Entry)) → List Line → Type 0
GoesOn actions left receipts unread lines = (ls : List Line) → AreLines left unread ls → AreLines actions receipts (lines ++ ls)

pub one_more : (actions later : List Action) (receipts behind : List (Record Entry)) (a : Action) (r : Record Entry) (lines : List Line)
    (l : Line) → GoesOn actions (a ∷ later) receipts (r ∷ behind) lines → IsLine a r l
    → GoesOn actions later receipts behind (lines ++ l ∷ [])
one_more actions later receipts behind a r lines l goes is ls are =
    subst (AreLines actions receipts) (sym (append_assoc lines (l ∷ []) ls)) (goes (l ∷ ls) (is, are))

pub at_end : (actions left : List Action) (receipts unread : List (Record Entry)) (lines : List Line) → length left ≡ 0
    → GoesOn actions left receipts unread lines → AreReceipts left unread → AreLines actions receipts lines
at_end actions [] receipts [] lines none goes are = subst (AreLines actions receipts) (append-nil lines) (goes [] tt)
at_end actions [] receipts (r ∷ rs) lines none goes are = absurd are
at_end actions (a ∷ more) receipts unread lines none goes are = absurd (omega (arith, none))

-- the first of what is left
pub first_of : (left later : List Action) (unread behind : List (Record Entry)) (a : Action) (r : Record Entry) → left ≡ a ∷ later
    → unread ≡ r ∷ behind → AreReceipts left unread → IsReceipt a r × AreReceipts later behind
first_of left later unread behind a r one two are =
    subst (λ xs. AreReceipts xs (r ∷ behind)) one (subst (AreReceipts left) two are)
