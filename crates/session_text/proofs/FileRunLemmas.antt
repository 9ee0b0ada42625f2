-- The lines of the sessions of a file, and the audit of their receipts.
--
-- A receipt of a session of an action is one from which its line is made; what the session answers by the replies in it is what its deal
-- says. The receipts are those of one client in commit order, so records with the client for their actor; what was proved of the audit of
-- such records says that there is no fault in them, and the tables that their actions leave are balanced: an inspection finds nothing.
use Rattle.std.proofs.Common.{◌≡◌, ◌∙◌, ap, sym, subst, refl, ℕ, List, [], ◌∷◌}
use Rattle.std.specs.Prelude.{map, Err}
use Rattle.seq_model.specs.declared.record.Record.{Record}
use Rattle.seq_model.specs.declared.refusal.Refusal.{Refusal}
use Rattle.seq_model.specs.declared.refusal.Refusal.TheVariants.{Moved, Busy, Stale, GateBusy, Invalid, Memory as OutOfMemory, Exhausted}
use Rattle.seq_model.specs.declared.refusal.Refusal.TheVariants.{NoSuch, TooLong, Ahead, NotIdle, NoTransaction, BadText}
use Rattle.seq_model.specs.Runs.{IsRun, after_run}
use Rattle.seq_model.specs.Contents.{Contents}
use Rattle.seq_model.specs.Programs.{Answers, Follows, after, replies_of}
use Rattle.seq_model.proofs.ProgramLemmas.{follows_after}
use Rattle.vac_model.specs.declared.action.Action.{Action}
use Rattle.vac_model.specs.declared.action.ActionReply.{ActionReply}
use Rattle.vac_model.specs.Balanced.{IsBalanced}
use Rattle.vac_model.specs.Holdings.{Holdings}
use Rattle.client_sessions.specs.declared.entry.Entry.{Entry}
use Rattle.client_sessions.specs.Holding.{HoldsTables, state_of}
use Rattle.client_sessions.specs.Runs.{AreSessions, Deal, RunsAreActions, after_deals}
use Rattle.client_sessions.specs.Refusals.{IsNoneSuch}
use Rattle.client_sessions.specs.Sessions.{SessionProgram, session}
use Rattle.actor_parts.specs.Audits.{without_actors}
use Rattle.actor_parts.proofs.AuditLemmas.{audited}
use Rattle.text_formats.specs.declared.session_print.Line.{Line}
use Rattle.text_formats.specs.declared.session_print.Line.TheVariants.{Done}
use Rattle.text_formats.specs.declared.session_print.Line.TheVariants as line
use Rattle.session_text.specs.Receipts.{AreLines, AreReceipts}
use Rattle.vacation_core.specs.Orders as orders
use Rattle.vacation_core.specs.Orders.{of_client}
use Rattle.session_text.specs.declared.fault.RunFault.{RunFault}
use Rattle.session_text.specs.declared.fault.RunFault.TheVariants.{Refused, Audit, NotBalanced}
use Rattle.session_text.specs.Findings.{IsFinding, IsSound}
use Rattle.session_text.specs.Runs.{AreTold}

receipts_of : (deals : List Deal) (rs : List (Record Entry)) → AreSessions deals (of_client rs) → AreReceipts (map (λ d. d.0) deals) rs
receipts_of [] [] are = tt
receipts_of [] (r ∷ rs) are = absurd are
receipts_of (d ∷ ds) [] are = absurd are
receipts_of (d ∷ ds) (r ∷ rs) are = ((d.1, are.0), receipts_of ds rs are.1)

-- the receipts that are seen are those of these actions
pub tell_lines : (deals : List Deal) (actions : List Action) (rs seen : List (Record Entry)) → map (λ d. d.0) deals ≡ actions → seen ≡ rs
    → AreSessions deals (of_client rs) → AreReceipts actions seen
tell_lines deals actions rs seen asked same are =
    subst (λ (xs : List Action). AreReceipts xs seen) asked
    (subst (λ (xs : List (Record Entry)). AreReceipts (map (λ d. d.0) deals) xs) (sym same) (receipts_of deals rs are))

abbrev answers : ActionReply → SessionProgram
answers reply = Answers reply

one_answer : (x y : ActionReply) → answers x ≡ answers y → x ≡ y
one_answer x y e = cc

-- what a session answers by its replies is what its deal says
answered : (d : Deal) (r : Record Entry) (reply : ActionReply) → Follows (session d.0) r.calls (Answers d.1)
    → after (session d.0) (replies_of r.calls) ≡ Answers reply → reply ≡ d.1
answered d r reply follows answers =
    one_answer reply d.1 (sym answers ∙ follows_after r.calls (session d.0) (Answers d.1) follows)

told : (deals : List Deal) (rs : List (Record Entry)) (ls : List Line) → AreSessions deals (of_client rs)
    → AreLines (map (λ d. d.0) deals) rs ls → AreTold deals rs ls
told [] [] [] are lines = tt
told [] [] (l ∷ ls) are lines = absurd lines
told [] (r ∷ rs) ls are lines = absurd are
told (d ∷ ds) [] ls are lines = absurd are
told (d ∷ ds) (r ∷ rs) [] are lines = absurd lines
told (d ∷ ds) (r ∷ rs) (line.Missed cause ∷ ls) are lines = absurd lines.0
told (d ∷ ds) (r ∷ rs) (Done number reply ∷ ls) are lines =
    (one number reply r.number d.1 lines.0.0 (answered d r reply are.0.whole lines.0.1), told ds rs ls are.1 lines.1)
  where
    one : (n : ℕ) (x : ActionReply) (m : ℕ) (y : ActionReply) → n ≡ m → x ≡ y → Done n x ≡ Done m y
    one n x m y e f = cc

pub are_told : (deals : List Deal) (actions : List Action) (rs seen : List (Record Entry)) (ls : List Line) → map (λ d. d.0) deals ≡ actions
    → seen ≡ rs → AreSessions deals (of_client rs) → AreLines actions seen ls → AreTold deals rs ls
are_told deals actions rs seen ls asked same are lines =
    told deals rs ls are (subst (λ (xs : List Action). AreLines xs rs ls) (sym asked)
    (subst (λ (xs : List (Record Entry)). AreLines actions xs ls) same lines))

-- ---- the inspection

-- the receipts, as records of the client without their actors
alone : (rs : List (Record Entry)) → rs ≡ without_actors (of_client rs)
alone [] = refl
alone (r ∷ rs) = ap (λ xs. r ∷ xs) (alone rs)

-- an inspection of the receipts, and of the tables that their actions leave, finds nothing
pub finds_nothing : (tables left : Holdings) (actions : List Action) (opening s : Contents Entry) (rs seen : List (Record Entry))
    (fault : RunFault) → IsBalanced tables → RunsAreActions → (are : orders.AreReceipts tables actions rs s)
    → left ≡ after_deals are.deals tables → opening ≡ state_of tables → seen ≡ rs → IsFinding opening seen s left fault
    → fault ≡ Refused OutOfMemory
finds_nothing tables left actions opening s rs seen (Refused refusal) balanced law are at opens same found = ap Refused found
finds_nothing tables left actions opening s rs seen Audit balanced law are at opens same (cause, found) =
    absurd (found.0 (audited opening s seen (of_client rs) (Err cause) (same ∙ alone rs) found.1 are.ordered
    (subst (λ (o : Contents Entry). IsRun (of_client rs) o) (sym opens) are.run)
    (ap (λ (o : Contents Entry). after_run (of_client rs) o) opens
    ∙ (law are.deals (of_client rs) tables balanced are.sessions are.run).left ∙ sym are.left)))
finds_nothing tables left actions opening s rs seen NotBalanced balanced law are at opens same found =
    absurd (found (subst IsBalanced (sym at) are.balanced))

pub is_sound : (opening o s t : Contents Entry) (seen rs : List (Record Entry)) (left : Holdings) → opening ≡ o → seen ≡ rs → s ≡ t
    → IsSound opening seen s left → IsSound o rs t left
is_sound opening o s t seen rs left opens same at sound =
    subst (λ (x : Contents Entry). IsSound x rs t left) opens
    (subst (λ (xs : List (Record Entry)). IsSound opening xs t left) same
    (subst (λ (x : Contents Entry). IsSound opening seen x left) at sound))

-- ---- the tables that are left

pub are_held : (tables : Holdings) (actions : List Action) (rs : List (Record Entry)) (s : Contents Entry)
    → orders.AreReceipts tables actions rs s → HoldsTables s
are_held tables actions rs s are = record { tables = after_deals are.deals tables; are = are.left }

pub holds_tables : (refusal : Refusal) (holds : Type 0) → IsNoneSuch refusal holds → holds → refusal ≡ OutOfMemory
holds_tables OutOfMemory holds told h = refl
holds_tables NoSuch holds told h = absurd (told h)
holds_tables (Moved l w) holds told h = absurd told
holds_tables (Busy l w) holds told h = absurd told
holds_tables (Stale l b w) holds told h = absurd told
holds_tables (GateBusy c) holds told h = absurd told
holds_tables (Invalid l w) holds told h = absurd told
holds_tables (Exhausted c) holds told h = absurd told
holds_tables TooLong holds told h = absurd told
holds_tables (Ahead c) holds told h = absurd told
holds_tables NotIdle holds told h = absurd told
holds_tables NoTransaction holds told h = absurd told
holds_tables (BadText n) holds told h = absurd told
