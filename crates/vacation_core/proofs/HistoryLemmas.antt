-- A turn more in the history of a world of clients.
-- A turn that may happen leaves a lawful history, whose world is what its event leaves. Where its client stands then, what it is answered
-- says; and a step that commits adds the action of its transaction to what the client has committed.
use Rattle.std.proofs.Common.{◌≡◌, ◌≢◌, ℕ, Bool, true, false, eqb, eq-eqb, List, [], ◌∷◌, ◌++◌, Option, Some, None, refl, sym, ◌∙◌, ap}
use Rattle.std.proofs.Common.{subst}
use Rattle.std.specs.Prelude.{if◌then◌else◌, is_some}
use Rattle.std.proofs.lemmas.Bool.{cond-true}
use Rattle.std.proofs.lemmas.List.{append_assoc, append-nil}
use Rattle.tx_sets.specs.Entries.{Entries}
use Rattle.tx_machine.specs.World.{put}
use Rattle.tx_machine.proofs.Sets.{put-same}
use Rattle.seq_model.specs.declared.call.Call.{Call}
use Rattle.seq_model.specs.declared.call.Reply.{Reply}
use Rattle.seq_model.specs.declared.event.Event.TheVariants.{Ask, Step}
use Rattle.seq_model.specs.declared.event.Notice.{Notice}
use Rattle.seq_model.specs.declared.event.Notice.TheVariants.{Quiet}
use Rattle.seq_model.specs.declared.event.Request.{Request}
use Rattle.seq_model.specs.declared.event.Request.TheVariants as request
use Rattle.seq_model.specs.declared.record.Record.{Record}
use Rattle.replay_log.specs.Worlds.{World, Seat, Stage, Idle, Open, actor_of, ask_at, commits, happens}
use Rattle.replay_log.specs.WorldTraces.{committed_by}
use Rattle.vac_model.specs.declared.action.Action.{Action}
use Rattle.seq_model.specs.Programs.{after, asked, replies_of}
use Rattle.seq_model.specs.declared.job.Ask.{Ask as Asks}
use Rattle.seq_model.specs.declared.job.Ask.TheVariants as ask
use Rattle.client_sessions.specs.declared.entry.Entry.{Entry}
use Rattle.client_sessions.specs.Sessions.{session}
use Rattle.vacation_core.specs.Alone.{AreOf}
use Rattle.vacation_core.specs.ClientWorlds.{Actions, MayHappen, Turn, at_idle, begun}
use Rattle.vacation_core.specs.Histories.{History, IsAt, IsLawful, action_in, done_in, later, opening_of, world_in}
use Rattle.actor_laws.specs.KnownStages.{AskMoves, KnownStage, Rests, Begins, Stands, StepMoves, known_stage, known_stage_at}
use Rattle.vacation_core.specs.Serial.{begun_all, committed_in, if_committed}
use Rattle.vacation_core.proofs.AloneLemmas.{asks_on, begun_on, committed_on, run_on}
use Rattle.actor_laws.proofs.KnownStageLemmas.{asks_move, steps_move}
use Rattle.vacation_core.proofs.ServeLemmas.{sessions_are_serial}

-- ---- a turn more

abbrev pub next : History → Turn → History
next h t = later h (t ∷ [])

pub world_next : (h : History) (t : Turn) → world_in (next h t) ≡ (happens (world_in h) t.0).0
world_next h t = run_on (opening_of h) h.turns t

pub action_next : (a : ℕ) (h : History) (t : Turn)
    → action_in a (next h t) ≡ begun (begun_all h.actions (opening_of h) h.turns) (world_in h) t a
action_next a h t = ap (λ (f : Actions). f a) (begun_on h.actions (opening_of h) h.turns t)

pub done_next : (a : ℕ) (h : History) (t : Turn)
    → done_in a (next h t) ≡ done_in a h ++ committed_in a (begun_all h.actions (opening_of h) h.turns) (world_in h) t
done_next a h t = committed_on a h.actions (opening_of h) h.turns t

pub lawful_next : (h : History) (t : Turn) → IsLawful h → MayHappen (begun_all h.actions (opening_of h) h.turns) (world_in h) t
    → IsLawful (next h t)
lawful_next h t l may = record {
  allowed = l.allowed;
  balanced = l.balanced;
  stripes = l.stripes;
  suits = l.suits;
  asks = asks_on h.actions (opening_of h) h.turns t l.asks may;
}

pub phase_next : (a : ℕ) (h : History) (t : Turn) → known_stage ((world_in (next h t)).seats a) ≡ known_stage
    ((happens (world_in h) t.0).0.seats a)
phase_next a h t = ap (λ (w : World Entry). known_stage (w.seats a)) (world_next h t)

pub later_on : (h : History) (ts us : List Turn) → later (later h ts) us ≡ later h (ts ++ us)
later_on h ts us = ap (λ (xs : List Turn). record h { turns = xs }) (append_assoc h.turns ts us)

pub all_of : (a : ℕ) (ts us : List Turn) → AreOf a ts → AreOf a us → AreOf a (ts ++ us)
all_of a [] us are more = more
all_of a (t ∷ ts) us are more = (are.0, all_of a ts us are.1 more)

-- ---- a step

if_some : (o : Option (Record Entry)) (action : Action) → if_committed o action ≡ (if is_some o then action ∷ [] else [])
if_some (Some r) action = refl
if_some None action = refl

with_one : (b : Bool) (done : List Action) (action : Action)
    → done ++ (if b then action ∷ [] else []) ≡ (if b then done ++ action ∷ [] else done)
with_one true done action = refl
with_one false done action = append-nil done

-- Its client, where it stood at p, has stepped and was answered n.
pub record Stepped (a : ℕ) (p : KnownStage Entry) (action : Action) (done : List Action) (n : Notice Entry) (h : History) : Type 0 where
  pub commits : Bool
  pub to : KnownStage Entry
  pub moves : StepMoves p commits n to
  pub at : IsAt a to action (if commits then done ++ action ∷ [] else done) h

-- a step that commits adds the action to what is done
pub step_at : (h : History) (a : ℕ) (p : KnownStage Entry) (action : Action) (done : List Action) → IsAt a p action done h
    → let x = (world_in h).seats a in
    IsAt a (known_stage ((happens (world_in h) (Step a)).0.seats a)) action
    (if is_some (committed_by x x.stage) then done ++ action ∷ [] else done) (next h (Step a, action))
step_at h a p action done at =
    let x = (world_in h).seats a in
    let commits = is_some (committed_by x x.stage) in
    let t : Turn = (Step a, action) in
    record {
      stands = phase_next a h t;
      does = action_next a h t ∙ at.does;
      has =
          done_next a h t
          ∙ ap (λ (xs : List Action). done_in a h ++ xs)
          (cond-true (eqb a a) (if_committed (committed_by x x.stage) (action_in a h)) [] (eq-eqb a a refl)
          ∙ if_some (committed_by x x.stage) (action_in a h))
          ∙ with_one commits (done_in a h) (action_in a h)
          ∙ (λ i. if commits then at.has i ++ at.does i ∷ [] else at.has i);
    }

pub steps_to : (h : History) (a : ℕ) (p : KnownStage Entry) (action : Action) (done : List Action) (n : Notice Entry)
    → IsAt a p action done h
    → n ≡ (happens (world_in h) (Step a)).1 → Stepped a p action done n (next h (Step a, action))
steps_to h a p action done n at told =
    let w = world_in h in
    let x = w.seats a in
    let commits = is_some (committed_by x x.stage) in
    let to = known_stage ((happens w (Step a)).0.seats a) in
    record {
      commits = commits;
      to = to;
      moves =
          subst (λ (q : KnownStage Entry). StepMoves q commits n to) at.stands
          (subst (λ (m : Notice Entry). StepMoves (known_stage x) commits m to) (sym told) (steps_move w a));
      at = step_at h a p action done at;
    }

-- ---- a request inside a transaction

pub record Asked (a : ℕ) (p : KnownStage Entry) (q : Request Entry) (action : Action) (done : List Action) (n : Notice Entry)
    (h : History) : Type 0 where
  pub to : KnownStage Entry
  pub moves : AskMoves p q n to
  pub at : IsAt a to action done h

asks_by : (h : History) (a : ℕ) (p : KnownStage Entry) (q : Request Entry) (action : Action) (done : List Action) (n : Notice Entry)
    → (begun (begun_all h.actions (opening_of h) h.turns) (world_in h) (Ask a q, action) a ≡ action) → IsAt a p action done h
    → n ≡ (happens (world_in h) (Ask a q)).1 → Asked a p q action done n (next h (Ask a q, action))
asks_by h a p q action done n same at told =
    let w = world_in h in
    let to = known_stage ((happens w (Ask a q)).0.seats a) in
    let t : Turn = (Ask a q, action) in
    record {
      to = to;
      moves =
          subst (λ (r : KnownStage Entry). AskMoves r q n to) at.stands
          (subst (λ (m : Notice Entry). AskMoves (known_stage (w.seats a)) q m to) (sym told) (asks_move w a q));
      at = record {
        stands = phase_next a h t;
        does = action_next a h t ∙ same;
        has = done_next a h t ∙ append-nil (done_in a h) ∙ at.has;
      };
    }

pub calls_to : (h : History) (a : ℕ) (p : KnownStage Entry) (call : Call Entry) (action : Action) (done : List Action) (n : Notice Entry)
    → IsAt a p action done h → n ≡ (happens (world_in h) (Ask a (request.Call call))).1
    → Asked a p (request.Call call) action done n (next h (Ask a (request.Call call), action))
calls_to h a p call action done n at told = asks_by h a p (request.Call call) action done n at.does at told

pub commits_to : (h : History) (a : ℕ) (p : KnownStage Entry) (action : Action) (done : List Action) (n : Notice Entry)
    → IsAt a p action done h → n ≡ (happens (world_in h) (Ask a request.Commit)).1
    → Asked a p request.Commit action done n (next h (Ask a request.Commit, action))
commits_to h a p action done n at told = asks_by h a p request.Commit action done n at.does at told

pub aborts_to : (h : History) (a : ℕ) (p : KnownStage Entry) (action : Action) (done : List Action) (n : Notice Entry)
    → IsAt a p action done h → n ≡ (happens (world_in h) (Ask a request.Abort)).1
    → Asked a p request.Abort action done n (next h (Ask a request.Abort, action))
aborts_to h a p action done n at told = asks_by h a p request.Abort action done n at.does at told

-- ---- the stage of a phase

abbrev IsRest : KnownStage Entry → Type 0
IsRest Rests = Unit {0}
IsRest p = ⊥

abbrev IsOpenWith : List (Call Entry × Reply Entry) → KnownStage Entry → Type 0
IsOpenWith cs (Stands calls) = calls ≡ cs
IsOpenWith cs p = ⊥

idle_at : (calls : List (Call Entry × Reply Entry)) (st : Stage Entry) → IsRest (known_stage_at calls st) → st ≡ Idle
idle_at calls Idle h = refl
idle_at calls st h = absurd h

open_at : (cs calls : List (Call Entry × Reply Entry)) (st : Stage Entry) → IsOpenWith cs (known_stage_at calls st)
    → (st ≡ Open) × (calls ≡ cs)
open_at cs calls Open h = (refl, h)
open_at cs calls st h = absurd h

pub idle : (a : ℕ) (h : History) (action : Action) (done : List Action) → IsAt a Rests action done h → ((world_in h).seats a).stage ≡ Idle
idle a h action done at =
    let x = (world_in h).seats a in
    idle_at x.calls x.stage (subst IsRest (sym at.stands) tt)

pub opens : (a : ℕ) (h : History) (calls : List (Call Entry × Reply Entry)) (action : Action) (done : List Action)
    → IsAt a (Stands calls) action done h
    → (((world_in h).seats a).stage ≡ Open) × (((world_in h).seats a).calls ≡ calls)
opens a h calls action done at =
    let x = (world_in h).seats a in
    open_at calls x.calls x.stage (subst (IsOpenWith calls) (sym at.stands) refl)

-- ---- a begin

quiet_begin : (w : World Entry) (a : ℕ) (x : Seat Entry) (st : Stage Entry) → st ≡ Idle → (ask_at w a x st request.Begin).1 ≡ Quiet
quiet_begin w a x st e = ap (λ (s : Stage Entry). (ask_at w a x s request.Begin).1) e

begun_to : (actions : Actions) (a : ℕ) (action : Action) (st : Stage Entry) → st ≡ Idle
    → at_idle st (put actions a action) actions a ≡ action
begun_to actions a action st e =
    ap (λ (s : Stage Entry). at_idle s (put actions a action) actions a) e ∙ put-same actions a action

-- an idle client begins the session of an action
pub begins : (h : History) (a : ℕ) (old action : Action) (done : List Action) → IsAt a Rests old done h
    → IsAt a Begins action done (next h (Ask a request.Begin, action))
begins h a old action done at =
    let w = world_in h in
    let x = w.seats a in
    let rests = idle a h old done at in
    let q = request.Begin in
    let to = known_stage ((happens w (Ask a q)).0.seats a) in
    let quiet : (happens w (Ask a q)).1 ≡ Quiet = quiet_begin w a x x.stage rests in
    let t : Turn = (Ask a q, action) in
    let moves : AskMoves Rests request.Begin Quiet to =
    subst (λ (r : KnownStage Entry). AskMoves r q Quiet to) at.stands
    (subst (λ (m : Notice Entry). AskMoves (known_stage x) q m to) quiet (asks_move w a q)) in
    record {
      stands = phase_next a h t ∙ moves;
      does = action_next a h t ∙ begun_to (begun_all h.actions (opening_of h) h.turns) a action x.stage rests;
      has = done_next a h t ∙ append-nil (done_in a h) ∙ at.has;
    }

-- and is answered nothing yet
pub begin_is_quiet : (h : History) (a : ℕ) (action : Action) (done : List Action) → IsAt a Rests action done h
    → (happens (world_in h) (Ask a request.Begin)).1 ≡ Quiet
begin_is_quiet h a action done at =
    let w = world_in h in
    let x = w.seats a in
    quiet_begin w a x x.stage (idle a h action done at)

-- ---- what is asked inside a transaction

quiet_commit : (w : World Entry) (a : ℕ) (x : Seat Entry) (es : Entries) → (commits w a x es).1 ≡ Quiet
quiet_commit w a x [] = refl
quiet_commit w a x (e ∷ es) = refl

-- a commit and an abort of an open transaction answer nothing
pub commit_is_quiet : (h : History) (a : ℕ) (calls : List (Call Entry × Reply Entry)) (action : Action) (done : List Action)
    → IsAt a (Stands calls) action done h → (happens (world_in h) (Ask a request.Commit)).1 ≡ Quiet
commit_is_quiet h a calls action done at =
    let w = world_in h in
    let x = w.seats a in
    ap (λ (s : Stage Entry). (ask_at w a x s request.Commit).1) (opens a h calls action done at).0
    ∙ quiet_commit w a x (actor_of w a).writes

pub abort_is_quiet : (h : History) (a : ℕ) (calls : List (Call Entry × Reply Entry)) (action : Action) (done : List Action)
    → IsAt a (Stands calls) action done h → (happens (world_in h) (Ask a request.Abort)).1 ≡ Quiet
abort_is_quiet h a calls action done at =
    let w = world_in h in
    let x = w.seats a in
    ap (λ (s : Stage Entry). (ask_at w a x s request.Abort).1) (opens a h calls action done at).0

abbrev asked_in : History → ℕ → Asks Entry
asked_in h a = asked (after (session (action_in a h)) (replies_of ((world_in h).seats a).calls))

asked_is : (h : History) (a : ℕ) (calls : List (Call Entry × Reply Entry)) (action : Action) (done : List Action)
    → IsAt a (Stands calls) action done h → asked_in h a ≡ asked (after (session action) (replies_of calls))
asked_is h a calls action done at =
    let made = (opens a h calls action done at).1 in
    (λ i. asked (after (session (at.does i)) (replies_of (made i))))

-- what the session asks next may be asked
pub may_ask : (h : History) (a : ℕ) (calls : List (Call Entry × Reply Entry)) (action : Action) (done : List Action) (next : Asks Entry)
    → IsAt a (Stands calls) action done h → asked (after (session action) (replies_of calls)) ≡ next → asked_in h a ≡ next
may_ask h a calls action done next at asks = asked_is h a calls action done at ∙ asks

-- and it doesn't abort
pub goes_on : (h : History) (a : ℕ) (calls : List (Call Entry × Reply Entry)) (action : Action) (done : List Action)
    → IsLawful h → IsAt a (Stands calls) action done h → asked (after (session action) (replies_of calls)) ≢ ask.GiveUp
goes_on h a calls action done l at gives_up =
    (sessions_are_serial h.blocks h.clock h.tables h.actions h.turns l.allowed l.balanced l.stripes l.suits l.asks).goes_on a
    (opens a h calls action done at).0 (may_ask h a calls action done ask.GiveUp at gives_up)
