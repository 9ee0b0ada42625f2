-- The turns of a play are those of sessions, whatever the events say.
-- A session asks what is left of its program where its transaction stands, and that may be asked; what a step answers says where the
-- transaction stands. By induction on what is left of a session, since each reply at once takes it on; and then on the events.
use Rattle.std.proofs.Common.{◌≡◌, ℕ, Bool, true, false, cond, List, [], ◌∷◌, ◌++◌, refl, sym, ◌∙◌, ap, subst}
use Rattle.seq_model.specs.declared.call.Call.{Call}
use Rattle.seq_model.specs.declared.call.Reply.{Reply}
use Rattle.seq_model.specs.declared.event.Answer.TheVariants as answer
use Rattle.seq_model.specs.declared.event.Event.{Event}
use Rattle.seq_model.specs.declared.event.Event.TheVariants as event
use Rattle.seq_model.specs.declared.event.Notice.{Notice}
use Rattle.seq_model.specs.declared.event.Notice.TheVariants.{Quiet, Answered, Refused}
use Rattle.seq_model.specs.declared.event.Request.TheVariants as request
use Rattle.seq_model.specs.declared.refusal.Refusal.{Refusal}
use Rattle.step_core.specs.Shown.{is_actor}
use Rattle.replay_log.specs.Contents.{Block, HaveStripes}
use Rattle.replay_log.specs.Collections.{Suit}
use Rattle.replay_log.specs.Worlds.{World, Seat, Stage, Idle, Open, gives_up, happens, starve_at}
use Rattle.replay_log.specs.WorldTraces.{committed_by}
use Rattle.std.specs.Prelude.{is_some, Option, Some, None}
use Rattle.vac_model.specs.declared.action.Action.{Action}
use Rattle.vac_model.specs.Actions.{IsAllowed}
use Rattle.vac_model.specs.Balanced.{IsBalanced}
use Rattle.vac_model.specs.Holdings.{Holdings}
use Rattle.seq_model.specs.declared.job.Ask.TheVariants as ask
use Rattle.seq_model.specs.Programs.{Program, Asks, Answers, GivesUp, after, asked, replies_of}
use Rattle.client_sessions.specs.declared.entry.Entry.{Entry}
use Rattle.client_sessions.specs.Holding.{state_of}
use Rattle.client_sessions.specs.Sessions.{SessionProgram, session}
use Rattle.vacation_core.specs.ClientWorlds.{MayHappen, at_idle}
use Rattle.vacation_core.specs.Histories.{IsAt, IsLawful, action_in, done_in, opening_of, world_in}
use Rattle.vacation_core.specs.Serial.{begun_all}
use Rattle.vacation_core.proofs.HistoryLemmas.{calls_to, goes_on, lawful_next, may_ask, phase_next}
use Rattle.vacation_core.proofs.ServeLemmas.{sessions_are_serial}
use Rattle.actor_laws.proofs.KnownStageLemmas.{steps_move}
use Rattle.actor_laws.specs.KnownStages.{CallMoves, KnownStage, Begins, Stands, Calls, StepMoves, known_stage}
use Rattle.vacation_core.specs.declared.events.VacEvent.{VacEvent}
use Rattle.vacation_core.specs.declared.events.VacEvent.TheVariants.{Start, Step, Starve}
use Rattle.vacation_core.specs.Laws.{IsSerialPlay, PlaysAreSerial, PlaysHoldTables}
use Rattle.vacation_core.proofs.HalfDoneLemmas.{holds_tables}
use Rattle.vacation_core.specs.Plays.{AreAllowed, Play, aborts, asks_on, at_open, begins, ends, ends_for, hears, if_replied, left_of, moved}
use Rattle.vacation_core.specs.Plays.{played, played_all, seat_in, takes, told, turned, unplayed}
use Rattle.actor_laws.specs.KnownStages.{known_stage_at}
use Rattle.replay_log.specs.Worlds.{Copying, Gating, Ready, because}
use Rattle.seq_model.specs.declared.refusal.Refusal.TheVariants.{Memory as OutOfMemory}

-- ---- programs

after_none : {V A : Type 0} → (p : Program V A) → after p [] ≡ p
after_none (Asks call next) = refl
after_none (Answers a) = refl
after_none GivesUp = refl

same_next : {V A : Type 0} → (c d : Call V) (on next : Reply V → Program V A) → Asks c on ≡ Asks d next → on ≡ next
same_next c d on next e = cc

answers_asks : {V A : Type 0} → (a : A) (c : Call V) (next : Reply V → Program V A) → Answers a ≡ Asks c next → ⊥
answers_asks a c next e = cc

gone_asks : {V A : Type 0} → (c : Call V) (next : Reply V → Program V A) → GivesUp ≡ Asks c next → ⊥
gone_asks c next e = cc

at_reply : {V A : Type 0} → (f g : Reply V → Program V A) (r : Reply V) → f ≡ g → f r ≡ g r
at_reply f g r e = (λ j. e j r)

-- a reply takes a program on
pub replied_next : {V A : Type 0} → (calls : List (Call V × Reply V)) (p : Program V A) (call : Call V) (next : Reply V → Program V A)
    (r : Reply V) → after p (replies_of calls) ≡ Asks call next → after p (replies_of (calls ++ (call, r) ∷ [])) ≡ next r
replied_next [] (Asks c on) call next r e = after_none (on r) ∙ at_reply on next r (same_next c call on next e)
replied_next [] (Answers a) call next r e = absurd (answers_asks a call next e)
replied_next [] GivesUp call next r e = absurd (gone_asks call next e)
replied_next (d ∷ ds) (Asks c on) call next r e = replied_next ds (on d.1) call next r e
replied_next (d ∷ ds) (Answers a) call next r e = absurd (answers_asks a call next e)
replied_next (d ∷ ds) GivesUp call next r e = absurd (gone_asks call next e)

-- ---- an answer says where a transaction stands

-- it stands open where an answer lets its session continue
abbrev pub StandsBy : Notice Entry → KnownStage Entry → Type 0
StandsBy (Answered b (answer.Begun rv)) to = to ≡ Stands []
StandsBy (Answered b (answer.Replied r)) to = (calls : List (Call Entry × Reply Entry)) × (to ≡ Stands calls)
StandsBy n to = Unit {0}

called_stands : (calls : List (Call Entry × Reply Entry)) (call : Call Entry) (n : Notice Entry) (to : KnownStage Entry)
    → CallMoves calls call n to
    → StandsBy n to
called_stands calls call (Answered b (answer.Replied r)) to m = (calls ++ (call, r) ∷ [], m)
called_stands calls call (Answered b (answer.Begun rv)) to m = absurd m
called_stands calls call n to m = tt

steps_stand : (before : KnownStage Entry) (commits : Bool) (n : Notice Entry) (to : KnownStage Entry) → StepMoves before commits n to
    → StandsBy n to
steps_stand (Calls calls call) false n to m = called_stands calls call n to m
steps_stand Begins false (Answered b (answer.Begun rv)) to m = m
steps_stand before false (Answered b (answer.Begun rv)) to m = absurd m
steps_stand before false (Answered b (answer.Replied r)) to m = absurd m
steps_stand before true (Answered b (answer.Begun rv)) to m = absurd m
steps_stand before true (Answered b (answer.Replied r)) to m = absurd m
steps_stand before commits n to m = tt

-- a failed allocation is no answer
abbrev IsUnanswered : Notice Entry → Type 0
IsUnanswered (Answered b x) = ⊥
IsUnanswered n = Unit {0}

unanswered_up : (u : World Entry) (a : ℕ) (x : Seat Entry) (ks : List ℕ) → IsUnanswered (gives_up u a x ks).1
unanswered_up u a x [] = tt
unanswered_up u a x (k ∷ ks) = tt

unanswered_stands : (n : Notice Entry) (to : KnownStage Entry) → IsUnanswered n → StandsBy n to
unanswered_stands (Answered b x) to h = absurd h
unanswered_stands n to h = tt

-- ---- what may be asked

pub record IsSound (p : Play) : Type 0 where
  pub lawful : IsLawful p.history
  pub goes_on : p.given_up ≡ []

abbrev pub May : Play → Event Entry → Action → Type 0
May p e action = MayHappen (begun_all p.history.actions (opening_of p.history) p.history.turns) (world_in p.history) (e, action)

pub sound_turn : (p : Play) (e : Event Entry) (action : Action) → May p e action → IsSound p → IsSound (turned e action p)
sound_turn p e action may s = record { lawful = lawful_next p.history (e, action) s.lawful may; goes_on = s.goes_on }

pub sound_ends : (a : ℕ) (cause : Refusal) (p : Play) → IsSound p → IsSound (ends a cause p)
sound_ends a cause p s = record { lawful = s.lawful; goes_on = s.goes_on }

sound_ends_for : (a : ℕ) (o : Option Refusal) (p : Play) → IsSound p → IsSound (ends_for a o p)
sound_ends_for a None p s = s
sound_ends_for a (Some cause) p s = sound_ends a cause p s

sound_aborts : (a : ℕ) (cause : Refusal) (p : Play) → IsSound p → IsSound (aborts a cause p)
sound_aborts a cause p s =
    let t = sound_turn p (event.Ask a request.Abort) (action_in a p.history) tt s in
    record { lawful = t.lawful; goes_on = t.goes_on }

-- its transaction stands open with these calls
pub at_now : (a : ℕ) (p : Play) (at : KnownStage Entry) → known_stage (seat_in a p) ≡ at
    → IsAt a at (action_in a p.history) (done_in a p.history) p.history
at_now a p at stands = record { stands = stands; does = refl; has = refl }

sound_replied : (a : ℕ) (n : Notice Entry) (calls : List (Call Entry × Reply Entry)) (call : Call Entry) (next : Reply Entry
    → Play) (q : Play)
    (to : KnownStage Entry) → IsSound q → CallMoves calls call n to
    → ((r : Reply Entry) → to ≡ Stands (calls ++ (call, r) ∷ []) → IsSound (next r)) → IsSound (if_replied a n next q)
sound_replied a (Answered b (answer.Replied r)) calls call next q to s m goes = goes r m
sound_replied a (Answered b w) calls call next q to s m goes = s
sound_replied a (Refused b cause) calls call next q to s m goes = sound_aborts a cause q s
sound_replied a Quiet calls call next q to s m goes = s

-- what a call is answered at once, and what its transaction is to do and stands at then
pub called_at : (a : ℕ) (p : Play) (calls : List (Call Entry × Reply Entry)) (call : Call Entry) → known_stage (seat_in a p) ≡ Stands calls
    → let e = event.Ask a (request.Call call) in let q = moved a e p in
    (to : KnownStage Entry) × (known_stage (seat_in a q) ≡ to) × CallMoves calls call (told e p) to
    × (action_in a q.history ≡ action_in a p.history) × (done_in a q.history ≡ done_in a p.history)
called_at a p calls call stands =
    let h = p.history in
    let x = calls_to h a (Stands calls) call (action_in a h) (done_in a h) (told (event.Ask a (request.Call call)) p)
    (at_now a p (Stands calls) stands) refl in
    (x.to, x.at.stands, x.moves, x.at.does, x.at.has)

pub sound_asks : (a : ℕ) (program : SessionProgram) (p : Play) (calls : List (Call Entry × Reply Entry)) → IsSound p
    → known_stage (seat_in a p) ≡ Stands calls → after (session (action_in a p.history)) (replies_of calls) ≡ program
    → IsSound (asks_on a program p)
sound_asks a (Asks call next) p calls s stands left =
    let h = p.history in
    let e = event.Ask a (request.Call call) in
    let q = moved a e p in
    let may = may_ask h a calls (action_in a h) (done_in a h) (ask.Call call) (at_now a p (Stands calls) stands) (ap asked left) in
    let x = called_at a p calls call stands in
    sound_replied a (told e p) calls call (λ r. asks_on a (next r) q) q x.0 (sound_turn p e (action_in a h) may s) x.2
    (λ r to. sound_asks a (next r) q (calls ++ (call, r) ∷ []) (sound_turn p e (action_in a h) may s) (x.1 ∙ to)
    (ap (λ (action : Action). after (session action) (replies_of (calls ++ (call, r) ∷ []))) x.3
    ∙ replied_next calls (session (action_in a h)) call next r left))
sound_asks a (Answers x) p calls s stands left =
    let h = p.history in
    sound_turn p (event.Ask a request.Commit) (action_in a h)
    (may_ask h a calls (action_in a h) (done_in a h) ask.Done (at_now a p (Stands calls) stands) (ap asked left)) s
sound_asks a GivesUp p calls s stands left =
    let h = p.history in
    absurd (goes_on h a calls (action_in a h) (done_in a h) s.lawful (at_now a p (Stands calls) stands) (ap asked left))

-- the calls of a transaction that stands open
abbrev IsWith : List (Call Entry × Reply Entry) → KnownStage Entry → Type 0
IsWith cs (Stands ds) = ds ≡ cs
IsWith cs q = ⊥

stands_with : (cs ds : List (Call Entry × Reply Entry)) (st : Stage Entry) → IsWith cs (known_stage_at ds st) → ds ≡ cs
stands_with cs ds Open h = h
stands_with cs ds st h = absurd h

pub open_calls : (a : ℕ) (p : Play) (calls : List (Call Entry × Reply Entry)) → known_stage (seat_in a p) ≡ Stands calls
    → (seat_in a p).calls ≡ calls
open_calls a p calls stands =
    stands_with calls (seat_in a p).calls (seat_in a p).stage (subst (IsWith calls) (sym stands) refl)

pub sound_goes : (a : ℕ) (p : Play) (calls : List (Call Entry × Reply Entry)) → IsSound p → known_stage (seat_in a p) ≡ Stands calls
    → IsSound (asks_on a (left_of a p) p)
sound_goes a p calls s stands =
    sound_asks a (left_of a p) p calls s stands
    (ap (λ (cs : List (Call Entry × Reply Entry)). after (session (action_in a p.history)) (replies_of cs))
    (sym (open_calls a p calls stands)))

-- ---- events

at_open_by : (st : Stage Entry) (p q : Play) → IsSound p → IsSound q → IsSound (at_open st p q)
at_open_by Open p q s t = s
at_open_by st p q s t = t

at_idle_by : (st : Stage Entry) (p q : Play) → IsSound p → IsSound q → IsSound (at_idle st p q)
at_idle_by Idle p q s t = s
at_idle_by st p q s t = t

if_by : (b : Bool) (p q : Play) → IsSound p → IsSound q → IsSound (cond b p q)
if_by true p q s t = s
if_by false p q s t = t

sound_hears : (a : ℕ) (n : Notice Entry) (p : Play) → StandsBy n (known_stage (seat_in a p)) → IsSound p → IsSound (hears a n p)
sound_hears a (Answered b (answer.Begun rv)) p stands s = sound_goes a p [] s stands
sound_hears a (Answered b (answer.Replied r)) p stands s = sound_goes a p stands.0 s stands.1
sound_hears a (Answered b (answer.Committed n)) p stands s = s
sound_hears a (Answered b answer.Aborted) p stands s = sound_ends_for a (p.faults a) p s
sound_hears a (Refused b cause) p stands s =
    at_open_by (seat_in a p).stage (aborts a cause p) (ends a cause p) (sound_aborts a cause p s) (sound_ends a cause p s)
sound_hears a Quiet p stands s = s

step_stands : (a : ℕ) (p : Play) → StandsBy (told (event.Step a) p) (known_stage (seat_in a (moved a (event.Step a) p)))
step_stands a p =
    let h = p.history in
    let w = world_in h in
    subst (StandsBy (told (event.Step a) p)) (sym (phase_next a h (event.Step a, action_in a h)))
    (steps_stand (known_stage (w.seats a)) (is_some (committed_by (w.seats a) (w.seats a).stage)) (told (event.Step a) p)
    (known_stage ((happens w (event.Step a)).0.seats a)) (steps_move w a))

starved : (w : World Entry) (a : ℕ) (x : Seat Entry) (st : Stage Entry) → IsUnanswered (starve_at w a x st).1
starved w a x (Copying asked) = tt
starved w a x (Gating got ks tries) = unanswered_up w a (because x OutOfMemory) got
starved w a x (Ready ks) = unanswered_up w a (because x OutOfMemory) ks
starved w a x st = tt

starve_stands : (a : ℕ) (p : Play) → StandsBy (told (event.Starve a) p) (known_stage (seat_in a (moved a (event.Starve a) p)))
starve_stands a p =
    let w = world_in p.history in
    unanswered_stands (told (event.Starve a) p) (known_stage (seat_in a (moved a (event.Starve a) p)))
    (starved w a (w.seats a) (w.seats a).stage)

sound_takes : (a : ℕ) (e : Event Entry) (p : Play) → May p e (action_in a p.history)
    → StandsBy (told e p) (known_stage (seat_in a (moved a e p)))
    → IsSound p → IsSound (takes a e p)
sound_takes a e p may stands s =
    let q = moved a e p in
    at_idle_by (seat_in a p).stage p (hears a (told e p) q) s
    (sound_hears a (told e p) q stands (sound_turn p e (action_in a p.history) may s))

sound_begins : (a : ℕ) (action : Action) (p : Play) → IsAllowed action → IsSound p → IsSound (begins a action p)
sound_begins a action p allowed s =
    let t = sound_turn p (event.Ask a request.Begin) action allowed s in
    at_idle_by (seat_in a p).stage _ _ (record { lawful = t.lawful; goes_on = t.goes_on }) (sound_ends a _ p s)

sound_all : (events : List VacEvent) (p : Play) → AreAllowed events → IsSound p → IsSound (played_all p events)
sound_all [] p allowed s = s
sound_all (Start a action ∷ es) p allowed s =
    sound_all es (played p (Start a action)) allowed.1
    (if_by (is_actor a) _ _ (sound_begins a action p allowed.0 s) (sound_ends a _ p s))
sound_all (Step a ∷ es) p allowed s =
    sound_all es (played p (Step a)) allowed.1
    (if_by (is_actor a) _ _ (sound_takes a (event.Step a) p tt (step_stands a p) s) s)
sound_all (Starve a ∷ es) p allowed s =
    sound_all es (played p (Starve a)) allowed.1
    (if_by (is_actor a) _ _ (sound_takes a (event.Starve a) p tt (starve_stands a p) s) s)

pub sound_unplayed : (blocks : List Block) (tables : Holdings) → HaveStripes blocks → Suit blocks (state_of tables).held → IsBalanced tables
    → IsSound (unplayed blocks tables)
sound_unplayed blocks tables stripes suits balanced = record {
  lawful = record { allowed = λ a. tt; balanced = balanced; stripes = stripes; suits = suits; asks = tt };
  goes_on = refl;
}

-- ---- the law

pub serial_play : (p : Play) → IsSound p → IsSerialPlay p
serial_play p s =
    let h = p.history in
    let l = s.lawful in
    record {
      serial = sessions_are_serial h.blocks h.clock h.tables h.actions h.turns l.allowed l.balanced l.stripes l.suits l.asks;
      goes_on = s.goes_on;
    }

pub plays_are_serial : PlaysAreSerial
plays_are_serial blocks tables events stripes suits balanced allowed =
    let p = unplayed blocks tables in
    serial_play (played_all p events) (sound_all events p allowed (sound_unplayed blocks tables stripes suits balanced))

pub plays_hold_tables : PlaysHoldTables
plays_hold_tables blocks tables events stripes suits balanced allowed =
    let p = unplayed blocks tables in
    let s = sound_all events p allowed (sound_unplayed blocks tables stripes suits balanced) in
    holds_tables (played_all p events).history s.lawful
