-- No call of a session of a play is refused. Between events no transaction stands open: a session that continues asks as long as each
-- request is answered at once, and ends with one under way. So a refusal that leaves a transaction open is its call's, as NoSuch or
-- TooLong; and the result of its history is a world of clients, in which no session is answered those.
use Rattle.std.proofs.Common.{◌≡◌, ℕ, Bool, true, false, true≢false, cond, List, [], ◌∷◌, ◌++◌, Option, None, inl, inr, refl, sym, ◌∙◌, ap}
use Rattle.std.proofs.Common.{subst}
use Rattle.std.specs.Prelude.{is_some}
use Rattle.std.proofs.lemmas.Bool.{cases_eq}
use Rattle.tx_machine.specs.World.{put}
use Rattle.tx_machine.proofs.Sets.{put-other, put-same}
use Rattle.seq_model.specs.declared.call.Call.{Call}
use Rattle.seq_model.specs.declared.call.Reply.{Reply}
use Rattle.seq_model.specs.declared.event.Answer.TheVariants as answer
use Rattle.seq_model.specs.declared.event.Event.{Event}
use Rattle.seq_model.specs.declared.event.Event.TheVariants as event
use Rattle.seq_model.specs.declared.event.Notice.{Notice}
use Rattle.seq_model.specs.declared.event.Notice.TheVariants.{Quiet, Answered, Refused}
use Rattle.seq_model.specs.declared.event.Request.TheVariants as request
use Rattle.seq_model.specs.declared.refusal.Refusal.{Refusal}
use Rattle.seq_model.specs.declared.refusal.Refusal.TheVariants as refusal
use Rattle.step_core.specs.Shown.{is_actor}
use Rattle.replay_log.specs.WorldAnswers.{IsStarved}
use Rattle.replay_log.specs.WorldProgress.{whose}
use Rattle.replay_log.specs.WorldRefusals.{is_ending}
use Rattle.replay_log.specs.WorldTraces.{committed_by}
use Rattle.replay_log.specs.Worlds.{After, World, Seat, Stage, Idle, Beginning, Open, Releasing, Cancelling, Leaving}
use Rattle.replay_log.specs.Worlds.{Storing, Homing, Returning, happens}
use Rattle.replay_log.proofs.AnswerLemmas.{starves}
use Rattle.replay_log.proofs.RequestLemmas.{happens_by}
use Rattle.actor_laws.specs.Beside.{BeginsNoReader, IsNoReader, RefusesAsMistaken}
use Rattle.seq_model.specs.declared.job.Ask.TheVariants as ask
use Rattle.seq_model.specs.Programs.{Asks, Answers, GivesUp, after, asked, replies_of}
use Rattle.actor_laws.proofs.KnownStageLemmas.{steps_move}
use Rattle.actor_laws.specs.KnownStages.{AskMoves, CallMoves, IsMistaken, KnownStage, Rests, Begins}
use Rattle.actor_laws.specs.KnownStages.{Stands, Calls, Commits, Committed, Ends}
use Rattle.actor_laws.specs.KnownStages.{StepMoves}
use Rattle.actor_laws.specs.KnownStages.{known_stage, known_stage_at}
use Rattle.vac_model.specs.declared.action.Action.{Action}
use Rattle.vac_model.specs.Actions.{IsAllowed}
use Rattle.client_sessions.specs.declared.entry.Entry.{Entry}
use Rattle.client_sessions.specs.Sessions.{SessionProgram, session}
use Rattle.vacation_core.proofs.RoomLemmas.{sessions_find_room}
use Rattle.vacation_core.specs.ClientWorlds.{Turn, at_idle, events_of}
use Rattle.vacation_core.specs.Histories.{action_in, done_in, world_in}
use Rattle.vacation_core.proofs.HistoryLemmas as history
use Rattle.vacation_core.proofs.HistoryLemmas.{commit_is_quiet, commits_to, goes_on, may_ask, phase_next, world_next}
use Rattle.vacation_core.specs.declared.events.VacEvent.{VacEvent}
use Rattle.vacation_core.specs.declared.events.VacEvent.TheVariants.{Start, Step, Starve}
use Rattle.vacation_core.specs.Plays.{AreAllowed, Play, aborts, asks_on, at_open, begins, ends, ends_for, hears, if_replied, left_of, moved}
use Rattle.vacation_core.specs.Plays.{played, played_all, seat_in, takes, told, turned, unplayed}
use Rattle.vacation_core.specs.Unmet.{AreNotMistaken, PlaysFindRoom}
use Rattle.vacation_core.proofs.ClientAnswerLemmas.{ending_phase}
use Rattle.vacation_core.proofs.PlayLemmas.{IsSound, May, at_now, called_at, open_calls, replied_next, sound_ends, sound_turn}
use Rattle.vacation_core.proofs.PlayLemmas.{sound_unplayed}

-- ---- no declared reader
abbrev IsNoRead : Event Entry → Type 0
IsNoRead (event.Ask b request.BeginRead) = ⊥
IsNoRead e = Unit {0}

no_reader : (b : ℕ) (e : Event Entry) → IsNoRead e → IsNoReader b e
no_reader b (event.Ask c request.BeginRead) h = absurd h
no_reader b e h = tt

free_on : (b : ℕ) (ts : List Turn) (t : Turn) → IsNoRead t.0 → BeginsNoReader b (events_of ts)
    → BeginsNoReader b (events_of (ts ++ t ∷ []))
free_on b [] t no_read h = (no_reader b t.0 no_read, tt)
free_on b (s ∷ ts) t no_read h = (h.0, free_on b ts t no_read h.1)

-- ---- what holds between events
abbrev IsBetween : KnownStage Entry → Type 0
IsBetween (Stands calls) = ⊥
IsBetween at = Unit {0}

-- of all clients but a, whose turn it is
record FindsBut (a : ℕ) (p : Play) : Type 0 where
  sound : IsSound p
  free : (b : ℕ) → BeginsNoReader b (events_of p.history.turns)
  others : (b : ℕ) → (b ≡ a → ⊥) → IsBetween (known_stage (seat_in b p))
  faults : (b : ℕ) → p.faults b ≡ None
  aborted : AreNotMistaken p.aborted

record Finds (p : Play) : Type 0 where
  sound : IsSound p
  free : (b : ℕ) → BeginsNoReader b (events_of p.history.turns)
  between : (b : ℕ) → IsBetween (known_stage (seat_in b p))
  faults : (b : ℕ) → p.faults b ≡ None
  aborted : AreNotMistaken p.aborted

but : (a : ℕ) (p : Play) → Finds p → FindsBut a p
but a p f = record { sound = f.sound; free = f.free; others = λ b ne. f.between b; faults = f.faults; aborted = f.aborted }

rests : (a : ℕ) (p : Play) (to : KnownStage Entry) → known_stage (seat_in a p) ≡ to → IsBetween to → FindsBut a p → Finds p
rests a p to at h f = record {
  sound = f.sound;
  free = f.free;
  between = λ b. elim (cases_eq b a) [
    | inl same ↦ subst (λ c. IsBetween (known_stage (seat_in c p))) (sym same) (subst IsBetween (sym at) h)
    | inr ne ↦ f.others b ne
  ];
  faults = f.faults;
  aborted = f.aborted;
}

turn_but : (a : ℕ) (p : Play) (e : Event Entry) (action : Action) → whose e ≡ a → IsNoRead e → May p e action → FindsBut a p
    → FindsBut a (turned e action p)
turn_but a p e action own no_read may f =
    let h = p.history in
    let t : Turn = (e, action) in
    record {
      sound = sound_turn p e action may f.sound;
      free = λ b. free_on b h.turns t no_read (f.free b);
      others = λ b ne.
          subst (λ (x : Seat Entry). IsBetween (known_stage x))
          (sym (ap (λ (w : World Entry). w.seats b) (world_next h t)
          ∙ (happens_by (world_in h) e).seats b (λ same. ne (same ∙ own)))) (f.others b ne);
      faults = f.faults;
      aborted = f.aborted;
    }

-- nothing that a client may do next is answered NoSuch or TooLong
none_told : (a : ℕ) (p : Play) (e : Event Entry) (action : Action) → whose e ≡ a → May p e action → FindsBut a p
    → RefusesAsMistaken (told e p) → ⊥
none_told a p e action own may f =
    let h = p.history in
    let l = f.sound.lawful in
    sessions_find_room h.blocks h.clock h.tables h.actions h.turns a l.allowed l.stripes l.suits l.asks (f.free a) (e, action) own may

-- ---- a session continues
replied_finds : (a : ℕ) (n : Notice Entry) (calls : List (Call Entry × Reply Entry)) (call : Call Entry) (next : Reply Entry → Play)
    (q : Play) (to : KnownStage Entry) → FindsBut a q → known_stage (seat_in a q) ≡ to → CallMoves calls call n to
    → (RefusesAsMistaken n → ⊥)
    → ((r : Reply Entry) → to ≡ Stands (calls ++ (call, r) ∷ []) → Finds (next r)) → Finds (if_replied a n next q)
replied_finds a (Answered b (answer.Replied r)) calls call next q to f at m none goes = goes r m
replied_finds a (Answered b w) calls call next q to f at m none goes = absurd m
replied_finds a (Refused b cause) calls call next q to f at m none goes = absurd (none m.1)
replied_finds a Quiet calls call next q to f at (inl e) none goes = rests a q (Calls calls call) (at ∙ e) tt f
replied_finds a Quiet calls call next q to f at (inr e) none goes = rests a q Ends (at ∙ e) tt f

commit_between : (calls : List (Call Entry × Reply Entry)) (n : Notice Entry) (to : KnownStage Entry) → n ≡ Quiet
    → AskMoves (Stands calls) request.Commit n to → to ≡ Commits calls
commit_between calls n to quiet m = subst (λ (k : Notice Entry). AskMoves (Stands calls) request.Commit k to) quiet m

asks_find : (a : ℕ) (program : SessionProgram) (p : Play) (calls : List (Call Entry × Reply Entry)) → FindsBut a p
    → known_stage (seat_in a p) ≡ Stands calls → after (session (action_in a p.history)) (replies_of calls) ≡ program
    → Finds (asks_on a program p)
asks_find a (Asks call next) p calls f stands left =
    let h = p.history in
    let e = event.Ask a (request.Call call) in
    let q = moved a e p in
    let may = may_ask h a calls (action_in a h) (done_in a h) (ask.Call call) (at_now a p (Stands calls) stands) (ap asked left) in
    let x = called_at a p calls call stands in
    let g = turn_but a p e (action_in a h) refl tt may f in
    replied_finds a (told e p) calls call (λ r. asks_on a (next r) q) q x.0 g x.1 x.2 (none_told a p e (action_in a h) refl may f)
    (λ r to. asks_find a (next r) q (calls ++ (call, r) ∷ []) g (x.1 ∙ to)
    (ap (λ (action : Action). after (session action) (replies_of (calls ++ (call, r) ∷ []))) x.3
    ∙ replied_next calls (session (action_in a h)) call next r left))
asks_find a (Answers x) p calls f stands left =
    let h = p.history in
    let e = event.Ask a request.Commit in
    let now = at_now a p (Stands calls) stands in
    let may = may_ask h a calls (action_in a h) (done_in a h) ask.Done now (ap asked left) in
    let c = commits_to h a (Stands calls) (action_in a h) (done_in a h) (told e p) now refl in
    rests a (moved a e p) (Commits calls)
    (c.at.stands ∙ commit_between calls (told e p) c.to (commit_is_quiet h a calls (action_in a h) (done_in a h) now) c.moves) tt
    (turn_but a p e (action_in a h) refl tt may f)
asks_find a GivesUp p calls f stands left =
    let h = p.history in
    absurd (goes_on h a calls (action_in a h) (done_in a h) f.sound.lawful (at_now a p (Stands calls) stands) (ap asked left))

goes_find : (a : ℕ) (p : Play) (calls : List (Call Entry × Reply Entry)) → FindsBut a p → known_stage (seat_in a p) ≡ Stands calls
    → Finds (asks_on a (left_of a p) p)
goes_find a p calls f stands =
    asks_find a (left_of a p) p calls f stands
    (ap (λ (cs : List (Call Entry × Reply Entry)). after (session (action_in a p.history)) (replies_of cs))
    (sym (open_calls a p calls stands)))

-- ---- a session ends
push : (es : List (ℕ × Refusal)) (a : ℕ) (cause : Refusal) → AreNotMistaken es → (is_actor a ≡ true → IsMistaken cause → ⊥)
    → AreNotMistaken (es ++ (a, cause) ∷ [])
push [] a cause h g = (g, tt)
push (e ∷ es) a cause h g = (h.0, push es a cause h.1 g)

ends_find : (a b : ℕ) (cause : Refusal) (p : Play) → (is_actor b ≡ true → IsMistaken cause → ⊥) → Finds p → Finds (ends b cause p)
ends_find a b cause p g f = record {
  sound = sound_ends b cause p f.sound;
  free = f.free;
  between = f.between;
  faults = f.faults;
  aborted = push p.aborted b cause f.aborted g;
}

-- a refusal that leaves no transaction open ends the session
not_open : (calls : List (Call Entry × Reply Entry)) (st : Stage Entry) (p q : Play) → IsBetween (known_stage_at calls st)
    → at_open st p q ≡ q
not_open calls Open p q h = absurd h
not_open calls st p q h = refl

refused_find : (a b : ℕ) (cause : Refusal) (q : Play) (to : KnownStage Entry) → known_stage (seat_in a q) ≡ to → IsBetween to
    → (IsMistaken cause → ⊥) → FindsBut a q → Finds (hears a (Refused b cause) q)
refused_find a b cause q to at h none f =
    let x = seat_in a q in
    subst Finds (sym (not_open x.calls x.stage (aborts a cause q) (ends a cause q) (subst IsBetween (sym at) h)))
    (ends_find a a cause q (λ _ m. none m) (rests a q to at h f))

no_fault : (a : ℕ) (o : Option Refusal) (q : Play) → o ≡ None → Finds q → Finds (ends_for a o q)
no_fault a o q e f = subst (λ (r : Option Refusal). Finds (ends_for a r q)) (sym e) f

-- ---- a step
call_finds : (a : ℕ) (calls : List (Call Entry × Reply Entry)) (call : Call Entry) (n : Notice Entry) (to : KnownStage Entry) (q : Play)
    → CallMoves calls call n to → (RefusesAsMistaken n → ⊥) → FindsBut a q → known_stage (seat_in a q) ≡ to → Finds (hears a n q)
call_finds a calls call (Answered b (answer.Replied r)) to q m none f at = goes_find a q (calls ++ (call, r) ∷ []) f (at ∙ m)
call_finds a calls call (Answered b w) to q m none f at = absurd m
call_finds a calls call (Refused b cause) to q m none f at = absurd (none m.1)
call_finds a calls call Quiet to q (inl e) none f at = rests a q (Calls calls call) (at ∙ e) tt f
call_finds a calls call Quiet to q (inr e) none f at = rests a q Ends (at ∙ e) tt f

step_finds : (a : ℕ) (before : KnownStage Entry) (made : Bool) (n : Notice Entry) (to : KnownStage Entry) (q : Play) → IsBetween before
    → StepMoves before made n to → (RefusesAsMistaken n → ⊥) → FindsBut a q → known_stage (seat_in a q) ≡ to → Finds (hears a n q)
step_finds a Rests false (Refused b cause) to q h m none f at = refused_find a b cause q Rests (at ∙ m) tt none f
step_finds a Begins false (Answered b (answer.Begun rv)) to q h m none f at = goes_find a q [] f (at ∙ m)
step_finds a Begins false (Refused b cause) to q h m none f at = refused_find a b cause q Rests (at ∙ m) tt none f
step_finds a Begins false Quiet to q h m none f at = rests a q Begins (at ∙ m) tt f
step_finds a (Stands calls) made n to q h m none f at = absurd h
step_finds a (Calls calls call) false n to q h m none f at = call_finds a calls call n to q m none f at
step_finds a (Commits calls) false Quiet to q h (inl e) none f at = rests a q (Commits calls) (at ∙ e) tt f
step_finds a (Commits calls) false Quiet to q h (inr e) none f at = rests a q Ends (at ∙ e) tt f
step_finds a (Commits calls) true Quiet to q h m none f at = rests a q Committed (at ∙ m) tt f
step_finds a (Commits calls) true (Answered b (answer.Committed k)) to q h m none f at = rests a q Rests (at ∙ m) tt f
step_finds a Committed false Quiet to q h m none f at = rests a q Committed (at ∙ m) tt f
step_finds a Committed false (Answered b (answer.Committed k)) to q h m none f at = rests a q Rests (at ∙ m) tt f
step_finds a Ends false Quiet to q h m none f at = rests a q Ends (at ∙ m) tt f
step_finds a Ends false (Answered b answer.Aborted) to q h m none f at =
    no_fault a (q.faults a) q (f.faults a) (rests a q Rests (at ∙ m) tt f)
step_finds a Ends false (Refused b cause) to q h m none f at = refused_find a b cause q Rests (at ∙ m) tt none f
step_finds a before made n to q h m none f at = absurd m

-- ---- a failed allocation
hears_quiet : (a : ℕ) (n : Notice Entry) (q : Play) → n ≡ Quiet → Finds q → Finds (hears a n q)
hears_quiet a n q e f = subst (λ (m : Notice Entry). Finds (hears a m q)) (sym e) f

starve_ends : (a : ℕ) (r : After Entry) (q : Play) → is_ending (r.0.seats a).stage ≡ true → r.1 ≡ Quiet
    → known_stage (seat_in a q) ≡ known_stage (r.0.seats a) → FindsBut a q → Finds (hears a r.1 q)
starve_ends a r q ending quiet at f =
    hears_quiet a r.1 q quiet (rests a q Ends (at ∙ ending_phase (r.0.seats a).calls (r.0.seats a).stage ending) tt f)

starve_stays : (a : ℕ) (w : World Entry) (r : After Entry) (q : Play) → r ≡ (w, Quiet) → IsBetween (known_stage (w.seats a))
    → known_stage (seat_in a q) ≡ known_stage (r.0.seats a) → FindsBut a q → Finds (hears a r.1 q)
starve_stays a w r q e h at f =
    hears_quiet a r.1 q (ap (λ (s : After Entry). s.1) e)
    (rests a q (known_stage (w.seats a)) (at ∙ ap (λ (s : After Entry). known_stage (s.0.seats a)) e) h f)

starve_finds : (a : ℕ) (w : World Entry) (st : Stage Entry) (r : After Entry) (q : Play) → (st ≡ Idle → ⊥)
    → IsBetween (known_stage_at (w.seats a).calls st) → IsBetween (known_stage (w.seats a)) → IsStarved w a st r
    → known_stage (seat_in a q) ≡ known_stage (r.0.seats a) → FindsBut a q → Finds (hears a r.1 q)
starve_finds a w Idle r q busy o h s at f = absurd (busy refl)
starve_finds a w Open r q busy o h s at f = absurd o
starve_finds a w Beginning r q busy o h s at f =
    subst (λ (n : Notice Entry). Finds (hears a n q)) (sym s.1)
    (refused_find a a refusal.Memory q Rests (at ∙ ap (known_stage_at (r.0.seats a).calls) s.0) tt (λ m. m) f)
starve_finds a w (Storing ks) r q busy o h s at f = starve_stays a w r q s h at f
starve_finds a w (Homing ks) r q busy o h s at f = starve_stays a w r q s h at f
starve_finds a w Releasing r q busy o h s at f = starve_stays a w r q s h at f
starve_finds a w (Returning ks) r q busy o h s at f = starve_stays a w r q s h at f
starve_finds a w Cancelling r q busy o h s at f = starve_stays a w r q s h at f
starve_finds a w Leaving r q busy o h s at f = starve_stays a w r q s h at f
starve_finds a w st r q busy o h s at f = starve_ends a r q s.0 s.2 at f

-- ---- events
abbrev IsIdle : Stage Entry → Type 0
IsIdle Idle = Unit {0}
IsIdle st = ⊥

idle_or : (st : Stage Entry) (p q : Play) → (st ≡ Idle → Finds p) → ((st ≡ Idle → ⊥) → Finds q) → Finds (at_idle st p q)
idle_or Idle p q f g = f refl
idle_or st p q f g = g (λ e. subst IsIdle (sym e) tt)

takes_find : (a : ℕ) (e : Event Entry) (p : Play) → whose e ≡ a → IsNoRead e → May p e (action_in a p.history) → Finds p
    → (((seat_in a p).stage ≡ Idle → ⊥) → (RefusesAsMistaken (told e p) → ⊥) → FindsBut a (moved a e p)
    → Finds (hears a (told e p) (moved a e p))) → Finds (takes a e p)
takes_find a e p own no_read may f heard =
    let action = action_in a p.history in
    let q = moved a e p in
    idle_or (seat_in a p).stage p (hears a (told e p) q) (λ _. f)
    (λ busy. heard busy (none_told a p e action own may (but a p f)) (turn_but a p e action own no_read may (but a p f)))

takes_step : (a : ℕ) (p : Play) → Finds p → Finds (takes a (event.Step a) p)
takes_step a p f =
    let h = p.history in
    let x = (world_in h).seats a in
    let e = event.Step a in
    takes_find a e p refl tt tt f (λ _ none g.
    step_finds a (known_stage x) (is_some (committed_by x x.stage)) (told e p) (known_stage ((happens (world_in h) e).0.seats a))
    (moved a e p)
    (f.between a) (steps_move (world_in h) a) none g (phase_next a h (e, action_in a h)))

takes_starve : (a : ℕ) (p : Play) → Finds p → Finds (takes a (event.Starve a) p)
takes_starve a p f =
    let h = p.history in
    let w = world_in h in
    let e = event.Starve a in
    takes_find a e p refl tt tt f (λ busy none g.
    starve_finds a w (w.seats a).stage (happens w e) (moved a e p) busy (f.between a) (f.between a) (starves w a)
    (phase_next a h (e, action_in a h)) g)

begins_find : (a : ℕ) (action : Action) (p : Play) → IsAllowed action → Finds p → Finds (begins a action p)
begins_find a action p allowed f =
    let h = p.history in
    let e = event.Ask a request.Begin in
    let g = turn_but a p e action refl tt allowed (but a p f) in
    idle_or (seat_in a p).stage _ (ends a refusal.NotIdle p)
    (λ idle.
    let at = history.begins h a (action_in a h) action (done_in a h)
    (at_now a p Rests (ap (known_stage_at (seat_in a p).calls) idle)) in
    let r = rests a (turned e action p) Begins at.stands tt g in
    record {
      sound = record { lawful = r.sound.lawful; goes_on = r.sound.goes_on };
      free = r.free;
      between = r.between;
      faults = λ b. elim (cases_eq b a) [
        | inl same ↦ ap (put p.faults a None) same ∙ put-same p.faults a None
        | inr ne ↦ put-other p.faults a None b ne ∙ f.faults b
      ];
      aborted = r.aborted;
    })
    (λ _. ends_find a a refusal.NotIdle p (λ _ m. m) f)

if_actor : (b : Bool) (p q : Play) → (b ≡ true → Finds p) → (b ≡ false → Finds q) → Finds (cond b p q)
if_actor true p q f g = f refl
if_actor false p q f g = g refl

all_find : (events : List VacEvent) (p : Play) → AreAllowed events → Finds p → Finds (played_all p events)
all_find [] p allowed f = f
all_find (Start a action ∷ es) p allowed f =
    all_find es (played p (Start a action)) allowed.1
    (if_actor (is_actor a) _ _ (λ _. begins_find a action p allowed.0 f)
    (λ isnt. ends_find a a refusal.NoSuch p (λ is m. true≢false (sym is ∙ isnt)) f))
all_find (Step a ∷ es) p allowed f = all_find es (played p (Step a)) allowed.1 (if_actor (is_actor a) _ _ (λ _. takes_step a p f) (λ _. f))
all_find (Starve a ∷ es) p allowed f =
    all_find es (played p (Starve a)) allowed.1 (if_actor (is_actor a) _ _ (λ _. takes_starve a p f) (λ _. f))

pub plays_find_room : PlaysFindRoom
plays_find_room blocks tables events stripes suits balanced allowed =
    let p = unplayed blocks tables in
    let start : Finds p = record {
      sound = sound_unplayed blocks tables stripes suits balanced;
      free = λ b. tt;
      between = λ b. tt;
      faults = λ b. refl;
      aborted = tt;
    } in
    let f = all_find events p allowed start in
    record { calls = f.faults; ends = f.aborted }
