-- What a client of a running world is answered says where its transaction stands, and is answered within the bound on steps.
-- An event of the running world is one turn more in a history of the definitions' world: there a request and each step say where the
-- transaction continues, bring the request nearer to its answer, and refuse nothing (`AnsweredLemmas`).
use Rattle.std.proofs.Common.{◌≡◌, ◌⊎◌, inl, inr, ℕ, ◌+◌, ◌<◌, ◌≤◌, Bool, true, false, List, [], ◌∷◌, ◌++◌, Option, Some, None}
use Rattle.std.proofs.Common.{refl, sym, ◌∙◌, ap, subst, arith}
use Rattle.std.specs.Prelude.{if◌then◌else◌, is_some}
use Rattle.std.proofs.lemmas.Bool.{cond-true}
use Rattle.tx_machine.specs.Actor.{clock_limit}
use Rattle.tx_machine.specs.Progress.{step_limit}
use Rattle.seq_model.specs.declared.call.Call.{Call}
use Rattle.seq_model.specs.declared.call.Reply.{Reply}
use Rattle.seq_model.specs.declared.event.Answer.{Answer}
use Rattle.seq_model.specs.declared.event.Answer.TheVariants as answer
use Rattle.seq_model.specs.declared.event.Event.{Event}
use Rattle.seq_model.specs.declared.event.Event.TheVariants.{Ask, Step}
use Rattle.seq_model.specs.declared.event.Notice.{Notice}
use Rattle.seq_model.specs.declared.event.Notice.TheVariants.{Quiet, Answered, Refused}
use Rattle.seq_model.specs.declared.event.Request.{Request}
use Rattle.seq_model.specs.declared.event.Request.TheVariants as request
use Rattle.seq_model.specs.declared.record.Record.{Record}
use Rattle.step_core.specs.Shown.{is_actor}
use Rattle.replay_log.specs.WorldAnswers.{IsRefusal}
use Rattle.replay_log.specs.WorldProgress.{AreSmall, IsQuiet, left_of, whose}
use Rattle.replay_log.specs.WorldTraces.{committed_by}
use Rattle.replay_log.specs.Worlds.{Seat, World, happens, opened}
use Rattle.replay_log.specs.WorldRefusals.{is_ending}
use Rattle.replay_log.proofs.EventLemmas.{opened_linked, run_linked}
use Rattle.replay_log.proofs.AskLemmas.{only_abort}
use Rattle.replay_log.proofs.ProgressLemmas.{world_nears}
use Rattle.replay_log.proofs.SizeLemmas.{world_soon}
use Rattle.vac_model.specs.declared.action.Action.{Action}
use Rattle.vac_model.specs.Holdings.{Holdings}
use Rattle.actor_laws.specs.Alone.{ArePlain, IsPlain, commit_of, commits_in, weight, weights}
use Rattle.actor_laws.proofs.AloneLemmas.{own}
use Rattle.seq_model.specs.declared.job.Ask.TheVariants as ask
use Rattle.seq_model.specs.Programs.{Answers, Asks, after, asked, replies_of}
use Rattle.seq_model.proofs.ProgramLemmas.{follows_after}
use Rattle.client_sessions.specs.declared.entry.Entry.{Entry}
use Rattle.client_sessions.specs.Holding.{state_of}
use Rattle.client_sessions.specs.Sessions.{SessionProgram, session}
use Rattle.vacation_core.proofs.CostLemmas.{asks_fit}
use Rattle.step_world.specs.Feeds.{Feeds}
use Rattle.step_world.specs.Reached.{IsReached}
use Rattle.step_world.specs.Parts.{IsWorld}
use Rattle.step_world.specs.declared.parts.Parts.{Parts}
use Rattle.vacation_core.specs.ClientWorlds.{MayHappen, Turn, events_of}
use Rattle.vacation_core.specs.Histories.{History, IsAt, IsLawful, opening_of, world_in}
use Rattle.vacation_core.specs.Serial.{begun_all}
use Rattle.vacation_core.proofs.HistoryLemmas.{all_of, begin_is_quiet, begins, calls_to, commit_is_quiet, commits_to}
use Rattle.vacation_core.proofs.HistoryLemmas.{lawful_next, may_ask, next}
use Rattle.vacation_core.proofs.HistoryLemmas.{opens, step_at, world_next}
use Rattle.actor_laws.proofs.CourseLemmas.{ends_at, steps_come}
use Rattle.actor_laws.proofs.KnownStageLemmas.{steps_move}
use Rattle.actor_laws.specs.Courses.{ComesTo, EndsFrom, IsUnderWay, IsUnderWayFrom, IsRecordOf, latest}
use Rattle.actor_laws.specs.KnownStages.{AskMoves, CallMoves, KnownStage, Rests, Begins, Stands}
use Rattle.actor_laws.specs.KnownStages.{Calls, Commits, Committed, StepMoves, known_stage}
use Rattle.actor_laws.specs.KnownStages.{Ends as Ended}
use Rattle.vacation_core.specs.LoneClients.{IsAnswered, IsClient, IsDue, Leads, begun, may_commit}
use Rattle.vacation_core.proofs.AnsweredLemmas.{HasRoom, asked_as, at_most_one, never_as_asked, never_in_steps, step_may}

-- ---- an event is a turn more

pub reached : (h : History) → IsLawful h → IsReached (state_of h.tables) (world_in h)
reached h l = record {
  blocks = h.blocks;
  clock = h.clock;
  events = events_of h.turns;
  stripes = l.stripes;
  suits = l.suits;
  world = refl;
}

pub told_of : (h : History) (e : Event Entry) (c d : Parts Entry) (n : Notice Entry) → is_actor (whose e) ≡ true → IsLawful h
    → IsWorld c (world_in h) → Feeds c e d n → n ≡ (happens (world_in h) e).1
told_of h e c d n is l at f =
    f.told (state_of h.tables) (world_in h) (reached h l) at
    ∙ ap (λ (r : World Entry × Notice Entry). r.1) (cond-true (is_actor (whose e)) _ _ is)

pub parts_of : (h : History) (e : Event Entry) (c d : Parts Entry) (n : Notice Entry) → is_actor (whose e) ≡ true → IsLawful h
    → IsWorld c (world_in h) → Feeds c e d n → IsWorld d (happens (world_in h) e).0
parts_of h e c d n is l at f =
    subst (IsWorld d) (ap (λ (r : World Entry × Notice Entry). r.0) (cond-true (is_actor (whose e)) _ _ is))
    (f.parts (state_of h.tables) (world_in h) (reached h l) at)

plain_next : (a : ℕ) (ts : List Turn) (t : Turn) → ArePlain a (events_of ts) → IsPlain a t.0 → ArePlain a (events_of (ts ++ t ∷ []))
plain_next a [] t m n = (n, tt)
plain_next a (s ∷ ts) t m n = (m.0, plain_next a ts t m.1 n)

commits_next : (ts : List Turn) (t : Turn) → commits_in (events_of (ts ++ t ∷ [])) ≡ commits_in (events_of ts) + commit_of t.0
commits_next [] t = omega arith
commits_next (s ∷ ts) t = let more = commits_next ts t in omega (arith, more)

-- what a client's own turn may be in its world
abbrev May : History → Turn → Type 0
May h t = MayHappen (begun_all h.actions (opening_of h) h.turns) (world_in h) t

module _ (a : ℕ) (tables : Holdings) where
  -- the client after a turn of its own, where it stands at q then
  abbrev goes : (n : ℕ) (p : KnownStage Entry) (old : Action) (had : List Action) (c d : Parts Entry) (x : IsClient a tables n p old had c)
      (t : Turn) (told : Notice Entry) (k : ℕ) (q : KnownStage Entry) (action : Action) (done : List Action) → IsPlain a t.0
      → May x.history t
      → Feeds c t.0 d told → commits_in (events_of x.history.turns) + (commit_of t.0 + may_commit q) ≤ k → k < clock_limit
      → IsAt a q action done (next x.history t) → IsClient a tables k q action done d
  goes n p old had c d x t told k q action done plain may f asked few at = record {
    history = next x.history t;
    opening = x.opening;
    start = x.start;
    actor = x.actor;
    small = x.small;
    lawful = lawful_next x.history t x.lawful may;
    alone = all_of a x.history.turns (t ∷ []) x.alone (own a t.0 plain, tt);
    plain = plain_next a x.history.turns t x.plain plain;
    asked = (let more = commits_next x.history.turns t in omega (arith, more, asked));
    few = few;
    at = at;
    parts =
        subst (IsWorld d) (sym (world_next x.history t))
        (parts_of x.history t.0 c d told (ap is_actor (own a t.0 plain) ∙ x.actor) x.lawful x.parts f);
  }

-- ---- a request that is under way

-- It was asked where the seat was `start`, with room for a call.
pub record Goes (calls : List (Call Entry × Reply Entry)) (q : Request Entry) (x : Seat Entry) (made : Option (Record Entry)) : Type 0 where
  pub start : Seat Entry
  pub stood : known_stage start ≡ asked_as calls q
  pub room : HasRoom calls q
  pub under : IsUnderWay start x made

module _ (calls : List (Call Entry × Reply Entry)) where
  -- where it ends
  abbrev Ends : Request Entry → Notice Entry → KnownStage Entry → Option (Record Entry) → Type 0
  Ends q n p made = Leads calls q n p (is_some made)

  none_leads : (q : Request Entry) (n : Notice Entry) (p : KnownStage Entry) (made : Option (Record Entry)) → made ≡ None
      → Leads calls q n p false
      → Ends q n p made
  none_leads q n p made none h = subst (λ (b : Bool). Leads calls q n p b) (sym (ap is_some none)) h

  some_leads : (n : Notice Entry) (p : KnownStage Entry) (k : ℕ) (made : Option (Record Entry)) → IsRecordOf calls k made
      → Leads calls request.Commit n p true → Ends request.Commit n p made
  some_leads n p k None is h = absurd is
  some_leads n p k (Some r) is h = h

  begins_so : (a : ℕ) (s x : Seat Entry) (b : ℕ) (w : Answer Entry) (made : Option (Record Entry))
      → EndsFrom a s Begins (Answered b w) x made → Ends request.Begin (Answered b w) (known_stage x) made
  begins_so a s x b (answer.Begun rv) made e = none_leads request.Begin (Answered b (answer.Begun rv)) (known_stage x) made e.2 e.0
  begins_so a s x b w made e = absurd e

  replied : (a : ℕ) (s x : Seat Entry) (call : Call Entry) (b : ℕ) (w : Answer Entry) (made : Option (Record Entry))
      → EndsFrom a s (Calls calls call) (Answered b w) x made → Ends (request.Call call) (Answered b w) (known_stage x) made
  replied a s x call b (answer.Replied r) made e =
      none_leads (request.Call call) (Answered b (answer.Replied r)) (known_stage x) made e.1 e.0
  replied a s x call b w made e = absurd e

  committed : (a : ℕ) (s x : Seat Entry) (b : ℕ) (w : Answer Entry) (made : Option (Record Entry))
      → EndsFrom a s (Commits calls) (Answered b w) x made → Ends request.Commit (Answered b w) (known_stage x) made
  committed a s x b (answer.Committed k) made e = some_leads (Answered b (answer.Committed k)) (known_stage x) k made e.1 e.0
  committed a s x b w made e = absurd e

  -- what the end of a request says, by what it was asked
  ended_as : (a : ℕ) (s x : Seat Entry) (q : Request Entry) (n : Notice Entry) (made : Option (Record Entry)) → (IsRefusal n → ⊥)
      → (IsQuiet n → ⊥) → EndsFrom a s (asked_as calls q) n x made → Ends q n (known_stage x) made
  ended_as a s x q (Refused b cause) made never told e = absurd (never tt)
  ended_as a s x q Quiet made never told e = absurd (told tt)
  ended_as a s x request.Begin (Answered b w) made never told e = begins_so a s x b w made e
  ended_as a s x (request.Call call) (Answered b w) made never told e = replied a s x call b w made e
  ended_as a s x request.Commit (Answered b w) made never told e = committed a s x b w made e
  ended_as a s x q n made never told e = absurd e

  ends_as_told : (a : ℕ) (s x : Seat Entry) (n : Notice Entry) (made : Option (Record Entry)) → (IsQuiet n → ⊥) → ComesTo a s n x made
      → EndsFrom a s (known_stage s) n x made
  ends_as_told a s x Quiet made told h = absurd (told tt)
  ends_as_told a s x n made told h = h

  ended : (a : ℕ) (s x : Seat Entry) (q : Request Entry) (n : Notice Entry) (made : Option (Record Entry))
      → known_stage s ≡ asked_as calls q
      → (IsRefusal n → ⊥) → (IsQuiet n → ⊥) → ComesTo a s n x made → Ends q n (known_stage x) made
  ended a s x q n made stood never told h =
      ended_as a s x q n made never told
      (subst (λ (p : KnownStage Entry). EndsFrom a s p n x made) stood (ends_as_told a s x n made told h))

  called : (call : Call Entry) (n : Notice Entry) (p : KnownStage Entry) → (IsRefusal n → ⊥) → (IsQuiet n → ⊥)
      → CallMoves calls call n p → Leads calls (request.Call call) n p false
  called call (Answered b (answer.Replied r)) p never told h = h
  called call (Answered b w) p never told h = absurd h
  called call (Refused b cause) p never told h = absurd (never tt)
  called call Quiet p never told h = absurd (told tt)

-- no record is made once there is one
once : (s x : Seat Entry) (q : Request Entry) (calls : List (Call Entry × Reply Entry)) (o made : Option (Record Entry)) (n : Notice Entry)
    (p : KnownStage Entry) → known_stage s ≡ asked_as calls q → IsUnderWay s x made → StepMoves (known_stage x) (is_some o) n p
    → (done : List Action) (action : Action)
    → (if is_some o then (if is_some made then done ++ action ∷ [] else done) ++ action ∷ []
    else (if is_some made then done ++ action ∷ [] else done))
    ≡ (if is_some (latest o made) then done ++ action ∷ [] else done)
once s x q calls None made n p stood under moves done action = refl
once s x q calls (Some r) None n p stood under moves done action = refl
once s x q calls (Some r) (Some d) n p stood under moves done action =
    absurd (never q stood (subst (λ (at : KnownStage Entry). IsUnderWayFrom s at x (Some d)) stood under))
  where
    no_record : Some d ≡ None → ⊥
    no_record e = cc

    late : known_stage x ≡ Committed → ⊥
    late at = not_late n (subst (λ (z : KnownStage Entry). StepMoves z true n p) at moves)
      where
        not_late : (m : Notice Entry) → StepMoves Committed true m p → ⊥
        not_late m h = h

    never : (q : Request Entry) → known_stage s ≡ asked_as calls q → IsUnderWayFrom s (asked_as calls q) x (Some d) → ⊥
    never request.Begin stood u = no_record u.1
    never (request.Call call) stood u = no_record u.1
    never request.Commit stood (inl u) = no_record u.1
    never request.Commit stood (inr u) = late u.0
    never q stood u = absurd u

-- ---- a request, and the steps up to its answer

-- The client was answered m last; if nothing, its request is under way, and k of its steps more are within the bound.
pub record Waits (a : ℕ) (tables : Holdings) (n : ℕ) (calls : List (Call Entry × Reply Entry)) (q : Request Entry) (m : Notice Entry)
    (action : Action) (done : List Action) (c : Parts Entry) (k : ℕ) : Type 0 where
  pub made : Option (Record Entry)
  pub at : KnownStage Entry
  pub client : IsClient a tables n at action (if is_some made then done ++ action ∷ [] else done) c
  pub goes_on : IsQuiet m → Goes calls q ((world_in client.history).seats a) made
  pub ends : (IsQuiet m → ⊥) → Leads calls q m at (is_some made)
  pub left : IsQuiet m → left_of (world_in client.history) a + k < step_limit

is_quiet : (n : Notice Entry) → IsQuiet n → n ≡ Quiet
is_quiet Quiet h = refl
is_quiet n h = absurd h

module _ (a : ℕ) (tables : Holdings) (calls : List (Call Entry × Reply Entry)) (action : Action) (done : List Action) where
  soon : (h : History) (q : Request Entry) (n : Notice Entry) → IsLawful h → AreSmall h.blocks → n ≡ (happens (world_in h) (Ask a q)).1
      → IsQuiet n → left_of (world_in (next h (Ask a q, action))) a + 0 < step_limit
  soon h q n l small told quiet =
      let s = state_of h.tables in
      let few = world_soon h.blocks h.clock s.words s.held (events_of h.turns) a q l.stripes small (subst IsQuiet told quiet) in
      let same = ap (λ (w : World Entry). left_of w a) (world_next h (Ask a q, action)) in
      omega (arith, few, same)

  asked_begin : (n : ℕ) (p : KnownStage Entry) (old : Action) (c d : Parts Entry) (m : Notice Entry) → IsClient a tables n p old done c
      → IsDue n old action calls p request.Begin → Feeds c (Ask a request.Begin) d m
      → Waits a tables (n + 1) calls request.Begin m action done d 0
  asked_begin n p old c d m x due f =
      let at : IsAt a Rests old done x.history = subst (λ (r : KnownStage Entry). IsAt a r old done x.history) due.1 x.at in
      let t : Turn = (Ask a request.Begin, action) in
      let told = told_of x.history (Ask a request.Begin) c d m x.actor x.lawful x.parts f in
      let quiet : m ≡ Quiet = told ∙ begin_is_quiet x.history a old done at in
      let now : IsAt a Begins action done (next x.history t) = begins x.history a old action done at in
      let y : Seat Entry = (world_in (next x.history t)).seats a in
      let asked = x.asked in
      record {
        made = None;
        at = Begins;
        client = goes a tables n p old done c d x t m (n + 1) Begins action done refl due.0 f (omega (arith, asked)) due.2 now;
        goes_on = λ q. record {
          start = y;
          stood = now.stands;
          room = tt;
          under = subst (λ (r : KnownStage Entry). IsUnderWayFrom y r y None) (sym now.stands) (now.stands, refl);
        };
        ends = λ q. absurd (q (subst IsQuiet (sym quiet) tt));
        left = soon x.history request.Begin m x.lawful x.small told;
      }

  -- an open transaction
  stands : (n : ℕ) (p : KnownStage Entry) (old : Action) (c : Parts Entry) (x : IsClient a tables n p old done c) → old ≡ action
      → p ≡ Stands calls
      → IsAt a (Stands calls) action done x.history
  stands n p old c x same on =
      subst (λ (r : KnownStage Entry). IsAt a r action done x.history) on (subst (λ (y : Action). IsAt a p y done x.history) same x.at)

  -- a call that is asked aborts nothing
  no_end : (h : History) (call : Call Entry) → IsLawful h → IsAt a (Stands calls) action done h
      → known_stage ((happens (world_in h) (Ask a (request.Call call))).0.seats a) ≡ Ended → ⊥
  no_end h call l at e =
      let s = state_of h.tables in
      let start = opened h.blocks h.clock s.words s.held in
      no_abort call
      (only_abort (world_in h) a (request.Call call)
      (run_linked (events_of h.turns) start (opened_linked h.blocks h.clock s.words s.held l.stripes))
      (ap is_ending (opens a h calls action done at).0) (ends_at ((happens (world_in h) (Ask a (request.Call call))).0.seats a) e))
    where
      no_abort : (call : Call Entry) → request.Call call ≡ request.Abort → ⊥
      no_abort call e = cc

  asked_call : (n : ℕ) (call : Call Entry) (p : KnownStage Entry) (old : Action) (c d : Parts Entry) (m : Notice Entry)
      → IsClient a tables n p old done c → IsDue n old action calls p (request.Call call) → Feeds c (Ask a (request.Call call)) d m
      → Waits a tables n calls (request.Call call) m action done d 0
  asked_call n call p old c d m x due f =
      let q : Request Entry = request.Call call in
      let at = stands n p old c x due.1 due.2 in
      let follows = due.3.1 in
      let fits = asks_fit action calls call due.3.0 due.0 follows in
      let t : Turn = (Ask a q, action) in
      let asks : asked (after (session action) (replies_of calls)) ≡ ask.Call call =
      ap (λ (r : SessionProgram). asked r) (follows_after calls (session action) (Asks call due.3.0) follows) in
      let may : May x.history t = may_ask x.history a calls action done (ask.Call call) at asks in
      let told = told_of x.history (Ask a q) c d m x.actor x.lawful x.parts f in
      let moved = calls_to x.history a (Stands calls) call action done m at told in
      let y : Seat Entry = (world_in (next x.history t)).seats a in
      let never : IsRefusal m → ⊥ = λ is. never_as_asked a x.history calls call action done x.lawful x.start x.plain at fits
      (subst IsRefusal told is) in
      let asked = x.asked in
      let one = ap may_commit due.2 in
      let more = at_most_one moved.to in
      record {
        made = None;
        at = moved.to;
        client = goes a tables n p old done c d x t m n moved.to action done (refl, fits.small) may f
            (omega (arith, asked, one, more)) x.few
            moved.at;
        goes_on = λ quiet. going y m moved.to moved.at.stands quiet fits.room moved.moves
            (λ e. no_end x.history call x.lawful at
            (ap (λ (w : World Entry). known_stage (w.seats a)) (sym (world_next x.history t)) ∙ moved.at.stands ∙ e));
        ends = λ q. called calls call m moved.to never q moved.moves;
        left = soon x.history q m x.lawful x.small told;
      }
    where
      under : (y : Seat Entry) (to : KnownStage Entry) → known_stage y ≡ to → (to ≡ Ended → ⊥) → (to ≡ Calls calls call) ⊎ (to ≡ Ended)
          → weights calls + weight call.op ≤ 4096 → Goes calls (request.Call call) y None
      under y to at never (inl is) room =
          record {
            start = y;
            stood = at ∙ is;
            room = room;
            under = subst (λ (r : KnownStage Entry). IsUnderWayFrom y r y None) (sym (at ∙ is)) (inl (at ∙ is), refl);
          }
      under y to at never (inr is) room = absurd (never is)

      going : (y : Seat Entry) (n : Notice Entry) (to : KnownStage Entry) → known_stage y ≡ to → IsQuiet n
          → weights calls + weight call.op ≤ 4096 → CallMoves calls call n to → (to ≡ Ended → ⊥) → Goes calls (request.Call call) y None
      going y Quiet to at quiet room moves never = under y to at never moves room
      going y n to at quiet room moves never = absurd quiet

  asked_commit : (n : ℕ) (p : KnownStage Entry) (old : Action) (c d : Parts Entry) (m : Notice Entry) → IsClient a tables n p old done c
      → IsDue n old action calls p request.Commit → Feeds c (Ask a request.Commit) d m
      → Waits a tables n calls request.Commit m action done d 0
  asked_commit n p old c d m x due f =
      let q : Request Entry = request.Commit in
      let at = stands n p old c x due.0 due.1 in
      let t : Turn = (Ask a q, action) in
      let asks : asked (after (session action) (replies_of calls)) ≡ ask.Done =
      ap (λ (r : SessionProgram). asked r) (follows_after calls (session action) (Answers due.2.0) due.2.1) in
      let may : May x.history t = may_ask x.history a calls action done ask.Done at asks in
      let told = told_of x.history (Ask a q) c d m x.actor x.lawful x.parts f in
      let quiet : m ≡ Quiet = told ∙ commit_is_quiet x.history a calls action done at in
      let moved = commits_to x.history a (Stands calls) action done m at told in
      let is : moved.to ≡ Commits calls = subst (λ (o : Notice Entry). AskMoves (Stands calls) q o moved.to) quiet moved.moves in
      let y : Seat Entry = (world_in (next x.history t)).seats a in
      let now : known_stage y ≡ Commits calls = moved.at.stands ∙ is in
      let asked = x.asked in
      let one = ap may_commit due.1 in
      let none = ap may_commit is in
      record {
        made = None;
        at = moved.to;
        client = goes a tables n p old done c d x t m n moved.to action done refl may f (omega (arith, asked, one, none)) x.few moved.at;
        goes_on = λ q. record {
          start = y;
          stood = now;
          room = tt;
          under = subst (λ (r : KnownStage Entry). IsUnderWayFrom y r y None) (sym now) (inl (inl now, refl));
        };
        ends = λ q. absurd (q (subst IsQuiet (sym quiet) tt));
        left = soon x.history q m x.lawful x.small told;
      }

  pub asks : (q : Request Entry) (n : ℕ) (p : KnownStage Entry) (old : Action) (c d : Parts Entry) (m : Notice Entry)
      → IsClient a tables n p old done c → IsDue n old action calls p q → Feeds c (Ask a q) d m
      → Waits a tables (begun n q) calls q m action done d 0
  asks request.Begin n p old c d m x due f = asked_begin n p old c d m x due f
  asks (request.Call call) n p old c d m x due f = asked_call n call p old c d m x due f
  asks request.Commit n p old c d m x due f = asked_commit n p old c d m x due f
  asks q n p old c d m x due f = absurd due

  nearer : (h : History) (n : Notice Entry) (k : ℕ) → IsLawful h → AreSmall h.blocks → n ≡ (happens (world_in h) (Step a)).1
      → left_of (world_in h) a + k < step_limit → IsQuiet n → left_of (world_in (next h (Step a, action))) a + (k + 1) < step_limit
  nearer h n k l small told left quiet =
      let s = state_of h.tables in
      let less = world_nears h.blocks h.clock s.words s.held (events_of h.turns) l.stripes small a (subst IsQuiet told quiet) in
      let same = ap (λ (w : World Entry). left_of w a) (world_next h (Step a, action)) in
      omega (arith, less, same, left)

  pub steps : (q : Request Entry) (b : ℕ) (c d : Parts Entry) (m n : Notice Entry) (k : ℕ) → IsQuiet m
      → Waits a tables b calls q m action done c k → Feeds c (Step a) d n → Waits a tables b calls q n action done d (k + 1)
  steps q b c d m n k quiet v f =
      let x = v.client in
      let h = x.history in
      let w = world_in h in
      let s = state_of h.tables in
      let g = v.goes_on quiet in
      let o = committed_by (w.seats a) (w.seats a).stage in
      let r = happens w (Step a) in
      let to = known_stage (r.0.seats a) in
      let had = if is_some v.made then done ++ action ∷ [] else done in
      let t : Turn = (Step a, action) in
      let told : n ≡ r.1 = told_of h (Step a) c d n x.actor x.lawful x.parts f in
      let comes : ComesTo a g.start n (r.0.seats a) (latest o v.made) =
      subst (λ (z : Notice Entry). ComesTo a g.start z (r.0.seats a) (latest o v.made)) (sym told)
      (steps_come h.blocks h.clock s.words s.held (events_of h.turns) a g.start v.made x.lawful.stripes g.under) in
      let now : IsAt a to action (if is_some (latest o v.made) then done ++ action ∷ [] else done) (next h t) =
      subst (λ (xs : List Action). IsAt a to action xs (next h t))
      (once g.start (w.seats a) q calls o v.made r.1 to g.stood g.under (steps_move w a) done action)
      (step_at h a v.at action had x.at) in
      let seat : (world_in (next h t)).seats a ≡ r.0.seats a = ap (λ (z : World Entry). z.seats a) (world_next h t) in
      let asked = x.asked in
      let few = x.few in
      let fewer = step_may (known_stage (w.seats a)) (is_some o) r.1 to (steps_move w a) in
      let same = ap may_commit x.at.stands in
      let never : IsRefusal n → ⊥ = λ is.
      never_in_steps a h calls q g.start v.made x.lawful x.start x.plain (omega (arith, asked, few)) g.stood g.room g.under
      (subst IsRefusal told is) in
      record {
        made = latest o v.made;
        at = to;
        client = goes a tables b v.at action had c d x t n b to action _ refl tt f (omega (arith, asked, fewer, same)) x.few now;
        goes_on = λ still. record {
          start = g.start;
          stood = g.stood;
          room = g.room;
          under =
              subst (λ (y : Seat Entry). IsUnderWay g.start y (latest o v.made)) (sym seat)
              (subst (λ (z : Notice Entry). ComesTo a g.start z (r.0.seats a) (latest o v.made)) (is_quiet n still) comes);
        };
        ends = λ spoken. ended calls a g.start (r.0.seats a) q n (latest o v.made) g.stood never spoken comes;
        left = nearer h n k x.lawful x.small told (v.left quiet);
      }

-- in every world where the client may ask q, it has asked, has made k steps since, and was answered n last
abbrev pub Waiting : Parts Entry → ℕ → Request Entry → Parts Entry → Notice Entry → ℕ → Type 0
Waiting c a q d m k =
    (tables : Holdings) (n : ℕ) (calls : List (Call Entry × Reply Entry)) (p : KnownStage Entry) (old action : Action) (done : List Action)
    → IsClient a tables n p old done c → IsDue n old action calls p q → Waits a tables (begun n q) calls q m action done d k

pub spoken : (c : Parts Entry) (a : ℕ) (q : Request Entry) (d : Parts Entry) (m : Notice Entry) (k : ℕ) → Waiting c a q d m k
    → (IsQuiet m → ⊥) → IsAnswered c a q d m
spoken c a q d m k w told tables n calls p old action done x due =
    let v = w tables n calls p old action done x due in
    record { at = v.at; commits = is_some v.made; leads = v.ends told; client = v.client }

-- the bound is never reached
pub in_time : (c : Parts Entry) (a : ℕ) (q : Request Entry) (d : Parts Entry) (m : Notice Entry) (k : ℕ) → step_limit ≤ k
    → Waiting c a q d m k → IsAnswered c a q d m
in_time c a q d m k all w tables n calls p old action done x due =
    let v = w tables n calls p old action done x due in
    let late : IsQuiet m → ⊥ = λ quiet. (let left = v.left quiet in omega (arith, left, all)) in
    record { at = v.at; commits = is_some v.made; leads = v.ends late; client = v.client }

pub at_first : (c d : Parts Entry) (a : ℕ) (q : Request Entry) (m : Notice Entry) → Feeds c (Ask a q) d m → Waiting c a q d m 0
at_first c d a q m f tables n calls p old action done x due = asks a tables calls action done q n p old c d m x due f

pub again : (c d e : Parts Entry) (a : ℕ) (q : Request Entry) (m o : Notice Entry) (k : ℕ) → IsQuiet m → Waiting c a q d m k
    → Feeds d (Step a) e o → Waiting c a q e o (k + 1)
again c d e a q m o k quiet w f tables n calls p old action done x due =
    steps a tables calls action done q (begun n q) d e m o k quiet (w tables n calls p old action done x due) f

pub told_last : (n : Notice Entry) → (n ≡ Quiet → ⊥) → IsQuiet n → ⊥
told_last n told quiet = told (is_quiet n quiet)
