-- A client that is alone is never refused.
-- Its events are plain ones of its actor, so the law of an actor that is alone serves. There is what its session asks of: the world
-- opened on the word, the five maps and the three queues of tables. Its calls have room, by what sessions cost; and it has asked for no
-- more commits than it has begun sessions, which are below the limit of the clock.
use Rattle.std.proofs.Common.{◌≡◌, inl, inr, ℕ, ◌+◌, ◌<◌, ◌≤◌, Bool, true, false, List, length, Option}
use Rattle.std.proofs.Common.{refl, sym, ap, subst, arith}
use Rattle.tx_sets.specs.declared.access_set.TheConstants.{LOCATION_LIMIT}
use Rattle.tx_machine.specs.Actor.{clock_limit}
use Rattle.seq_model.specs.declared.call.Call.{Call}
use Rattle.seq_model.specs.declared.call.Op.{Op}
use Rattle.seq_model.specs.declared.call.Reply.{Reply}
use Rattle.seq_model.specs.declared.event.Answer.TheVariants as answer
use Rattle.seq_model.specs.declared.event.Event.TheVariants.{Ask, Step}
use Rattle.seq_model.specs.declared.event.Notice.{Notice}
use Rattle.seq_model.specs.declared.event.Notice.TheVariants.{Quiet, Answered, Refused}
use Rattle.seq_model.specs.declared.event.Request.{Request}
use Rattle.seq_model.specs.declared.event.Request.TheVariants as request
use Rattle.seq_model.specs.declared.record.Record.{Record}
use Rattle.replay_log.specs.Guards.{IsAtRest}
use Rattle.replay_log.specs.WorldAnswers.{IsRefusal}
use Rattle.replay_log.specs.Worlds.{Seat, Stage, Idle, Open, Copying, happens}
use Rattle.replay_log.proofs.RequestLemmas.{run_by}
use Rattle.actor_laws.specs.Alone.{ArePlain, HasRoomFor, IsAnswered, IsThere, commits_in, weight, weights}
use Rattle.actor_laws.proofs.AloneLemmas.{never_refused}
use Rattle.vac_model.specs.declared.action.Action.{Action}
use Rattle.client_sessions.specs.declared.entry.Entry.{Entry}
use Rattle.client_sessions.specs.Holding.{state_of}
use Rattle.vacation_core.specs.Costs.{Fits, IsOn}
use Rattle.vacation_core.proofs.ThereLemmas.{AreKinds, of_tables, suit_kinds, there}
use Rattle.vacation_core.specs.ClientWorlds.{events_of}
use Rattle.vacation_core.specs.Histories.{History, IsAt, IsLawful, opening_of, world_in}
use Rattle.vacation_core.proofs.HistoryLemmas.{opens}
use Rattle.actor_laws.specs.Courses.{IsUnderWay, IsUnderWayFrom}
use Rattle.actor_laws.specs.KnownStages.{KnownStage, Rests, Begins, Stands, Calls, Commits}
use Rattle.actor_laws.specs.KnownStages.{Committed, Ends, StepMoves, known_stage, known_stage_at}
use Rattle.vacation_core.specs.LoneClients.{may_commit}

-- ---- what there is
there_in : (h : History) (op : Op Entry) (t : ℕ) → IsLawful h → IsOn op t → IsThere (world_in h) t op
there_in h op t l on =
    let r = run_by (events_of h.turns) (opening_of h) in
    let kinds = suit_kinds h.blocks (state_of h.tables).held l.suits in
    there (world_in h) op t r.words (subst (AreKinds of_tables) (sym r.blocks) kinds) on

-- ---- where a request is under way
abbrev NotResting : KnownStage Entry → Type 0
NotResting Rests = ⊥
NotResting (Stands calls) = ⊥
NotResting p = Unit {0}

abbrev RoomAt : KnownStage Entry → Type 0
RoomAt (Calls calls call) = weights calls + weight call.op ≤ LOCATION_LIMIT
RoomAt p = Unit {0}

goes_at : (calls : List (Call Entry × Reply Entry)) (st : Stage Entry) → NotResting (known_stage_at calls st) → IsAtRest st → ⊥
goes_at calls Idle n h = n
goes_at calls Open n h = n
goes_at calls st n h = h

room_at : (x : Seat Entry) (st : Stage Entry) → RoomAt (known_stage_at x.calls st) → HasRoomFor x st
room_at x (Copying asked) h = h
room_at x st h = tt

-- as what it was asked
abbrev pub asked_as : List (Call Entry × Reply Entry) → Request Entry → KnownStage Entry
asked_as calls request.Begin = Begins
asked_as calls (request.Call call) = Calls calls call
asked_as calls request.Commit = Commits calls
asked_as calls q = Rests

-- and there is room for a call
abbrev pub HasRoom : List (Call Entry × Reply Entry) → Request Entry → Type 0
HasRoom calls (request.Call call) = weights calls + weight call.op ≤ LOCATION_LIMIT
HasRoom calls q = Unit {0}

-- what holds of where it stands
under : (P : KnownStage Entry → Type 0) (calls : List (Call Entry × Reply Entry)) (q : Request Entry) (s x : Seat Entry)
    (made : Option (Record Entry)) → IsUnderWayFrom s (asked_as calls q) x made
    → P (asked_as calls q) → P Ends → P Committed → P (known_stage x)
under P calls request.Begin s x made u at ends late = subst P (sym u.0) at
under P calls (request.Call call) s x made (inl is, none) at ends late = subst P (sym is) at
under P calls (request.Call call) s x made (inr is, none) at ends late = subst P (sym is.0) ends
under P calls request.Commit s x made (inl (inl is, none)) at ends late = subst P (sym is) at
under P calls request.Commit s x made (inl (inr is, none)) at ends late = subst P (sym is.0) ends
under P calls request.Commit s x made (inr is) at ends late = subst P (sym is.0) late
under P calls q s x made u at ends late = absurd u

goes_as : (calls : List (Call Entry × Reply Entry)) (q : Request Entry) (s x : Seat Entry) (made : Option (Record Entry))
    → IsUnderWayFrom s (asked_as calls q) x made → NotResting (asked_as calls q)
goes_as calls request.Begin s x made u = tt
goes_as calls (request.Call call) s x made u = tt
goes_as calls request.Commit s x made u = tt
goes_as calls q s x made u = absurd u

has_room : (calls : List (Call Entry × Reply Entry)) (q : Request Entry) → HasRoom calls q → RoomAt (asked_as calls q)
has_room calls request.Begin h = tt
has_room calls (request.Call call) h = h
has_room calls request.Commit h = tt
has_room calls request.BeginRead h = tt
has_room calls request.Abort h = tt

-- ---- the law in a history
answered_in : (a : ℕ) (h : History) → IsLawful h → h.clock ≡ 0 → ArePlain a (events_of h.turns)
    → IsAnswered 0 (events_of h.turns) (world_in h) a
answered_in a h l start plain =
    let s = state_of h.tables in
    subst (λ k. IsAnswered k (events_of h.turns) (world_in h) a) start
    (never_refused h.blocks h.clock s.words s.held (events_of h.turns) a l.stripes plain)

-- no step is refused to a request that is under way
pub never_in_steps : (a : ℕ) (h : History) (calls : List (Call Entry × Reply Entry)) (q : Request Entry) (s : Seat Entry)
    (made : Option (Record Entry)) → IsLawful h → h.clock ≡ 0 → ArePlain a (events_of h.turns)
    → commits_in (events_of h.turns) < clock_limit
    → known_stage s ≡ asked_as calls q → HasRoom calls q → IsUnderWay s ((world_in h).seats a) made
    → IsRefusal (happens (world_in h) (Step a)).1 → ⊥
never_in_steps a h calls q s made l start plain few stood room u =
    let x = (world_in h).seats a in
    let way : IsUnderWayFrom s (asked_as calls q) x made = subst (λ (p : KnownStage Entry). IsUnderWayFrom s p x made) stood u in
    let goes = under NotResting calls q s x made way (goes_as calls q s x made way) tt tt in
    let fits = under RoomAt calls q s x made way (has_room calls q room) tt tt in
    (answered_in a h l start plain).steps (omega (arith, few)) (goes_at x.calls x.stage goes) (room_at x x.stage fits)

-- and no call is refused as it is asked
pub never_as_asked : (a : ℕ) (h : History) (calls : List (Call Entry × Reply Entry)) (call : Call Entry) (action : Action)
    (done : List Action) → IsLawful h → h.clock ≡ 0 → ArePlain a (events_of h.turns) → IsAt a (Stands calls) action done h → Fits calls call
    → IsRefusal (happens (world_in h) (Ask a (request.Call call))).1 → ⊥
never_as_asked a h calls call action done l start plain at fits =
    let x = (world_in h).seats a in
    let stands = opens a h calls action done at in
    (answered_in a h l start plain).calls call stands.0 fits.small (there_in h call.op call.target l fits.on)
    (subst (λ (cs : List (Call Entry × Reply Entry)). length cs < 4096) (sym stands.1) fits.short)
    (subst (λ (cs : List (Call Entry × Reply Entry)). weights cs + weight call.op ≤ 4096) (sym stands.1) fits.room)

-- ---- commits that may be asked for
pub at_most_one : (p : KnownStage Entry) → may_commit p ≤ 1
at_most_one Rests = omega arith
at_most_one Begins = omega arith
at_most_one (Stands calls) = omega arith
at_most_one (Calls calls call) = omega arith
at_most_one (Commits calls) = omega arith
at_most_one Committed = omega arith
at_most_one Ends = omega arith

none_more : (p q : KnownStage Entry) → q ≡ p → may_commit p ≡ 0 → may_commit q ≤ 0
none_more p q is none = let same = ap may_commit is in omega (arith, same, none)

-- a step asks for none
pub step_may : (p : KnownStage Entry) (commits : Bool) (n : Notice Entry) (q : KnownStage Entry) → StepMoves p commits n q
    → may_commit q ≤ may_commit p
step_may Begins commits n q h = at_most_one q
step_may (Stands calls) commits n q h = at_most_one q
step_may (Calls calls call) commits n q h = at_most_one q
step_may Rests false (Refused b cause) q h = none_more Rests q h refl
step_may (Commits calls) false Quiet q (inl is) = none_more (Commits calls) q is refl
step_may (Commits calls) false Quiet q (inr is) = none_more Ends q is refl
step_may (Commits calls) true Quiet q h = none_more Committed q h refl
step_may (Commits calls) true (Answered b (answer.Committed n)) q h = none_more Rests q h refl
step_may Committed false Quiet q h = none_more Committed q h refl
step_may Committed false (Answered b (answer.Committed n)) q h = none_more Rests q h refl
step_may Ends false Quiet q h = none_more Ends q h refl
step_may Ends false (Answered b answer.Aborted) q h = none_more Rests q h refl
step_may Ends false (Refused b cause) q h = none_more Rests q h refl
step_may p commits n q h = absurd h
