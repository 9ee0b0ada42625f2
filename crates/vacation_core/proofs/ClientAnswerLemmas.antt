-- What a client keeps of its session, by what it is answered.
-- What a step answers says where its transaction continues, and so does a failed allocation; so what the client kept before is what it is
-- to keep, or what it is to have as it gets an answer.
use Rattle.std.proofs.Common.{◌≡◌, ℕ, Bool, true, false, true≢false, cond, List, [], ◌∷◌, ◌++◌, inl, inr, refl, sym, ◌∙◌, ap, subst}
use Rattle.std.specs.Prelude.{Option, Some, None}
use Rattle.seq_model.specs.declared.call.Call.{Call}
use Rattle.seq_model.specs.declared.call.Reply.{Reply}
use Rattle.seq_model.specs.declared.event.Answer.TheVariants as answer
use Rattle.seq_model.specs.declared.event.Notice.{Notice}
use Rattle.seq_model.specs.declared.event.Notice.TheVariants.{Quiet, Answered, Refused}
use Rattle.seq_model.specs.declared.refusal.Refusal.{Refusal}
use Rattle.seq_model.specs.declared.refusal.Refusal.TheVariants.{Memory as OutOfMemory}
use Rattle.replay_log.specs.WorldAnswers.{IsStarved}
use Rattle.replay_log.specs.WorldRefusals.{is_ending}
use Rattle.replay_log.specs.Worlds.{After, World, Stage, Idle, Beginning, Open, Releasing, Cancelling, Leaving, Reading}
use Rattle.replay_log.specs.Worlds.{Trying, Copying, Loading, Storing, Homing, Returning}
use Rattle.vac_model.specs.declared.action.Action.{Action}
use Rattle.seq_model.specs.Programs.{after, asked, replies_of}
use Rattle.client_sessions.specs.declared.entry.Entry.{Entry}
use Rattle.client_sessions.specs.Sessions.{session}
use Rattle.actor_laws.specs.KnownStages.{CallMoves, KnownStage, Rests, Begins, Stands, Calls}
use Rattle.actor_laws.specs.KnownStages.{Commits, Committed, Ends, StepMoves, known_stage, known_stage_at}
use Rattle.vacation_core.specs.Clients.{asks_of, has_open, is_under_way, left, with_fault, with_open, with_reply}
use Rattle.vacation_core.specs.Running.{HearsAt, IsOpen, IsOpenWith, KeepsAt}
use Rattle.vacation_core.specs.declared.client.Client.{Client}
use Rattle.vacation_core.specs.declared.client.OpenSession.{OpenSession}

-- ---- the session that is under way

pub open_of : (o : Option OpenSession) (action : Action) (fault : Option Refusal) (replies : List (Reply Entry))
    → IsOpenWith o action fault replies → IsOpen o action fault
open_of None action fault replies h = absurd h
open_of (Some o) action fault replies h = (h.0, h.1)

pub is_open : (o : Option OpenSession) (action : Action) (fault : Option Refusal) → IsOpen o action fault → is_under_way o ≡ true
is_open None action fault h = absurd h
is_open (Some o) action fault h = refl

pub asks_is : (o : Option OpenSession) (action : Action) (fault : Option Refusal) (replies : List (Reply Entry))
    → IsOpenWith o action fault replies → asks_of o ≡ asked (after (session action) replies)
asks_is None action fault replies h = absurd h
asks_is (Some o) action fault replies h = (λ j. asked (after (session (h.0 j)) (h.2 j)))

pub open_joined : (r : Reply Entry) (o : Option OpenSession) (action : Action) (fault : Option Refusal) (replies : List (Reply Entry))
    → IsOpenWith o action fault replies → IsOpenWith (with_reply r o) action fault (replies ++ r ∷ [])
open_joined r None action fault replies h = absurd h
open_joined r (Some o) action fault replies h = (h.0, h.1, ap (λ rs. rs ++ r ∷ []) h.2)

pub open_failed : (cause : Refusal) (o : Option OpenSession) (action : Action) (fault : Option Refusal) → IsOpen o action fault
    → IsOpen (with_fault cause o) action (Some cause)
open_failed cause None action fault h = absurd h
open_failed cause (Some o) action fault h = (h.0, refl)

pub done_finished : (o : Option OpenSession) (done : List Action) (action : Action) (fault : Option Refusal) → IsOpen o action fault
    → with_open o done ≡ done ++ action ∷ []
done_finished None done action fault h = absurd h
done_finished (Some o) done action fault h = ap (λ a. done ++ a ∷ []) h.0

pub closed : (o : Option OpenSession) → is_under_way o ≡ false → o ≡ None
closed None h = refl
closed (Some o) h = absurd (true≢false h)

-- ---- an idle client

none_open : (o : Option OpenSession) → o ≡ None → is_under_way o ≡ true → ⊥
none_open o e h = true≢false (sym h ∙ ap is_under_way e)

-- a client without a session is idle, and no other is
pub at_rest : (at : KnownStage Entry) (c : Client) (action : Action) (fault : Option Refusal) (done : List Action) → has_open c ≡ false
    → KeepsAt at c action fault done → at ≡ Rests
at_rest Rests c action fault done none k = refl
at_rest Begins c action fault done none k =
    absurd (true≢false (sym (is_open c.current action fault (open_of c.current action fault [] k.0)) ∙ none))
at_rest (Stands calls) c action fault done none k = absurd k
at_rest (Calls calls call) c action fault done none k =
    absurd (true≢false (sym (is_open c.current action fault (open_of c.current action fault (replies_of calls) k.0)) ∙ none))
at_rest (Commits calls) c action fault done none k = absurd (true≢false (sym (is_open c.current action fault k.0) ∙ none))
at_rest Committed c action fault done none k = absurd (true≢false (sym (is_open c.current action fault k.0) ∙ none))
at_rest Ends c action fault done none k = absurd (true≢false (sym (is_open c.current action fault k.0) ∙ none))

abbrev IsRest : KnownStage Entry → Type 0
IsRest Rests = Unit {0}
IsRest at = ⊥

pub busy : (at : KnownStage Entry) (c : Client) (action : Action) (fault : Option Refusal) (done : List Action) → has_open c ≡ true
    → KeepsAt at c action fault done → at ≡ Rests → ⊥
busy Rests c action fault done some k e = none_open c.current k.0 some
busy at c action fault done some k e = subst IsRest (sym e) tt

-- ---- a step

-- at an ending stage the phase is Ends
pub ending_phase : (calls : List (Call Entry × Reply Entry)) (st : Stage Entry) → is_ending st ≡ true → known_stage_at calls st ≡ Ends
ending_phase calls Cancelling e = refl
ending_phase calls Leaving e = refl
ending_phase calls (Returning ks) e = refl
ending_phase calls st e = absurd (true≢false (sym e))

module _ (c : Client) (action : Action) (fault : Option Refusal) where
  keeps_as : (at to : KnownStage Entry) (done : List Action) → to ≡ at → KeepsAt at c action fault done → KeepsAt to c action fault done
  keeps_as at to done e k = subst (λ (q : KnownStage Entry). KeepsAt q c action fault done) (sym e) k

  call_hears : (calls : List (Call Entry × Reply Entry)) (call : Call Entry) (n : Notice Entry) (to : KnownStage Entry) (done : List Action)
      → KeepsAt (Calls calls call) c action fault done → CallMoves calls call n to → HearsAt n to c action fault done
  call_hears calls call (Answered b (answer.Replied r)) to done k m = (calls, call, m, k.0, k.1)
  call_hears calls call (Answered b x) to done k m = absurd m
  call_hears calls call (Refused b cause) to done k m =
      (inr (calls, m.0, m.1), open_of c.current action fault (replies_of calls) k.0, k.1)
  call_hears calls call Quiet to done k (inl e) = keeps_as (Calls calls call) to done e k
  call_hears calls call Quiet to done k (inr e) = keeps_as Ends to done e (open_of c.current action fault (replies_of calls) k.0, k.1)

  pub step_hears : (before : KnownStage Entry) (commits : Bool) (n : Notice Entry) (to : KnownStage Entry) (done : List Action)
      → has_open c ≡ true
      → KeepsAt before c action fault done → StepMoves before commits n to
      → HearsAt n to c action fault (cond commits (done ++ action ∷ []) done)
  step_hears Rests commits n to done some k m = absurd (none_open c.current k.0 some)
  step_hears (Stands calls) commits n to done some k m = absurd k
  step_hears Begins false (Answered b (answer.Begun rv)) to done some k m = (m, k.0, k.1)
  step_hears Begins false (Refused b cause) to done some k m = (inl m, open_of c.current action fault [] k.0, k.1)
  step_hears Begins false Quiet to done some k m = keeps_as Begins to done m k
  step_hears (Calls calls call) false n to done some k m = call_hears calls call n to done k m
  step_hears (Commits calls) false Quiet to done some k (inl e) = keeps_as (Commits calls) to done e k
  step_hears (Commits calls) false Quiet to done some k (inr e) = keeps_as Ends to done e k
  step_hears (Commits calls) true Quiet to done some k m =
      keeps_as Committed to (done ++ action ∷ []) m (k.0, ap (λ (xs : List Action). xs ++ action ∷ []) k.1)
  step_hears (Commits calls) true (Answered b (answer.Committed n)) to done some k m =
      (m, k.0, ap (λ (xs : List Action). xs ++ action ∷ []) k.1)
  step_hears Committed false Quiet to done some k m = keeps_as Committed to done m k
  step_hears Committed false (Answered b (answer.Committed n)) to done some k m = (m, k.0, k.1)
  step_hears Ends false Quiet to done some k m = keeps_as Ends to done m k
  step_hears Ends false (Answered b answer.Aborted) to done some k m = (m, k.0, k.1)
  step_hears Ends false (Refused b cause) to done some k m = (inl m, k.0, k.1)
  step_hears before commits n to done some k m = absurd m

  -- ---- a failed allocation

  idle_phase : (calls : List (Call Entry × Reply Entry)) (st : Stage Entry) → st ≡ Idle → known_stage_at calls st ≡ Rests
  idle_phase calls st e = ap (known_stage_at calls) e

  hears_as : (m n : Notice Entry) (to : KnownStage Entry) (done : List Action) → n ≡ m → HearsAt m to c action fault done
      → HearsAt n to c action fault done
  hears_as m n to done e h = subst (λ (x : Notice Entry). HearsAt x to c action fault done) (sym e) h

  given_up : (a : ℕ) (r : After Entry) (done : List Action) → is_ending (r.0.seats a).stage ≡ true → r.1 ≡ Quiet
      → IsOpen c.current action fault
      → c.done ≡ done → HearsAt r.1 (known_stage (r.0.seats a)) c action fault done
  given_up a r done ending quiet current same =
      hears_as Quiet r.1 (known_stage (r.0.seats a)) done quiet
      (keeps_as Ends (known_stage (r.0.seats a)) done (ending_phase (r.0.seats a).calls (r.0.seats a).stage ending) (current, same))

  unheard : (w : World Entry) (a : ℕ) (r : After Entry) (at : KnownStage Entry) (done : List Action) → known_stage (w.seats a) ≡ at
      → r ≡ (w, Quiet)
      → KeepsAt at c action fault done → HearsAt r.1 (known_stage (r.0.seats a)) c action fault done
  unheard w a r at done stands e k =
      subst (λ (x : After Entry). HearsAt x.1 (known_stage (x.0.seats a)) c action fault done) (sym e)
      (keeps_as at (known_stage (w.seats a)) done stands k)

  pub starve_hears : (w : World Entry) (a : ℕ) (calls : List (Call Entry × Reply Entry)) (st : Stage Entry) (r : After Entry)
      (done : List Action) → has_open c ≡ true → known_stage (w.seats a) ≡ known_stage_at calls st
      → KeepsAt (known_stage_at calls st) c action fault done
      → IsStarved w a st r → HearsAt r.1 (known_stage (r.0.seats a)) c action fault done
  starve_hears w a calls Idle r done some stands k s = absurd (none_open c.current k.0 some)
  starve_hears w a calls Open r done some stands k s = absurd k
  starve_hears w a calls Beginning r done some stands k s =
      hears_as (Refused a OutOfMemory) r.1 (known_stage (r.0.seats a)) done s.1
      (inl (idle_phase (r.0.seats a).calls (r.0.seats a).stage s.0), open_of c.current action fault [] k.0, k.1)
  starve_hears w a calls (Storing ks) r done some stands k s = unheard w a r Committed done stands s k
  starve_hears w a calls (Homing ks) r done some stands k s = unheard w a r Committed done stands s k
  starve_hears w a calls Releasing r done some stands k s = unheard w a r Committed done stands s k
  starve_hears w a calls (Returning ks) r done some stands k s = unheard w a r Ends done stands s k
  starve_hears w a calls Cancelling r done some stands k s = unheard w a r Ends done stands s k
  starve_hears w a calls Leaving r done some stands k s = unheard w a r Ends done stands s k
  starve_hears w a calls (Reading l) r done some stands k s =
      given_up a r done s.0 s.2 (open_of c.current action fault (replies_of calls) k.0) k.1
  starve_hears w a calls (Trying asked tries) r done some stands k s =
      given_up a r done s.0 s.2 (open_of c.current action fault (replies_of calls) k.0) k.1
  starve_hears w a calls (Copying asked) r done some stands k s =
      given_up a r done s.0 s.2 (open_of c.current action fault (replies_of calls) k.0) k.1
  starve_hears w a calls (Loading o left) r done some stands k s =
      given_up a r done s.0 s.2 (open_of c.current action fault (replies_of calls) k.0) k.1
  starve_hears w a calls st r done some stands k s = given_up a r done s.0 s.2 k.0 k.1
