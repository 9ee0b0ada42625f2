-- A session of the client, from its begin to its commit.
-- Each request is answered, and by what it is answered the client continues (`IsAnswered`). The calls follow the session's program: each is
-- the one that is asked after the replies so far, and what is left of the program continues with its reply. By the laws of sessions it does
-- not abort, and asks no more calls than a transaction may have.
use Rattle.std.proofs.Common.{◌≡◌, ℕ, ◌+◌, ◌<◌, Bool, true, false, List, [], ◌∷◌, ◌++◌, length, Some, refl, sym, ◌∙◌, ap, subst, arith}
use Rattle.std.specs.Prelude.{if◌then◌else◌}
use Rattle.seq_model.specs.declared.call.Call.{Call}
use Rattle.seq_model.specs.declared.call.Reply.{Reply}
use Rattle.seq_model.specs.declared.event.Answer.TheVariants as answer
use Rattle.seq_model.specs.declared.event.Notice.{Notice}
use Rattle.seq_model.specs.declared.event.Notice.TheVariants.{Answered}
use Rattle.seq_model.specs.declared.event.Request.TheVariants as request
use Rattle.seq_model.specs.declared.job.Ask.{Ask}
use Rattle.seq_model.specs.declared.job.Ask.TheVariants as ask
use Rattle.seq_model.specs.Programs.{Answers, Asks, Follows, GivesUp, after, asked, replies_of}
use Rattle.seq_model.proofs.ProgramLemmas.{follows_after, same_call}
use Rattle.vac_model.specs.declared.action.Action.{Action}
use Rattle.vac_model.specs.declared.action.ActionReply.{ActionReply}
use Rattle.vac_model.specs.Actions.{IsAllowed}
use Rattle.vac_model.specs.Holdings.{Holdings}
use Rattle.client_sessions.specs.declared.entry.Entry.{Entry}
use Rattle.client_sessions.specs.Sessions.{SessionProgram, session}
use Rattle.step_world.specs.declared.parts.Parts.{Parts}
use Rattle.actor_laws.specs.KnownStages.{KnownStage, Rests, Stands}
use Rattle.vacation_core.specs.LoneClients.{IsAnswered, IsClient, IsNext, Leads}
use Rattle.vacation_core.proofs.CostLemmas.{asks_fit}
use Rattle.vacation_core.proofs.HistoryLemmas.{goes_on}
use Rattle.seq_model.specs.declared.limits.TheConstants.{CALL_LIMIT}
use Rattle.std.specs.Prelude.{None}
use Rattle.std.proofs.lemmas.Option.{same_Some}
use Rattle.seq_model.proofs.LogicLemmas.{some-none}
use Rattle.vacation_core.specs.Turns.{Begins, Calls, Commits, HasBegun, IsAtRest, IsOpen, MakesCalls, MayCall, MayRun, Runs, replied}

-- ---- answers

pub begins : (c d : Parts Entry) (m : Notice Entry) → IsAnswered c 1 request.Begin d m → Begins c d
begins c d m h tables n last action done x allowed few =
    let r = h tables n [] Rests last action done x (allowed, refl, few) in by m r.at r.commits r.leads r.client
  where
    by : (m : Notice Entry) (p : KnownStage Entry) (commits : Bool) → Leads [] request.Begin m p commits
        → IsClient 1 tables (n + 1) p action (if commits then done ++ action ∷ [] else done) d → IsOpen tables (n + 1) [] action done d
    by (Answered b (answer.Begun rv)) p false e y = subst (λ (q : KnownStage Entry). IsClient 1 tables (n + 1) q action done d) e y
    by m p commits e y = absurd e

pub calls : (c d : Parts Entry) (call : Call Entry) (m : Notice Entry) (reply : Reply Entry) → IsAnswered c 1 (request.Call call) d m
    → replied m ≡ Some reply → Calls call c reply d
calls c d call m reply h is tables n made action done x allowed next =
    let r = h tables n made (Stands made) action action done x (allowed, refl, refl, next) in by m r.at r.commits is r.leads r.client
  where
    by : (m : Notice Entry) (p : KnownStage Entry) (commits : Bool) → replied m ≡ Some reply → Leads made (request.Call call) m p commits
        → IsClient 1 tables n p action (if commits then done ++ action ∷ [] else done) d
        → IsOpen tables n (made ++ (call, reply) ∷ []) action done d
    by (Answered b (answer.Replied r)) p false is e y =
        subst (λ (s : Reply Entry). IsOpen tables n (made ++ (call, s) ∷ []) action done d) (same_Some r reply is)
        (subst (λ (q : KnownStage Entry). IsClient 1 tables n q action done d) e y)
    by m p commits is e y = absurd e

-- and there is a reply
pub is_replied : (c d : Parts Entry) (call : Call Entry) (m : Notice Entry) → IsAnswered c 1 (request.Call call) d m → MayCall call c
    → replied m ≡ None → ⊥
is_replied c d call m h may none =
    let made = may.calls in
    let r = h may.tables may.count made (Stands made) may.action may.action may.done may.opened (may.allowed, refl, refl, may.next) in
    by made m r.at r.commits none r.leads
  where
    by : (made : List (Call Entry × Reply Entry)) (m : Notice Entry) (p : KnownStage Entry) (commits : Bool) → replied m ≡ None
        → Leads made (request.Call call) m p commits → ⊥
    by made (Answered b (answer.Replied r)) p commits none e = some-none r none
    by made m p commits none e = e

pub commits : (c d : Parts Entry) (m : Notice Entry) → IsAnswered c 1 request.Commit d m → Commits c d
commits c d m h tables n made action done x all =
    let r = h tables n made (Stands made) action action done x (refl, refl, all) in by m r.at r.commits r.leads r.client
  where
    by : (m : Notice Entry) (p : KnownStage Entry) (commits : Bool) → Leads made request.Commit m p commits
        → IsClient 1 tables n p action (if commits then done ++ action ∷ [] else done) d
        → IsAtRest tables n action (done ++ action ∷ []) d
    by (Answered b (answer.Committed k)) p true e y =
        subst (λ (q : KnownStage Entry). IsClient 1 tables n q action (done ++ action ∷ []) d) e y
    by m p commits e y = absurd e

-- ---- the program
no_done : (c : Call Entry) → ask.Call c ≡ ask.Done → ⊥
no_done c e = cc

no_call : (c : Call Entry) → ask.Done ≡ ask.Call c → ⊥
no_call c e = cc

gone_call : (c : Call Entry) → ask.GiveUp ≡ ask.Call c → ⊥
gone_call c e = cc

gone_done : ◌≡◌ {A = Ask Entry} ask.GiveUp ask.Done → ⊥
gone_done e = cc

asks_is : (p : SessionProgram) (call : Call Entry) → asked p ≡ ask.Call call → (next : Reply Entry → SessionProgram) × (p ≡ Asks call next)
asks_is (Asks c next) call e = (next, ap (λ (d : Call Entry). Asks d next) (same_call c call e))
asks_is (Answers a) call e = absurd (no_call call e)
asks_is GivesUp call e = absurd (gone_call call e)

answers_is : (p : SessionProgram) → asked p ≡ ask.Done → (a : ActionReply) × (p ≡ Answers a)
answers_is (Asks c next) e = absurd (no_done c e)
answers_is (Answers a) e = (a, refl)
answers_is GivesUp e = absurd (gone_done e)

after_none : (p : SessionProgram) → p ≡ after p []
after_none (Asks c next) = refl
after_none (Answers a) = refl
after_none GivesUp = refl

-- a reply to the call that is asked takes it on
joined : (p : SessionProgram) (made : List (Call Entry × Reply Entry)) (call : Call Entry)
    (next : Reply Entry → SessionProgram) (r : Reply Entry)
    → Follows p made (Asks call next) → Follows p (made ++ (call, r) ∷ []) (next r)
joined p [] call next r f = subst (λ (q : SessionProgram). Follows q ((call, r) ∷ []) (next r)) (sym f) (refl, refl)
joined (Asks c on) (d ∷ ds) call next r f = (f.0, joined (on d.1) ds call next r f.1)
joined (Answers a) (d ∷ ds) call next r f = absurd f
joined GivesUp (d ∷ ds) call next r f = absurd f

replies_push : (made : List (Call Entry × Reply Entry)) (call : Call Entry) (r : Reply Entry)
    → replies_of (made ++ (call, r) ∷ []) ≡ replies_of made ++ r ∷ []
replies_push [] call r = refl
replies_push (d ∷ ds) call r = ap (λ (rs : List (Reply Entry)). d.1 ∷ rs) (replies_push ds call r)

length_push : (made : List (Call Entry × Reply Entry)) (x : Call Entry × Reply Entry) → length (made ++ x ∷ []) ≡ length made + 1
length_push [] x = refl
length_push (d ∷ ds) x = let more = length_push ds x in omega (arith, more)

-- ---- the calls of a session
-- The transaction has made k calls, which its session asks, and these are the replies.
pub record HasMade (tables : Holdings) (n : ℕ) (action : Action) (done : List Action) (d : Parts Entry) (replies : List (Reply Entry))
    (k : ℕ) : Type 0 where
  pub calls : List (Call Entry × Reply Entry)
  pub are : replies ≡ replies_of calls
  pub count : length calls ≡ k
  pub follows : Follows (session action) calls (after (session action) (replies_of calls))
  pub client : IsOpen tables n calls action done d

abbrev pub Makes : Action → Parts Entry → Parts Entry → List (Reply Entry) → ℕ → Type 0
Makes action c d replies k =
    (tables : Holdings) (n : ℕ) (done : List Action) → IsAllowed action → IsOpen tables n [] action done c
    → HasMade tables n action done d replies k

pub makes_none : (action : Action) (c : Parts Entry) → Makes action c c [] 0
makes_none action c tables n done allowed x =
    record { calls = []; are = refl; count = refl; follows = after_none (session action); client = x }

module _ (action : Action) (c d : Parts Entry) (replies : List (Reply Entry)) (k : ℕ) (so_far : Makes action c d replies k) where
  module _ (call : Call Entry) (is : ask.Call call ≡ asked (after (session action) replies)) where
    next_of : (tables : Holdings) (n : ℕ) (done : List Action) (m : HasMade tables n action done d replies k) → IsNext action m.calls call
    next_of tables n done m =
        let rest = after (session action) (replies_of m.calls) in
        let asks = asks_is rest call (sym (is ∙ ap (λ (rs : List (Reply Entry)). asked (after (session action) rs)) m.are)) in
        (asks.0, subst (λ (q : SessionProgram). Follows (session action) m.calls q) asks.1 m.follows)

    pub makes_one : (e : Parts Entry) (reply : Reply Entry) → Calls call d reply e → Makes action c e (replies ++ reply ∷ []) (k + 1)
    makes_one e reply on tables n done allowed x =
        let m = so_far tables n done allowed x in
        let next = next_of tables n done m in
        let more = m.calls ++ (call, reply) ∷ [] in
        let f : Follows (session action) more (next.0 reply) = joined (session action) m.calls call next.0 reply next.1 in
        let long = length_push m.calls (call, reply) in
        let count = m.count in
        record {
          calls = more;
          are = ap (λ (rs : List (Reply Entry)). rs ++ reply ∷ []) m.are ∙ sym (replies_push m.calls call reply);
          count = long ∙ ap (λ j. j + 1) count;
          follows = subst (λ (q : SessionProgram). Follows (session action) more q)
              (sym (follows_after more (session action) (next.0 reply) f)) f;
          client = on tables n m.calls action done m.client allowed next;
        }

  -- ---- what a session doesn't do
  module _ (begun : HasBegun action c) where
    abbrev made : HasMade begun.tables begun.count action begun.done d replies k
    made = so_far begun.tables begun.count begun.done begun.allowed begun.opened

    -- it doesn't abort
    pub goes_on_so : ask.GiveUp ≡ asked (after (session action) replies) → ⊥
    goes_on_so is =
        let m = made in
        goes_on m.client.history 1 m.calls action begun.done m.client.lawful m.client.at
        (sym (is ∙ ap (λ (rs : List (Reply Entry)). asked (after (session action) rs)) m.are))

    -- it asks a call that the transaction has room for
    pub asks_within : (call : Call Entry) → ask.Call call ≡ asked (after (session action) replies) → k < CALL_LIMIT
    asks_within call is =
        let m = made in
        let next = next_of call is begun.tables begun.count begun.done m in
        let short : length m.calls < CALL_LIMIT = (asks_fit action m.calls call next.0 begun.allowed next.1).short in
        let count = m.count in
        omega (arith, short, count)

    pub may_call : (call : Call Entry) → ask.Call call ≡ asked (after (session action) replies) → MayCall call d
    may_call call is =
        let m = made in
        record {
          tables = begun.tables;
          count = begun.count;
          calls = m.calls;
          action = action;
          done = begun.done;
          opened = m.client;
          allowed = begun.allowed;
          next = next_of call is begun.tables begun.count begun.done m;
        }

  pub made_all : ask.Done ≡ asked (after (session action) replies) → MakesCalls action c d
  made_all is tables n done allowed x =
      let m = so_far tables n done allowed x in
      let rest = after (session action) (replies_of m.calls) in
      let all = answers_is rest (sym (is ∙ ap (λ (rs : List (Reply Entry)). asked (after (session action) rs)) m.are)) in
      (m.calls, (all.0, subst (λ (q : SessionProgram). Follows (session action) m.calls q) all.1 m.follows), m.client)

-- ---- a whole session
pub runs : (action : Action) (c d e f : Parts Entry) → Begins c d → MakesCalls action d e → Commits e f → Runs action c f
runs action c d e f begins makes commits tables n last done allowed x few =
    let m = makes tables (n + 1) done allowed (begins tables n last action done x allowed few) in
    commits tables (n + 1) m.0 action done m.2 m.1

-- once it has begun
pub has_begun : (action : Action) (c d : Parts Entry) → MayRun action c → Begins c d → HasBegun action d
has_begun action c d may begins = record {
  tables = may.tables;
  count = may.count + 1;
  done = may.done;
  allowed = may.allowed;
  opened = begins may.tables may.count may.last action may.done may.rests may.allowed may.few;
}
