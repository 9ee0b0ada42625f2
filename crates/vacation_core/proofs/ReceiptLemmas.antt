-- Receipts of whole sessions are their actions.
-- Calls that were each asked after the replies before them follow the session's program, and where it is done after them, it answers: so
-- each receipt is one of a session, and a run of sessions is their actions. Receipts in any order are put into commit order by what is
-- counted in both (`ArrangeLemmas`).
use Rattle.std.proofs.Common.{◌≡◌, ℕ, List, [], ◌∷◌, refl, sym, ◌∙◌, ap, subst}
use Rattle.std.specs.Prelude.{map}
use Rattle.std.specs.Coded.{Coded, codes}
use Rattle.std.specs.List.{AllByRecursion}
use Rattle.std.proofs.lemmas.List.Elements.{recursion_from_All}
use Rattle.std.proofs.lemmas.List.Sorted.{All-permutation}
use Rattle.seq_model.specs.declared.call.Call.{Call}
use Rattle.seq_model.specs.declared.call.Reply.{Reply}
use Rattle.seq_model.specs.declared.record.Record.{Record}
use Rattle.seq_model.specs.declared.job.Ask.{Ask}
use Rattle.seq_model.specs.declared.job.Ask.TheVariants as ask
use Rattle.seq_model.specs.Programs.{Answers, Asks, Follows, GivesUp, after, asked, replies_of}
use Rattle.seq_model.proofs.ProgramLemmas.{asked_follow, follows_after}
use Rattle.vac_model.specs.declared.action.Action.{Action}
use Rattle.vac_model.specs.declared.action.ActionReply.{ActionReply}
use Rattle.client_sessions.specs.declared.entry.Entry.{Entry}
use Rattle.client_sessions.specs.Runs.{AreActions, AreSessions, Deal, IsSession}
use Rattle.client_sessions.specs.Sessions.{SessionProgram, session}
use Rattle.client_sessions.proofs.RunLemmas.{runs_are_actions}
use Rattle.vacation_core.specs.Served.{AreWhole, IsWhole, JobsAreActions, Receipt, ReceiptsAreActions}
use Rattle.vacation_core.specs.Served.{RepliesAreTold, actions_in, records_in}
use Rattle.vacation_core.proofs.ArrangeLemmas.{Arranged, arrange}

-- ---- the session of one action

call_done : (c : Call Entry) → ask.Call c ≡ ask.Done → ⊥
call_done c e = cc

gone_done : ◌≡◌ {A = Ask Entry} ask.GiveUp ask.Done → ⊥
gone_done e = cc

-- a program that is done answers
pub answers_is : (p : SessionProgram) → asked p ≡ ask.Done → (a : ActionReply) × (p ≡ Answers a)
answers_is (Asks c next) e = absurd (call_done c e)
answers_is (Answers a) e = (a, refl)
answers_is GivesUp e = absurd (gone_done e)

whole_session : (action : Action) (calls : List (Call Entry × Reply Entry)) → IsWhole action calls
    → (a : ActionReply) × IsSession (action, a) calls
whole_session action calls whole =
    let answer = answers_is (after (session action) (replies_of calls)) whole.done in (
      answer.0,
      record {
        allowed = whole.allowed;
        whole = subst (λ (q : SessionProgram). Follows (session action) calls q) answer.1 (asked_follow calls (session action) whole.each);
      },
    )

answers_same : (x y : ActionReply) → ◌≡◌ {A = SessionProgram} (Answers x) (Answers y) → x ≡ y
answers_same x y e = cc

pub replies_are_told : RepliesAreTold
replies_are_told d calls reply is told =
    answers_same reply d.1 (sym told ∙ follows_after calls (session d.0) (Answers d.1) is.whole)

-- ---- receipts in commit order

record HaveDeals (actions : List Action) (receipts : List (ℕ × Record Entry)) : Type 0 where
  deals : List Deal
  theirs : map (λ d. d.0) deals ≡ actions
  sessions : AreSessions deals receipts

deals_of : (actions : List Action) (receipts : List (ℕ × Record Entry)) → AreWhole actions receipts → HaveDeals actions receipts
deals_of [] [] are = record { deals = []; theirs = refl; sessions = tt }
deals_of [] (r ∷ rs) are = absurd are
deals_of (a ∷ more) [] are = absurd are
deals_of (a ∷ more) (r ∷ rs) are =
    let one = whole_session a r.1.calls are.0 in
    let rest = deals_of more rs are.1 in
    record {
      deals = (a, one.0) ∷ rest.deals;
      theirs = ap (λ (xs : List Action). a ∷ xs) rest.theirs;
      sessions = (one.1, rest.sessions);
    }

pub jobs_are_actions : JobsAreActions
jobs_are_actions tables actions receipts balanced whole ordered run =
    let d = deals_of actions receipts whole in
    let are : AreActions d.deals receipts tables = runs_are_actions d.deals receipts tables balanced d.sessions run in
    record {
      deals = d.deals;
      actions = d.theirs;
      sessions = d.sessions;
      replies = are.done;
      ordered = ordered;
      run = run;
      left = are.left;
      balanced = are.balanced;
    }

-- ---- and in any order

record_code : Coded (ℕ × Record Entry)
record_code = hlevel codes

whole_each : (receipts : List Receipt) → AllByRecursion (λ x. IsWhole x.0 x.1.1.calls) receipts
    → AreWhole (actions_in receipts) (records_in receipts)
whole_each [] all = tt
whole_each (x ∷ xs) all = (all.0, whole_each xs all.1)

pub receipts_are_actions : ReceiptsAreActions
receipts_are_actions tables receipts order balanced whole same ordered run =
    let r : Arranged record_code (λ x. x.1) receipts order = arrange record_code (λ x. x.1) order receipts same in
    let P : Receipt → Type 0 = λ x. IsWhole x.0 x.1.1.calls in
    let all : AreWhole (actions_in r.arranged) (records_in r.arranged) =
    whole_each r.arranged (recursion_from_All P r.arranged (All-permutation P receipts r.arranged r.same whole)) in
    record {
      arranged = r.arranged;
      same = r.same;
      ordered = r.are;
      served = jobs_are_actions tables (actions_in r.arranged) order balanced
          (subst (λ (xs : List (ℕ × Record Entry)). AreWhole (actions_in r.arranged) xs) r.are all) ordered run;
    }
