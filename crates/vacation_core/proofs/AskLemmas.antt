-- The results of the requests of a session on the running world.
-- Where its transaction stands open, a session asks what is left of its program. A reply that is answered at once takes the program on, and
-- there was room for its call; a call that is refused leaves the transaction open, which is aborted then.
use Rattle.std.proofs.Common.{◌≡◌, ℕ, ◌+◌, ◌<◌, ◌≤◌, Bool, true, false, List, [], ◌∷◌, ◌++◌, length, inl, inr, refl, sym, ◌∙◌, ap, subst}
use Rattle.std.proofs.Common.{arith, length-append}
use Rattle.std.specs.Prelude.{Option, Some, slice_get, slice_set}
use Rattle.std.proofs.Math.Dec.{ltb}
use Rattle.std.proofs.lemmas.Bool.{ltb-false, ltb-true}
use Rattle.tx_machine.proofs.Sets.{put-other, put-same}
use Rattle.seq_model.specs.declared.call.Call.{Call}
use Rattle.seq_model.specs.declared.call.Reply.{Reply}
use Rattle.seq_model.specs.declared.event.Answer.{Answer}
use Rattle.seq_model.specs.declared.event.Answer.TheVariants as answer
use Rattle.seq_model.specs.declared.event.Event.{Event}
use Rattle.seq_model.specs.declared.event.Event.TheVariants as event
use Rattle.seq_model.specs.declared.event.Notice.{Notice}
use Rattle.seq_model.specs.declared.event.Notice.TheVariants.{Quiet, Answered, Refused}
use Rattle.seq_model.specs.declared.event.Request.TheVariants as request
use Rattle.seq_model.specs.declared.limits.TheConstants.{CALL_LIMIT}
use Rattle.seq_model.specs.declared.refusal.Refusal.{Refusal}
use Rattle.replay_log.specs.WorldAnswers.{is_there}
use Rattle.replay_log.specs.Worlds.{World, Stage, Idle, Open, ask_at, happens}
use Rattle.replay_log.proofs.AskLemmas.{no_such, too_long}
use Rattle.vac_model.specs.declared.action.Action.{Action}
use Rattle.seq_model.specs.declared.job.Ask.{Ask as Asked}
use Rattle.seq_model.specs.declared.job.Ask.TheVariants as ask
use Rattle.seq_model.specs.Programs.{Asks, Answers, GivesUp, after, asked, replies_of}
use Rattle.client_sessions.specs.declared.entry.Entry.{Entry}
use Rattle.client_sessions.specs.Sessions.{SessionProgram, session}
use Rattle.step_world.specs.Feeds.{Feeds}
use Rattle.step_world.specs.Parts.{IsWorld}
use Rattle.step_world.specs.declared.opening.TheConstants.{ACTORS}
use Rattle.vacation_core.specs.Histories.{IsAt, action_in, done_in, world_in}
use Rattle.vacation_core.proofs.HistoryLemmas.{abort_is_quiet, aborts_to, commit_is_quiet, commits_to, goes_on, idle, may_ask, opens}
use Rattle.actor_laws.specs.KnownStages.{CallMoves, KnownStage, Rests, Stands, Calls, Commits, Ends, known_stage}
use Rattle.vacation_core.specs.Clients.{asks_next, failed, joined}
use Rattle.vacation_core.specs.Plays.{Play, aborts, asks_on, if_replied, left_of, moved, seat_in, told}
use Rattle.vacation_core.specs.Running.{AsksNext, AsksOn, Abandons, Called, HasPosition, IsAsking}
use Rattle.vacation_core.specs.Running.{IsCalling, IsClient, IsOn, IsOpen, IsOpenWith}
use Rattle.vacation_core.specs.Running.{IsPlay}
use Rattle.vacation_core.specs.Running.{IsRefused, Others, Refusing, RepliesWithin}
use Rattle.vacation_core.specs.declared.client.Client.{Client}
use Rattle.vacation_core.specs.declared.world.VacWorld.{VacWorld}
use Rattle.vacation_core.proofs.ClientAnswerLemmas.{asks_is, open_failed, open_joined, open_of}
use Rattle.vacation_core.proofs.PlayLemmas.{at_now, called_at, open_calls, replied_next}
use Rattle.vacation_core.proofs.TurnLemmas.{client_as, client_at, on_turned, others_turned, own_told}
use Rattle.vacation_core.proofs.ClientLemmas.{parts_of}
use Rattle.vacation_core.specs.Running.{IsOpenWith}
use Rattle.vacation_core.proofs.TurnLemmas.{on_set, others_set, own_set, all_of, actor_at}
use Rattle.seq_model.proofs.ProgramLemmas.{same_call}

-- ---- programs

done_call : (c : Call Entry) → ◌≡◌ {A = Asked Entry} ask.Done (ask.Call c) → ⊥
done_call c e = cc

gone_call : (c : Call Entry) → ◌≡◌ {A = Asked Entry} ask.GiveUp (ask.Call c) → ⊥
gone_call c e = cc

call_done : (c : Call Entry) → ◌≡◌ {A = Asked Entry} (ask.Call c) ask.Done → ⊥
call_done c e = cc

gone_done : ◌≡◌ {A = Asked Entry} ask.GiveUp ask.Done → ⊥
gone_done e = cc

-- a program that asks this call
asks_call : (program : SessionProgram) (call : Call Entry) → asked program ≡ ask.Call call
    → (next : Reply Entry → SessionProgram) × (program ≡ Asks call next)
asks_call (Asks c next) call e = (next, ap (λ (d : Call Entry). Asks d next) (same_call c call e))
asks_call (Answers x) call e = absurd (done_call call e)
asks_call GivesUp call e = absurd (gone_call call e)

-- one that is done
asks_commit : (a : ℕ) (program : SessionProgram) (p : Play) → asked program ≡ ask.Done
    → asks_on a program p ≡ moved a (event.Ask a request.Commit) p
asks_commit a (Asks c next) p e = absurd (call_done c e)
asks_commit a (Answers x) p e = refl
asks_commit a GivesUp p e = absurd (gone_done e)

pub replies_on : (calls : List (Call Entry × Reply Entry)) (call : Call Entry) (r : Reply Entry)
    → replies_of calls ++ r ∷ [] ≡ replies_of (calls ++ (call, r) ∷ [])
replies_on [] call r = refl
replies_on (d ∷ ds) call r = ap (λ rs. d.1 ∷ rs) (replies_on ds call r)

calls_more : (calls : List (Call Entry × Reply Entry)) (x : Call Entry × Reply Entry) → length (calls ++ x ∷ []) ≡ length calls + 1
calls_more calls x = length-append calls (x ∷ [])

-- ---- a client that is to ask

-- what it asks next is what is left of its session
asking_next : (calls : List (Call Entry × Reply Entry)) (c : Client) (a : ℕ) (p : Play) → IsAsking calls c a p
    → asks_next c ≡ asked (after (session (action_in a p.history)) (replies_of calls))
asking_next calls c a p k = asks_is c.current (action_in a p.history) (p.faults a) (replies_of calls) k.current

left_is : (a : ℕ) (p : Play) (calls : List (Call Entry × Reply Entry)) → known_stage (seat_in a p) ≡ Stands calls
    → left_of a p ≡ after (session (action_in a p.history)) (replies_of calls)
left_is a p calls stands =
    ap (λ (cs : List (Call Entry × Reply Entry)). after (session (action_in a p.history)) (replies_of cs)) (open_calls a p calls stands)

-- there was room for a call that is answered
roomy : (a : ℕ) (p : Play) (calls : List (Call Entry × Reply Entry)) (call : Call Entry) → known_stage (seat_in a p) ≡ Stands calls
    → RepliesWithin (told (event.Ask a (request.Call call)) p) (length calls)
roomy a p calls call stands = by (ltb (length calls) CALL_LIMIT) refl
  where
    w : World Entry
    w = world_in p.history

    at : IsAt a (Stands calls) (action_in a p.history) (done_in a p.history) p.history
    at = at_now a p (Stands calls) stands

    is_open : ((w.seats a).stage ≡ Open) × ((w.seats a).calls ≡ calls)
    is_open = opens a p.history calls (action_in a p.history) (done_in a p.history) at

    within : (n : Notice Entry) → length calls < CALL_LIMIT → RepliesWithin n (length calls)
    within (Answered b x) lt = lt
    within n lt = tt

    refused : (b : Bool) → is_there w a call.target call.op ≡ b → CALL_LIMIT ≤ length (w.seats a).calls
        → RepliesWithin (told (event.Ask a (request.Call call)) p) (length calls)
    refused true there long =
        subst (λ (r : World Entry × Notice Entry). RepliesWithin r.1 (length calls))
        (sym (too_long w a call.target call.op is_open.0 there long)) tt
    refused false there long =
        subst (λ (r : World Entry × Notice Entry). RepliesWithin r.1 (length calls))
        (sym (no_such w a call.target call.op is_open.0 there)) tt

    by : (b : Bool) → ltb (length calls) CALL_LIMIT ≡ b → RepliesWithin (told (event.Ask a (request.Call call)) p) (length calls)
    by true e = within (told (event.Ask a (request.Call call)) p) (ltb-true (length calls) CALL_LIMIT e)
    by false e =
        refused (is_there w a call.target call.op) refl
        (subst (λ (cs : List (Call Entry × Reply Entry)). CALL_LIMIT ≤ length cs) (sym is_open.1) (ltb-false (length calls) CALL_LIMIT e))

-- ---- a call

-- a call was fed, and this was answered
pub calls_now : (i k : ℕ) (call : Call Entry) (v u : VacWorld) (n : Notice Entry) (to : Play) → HasPosition i v
    → AsksNext i v (ask.Call call)
    → Feeds v.world.parts (event.Ask (i + 1) (request.Call call)) u.world.parts n → u.clients.items ≡ v.clients.items
    → u.aborted ≡ v.aborted → AsksOn i k v to → Called i k call n u to
calls_now i k call v u n to place next f clients aborted k' =
    let a = i + 1 in
    let p = k'.play in
    let h = p.history in
    let e = event.Ask a (request.Call call) in
    let q = moved a e p in
    let c = client_at i v place in
    let own = k'.own c.0 c.1 in
    let program : SessionProgram = after (session (action_in a h)) (replies_of k'.calls) in
    let is : asked program ≡ ask.Call call = sym (asking_next k'.calls c.0 a p own) ∙ next c.0 c.1 in
    let on = asks_call program call is in
    let may = may_ask h a k'.calls (action_in a h) (done_in a h) (ask.Call call) (at_now a p (Stands k'.calls) own.stands) is in
    let x = called_at a p k'.calls call own.stands in
    let same : n ≡ told e p = own_told i v u p e n place.inside refl f k'.on in
    record {
      play = q;
      calls = k'.calls;
      next = on.0;
      at = x.0;
      on = on_turned i v u p e (action_in a h) n place.inside refl may f clients aborted k'.on;
      others = others_turned i v u p e (action_in a h) refl clients k'.others;
      stands = x.1;
      moves = subst (λ (m : Notice Entry). CallMoves k'.calls call m x.0) (sym same) x.2;
      own = λ d got.
          let there = ap (λ (cs : List Client). slice_get cs i) (sym clients) ∙ got in
          let was = k'.own d there in
          record {
            current =
                subst (λ (act : Action). IsOpenWith d.current act (p.faults a) (replies_of k'.calls)) (sym x.3) was.current;
            done = was.done ∙ sym x.4;
          };
      left = ap (λ (act : Action). after (session act) (replies_of k'.calls)) x.3 ∙ on.1;
      comes =
          (λ j. if_replied a (same j) (λ r. asks_on a (on.0 r) q) q)
          ∙ ap (λ (program' : SessionProgram). asks_on a program' p) (sym (left_is a p k'.calls own.stands ∙ on.1))
          ∙ k'.comes;
      made = k'.made;
      room = subst (λ (m : Notice Entry). RepliesWithin m (length k'.calls)) (sym same) (roomy a p k'.calls call own.stands);
    }

-- it is answered by a reply, which joins those before it
pub replied_on : (i k b : ℕ) (call : Call Entry) (r : Reply Entry) (v u : VacWorld) (c : Client) (to : Play)
    → slice_get v.clients.items i ≡ Some c → u.world ≡ v.world → u.aborted ≡ v.aborted
    → u.clients.items ≡ slice_set v.clients.items i (joined r c) → Called i k call (Answered b (answer.Replied r)) v to
    → AsksOn i (k + 1) u to
replied_on i k b call r v u c to got world aborted clients x =
    let a = i + 1 in
    let p = x.play in
    let calls = x.calls ++ (call, r) ∷ [] in
    let stands : known_stage (seat_in a p) ≡ Stands calls = x.stands ∙ x.moves in
    let own = x.own c got in
    let long : length calls ≡ length x.calls + 1 = calls_more x.calls (call, r) in
    let made = x.made in
    let room = x.room in
    let left : left_of a p ≡ x.next r =
    left_is a p calls stands ∙ replied_next x.calls (session (action_in a p.history)) call x.next r x.left in
    record {
      play = p;
      calls = calls;
      on = on_set i v u p (joined r c) world aborted clients x.on;
      others = others_set i v u p (joined r c) clients x.others;
      own = own_set i v u c (joined r c) (λ d. IsAsking calls d a p) got clients (record {
        stands = stands;
        current =
            subst (λ (rs : List (Reply Entry)). IsOpenWith (joined r c).current (action_in a p.history) (p.faults a) rs)
            (replies_on x.calls call r) (open_joined r c.current (action_in a p.history) (p.faults a) (replies_of x.calls) own.current);
        done = own.done;
      });
      comes = ap (λ (program : SessionProgram). asks_on a program p) left ∙ x.comes;
      made = omega (arith, made, long);
      room = inr (omega (arith, room, long));
    }

-- any other answer is none to a call
pub unreplied : (i k b : ℕ) (call : Call Entry) (x : Answer Entry) (v : VacWorld) (to : Play)
    → ((r : Reply Entry) → x ≡ answer.Replied r → ⊥) → Called i k call (Answered b x) v to → ⊥
unreplied i k b call (answer.Replied r) v to other x = other r refl
unreplied i k b call (answer.Begun rv) v to other x = x.moves
unreplied i k b call (answer.Committed n) v to other x = x.moves
unreplied i k b call answer.Aborted v to other x = x.moves

-- nothing is answered at once: it is under way
pub waits_on : (i k : ℕ) (call : Call Entry) (v : VacWorld) (to : Play) → Called i k call Quiet v to → IsPlay v to
waits_on i k call v to x =
    subst (IsPlay v) x.comes (record {
      on = x.on;
      clients = all_of i v x.play x.others (λ c got. by c (x.own c got) x.at x.stands x.moves);
    })
  where
    by : (c : Client) → IsCalling x.calls c (i + 1) x.play → (at : KnownStage Entry) → known_stage (seat_in (i + 1) x.play) ≡ at
        → CallMoves x.calls call Quiet at → IsClient c (i + 1) x.play
    by c k at stands (inl e) = record { at = Calls x.calls call; stands = stands ∙ e; keeps = (k.current, k.done) }
    by c k at stands (inr e) =
        let a = i + 1 in
        record {
          at = Ends;
          stands = stands ∙ e;
          keeps = (open_of c.current (action_in a x.play.history) (x.play.faults a) (replies_of x.calls) k.current, k.done);
        }

-- it was refused, which leaves the transaction open
pub refused_on : (i k b : ℕ) (call : Call Entry) (cause : Refusal) (v : VacWorld) (to : Play) → (x : Called i k call (Refused b cause) v to)
    → Refusing i v x.play
refused_on i k b call cause v to x =
    let a = i + 1 in
    record {
      on = x.on;
      others = x.others;
      own = λ c got.
          let k' = x.own c got in
          record {
            stands = inr (x.calls, x.stands ∙ x.moves.0);
            current = open_of c.current (action_in a x.play.history) (x.play.faults a) (replies_of x.calls) k'.current;
            done = k'.done;
          };
    }

-- so it is aborted
pub given_up : (i k b : ℕ) (call : Call Entry) (cause : Refusal) (v u : VacWorld) (to : Play) (yes : Bool)
    → (x : Called i k call (Refused b cause) v to) → Abandons i cause x.play yes u → IsPlay u to
given_up i k b call cause v u to true x g = subst (IsPlay u) x.comes g.1
given_up i k b call cause v u to false x g =
    absurd (apart x.calls (sym g.0 ∙ x.stands ∙ x.moves.0))
  where
    apart : (calls : List (Call Entry × Reply Entry)) → ◌≡◌ {A = KnownStage Entry} Rests (Stands calls) → ⊥
    apart calls e = cc

-- ---- a commit

pub commits_now : (i k : ℕ) (v u : VacWorld) (n : Notice Entry) (to : Play) → HasPosition i v → AsksNext i v ask.Done
    → Feeds v.world.parts (event.Ask (i + 1) request.Commit) u.world.parts n → u.clients.items ≡ v.clients.items
    → u.aborted ≡ v.aborted → AsksOn i k v to → IsPlay u to
commits_now i k v u n to place next f clients aborted k' =
    let a = i + 1 in
    let p = k'.play in
    let h = p.history in
    let e = event.Ask a request.Commit in
    let q = moved a e p in
    let c = client_at i v place in
    let own = k'.own c.0 c.1 in
    let act = action_in a h in
    let had = done_in a h in
    let at : IsAt a (Stands k'.calls) act had h = at_now a p (Stands k'.calls) own.stands in
    let is : asked (after (session act) (replies_of k'.calls)) ≡ ask.Done = sym (asking_next k'.calls c.0 a p own) ∙ next c.0 c.1 in
    let may = may_ask h a k'.calls act had ask.Done at is in
    let quiet : told e p ≡ Quiet = commit_is_quiet h a k'.calls act had at in
    let x = commits_to h a (Stands k'.calls) act had Quiet at (sym quiet) in
    let is_to : q ≡ to =
    sym (asks_commit a (left_of a p) p (ap asked (left_is a p k'.calls own.stands) ∙ is)) ∙ k'.comes in
    subst (IsPlay u) is_to (record {
      on = on_turned i v u p e act n place.inside refl may f clients aborted k'.on;
      clients = all_of i u q (others_turned i v u p e act refl clients k'.others) (λ d got.
          let was = k'.own d (ap (λ (cs : List Client). slice_get cs i) (sym clients) ∙ got) in
          record {
            at = Commits k'.calls;
            stands = x.at.stands ∙ x.moves;
            keeps = (
              subst (λ (act' : Action). IsOpen d.current act' (p.faults a)) (sym x.at.does)
                  (open_of d.current act (p.faults a) (replies_of k'.calls) was.current),
              was.done ∙ sym x.at.has,
            );
          });
    })

-- ---- no session aborts on its replies

pub never_up : (i k : ℕ) (v : VacWorld) (to : Play) → HasPosition i v → AsksNext i v ask.GiveUp → AsksOn i k v to → ⊥
never_up i k v to place next k' =
    let a = i + 1 in
    let p = k'.play in
    let h = p.history in
    let c = client_at i v place in
    let own = k'.own c.0 c.1 in
    goes_on h a k'.calls (action_in a h) (done_in a h) k'.on.lawful (at_now a p (Stands k'.calls) own.stands)
    (sym (asking_next k'.calls c.0 a p own) ∙ next c.0 c.1)

-- ---- a transaction is aborted

-- it stood open: the abort is quiet
pub gives_up_open : (i : ℕ) (cause : Refusal) (v u t : VacWorld) (c : Client) (p : Play) → i < ACTORS
    → slice_get u.clients.items i ≡ Some c → Feeds v.world.parts (event.Ask (i + 1) request.Abort) u.world.parts Quiet
    → u.clients.items ≡ v.clients.items → u.aborted ≡ v.aborted → t.world ≡ u.world → t.aborted ≡ u.aborted
    → t.clients.items ≡ slice_set u.clients.items i (failed cause c) → Refusing i v p → Abandons i cause p true t
gives_up_open i cause v u t c p inside got f clients aborted world same set r =
    by (r.own c (ap (λ (cs : List Client). slice_get cs i) (sym clients) ∙ got))
  where
    a : ℕ
    a = i + 1

    e : Event Entry
    e = event.Ask a request.Abort

    quiet : told e p ≡ Quiet
    quiet = sym (own_told i v u p e Quiet inside refl f r.on)

    -- an idle one would be refused
    never : known_stage (seat_in a p) ≡ Rests → ⊥
    never rests =
        let x = aborts_to p.history a Rests (action_in a p.history) (done_in a p.history) Quiet (at_now a p Rests rests) (sym quiet) in
        x.moves

    on : IsOn u (moved a e p)
    on = on_turned i v u p e (action_in a p.history) Quiet inside refl tt f clients aborted r.on

    others : Others i u (moved a e p)
    others = others_turned i v u p e (action_in a p.history) refl clients r.others

    at_fault : (q : Play) → q ≡ aborts a cause p → IsOn t (moved a e p) → IsOn t q
    at_fault q same on = subst (IsOn t) (sym same) (record {
      lawful = on.lawful;
      goes_on = on.goes_on;
      parts = on.parts;
      count = on.count;
      aborted = on.aborted;
      absent = on.absent;
    })

    current : (calls : List (Call Entry × Reply Entry)) → known_stage (seat_in a p) ≡ Stands calls
        → IsOpen c.current (action_in a p.history) (p.faults a)
        → c.done ≡ done_in a p.history → Abandons i cause p true t
    current calls stands has had =
        let at = at_now a p (Stands calls) stands in
        let x = aborts_to p.history a (Stands calls) (action_in a p.history) (done_in a p.history) Quiet at (sym quiet) in
        let q = aborts a cause p in (
          (opens a p.history calls (action_in a p.history) (done_in a p.history) at).0,
          record {
            on = at_fault q refl (on_set i u t (moved a e p) (failed cause c) world same set on);
            clients = all_of i t q
                (λ j d apart there. client_as (moved a e p) q (j + 1) d refl (put-other p.faults a (Some cause) (j + 1) (other j apart))
                (others_set i u t (moved a e p) (failed cause c) set others j d apart there))
                (own_set i u t c (failed cause c) (λ d. IsClient d a q) got set (record {
                  at = Ends;
                  stands = x.at.stands ∙ x.moves;
                  keeps = (
                    subst (λ (o : Option Refusal). IsOpen (failed cause c).current (action_in a q.history) o)
                        (sym (put-same p.faults a (Some cause)))
                        (subst (λ (act : Action). IsOpen (failed cause c).current act (Some cause)) (sym x.at.does)
                        (open_failed cause c.current (action_in a p.history) (p.faults a) has)),
                    had ∙ sym x.at.has,
                  );
                }));
          },
        )
      where
        other : (j : ℕ) → (j ≡ i → ⊥) → j + 1 ≡ a → ⊥
        other j apart is = apart (omega arith)

    by : IsRefused c a p → Abandons i cause p true t
    by k = elim k.stands [
      | inl rests ↦ absurd (never rests)
      | inr current' ↦ current current'.0 current'.1 k.current k.done
    ]

-- it was idle: nothing has happened
pub gives_up_none : (i : ℕ) (cause : Refusal) (v u : VacWorld) (n : Notice Entry) (p : Play) → HasPosition i v → (n ≡ Quiet → ⊥)
    → Feeds v.world.parts (event.Ask (i + 1) request.Abort) u.world.parts n → u.clients.items ≡ v.clients.items → u.aborted ≡ v.aborted
    → Refusing i v p → Abandons i cause p false u
gives_up_none i cause v u n p place loud f clients aborted r =
    by (r.own c.0 c.1)
  where
    a : ℕ
    a = i + 1

    e : Event Entry
    e = event.Ask a request.Abort

    c : (c : Client) × (slice_get v.clients.items i ≡ Some c)
    c = client_at i v place

    same : n ≡ told e p
    same = own_told i v u p e n place.inside refl f r.on

    current : (calls : List (Call Entry × Reply Entry)) → known_stage (seat_in a p) ≡ Stands calls → ⊥
    current calls stands =
        loud (same ∙ abort_is_quiet p.history a calls (action_in a p.history) (done_in a p.history) (at_now a p (Stands calls) stands))

    w : World Entry
    w = world_in p.history

    unchanged : (w.seats a).stage ≡ Idle → (happens w e).0 ≡ w
    unchanged at = ap (λ (st : Stage Entry). (ask_at w a (w.seats a) st request.Abort).0) at

    by : IsRefused c.0 a p → Abandons i cause p false u
    by k = elim k.stands [
      | inl rests ↦
          let at = idle a p.history (action_in a p.history) (done_in a p.history) (at_now a p Rests rests) in (
            rests,
            record {
              on = record {
                lawful = r.on.lawful;
                goes_on = r.on.goes_on;
                parts =
                    subst (IsWorld u.world.parts) (unchanged at)
                    (parts_of p.history e v.world.parts u.world.parts n (actor_at i place.inside) r.on.lawful r.on.parts f);
                count = ap length clients ∙ r.on.count;
                aborted = aborted ∙ r.on.aborted;
                absent = r.on.absent;
              };
              others = λ j d apart there. r.others j d apart (ap (λ (cs : List Client). slice_get cs j) (sym clients) ∙ there);
              own = λ d there. r.own d (ap (λ (cs : List Client). slice_get cs i) (sym clients) ∙ there);
            },
          )
      | inr current' ↦ absurd (current current'.0 current'.1)
    ]
