-- What a client does with the answer to its session, and what begins one.
use Rattle.std.proofs.Common.{◌≡◌, ◌⊎◌, ℕ, ◌+◌, ◌<◌, ◌≤◌, true, false, List, [], ◌∷◌, ◌++◌, length, inl, inr, refl, sym, ◌∙◌, ap, subst}
use Rattle.std.proofs.Common.{arith}
use Rattle.std.specs.Prelude.{Option, Some, None, slice_get, slice_set, if◌then◌else◌}
use Rattle.std.proofs.lemmas.Bool.{cond-false, cond-true}
use Rattle.std.proofs.lemmas.Option.{same_Some}
use Rattle.tx_machine.proofs.Sets.{put-other, put-same}
use Rattle.seq_model.specs.declared.call.Call.{Call}
use Rattle.seq_model.specs.declared.call.Reply.{Reply}
use Rattle.seq_model.specs.declared.event.Answer.TheVariants as answer
use Rattle.seq_model.specs.declared.event.Event.{Event}
use Rattle.seq_model.specs.declared.event.Event.TheVariants as event
use Rattle.seq_model.specs.declared.event.Notice.{Notice}
use Rattle.seq_model.specs.declared.event.Notice.TheVariants.{Quiet, Answered, Refused}
use Rattle.seq_model.specs.declared.event.Request.TheVariants as request
use Rattle.seq_model.specs.declared.limits.TheConstants.{CALL_LIMIT}
use Rattle.seq_model.specs.declared.refusal.Refusal.{Refusal}
use Rattle.seq_model.specs.declared.refusal.Refusal.TheVariants.{NotIdle}
use Rattle.step_core.specs.Shown.{is_actor}
use Rattle.replay_log.specs.Worlds.{Stage, Idle, Open}
use Rattle.vac_model.specs.declared.action.Action.{Action}
use Rattle.vac_model.specs.Actions.{IsAllowed}
use Rattle.seq_model.specs.Programs.{replies_of}
use Rattle.client_sessions.specs.declared.entry.Entry.{Entry}
use Rattle.step_world.specs.Feeds.{Feeds}
use Rattle.vacation_core.specs.ClientWorlds.{at_idle}
use Rattle.vacation_core.specs.Histories.{action_in, done_in, world_in}
use Rattle.vacation_core.proofs.HistoryLemmas.{idle}
use Rattle.vacation_core.proofs.HistoryLemmas as history
use Rattle.actor_laws.specs.KnownStages.{KnownStage, Rests, Begins, Stands, IsMistaken, known_stage, known_stage_at}
use Rattle.vacation_core.specs.Clients.{begun, fault_in, fault_of, finished, has_open, joined, left}
use Rattle.vacation_core.specs.Plays.{Play, aborts, at_open, begins, ends, ends_for, hears, moved, seat_in, takes, told, turned}
use Rattle.vacation_core.specs.Running.{Abandons, AsksOn, Hears, HasPosition, IsAsking, IsClient, IsOn, IsOpen, IsOpenWith, IsPlay}
use Rattle.vacation_core.specs.Running.{KeepsAt, Mistaken, Others, Refusing}
use Rattle.vacation_core.specs.declared.client.Client.{Client}
use Rattle.vacation_core.specs.declared.client.OpenSession.{OpenSession}
use Rattle.vacation_core.specs.declared.world.VacWorld.{VacWorld}
use Rattle.vacation_core.proofs.AskLemmas.{replies_on}
use Rattle.vacation_core.proofs.ClientAnswerLemmas.{at_rest, busy, done_finished, open_joined}
use Rattle.vacation_core.proofs.PlayLemmas.{at_now}
use Rattle.vacation_core.proofs.TurnLemmas.{all_of, client_as, on_set, on_turned, others_set, others_turned, own_set}
use Rattle.step_world.specs.Parts.{IsWorld}
use Rattle.step_world.specs.Worlds.{WorldShown}
use Rattle.tx_machine.specs.World.{put}
use Rattle.vacation_core.specs.Histories.{History, IsLawful}

-- ---- stages

pub stage_idle : (a : ℕ) (p : Play) → known_stage (seat_in a p) ≡ Rests → (seat_in a p).stage ≡ Idle
stage_idle a p rests = idle a p.history (action_in a p.history) (done_in a p.history) (at_now a p Rests rests)

idle_is : {X : Type 0} → (st : Stage Entry) (x y : X) → st ≡ Idle → at_idle st x y ≡ x
idle_is st x y e = ap (λ (s : Stage Entry). at_idle s x y) e

-- a seat that does not rest is not idle
busy_is : {X : Type 0} → (calls : List (Call Entry × Reply Entry)) (st : Stage Entry) (x y : X) → (known_stage_at calls st ≡ Rests → ⊥)
    → at_idle st x y ≡ y
busy_is calls Idle x y rests = absurd (rests refl)
busy_is calls st x y rests = refl

open_is : {X : Type 0} → (st : Stage Entry) (x y : X) → st ≡ Open → at_open st x y ≡ x
open_is st x y e = ap (λ (s : Stage Entry). at_open s x y) e

unopened_is : {X : Type 0} → (st : Stage Entry) (x y : X) → st ≡ Idle → at_open st x y ≡ y
unopened_is st x y e = ap (λ (s : Stage Entry). at_open s x y) e

-- ---- it is to continue

-- its transaction has begun
pub begun_asks : (i b rv : ℕ) (v : VacWorld) (p : Play) → Hears i (Answered b (answer.Begun rv)) v p
    → AsksOn i 0 v (hears (i + 1) (Answered b (answer.Begun rv)) p)
begun_asks i b rv v p h = record {
  play = p;
  calls = [];
  on = h.on;
  others = h.others;
  own = λ c got. (let k = h.own c got in record { stands = k.stands ∙ k.hears.0; current = k.hears.1; done = k.hears.2 });
  comes = refl;
  made = omega arith;
  room = inl refl;
}

-- a call was answered
pub replied_asks : (i b : ℕ) (r : Reply Entry) (v u : VacWorld) (c : Client) (p : Play) → slice_get v.clients.items i ≡ Some c
    → u.world ≡ v.world → u.aborted ≡ v.aborted → u.clients.items ≡ slice_set v.clients.items i (joined r c)
    → Hears i (Answered b (answer.Replied r)) v p → AsksOn i 0 u (hears (i + 1) (Answered b (answer.Replied r)) p)
replied_asks i b r v u c p got world aborted clients h =
    let a = i + 1 in
    let k = h.own c got in
    let calls = k.hears.0 ++ (k.hears.1, r) ∷ [] in
    record {
      play = p;
      calls = calls;
      on = on_set i v u p (joined r c) world aborted clients h.on;
      others = others_set i v u p (joined r c) clients h.others;
      own = own_set i v u c (joined r c) (λ d. IsAsking calls d a p) got clients (record {
        stands = k.stands ∙ k.hears.2;
        current =
            subst (λ (rs : List (Reply Entry)). IsOpenWith (joined r c).current (action_in a p.history) (p.faults a) rs)
            (replies_on k.hears.0 k.hears.1 r)
            (open_joined r c.current (action_in a p.history) (p.faults a) (replies_of k.hears.0) k.hears.3);
        done = k.hears.4;
      });
      comes = refl;
      made = omega arith;
      room = inl refl;
    }

-- the requests of a session end
pub ends_asking : (i : ℕ) (v : VacWorld) (to : Play) (k : ℕ) → CALL_LIMIT < k → AsksOn i k v to → ⊥
ends_asking i v to k many x = by x.room
  where
    by : (k ≡ 0) ⊎ (length x.calls ≤ CALL_LIMIT) → ⊥
    by (inl none) = omega (arith, none, many)
    by (inr room) = let made = x.made in omega (arith, made, room, many)

-- ---- its session has ended

-- it has committed
pub committed_now : (i b n : ℕ) (v u : VacWorld) (c : Client) (p : Play) → slice_get v.clients.items i ≡ Some c
    → u.world ≡ v.world → u.aborted ≡ v.aborted → u.clients.items ≡ slice_set v.clients.items i (finished c)
    → Hears i (Answered b (answer.Committed n)) v p → IsPlay u (hears (i + 1) (Answered b (answer.Committed n)) p)
committed_now i b n v u c p got world aborted clients h =
    let a = i + 1 in
    let k = h.own c got in
    record {
      on = on_set i v u p (finished c) world aborted clients h.on;
      clients = all_of i u p (others_set i v u p (finished c) clients h.others)
          (own_set i v u c (finished c) (λ d. IsClient d a p) got clients (record {
            at = Rests;
            stands = k.stands ∙ k.hears.0;
            keeps = (refl, done_finished c.current c.done (action_in a p.history) (p.faults a) k.hears.1 ∙ k.hears.2);
          }));
    }

-- it has ended without a commit
pub left_now : (i : ℕ) (v u : VacWorld) (c : Client) (p : Play) → slice_get v.clients.items i ≡ Some c → u.world ≡ v.world
    → u.aborted ≡ v.aborted → u.clients.items ≡ slice_set v.clients.items i (left c) → IsOn v p → Others i v p
    → known_stage (seat_in (i + 1) p) ≡ Rests → c.done ≡ done_in (i + 1) p.history → IsPlay u p
left_now i v u c p got world aborted clients on others rests done =
    let a = i + 1 in
    record {
      on = on_set i v u p (left c) world aborted clients on;
      clients = all_of i u p (others_set i v u p (left c) clients others)
          (own_set i v u c (left c) (λ d. IsClient d a p) got clients (record { at = Rests; stands = rests; keeps = (refl, done) }));
    }

fault_is : (o : Option OpenSession) (action : Action) (fault : Option Refusal) → IsOpen o action fault → fault_in o ≡ fault
fault_is None action fault h = absurd h
fault_is (Some o) action fault h = h.1

pub aborted_left : (i b : ℕ) (v u : VacWorld) (c : Client) (p : Play) → slice_get v.clients.items i ≡ Some c → u.world ≡ v.world
    → u.aborted ≡ v.aborted → u.clients.items ≡ slice_set v.clients.items i (left c) → Hears i (Answered b answer.Aborted) v p
    → IsPlay u p
aborted_left i b v u c p got world aborted clients h =
    let k = h.own c got in
    left_now i v u c p got world aborted clients h.on h.others (k.stands ∙ k.hears.0) k.hears.2

-- its end is listed with the fault for which it aborted its transaction
pub aborted_for : (i b : ℕ) (v u : VacWorld) (c : Client) (p : Play) (o : Option Refusal) → slice_get v.clients.items i ≡ Some c
    → o ≡ fault_of c → Hears i (Answered b answer.Aborted) v p → IsPlay u (ends_for (i + 1) o p)
    → IsPlay u (hears (i + 1) (Answered b answer.Aborted) p)
aborted_for i b v u c p o got is h =
    let a = i + 1 in
    let k = h.own c got in
    subst (λ (f : Option Refusal). IsPlay u (ends_for a f p)) (is ∙ fault_is c.current (action_in a p.history) (p.faults a) k.hears.1)

pub ended_now : (v u : VacWorld) (a : ℕ) (cause : Refusal) (p : Play) → u.world ≡ v.world → u.clients.items ≡ v.clients.items
    → u.aborted ≡ v.aborted ++ (a, cause) ∷ [] → IsPlay v p → IsPlay u (ends a cause p)
ended_now v u a cause p world clients aborted k = record {
  on = record {
    lawful = k.on.lawful;
    goes_on = k.on.goes_on;
    parts = subst (λ (x : WorldShown Entry). IsWorld x.parts (world_in p.history)) (sym world) k.on.parts;
    count = ap length clients ∙ k.on.count;
    aborted = aborted ∙ ap (λ xs. xs ++ (a, cause) ∷ []) k.on.aborted;
    absent = k.on.absent;
  };
  clients = λ j c got.
      client_as p (ends a cause p) (j + 1) c refl refl (k.clients j c (ap (λ (cs : List Client). slice_get cs j) (sym clients) ∙ got));
}

-- ---- a refusal

pub refusing_of : (i b : ℕ) (cause : Refusal) (v : VacWorld) (p : Play) → Hears i (Refused b cause) v p → Refusing i v p
refusing_of i b cause v p h = record {
  on = h.on;
  others = h.others;
  own = λ c got.
      let k = h.own c got in
      record { stands = by k.to k.stands k.hears.0; current = k.hears.1; done = k.hears.2 };
}
  where
    by : (to : KnownStage Entry) → known_stage (seat_in (i + 1) p) ≡ to
        → (to ≡ Rests) ⊎ ((calls : List (Call Entry × Reply Entry)) × (to ≡ Stands calls) × IsMistaken cause)
        → (known_stage (seat_in (i + 1) p) ≡ Rests)
        ⊎ ((calls : List (Call Entry × Reply Entry)) × (known_stage (seat_in (i + 1) p) ≡ Stands calls))
    by to stands (inl rests) = inl (stands ∙ rests)
    by to stands (inr current) = inr (current.0, stands ∙ current.1)

-- a request that was refused else has ended its transaction
pub unmistaken_rests : (i b : ℕ) (cause : Refusal) (v : VacWorld) (c : Client) (p : Play) → slice_get v.clients.items i ≡ Some c
    → Mistaken cause false → Hears i (Refused b cause) v p → known_stage (seat_in (i + 1) p) ≡ Rests
unmistaken_rests i b cause v c p got isnt h = (let k = h.own c got in by k.to k.stands k.hears.0)
  where
    by : (to : KnownStage Entry) → known_stage (seat_in (i + 1) p) ≡ to
        → (to ≡ Rests) ⊎ ((calls : List (Call Entry × Reply Entry)) × (to ≡ Stands calls) × IsMistaken cause)
        → known_stage (seat_in (i + 1) p) ≡ Rests
    by to stands (inl rests) = stands ∙ rests
    by to stands (inr current) = absurd (isnt current.2)

pub refused_left : (i : ℕ) (v u : VacWorld) (c : Client) (p : Play) → slice_get v.clients.items i ≡ Some c → u.world ≡ v.world
    → u.aborted ≡ v.aborted → u.clients.items ≡ slice_set v.clients.items i (left c) → known_stage (seat_in (i + 1) p) ≡ Rests
    → Refusing i v p → IsPlay u p
refused_left i v u c p got world aborted clients rests r =
    left_now i v u c p got world aborted clients r.on r.others rests (r.own c got).done

-- it aborts its transaction
pub gives_up_then : (i b : ℕ) (cause : Refusal) (u : VacWorld) (p : Play) → Abandons i cause p true u
    → IsPlay u (hears (i + 1) (Refused b cause) p)
gives_up_then i b cause u p g =
    let a = i + 1 in
    subst (IsPlay u) (sym (open_is (seat_in a p).stage (aborts a cause p) (ends a cause p) g.0)) g.1

-- it has none any more
pub ends_then : (i b : ℕ) (cause : Refusal) (u : VacWorld) (p : Play) → known_stage (seat_in (i + 1) p) ≡ Rests
    → IsPlay u (ends (i + 1) cause p)
    → IsPlay u (hears (i + 1) (Refused b cause) p)
ends_then i b cause u p rests k =
    let a = i + 1 in
    subst (IsPlay u) (sym (unopened_is (seat_in a p).stage (aborts a cause p) (ends a cause p) (stage_idle a p rests))) k

-- ---- events

-- without a session nothing happens
pub rests_takes : (i : ℕ) (e : Event Entry) (v : VacWorld) (c : Client) (p : Play) → slice_get v.clients.items i ≡ Some c
    → has_open c ≡ false
    → IsPlay v p → IsPlay v (takes (i + 1) e p)
rests_takes i e v c p got none k =
    let a = i + 1 in
    let x = k.clients i c got in
    let rests : known_stage (seat_in a p) ≡ Rests =
    x.stands ∙ at_rest x.at c (action_in a p.history) (p.faults a) (done_in a p.history) none x.keeps in
    subst (IsPlay v) (sym (idle_is (seat_in a p).stage p _ (stage_idle a p rests))) k

apart_of : (i : ℕ) (v : VacWorld) (c : Client) (p : Play) → slice_get v.clients.items i ≡ Some c → has_open c ≡ true → IsPlay v p
    → known_stage (seat_in (i + 1) p) ≡ Rests → ⊥
apart_of i v c p got some k rests =
    let a = i + 1 in
    let x = k.clients i c got in
    busy x.at c (action_in a p.history) (p.faults a) (done_in a p.history) some x.keeps (sym x.stands ∙ rests)

pub takes_then : (i : ℕ) (e : Event Entry) (v u w : VacWorld) (n : Notice Entry) (c : Client) (p : Play)
    → slice_get v.clients.items i ≡ Some c
    → has_open c ≡ true → IsPlay v p → n ≡ told e p → IsPlay w (hears (i + 1) n (moved (i + 1) e p)) → IsPlay w (takes (i + 1) e p)
takes_then i e v u w n c p got some k same h =
    let a = i + 1 in
    let x = seat_in a p in
    subst (IsPlay w)
    (ap (λ (m : Notice Entry). hears a m (moved a e p)) same
    ∙ sym (busy_is x.calls x.stage p (hears a (told e p) (moved a e p)) (apart_of i v c p got some k)))
    h

-- ---- a begin

pub busy_begins : (i : ℕ) (action : Action) (v u : VacWorld) (c : Client) (p : Play) → slice_get v.clients.items i ≡ Some c
    → has_open c ≡ true → IsPlay v p → IsPlay u (ends (i + 1) NotIdle p) → IsPlay u (begins (i + 1) action p)
busy_begins i action v u c p got some k h =
    let a = i + 1 in
    let x = seat_in a p in
    subst (IsPlay u) (sym (busy_is x.calls x.stage _ (ends a NotIdle p) (apart_of i v c p got some k))) h

pub begins_now : (i : ℕ) (action : Action) (v u t : VacWorld) (n : Notice Entry) (c d : Client) (p : Play) → HasPosition i v
    → IsAllowed action
    → slice_get v.clients.items i ≡ Some c → slice_get u.clients.items i ≡ Some d → has_open c ≡ false
    → Feeds v.world.parts (event.Ask (i + 1) request.Begin) u.world.parts n → u.clients.items ≡ v.clients.items
    → u.aborted ≡ v.aborted → t.world ≡ u.world → t.aborted ≡ u.aborted → t.clients.items ≡ slice_set u.clients.items i (begun action d)
    → IsPlay v p → IsPlay t (begins (i + 1) action p)
begins_now i action v u t n c d p place allowed got got' none f clients aborted world same set k =
    let a = i + 1 in
    let h = p.history in
    let e = event.Ask a request.Begin in
    let m = turned e action p in
    let x = k.clients i c got in
    let is : c ≡ d = same_Some c d (sym got ∙ ap (λ (cs : List Client). slice_get cs i) (sym clients) ∙ got') in
    let at : x.at ≡ Rests = at_rest x.at c (action_in a h) (p.faults a) (done_in a h) none x.keeps in
    let rests : known_stage (seat_in a p) ≡ Rests = x.stands ∙ at in
    let y = history.begins h a (action_in a h) action (done_in a h) (at_now a p Rests rests) in
    let keeps : KeepsAt Rests c (action_in a h) (p.faults a) (done_in a h) =
    subst (λ (q : KnownStage Entry). KeepsAt q c (action_in a h) (p.faults a) (done_in a h)) at x.keeps in
    let had : d.done ≡ done_in a h = ap (λ (z : Client). z.done) (sym is) ∙ keeps.1 in
    let q : Play = record m { faults = put p.faults a None } in
    let on : IsOn u m = on_turned i v u p e action n place.inside refl allowed f clients aborted k.on in
    let others : Others i u m = others_turned i v u p e action refl clients (λ j z apart there. k.clients j z there) in
    subst (IsPlay t) (sym (idle_is (seat_in a p).stage q (ends a NotIdle p) (stage_idle a p rests)))
    (record {
      on = as_faults m q refl refl refl (on_set i u t m (begun action d) world same set on);
      clients = all_of i t q
          (λ j z apart there. client_as m q (j + 1) z refl (put-other p.faults a None (j + 1) (λ e. apart (omega (arith, e))))
          (others_set i u t m (begun action d) set others j z apart there))
          (own_set i u t d (begun action d) (λ z. IsClient z a q) got' set (record {
            at = Begins;
            stands = y.stands;
            keeps = ((sym y.does, sym (put-same p.faults a None), refl), had ∙ sym y.has);
          }));
    })
  where
    as_faults : (m q : Play) → q.history ≡ m.history → q.given_up ≡ m.given_up → q.aborted ≡ m.aborted → IsOn t m → IsOn t q
    as_faults m q same up ended on = record {
      lawful = subst (λ (h : History). IsLawful h) (sym same) on.lawful;
      goes_on = up ∙ on.goes_on;
      parts = subst (λ (h : History). IsWorld t.world.parts (world_in h)) (sym same) on.parts;
      count = on.count;
      aborted = on.aborted ∙ sym ended;
      absent = λ b isnt. ap (λ (h : History). done_in b h) same ∙ on.absent b isnt;
    }

-- ---- nothing is answered

pub unheard : (i : ℕ) (v : VacWorld) (p : Play) → Hears i Quiet v p → IsPlay v p
unheard i v p h = record {
  on = h.on;
  clients = all_of i v p h.others (λ c got. (let k = h.own c got in record { at = k.to; stands = k.stands; keeps = k.hears }));
}

-- ---- events of any actor

pub of_actor : (v : VacWorld) (a : ℕ) (p q : Play) → is_actor a ≡ true → IsPlay v p → IsPlay v (if is_actor a then p else q)
of_actor v a p q is k = subst (IsPlay v) (sym (cond-true (is_actor a) p q is)) k

pub of_none : (v : VacWorld) (a : ℕ) (p q : Play) → is_actor a ≡ false → IsPlay v q → IsPlay v (if is_actor a then p else q)
of_none v a p q isnt k = subst (IsPlay v) (sym (cond-false (is_actor a) p q isnt)) k
