-- Whatever clients ask, each call of client a fits its transaction: its seat follows its session (`ServeLemmas`), so
-- the call is one that the session asks after these replies; sessions fit the limits of a transaction, and the tables are there. A client
-- that begins no declared reader is none, so it may ask for changes. So the law of an actor beside others serves.
use Rattle.std.proofs.Common.{◌≡◌, ℕ, ◌<◌, Bool, true, false, not, ◌&&◌, List, [], ◌∷◌, ◌++◌, refl, sym, ◌∙◌, ap, subst, arith}
use Rattle.std.specs.Prelude.{nat_lt}
use Rattle.std.proofs.lemmas.Bool.Decides.{nat_tests}
use Rattle.seq_model.specs.declared.call.Call.{Call}
use Rattle.seq_model.specs.declared.call.Op.{Op}
use Rattle.seq_model.specs.declared.call.Op.TheVariants.{Read, Write}
use Rattle.seq_model.specs.declared.event.Event.TheVariants.{Ask}
use Rattle.seq_model.specs.declared.event.Request.TheVariants as request
use Rattle.seq_model.specs.declared.held.Held.{Held}
use Rattle.replay_log.specs.Collections.{Suit}
use Rattle.replay_log.specs.Contents.{Block, HaveStripes}
use Rattle.replay_log.specs.WorldAnswers.{is_there}
use Rattle.replay_log.specs.Worlds.{World, Open, actor_of, happens, is_change, may_ask, opened, run}
use Rattle.replay_log.proofs.RequestLemmas.{happens_by}
use Rattle.actor_laws.specs.Alone.{IsThere}
use Rattle.actor_laws.specs.Beside.{AreFitting, BeginsNoReader, Fits, IsFitting, IsNoReader}
use Rattle.actor_laws.proofs.BesideLemmas.{never_mistaken, one_none}
use Rattle.seq_model.specs.Programs.{asked, after, replies_of}
use Rattle.seq_model.specs.declared.job.Ask.TheVariants as ask
use Rattle.seq_model.proofs.LogicLemmas.{lt-nat_lt}
use Rattle.vac_model.specs.declared.action.Action.{Action}
use Rattle.client_sessions.specs.declared.entry.Entry.{Entry}
use Rattle.client_sessions.specs.Holding.{state_of}
use Rattle.client_sessions.specs.Sessions.{session}
use Rattle.vacation_core.proofs.CostLemmas.{asks_fit}
use Rattle.vacation_core.proofs.ThereLemmas.{AreKinds, of_tables, suit_kinds, there}
use Rattle.vacation_core.specs.ClientWorlds.{Actions, AskAsSessions, MayHappen, Turn, begun, events_of}
use Rattle.vacation_core.specs.Serial.{begun_all, committed_in}
use Rattle.vacation_core.proofs.FollowLemmas.{FollowsAt, asked_next}
use Rattle.vacation_core.proofs.ServeLemmas.{OwnUpTo, Serves, opens_serving, serves_on}
use Rattle.vacation_core.specs.Rooms.{SessionsFindRoom}

both_true : (b d : Bool) → b ≡ true → d ≡ true → (b && d) ≡ true
both_true b d e f = ap (λ c. c && d) e ∙ f

-- ---- a call fits
module _ (a : ℕ) where
  may : (w : World Entry) (op : Op Entry) → (actor_of w a).declared ≡ false → may_ask (actor_of w a) op ≡ true
  may w op d = ap (λ (b : Bool). not (b && is_change op)) d

  is_there_as : (w : World Entry) (t : ℕ) (op : Op Entry) → (actor_of w a).declared ≡ false → IsThere w t op → is_there w a t op ≡ true
  is_there_as w t Read d h = lt-nat_lt t w.words h
  is_there_as w t (Write v) d h = both_true (nat_lt t w.words) (not (actor_of w a).declared) (lt-nat_lt t w.words h) (ap not d)
  is_there_as w t op d h = both_true _ (may_ask {V = Entry} (actor_of w a) op) h (may w op d)

module _ (blocks : List Block) (stripes : HaveStripes blocks) (clock : ℕ) (values : List ℕ) (held : List (Held Entry))
    (suit : Suit blocks held) (a : ℕ) where
  -- what is kept of a world of clients
  record Keeps (actions : Actions) (w : World Entry) : Type 0 where
    so_far : ℕ → List Action
    serves : Serves blocks stripes clock values held suit so_far actions w
    undeclared : (actor_of w a).declared ≡ false
    words : w.words ≡ 1
    kinds : AreKinds of_tables w.blocks

  call_fits : (actions : Actions) (w : World Entry) (call : Call Entry) → Keeps actions w
      → asked (after (session (actions a)) (replies_of (w.seats a).calls)) ≡ ask.Call call → (w.seats a).stage ≡ Open → Fits w a call
  call_fits actions w call k asks at =
      let x = w.seats a in
      let p = session (actions a) in
      let P = OwnUpTo a w.records in
      let f : FollowsAt (P x.rv) p x.calls Open = subst (FollowsAt (P x.rv) p x.calls) at (k.serves.seats a) in
      let next = asked_next P p (P x.rv) x.calls call f asks in
      let fit = asks_fit (actions a) x.calls call next.1.0 (k.serves.allowed a) next.1.1 in
      record {
        small = fit.small;
        there = is_there_as a w call.target call.op k.undeclared (there w call.op call.target k.words k.kinds fit.on);
        short = fit.short;
        room = fit.room;
      }

  fits : (actions : Actions) (w : World Entry) (t : Turn) → Keeps actions w → MayHappen actions w t → IsFitting w a t.0
  fits actions w (Ask b (request.Call call), action) k asks =
      λ own at. call_fits actions w call k
      (subst (λ i. asked (after (session (actions i)) (replies_of (w.seats i).calls)) ≡ ask.Call call) own asks) at
  fits actions w t k asks = tt

  -- ---- all turns
  keeps_next : (actions : Actions) (w : World Entry) (t : Turn) → Keeps actions w → MayHappen actions w t → IsNoReader a t.0
      → Keeps (begun actions w t) (happens w t.0).0
  keeps_next actions w t k asks free =
      let r = happens_by w t.0 in
      record {
        so_far = λ c. k.so_far c ++ committed_in c actions w t;
        serves = serves_on blocks stripes clock values held suit k.so_far actions w t k.serves asks;
        undeclared = one_none a w t.0 free k.undeclared;
        words = r.reached.words ∙ k.words;
        kinds = subst (AreKinds of_tables) (sym r.reached.blocks) k.kinds;
      }

  all_fit : (ts : List Turn) (actions : Actions) (w : World Entry) → Keeps actions w → AskAsSessions actions w ts
      → BeginsNoReader a (events_of ts)
      → AreFitting w a (events_of ts) × Keeps (begun_all actions w ts) (run w (events_of ts))
  all_fit [] actions w k asks free = (tt, k)
  all_fit (t ∷ ts) actions w k asks free =
      let rest = all_fit ts (begun actions w t) (happens w t.0).0 (keeps_next actions w t k asks.0 free.0) asks.1 free.1 in
      ((fits actions w t k asks.0, rest.0), rest.1)

pub sessions_find_room : SessionsFindRoom
sessions_find_room blocks clock tables actions turns a allowed stripes suit asks free t own may tells =
    let opening = state_of tables in
    let first = opened blocks clock opening.words opening.held in
    let k : Keeps blocks stripes clock opening.words opening.held suit a actions first = record {
      so_far = λ c. [];
      serves = opens_serving blocks stripes clock opening.words opening.held suit actions allowed;
      undeclared = refl;
      words = refl;
      kinds = suit_kinds blocks opening.held suit;
    } in
    let all = all_fit blocks stripes clock opening.words opening.held suit a turns actions first k asks free in
    never_mistaken blocks clock opening.words opening.held stripes a (events_of turns) all.0 t.0 own
    (fits blocks stripes clock opening.words opening.held suit a (begun_all actions first turns) (run first (events_of turns)) t all.1 may)
    tells
