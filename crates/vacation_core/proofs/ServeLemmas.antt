-- Sessions that interleave are their actions, one after another.
-- By induction on the events: the transaction of each actor follows the session of its action, and each record is a whole session. An event
-- of one actor leaves the others' seats; a step that commits inserts the record of a transaction that has made all its calls. As it began,
-- no record had a greater number than it began with, and its actor makes no other before it commits; so its record goes after all of its
-- actor. Serial order of the world and the law of runs of sessions say what is left.
use Rattle.std.proofs.Common.{◌≡◌, ◌⊎◌, ℕ, ◌<◌, ◌≤◌, Bool, true, false, cond, eqb, eq-eqb, ne_eqb, List, [], ◌∷◌, ◌++◌, Option, Some, None}
use Rattle.std.proofs.Common.{inl, inr, refl, sym, ◌∙◌, ap, subst, arith}
use Rattle.std.proofs.lemmas.Bool.{cases_eq, cases_Bool, cond-true, cond-false}
use Rattle.std.proofs.lemmas.Bool.Decides.{nat_tests}
use Rattle.std.proofs.lemmas.List.{append_assoc, append-nil}
use Rattle.tx_machine.specs.Actor as machine
use Rattle.tx_machine.specs.World.{put}
use Rattle.tx_machine.proofs.Invariant.{PlaceOk}
use Rattle.tx_machine.proofs.Sets.{put-other, put-same}
use Rattle.seq_model.specs.declared.call.Call.{Call}
use Rattle.seq_model.specs.declared.call.Reply.{Reply}
use Rattle.seq_model.specs.declared.event.Answer.TheVariants as answer
use Rattle.seq_model.specs.declared.event.Event.{Event}
use Rattle.seq_model.specs.declared.event.Event.TheVariants.{Ask, Step, Starve}
use Rattle.seq_model.specs.declared.event.Notice.TheVariants.{Answered}
use Rattle.seq_model.specs.declared.event.Request.{Request}
use Rattle.seq_model.specs.declared.event.Request.TheVariants as request
use Rattle.seq_model.specs.declared.held.Held.{Held}
use Rattle.seq_model.specs.declared.record.Record.{Record}
use Rattle.seq_model.specs.Runs.{comes_before, insert_record, IsInCommitOrder, IsLegal, NoneComesBefore, state_at}
use Rattle.seq_model.proofs.RecordLemmas.{before}
use Rattle.tx_machine.specs.Content.{has}
use Rattle.replay_log.specs.Contents.{Block, HaveStripes}
use Rattle.replay_log.specs.Collections.{Suit}
use Rattle.replay_log.specs.Worlds.{World, Seat, Stage, Idle, Beginning, Open, Ready, Closing, happens, half, is_half_done, opened, run}
use Rattle.replay_log.specs.WorldSerial.{AreHalfDone, AreUpTo, IsSerial, SawAt}
use Rattle.replay_log.specs.WorldTraces.{committed_by, with_record}
use Rattle.replay_log.specs.WorldProgress.{whose}
use Rattle.replay_log.proofs.EventLemmas.{opened_linked, run-append, run_linked}
use Rattle.replay_log.proofs.RequestLemmas.{happens_by}
use Rattle.replay_log.proofs.RecordLemmas.{all_own, asked_records, half_done, starved_records, stepped_turns}
use Rattle.replay_log.proofs.SeatLemmas.{Linked, StageOk}
use Rattle.replay_log.proofs.SerialLemmas.{begins_above, serial_world, shown_state}
use Rattle.vac_model.specs.declared.action.Action.{Action}
use Rattle.vac_model.specs.declared.action.ActionReply.{ActionReply}
use Rattle.vac_model.specs.Actions.{IsAllowed}
use Rattle.seq_model.specs.Programs.{Program, Asks, Answers, GivesUp, Follows, after, asked, replies_of}
use Rattle.seq_model.specs.declared.job.Ask.{Ask as AnAsk}
use Rattle.seq_model.specs.declared.job.Ask.TheVariants as ask
use Rattle.seq_model.proofs.ProgramLemmas.{follows_after}
use Rattle.client_sessions.specs.declared.entry.Entry.{Entry}
use Rattle.client_sessions.specs.Holding.{state_of}
use Rattle.client_sessions.specs.Runs.{AreActions, AreSessions, Deal, IsSession}
use Rattle.client_sessions.specs.Sessions.{session}
use Rattle.client_sessions.proofs.RunLemmas.{none_gives_up, runs_are_actions}
use Rattle.vacation_core.specs.ClientWorlds.{Actions, AskAsSessions, MayHappen, Turn, at_idle, begun, events_of}
use Rattle.vacation_core.specs.Serial.{SessionsAreSerial, actions_of, begun_all, committed_in, committed_of, if_committed}
use Rattle.vacation_core.proofs.FollowLemmas.{FollowsAt, IsFollowing, commits_follow, follows_map, requests_follow, starves_follow}
use Rattle.vacation_core.proofs.FollowLemmas.{steps_follow}

-- ---- records

-- the records of actor a have no greater number
abbrev pub OwnUpTo : ℕ → List (ℕ × Record Entry) → ℕ → Type 0
OwnUpTo a [] n = Unit {0}
OwnUpTo a (r ∷ rs) n = (r.0 ≡ a → r.1.number ≤ n) × OwnUpTo a rs n

own_up_to : (a n : ℕ) (rs : List (ℕ × Record Entry)) → AreUpTo n rs → OwnUpTo a rs n
own_up_to a n [] h = tt
own_up_to a n (r ∷ rs) h = (λ _. h.0, own_up_to a n rs h.1)

-- another's record changes nothing of that
others_insert : (b n : ℕ) (q : ℕ × Record Entry) (rs : List (ℕ × Record Entry)) → (q.0 ≡ b → ⊥) → OwnUpTo b rs n
    → OwnUpTo b (insert_record q rs) n
others_insert b n q [] other h = (λ e. absurd (other e), tt)
others_insert b n q (r ∷ rs) other h =
    let rest : OwnUpTo b (insert_record q rs) n = others_insert b n q rs other h.1 in
    elim (comes_before q r) as (λ c. OwnUpTo b (cond c (q ∷ r ∷ rs) (r ∷ insert_record q rs)) n) [
      | true ↦ ((λ e. absurd (other e)), h)
      | false ↦ (h.0, rest)
    ]

-- the record q is made after those of its actor: a writer's number is above theirs, a reader's at least as great
pub record IsBehind (q : ℕ × Record Entry) (s : ℕ × Record Entry) : Type 0 where
  pub number : s.1.number ≤ q.1.number
  pub above : q.1.writes ≡ true → s.1.number < q.1.number

abbrev pub IsBehindOwn : ℕ × Record Entry → List (ℕ × Record Entry) → Type 0
IsBehindOwn q [] = Unit {0}
IsBehindOwn q (r ∷ rs) = (r.0 ≡ q.0 → IsBehind q r) × IsBehindOwn q rs

reader_behind : (a n : ℕ) (q : Record Entry) (rs : List (ℕ × Record Entry)) → q.number ≡ n → q.writes ≡ false → OwnUpTo a rs n
    → IsBehindOwn (a, q) rs
reader_behind a n q [] is reads h = tt
reader_behind a n q (r ∷ rs) is reads h = (
  λ e. record { number = subst (λ m. r.1.number ≤ m) (sym is) (h.0 e); above = λ writes. absurd (not_both q.writes writes reads) },
  reader_behind a n q rs is reads h.1,
)
  where
    not_both : (b : Bool) → b ≡ true → b ≡ false → ⊥
    not_both b is isnt = cc

writer_behind : (a n : ℕ) (q : Record Entry) (rs : List (ℕ × Record Entry)) → n < q.number → OwnUpTo a rs n → IsBehindOwn (a, q) rs
writer_behind a n q [] above h = tt
writer_behind a n q (r ∷ rs) above h = (
  λ e.
      let le : r.1.number ≤ n = h.0 e in
      record { number = omega (arith, le, above); above = λ _. omega (arith, le, above) },
  writer_behind a n q rs above h.1,
)

-- where a record goes in before another, none of its own actor stands after that
no_own_behind : (a : ℕ) (q : Record Entry) (b : ℕ) (x s : Record Entry) → comes_before (a, q) (b, x) ≡ true
    → comes_before (a, s) (b, x) ≡ false → s.number ≤ q.number → (q.writes ≡ true → s.number < q.number) → ⊥
no_own_behind a q b x s first after le above =
    by q.number x.number s.number q.writes x.writes s.writes first after le above
  where
    by : (n m k : ℕ) (u v t : Bool) → before n u a m v b ≡ true → before k t a m v b ≡ false → k ≤ n → (u ≡ true → k < n) → ⊥
    by n m k true v t first after le above =
        let lt : k < n = above refl in grind (arith, nat_tests)
    by n m k false true t first after le above = grind (arith, nat_tests)
    by n m k false false true first after le above = grind (arith, nat_tests)
    by n m k false false false first after le above = grind (arith, nat_tests)

-- it does not come before one that it is made after
behind_not_before : (q r : ℕ × Record Entry) → r.0 ≡ q.0 → IsBehind q r → comes_before q r ≡ true → ⊥
behind_not_before q r same behind first =
    by q.1.number r.1.number q.0 q.1.writes r.1.writes
    (subst (λ b. before q.1.number q.1.writes q.0 r.1.number r.1.writes b ≡ true) same first)
    behind.number behind.above
  where
    by : (n m a : ℕ) (u v : Bool) → before n u a m v a ≡ true → m ≤ n → (u ≡ true → m < n) → ⊥
    by n m a true v first le above =
        let lt : m < n = above refl in grind (arith, nat_tests)
    by n m a false true first le above = grind (arith, nat_tests)
    by n m a false false first le above = grind (arith, nat_tests)

none_of : (q x : ℕ × Record Entry) (ds : List Deal) (rs : List (ℕ × Record Entry)) → comes_before q x ≡ true → NoneComesBefore x rs
    → IsBehindOwn q rs → actions_of q.0 ds rs ≡ []
none_of q x [] rs first none own = refl
none_of q x (d ∷ ds) [] first none own = refl
none_of q x (d ∷ ds) (s ∷ rs) first none own =
    elim (cases_eq s.0 q.0) [
      | inl is ↦
          let behind : IsBehind q s = own.0 is in
          let later : comes_before (q.0, s.1) x ≡ false = subst (λ a. comes_before (a, s.1) x ≡ false) is none.0 in
          absurd (no_own_behind q.0 q.1 x.0 x.1 s.1 first later behind.number behind.above)
      | inr isnt ↦ cond-false (eqb s.0 q.0) _ _ (ne_eqb s.0 q.0 isnt) ∙ none_of q x ds rs first none.1 own.1
    ]

-- a session goes to the place of its record, after those of its actor
pub record Inserted (d : Deal) (q : ℕ × Record Entry) (ds : List Deal) (rs out : List (ℕ × Record Entry)) : Type 0 where
  pub deals : List Deal
  pub sessions : AreSessions deals out
  pub others : (c : ℕ) → (q.0 ≡ c → ⊥) → actions_of c deals out ≡ actions_of c ds rs
  pub own : actions_of q.0 deals out ≡ actions_of q.0 ds rs ++ d.0 ∷ []

skips : (c : ℕ) (d : Deal) (q : ℕ × Record Entry) (ds : List Deal) (rs : List (ℕ × Record Entry)) → (q.0 ≡ c → ⊥)
    → actions_of c (d ∷ ds) (q ∷ rs) ≡ actions_of c ds rs
skips c d q ds rs other = cond-false (eqb q.0 c) _ _ (ne_eqb q.0 c other)

takes : (d : Deal) (q : ℕ × Record Entry) (ds : List Deal) (rs : List (ℕ × Record Entry))
    → actions_of q.0 (d ∷ ds) (q ∷ rs) ≡ d.0 ∷ actions_of q.0 ds rs
takes d q ds rs = cond-true (eqb q.0 q.0) _ _ (eq-eqb q.0 q.0 refl)

pushed : (b : Bool) (x y : Action) (xs : List Action) → cond b (x ∷ (xs ++ y ∷ [])) (xs ++ y ∷ []) ≡ cond b (x ∷ xs) xs ++ y ∷ []
pushed true x y xs = refl
pushed false x y xs = refl

inserted : (d : Deal) (q : ℕ × Record Entry) (ds : List Deal) (rs : List (ℕ × Record Entry)) → IsSession d q.1.calls
    → AreSessions ds rs → IsInCommitOrder rs → IsBehindOwn q rs → Inserted d q ds rs (insert_record q rs)
inserted d q [] [] is are ordered own = record {
  deals = d ∷ [];
  sessions = (is, tt);
  others = λ c other. skips c d q [] [] other;
  own = takes d q [] [];
}
inserted d q [] (r ∷ rs) is are ordered own = absurd are
inserted d q (e ∷ es) [] is are ordered own = absurd are
inserted d q (e ∷ es) (r ∷ rs) is are ordered own =
    let rest : Inserted d q es rs (insert_record q rs) = inserted d q es rs is are.1 ordered.1 own.1 in
    elim (cases_Bool (comes_before q r)) [
      | inl first ↦
          let other : r.0 ≡ q.0 → ⊥ = λ same. behind_not_before q r same (own.0 same) first in
          let none : actions_of q.0 (e ∷ es) (r ∷ rs) ≡ [] = skips q.0 e r es rs other ∙ none_of q r es rs first ordered.0 own.1 in
          subst (λ b. Inserted d q (e ∷ es) (r ∷ rs) (cond b (q ∷ r ∷ rs) (r ∷ insert_record q rs))) (sym first)
          (record {
            deals = d ∷ e ∷ es;
            sessions = (is, are);
            others = λ c o. skips c d q (e ∷ es) (r ∷ rs) o;
            own = takes d q (e ∷ es) (r ∷ rs) ∙ ap (λ xs. d.0 ∷ xs) none ∙ sym (ap (λ xs. xs ++ d.0 ∷ []) none);
          })
      | inr later ↦
          subst (λ b. Inserted d q (e ∷ es) (r ∷ rs) (cond b (q ∷ r ∷ rs) (r ∷ insert_record q rs))) (sym later)
          (record {
            deals = e ∷ rest.deals;
            sessions = (are.0, rest.sessions);
            others = λ c o. ap (λ xs. cond (eqb r.0 c) (e.0 ∷ xs) xs) (rest.others c o);
            own = ap (λ xs. cond (eqb r.0 q.0) (e.0 ∷ xs) xs) rest.own ∙ pushed (eqb r.0 q.0) e.0 d.0 (actions_of q.0 es rs);
          })
    ]

not_in_none : (ns : List ℕ) (n : ℕ) → ns ≡ [] → has ns n ≡ true → ⊥
not_in_none ns n e h = absurd (true_false (sym h ∙ ap (λ ms. has ms n) e))
  where
    true_false : true ≡ false → ⊥
    true_false e = cc

gives_up_at : (p rest : Program Entry ActionReply) (calls : List (Call Entry × Reply Entry)) → Follows p calls rest
    → asked (after p (replies_of calls)) ≡ ask.GiveUp → Follows p calls GivesUp
gives_up_at p rest calls f is = by rest f (ap asked (sym (follows_after calls p rest f)) ∙ is)
  where
    by : (q : Program Entry ActionReply) → Follows p calls q → asked q ≡ ask.GiveUp → Follows p calls GivesUp
    by (Asks call next) f is = absurd (call_gone call is)
      where
        call_gone : (c : Call Entry) → ask.Call c ≡ ask.GiveUp → ⊥
        call_gone c e = cc
    by (Answers a) f is = absurd (done_gone is)
      where
        done_gone : ◌≡◌ {A = AnAsk Entry} ask.Done ask.GiveUp → ⊥
        done_gone e = cc
    by GivesUp f is = f

-- an idle actor has no calls to speak of
idle_follows : {A : Type 0} (P : ℕ → Type 0) (p : Program Entry A) (x : Seat Entry) → x.stage ≡ Idle → IsFollowing P p x
idle_follows P p x at = subst (FollowsAt (P x.rv) p x.calls) (sym at) tt

put_allowed : (actions : Actions) (a : ℕ) (action : Action) → ((b : ℕ) → IsAllowed (actions b)) → IsAllowed action
    → (b : ℕ) → IsAllowed (put actions a action b)
put_allowed actions a action all this b =
    elim (cases_eq b a) [
      | inl is ↦ subst (λ c. IsAllowed (put actions a action c)) (sym is) (subst IsAllowed (sym (put-same actions a action)) this)
      | inr isnt ↦ subst IsAllowed (sym (put-other actions a action b isnt)) (all b)
    ]

-- ---- a world that turns have led to

module _ (blocks : List Block) (stripes : HaveStripes blocks) (clock : ℕ) (values : List ℕ) (held : List (Held Entry))
    (suit : Suit blocks held) where
  abbrev start : World Entry
  start = opened blocks clock values held

  -- Events led to w. Each actor's transaction follows the session of its action, and began when no record of that actor had a greater
  -- number; the records are sessions, those of each actor being of these actions in its order.
  pub record Serves (so_far : ℕ → List Action) (actions : Actions) (w : World Entry) : Type 0 where
    pub events : List (Event Entry)
    pub reached : run start events ≡ w
    pub allowed : (a : ℕ) → IsAllowed (actions a)
    pub seats : (a : ℕ) → IsFollowing (OwnUpTo a w.records) (session (actions a)) (w.seats a)
    pub deals : List Deal
    pub sessions : AreSessions deals w.records
    pub own : (c : ℕ) → actions_of c deals w.records ≡ so_far c

  serial_there : (w : World Entry) (es : List (Event Entry)) → run start es ≡ w → IsSerial (record { words = values; held = held }) w
  serial_there w es is = subst (λ (u : World Entry). IsSerial (record { words = values; held = held }) u) is
      (serial_world blocks stripes clock values held suit es)

  linked_there : (w : World Entry) (es : List (Event Entry)) → run start es ≡ w → Linked w
  linked_there w es is = subst (λ (u : World Entry). Linked u) is (run_linked es start (opened_linked blocks clock values held stripes))

  above_there : (w : World Entry) (es : List (Event Entry)) → run start es ≡ w → (a rv : ℕ) → (w.seats a).stage ≡ Beginning
      → (happens w (Step a)).1 ≡ Answered a (answer.Begun rv) → AreUpTo rv w.records
  above_there w es is a rv = subst (λ (u : World Entry). (u.seats a).stage ≡ Beginning
      → (happens u (Step a)).1 ≡ Answered a (answer.Begun rv)
      → AreUpTo rv u.records) is (begins_above blocks stripes clock values held suit es a rv)

  more_events : (w : World Entry) (es : List (Event Entry)) (e : Event Entry) → run start es ≡ w
      → run start (es ++ e ∷ []) ≡ (happens w e).0
  more_events w es e is = run-append es (e ∷ []) start ∙ ap (λ (u : World Entry). (happens u e).0) is

  -- a writer's number is above that at which it began
  rises : (w : World Entry) (a : ℕ) (ks : List ℕ) → Linked w → (w.seats a).stage ≡ Ready ks → (w.seats a).rv < (w.seats a).wv
  rises w a ks linked at =
      let x = w.seats a in
      let y = w.boosted.words.actors a in
      let z = w.boosted.shadows a in
      let ok : StageOk w.words w.blocks x y z (Ready ks) y.place =
      subst (λ st. StageOk w.words w.blocks x y z st y.place) at (linked.seats a).stage in
      let placed : PlaceOk w.boosted.words y (machine.Check []) =
      subst (λ q. PlaceOk w.boosted.words y q) ok.0 (linked.base.inv.machine.actors a).place in
      let apart : y.rv < y.wv = placed.0.after_rv in
      let rv : x.rv ≡ y.rv = ok.1.tx.0 in
      let wv : x.wv ≡ y.wv = ok.1.wv in
      omega (arith, apart, rv, wv)

  -- ---- one event

  -- what leaves the other actors is to be shown of its own actor alone
  others_follow : (so_far : ℕ → List Action) (actions later : Actions) (w : World Entry) (e : Event Entry) → Serves so_far actions w
      → ((b : ℕ) → (b ≡ whose e → ⊥) → later b ≡ actions b)
      → ((b n : ℕ) → (b ≡ whose e → ⊥) → OwnUpTo b w.records n → OwnUpTo b (happens w e).0.records n)
      → IsFollowing (OwnUpTo (whose e) (happens w e).0.records) (session (later (whose e))) ((happens w e).0.seats (whose e))
      → (b : ℕ) → IsFollowing (OwnUpTo b (happens w e).0.records) (session (later b)) ((happens w e).0.seats b)
  others_follow so_far actions later w e s others keep own b =
      let rs = (happens w e).0.records in
      elim (cases_eq b (whose e)) [
        | inl is ↦ subst (λ c. IsFollowing (OwnUpTo c rs) (session (later c)) ((happens w e).0.seats c)) (sym is) own
        | inr isnt ↦
            let x = w.seats b in
            subst (λ (y : Seat Entry). IsFollowing (OwnUpTo b rs) (session (later b)) y) (sym ((happens_by w e).seats b isnt))
            (subst (λ (action : Action). IsFollowing (OwnUpTo b rs) (session action) x) (sym (others b isnt))
            (follows_map (OwnUpTo b w.records x.rv) (OwnUpTo b rs x.rv) (session (actions b)) x.calls x.stage (keep b x.rv isnt)
            (s.seats b)))
      ]

  no_more : (so_far : ℕ → List Action) (c : ℕ) → so_far c ++ [] ≡ so_far c
  no_more so_far c = append-nil (so_far c)

  -- an event that leaves the records
  quietly : (so_far : ℕ → List Action) (actions later : Actions) (w : World Entry) (e : Event Entry) → Serves so_far actions w
      → (happens w e).0.records ≡ w.records → ((b : ℕ) → IsAllowed (later b)) → ((b : ℕ) → (b ≡ whose e → ⊥) → later b ≡ actions b)
      → IsFollowing (OwnUpTo (whose e) w.records) (session (later (whose e))) ((happens w e).0.seats (whose e))
      → Serves (λ c. so_far c ++ []) later (happens w e).0
  quietly so_far actions later w e s same allowed others own = record {
    events = s.events ++ e ∷ [];
    reached = more_events w s.events e s.reached;
    allowed = allowed;
    seats = others_follow so_far actions later w e s others (λ b n isnt h. subst (λ rs. OwnUpTo b rs n) (sym same) h)
        (subst (λ rs. IsFollowing (OwnUpTo (whose e) rs) (session (later (whose e))) ((happens w e).0.seats (whose e))) (sym same) own);
    deals = s.deals;
    sessions = subst (AreSessions s.deals) (sym same) s.sessions;
    own = λ c. ap (actions_of c s.deals) same ∙ s.own c ∙ sym (no_more so_far c);
  }

  -- a step that commits
  commits_on : (so_far : ℕ → List Action) (actions : Actions) (w : World Entry) (a : ℕ) (r : Record Entry) → Serves so_far actions w
      → committed_by (w.seats a) (w.seats a).stage ≡ Some r
      → (x : ActionReply) × Follows (session (actions a)) r.calls (Answers x) → IsBehindOwn (a, r) w.records
      → Serves (λ c. so_far c ++ cond (eqb a c) (actions a ∷ []) []) actions (happens w (Step a)).0
  commits_on so_far actions w a r s is whole behind =
      let d : Deal = (actions a, whole.0) in
      let rs : (happens w (Step a)).0.records ≡ insert_record (a, r) w.records =
      (stepped_turns w a).records ∙ ap (λ o. with_record a o w.records) is in
      let new : Inserted d (a, r) s.deals w.records (insert_record (a, r) w.records) =
      inserted d (a, r) s.deals w.records (record { allowed = s.allowed a; whole = whole.1 }) s.sessions
      (serial_there w s.events s.reached).ordered behind in
      record {
        events = s.events ++ Step a ∷ [];
        reached = more_events w s.events (Step a) s.reached;
        allowed = s.allowed;
        seats = others_follow so_far actions actions w (Step a) s (λ b isnt. refl)
            (λ b n isnt h. subst (λ qs. OwnUpTo b qs n) (sym rs) (others_insert b n (a, r) w.records (λ same. isnt (sym same)) h))
            (commits_follow (OwnUpTo a (happens w (Step a)).0.records) (session (actions a)) w a r is);
        deals = new.deals;
        sessions = subst (AreSessions new.deals) (sym rs) new.sessions;
        own = λ c. ap (actions_of c new.deals) rs ∙ elim (cases_eq a c) [
          | inl same ↦
              subst (λ b. actions_of b new.deals (insert_record (a, r) w.records) ≡ so_far b ++ cond (eqb a b) (actions a ∷ []) []) same
              (new.own ∙ ap (λ xs. xs ++ actions a ∷ []) (s.own a)
              ∙ ap (λ ys. so_far a ++ ys) (sym (cond-true (eqb a a) _ _ (eq-eqb a a refl))))
          | inr other ↦
              new.others c other ∙ s.own c ∙ sym (no_more so_far c)
              ∙ ap (λ ys. so_far c ++ ys) (sym (cond-false (eqb a c) _ _ (ne_eqb a c other)))
        ];
      }

  same_so_far : (f g : ℕ → List Action) (actions : Actions) (w : World Entry) → ((c : ℕ) → f c ≡ g c) → Serves f actions w
      → Serves g actions w
  same_so_far f g actions w same s = record {
    events = s.events;
    reached = s.reached;
    allowed = s.allowed;
    seats = s.seats;
    deals = s.deals;
    sessions = s.sessions;
    own = λ c. s.own c ∙ same c;
  }

  -- whether a step at this stage commits
  commits_or_not : (st : Stage Entry) → ((ks : List ℕ) × (st ≡ Ready ks)) ⊎ ((st ≡ Closing) ⊎ ((x : Seat Entry) → committed_by x st ≡ None))
  commits_or_not (Ready ks) = inl (ks, refl)
  commits_or_not Closing = inr (inl refl)
  commits_or_not st = inr (inr (λ x. refl))

  taken : (so_far : ℕ → List Action) (actions : Actions) (w : World Entry) (a : ℕ) (action : Action) (o : Option (Record Entry))
      → committed_by (w.seats a) (w.seats a).stage ≡ o
      → (c : ℕ) → so_far c ++ cond (eqb a c) (if_committed o (actions a)) [] ≡ so_far c ++ committed_in c actions w (Step a, action)
  taken so_far actions w a action o is c = ap (λ q. so_far c ++ cond (eqb a c) (if_committed q (actions a)) []) (sym is)

  none_taken : (so_far : ℕ → List Action) (a c : ℕ) → so_far c ++ [] ≡ so_far c ++ cond (eqb a c) [] []
  none_taken so_far a c = ap (λ ys. so_far c ++ ys) (by (eqb a c))
    where
      by : (b : Bool) → ◌≡◌ {A = List Action} [] (cond b [] [])
      by true = refl
      by false = refl

  steps_on : (so_far : ℕ → List Action) (actions : Actions) (w : World Entry) (a : ℕ) (action : Action) → Serves so_far actions w
      → Serves (λ c. so_far c ++ committed_in c actions w (Step a, action)) actions (happens w (Step a)).0
  steps_on so_far actions w a action s =
      let x = w.seats a in
      let N = OwnUpTo a w.records x.rv in
      let p = session (actions a) in
      elim (commits_or_not x.stage) [
        | inl ready ↦
            let f : FollowsAt N p x.calls (Ready ready.0) = subst (FollowsAt N p x.calls) ready.1 (s.seats a) in
            let r : Record Entry = record { number = x.wv; writes = true; calls = x.calls } in
            let is : committed_by x x.stage ≡ Some r = ap (committed_by x) ready.1 in
            let above : x.rv < x.wv = rises w a ready.0 (linked_there w s.events s.reached) ready.1 in
            same_so_far _ _ actions (happens w (Step a)).0 (taken so_far actions w a action (Some r) is)
            (commits_on so_far actions w a r s is f.1 (writer_behind a x.rv r w.records above f.0))
        | inr (inl closing) ↦
            let f : FollowsAt N p x.calls Closing = subst (FollowsAt N p x.calls) closing (s.seats a) in
            let r : Record Entry = record { number = x.rv; writes = false; calls = x.calls } in
            let is : committed_by x x.stage ≡ Some r = ap (committed_by x) closing in
            same_so_far _ _ actions (happens w (Step a)).0 (taken so_far actions w a action (Some r) is)
            (commits_on so_far actions w a r s is f.1 (reader_behind a x.rv r w.records refl refl f.0))
        | inr (inr none) ↦
            let is : committed_by x x.stage ≡ None = none x in
            same_so_far _ _ actions (happens w (Step a)).0 (λ c. none_taken so_far a c ∙ taken so_far actions w a action None is c)
            (quietly so_far actions actions w (Step a) s ((stepped_turns w a).records ∙ ap (λ o. with_record a o w.records) is) s.allowed
            (λ b isnt. refl)
            (steps_follow (OwnUpTo a w.records) p w a (s.seats a)
            (λ rv at e. own_up_to a rv w.records (above_there w s.events s.reached a rv at e))))
      ]

  -- a request that begins, at an idle seat, begins the session of its action
  begins_at : (so_far : ℕ → List Action) (actions : Actions) (w : World Entry) (a : ℕ) (q : Request Entry) (action : Action)
      (st : Stage Entry) → (w.seats a).stage ≡ st → Serves so_far actions w → IsAllowed action
      → ((p : Program Entry ActionReply) → IsFollowing (OwnUpTo a w.records) p (w.seats a)
      → IsFollowing (OwnUpTo a w.records) p ((happens w (Ask a q)).0.seats a))
      → Serves (λ c. so_far c ++ []) (at_idle st (put actions a action) actions) (happens w (Ask a q)).0
  begins_at so_far actions w a q action Idle at s may goes =
      let p = session (put actions a action a) in
      quietly so_far actions (put actions a action) w (Ask a q) s (asked_records w a q) (put_allowed actions a action s.allowed may)
      (λ b isnt. put-other actions a action b isnt) (goes p (idle_follows (OwnUpTo a w.records) p (w.seats a) at))
  begins_at so_far actions w a q action st at s may goes =
      quietly so_far actions actions w (Ask a q) s (asked_records w a q) s.allowed (λ b isnt. refl) (goes (session (actions a)) (s.seats a))

  asks_on : (so_far : ℕ → List Action) (actions : Actions) (w : World Entry) (a : ℕ) (q : Request Entry) → Serves so_far actions w
      → IsFollowing (OwnUpTo a w.records) (session (actions a)) ((happens w (Ask a q)).0.seats a)
      → Serves (λ c. so_far c ++ []) actions (happens w (Ask a q)).0
  asks_on so_far actions w a q s own =
      quietly so_far actions actions w (Ask a q) s (asked_records w a q) s.allowed (λ b isnt. refl) own

  pub serves_on : (so_far : ℕ → List Action) (actions : Actions) (w : World Entry) (t : Turn) → Serves so_far actions w
      → MayHappen actions w t → Serves (λ c. so_far c ++ committed_in c actions w t) (begun actions w t) (happens w t.0).0
  serves_on so_far actions w (Ask a request.Begin, action) s may =
      begins_at so_far actions w a request.Begin action (w.seats a).stage refl s may
      (λ p f. (requests_follow (OwnUpTo a w.records) p w a request.Begin f tt).0)
  serves_on so_far actions w (Ask a request.BeginRead, action) s may =
      begins_at so_far actions w a request.BeginRead action (w.seats a).stage refl s may
      (λ p f. (requests_follow (OwnUpTo a w.records) p w a request.BeginRead f tt).0)
  serves_on so_far actions w (Ask a (request.Call call), action) s may =
      asks_on so_far actions w a (request.Call call) s
      (requests_follow (OwnUpTo a w.records) (session (actions a)) w a (request.Call call) (s.seats a) may).0
  serves_on so_far actions w (Ask a request.Commit, action) s may =
      asks_on so_far actions w a request.Commit s
      (requests_follow (OwnUpTo a w.records) (session (actions a)) w a request.Commit (s.seats a) may).0
  serves_on so_far actions w (Ask a request.Abort, action) s may =
      asks_on so_far actions w a request.Abort s
      (requests_follow (OwnUpTo a w.records) (session (actions a)) w a request.Abort (s.seats a) tt).0
  serves_on so_far actions w (Step a, action) s may = steps_on so_far actions w a action s
  serves_on so_far actions w (Starve a, action) s may =
      quietly so_far actions actions w (Starve a) s (starved_records w a) s.allowed (λ b isnt. refl)
      (starves_follow (OwnUpTo a w.records) (session (actions a)) w a (s.seats a)).0

  serves_all : (so_far : ℕ → List Action) (actions : Actions) (w : World Entry) (ts : List Turn) → Serves so_far actions w
      → AskAsSessions actions w ts
      → Serves (λ c. so_far c ++ committed_of c actions w ts) (begun_all actions w ts) (run w (events_of ts))
  serves_all so_far actions w [] s may = same_so_far so_far _ actions w (λ c. sym (no_more so_far c)) s
  serves_all so_far actions w (t ∷ ts) s may =
      let later = begun actions w t in
      let u = (happens w t.0).0 in
      same_so_far _ _ (begun_all later u ts) (run u (events_of ts))
      (λ c. append_assoc (so_far c) (committed_in c actions w t) (committed_of c later u ts))
      (serves_all (λ c. so_far c ++ committed_in c actions w t) later u ts (serves_on so_far actions w t s may.0) may.1)

  pub opens_serving : (actions : Actions) → ((a : ℕ) → IsAllowed (actions a)) → Serves (λ c. []) actions start
  opens_serving actions allowed = record {
    events = [];
    reached = refl;
    allowed = allowed;
    seats = λ a. tt;
    deals = [];
    sessions = tt;
    own = λ c. refl;
  }

-- ---- the law

pub sessions_are_serial : SessionsAreSerial
sessions_are_serial blocks clock tables actions ts allowed balanced stripes suit may =
    let opening = state_of tables in
    let first = opened blocks clock opening.words opening.held in
    let w = run first (events_of ts) in
    let s : Serves blocks stripes clock opening.words opening.held suit (λ c. committed_of c actions first ts)
    (begun_all actions first ts) w =
    serves_all blocks stripes clock opening.words opening.held suit (λ c. []) actions first ts
    (opens_serving blocks stripes clock opening.words opening.held suit actions allowed) may in
    let serial : IsSerial opening w = serial_world blocks stripes clock opening.words opening.held suit (events_of ts) in
    let halves : AreHalfDone w (half w) = half_done w serial.ordered (all_own blocks clock opening.words opening.held (events_of ts)) in
    let none : half w ≡ [] → (a : ℕ) → is_half_done (w.seats a).stage ≡ false = λ e a. elim (cases_Bool (is_half_done (w.seats a).stage)) [
      | inl is ↦ absurd (not_in_none (half w) (w.seats a).wv e (halves.all a is))
      | inr isnt ↦ isnt
    ] in
    let acts : AreActions s.deals w.records tables = runs_are_actions s.deals w.records tables balanced s.sessions serial.run in
    record {
      deals = s.deals;
      sessions = s.sessions;
      ordered = serial.ordered;
      own = s.own;
      done = acts.done;
      left = λ e. shown_state blocks stripes clock opening.words opening.held suit (events_of ts) (none e) ∙ acts.left;
      balanced = acts.balanced;
      goes_on = λ a at gone.
          let x = w.seats a in
          let p = session (begun_all actions first ts a) in
          let N = OwnUpTo a w.records x.rv in
          let f : FollowsAt N p x.calls Open = subst (FollowsAt N p x.calls) at (s.seats a) in
          let saw : IsLegal x.calls (state_at x.rv w.records opening) = subst (SawAt opening w.records x) at (serial.open_saw a) in
          none_gives_up s.deals w.records tables x.rv (begun_all actions first ts a) x.calls balanced s.sessions serial.ordered serial.run
          (record { allowed = s.allowed a; follows = gives_up_at p f.1.0 x.calls f.1.1 gone; saw = saw });
    }
