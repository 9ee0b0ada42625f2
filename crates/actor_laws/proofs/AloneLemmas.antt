-- What an actor that is alone is refused. It has no conflict: until it first begins the world is the opening, at which nothing is held, and
-- from then on the law of a transaction beside which no other steps serves. A step that begins to abort a transaction notes a conflict, and
-- that would be answered in the end; so none is aborted. Then a step is refused only at the limit of the clock, which the commits have not
-- raised so far, or where a call finds no room, which the weights of the calls leave.
use Rattle.std.proofs.Common.{◌≡◌, inl, inr, ℕ, ◌+◌, ◌<◌, ◌≤◌, Bool, true, false, cond, not, ◌&&◌, ◌||◌, List, [], ◌∷◌, ◌++◌, length}
use Rattle.std.proofs.Common.{Some, refl, sym, ◌∙◌, ap, subst, true≢false, arith}
use Rattle.std.specs.Prelude.{nat_lt}
use Rattle.std.proofs.lemmas.Bool.{cases_Bool, cond_both}
use Rattle.std.proofs.lemmas.Bool.Decides.{nat_tests}
use Rattle.std.proofs.lemmas.Option.{same_Some}
use Rattle.tx_sets.specs.Entries.{lookup}
use Rattle.tx_machine.specs.Actor.{clock_limit}
use Rattle.tx_machine.specs.Notices as told
use Rattle.tx_machine.specs.World.{World as Words}
use Rattle.tx_machine.proofs.Sets.{put-same}
use Rattle.seq_model.specs.declared.call.Call.{Call}
use Rattle.seq_model.specs.declared.call.Op.{Op}
use Rattle.seq_model.specs.declared.call.Op.TheVariants.{Read, Write}
use Rattle.seq_model.specs.declared.event.Event.{Event}
use Rattle.seq_model.specs.declared.event.Event.TheVariants.{Ask, Step, Starve}
use Rattle.seq_model.specs.declared.event.Notice.{Notice}
use Rattle.seq_model.specs.declared.event.Notice.TheVariants.{Refused}
use Rattle.seq_model.specs.declared.event.Request.{Request}
use Rattle.seq_model.specs.declared.event.Request.TheVariants as request
use Rattle.seq_model.specs.declared.held.Held.{Held}
use Rattle.seq_model.specs.declared.limits.TheConstants.{CALL_LIMIT}
use Rattle.seq_model.specs.declared.refusal.Refusal.{Refusal}
use Rattle.seq_model.specs.declared.refusal.Refusal.TheVariants as refusal
use Rattle.seq_model.proofs.LogicLemmas.{lt-nat_lt}
use Rattle.tx_machine.specs.Boosted.{PutGate, changes, is_none}
use Rattle.replay_log.specs.Contents.{CollectionCall, CallWithOutcome, Block, HaveStripes, content}
use Rattle.replay_log.specs.Guards.{IsAtRest}
use Rattle.replay_log.specs.Pieces.{covers_at, piece_at}
use Rattle.replay_log.specs.WorldAlone.{IsAlone, IsConflict, TellsConflict}
use Rattle.replay_log.specs.WorldAnswers.{IsRefusal, IsRefusedAt, RefusedBy}
use Rattle.replay_log.specs.WorldProgress.{whose}
use Rattle.replay_log.specs.WorldRefusals.{IsCause, is_ending}
use Rattle.replay_log.specs.Worlds.{World, Seat, Stage, After, Idle, Beginning, Open, Copying, Leaving, acted, actor_of}
use Rattle.replay_log.specs.Worlds.{answers, ask_op, at_stage, calls_on, fits, happens, has_room, if_allowed, is_change, is_stale}
use Rattle.replay_log.specs.Worlds.{loads, may_ask, no_one, opened, outcome_at, outcome_now, reads, run, seated, sized_by, step_at}
use Rattle.replay_log.specs.Worlds.{with_editions, with_piece}
use Rattle.replay_log.proofs.AloneLemmas.{world_alone}
use Rattle.replay_log.proofs.AnswerLemmas.{NoRefusal, choose_no, loads_no, refused_step}
use Rattle.replay_log.proofs.AskLemmas.{asked_at, only_abort, under_way}
use Rattle.replay_log.proofs.EventLemmas.{opened_linked, run-append, run_linked}
use Rattle.replay_log.proofs.RefusalLemmas.{keeps_cause, world_causes}
use Rattle.replay_log.proofs.SeatLemmas.{Linked}
use Rattle.replay_log.proofs.SetLemmas.{put_words}
use Rattle.actor_laws.specs.Alone.{ArePlain, HasRoomFor, IsAnswered, IsNeverRefused, IsPlain, IsSmall, IsThere, commits_in, weight, weights}
use Rattle.actor_laws.proofs.BoundLemmas.{BoundAt, run_bound}
use Rattle.actor_laws.proofs.FewLemmas.{IsFew, Sized, SizedAt, fits_one, has_room_for, run_sized}

pub or_true : (a b c : Bool) → c ≡ true → (a || (b || c)) ≡ true
or_true a b c e = ap (λ (d : Bool). a || (b || d)) e ∙ by a b
  where
    by : (a b : Bool) → (a || (b || true)) ≡ true
    by true b = refl
    by false true = refl
    by false false = refl

abbrev AnyWeight : ℕ → Type 0
AnyWeight n = Unit {0}

module _ {V : Type 0} where
  -- ---- notices
  true_no : (b : Bool) (r s : After V) → b ≡ true → NoRefusal r → NoRefusal (cond b r s)
  true_no b r s e h = subst (λ (c : Bool). NoRefusal (cond c r s)) (sym e) h

  -- ---- calls
  -- the outcome that is sized is one of the call
  sized_room : (u : World V) (a n : ℕ) (asked : CollectionCall V) → IsFew n (actor_of u a) → IsSmall asked.op → n + weight asked.op ≤ 4096
      → let c = content u.words u.blocks in
      let sized = sized_by u a asked (outcome_at u a asked) in
      has_room (actor_of u a) (c.reads sized) (c.writes sized) ≡ true
  sized_room u a n asked h small few =
      let c = content u.words u.blocks in
      let z = u.boosted.shadows a in
      cond_both (is_stale (actor_of u a).reads (with_editions u.boosted.editions (c.reads (outcome_at u a asked)))) (outcome_now u asked)
      (outcome_at u a asked) (λ (o : CallWithOutcome V). has_room (actor_of u a) (c.reads o) (c.writes o) ≡ true)
      (λ _. has_room_for AnyWeight a u n u.boosted.parts asked h small few)
      (λ _. has_room_for AnyWeight a u n (changes c z.outcomes z.parts) asked h small few)

  answers_no : (u : World V) (a : ℕ) (before x : Seat V) (sized o : CallWithOutcome V) (editions : ℕ → ℕ)
      → (let c = content u.words u.blocks in has_room (actor_of u a) (c.reads sized) (c.writes sized) ≡ true)
      → NoRefusal (answers u a before x sized o editions)
  answers_no u a before x sized o editions room =
      let c = content u.words u.blocks in
      true_no (has_room (actor_of u a) (c.reads sized) (c.writes sized)) (loads u a x o (with_editions editions (c.reads o)))
      (seated u a (at_stage before Open), Refused a refusal.TooLong) room
      (loads_no (with_editions editions (c.reads o)) u a x o)

  pub copying_no : (w : World V) (a : ℕ) (x : Seat V) (asked : CollectionCall V) → IsFew (weights x.calls) (actor_of w a) → IsSmall asked.op
      → weights x.calls + weight asked.op ≤ 4096 → NoRefusal (step_at w a x (Copying asked))
  copying_no w a x asked h small few =
      let which = covers_at w.words w.blocks asked in
      let t = acted w (PutGate a asked.collection which ∷ []) in
      let same = put_words (content w.words w.blocks) w.boosted a asked.collection which in
      let now : IsFew (weights x.calls) (actor_of t a) = subst (λ (s : Words). IsFew (weights x.calls) (s.actors a)) (sym same) h in
      answers_no t a x (with_piece x asked.collection (piece_at w.blocks asked)) (sized_by t a asked (outcome_at t a asked))
      (outcome_at t a asked) t.boosted.editions (sized_room t a (weights x.calls) asked now small few)

  pub calls_on_no : (w : World V) (a : ℕ) (x : Seat V) (asked : CollectionCall V) → IsFew (weights x.calls) (actor_of w a)
      → IsSmall asked.op
      → weights x.calls + weight asked.op ≤ 4096 → NoRefusal (calls_on w a x asked)
  calls_on_no w a x asked h small few =
      let c = content w.words w.blocks in
      let z = w.boosted.shadows a in
      let o = outcome_at w a asked in
      choose_no (x.copied asked.collection (piece_at w.blocks asked)) (answers w a x x o o z.editions) _
      (answers_no w a x x o o z.editions (has_room_for AnyWeight a w (weights x.calls) (changes c z.outcomes z.parts) asked h small few))
      (λ q. q)

  pub allowed_no : (w : World V) (a : ℕ) (x : Seat V) (known room : Bool) (next : After V) → known ≡ true → length x.calls < CALL_LIMIT
      → room ≡ true → NoRefusal next → NoRefusal (if_allowed w a x known room next)
  allowed_no w a x known room next is short fits h =
      true_no known _ (w, Refused a refusal.NoSuch) is
      (true_no (nat_lt (length x.calls) CALL_LIMIT && room) next (w, Refused a refusal.TooLong)
      (ap (λ (b : Bool). b && room) (lt-nat_lt (length x.calls) CALL_LIMIT short) ∙ fits) h)

  pub reads_no : (w : World V) (a : ℕ) (x : Seat V) (l : ℕ) (n : told.Notice) → NoRefusal (reads w a x l n)
  reads_no w a x l (told.Number v) = λ q. q
  reads_no w a x l n = λ q. q

  -- what is no declared reader may ask for a change
  may : (w : World V) (a : ℕ) (op : Op V) → (actor_of w a).declared ≡ false → may_ask (actor_of w a) op ≡ true
  may w a op d = ap (λ (b : Bool). not (b && is_change op)) d

  known_may : (w : World V) (a : ℕ) (op : Op V) (known : Bool) → (actor_of w a).declared ≡ false → known ≡ true
      → (known && may_ask (actor_of w a) op) ≡ true
  known_may w a op known d is = ap (λ (b : Bool). b && may_ask (actor_of w a) op) is ∙ may w a op d

  held_no : (w : World V) (a : ℕ) (x : Seat V) (asked : CollectionCall V) (known : Bool) → (actor_of w a).declared ≡ false
      → IsFew (weights x.calls) (actor_of w a) → IsSmall asked.op → known ≡ true → length x.calls < CALL_LIMIT
      → weights x.calls + weight asked.op ≤ 4096
      → NoRefusal (if_allowed w a x (known && may_ask (actor_of w a) asked.op) true (calls_on w a x asked))
  held_no w a x asked known d h small there short few =
      allowed_no w a x (known && may_ask (actor_of w a) asked.op) true (calls_on w a x asked)
      (known_may w a asked.op known d there) short refl (calls_on_no w a x asked h small few)

  op_no : (w : World V) (a : ℕ) (x : Seat V) (t : ℕ) (op : Op V) → (actor_of w a).declared ≡ false → IsFew (weights x.calls) (actor_of w a)
      → IsSmall op → IsThere w t op → length x.calls < CALL_LIMIT → weights x.calls + weight op ≤ 4096 → NoRefusal (ask_op w a x t op)
  op_no w a x t Read d h small there short few =
      let y = actor_of w a in
      allowed_no w a x (nat_lt t w.words) (y.declared || (not (is_none (lookup y.writes t)) || fits y.reads (t ∷ []))) _
      (lt-nat_lt t w.words there) short
      (or_true y.declared (not (is_none (lookup y.writes t))) (fits y.reads (t ∷ [])) (fits_one y.reads (weights x.calls) t h.reads few))
      (reads_no w a x t _)
  op_no w a x t (Write v) d h small there short few =
      let y = actor_of w a in
      allowed_no w a x (nat_lt t w.words && not y.declared) (fits y.writes (t ∷ [])) _
      (ap (λ (b : Bool). b && not y.declared) (lt-nat_lt t w.words there) ∙ ap not d) short
      (fits_one y.writes (weights x.calls) t h.writes few) (λ q. q)
  op_no w a x t op d h small there short few = held_no w a x (record { collection = t; op = op }) _ d h small there short few

  -- ---- what a refused step says
  pub by_notice : (a : ℕ) (P : Refusal → Type 0) (n : Notice V) → RefusedBy a P n → IsRefusal n
      → (c : Refusal) × (P c) × (n ≡ Refused a c)
  by_notice a P (Refused b c) h is = (c, h.1, ap (λ i. Refused i c) h.0)
  by_notice a P n h is = absurd is

  pub ending_goes : (st : Stage V) → is_ending st ≡ true → IsAtRest st → ⊥
  ending_goes Idle e h = true≢false (sym e)
  ending_goes Open e h = true≢false (sym e)
  ending_goes st e h = h

  conflict_of : (w : World V) (a : ℕ) (st : Stage V) (u : World V) (c : Refusal) → IsCause w a st u c → IsConflict c
  conflict_of w a st u (refusal.Moved l word) h = tt
  conflict_of w a st u (refusal.Busy l word) h = tt
  conflict_of w a st u (refusal.Invalid l word) h = tt
  conflict_of w a st u (refusal.Stale l base word) h = tt
  conflict_of w a st u (refusal.GateBusy k) h = tt
  conflict_of w a st u c h = absurd h

  plain_alone : (a : ℕ) (es : List (Event V)) → ArePlain a es → IsAlone a es
  plain_alone a [] m = tt
  plain_alone a (Ask b q ∷ es) m = plain_alone a es m.1
  plain_alone a (Step b ∷ es) m = (m.0, plain_alone a es m.1)
  plain_alone a (Starve b ∷ es) m = absurd m.0

  pub own : (a : ℕ) (e : Event V) → IsPlain a e → whose e ≡ a
  own a (Ask b request.Begin) m = m
  own a (Ask b (request.Call call)) m = m.0
  own a (Ask b request.Commit) m = m
  own a (Step b) m = m
  own a e m = absurd m

  module _ (blocks : List Block) (clock : ℕ) (values : List ℕ) (held : List (Held V)) (stripes : HaveStripes blocks) (a : ℕ) where
    abbrev o : World V
    o = opened blocks clock values held

    linked : (events : List (Event V)) → Linked (run o events)
    linked events = run_linked events o (opened_linked blocks clock values held stripes)

    -- ---- no conflict
    idle_no : (e : Event V) → TellsConflict (happens o e).1 → ⊥
    idle_no (Ask b request.Begin) h = h
    idle_no (Ask b request.BeginRead) h = h
    idle_no (Ask b (request.Call call)) h = h
    idle_no (Ask b request.Commit) h = h
    idle_no (Ask b request.Abort) h = h
    idle_no (Step b) h = h
    idle_no (Starve b) h = h

    begun_no : (later : List (Event V)) → IsAlone a later → (e : Event V) → whose e ≡ a
        → TellsConflict (happens (run (happens o (Ask a request.Begin)).0 later) e).1 → ⊥
    begun_no later only e m h =
        let u = (happens o (Ask a request.Begin)).0 in
        world_alone blocks clock values held (Ask a request.Begin ∷ []) later a stripes
        (ap (λ (x : Seat V). x.stage) (put-same o.seats a (at_stage no_one Beginning)))
        (record { locks = λ l. tt; gates = λ k. refl }) only e m h

    pub no_conflict : (events : List (Event V)) → ArePlain a events → (e : Event V) → whose e ≡ a
        → TellsConflict (happens (run o events) e).1 → ⊥
    no_conflict [] plain e m h = idle_no e h
    no_conflict (Ask b request.Begin ∷ es) plain e m h =
        begun_no es (plain_alone a es plain.1) e m
        (subst (λ i. TellsConflict (happens (run (happens o (Ask i request.Begin)).0 es) e).1) plain.0 h)
    no_conflict (Ask b (request.Call call) ∷ es) plain e m h = no_conflict es plain.1 e m h
    no_conflict (Ask b request.Commit ∷ es) plain e m h = no_conflict es plain.1 e m h
    no_conflict (Step b ∷ es) plain e m h = no_conflict es plain.1 e m h
    no_conflict (f ∷ es) plain e m h = absurd plain.0

    -- ---- a transaction that is being aborted has a conflict
    abbrev EndsByConflict : World V → Type 0
    EndsByConflict w = is_ending (w.seats a).stage ≡ true → (c : Refusal) × ((w.seats a).cause ≡ Some c) × IsConflict c

    ask_ends : (events : List (Event V)) (q : Request V) → (q ≡ request.Abort → ⊥) → EndsByConflict (run o events)
        → EndsByConflict (happens (run o events) (Ask a q)).0
    ask_ends events q goes h e =
        let w = run o events in
        elim (cases_Bool (is_ending (w.seats a).stage)) [
          | inl was ↦
              subst (λ (u : World V). (c : Refusal) × ((u.seats a).cause ≡ Some c) × IsConflict c)
              (sym (ap (λ (r : After V). r.0) (under_way w a q (ending_goes (w.seats a).stage was)))) (h was)
          | inr wasnt ↦ absurd (goes (only_abort w a q (linked events) wasnt e))
        ]

    step_ends : (events : List (Event V)) → EndsByConflict (run o events) → EndsByConflict (happens (run o events) (Step a)).0
    step_ends events h e =
        let w = run o events in
        let u = (happens w (Step a)).0 in
        elim (cases_Bool (is_ending (w.seats a).stage)) [
          | inl was ↦ (let old = h was in (old.0, keeps_cause w a was e ∙ old.1, old.2))
          | inr wasnt ↦ (
              let new = world_causes blocks clock values held events a stripes wasnt e in
              (new.0, new.1, conflict_of w a (w.seats a).stage u new.0 new.2)
              )
        ]

    no_begin : ◌≡◌ {A = Request V} request.Begin request.Abort → ⊥
    no_begin e = cc

    no_call : (call : Call V) → request.Call call ≡ request.Abort → ⊥
    no_call call e = cc

    no_commit : ◌≡◌ {A = Request V} request.Commit request.Abort → ⊥
    no_commit e = cc

    one_ends : (events : List (Event V)) (e : Event V) → IsPlain a e → EndsByConflict (run o events)
        → EndsByConflict (happens (run o events) e).0
    one_ends events (Ask b request.Begin) m h =
        subst (λ i. EndsByConflict (happens (run o events) (Ask i request.Begin)).0) (sym m) (ask_ends events request.Begin no_begin h)
    one_ends events (Ask b (request.Call call)) m h =
        subst (λ i. EndsByConflict (happens (run o events) (Ask i (request.Call call))).0) (sym m.0)
        (ask_ends events (request.Call call) (no_call call) h)
    one_ends events (Ask b request.Commit) m h =
        subst (λ i. EndsByConflict (happens (run o events) (Ask i request.Commit)).0) (sym m) (ask_ends events request.Commit no_commit h)
    one_ends events (Step b) m h = subst (λ i. EndsByConflict (happens (run o events) (Step i)).0) (sym m) (step_ends events h)
    one_ends events e m h = absurd m

    ends_by : (later events : List (Event V)) → ArePlain a later → EndsByConflict (run o events)
        → EndsByConflict (run (run o events) later)
    ends_by [] events m h = h
    ends_by (e ∷ later) events m h =
        let same : run o (events ++ e ∷ []) ≡ (happens (run o events) e).0 = run-append events (e ∷ []) o in
        subst (λ (w : World V). EndsByConflict (run w later)) same
        (ends_by later (events ++ e ∷ []) m.1 (subst EndsByConflict (sym same) (one_ends events e m.0 h)))

    pub ends_by_conflict : (events : List (Event V)) → ArePlain a events → EndsByConflict (run o events)
    ends_by_conflict events m = ends_by events [] m (λ e. absurd (true≢false (sym e)))

    -- ---- steps
    module _ (events : List (Event V)) (plain : ArePlain a events) where
      abbrev w : World V
      w = run o events

      bound : BoundAt (clock + commits_in events) a w
      bound = run_bound a events clock o plain (record { undeclared = refl; clock = omega arith })

      sized : SizedAt AnyWeight a w
      sized = run_sized AnyWeight a events o (λ n. tt) plain (opened_linked blocks clock values held stripes) tt

      refused_at : (st : Stage V) (u : World V) (c : Refusal) → clock + commits_in events < clock_limit → (IsAtRest st → ⊥)
          → HasRoomFor (w.seats a) st → Sized AnyWeight (w.seats a) st (actor_of w a) → (w.seats a).stage ≡ st
          → IsRefusedAt w a st u c → (happens w (Step a)).1 ≡ Refused a c → ⊥
      refused_at Idle u c small due room h at is n = due tt
      refused_at Open u c small due room h at is n = due tt
      refused_at Beginning u c small due room h at is n =
          let held = bound.clock in
          let limit = is.1 in
          omega (arith, held, limit, small)
      refused_at (Copying asked) u c small due room h at is n =
          let none : NoRefusal (happens w (Step a)) = subst (λ (st : Stage V). NoRefusal (step_at w a (w.seats a) st)) (sym at)
          (copying_no w a (w.seats a) asked h.0 h.1 room) in
          none (subst IsRefusal (sym n) tt)
      refused_at Leaving u c small due room h at is n =
          let ends = ends_by_conflict events plain (ap is_ending at) in
          let same : ends.0 ≡ c = same_Some ends.0 c (sym ends.1 ∙ is.0) in
          no_conflict events plain (Step a) refl (subst TellsConflict (sym n) (subst IsConflict same ends.2))
      refused_at st u c small due room h at is n = is

      steps : clock + commits_in events < clock_limit → (IsAtRest (w.seats a).stage → ⊥) → HasRoomFor (w.seats a) (w.seats a).stage
          → IsRefusal (happens w (Step a)).1 → ⊥
      steps small due room refused =
          let st = (w.seats a).stage in
          let u = (happens w (Step a)).0 in
          let why = by_notice a (IsRefusedAt w a st u) (happens w (Step a)).1 (refused_step w a (linked events)) refused in
          refused_at st u why.0 small due room sized refl why.1 why.2

      calls : (call : Call V) → (w.seats a).stage ≡ Open → IsSmall call.op → IsThere w call.target call.op
          → length (w.seats a).calls < CALL_LIMIT → weights (w.seats a).calls + weight call.op ≤ 4096
          → IsRefusal (happens w (Ask a (request.Call call))).1 → ⊥
      calls call at small there short few =
          let x = w.seats a in
          let h : IsFew (weights x.calls) (actor_of w a) = subst (λ (st : Stage V). Sized AnyWeight x st (actor_of w a)) at sized in
          subst NoRefusal (sym (asked_at w a (request.Call call) Open at))
          (op_no w a x call.target call.op bound.undeclared h small there short few)

      pub answered : IsAnswered clock events w a
      answered = record {
        undeclared = bound.undeclared;
        clock = (let held = bound.clock in omega (arith, held));
        steps = steps;
        calls = calls;
      }

  pub never_refused : IsNeverRefused V
  never_refused blocks clock values held events a stripes plain = answered blocks clock values held stripes a events plain
