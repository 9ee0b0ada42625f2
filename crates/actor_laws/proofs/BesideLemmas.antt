-- An actor beside others. Its sets have no more locations than the weights of its calls, whatever the others do: their events leave its
-- seat and its record, and its own are those that `FewLemmas` goes through, with what an actor that is alone does not do. So a call that
-- fits by its weights finds room, as it is asked and once it is copied for. What else is answered is no call's fault: the causes that are
-- found are conflicts, and that of a failed allocation is OutOfMemory.
use Rattle.std.proofs.Common.{arith}
use Rattle.std.proofs.Common.{◌≡◌, inl, inr, ℕ, ◌+◌, ◌<◌, ◌≤◌, true, false, cond, not, ◌&&◌, ◌||◌, List, [], ◌∷◌, ◌++◌, length}
use Rattle.std.proofs.Common.{Option, Some, None, refl, sym, ◌∙◌, ap, subst, true≢false}
use Rattle.std.specs.Prelude.{nat_lt}
use Rattle.std.proofs.lemmas.Bool.{cases_Bool, cases_eq}
use Rattle.std.proofs.lemmas.Option.{same_Some, none-some}
use Rattle.tx_sets.specs.Entries.{Entries, lookup}
use Rattle.tx_machine.specs.Actor.{Actor}
use Rattle.tx_machine.specs.Requests as word
use Rattle.tx_machine.proofs.Sets.{put-same}
use Rattle.seq_model.specs.declared.call.Op.{Op}
use Rattle.seq_model.specs.declared.call.Op.TheVariants.{Read, Write}
use Rattle.seq_model.specs.declared.event.Event.{Event}
use Rattle.seq_model.specs.declared.event.Event.TheVariants.{Ask, Step, Starve}
use Rattle.seq_model.specs.declared.event.Notice.{Notice}
use Rattle.seq_model.specs.declared.event.Notice.TheVariants.{Refused}
use Rattle.seq_model.specs.declared.event.Request.{Request}
use Rattle.seq_model.specs.declared.event.Request.TheVariants as request
use Rattle.seq_model.specs.declared.held.Held.{Held}
use Rattle.seq_model.specs.declared.limits.TheConstants.{CALL_LIMIT}
use Rattle.seq_model.specs.declared.refusal.Refusal.{Refusal}
use Rattle.seq_model.specs.declared.refusal.Refusal.TheVariants as refusal
use Rattle.tx_machine.specs.Boosted.{is_none}
use Rattle.replay_log.specs.Contents.{Block, HaveStripes}
use Rattle.replay_log.specs.WorldAnswers.{IsRefusal, IsRefusedAt, IsStarved, is_there}
use Rattle.replay_log.specs.WorldProgress.{whose}
use Rattle.replay_log.specs.WorldRefusals.{IsCause, is_ending}
use Rattle.replay_log.specs.Worlds.{World, Seat, Stage, After, Idle, Beginning, Open, Locking, Releasing, Closing, Cancelling, Leaving}
use Rattle.replay_log.specs.Worlds.{Reading}
use Rattle.replay_log.specs.Worlds.{Trying, Copying, Loading, Gating, Ready, Storing, Homing, Returning, acted, actor_of, asks, at_stage}
use Rattle.replay_log.specs.Worlds.{because}
use Rattle.replay_log.specs.Worlds.{ask_at, ask_op, calls_on, cancels, commits, fits, happens, is_leaving, no_one, opened, run}
use Rattle.replay_log.specs.Worlds.{starve_at, step_at}
use Rattle.replay_log.proofs.AnswerLemmas.{NoRefusal, refused_step, starved_end, starves}
use Rattle.replay_log.proofs.AskLemmas.{only_abort, under_way}
use Rattle.replay_log.proofs.EventLemmas.{happens_linked, opened_linked, run-append, run_linked}
use Rattle.replay_log.proofs.RefusalLemmas.{keeps_cause, world_causes}
use Rattle.replay_log.proofs.RequestLemmas.{happens_by}
use Rattle.replay_log.proofs.SeatLemmas.{Linked}
use Rattle.actor_laws.specs.Alone.{IsSmall, weight, weights}
use Rattle.actor_laws.specs.Beside.{AreFitting, BeginsNoReader, IsFitting, IsNoReader, RefusesAsMistaken}
use Rattle.actor_laws.specs.KnownStages.{IsMistaken}
use Rattle.actor_laws.proofs.BoundLemmas.{BoundAt, begins_bound, bound_more, calls_bound, cancels_on, commits_bound, due}
use Rattle.actor_laws.proofs.BoundLemmas.{op_on, starve_on, step_on}
use Rattle.seq_model.specs.declared.call.Call.{Call}
use Rattle.actor_laws.proofs.AloneLemmas.{allowed_no, by_notice, calls_on_no, copying_no, ending_goes, or_true, reads_no}
use Rattle.actor_laws.proofs.FewLemmas.{IsFew, Sized, SizedAt, SizedIn, begin_sized, call_sized, cancels_sized, commit_sized, fits_one}
use Rattle.actor_laws.proofs.FewLemmas.{gives_up_sized, sits, step_sized}

-- the weights of all calls are within the limit of a set
abbrev HasRoom : ℕ → Type 0
HasRoom n = n ≤ 4096

memory_well : (o : Option Refusal) → o ≡ Some refusal.Memory → (c : Refusal) → o ≡ Some c → IsMistaken c → ⊥
memory_well o e c is m = subst IsMistaken (same_Some c refusal.Memory (sym is ∙ e)) m

module _ {V : Type 0} where
  -- ---- the sets
  module _ (a : ℕ) where
    begin_read_sized : (w : World V) (x : Seat V) (st : Stage V) → SizedAt HasRoom a w
        → SizedIn HasRoom a (ask_at w a x st request.BeginRead)
    begin_read_sized w x Idle h = sits HasRoom a (acted w (asks a word.AskBeginRead ∷ [])) (at_stage x Beginning) tt
    begin_read_sized w x Open h = h
    begin_read_sized w x st h = h

    abort_sized : (w : World V) (x : Seat V) (st : Stage V) → SizedAt HasRoom a w → SizedIn HasRoom a (ask_at w a x st request.Abort)
    abort_sized w x Idle h = h
    abort_sized w x Open h = cancels_sized HasRoom a w (record x { cause = None })
    abort_sized w x st h = h

    starve_sized : (w : World V) (x : Seat V) (st : Stage V) → SizedAt HasRoom a w → SizedIn HasRoom a (starve_at w a x st)
    starve_sized w x Idle h = h
    starve_sized w x Open h = h
    starve_sized w x Beginning h = sits HasRoom a (acted w (asks a word.AskAbort ∷ [])) no_one tt
    starve_sized w x (Reading l) h = gives_up_sized HasRoom a w (because x refusal.Memory) []
    starve_sized w x (Trying asked tries) h = gives_up_sized HasRoom a w (because x refusal.Memory) []
    starve_sized w x (Copying asked) h = gives_up_sized HasRoom a w (because x refusal.Memory) (asked.collection ∷ [])
    starve_sized w x (Loading o es) h = gives_up_sized HasRoom a w (because x refusal.Memory) []
    starve_sized w x Locking h = gives_up_sized HasRoom a w (because x refusal.Memory) []
    starve_sized w x (Gating got ks tries) h = gives_up_sized HasRoom a w (because x refusal.Memory) got
    starve_sized w x (Ready ks) h = gives_up_sized HasRoom a w (because x refusal.Memory) ks
    starve_sized w x Closing h = gives_up_sized HasRoom a w (because x refusal.Memory) []
    starve_sized w x st h = h

    ask_sized : (w : World V) (q : Request V) → IsFitting w a (Ask a q) → SizedAt HasRoom a w → SizedIn HasRoom a (happens w (Ask a q))
    ask_sized w request.Begin fit h = begin_sized HasRoom a w (w.seats a) (w.seats a).stage h
    ask_sized w request.BeginRead fit h = begin_read_sized w (w.seats a) (w.seats a).stage h
    ask_sized w (request.Call call) fit h =
        call_sized HasRoom a w (w.seats a) (w.seats a).stage call (λ at. (let f = fit refl at in (f.small, f.room))) h h
    ask_sized w request.Commit fit h = commit_sized HasRoom a w (w.seats a) (w.seats a).stage h
    ask_sized w request.Abort fit h = abort_sized w (w.seats a) (w.seats a).stage h

    own_sized : (w : World V) (e : Event V) → whose e ≡ a → IsFitting w a e → Linked w → SizedAt HasRoom a w
        → SizedIn HasRoom a (happens w e)
    own_sized w (Ask b q) m fit k h =
        subst (λ i. SizedIn HasRoom a (happens w (Ask i q))) (sym m) (ask_sized w q (subst (λ i. IsFitting w a (Ask i q)) m fit) h)
    own_sized w (Step b) m fit k h =
        subst (λ i. SizedIn HasRoom a (happens w (Step i))) (sym m)
        (step_sized HasRoom a w (w.seats a) (w.seats a).stage refl refl h (k.seats a).stage)
    own_sized w (Starve b) m fit k h =
        subst (λ i. SizedIn HasRoom a (happens w (Starve i))) (sym m) (starve_sized w (w.seats a) (w.seats a).stage h)

    one_sized : (w : World V) (e : Event V) → IsFitting w a e → Linked w → SizedAt HasRoom a w → SizedIn HasRoom a (happens w e)
    one_sized w e fit k h =
        elim (cases_eq a (whose e)) [
          | inl same ↦ own_sized w e (sym same) fit k h
          | inr ne ↦ (
              let r = happens_by w e in
              subst (λ (x : Seat V). Sized HasRoom x x.stage (actor_of (happens w e).0 a)) (sym (r.seats a ne))
              (subst (λ (y : Actor). Sized HasRoom (w.seats a) (w.seats a).stage y) (sym (r.actors a ne)) h))
        ]

    all_sized : (es : List (Event V)) (w : World V) → AreFitting w a es → Linked w → SizedAt HasRoom a w → SizedAt HasRoom a (run w es)
    all_sized [] w m k h = h
    all_sized (e ∷ es) w m k h = all_sized es (happens w e).0 m.1 (happens_linked w e k) (one_sized w e m.0 k h)

  -- ---- a call as it is asked
  op_fits : (w : World V) (a : ℕ) (x : Seat V) (t : ℕ) (op : Op V) → IsFew (weights x.calls) (actor_of w a) → IsSmall op
      → is_there w a t op ≡ true → length x.calls < CALL_LIMIT → weights x.calls + weight op ≤ 4096 → NoRefusal (ask_op w a x t op)
  op_fits w a x t Read h small there short few =
      let y = actor_of w a in
      allowed_no w a x (nat_lt t w.words) (y.declared || (not (is_none (lookup y.writes t)) || fits y.reads (t ∷ []))) _ there short
      (or_true y.declared (not (is_none (lookup y.writes t))) (fits y.reads (t ∷ [])) (fits_one y.reads (weights x.calls) t h.reads few))
      (reads_no w a x t _)
  op_fits w a x t (Write v) h small there short few =
      let y = actor_of w a in
      allowed_no w a x (nat_lt t w.words && not y.declared) (fits y.writes (t ∷ [])) _ there short
      (fits_one y.writes (weights x.calls) t h.writes few) (λ q. q)
  op_fits w a x t op h small there short few =
      allowed_no w a x _ true (calls_on w a x (record { collection = t; op = op })) there short refl
      (calls_on_no w a x (record { collection = t; op = op }) h small few)

  mistaken_refused : (n : Notice V) → RefusesAsMistaken n → IsRefusal n
  mistaken_refused (Refused b c) h = tt
  mistaken_refused n h = absurd h

  commits_tell : (w : World V) (a : ℕ) (x : Seat V) (es : Entries) → RefusesAsMistaken (commits w a x es).1 → ⊥
  commits_tell w a x [] h = h
  commits_tell w a x (e ∷ es) h = h

  ask_tells : (w : World V) (a : ℕ) (st : Stage V) (q : Request V) → (w.seats a).stage ≡ st → IsFitting w a (Ask a q)
      → Sized HasRoom (w.seats a) st (actor_of w a) → RefusesAsMistaken (ask_at w a (w.seats a) st q).1 → ⊥
  ask_tells w a Idle request.Begin at fit h t = t
  ask_tells w a Idle request.BeginRead at fit h t = t
  ask_tells w a Idle q at fit h t = t
  ask_tells w a Open request.Begin at fit h t = t
  ask_tells w a Open request.BeginRead at fit h t = t
  ask_tells w a Open (request.Call call) at fit h t =
      let f = fit refl at in
      op_fits w a (w.seats a) call.target call.op h f.small f.there f.short f.room (mistaken_refused _ t)
  ask_tells w a Open request.Commit at fit h t = commits_tell w a (w.seats a) (actor_of w a).writes t
  ask_tells w a Open request.Abort at fit h t = t
  ask_tells w a st q at fit h t = t

  -- ---- a failed allocation
  starved_tells : (w : World V) (a : ℕ) (st : Stage V) (r : After V) → IsStarved w a st r → RefusesAsMistaken r.1 → ⊥
  starved_tells w a Idle r h t = subst (λ (s : After V). RefusesAsMistaken s.1) h t
  starved_tells w a Open r h t = subst (λ (s : After V). RefusesAsMistaken s.1) h t
  starved_tells w a Beginning r h t = subst RefusesAsMistaken h.1 t
  starved_tells w a (Storing ks) r h t = subst (λ (s : After V). RefusesAsMistaken s.1) h t
  starved_tells w a (Homing ks) r h t = subst (λ (s : After V). RefusesAsMistaken s.1) h t
  starved_tells w a Releasing r h t = subst (λ (s : After V). RefusesAsMistaken s.1) h t
  starved_tells w a (Returning ks) r h t = subst (λ (s : After V). RefusesAsMistaken s.1) h t
  starved_tells w a Cancelling r h t = subst (λ (s : After V). RefusesAsMistaken s.1) h t
  starved_tells w a Leaving r h t = subst (λ (s : After V). RefusesAsMistaken s.1) h t
  starved_tells w a st r h t = subst RefusesAsMistaken h.2 t

  -- ---- a cause that is noted is no mistake
  abbrev EndsWell : ℕ → World V → Type 0
  EndsWell a w = is_ending (w.seats a).stage ≡ true → (c : Refusal) → (w.seats a).cause ≡ Some c → IsMistaken c → ⊥

  found_well : (w : World V) (a : ℕ) (st : Stage V) (u : World V) (c : Refusal) → IsCause w a st u c → IsMistaken c → ⊥
  found_well w a st u refusal.NoSuch h m = h
  found_well w a st u refusal.TooLong h m = h
  found_well w a st u c h m = m

  abort_cause : (w : World V) (a : ℕ) (x : Seat V) → ((cancels w a (record x { cause = None })).seats a).cause ≡ None
  abort_cause w a x =
      let v = acted w (asks a word.AskCancel ∷ asks a word.AskAbort ∷ []) in
      ap (λ (q : Seat V). q.cause) (put-same v.seats a (at_stage (record x { cause = None })
      (cond (is_leaving (actor_of v a).place) Leaving Cancelling)))

  -- what leaves the seat as it was begins no end
  no_end : (w : World V) (a : ℕ) (st : Stage V) → (w.seats a).stage ≡ st → is_ending st ≡ false → is_ending (w.seats a).stage ≡ true → ⊥
  no_end w a st at was e = true≢false (sym e ∙ ap is_ending at ∙ was)

  abort_ends : (w : World V) (a : ℕ) (st : Stage V) → (w.seats a).stage ≡ st → is_ending st ≡ false
      → EndsWell a (ask_at w a (w.seats a) st request.Abort).0
  abort_ends w a Idle at was e c is m = no_end w a Idle at was e
  abort_ends w a Open at was e c is m = none-some c (sym (abort_cause w a (w.seats a)) ∙ is)
  abort_ends w a st at was e c is m = no_end w a st at was e

  ask_ends : (w : World V) (a : ℕ) (q : Request V) → Linked w → EndsWell a w → EndsWell a (happens w (Ask a q)).0
  ask_ends w a q k h =
      elim (cases_Bool (is_ending (w.seats a).stage)) [
        | inl was ↦
            subst (λ (r : After V). EndsWell a r.0) (sym (under_way w a q (ending_goes (w.seats a).stage was))) h
        | inr wasnt ↦ λ e.
            subst (λ (p : Request V). EndsWell a (happens w (Ask a p)).0) (sym (only_abort w a q k wasnt e))
            (abort_ends w a (w.seats a).stage refl wasnt) e
      ]

  starve_ends_at : (w : World V) (a : ℕ) (st : Stage V) (r : After V) → (w.seats a).stage ≡ st → is_ending st ≡ false
      → IsStarved w a st r → EndsWell a r.0
  starve_ends_at w a Idle r at was h e c is m = no_end w a Idle at was (subst (λ (s : After V). is_ending (s.0.seats a).stage ≡ true) h e)
  starve_ends_at w a Open r at was h e c is m = no_end w a Open at was (subst (λ (s : After V). is_ending (s.0.seats a).stage ≡ true) h e)
  starve_ends_at w a Beginning r at was h e c is m = true≢false (sym e ∙ ap is_ending h.0)
  starve_ends_at w a (Storing ks) r at was h e c is m =
      no_end w a (Storing ks) at was (subst (λ (s : After V). is_ending (s.0.seats a).stage ≡ true) h e)
  starve_ends_at w a (Homing ks) r at was h e c is m =
      no_end w a (Homing ks) at was (subst (λ (s : After V). is_ending (s.0.seats a).stage ≡ true) h e)
  starve_ends_at w a Releasing r at was h e c is m =
      no_end w a Releasing at was (subst (λ (s : After V). is_ending (s.0.seats a).stage ≡ true) h e)
  starve_ends_at w a (Returning ks) r at was h e c is m = true≢false was
  starve_ends_at w a Cancelling r at was h e c is m = true≢false was
  starve_ends_at w a Leaving r at was h e c is m = true≢false was
  starve_ends_at w a st r at was h e c is m = memory_well (r.0.seats a).cause h.1 c is m

  starve_ends : (w : World V) (a : ℕ) → EndsWell a w → EndsWell a (happens w (Starve a)).0
  starve_ends w a h =
      elim (cases_Bool (is_ending (w.seats a).stage)) [
        | inl was ↦ subst (λ (r : After V). EndsWell a r.0) (sym (starved_end w a was)) h
        | inr wasnt ↦ starve_ends_at w a (w.seats a).stage (happens w (Starve a)) refl wasnt (starves w a)
      ]

  module _ (blocks : List Block) (clock : ℕ) (values : List ℕ) (held : List (Held V)) (stripes : HaveStripes blocks) (a : ℕ) where
    abbrev o : World V
    o = opened blocks clock values held

    linked : (events : List (Event V)) → Linked (run o events)
    linked events = run_linked events o (opened_linked blocks clock values held stripes)

    step_ends : (events : List (Event V)) → EndsWell a (run o events) → EndsWell a (happens (run o events) (Step a)).0
    step_ends events h e =
        let w = run o events in
        let u = (happens w (Step a)).0 in
        elim (cases_Bool (is_ending (w.seats a).stage)) [
          | inl was ↦ λ c is m. h was c (sym (keeps_cause w a was e) ∙ is) m
          | inr wasnt ↦ λ c is m. (
              let new = world_causes blocks clock values held events a stripes wasnt e in
              found_well w a (w.seats a).stage u new.0 new.2 (subst IsMistaken (same_Some c new.0 (sym is ∙ new.1)) m))
        ]

    own_ends : (events : List (Event V)) (e : Event V) → whose e ≡ a → EndsWell a (run o events) → EndsWell a (happens (run o events) e).0
    own_ends events (Ask b q) m h =
        subst (λ i. EndsWell a (happens (run o events) (Ask i q)).0) (sym m) (ask_ends (run o events) a q (linked events) h)
    own_ends events (Step b) m h = subst (λ i. EndsWell a (happens (run o events) (Step i)).0) (sym m) (step_ends events h)
    own_ends events (Starve b) m h = subst (λ i. EndsWell a (happens (run o events) (Starve i)).0) (sym m) (starve_ends (run o events) a h)

    one_ends : (events : List (Event V)) (e : Event V) → EndsWell a (run o events) → EndsWell a (happens (run o events) e).0
    one_ends events e h =
        let w = run o events in
        elim (cases_eq a (whose e)) [
          | inl same ↦ own_ends events e (sym same) h
          | inr ne ↦
              subst (λ (x : Seat V). is_ending x.stage ≡ true → (c : Refusal) → x.cause ≡ Some c → IsMistaken c → ⊥)
              (sym ((happens_by w e).seats a ne)) h
        ]

    ends : (later events : List (Event V)) → EndsWell a (run o events) → EndsWell a (run (run o events) later)
    ends [] events h = h
    ends (e ∷ later) events h =
        let same : run o (events ++ e ∷ []) ≡ (happens (run o events) e).0 = run-append events (e ∷ []) o in
        subst (λ (w : World V). EndsWell a (run w later)) same
        (ends later (events ++ e ∷ []) (subst (EndsWell a) (sym same) (one_ends events e h)))

    -- ---- what is answered
    module _ (events : List (Event V)) (fit : AreFitting (opened blocks clock values held) a events) where
      abbrev w : World V
      w = run o events

      sized : SizedAt HasRoom a w
      sized = all_sized a events o fit (opened_linked blocks clock values held stripes) tt

      well : EndsWell a w
      well = ends events [] (λ e. absurd (true≢false (sym e)))

      pub few_open : (w.seats a).stage ≡ Open
          → (length (actor_of w a).reads ≤ weights (w.seats a).calls) × (length (actor_of w a).writes ≤ weights (w.seats a).calls)
      few_open at =
          let x = w.seats a in
          let h : IsFew (weights x.calls) (actor_of w a) = subst (λ (st : Stage V). Sized HasRoom x st (actor_of w a)) at sized in
          (h.reads, h.writes)

      step_tells : (st : Stage V) (u : World V) (c : Refusal) → Sized HasRoom (w.seats a) st (actor_of w a) → (w.seats a).stage ≡ st
          → IsRefusedAt w a st u c → (happens w (Step a)).1 ≡ Refused a c → IsMistaken c → ⊥
      step_tells Idle u c h at is n m = subst IsMistaken is.0 m
      step_tells Open u c h at is n m = subst IsMistaken is.0 m
      step_tells Beginning u c h at is n m = subst IsMistaken is.0 m
      step_tells (Copying asked) u c h at is n m =
          let none : NoRefusal (happens w (Step a)) = subst (λ (st : Stage V). NoRefusal (step_at w a (w.seats a) st)) (sym at)
          (copying_no w a (w.seats a) asked h.0 h.1 h.2) in
          none (subst IsRefusal (sym n) tt)
      step_tells Leaving u c h at is n m = well (ap is_ending at) c is.0 m
      step_tells st u c h at is n m = is

      own_tells : (e : Event V) → whose e ≡ a → IsFitting w a e → RefusesAsMistaken (happens w e).1 → ⊥
      own_tells (Ask b q) m f t =
          ask_tells w a (w.seats a).stage q refl (subst (λ i. IsFitting w a (Ask i q)) m f) sized
          (subst (λ i. RefusesAsMistaken (happens w (Ask i q)).1) m t)
      own_tells (Step b) m f t =
          let n = subst (λ i. RefusesAsMistaken (happens w (Step i)).1) m t in
          let st = (w.seats a).stage in
          let u = (happens w (Step a)).0 in
          let why = by_notice a (IsRefusedAt w a st u) (happens w (Step a)).1 (refused_step w a (linked events)) (mistaken_refused _ n) in
          step_tells st u why.0 sized refl why.1 why.2 (subst RefusesAsMistaken why.2 n)
      own_tells (Starve b) m f t =
          starved_tells w a (w.seats a).stage (happens w (Starve a)) (starves w a)
          (subst (λ i. RefusesAsMistaken (happens w (Starve i)).1) m t)

      pub never_mistaken : (e : Event V) → whose e ≡ a → IsFitting w a e → RefusesAsMistaken (happens w e).1 → ⊥
      never_mistaken e m f t = own_tells e m f t

-- ---- no declared reader
module _ {V : Type 0} (a : ℕ) where
  abbrev pub IsNone : World V → Type 0
  IsNone w = (actor_of w a).declared ≡ false

  -- how far the clock and what is next are now is enough to say it
  now : World V → ℕ
  now w = w.boosted.words.clock + due (actor_of w a).place

  bound_now : (w : World V) → IsNone w → BoundAt (now w) a w
  unfolding now
  bound_now w d = record { undeclared = d; clock = omega arith }

  begins_none : (w : World V) → IsNone w → IsNone (happens w (Ask a request.Begin)).0
  begins_none w d = (begins_bound a (now w) w (w.seats a) (w.seats a).stage (bound_now w d)).undeclared

  calls_none : (w : World V) (call : Call V) → IsNone w → IsNone (happens w (Ask a (request.Call call))).0
  calls_none w call d =
      let h = bound_now w d in
      (calls_bound a (now w) w (w.seats a) (w.seats a).stage (request.Call call) h
      (λ k. op_on (now w) a w (w.seats a) call.target call.op k) h).undeclared

  commits_none : (w : World V) → IsNone w → IsNone (happens w (Ask a request.Commit)).0
  commits_none w d =
      let n = now w in
      let h = bound_now w d in
      let more = bound_more n (n + 1) a w.boosted.words (omega arith) h in
      (calls_bound a (n + 1) w (w.seats a) (w.seats a).stage request.Commit more
      (λ k. commits_bound a n w (w.seats a) (actor_of w a).writes h) more).undeclared

  abort_none_at : (w : World V) (st : Stage V) → IsNone w → IsNone (ask_at w a (w.seats a) st request.Abort).0
  abort_none_at w Open d = (cancels_on (now w) a w (record (w.seats a) { cause = None }) (bound_now w d)).undeclared
  abort_none_at w Idle d = d
  abort_none_at w st d = d

  starve_none_at : (w : World V) (x : Seat V) (st : Stage V) → IsNone w → IsNone (starve_at w a x st).0
  starve_none_at w x st d = (starve_on (now w) a w x st (bound_now w d)).undeclared

  ask_none : (w : World V) (q : Request V) → IsNoReader a (Ask a q) → IsNone w → IsNone (happens w (Ask a q)).0
  ask_none w request.Begin free d = begins_none w d
  ask_none w request.BeginRead free d = absurd (free refl)
  ask_none w (request.Call call) free d = calls_none w call d
  ask_none w request.Commit free d = commits_none w d
  ask_none w request.Abort free d = abort_none_at w (w.seats a).stage d

  own_none : (w : World V) (e : Event V) → whose e ≡ a → IsNoReader a e → IsNone w → IsNone (happens w e).0
  own_none w (Ask b q) m free d =
      subst (λ i. IsNone (happens w (Ask i q)).0) (sym m) (ask_none w q (subst (λ i. IsNoReader a (Ask i q)) m free) d)
  own_none w (Step b) m free d =
      subst (λ i. IsNone (happens w (Step i)).0) (sym m) (step_on (now w) a w (w.seats a) (w.seats a).stage (bound_now w d)).undeclared
  own_none w (Starve b) m free d =
      subst (λ i. IsNone (happens w (Starve i)).0) (sym m) (starve_none_at w (w.seats a) (w.seats a).stage d)

  pub one_none : (w : World V) (e : Event V) → IsNoReader a e → IsNone w → IsNone (happens w e).0
  one_none w e free d =
      elim (cases_eq a (whose e)) [
        | inl same ↦ own_none w e (sym same) free d
        | inr ne ↦ ap (λ (y : Actor). y.declared) ((happens_by w e).actors a ne) ∙ d
      ]

  pub all_none : (es : List (Event V)) (w : World V) → BeginsNoReader a es → IsNone w → IsNone (run w es)
  all_none [] w free d = d
  all_none (e ∷ es) w free d = all_none es (happens w e).0 free.1 (one_none w e free.0 d)
