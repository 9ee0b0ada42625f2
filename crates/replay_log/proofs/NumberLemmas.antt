-- Numbers of commits that aborted. While a transaction can abort, no writer has its number, and once its locks go back none will ever have
-- it: both the word machine says. In between its gates go back, one a step, and neither these steps nor any other event change its number.
-- So by induction over the events that follow, it is nobody's at each of them.
use Rattle.std.proofs.Common.{◌≡◌, ℕ, Bool, true, false, cond, List, [], ◌∷◌, ◌++◌, length, ◌⊎◌, inl, inr, refl, sym, ◌∙◌, ap, subst}
use Rattle.std.proofs.Common.{true≢false}
use Rattle.std.specs.Prelude.{get_or}
use Rattle.std.proofs.lemmas.Bool.{cases_eq}
use Rattle.tx_machine.specs.Actor as machine
use Rattle.tx_machine.specs.Actor.{Place, Actor}
use Rattle.tx_machine.specs.Requests as word
use Rattle.tx_machine.specs.Opacity.{NoWriterHas}
use Rattle.tx_machine.specs.Refusals.{IsEnding}
use Rattle.tx_machine.proofs.Numbers.{GivesUp}
use Rattle.tx_machine.proofs.Sets.{put-same}
use Rattle.seq_model.specs.declared.held.Held.{Held}
use Rattle.seq_model.specs.declared.record.Record.{Record}
use Rattle.seq_model.specs.declared.event.Event.{Event}
use Rattle.seq_model.specs.declared.event.Event.TheVariants.{Ask, Step, Starve}
use Rattle.tx_machine.specs.Content.{has}
use Rattle.tx_machine.specs.Boosted.{Committed, Boosted, PutGate, act_all}
use Rattle.tx_machine.specs.Serial as serial
use Rattle.tx_machine.proofs.Runs as runs
use Rattle.replay_log.specs.Base.{Shown}
use Rattle.replay_log.specs.Contents.{Block, CallWithOutcome, HaveStripes, content}
use Rattle.replay_log.specs.Collections.{shown_at}
use Rattle.replay_log.specs.Worlds.{
  World,
  Seat,
  Stage,
  Cancelling,
  Leaving,
  Returning,
  After,
  at_stage,
  acted,
  asks,
  actor_of,
  is_leaving,
  cancels,
  gives_up,
  step_at,
  happens,
  run,
  opened,
}
use Rattle.replay_log.specs.Guards.{IsAtRest}
use Rattle.replay_log.specs.WorldProgress.{whose}
use Rattle.replay_log.specs.WorldRefusals.{is_ending}
use Rattle.replay_log.specs.WorldSerial.{HasWritten}
use Rattle.replay_log.proofs.ContentLemmas.{content_frame}
use Rattle.replay_log.proofs.RequestLemmas.{happens_by, actions_of, later_actions}
use Rattle.replay_log.proofs.ActionLemmas.{mine}
use Rattle.replay_log.proofs.MixedLemmas.{SameRecords}
use Rattle.replay_log.proofs.SeatLemmas.{Copy, CanLeave, gates_of, StageOk, Linked, At, at_of, cancels_wv}
use Rattle.replay_log.proofs.PlaceLemmas.{leaving_rests}
use Rattle.replay_log.proofs.StageLemmas.{first_has, gate_put}
use Rattle.replay_log.proofs.EventLemmas.{run-append, run_linked, opened_linked}
use Rattle.replay_log.proofs.AskLemmas.{under_way}
use Rattle.replay_log.proofs.AnswerLemmas.{starved_end}

can_give_up : (p : Place) → CanLeave p → GivesUp p
can_give_up machine.Open h = inl tt
can_give_up (machine.Look k) h = inl tt
can_give_up (machine.Fetch k j) h = inl tt
can_give_up (machine.Again k j v) h = inl tt
can_give_up (machine.Lock ls) h = inl tt
can_give_up (machine.Take l k ls) h = inl tt
can_give_up (machine.Check ls) h = inr (inl tt)
can_give_up machine.Broken h = inr (inr tt)
can_give_up machine.Undo h = inr (inr tt)
can_give_up machine.Close h = inl tt
can_give_up p h = absurd h

module _ {V : Type 0} where
  none_written : (n k : ℕ) (rs : List (ℕ × Record V)) (qs : List (Committed (CallWithOutcome V))) → SameRecords n rs qs
      → NoWriterHas k (serial.words qs)
      → HasWritten k rs → ⊥
  none_written n k [] qs g f h = h
  none_written n k (r ∷ rs) [] g f h = absurd g
  none_written n k (r ∷ rs) (q ∷ qs) g f h =
      elim h [ inl is ↦ f.0 (sym g.0.writes ∙ is.1) (sym g.0.number ∙ is.0) | inr more ↦ none_written n k rs qs g.1 f.1 more ]

  -- ---- where one stands that aborts
  given_up_at : (n : ℕ) (bs : List Block) (x : Seat V) (y : Actor) (z : Copy V) (st : Stage V) (p : Place) → StageOk n bs x y z st p
      → is_ending st ≡ true
      → GivesUp p
  given_up_at n bs x y z (Returning []) p h e = absurd h
  given_up_at n bs x y z (Returning (k ∷ ks)) p h e = can_give_up p h.0
  given_up_at n bs x y z Cancelling p h e = subst GivesUp (sym h.0) (inr (inr tt))
  given_up_at n bs x y z Leaving p h e = subst GivesUp (sym h.0) (inr (inr tt))
  given_up_at n bs x y z st p h e = absurd (true≢false (sym e))

  abbrev IsReturning : Stage V → Type 0
  IsReturning (Returning (k ∷ ks)) = Unit {0}
  IsReturning st = ⊥

  -- it puts its gates back, or it can only end
  returns_or_ends : (n : ℕ) (bs : List Block) (x : Seat V) (y : Actor) (z : Copy V) (st : Stage V) (p : Place) → StageOk n bs x y z st p
      → is_ending st ≡ true
      → IsReturning st ⊎ IsEnding p
  returns_or_ends n bs x y z (Returning []) p h e = absurd h
  returns_or_ends n bs x y z (Returning (k ∷ ks)) p h e = inl tt
  returns_or_ends n bs x y z Cancelling p h e = inr (subst IsEnding (sym h.0) tt)
  returns_or_ends n bs x y z Leaving p h e = inr (subst IsEnding (sym h.0) tt)
  returns_or_ends n bs x y z st p h e = absurd (true≢false (sym e))

  -- ---- gates go back
  -- it is aborted still, with this number
  abbrev GoesOn : ℕ → ℕ → World V → Type 0
  GoesOn a wv u = (is_ending (u.seats a).stage ≡ true) × ((actor_of u a).wv ≡ wv)

  cancels_ends : (w : World V) (a : ℕ) (x : Seat V) → is_ending ((cancels w a x).seats a).stage ≡ true
  cancels_ends w a x =
      let t = acted w (asks a word.AskCancel ∷ asks a word.AskAbort ∷ []) in
      let b = is_leaving (actor_of t a).place in
      ap (λ (s : Seat V). is_ending s.stage) (put-same t.seats a (at_stage x (cond b Leaving Cancelling))) ∙ by b
    where
      by : (b : Bool) → is_ending {V = V} (cond b Leaving Cancelling) ≡ true
      by true = refl
      by false = refl

  gives_up_on : (w : World V) (a : ℕ) (x : Seat V) (y : Actor) (z : Copy V) (g : ℕ → Bool) (ks : List ℕ) → At w a y z g → CanLeave y.place
      → GoesOn a y.wv (gives_up w a x ks).0
  gives_up_on w a x y z g [] k leave = (cancels_ends w a x, cancels_wv w a x y z g k leave)
  gives_up_on w a x y z g (i ∷ ks) k leave = (
    ap (λ (s : Seat V). is_ending s.stage) (put-same w.seats a (at_stage x (Returning (i ∷ ks)))),
    ap (λ (u : Actor). u.wv) k.own.actor,
  )

  step_on : (w : World V) (a : ℕ) (x : Seat V) (st : Stage V) → Linked w
      → ((k : ℕ) → mine w.boosted a k ≡ has (gates_of st) k)
      → StageOk w.words w.blocks x (actor_of w a) (w.boosted.shadows a) st (actor_of w a).place
      → IsReturning st → GoesOn a (actor_of w a).wv (step_at w a x st).0
  step_on w a x (Returning (i ∷ ks)) k held h at =
      let y = actor_of w a in
      let none = λ (l : ℕ). false in
      let k2 = gate_put w a i none y (w.boosted.shadows a) (mine w.boosted a) (at_of w a k) (held i ∙ first_has i ks)
      (leaving_rests y.place h.0) in
      gives_up_on (acted w (PutGate a i none ∷ [])) a x y _ _ ks k2 h.0
  step_on w a x st k held h at = absurd at

  stays_on : (w u : World V) (a : ℕ) → u ≡ w → is_ending (w.seats a).stage ≡ true → GoesOn a (actor_of w a).wv u
  stays_on w u a same e = (ap (λ (v : World V). is_ending (v.seats a).stage) same ∙ e, ap (λ (v : World V). (actor_of v a).wv) same)

  resting : (st : Stage V) → IsReturning st → IsAtRest st → ⊥
  resting (Returning (k ∷ ks)) h at = at
  resting st h at = h

  own_on : (w : World V) (e : Event V) → Linked w → is_ending (w.seats (whose e)).stage ≡ true → IsReturning (w.seats (whose e)).stage
      → GoesOn (whose e) (actor_of w (whose e)).wv (happens w e).0
  own_on w (Ask a q) k e at =
      stays_on w (happens w (Ask a q)).0 a (ap (λ (r : After V). r.0) (under_way w a q (resting (w.seats a).stage at))) e
  own_on w (Step a) k e at = step_on w a (w.seats a) (w.seats a).stage k (k.seats a).gates (k.seats a).stage at
  own_on w (Starve a) k e at = stays_on w (happens w (Starve a)).0 a (ap (λ (r : After V). r.0) (starved_end w a e)) e

  -- whatever happens while its gates go back
  event_on : (w : World V) (e : Event V) (a : ℕ) → Linked w → is_ending (w.seats a).stage ≡ true → IsReturning (w.seats a).stage
      → GoesOn a (actor_of w a).wv (happens w e).0
  event_on w e a k ends at = elim (cases_eq a (whose e)) [
    | inl is ↦
        subst (λ b. GoesOn b (actor_of w b).wv (happens w e).0) (sym is)
        (own_on w e k (subst (λ b. is_ending (w.seats b).stage ≡ true) is ends) (subst (λ b. IsReturning (w.seats b).stage) is at))
    | inr ne ↦ (
        let by = happens_by w e in (
          ap (λ (x : Seat V). is_ending x.stage) (by.seats a ne) ∙ ends,
          ap (λ (y : Actor). y.wv) (by.actors a ne),
        )
        )
  ]

  -- ---- the number of one that aborts
  module _ (bs : List Block) (stripes : HaveStripes bs) (clock : ℕ) (values : List ℕ) (hs : List (Held V)) where
    abbrev start : World V
    start = opened bs clock values hs

    abbrev parts : ℕ → Shown V
    parts = shown_at (length values) bs hs

    linked : (events : List (Event V)) → Linked (run start events)
    linked events = run_linked events start (opened_linked bs clock values hs stripes)

    no_record : (w : World V) (k : ℕ) → Linked w → NoWriterHas k (serial.words w.boosted.history) → HasWritten k w.records → ⊥
    no_record w k linked none written = none_written w.words k w.records w.boosted.history linked.base.records none written

    -- it is nobody's now
    unused_now : (events : List (Event V)) (a : ℕ) → let w = run start events in
        is_ending (w.seats a).stage ≡ true → HasWritten (actor_of w a).wv w.records → ⊥
    unused_now events a e =
        let w = run start events in
        let k = linked events in
        let s = k.seats a in
        let ac = actions_of bs clock values hs events in
        let at = given_up_at w.words w.blocks (w.seats a) (actor_of w a) (w.boosted.shadows a) (w.seats a).stage (actor_of w a).place
        s.stage e in
        let none = runs.unused_yet (content {V = V} (length values) bs) (content_frame {V = V} (length values) bs stripes) clock
        (λ l. get_or values l 0) parts ac.0 a
        (subst (λ (z : Boosted (Shown V) (CallWithOutcome V)). GivesUp (z.words.actors a).place) ac.1 at) in
        no_record w (actor_of w a).wv k
        (subst (λ (z : Boosted (Shown V) (CallWithOutcome V)). NoWriterHas (z.words.actors a).wv (serial.words z.history)) (sym ac.1) none)

    -- once it can only end, at every later moment
    ended_unused : (events later : List (Event V)) (a : ℕ) → let w = run start events in
        IsEnding (actor_of w a).place → HasWritten (actor_of w a).wv (run w later).records → ⊥
    ended_unused events later a ends =
        let w = run start events in
        let ac = actions_of bs clock values hs events in
        let lt = later_actions bs clock values hs events later in
        let c = content {V = V} (length values) bs in
        let none = runs.unused_later c (content_frame {V = V} (length values) bs stripes) clock (λ l. get_or values l 0) parts ac.0 lt.0 a
        (subst (λ (z : Boosted (Shown V) (CallWithOutcome V)). IsEnding (z.words.actors a).place) ac.1 ends) in
        no_record (run w later) (actor_of w a).wv (run_linked later w (linked events))
        (subst (λ (z : Boosted (Shown V) (CallWithOutcome V)). NoWriterHas (actor_of w a).wv (serial.words z.history)) (sym lt.1)
        (subst (λ (z : Boosted (Shown V) (CallWithOutcome V)). NoWriterHas (z.words.actors a).wv (serial.words (act_all c lt.0 z).history))
        (sym ac.1) none))

    pub unused_later : (later events : List (Event V)) (w : World V) (a : ℕ) → run start events ≡ w → is_ending (w.seats a).stage ≡ true
        → HasWritten (actor_of w a).wv (run w later).records → ⊥
    unused_later [] events w a is ends written =
        unused_now events a (subst (λ (v : World V). is_ending (v.seats a).stage ≡ true) (sym is) ends)
        (subst (λ (v : World V). HasWritten (actor_of v a).wv v.records) (sym is) written)
    unused_later (e ∷ later) events w a is ends written =
        let k = subst Linked is (linked events) in
        elim (returns_or_ends w.words w.blocks (w.seats a) (actor_of w a) (w.boosted.shadows a) (w.seats a).stage (actor_of w a).place
        (k.seats a).stage ends) [
          | inl returning ↦ (
              let on = event_on w e a k ends returning in
              unused_later later (events ++ e ∷ []) (happens w e).0 a
              (run-append events (e ∷ []) start ∙ ap (λ (v : World V). (happens v e).0) is) on.0
              (subst (λ n. HasWritten n (run w (e ∷ later)).records) (sym on.1) written)
              )
          | inr ended ↦
              ended_unused events (e ∷ later) a (subst (λ (v : World V). IsEnding (actor_of v a).place) (sym is) ended)
              (subst (λ (v : World V). HasWritten (actor_of v a).wv (run v (e ∷ later)).records) (sym is) written)
        ]
