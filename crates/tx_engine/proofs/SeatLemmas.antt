-- What a seat holds.
--
-- Events have reached a world that is to the seat's actor as the world with it alone (`IsReached`). Between its requests an actor is idle
-- there, or its transaction is open, and neither holds a lock or a gate (`StageOk`, `PlaceOk`). Before what it has asked since its last
-- step it was so too, or was to begin: a request leads to neither from elsewhere, and a failed allocation that aborts a transaction leaves
-- its last step to be done.
use Rattle.std.proofs.Common.{◌≡◌, ◌⊎◌, ℕ, true, false, List, [], ◌∷◌, inl, inr, refl, sym, ap, ◌∙◌, subst, true≢false, eq-eqb}
use Rattle.std.specs.Prelude.{if◌then◌else◌}
use Rattle.tx_machine.specs.Actor.{Actor, Place}
use Rattle.tx_machine.specs.Requests as word
use Rattle.tx_machine.specs.World.{World as Words}
use Rattle.tx_machine.proofs.Invariant.{PlaceOk}
use Rattle.tx_machine.proofs.Sets.{put-same}
use Rattle.seq_model.specs.declared.call.Call.{Call}
use Rattle.seq_model.specs.declared.call.Reply.{Reply}
use Rattle.seq_model.specs.declared.event.Event.{Event}
use Rattle.seq_model.specs.declared.event.Event.TheVariants.{Ask, Step, Starve}
use Rattle.seq_model.specs.declared.event.Request.{Request}
use Rattle.seq_model.specs.declared.refusal.Refusal.TheVariants as refusal
use Rattle.tx_machine.specs.Boosted.{is_actor}
use Rattle.tx_machine.specs.Content.{has}
use Rattle.replay_log.specs.Contents.{Block, HaveStripes}
use Rattle.replay_log.specs.WorldSerial.{IsSerial}
use Rattle.replay_log.specs.Worlds.{World, Seat, Stage, Idle, Beginning, Open, Locking, Closing, Cancelling, Leaving, Reading, Trying}
use Rattle.replay_log.specs.Worlds.{Copying, Loading, Gating, Ready, Returning, acted, actor_of, ask_at, asks, at_stage, because}
use Rattle.replay_log.specs.Worlds.{gives_up, happens, is_leaving, run, starve_at}
use Rattle.replay_log.proofs.EventLemmas.{opened_linked, run_linked}
use Rattle.replay_log.proofs.SeatLemmas.{Copy, Linked, StageOk, gates_of}
use Rattle.actor_laws.specs.KnownStages.{Rests, known_stage_at}
use Rattle.shared_table.specs.Seated as seated
use Rattle.shared_table.specs.Seated.{acts, kept, list_of}
use Rattle.shared_table.specs.Shown.{IsReached, Opens}
use Rattle.shared_table.specs.Turns.{asked_all, own, stage_of}
use Rattle.shared_table.specs.declared.seat.Seat as table
use Rattle.tx_turns.proofs.RestLemmas.{IsCalm}
use Rattle.tx_turns.specs.Driven.{standing}
use Rattle.tx_engine.specs.Requests.{IsOpen}
use Rattle.tx_engine.specs.Seats.{HasNothing, HoldsNothing}

-- whatever events lead to is in serial order
abbrev pub SerialLaw : Type 0 → Type 0
SerialLaw V = (o : World V) (opens : Opens o) (events : List (Event V)) → HaveStripes o.blocks → IsSerial opens.contents (run o events)

module _ {V : Type 0} where
  -- ---- an actor that holds nothing
  -- idle, about to begin, or open
  abbrev IsBare : Stage V → Type 0
  IsBare Idle = Unit {0}
  IsBare Beginning = Unit {0}
  IsBare Open = Unit {0}
  IsBare st = ⊥

  bare_locks : (n : ℕ) (bs : List Block) (s : Words) (x : Seat V) (y : Actor) (z : Copy V) (st : Stage V) (p : Place) → IsBare st
      → StageOk n bs x y z st p → PlaceOk s y p → y.held ≡ []
  bare_locks n bs s x y z Idle p bare ok place = subst (PlaceOk s y) ok place
  bare_locks n bs s x y z Beginning p bare ok place = subst (PlaceOk s y) ok place
  bare_locks n bs s x y z Open p bare ok place = subst (PlaceOk s y) ok.0 place
  bare_locks n bs s x y z st p bare ok place = absurd bare

  bare_gates : (st : Stage V) (k : ℕ) → IsBare st → has (gates_of st) k ≡ false
  bare_gates Idle k bare = refl
  bare_gates Beginning k bare = refl
  bare_gates Open k bare = refl
  bare_gates st k bare = absurd bare

  has_nothing : (w : World V) (a : ℕ) → Linked w → IsBare (stage_of w a) → HasNothing a w
  has_nothing w a linked bare =
      let ok = linked.seats a in
      record {
        locks = bare_locks w.words w.blocks w.boosted.words (w.seats a) (actor_of w a) (w.boosted.shadows a) (stage_of w a)
            (actor_of w a).place bare ok.stage (linked.base.inv.machine.actors a).place;
        gates = λ k is.
            true≢false (sym (ap (is_actor a) is ∙ eq-eqb a a refl) ∙ ok.gates k ∙ bare_gates (stage_of w a) k bare);
      }

  -- ---- before it asked
  asked_bare : (u : World V) (a : ℕ) (q : Request V) (st : Stage V) → stage_of u a ≡ st
      → IsBare (stage_of (ask_at u a (u.seats a) st q).0 a) → IsBare st
  asked_bare u a q Idle e bare = tt
  asked_bare u a q Beginning e bare = tt
  asked_bare u a q Open e bare = tt
  asked_bare u a q st e bare = subst IsBare e bare

  given_up_bare : (u : World V) (a : ℕ) (x : Seat V) (ks : List ℕ) → IsBare (stage_of (gives_up u a x ks).0 a) → ⊥
  given_up_bare u a x [] bare =
      let v = acted u (asks a word.AskCancel ∷ asks a word.AskAbort ∷ []) in
      let leaves = is_leaving (actor_of v a).place in
      let at = put-same v.seats a (at_stage x (if leaves then Leaving else Cancelling)) in
      elim leaves as (λ b. IsBare (if b then Leaving else Cancelling) → ⊥) [
        | true ↦ λ h. h
        | false ↦ λ h. h
      ] (subst (λ (y : Seat V). IsBare y.stage) at bare)
  given_up_bare u a x (k ∷ ks) bare =
      subst (λ (y : Seat V). IsBare y.stage) (put-same u.seats a (at_stage x (Returning (k ∷ ks)))) bare

  starved_bare : (u : World V) (a : ℕ) (st : Stage V) → stage_of u a ≡ st → IsBare (stage_of (starve_at u a (u.seats a) st).0 a)
      → IsBare st
  starved_bare u a st e bare = by st e bare
    where
      x : Seat V
      x = because (u.seats a) refusal.Memory

      by : (st : Stage V) → stage_of u a ≡ st → IsBare (stage_of (starve_at u a (u.seats a) st).0 a) → IsBare st
      by Idle e bare = tt
      by Beginning e bare = tt
      by Open e bare = tt
      by (Reading l) e bare = given_up_bare u a x [] bare
      by (Trying asked tries) e bare = given_up_bare u a x [] bare
      by (Copying asked) e bare = given_up_bare u a x (asked.collection ∷ []) bare
      by (Loading asked left) e bare = given_up_bare u a x [] bare
      by Locking e bare = given_up_bare u a x [] bare
      by (Gating got ks tries) e bare = given_up_bare u a x got bare
      by (Ready ks) e bare = given_up_bare u a x ks bare
      by Closing e bare = given_up_bare u a x [] bare
      by st e bare = subst IsBare e bare

  one_bare : (u : World V) (a : ℕ) (e : Event V) → IsBare (stage_of (happens u (own a e)).0 a) → IsBare (stage_of u a)
  one_bare u a (Ask b q) bare = asked_bare u a q (stage_of u a) refl bare
  one_bare u a (Step b) bare = starved_bare u a (stage_of u a) refl bare
  one_bare u a (Starve b) bare = starved_bare u a (stage_of u a) refl bare

  all_bare : (a : ℕ) (es : List (Event V)) (u : World V) → IsBare (stage_of (asked_all a u es) a) → IsBare (stage_of u a)
  all_bare a [] u bare = bare
  all_bare a (e ∷ es) u bare = one_bare u a e (all_bare a es (happens u (own a e)).0 bare)

  -- ---- between its requests
  pub is_calm : (o : World V) (s : table.Seat V) → (standing o s ≡ Rests) ⊎ IsOpen o s → IsCalm (standing o s)
  is_calm o s (inl rests) = subst IsCalm (sym rests) tt
  is_calm o s (inr stands) = subst IsCalm (sym stands.1) tt

  calm_bare : (calls : List (Call V × Reply V)) (st : Stage V) → IsCalm (known_stage_at calls st) → IsBare st
  calm_bare calls Idle calm = tt
  calm_bare calls Open calm = tt
  calm_bare calls st calm = absurd calm

  pub opening_linked : (o : World V) (a : ℕ) (u : World V) → IsReached o a u → Linked o
  opening_linked o a u h =
      let opens = h.opens in
      subst Linked opens.world (opened_linked o.blocks opens.clock opens.contents.words opens.contents.held h.stripes)

  pub holds_nothing : (o : World V) (s : table.Seat V) → IsReached o (seated.actor s) (acts o s) → IsCalm (standing o s)
      → HoldsNothing o s
  holds_nothing o s h calm =
      let a = seated.actor s in
      let linked = opening_linked o a (acts o s) h in
      let x = (acts o s).seats a in
      let bare : IsBare x.stage = calm_bare x.calls x.stage calm in
      let there = λ (events : List (Event V)) (at : IsBare (stage_of (run o events) a)).
      has_nothing (run o events) a (run_linked events o linked) at in
      record {
        events = h.events;
        alike = h.alike;
        free = there h.events (subst (λ (y : Seat V). IsBare y.stage) (sym h.alike.seat) bare);
        shown = λ events alike. there events
            (subst (λ (y : Seat V). IsBare y.stage) (sym alike.seat) (all_bare a (list_of s.asked) (kept o s) bare));
      }
