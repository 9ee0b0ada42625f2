-- A world that is fed an event, or a list of events, is one that events led to, and its parts are those of what they leave.
use Rattle.std.proofs.Common.{◌≡◌, ℕ, suc, ◌+◌, ◌<◌, ◌≢◌, List, [], ◌∷◌, ◌++◌, inl, inr, refl, sym, ap, ◌∙◌, subst}
use Rattle.std.proofs.Common.{arith, length, get_or, take, take-suc, ◌≤◌}
use Rattle.std.specs.Prelude.{IfErr, Result, Ok, Err}
use Rattle.std.specs.Result.{IsErrAnd}
use Rattle.std.proofs.lemmas.Bool.{cases_Bool}
use Rattle.seq_model.specs.declared.event.Event.{Event}
use Rattle.seq_model.specs.declared.event.Notice.{Notice}
use Rattle.seq_model.specs.declared.refusal.Refusal.{Refusal}
use Rattle.seq_model.specs.declared.refusal.Refusal.TheVariants.{Memory as OutOfMemory}
use Rattle.seq_model.specs.Refusals.{IsNoSuchOrTooLong}
use Rattle.seq_model.specs.Contents.{Contents}
use Rattle.step_core.specs.Shown.{is_actor}
use Rattle.replay_log.specs.WorldProgress.{whose}
use Rattle.replay_log.specs.Worlds.{After, World, happens, opened}
use Rattle.replay_log.proofs.EventLemmas.{run-append}
use Rattle.actor_parts.specs.Openings.{world_of}
use Rattle.step_world.specs.declared.parts.Parts.{Parts}
use Rattle.step_world.specs.Feeds.{Feeds, fed, fed_all}
use Rattle.step_world.specs.Parts.{HasWorld, IsWorld}
use Rattle.step_world.specs.Reached.{IsReached}
use Rattle.step_world.proofs.TraceLemmas.{take_all}
use Rattle.step_world.proofs.FeedLemmas.{fed_none, fed_one}

-- a failed allocation once an opening was within the limits
pub memory_refused : {A O F : Type 0} → (r : Result A Refusal) → (¬ O) × F → IsErrAnd r (λ e. e ≡ OutOfMemory)
    → IfErr r (λ e. IsNoSuchOrTooLong e O F)
memory_refused {A} {O} {F} (Ok x) fits h = tt
memory_refused {A} {O} {F} (Err e) fits h = subst (λ (x : Refusal). IsNoSuchOrTooLong x O F) (sym h) fits

-- as many numbers of stripes as collections, and so not another number of them
pub fits_as : {F : Type 0} → {m n : ℕ} → (m ≡ n) × F → (¬ (m ≢ n)) × F
fits_as fits = (λ apart. apart fits.0, fits.1)

module _ {V : Type 0} where
  reached_more : (o : Contents V) (w : World V) (e : Event V) → IsReached o w → IsReached o (happens w e).0
  reached_more o w e h = record {
    blocks = h.blocks;
    clock = h.clock;
    events = h.events ++ e ∷ [];
    stripes = h.stripes;
    suits = h.suits;
    world = run-append h.events (e ∷ []) (opened h.blocks h.clock o.words o.held) ∙ ap (λ (z : World V). (happens z e).0) h.world;
  }

  pub reached_fed : (o : Contents V) (w : World V) (e : Event V) → IsReached o w → IsReached o (fed w e).0
  reached_fed o w e h = elim (cases_Bool (is_actor (whose e))) [
    | inl is ↦ subst (λ (p : After V). IsReached o p.0) (sym (fed_one w e is)) (reached_more o w e h)
    | inr isnt ↦ subst (λ (p : After V). IsReached o p.0) (sym (fed_none w e isnt)) h
  ]

  pub well_fed : (c d : Parts V) (e : Event V) (n : Notice V) → HasWorld c → Feeds c e d n → HasWorld d
  well_fed c d e n well h = record {
    opening = well.opening;
    world = (fed well.world e).0;
    reached = reached_fed well.opening well.world e well.reached;
    parts = h.parts well.opening well.world well.reached well.parts;
  }

  pub opened_well : (c : Parts V) (ns : List ℕ) (clock : ℕ) (s : Contents V) → IsReached s (world_of ns clock s)
      → IsWorld c (world_of ns clock s) → HasWorld c
  opened_well c ns clock s reached h = record { opening = s; world = world_of ns clock s; reached = reached; parts = h }

  -- ---- a list of events
  -- c are the parts of the world that these events lead to from w, which opened on o
  abbrev pub HasFed : Contents V → World V → List (Event V) → Parts V → Type 0
  HasFed o w es c = IsReached o (fed_all w es) × IsWorld c (fed_all w es)

  fed_next : (w : World V) (es : List (Event V)) (e : Event V) → fed_all w (es ++ e ∷ []) ≡ (fed (fed_all w es) e).0
  fed_next w [] e = refl
  fed_next w (d ∷ es) e = fed_next (fed w d).0 es e

  pub has_one : (o : Contents V) (w : World V) (es : List (Event V)) (i : ℕ) (e : Event V) (c d : Parts V) (n : Notice V) → i < length es
      → e ≡ get_or es i e → HasFed o w (take i es) c → Feeds c e d n → HasFed o w (take (i + 1) es) d
  has_one o w es i e c d n lt at h k =
      let u = fed_all w (take i es) in
      let add_one : suc i ≡ i + 1 = omega arith in
      subst (λ (ds : List (Event V)). HasFed o w ds d)
      (sym (take-suc es i e lt ∙ ap (λ (x : Event V). take i es ++ x ∷ []) (sym at)) ∙ ap (λ (m : ℕ). take m es) add_one)
      (subst (λ (z : World V). IsReached o z × IsWorld d z) (sym (fed_next w (take i es) e)) (reached_fed o u e h.0, k.parts o u h.0 h.1))

  pub has_all : (o : Contents V) (w : World V) (es : List (Event V)) (i : ℕ) (c : Parts V) → length es ≤ i → HasFed o w (take i es) c
      → HasFed o w es c
  has_all o w es i c all h = subst (λ (ds : List (Event V)). HasFed o w ds c) (take_all es i all) h
