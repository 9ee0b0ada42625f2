-- A run of a script: the parts that its world opened with are those of the world that the script's header opens in the definitions. So what
-- was answered is what the events answer there, and the trace is that of the world which they lead to.
use Rattle.std.proofs.Common.{◌≡◌, ◌≢◌, ◌∙◌, refl, sym, ap, ap₂, subst, ℕ, suc, Bool, List, [], ◌∷◌, length, map, inr, All}
use Rattle.seq_model.specs.declared.event.Event.{Event}
use Rattle.std.specs.Prelude.{IfErr, OnOk, Result, Ok, Err}
use Rattle.seq_model.specs.declared.event.Notice.{Notice}
use Rattle.seq_model.specs.declared.refusal.Refusal.{Refusal}
use Rattle.seq_model.specs.declared.refusal.Refusal.TheVariants.{Ahead, BadText, Busy, Exhausted, GateBusy, Invalid, Moved, NoSuch}
use Rattle.seq_model.specs.declared.refusal.Refusal.TheVariants.{NoTransaction, NotIdle, Memory as OutOfMemory, Stale, TooLong}
use Rattle.seq_model.specs.Calls.{IsWithinLimits}
use Rattle.seq_model.specs.Contents.{Contents}
use Rattle.seq_model.specs.Refusals.{IsNoSuchOrTooLong, IsTooLong}
use Rattle.replay_log.specs.Worlds.{World}
use Rattle.step_world.specs.Feeds.{fed_all}
use Rattle.step_world.specs.Parts.{IsWorld}
use Rattle.step_world.specs.declared.parts.Parts.{Parts}
use Rattle.step_world.specs.Reached.{IsReached}
use Rattle.step_world.specs.Serial.{IsFrom}
use Rattle.step_world.specs.Traces.{IsSerialTrace, IsTraceOf}
use Rattle.text_formats.specs.declared.script.Collection.{Collection}
use Rattle.text_formats.specs.declared.script.Script.{Script}
use Rattle.session_text.specs.declared.run.ScriptRun.{ScriptRun}
use Rattle.session_text.specs.declared.run.Transcript.{Transcript}
use Rattle.session_text.specs.Plays.{ArePlays, HasPlayed, IsKeptRun, Keeps, heard, kept_of, nobody, nothing_heard}
use Rattle.session_text.specs.Scripts.{IsOpeningOf, IsRefusedScript, opening_of, stripes_of, world_in}
use Rattle.session_text.specs.Worlds.{told_by}
use Rattle.actor_parts.specs.Openings.{IsWithin, world_of}
use Rattle.session_text.proofs.LeadLemmas.{reached_all}

-- ---- openings
no_such_never : (O F : Type 0) → (r : Refusal) → ¬ O → IsNoSuchOrTooLong r O F → IsTooLong r F
no_such_never O F NoSuch none h = absurd (none h)
no_such_never O F TooLong none h = h.1
no_such_never O F OutOfMemory none h = h.1
no_such_never O F (Moved l w) none h = absurd h
no_such_never O F (Busy l w) none h = absurd h
no_such_never O F (Stale l b w) none h = absurd h
no_such_never O F (GateBusy c) none h = absurd h
no_such_never O F (Invalid l w) none h = absurd h
no_such_never O F (Exhausted n) none h = absurd h
no_such_never O F (Ahead n) none h = absurd h
no_such_never O F NotIdle none h = absurd h
no_such_never O F NoTransaction none h = absurd h
no_such_never O F (BadText n) none h = absurd h

pub as_opening : (script : Script) (opening : Contents ℕ) → IsOpeningOf script opening → opening ≡ opening_of script
as_opening script opening is =
    ap₂ (λ ws hs. let c : Contents ℕ = record { words = ws; held = hs } in c) is.words is.held

as_many : (cs : List Collection) → length (map (λ (c : Collection). c.stripes) cs) ≡ length (map (λ (c : Collection). c.held) cs)
as_many [] = refl
as_many (c ∷ cs) = ap suc (as_many cs)

-- the world of these numbers and this state, which are the script's
pub world_as : (script : Script) (opening s : Contents ℕ) (ns : List ℕ) (clock : ℕ) → ns ≡ stripes_of script → clock ≡ script.clock
    → s ≡ opening → world_of ns clock s ≡ world_in script opening
world_as script opening s ns clock same at is =
    ap₂ (λ (ms : List ℕ) (z : Contents ℕ). world_of ms clock z) same is ∙ ap (λ (n : ℕ). world_of (stripes_of script) n opening) at

-- a script has numbers of stripes for its collections, so its world is refused for its limits, or as an allocation fails
pub refused_as : {X : Type 0} → (script : Script) (opening : Contents ℕ) (ns : List ℕ) (clock : ℕ) (r : Result X Refusal)
    → IsOpeningOf script opening → All IsWithinLimits (opening_of script).held → ns ≡ stripes_of script → clock ≡ script.clock
    → IfErr r (λ refusal. IsNoSuchOrTooLong refusal (length ns ≢ length opening.held) (IsWithin ns clock opening))
    → IfErr r (IsRefusedScript script)
refused_as script opening ns clock (Ok x) is within same at refused = tt
refused_as script opening ns clock (Err e) is within same at refused =
    let many : length ns ≡ length opening.held = ap length same ∙ (as_many script.collections ∙ sym (ap length is.held)) in
    let told : IsTooLong e (IsWithin ns clock opening) = no_such_never _ _ e (λ apart. apart many) refused in
    inr (
      within,
      subst (λ o. IsTooLong e (IsWithin (stripes_of script) script.clock o)) (as_opening script opening is)
          (subst (λ n. IsTooLong e (IsWithin (stripes_of script) n opening)) at
          (subst (λ ms. IsTooLong e (IsWithin ms clock opening)) same told)),
    )

-- what holds, holds where something else does
pub held_where : {E : Type 0} → (X H : Type 0) → (r : Result (Unit {0}) E) → OnOk r X → OnOk r (H → X)
held_where X H (Ok u) h = λ _. h
held_where X H (Err e) h = tt

-- ---- runs
module _ (script : Script) (opening : Contents ℕ) (c d : Parts ℕ) (keeps : Bool) (after : Transcript) (vs : List Bool)
    (reached : IsReached opening (world_in script opening)) (opened : IsWorld c (world_in script opening))
    (has : HasPlayed (Keeps (ArePlays nobody script.lines) nobody vs) c (nothing_heard keeps) d after) where
  told_as : has.told ≡ told_by (world_in script opening) has.events
  told_as = has.leads.told opening (world_in script opening) reached opened

  pub from_opening : IsFrom opening d
  from_opening = record {
    world = fed_all (world_in script opening) has.events;
    reached = reached_all opening (world_in script opening) has.events reached;
    parts = has.leads.parts opening (world_in script opening) reached opened;
  }

  module _ (made : ScriptRun × List (Event ℕ)) (same : made.0.opening ≡ opening) where
    pub is_run : made.0.notices ≡ after.notices → made.1 ≡ after.events
        → ((o : Contents ℕ) (w : World ℕ) → IsReached o w → IsWorld d w → IsTraceOf w made.0.trace) → IsKeptRun script keeps made
    unfolding from_opening
    is_run told events of = (
      has.events,
      (
        record {
          plays = subst (λ o. ArePlays nobody script.lines has.events (told_by (world_in script o) has.events)) (sym same)
              (subst (λ ns. ArePlays nobody script.lines has.events ns) told_as has.kind.0);
          notices = told ∙ (has.heard-of ∙ (ap heard told_as ∙ ap (λ o. heard (told_by (world_in script o) has.events)) (sym same)));
          trace = subst (λ o. IsTraceOf (fed_all (world_in script o) has.events) made.0.trace) (sym same)
              (of opening (fed_all (world_in script opening) has.events) from_opening.reached from_opening.parts);
        },
        λ kept. events ∙ (has.kept ∙ ap (λ (k : Bool). kept_of k has.events) kept),
      ),
    )

    pub is_serial : ((o : Contents ℕ) → IsFrom o d → IsSerialTrace o made.0.trace) → IsSerialTrace made.0.opening made.0.trace
    is_serial of = subst (λ o. IsSerialTrace o made.0.trace) (sym same) (of opening from_opening)
