use Rattle.std.proofs.Common.{◌≡◌, refl, sym, ap, ◌∙◌, subst}
use Rattle.actor_parts.specs.Dispatch.{is_loading, next_of}
use Rattle.tx_actor.proofs.StepLemmas.{running_moved}
use Rattle.tx_actor.specs.Running.{stage_of}
use Rattle.tx_actor.specs.declared.actor.Stage.{Stage}
use Rattle.tx_actor.specs.declared.actor.Stage.TheVariants as stage
use Rattle.tx_actor.specs.declared.actor.ActorNotice.{ActorNotice}
use Rattle.tx_actor.specs.declared.actor.ActorNotice.TheVariants as told
use Rattle.shared_table.specs.Seated.{opening_of}
use Rattle.tx_turns.proofs.TurnLemmas.{word_is_due, word_is_next, word_turned}
use Rattle.tx_turns.specs.Ties.{laid_in}
use Rattle.tx_turns.proofs.WordLemmas.{load_hears, load_tied}
use Rattle.tx_turns.proofs.NextLemmas.{not_loading}
use Rattle.tx_turns.proofs.StepsLemmas.{comes_on, leads_on, nearer, onward, starts}
use Rattle.tx_turns.specs.Driven.{LeadsOn}
use Rattle.tx_turns.proofs.steps.steps_on.Goals as goal

pub steps-init : goal.steps-init
steps-init g c = (c.requires.ties, c.requires.own, refl, starts (opening_of c.args.table.now) c.args.seat.now)

pub step_words-told-requires-clause-own : goal.step_words-told-requires-clause-own
step_words-told-requires-clause-own g c = c.steps.invariant.0.owns

pub step_words-told-requires-clause-live : goal.step_words-told-requires-clause-live
step_words-told-requires-clause-live g c = c.steps.invariant.0.live

pub step_words-told-requires-clause-fits : goal.step_words-told-requires-clause-fits
step_words-told-requires-clause-fits g c = c.steps.invariant.0.running.fits

pub step_words-told-requires-clause-some : goal.step_words-told-requires-clause-some
step_words-told-requires-clause-some g c =
    word_is_due c.args.table.now c.steps.seat c.steps.actor
    (ap (λ (s : Stage _). next_of (stage_of s)) c.steps.invariant.2 ∙ c.requires.due) c.steps.invariant.0

pub step_words-told-requires-clause-due : goal.step_words-told-requires-clause-due
step_words-told-requires-clause-due g c =
    word_is_next c.args.table.now c.steps.seat c.steps.actor
    (ap (λ (s : Stage _). next_of (stage_of s)) c.steps.invariant.2 ∙ c.requires.due) c.steps.invariant.0

-- a step that answered nothing, where its stage waits
pub steps-preserved : goal.steps-preserved
steps-preserved g c =
    let t = c.args.table.now in
    let s = c.steps.seat in
    let u = c.step_words-told.new.seat in
    let r = c.steps.actor in
    let e = c.step_words-told.ensures in
    let due = ap (λ (z : Stage _). next_of (stage_of z)) c.steps.invariant.2 ∙ c.requires.due in
    let h = onward c.steps_as_worlds.ensures c.loads_as_worlds.ensures.heard c.seats_as_actors.ensures c.loads_stay_own.ensures
    c.copies_by_stage.ensures.others c.loads_keep_running.ensures c.turns_keep_own.ensures.words t s u r c.step_words-told.new.actor
    c.step_words-told.result c.args.bases.now (c.is_waiting.ensures.stage c.if-not-is_waiting.false) due
    (c.is_waiting.ensures.told c.if-not-is_waiting.false) c.steps.invariant.0 c.steps.invariant.1 e.steps e.room e.fits
    (is_loading (stage_of r.stage)) refl in (
      h.0,
      h.2,
      c.steps.invariant.2,
      comes_on t c.args.seat.now s u (leads_on t c.args.seat.now s u r told.Quiet c.steps.invariant.3 c.steps.invariant.0 h.1 due
          (subst (λ (z : Stage _). z ≡ stage.Closing → ⊥) (sym c.steps.invariant.2) c.requires.open) c.requires.small),
    )

pub steps-smaller : goal.steps-smaller
steps-smaller g c =
    let t = c.args.table.now in
    let s = c.steps.seat in
    let u = c.step_words-told.new.seat in
    let r = c.steps.actor in
    let e = c.step_words-told.ensures in
    let due = ap (λ (z : Stage _). next_of (stage_of z)) c.steps.invariant.2 ∙ c.requires.due in
    let h = onward c.steps_as_worlds.ensures c.loads_as_worlds.ensures.heard c.seats_as_actors.ensures c.loads_stay_own.ensures
    c.copies_by_stage.ensures.others c.loads_keep_running.ensures c.turns_keep_own.ensures.words t s u r c.step_words-told.new.actor
    c.step_words-told.result c.args.bases.now (c.is_waiting.ensures.stage c.if-not-is_waiting.false) due
    (c.is_waiting.ensures.told c.if-not-is_waiting.false) c.steps.invariant.0 c.steps.invariant.1 e.steps e.room e.fits
    (is_loading (stage_of r.stage)) refl in
    nearer t s u r told.Quiet c.steps.invariant.0 h.1 c.requires.small refl

-- the last, of a call whose locations are read
pub on_load_step-requires : goal.on_load_step-requires
on_load_step-requires g c =
    let e = c.step_words-told.ensures in
    record {
      prepared = (load_hears c.steps_as_worlds.ensures c.loads_keep_running.ensures c.args.table.now c.steps.seat
          c.step_words-told.new.seat c.steps.actor c.step_words-told.new.actor c.step_words-told.result
          (ap (λ (z : Stage _). is_loading (stage_of z)) c.in-Loading.is) c.steps.invariant.0 e.steps e.room e.fits).0;
    }

pub returns-in-Loading-clause-leads : goal.returns-in-Loading-clause-leads
returns-in-Loading-clause-leads g c =
    let t = c.args.table.now in
    let s = c.steps.seat in
    let u = c.step_words-told.new.seat in
    let r = c.steps.actor in
    let y = c.step_words-told.new.actor in
    let e = c.step_words-told.ensures in
    let m = c.step_words-told.result in
    let ties = c.steps.invariant.0 in
    let loading = ap (λ (z : Stage _). is_loading (stage_of z)) c.in-Loading.is in
    let heard = load_hears c.steps_as_worlds.ensures c.loads_keep_running.ensures t s u r y m loading ties e.steps e.room e.fits in
    let h = load_tied c.steps_as_worlds.ensures c.loads_as_worlds.ensures.heard c.seats_as_actors.ensures c.loads_stay_own.ensures
    c.copies_by_stage.ensures.others t s u r c.on_load_step.new.self y m c.on_load_step.result c.args.bases.now loading ties
    c.steps.invariant.1
    e.steps c.on_load_step.ensures.does ((c.on_load_step.ensures.keeps (laid_in t)).running heard.1) c.on_load_step.ensures.goes in
    subst (λ (n : ActorNotice _). LeadsOn (opening_of t) c.args.seat.now u n) c.report.ensures.told
    (leads_on t c.args.seat.now s u r c.on_load_step.result c.steps.invariant.3 ties h.1
    (ap (λ (z : Stage _). next_of (stage_of z)) c.steps.invariant.2 ∙ c.requires.due)
    (subst (λ (z : Stage _). z ≡ stage.Closing → ⊥) (sym c.steps.invariant.2) c.requires.open) c.requires.small)

pub returns-in-Loading-clause-ties : goal.returns-in-Loading-clause-ties
returns-in-Loading-clause-ties g c =
    let t = c.args.table.now in
    let s = c.steps.seat in
    let u = c.step_words-told.new.seat in
    let r = c.steps.actor in
    let y = c.step_words-told.new.actor in
    let e = c.step_words-told.ensures in
    let m = c.step_words-told.result in
    let ties = c.steps.invariant.0 in
    let loading = ap (λ (z : Stage _). is_loading (stage_of z)) c.in-Loading.is in
    let heard = load_hears c.steps_as_worlds.ensures c.loads_keep_running.ensures t s u r y m loading ties e.steps e.room e.fits in
    let h = load_tied c.steps_as_worlds.ensures c.loads_as_worlds.ensures.heard c.seats_as_actors.ensures c.loads_stay_own.ensures
    c.copies_by_stage.ensures.others t s u r c.on_load_step.new.self y m c.on_load_step.result c.args.bases.now loading ties
    c.steps.invariant.1
    e.steps c.on_load_step.ensures.does ((c.on_load_step.ensures.keeps (laid_in t)).running heard.1) c.on_load_step.ensures.goes in
    h.0

pub returns-in-Loading-clause-own : goal.returns-in-Loading-clause-own
returns-in-Loading-clause-own g c =
    let t = c.args.table.now in
    let s = c.steps.seat in
    let u = c.step_words-told.new.seat in
    let r = c.steps.actor in
    let y = c.step_words-told.new.actor in
    let e = c.step_words-told.ensures in
    let m = c.step_words-told.result in
    let ties = c.steps.invariant.0 in
    let loading = ap (λ (z : Stage _). is_loading (stage_of z)) c.in-Loading.is in
    let heard = load_hears c.steps_as_worlds.ensures c.loads_keep_running.ensures t s u r y m loading ties e.steps e.room e.fits in
    let h = load_tied c.steps_as_worlds.ensures c.loads_as_worlds.ensures.heard c.seats_as_actors.ensures c.loads_stay_own.ensures
    c.copies_by_stage.ensures.others t s u r c.on_load_step.new.self y m c.on_load_step.result c.args.bases.now loading ties
    c.steps.invariant.1
    e.steps c.on_load_step.ensures.does ((c.on_load_step.ensures.keeps (laid_in t)).running heard.1) c.on_load_step.ensures.goes in
    h.2

-- and at any other stage
pub on_step-requires : goal.on_step-requires
on_step-requires g c =
    (running_moved (laid_in c.args.table.now) c.steps.actor c.step_words-told.new.actor c.step_words-told.ensures.fits
    (not_loading c.steps.actor.stage c.in_default.not-Loading) c.steps.invariant.0.running).room

pub returns-in_default-clause-leads : goal.returns-in_default-clause-leads
returns-in_default-clause-leads g c =
    let t = c.args.table.now in
    let s = c.steps.seat in
    let u = c.step_words-told.new.seat in
    let r = c.steps.actor in
    let y = c.step_words-told.new.actor in
    let e = c.step_words-told.ensures in
    let ties = c.steps.invariant.0 in
    let due = ap (λ (z : Stage _). next_of (stage_of z)) c.steps.invariant.2 ∙ c.requires.due in
    let quiet = not_loading r.stage c.in_default.not-Loading in
    let h = word_turned c.steps_as_worlds.ensures t s u r c.on_step.new.self y c.step_words-told.result c.on_step.result due quiet ties
    e.steps c.on_step.ensures.does
    ((c.on_step.ensures.keeps (laid_in t)).running (running_moved (laid_in t) r y e.fits quiet ties.running)) in
    subst (λ (n : ActorNotice _). LeadsOn (opening_of t) c.args.seat.now u n) c.report-in_default.ensures.told
    (leads_on t c.args.seat.now s u r c.on_step.result c.steps.invariant.3 ties h.1
    (ap (λ (z : Stage _). next_of (stage_of z)) c.steps.invariant.2 ∙ c.requires.due)
    (subst (λ (z : Stage _). z ≡ stage.Closing → ⊥) (sym c.steps.invariant.2) c.requires.open) c.requires.small)

pub returns-in_default-clause-ties : goal.returns-in_default-clause-ties
returns-in_default-clause-ties g c =
    let t = c.args.table.now in
    let s = c.steps.seat in
    let u = c.step_words-told.new.seat in
    let r = c.steps.actor in
    let y = c.step_words-told.new.actor in
    let e = c.step_words-told.ensures in
    let ties = c.steps.invariant.0 in
    let due = ap (λ (z : Stage _). next_of (stage_of z)) c.steps.invariant.2 ∙ c.requires.due in
    let quiet = not_loading r.stage c.in_default.not-Loading in
    let h = word_turned c.steps_as_worlds.ensures t s u r c.on_step.new.self y c.step_words-told.result c.on_step.result due quiet ties
    e.steps c.on_step.ensures.does
    ((c.on_step.ensures.keeps (laid_in t)).running (running_moved (laid_in t) r y e.fits quiet ties.running)) in
    h.0

pub returns-in_default-clause-own : goal.returns-in_default-clause-own
returns-in_default-clause-own g c =
    let t = c.args.table.now in
    let s = c.steps.seat in
    let u = c.step_words-told.new.seat in
    let r = c.steps.actor in
    let y = c.step_words-told.new.actor in
    let e = c.step_words-told.ensures in
    let ties = c.steps.invariant.0 in
    let due = ap (λ (z : Stage _). next_of (stage_of z)) c.steps.invariant.2 ∙ c.requires.due in
    let quiet = not_loading r.stage c.in_default.not-Loading in
    let h = word_turned c.steps_as_worlds.ensures t s u r c.on_step.new.self y c.step_words-told.result c.on_step.result due quiet ties
    e.steps c.on_step.ensures.does
    ((c.on_step.ensures.keeps (laid_in t)).running (running_moved (laid_in t) r y e.fits quiet ties.running)) in
    c.turns_keep_own.ensures.words t s u r c.on_step.new.self c.on_step.result c.args.bases.now ties c.steps.invariant.1 h.1 h.0
    (c.on_step.ensures.leaves quiet) due quiet
