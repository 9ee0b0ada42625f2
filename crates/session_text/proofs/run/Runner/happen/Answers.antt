use Rattle.std.proofs.Common.{◌∙◌, refl, sym, ap₂, ℕ, Bool, true, false, append-nil}
use Rattle.session_text.specs.Plays.{noted}
use Rattle.session_text.proofs.PlayLemmas.{loud_notice, played_one}
use Rattle.seq_model.specs.declared.event.Notice.TheVariants.{Quiet}
use Rattle.session_text.proofs.run.Runner.happen.Goals as goal

pub returns-in-Quiet : goal.returns-in-Quiet
returns-in-Quiet c =
    let waiting = c.note.ensures.waiting ∙ ap₂ (λ (a : ℕ) (b : Bool). noted c.args.self.now.waiting.items a b true) c.whose-actor.ensures
    c.is_request-asks.ensures in
    rw (c.note.ensures.world, c.note.ensures.transcript, c.in_ok-keep.ensures)
    (played_one _ _ _ _ _ Quiet _ _ _ (rw c.in-Quiet.is at c.in_ok-notice.ensures.ok) (sym (append-nil c.args.self.now.transcript.notices))
    refl refl refl waiting)

pub returns : goal.returns
returns c =
    let loud = loud_notice c.in_ok-notice.notice c.in_default.not-Quiet in
    let waiting = c.note-2.ensures.waiting ∙ ap₂ (λ (a : ℕ) (b : Bool). noted c.args.self.now.waiting.items a b false)
    c.whose-actor.ensures c.is_request-asks.ensures in
    rw (c.note-2.ensures.world, c.note-2.ensures.transcript, c.in_ok-push.ensures.ok, c.in_ok-keep.ensures)
    (played_one _ _ _ _ _ c.in_ok-notice.notice _ _ _ c.in_ok-notice.ensures.ok (rw loud.1 refl) refl refl loud.0 waiting)
