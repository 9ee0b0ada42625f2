use Rattle.std.proofs.Common.{ℕ, subst, sym}
use Rattle.client_sessions.specs.Noted.{AreChanged}
use Rattle.client_sessions.proofs.ChangedLemmas.{changed_in, none_changed}
use Rattle.client_sessions.proofs.update.passed_in.Goals as goal

pub returns-then-place-eq0 : goal.returns-then-place-eq0
returns-then-place-eq0 c = λ changes replies is.
    subst (λ (n : ℕ). AreChanged changes replies n 0) (sym c.if-place-eq0.true) (none_changed changes replies)

pub returns : goal.returns
returns c = λ changes replies is. changed_in changes replies c.args.place.now c.if-place-eq0.false is
