use Rattle.std.proofs.Common.{◌≡◌, ℕ, drop, Option}
use Rattle.seq_model.specs.Programs.{after}
use Rattle.vac_model.specs.declared.item.Item.{Item}
use Rattle.client_sessions.specs.Drafts.{AreSound}
use Rattle.client_sessions.specs.Sessions.{SessionProgram, gather}
use Rattle.client_sessions.proofs.reserve.improve_all.Given as goal

abbrev pub invariant-loop-i : goal.invariant-loop-i
invariant-loop-i l = record {
  gathered : (next : Option (ℕ × Item) → Option (ℕ × Item) → Option (ℕ × Item) → SessionProgram)
      → after (gather l.asks l.fn.best.car l.fn.best.flight l.fn.best.room next) l.replies
      ≡ after (gather (drop l.i l.asks) l.best.car l.best.flight l.best.room next) (drop l.i l.replies);
  sound : AreSound l.best;
}
