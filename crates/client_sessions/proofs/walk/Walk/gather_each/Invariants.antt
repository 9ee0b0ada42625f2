use Rattle.std.proofs.Common.{◌≡◌, ℕ, drop, Option}
use Rattle.seq_model.specs.Programs.{after}
use Rattle.vac_model.specs.declared.item.Item.{Item}
use Rattle.client_sessions.specs.Drafts.{AreSound}
use Rattle.client_sessions.specs.Sessions.{SessionProgram, gather}
use Rattle.client_sessions.proofs.walk.Walk.gather_each.Given as goal

abbrev pub invariant-loop-ask : goal.invariant-loop-ask
invariant-loop-ask l = record {
  gathered : (next : Option (ℕ × Item) → Option (ℕ × Item) → Option (ℕ × Item) → SessionProgram)
      → after (gather l.asks l.fn.best.car l.fn.best.flight l.fn.best.room next) l.fn.self
      ≡ after (gather (drop l.ask-index l.asks) l.best.car l.best.flight l.best.room next) l.self;
  sound : AreSound l.best;
}
