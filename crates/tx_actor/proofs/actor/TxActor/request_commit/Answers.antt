use Rattle.std.proofs.Common.{◌≡◌, ◌≢◌, ◌<◌, ℕ, List, [], length, refl, sym, ap, subst, ◌∙◌}
use Rattle.seq_model.specs.declared.call.Call.{Call}
use Rattle.seq_model.specs.declared.call.Reply.{Reply}
use Rattle.replay_log.specs.Worlds as worlds
use Rattle.replay_log.specs.Worlds.{Seat, at_stage}
use Rattle.tx_actor.specs.Running.{seat_of}
use Rattle.tx_actor.specs.declared.actor.Stage.TheVariants as stage
use Rattle.tx_actor.specs.declared.actor.TxActor.{TxActor}
use Rattle.tx_actor.proofs.AskLemmas.{closes_as, locks_as, none_there, some_there}
use Rattle.std.specs.List.{All}
use Rattle.actor_parts.specs.Requests.{KeepsAt}
use Rattle.actor_parts.proofs.HomesLemmas.{homes_below}
use Rattle.tx_actor.proofs.ActorBoundsLemmas.{keeps_asked}
use Rattle.tx_actor.proofs.actor.TxActor.request_commit.Goals as goal

-- a seat whose calls are the same in another list
with_calls : {V : Type 0} (x : Seat V) {now : List (Call V × Reply V)} → now ≡ x.calls → record x { calls = now } ≡ x
with_calls x same = ap (λ cs. record x { calls = cs }) same

pub returns-then-len-eq0-clause-ok : goal.returns-then-len-eq0-clause-ok
returns-then-len-eq0-clause-ok g c a w laid s =
    let r = c.args.self.now in
    let u : TxActor g.row.V.Denot = record r {
      words = c.close_words.new.words;
      stage = stage.Closing;
      calls = c.move_calls.new.calls;
      made = c.move_calls.new.made;
    } in
    let none : r.words.writes.entries ≡ [] = none_there r.words.writes.entries (sym c.len.ensures ∙ c.if-len-eq0.true) in
    closes_as c.args.blocks.now r u none refl (λ st. with_calls (at_stage (seat_of r) worlds.Closing) c.move_calls.ensures)
    c.in_ok-close_words.ensures.actor a w laid s

pub returns-clause-ok : goal.returns-clause-ok
returns-clause-ok g c a w laid s =
    let r = c.args.self.now in
    let homes = c.in_ok-homes.homes in
    let u : TxActor g.row.V.Denot = record r {
      words = c.lock_words.new.words;
      stage = stage.Locking homes;
      calls = c.move_calls-2.new.calls;
      made = c.move_calls-2.new.made;
    } in
    let some : r.words.writes.entries ≢ [] = some_there r.words.writes.entries (λ e. c.if-len-eq0.false (c.len.ensures ∙ e)) in
    locks_as c.args.blocks.now r u homes some refl (λ st. with_calls (at_stage (seat_of r) worlds.Locking) c.move_calls-2.ensures)
    c.in_ok-lock_words.ensures.actor c.in_ok-homes.ensures a w laid s

-- the bounds and the room
pub returns-then-len-eq0-clause-keeps : goal.returns-then-len-eq0-clause-keeps
returns-then-len-eq0-clause-keeps g c quiet =
    let r = c.args.self.now in
    let v = c.args.blocks.now in
    let u : TxActor g.row.V.Denot = record r {
      words = c.close_words.new.words;
      stage = stage.Closing;
      calls = c.move_calls.new.calls;
      made = c.move_calls.new.made;
    } in
    keeps_asked v r u (subst (λ (n : ℕ). KeepsAt n r.words u.words) c.end.ensures c.close_words.ensures.keeps) (λ h. tt) (λ h. tt) refl

pub returns-clause-keeps : goal.returns-clause-keeps
returns-clause-keeps g c quiet =
    let r = c.args.self.now in
    let v = c.args.blocks.now in
    let homes = c.in_ok-homes.homes in
    let u : TxActor g.row.V.Denot = record r {
      words = c.lock_words.new.words;
      stage = stage.Locking homes;
      calls = c.move_calls-2.new.calls;
      made = c.move_calls-2.new.made;
    } in
    let named : All (λ (k : ℕ). k < length v.blocks) homes.items =
    subst (All (λ (k : ℕ). k < length v.blocks)) (sym c.in_ok-homes.ensures) (homes_below v r.words.writes.entries) in
    keeps_asked v r u (subst (λ (n : ℕ). KeepsAt n r.words u.words) c.end-2.ensures c.lock_words.ensures.keeps) (λ h. tt) (λ h. named) refl
