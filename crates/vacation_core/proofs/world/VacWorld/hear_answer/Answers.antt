use Rattle.std.proofs.Common.{◌+◌, ap, refl, sym, subst}
use Rattle.std.specs.Prelude.{OnOk, slice_set}
use Rattle.std.proofs.lemmas.Option.{slice_get_read}
use Rattle.std.proofs.lemmas.Result.{IfOk-weaker}
use Rattle.seq_model.specs.declared.event.Notice.TheVariants.{Answered}
use Rattle.vacation_core.specs.Plays.{Play, hears}
use Rattle.vacation_core.specs.Running.{Hears, IsPlay}
use Rattle.vacation_core.proofs.NextSessionLemmas.{begun_asks, replied_asks}
use Rattle.vacation_core.proofs.TurnLemmas.{place_lt, place_set}
use Rattle.vacation_core.proofs.world.VacWorld.hear_answer.Goals as goal

pub go_on-requires-in-Replied : goal.go_on-requires-in-Replied
go_on-requires-in-Replied c =
    place_set c.args.i c.args.self.now _ c.join.new.self refl c.requires

pub returns-in-Begun : goal.returns-in-Begun
returns-in-Begun c =
    let v = c.args.self.now in
    subst (λ x. OnOk c.go_on.result ((p : Play) → Hears c.args.i (Answered c.args.actor x) v p
    → IsPlay c.go_on.new.self (hears (c.args.i + 1) (Answered c.args.actor x) p))) (sym c.in-Begun.is)
    (IfOk-weaker c.go_on.result _ _ (λ _ h p x. h _ (begun_asks c.args.i c.args.actor _ v p x)) c.go_on.ensures)

pub returns-in_ok-join-in-Replied : goal.returns-in_ok-join-in-Replied
returns-in_ok-join-in-Replied c =
    let v = c.args.self.now in
    let d = c.index_mut.result.now in
    let got = slice_get_read v.clients.items _ c.args.i d refl (place_lt c.args.i v c.requires) c.index_mut.ensures.value in
    subst (λ x. OnOk c.go_on-in-Replied.result ((p : Play) → Hears c.args.i (Answered c.args.actor x) v p
    → IsPlay c.go_on-in-Replied.new.self (hears (c.args.i + 1) (Answered c.args.actor x) p))) (sym c.in-Replied.is)
    (IfOk-weaker c.go_on-in-Replied.result _ _ (λ _ h p x. h _ (replied_asks c.args.i c.args.actor c.in-Replied.reply v _ d p got refl refl
    (ap (λ y. slice_set v.clients.items c.args.i y) c.in_ok-join-in-Replied.ensures) x)) c.go_on-in-Replied.ensures)

pub returns-in-Committed : goal.returns-in-Committed
returns-in-Committed c =
    let v = c.args.self.now in
    subst (λ x. OnOk c.hear_commit.result ((p : Play) → Hears c.args.i (Answered c.args.actor x) v p
    → IsPlay c.hear_commit.new.self (hears (c.args.i + 1) (Answered c.args.actor x) p))) (sym c.in-Committed.is)
    (IfOk-weaker c.hear_commit.result _ _ (λ _ h p x. h p c.args.actor c.in-Committed.field-0 x) c.hear_commit.ensures)

pub returns-in-Aborted : goal.returns-in-Aborted
returns-in-Aborted c =
    let v = c.args.self.now in
    subst (λ x. OnOk c.hear_end.result ((p : Play) → Hears c.args.i (Answered c.args.actor x) v p
    → IsPlay c.hear_end.new.self (hears (c.args.i + 1) (Answered c.args.actor x) p))) (sym c.in-Aborted.is)
    (IfOk-weaker c.hear_end.result _ _ (λ _ h p x. h p c.args.actor x) c.hear_end.ensures)
