use Rattle.std.proofs.Common.{◌+◌, sym, subst}
use Rattle.std.specs.Prelude.{OnOk}
use Rattle.vacation_core.specs.Plays.{Play, hears}
use Rattle.vacation_core.specs.Running.{Hears, IsPlay}
use Rattle.vacation_core.proofs.NextSessionLemmas.{unheard}
use Rattle.vacation_core.proofs.world.VacWorld.hear.Goals as goal

pub returns-in-Quiet : goal.returns-in-Quiet
returns-in-Quiet c =
    subst (λ n. (p : Play) → Hears c.args.i n c.args.self.now p → IsPlay c.args.self.now (hears (c.args.i + 1) n p)) (sym c.in-Quiet.is)
    (λ p h. unheard c.args.i c.args.self.now p h)

pub returns-in-Answered : goal.returns-in-Answered
returns-in-Answered c =
    subst (λ n. OnOk c.hear_answer.result ((p : Play) → Hears c.args.i n c.args.self.now p
    → IsPlay c.hear_answer.new.self (hears (c.args.i + 1) n p))) (sym c.in-Answered.is) c.hear_answer.ensures

pub returns-in-Refused : goal.returns-in-Refused
returns-in-Refused c =
    subst (λ n. OnOk c.hear_refusal.result ((p : Play) → Hears c.args.i n c.args.self.now p
    → IsPlay c.hear_refusal.new.self (hears (c.args.i + 1) n p))) (sym c.in-Refused.is) c.hear_refusal.ensures
