use Rattle.std.proofs.Common.{refl, sym, ◌∙◌}
use Rattle.std.proofs.lemmas.Option.{slice_get_read}
use Rattle.vacation_core.proofs.AskLemmas.{never_up}
use Rattle.vacation_core.proofs.TurnLemmas.{asks_at, place_lt}
use Rattle.vacation_core.proofs.world.VacWorld.ask_next.Goals as goal

pub call-requires-clause-asks : goal.call-requires-clause-asks
call-requires-clause-asks c =
    let v = c.args.self.now in
    let d = c.index.result.now in
    let got = slice_get_read v.clients.items _ c.args.i d refl (place_lt c.args.i v c.requires) c.index.ensures in
    asks_at c.args.i v d _ got (sym c.in_ok-ask.ensures ∙ c.in-Call.is)

pub commit-requires-clause-asks : goal.commit-requires-clause-asks
commit-requires-clause-asks c =
    let v = c.args.self.now in
    let d = c.index.result.now in
    let got = slice_get_read v.clients.items _ c.args.i d refl (place_lt c.args.i v c.requires) c.index.ensures in
    asks_at c.args.i v d _ got (sym c.in_ok-ask.ensures ∙ c.in-Done.is)

pub returns-in-GiveUp-clause-ok : goal.returns-in-GiveUp-clause-ok
returns-in-GiveUp-clause-ok c = λ k to x.
    let v = c.args.self.now in
    let d = c.index.result.now in
    let got = slice_get_read v.clients.items _ c.args.i d refl (place_lt c.args.i v c.requires) c.index.ensures in
    absurd (never_up c.args.i k v to c.requires (asks_at c.args.i v d _ got (sym c.in_ok-ask.ensures ∙ c.in-GiveUp.is)) x)
