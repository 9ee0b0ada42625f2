use Rattle.std.proofs.Common.{rules, ◌≡◌, ◌++◌, ◌∙◌, ap, arith, length, map, refl, sym, subst}
use Rattle.std.specs.Prelude.{All}
use Rattle.std.proofs.lemmas.List.Elements.{All-push, length_all_zip}
use Rattle.shared_table.specs.Seated.{view}
use Rattle.tx_engine.specs.declared.seats.TxSeat.{TxSeat}
use Rattle.tx_client.specs.Backs.{shares_at}
use Rattle.tx_client.specs.Clients.{last_at}
use Rattle.tx_client.specs.Frames.{receipts_at}
use Rattle.tx_client.proofs.FrameLemmas.{own_is}
use Rattle.wolimevar.specs.Sessions.{HaveServed, IsDone, IsDue, joined}
use Rattle.wolimevar.proofs.SessionLemmas.{all_due, all_have_served, finished_all, first_taken, served_apart, zip_alone}
use Rattle.wolimevar.proofs.sessions.serve_full.Goals as goal

pub serve_all-requires-clause-due : goal.serve_all-requires-clause-due
serve_all-requires-clause-due g c κs within =
    let t = c.args.table.now in
    let ps = c.prepare_all.new.tasks.items in
    subst (All (IsDue t)) (sym (c.as_mut_slice.ensures.value ∙ c.push_reserved.ensures.items))
    (All-push (IsDue t) ps _ (all_due t ps c.prepare_all.ensures.wait)
    (record {
      own = c.prepare_all.new.seat;
      seat = refl;
      ready = c.prepare_all.ensures.ready;
      waiting = c.remove-first.result;
      session = refl;
    }))

pub join_others-seat-requires-clause-ended : goal.join_others-seat-requires-clause-ended
join_others-seat-requires-clause-ended g c =
    let now = c.serve_all.new.tasks in
    let pushed = c.push_reserved.new.self in
    let long : length now ≡ length pushed.items = search rules in
    let len : pushed.len ≡ length pushed.items = search rules in
    (served_apart c.args.table.now g.N.Session.serves c.prepare_all.new.tasks.items pushed.items c.as_mut_slice.result.now now
    c.pop.new.self.items _ c.in-Some.own pushed.len c.push_reserved.ensures.items c.as_mut_slice.ensures.value len long
    c.serve_all.ensures.done c.in-Some.ensures.items).1.ended

pub join_others-seat-requires-clause-finished : goal.join_others-seat-requires-clause-finished
join_others-seat-requires-clause-finished g c =
    let t = c.args.table.now in
    let ps = c.prepare_all.new.tasks.items in
    let qs = c.pop.new.self.items in
    let now = c.serve_all.new.tasks in
    let pushed = c.push_reserved.new.self in
    let long : length now ≡ length pushed.items = search rules in
    let len : pushed.len ≡ length pushed.items = search rules in
    let apart = served_apart t g.N.Session.serves ps pushed.items c.as_mut_slice.result.now now qs _ c.in-Some.own pushed.len
    c.push_reserved.ensures.items c.as_mut_slice.ensures.value len long c.serve_all.ensures.done c.in-Some.ensures.items in
    finished_all t g.N.Session.serves ps qs (zip_alone t g.N.Session.serves ps qs c.prepare_all.ensures.wait apart.0)

pub returns-clause-whole : goal.returns-clause-whole
returns-clause-whole g c =
    let t = c.args.table.now in
    let ps = c.prepare_all.new.tasks.items in
    let qs = c.pop.new.self.items in
    let now = c.serve_all.new.tasks in
    let pushed = c.push_reserved.new.self in
    let long : length now ≡ length pushed.items = search rules in
    let len : pushed.len ≡ length pushed.items = search rules in
    let apart = served_apart t g.N.Session.serves ps pushed.items c.as_mut_slice.result.now now qs _ c.in-Some.own pushed.len
    c.push_reserved.ensures.items c.as_mut_slice.ensures.value len long c.serve_all.ensures.done c.in-Some.ensures.items in
    let d = apart.1 in
    let began = own_is _ d.due.own c.prepare_all.new.seat d.due.seat refl in
    let own = ap shares_at d.ended.seat ∙ d.goes.shares ∙ ap (λ (x : TxSeat g.row.V.Denot). (view x.seat).shares) began in
    let left = c.prepare_all.ensures.left.shares in
    let lent = ap (λ (x : TxSeat g.row.V.Denot). (view x.seat).shares) c.get_mut.ensures.value in
    let whole = c.requires.whole in
    let many = length_all_zip (IsDone t g.N.Session.serves) ps qs apart.0 in
    let joins = c.join_others-seat.ensures.shares in
    omega (arith, own, left, lent, whole, many, joins)

pub returns-clause-last : goal.returns-clause-last
returns-clause-last g c =
    let t = c.args.table.now in
    let ps = c.prepare_all.new.tasks.items in
    let qs = c.pop.new.self.items in
    let now = c.serve_all.new.tasks in
    let pushed = c.push_reserved.new.self in
    let long : length now ≡ length pushed.items = search rules in
    let len : pushed.len ≡ length pushed.items = search rules in
    let apart = served_apart t g.N.Session.serves ps pushed.items c.as_mut_slice.result.now now qs _ c.in-Some.own pushed.len
    c.push_reserved.ensures.items c.as_mut_slice.ensures.value len long c.serve_all.ensures.done c.in-Some.ensures.items in
    let d = apart.1 in
    let began = ap (λ (x : TxSeat g.row.V.Denot). x.seat.last) (own_is _ d.due.own c.prepare_all.new.seat d.due.seat refl) in
    let left = c.prepare_all.ensures.left.last in
    let lent = ap (λ (x : TxSeat g.row.V.Denot). x.seat.last) c.get_mut.ensures.value in
    let goes = d.goes.last in
    let ended = ap last_at d.ended.seat in
    let joins = c.join_others-seat.ensures.last in
    omega (arith, began, left, lent, goes, ended, joins)

pub returns-clause-all : goal.returns-clause-all
returns-clause-all g c =
    let t = c.args.table.now in
    let ps = c.prepare_all.new.tasks.items in
    let qs = c.pop.new.self.items in
    let now = c.serve_all.new.tasks in
    let pushed = c.push_reserved.new.self in
    let long : length now ≡ length pushed.items = search rules in
    let len : pushed.len ≡ length pushed.items = search rules in
    let apart = served_apart t g.N.Session.serves ps pushed.items c.as_mut_slice.result.now now qs _ c.in-Some.own pushed.len
    c.push_reserved.ensures.items c.as_mut_slice.ensures.value len long c.serve_all.ensures.done c.in-Some.ensures.items in
    let d = apart.1 in
    let had =
    ap (λ (x : TxSeat g.row.V.Denot). (view x.seat).receipts) (own_is _ d.due.own c.prepare_all.new.seat d.due.seat refl)
    ∙ c.prepare_all.ensures.left.receipts
    ∙ ap (λ (x : TxSeat g.row.V.Denot). (view x.seat).receipts) c.get_mut.ensures.value in
    let full = c.requires.full in
    let outs = c.join_others-seat.new.outs.items in
    let before = (view c.args.seat.seat).receipts in
    let after = (view c.join_others-seat.result.seat).receipts in
    subst (λ ss. HaveServed g.N.Session.serves ss outs before after)
    (sym (first_taken c.args.sessions.items c.remove-first.new.self.items c.remove-first.result (omega (arith, full)) c.remove-first.ensures.value
    c.remove-first.ensures.by_index.2))
    (all_have_served t g.N.Session.serves c.remove-first.result c.remove-first.new.self.items _ c.in-Some.own ps qs outs before after d refl had
    (zip_alone t g.N.Session.serves ps qs c.prepare_all.ensures.wait apart.0) c.in-Ok-prepare_all.ensures.sessions
    c.join_others-seat.ensures.outs
    (c.join_others-seat.ensures.receipts
    ∙ ap (λ s. receipts_at s ++ joined (map (λ p. receipts_at p.seat) qs)) d.ended.seat))
