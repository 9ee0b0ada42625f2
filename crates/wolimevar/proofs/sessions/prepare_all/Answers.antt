use Rattle.std.proofs.Common.{◌∙◌, ap, arith, length, map, refl, sym, subst}
use Rattle.std.specs.Prelude.{All}
use Rattle.std.proofs.lemmas.List.{length_push}
use Rattle.std.proofs.lemmas.List.Elements.{All-nil}
use Rattle.wolimevar.specs.Sessions.{IsWaiting}
use Rattle.wolimevar.specs.Splits.{HasLeft}
use Rattle.wolimevar.proofs.SessionLemmas.{prepared_more}
use Rattle.wolimevar.proofs.SplitLemmas.{left_none, then_left}
use Rattle.wolimevar.proofs.sessions.prepare_all.Goals as goal

pub sessions-init : goal.sessions-init
sessions-init g c =
    let t = c.args.table.now in
    let s = c.args.seat.now.seat in
    let empty = c.requires.empty in
    record {
      ready = c.requires.ready;
      left = subst (λ ts. HasLeft (length ts) s s) (sym empty) (left_none s);
      wait = subst (All (IsWaiting t)) (sym empty) (All-nil (IsWaiting t));
      prepared = ap (λ ts. map (λ p. p.session) ts) empty;
      count = ap (λ ts. length ts) empty;
      room = refl;
    }

pub sessions-preserved : goal.sessions-preserved
sessions-preserved g c =
    let n = length_push c.sessions.yielded c.in-Some.session in
    let m = ap (λ qs. length qs) c.push_reserved.ensures.items ∙ length_push c.sessions.tasks.items _ in
    let l = c.sessions.invariant.count in
    let prepared = prepared_more c.args.table.now c.sessions.tasks.items c.push_reserved.new.self.items c.sessions.yielded _
    c.in-Some.session
    c.push_reserved.ensures.items
    (record {
      own = c.in_ok-own.own;
      seat = refl;
      unused = c.in_ok-own.ensures.unused;
      waiting = c.in-Some.session;
      session = refl;
    }) refl c.sessions.invariant.wait c.sessions.invariant.prepared in
    record {
      ready = c.split_off.ensures.ready;
      left = then_left _ 1 _ c.args.seat.now.seat c.sessions.seat.seat c.split_off.new.seat.seat c.sessions.invariant.left
          c.in_ok-own.ensures.left (sym m);
      wait = prepared.0;
      prepared = prepared.1;
      count = omega (arith, m, n, l);
      room = c.push_reserved.ensures.capacity ∙ c.sessions.invariant.room;
    }

pub returns-in_err-own-clause-left : goal.returns-in_err-own-clause-left
returns-in_err-own-clause-left g c =
    then_left _ 0 _ c.args.seat.now.seat c.sessions.seat.seat c.split_off.new.seat.seat c.sessions.invariant.left
    c.in_err-own.ensures.none (omega arith)
