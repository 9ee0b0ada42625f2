use Rattle.std.proofs.Common.{rules, ◌≡◌, ◌++◌, ◌∙◌, Some, ap, arith, length, map, sym, subst}
use Rattle.std.specs.Prelude.{All, drop, take}
use Rattle.std.specs.List.{AllZip}
use Rattle.shared_table.specs.Seated.{view}
use Rattle.wolimevar.specs.Sessions.{IsDone, IsDue, IsFinished, IsServed}
use Rattle.tx_client.specs.Frames.{receipts_at}
use Rattle.wolimevar.proofs.SessionLemmas.{all_due, all_own, all_served, as_long, finished_all, joined_behind, whole_slice, zip_alone, zip_of}
use Rattle.wolimevar.proofs.sessions.serve_few.Goals as goal

pub serve_all-requires-clause-due : goal.serve_all-requires-clause-due
serve_all-requires-clause-due g c κs within =
    subst (All (IsDue c.args.table.now)) (sym c.as_mut_slice.ensures.value)
    (all_due c.args.table.now c.prepare_all.new.tasks.items c.prepare_all.ensures.wait)

pub join_all-requires-clause-finished : goal.join_all-requires-clause-finished
join_all-requires-clause-finished g c =
    let old = c.prepare_all.new.tasks.items in
    let now = c.serve_all.new.tasks in
    let long : length now ≡ length old = search rules in
    let len : c.prepare_all.new.tasks.len ≡ length old = search rules in
    let whole = whole_slice now old c.prepare_all.new.tasks.len len long in
    let Done = IsDone c.args.table.now g.N.Session.serves in
    let same = c.as_mut_slice.ensures.value in
    let zip = zip_alone c.args.table.now g.N.Session.serves old now c.prepare_all.ensures.wait
    (subst (λ ps. AllZip Done ps now) same
    (zip_of Done c.as_mut_slice.result.now now (long ∙ ap (λ ps. length ps) (sym same)) c.serve_all.ensures.done)) in
    subst (All (IsFinished c.args.table.now)) (sym whole) (finished_all c.args.table.now g.N.Session.serves old now zip)

pub join_all-requires-clause-room : goal.join_all-requires-clause-room
join_all-requires-clause-room g c =
    let old = c.prepare_all.new.tasks.items in
    let now = c.serve_all.new.tasks in
    let long : length now ≡ length old = search rules in
    let len : c.prepare_all.new.tasks.len ≡ length old = search rules in
    let whole = ap (λ ps. length ps) (whole_slice now old c.prepare_all.new.tasks.len len long) in
    let many = as_long _ _ old c.args.sessions.items c.in-Ok-prepare_all.ensures.sessions in
    let room = c.in-Ok-with_capacity.ensures.capacity in
    let count = c.len-count.ensures in
    let empty = c.in-Ok-with_capacity.ensures.len in
    omega (arith, long, whole, many, room, count, empty)

pub returns-clause-whole : goal.returns-clause-whole
returns-clause-whole g c =
    let old = c.prepare_all.new.tasks.items in
    let now = c.serve_all.new.tasks in
    let long : length now ≡ length old = search rules in
    let len : c.prepare_all.new.tasks.len ≡ length old = search rules in
    let whole = ap (λ ps. length ps) (whole_slice now old c.prepare_all.new.tasks.len len long) in
    let split = c.prepare_all.ensures.left.shares in
    let joins = c.join_all.ensures.shares in
    let all = c.requires.whole in
    omega (arith, long, whole, split, joins, all)

pub returns-clause-all : goal.returns-clause-all
returns-clause-all g c =
    let old = c.prepare_all.new.tasks.items in
    let now = c.serve_all.new.tasks in
    let long : length now ≡ length old = search rules in
    let len : c.prepare_all.new.tasks.len ≡ length old = search rules in
    let whole = whole_slice now old c.prepare_all.new.tasks.len len long in
    let Done = IsDone c.args.table.now g.N.Session.serves in
    let same = c.as_mut_slice.ensures.value in
    let zip = zip_alone c.args.table.now g.N.Session.serves old now c.prepare_all.ensures.wait
    (subst (λ ps. AllZip Done ps now) same
    (zip_of Done c.as_mut_slice.result.now now (long ∙ ap (λ ps. length ps) (sym same)) c.serve_all.ensures.done)) in
    let left = take c.prepare_all.new.tasks.len (now ++ drop (length now) old) in
    record {
      lists = map (λ p. receipts_at p.seat) left;
      each = all_served c.args.table.now g.N.Session.serves old left c.args.sessions.items c.join_all.new.outs.items
          (subst (AllZip (IsServed c.args.table.now g.N.Session.serves) old) (sym whole) zip) c.in-Ok-prepare_all.ensures.sessions
          (sym (c.join_all.ensures.outs ∙ ap (λ os. map Some os ++ map (λ p. p.out) left) c.in-Ok-with_capacity.ensures.items));
      own = all_own c.args.table.now g.N.Session.serves old left (subst (AllZip (IsServed c.args.table.now g.N.Session.serves) old) (sym whole) zip);
      gains = joined_behind {N = g.row.N.Denot} {O =
          g.row.N-Out.Denot} c.args.table.now (view c.args.seat.now.seat).receipts (view c.prepare_all.new.seat.seat).receipts
          (view c.join_all.new.seat.seat).receipts left c.join_all.ensures.receipts c.prepare_all.ensures.left.receipts;
    }

pub returns-clause-asks : goal.returns-clause-asks
returns-clause-asks g c = c.join_all.ensures.asks ∙ c.prepare_all.ensures.left.asked

pub returns-clause-last : goal.returns-clause-last
returns-clause-last g c =
    let split = c.prepare_all.ensures.left.last in
    let joins = c.join_all.ensures.last in
    omega (arith, split, joins)
