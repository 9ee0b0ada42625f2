use mathlib.Core.Option.{some}
use Rattle.std.proofs.Common.{ap, true, refl, subst, sym}
use Rattle.shared_table.specs.Seated.{opening_of}
use Rattle.tx_engine.specs.Borrowed.{IsBegunSince}
use Rattle.tx_engine.specs.Ready.{HasBegunSince, IsReady}
use Rattle.tx_engine.specs.Requests.{KeepsReceipts}
use Rattle.tx_engine.proofs.tx.begin_read.Goals as goal

pub returns : goal.returns
returns g c =
    let t = c.args.table.now in
    let s = c.args.seat.now in
    let begun = c.in_ok-begin_read.ensures in
    let same = sym c.resume.ensures.same_seat in (
      (ap some (sym c.resume.ensures.same_reference), (λ w. refl), tt),
      record {
        refused = tt;
        same_reference = c.resume.ensures.same_reference;
        same_table = c.resume.ensures.same_table;
        ready = subst (IsReady t) same begun.ready;
        since = subst (HasBegunSince t) same begun.since;
        keeps = subst (λ u. KeepsReceipts s.seat u.seat) same begun.keeps;
        begun = subst (λ u. IsBegunSince true (opening_of t) s u) same record {
          rv = c.in_ok-begin_read.field-0;
          begun = begun.begun;
          last = begun.last;
          begins = begun.begins;
          asks = begun.asks;
          aborted = begun.aborted;
          noted = begun.noted;
          same = begun.same;
        };
      },
    )
