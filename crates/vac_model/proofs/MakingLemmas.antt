-- Changes that were admitted and then settled are made. What was admitted has at each key that is not changed what the tables had, so the
-- changes laid over it are the changes laid over the tables; and of a queue no more tickets of its own are taken off than it has, so those
-- that are given out at its end remain.
use Rattle.std.proofs.Common.{◌≡◌, ℕ, ◌+◌, ◌≤◌, true, List, ◌++◌, length, drop, sym, ◌∙◌, ap, subst, arith}
use Rattle.std.specs.Prelude.{min, nat_le}
use Rattle.std.proofs.lemmas.List.{drop-append-le, drop_all}
use Rattle.std.proofs.lemmas.Bool.Decides.{nat_tests}
use Rattle.std.proofs.Math.Nat.{min-le_right, min-eq_left, min-eq_right}
use Rattle.std.proofs.lemmas.Bool.{cond_both}
use Rattle.vac_model.specs.declared.queue.Queue.{Queue}
use Rattle.vac_model.specs.declared.moves.Moves.{Moves}
use Rattle.vac_model.specs.declared.changes.TableChanges.{TableChanges}
use Rattle.vac_model.specs.declared.item.Kind.TheVariants.{Car, Flight, Room}
use Rattle.vac_model.specs.Holdings.{Holdings}
use Rattle.vac_model.specs.Balanced.{IsBalanced}
use Rattle.vac_model.specs.Overlays.{moved, with_changes}
use Rattle.vac_model.specs.Makings.{IsAdmitted, AreHeadsWithin, settled, lens, extended, without_taken, each_without_taken}
use Rattle.vac_model.proofs.OverlayLemmas.{laid_alike}

pub heads_within : (s t : Holdings) (c : TableChanges) → IsBalanced (with_changes s c) → IsAdmitted c s t → AreHeadsWithin t c
heads_within s t c b is =
    let next = b.next_within in
    let car = b.queues_within Car in
    let flight = b.queues_within Flight in
    let room = b.queues_within Room in
    subst (λ w. let u : Holdings = record t { waiting = w } in AreHeadsWithin u c) (sym is.waiting)
    (omega (arith, next, car), omega (arith, next, flight), omega (arith, next, room))

drop_min : (n : ℕ) (xs : List ℕ) → drop (min n (length xs)) xs ≡ drop n xs
drop_min n xs =
    cond_both (nat_le n (length xs)) true true (λ _. drop (min n (length xs)) xs ≡ drop n xs)
    (λ few. ap (λ k. drop k xs) (min-eq_left (let le : n ≤ length xs = grind (arith, nat_tests) in le)))
    (λ many.
    let le : length xs ≤ n = grind (arith, nat_tests) in
    ap (λ k. drop k xs) (min-eq_right le) ∙ drop_all (length xs) xs (omega arith) ∙ sym (drop_all n xs le))

queue_settled : (q : Queue) (m : Moves) → without_taken (extended q m) m (length q.tickets) ≡ moved q m
queue_settled q m =
    let le : min m.taken (length q.tickets) ≤ length q.tickets = min-le_right m.taken (length q.tickets) in
    let tickets : drop (min m.taken (length q.tickets)) (q.tickets ++ m.given) ≡ drop m.taken q.tickets ++ m.given =
    drop-append-le (min m.taken (length q.tickets)) q.tickets m.given le ∙ ap (λ l. l ++ m.given) (drop_min m.taken q.tickets) in
    (λ i. record { head = q.head + m.off; tickets = tickets i })

pub settles : (s t : Holdings) (c : TableChanges) → IsAdmitted c s t → settled t c (lens s.waiting) ≡ with_changes s c
settles s t c is =
    let car = laid_alike s.items.car t.items.car c.items.car is.items.0 in
    let flight = laid_alike s.items.flight t.items.flight c.items.flight is.items.1 in
    let room = laid_alike s.items.room t.items.room c.items.room is.items.2 in
    let customers = laid_alike s.customers t.customers c.customers is.customers in
    let tickets = laid_alike s.tickets t.tickets c.tickets is.tickets in
    let waiting = ap (λ w. each_without_taken w c.waiting (lens s.waiting)) is.waiting in
    let cars = queue_settled s.waiting.car c.waiting.car in
    let flights = queue_settled s.waiting.flight c.waiting.flight in
    let rooms = queue_settled s.waiting.room c.waiting.room in
    let queues = waiting ∙ (λ i. record { car = cars i; flight = flights i; room = rooms i }) in
    (λ i. record {
      items = record { car = car i; flight = flight i; room = room i };
      customers = customers i;
      tickets = tickets i;
      waiting = queues i;
      next = c.next;
    })
