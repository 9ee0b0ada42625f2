-- Lines are made of a report, worker by worker and session by session.
-- What is missed rises by worker and by place, so the next session of a worker is missed exactly where the first of the missed jobs is its
-- own; else the next receipt is its. So the outcomes are read one after another, and each line shows the outcome of its session.
use Rattle.std.proofs.Common.{◌≡◌, ◌∙◌, refl, sym, ap, subst, ℕ, zero, suc, ◌+◌, ◌<◌, List, [], ◌∷◌, ◌++◌, length, get_or, arith, map}
use Rattle.std.specs.Prelude.{IfOk, Result, Ok, Err}
use Rattle.std.proofs.lemmas.List.{append_assoc, append-nil}
use Rattle.workers.specs.Deals.{AreDealtLike}
use Rattle.seq_model.specs.declared.record.Record.{Record}
use Rattle.vac_model.specs.declared.action.Action.{Action}
use Rattle.client_sessions.specs.declared.entry.Entry.{Entry}
use Rattle.seq_model.specs.declared.causes.LastAbort.{LastAbort}
use Rattle.tx_engine.specs.Tasks.{Outcome, missed_in, receipts_in}
use Rattle.text_formats.specs.declared.session_print.Line.{Line}
use Rattle.text_formats.specs.declared.session_print.Line.TheVariants as line
use Rattle.workers.specs.Serving.{all_missed}
use Rattle.command_line.specs.Lines.{AreLinesOf, IsLineOf}
use Rattle.command_line.specs.Unread.{AreAllLines, AreAllOwn, AreAllUnread, AreOwn, AreUnread, HasUnread, IsBeyond, IsFirst, IsNext}

abbrev pub Missed : Type 0
Missed = ℕ × ℕ × LastAbort

head_same : {A : Type 0} (x y : A) (xs ys : List A) → x ∷ xs ≡ y ∷ ys → x ≡ y
head_same x y xs ys e = cc

tail_same : {A : Type 0} (x y : A) (xs ys : List A) → x ∷ xs ≡ y ∷ ys → xs ≡ ys
tail_same x y xs ys e = cc

none_some : {A : Type 0} (y : A) (ys : List A) → [] ≡ y ∷ ys → ⊥
none_some y ys e = cc

pub both_ok : {X E : Type 0} (r : Result X E) (P Q R : X → Type 0) → IfOk r P → IfOk r Q → ((x : X) → P x → Q x → R x) → IfOk r R
both_ok (Ok x) P Q R p q f = f x p q
both_ok (Err e) P Q R p q f = tt

-- ---- which job is missed next
in_worker : (w place n : ℕ) (os : List (Outcome Entry)) (later : List Missed) → n < w → IsBeyond n later
    → IsBeyond n (missed_in w place os ++ later)
in_worker w place n [] later lt b = b
in_worker w place n (Ok r ∷ os) later lt b = in_worker w (place + 1) n os later lt b
in_worker w place n (Err cause ∷ os) later lt b = lt

pub others_beyond : (first n : ℕ) (outcomes : List (List (Outcome Entry))) → n < first → IsBeyond n (all_missed first outcomes)
others_beyond first n [] lt = tt
others_beyond first n (os ∷ more) lt =
    in_worker first 0 n os (all_missed (first + 1) more) lt (others_beyond (first + 1) n more (omega arith))

not_here : (w p q : ℕ) (os : List (Outcome Entry)) (later : List Missed) → p < q → IsBeyond w later
    → IsFirst w p (missed_in w q os ++ later) → ⊥
not_here w p q [] [] lt b first = first
not_here w p q [] (job ∷ jobs) lt b first = omega (arith, b, first.0)
not_here w p q (Ok r ∷ os) later lt b first = not_here w p (q + 1) os later (omega arith) b first
not_here w p q (Err cause ∷ os) later lt b first = omega (arith, first.1)

-- where it is the next session's, that one has no receipt
pub missed_next : (w p : ℕ) (a : Action) (o : Outcome Entry) (os : List (Outcome Entry)) (later : List Missed)
    (receipts : List (Record Entry)) (missed behind : List Missed) (job : Missed) → IsNext w p a o os later receipts missed
    → IsFirst w p missed → missed ≡ job ∷ behind
    → IsLineOf a o (line.Missed job.2) × (receipts ≡ receipts_in os) × (behind ≡ missed_in w (p + 1) os ++ later)
missed_next w p a (Ok r) os later receipts missed behind job is first at =
    absurd (not_here w p (p + 1) os later (omega arith) is.beyond (subst (IsFirst w p) is.missed_are first))
missed_next w p a (Err cause) os later receipts missed behind job is first at =
    let same : job ∷ behind ≡ (w, p, cause) ∷ (missed_in w (p + 1) os ++ later) = sym at ∙ is.missed_are in
    (ap (λ (j : Missed). line.Missed j.2) (head_same _ _ _ _ same), is.receipts_are, tail_same _ _ _ _ same)

-- and else it has the next one
pub receipt_next : (w p : ℕ) (a : Action) (o : Outcome Entry) (os : List (Outcome Entry)) (later : List Missed)
    (receipts behind : List (Record Entry)) (missed : List Missed) (receipt : Record Entry) → IsNext w p a o os later receipts missed
    → (IsFirst w p missed → ⊥) → receipts ≡ receipt ∷ behind
    → (Ok receipt ≡ o) × (behind ≡ receipts_in os) × (missed ≡ missed_in w (p + 1) os ++ later)
receipt_next w p a (Ok r) os later receipts behind missed receipt is other at =
    let same : receipt ∷ behind ≡ r ∷ receipts_in os = sym at ∙ is.receipts_are in
    (ap (λ (x : Record Entry). Ok x) (head_same _ _ _ _ same), tail_same _ _ _ _ same, is.missed_are)
receipt_next w p a (Err cause) os later receipts behind missed receipt is other at =
    absurd (other (subst (IsFirst w p) (sym is.missed_are) (refl, refl)))

pub some_receipt : (w p : ℕ) (a : Action) (o : Outcome Entry) (os : List (Outcome Entry)) (later : List Missed)
    (receipts : List (Record Entry)) (missed : List Missed) → IsNext w p a o os later receipts missed → (IsFirst w p missed → ⊥)
    → length receipts ≡ 0 → ⊥
some_receipt w p a (Ok r) os later receipts missed is other none =
    let many = ap (λ xs. length xs) is.receipts_are in
    omega (arith, many, none)
some_receipt w p a (Err cause) os later receipts missed is other none = other (subst (IsFirst w p) (sym is.missed_are) (refl, refl))

-- ---- a worker's sessions
-- those are left, with these outcomes, and lines for them complete the lines for all
pub record IsAt (w place : ℕ) (actions : List Action) (os : List (Outcome Entry)) (later : List Missed) (left : List Action)
    (unread : List (Record Entry)) (misses : List Missed) (lines : List Line) : Type 0 where
  pub rest : List (Outcome Entry)
  pub are : AreUnread w place left rest later unread misses
  pub goes : (ls : List Line) → AreLinesOf left rest ls → AreLinesOf actions os (lines ++ ls)

pub at_first : (w : ℕ) (actions : List Action) (os : List (Outcome Entry)) (later : List Missed) (receipts : List (Record Entry))
    (missed : List Missed) → AreUnread w 0 actions os later receipts missed → IsAt w 0 actions os later actions receipts missed []
at_first w actions os later receipts missed are = record { rest = os; are = are; goes = λ ls h. h }

-- the next of those that are left
pub record Comes (w place : ℕ) (a : Action) (more : List Action) (rest : List (Outcome Entry)) (later : List Missed)
    (unread : List (Record Entry)) (misses : List Missed) : Type 0 where
  pub o : Outcome Entry
  pub os : List (Outcome Entry)
  pub rest_is : rest ≡ o ∷ os
  pub is : IsNext w place a o os later unread misses
  pub own : AreOwn more os

pub next_of : (w place : ℕ) (a : Action) (more : List Action) (rest : List (Outcome Entry)) (later : List Missed)
    (unread : List (Record Entry)) (misses : List Missed) → AreUnread w place (a ∷ more) rest later unread misses
    → Comes w place a more rest later unread misses
next_of w place a more [] later unread misses are = absurd are.own
next_of w place a more (o ∷ os) later unread misses are = record {
  o = o;
  os = os;
  rest_is = refl;
  is = record { own = are.own.0; receipts_are = are.receipts_are; missed_are = are.missed_are; beyond = are.beyond };
  own = are.own.1;
}

pub at_next : (w place : ℕ) (actions : List Action) (os : List (Outcome Entry)) (later : List Missed) (a : Action) (left more : List Action)
    (unread behind : List (Record Entry)) (misses others : List Missed) (lines : List Line) (told : Line) → left ≡ a ∷ more
    → IsAt w place actions os later left unread misses lines
    → ((o : Outcome Entry) (ns : List (Outcome Entry)) (end : List Missed) → IsNext w place a o ns end unread misses
    → IsLineOf a o told × (behind ≡ receipts_in ns) × (others ≡ missed_in w (place + 1) ns ++ end))
    → IsAt w (place + 1) actions os later more behind others (lines ++ told ∷ [])
at_next w place actions os later a left more unread behind misses others lines told split at tells =
    let are = subst (λ xs. AreUnread w place xs at.rest later unread misses) split at.are in
    let next = next_of w place a more at.rest later unread misses are in
    let line = tells next.o next.os later next.is in
    let goes : (ls : List Line) → AreLinesOf (a ∷ more) (next.o ∷ next.os) ls → AreLinesOf actions os (lines ++ ls) =
    λ ls h. at.goes ls (subst (λ xs. AreLinesOf xs at.rest ls) (sym split)
    (subst (λ ns. AreLinesOf (a ∷ more) ns ls) (sym next.rest_is) h)) in
    record {
      rest = next.os;
      are = record { own = next.own; receipts_are = line.1; missed_are = line.2; beyond = next.is.beyond };
      goes = λ ls h. subst (AreLinesOf actions os) (sym (append_assoc lines (told ∷ []) ls)) (goes (told ∷ ls) (line.0, h));
    }

pub at_end : (w place : ℕ) (actions : List Action) (os : List (Outcome Entry)) (later : List Missed) (left : List Action)
    (unread : List (Record Entry)) (misses : List Missed) (lines : List Line) → length left ≡ 0
    → IsAt w place actions os later left unread misses lines → AreLinesOf actions os lines × (misses ≡ later)
at_end w place actions os later [] unread misses lines none at = done at.rest at.are at.goes
  where
    done : (rest : List (Outcome Entry)) → AreUnread w place [] rest later unread misses
        → ((ls : List Line) → AreLinesOf [] rest ls → AreLinesOf actions os (lines ++ ls)) → AreLinesOf actions os lines × (misses ≡ later)
    done [] are goes = (subst (AreLinesOf actions os) (append-nil lines) (goes [] tt), are.missed_are)
    done (o ∷ rest) are goes = absurd are.own
at_end w place actions os later (a ∷ left) unread misses lines none at = absurd (omega (arith, none))

-- ---- all workers
pub record IsAllAt (worker : ℕ) (lists : List (List Action)) (outcomes : List (List (Outcome Entry))) (left : List (List Action))
    (unread : List (List (Record Entry))) (misses : List Missed) (queues : List (List Line)) : Type 0 where
  pub rest : List (List (Outcome Entry))
  pub are : AreAllUnread worker left rest unread misses
  pub goes : (qs : List (List Line)) → AreAllLines left rest qs → AreAllLines lists outcomes (queues ++ qs)

pub all_at_first : (lists : List (List Action)) (outcomes : List (List (Outcome Entry))) (unread : List (List (Record Entry)))
    (misses : List Missed) → AreAllUnread 1 lists outcomes unread misses → IsAllAt 1 lists outcomes lists unread misses []
all_at_first lists outcomes unread misses are = record { rest = outcomes; are = are; goes = λ qs h. h }

-- the next worker's outcomes
pub record WorkerComes (worker : ℕ) (own : List Action) (more : List (List Action)) (rest : List (List (Outcome Entry)))
    (unread : List (List (Record Entry))) (misses : List Missed) : Type 0 where
  pub os : List (Outcome Entry)
  pub others : List (List (Outcome Entry))
  pub rest_is : rest ≡ os ∷ others
  pub unread_is : unread ≡ receipts_in os ∷ map receipts_in others
  pub are : AreUnread worker 0 own os (all_missed (worker + 1) others) (receipts_in os) misses
  pub others_own : AreAllOwn more others

pub worker_next : (worker : ℕ) (own : List Action) (more : List (List Action)) (rest : List (List (Outcome Entry)))
    (unread : List (List (Record Entry))) (misses : List Missed) → AreAllUnread worker (own ∷ more) rest unread misses
    → WorkerComes worker own more rest unread misses
worker_next worker own more [] unread misses are = absurd are.own
worker_next worker own more (os ∷ others) unread misses are = record {
  os = os;
  others = others;
  rest_is = refl;
  unread_is = are.receipts_are;
  are = record {
    own = are.own.0;
    receipts_are = refl;
    missed_are = are.missed_are;
    beyond = others_beyond (worker + 1) worker others (omega arith);
  };
  others_own = are.own.1;
}

-- there are the next worker's receipts
pub some_receipts : (worker : ℕ) (lists : List (List Action)) (outcomes : List (List (Outcome Entry))) (own : List Action)
    (left more : List (List Action)) (unread : List (List (Record Entry))) (misses : List Missed) (queues : List (List Line))
    → left ≡ own ∷ more → IsAllAt worker lists outcomes left unread misses queues → length unread ≡ 0 → ⊥
some_receipts worker lists outcomes own left more unread misses queues split at none =
    let next = worker_next worker own more at.rest unread misses
    (subst (λ xs. AreAllUnread worker xs at.rest unread misses) split at.are) in
    let many = ap (λ xs. length xs) next.unread_is in
    omega (arith, many, none)

pub has_unread : (worker : ℕ) (lists : List (List Action)) (outcomes : List (List (Outcome Entry))) (own : List Action)
    (left more : List (List Action)) (unread behind : List (List (Record Entry))) (receipts : List (Record Entry)) (misses : List Missed)
    (queues : List (List Line)) → left ≡ own ∷ more → unread ≡ receipts ∷ behind → IsAllAt worker lists outcomes left unread misses queues
    → HasUnread worker 0 own receipts misses
has_unread worker lists outcomes own left more unread behind receipts misses queues split at_receipts at =
    let next = worker_next worker own more at.rest unread misses
    (subst (λ xs. AreAllUnread worker xs at.rest unread misses) split at.are) in
    let same : receipts ∷ behind ≡ receipts_in next.os ∷ map receipts_in next.others = sym at_receipts ∙ next.unread_is in
    record {
      os = next.os;
      later = all_missed (worker + 1) next.others;
      are = subst (λ rs. AreUnread worker 0 own next.os (all_missed (worker + 1) next.others) rs misses)
          (sym (head_same receipts (receipts_in next.os) behind (map receipts_in next.others) same)) next.are;
    }

pub all_at_next : (worker : ℕ) (lists : List (List Action)) (outcomes : List (List (Outcome Entry))) (own : List Action)
    (left more : List (List Action)) (unread behind : List (List (Record Entry))) (receipts : List (Record Entry))
    (misses others : List Missed) (queues : List (List Line)) (queue : List Line) → left ≡ own ∷ more → unread ≡ receipts ∷ behind
    → IsAllAt worker lists outcomes left unread misses queues
    → ((os : List (Outcome Entry)) (later : List Missed) → AreUnread worker 0 own os later receipts misses
    → AreLinesOf own os queue × (others ≡ later))
    → IsAllAt (worker + 1) lists outcomes more behind others (queues ++ queue ∷ [])
all_at_next worker lists outcomes own left more unread behind receipts misses others queues queue split at_receipts at tells =
    let next = worker_next worker own more at.rest unread misses
    (subst (λ xs. AreAllUnread worker xs at.rest unread misses) split at.are) in
    let same : receipts ∷ behind ≡ receipts_in next.os ∷ map receipts_in next.others = sym at_receipts ∙ next.unread_is in
    let first : receipts ≡ receipts_in next.os = head_same receipts (receipts_in next.os) behind (map receipts_in next.others) same in
    let told = tells next.os (all_missed (worker + 1) next.others)
    (subst (λ rs. AreUnread worker 0 own next.os (all_missed (worker + 1) next.others) rs misses) (sym first) next.are) in
    let goes : (qs : List (List Line)) → AreAllLines (own ∷ more) (next.os ∷ next.others) qs → AreAllLines lists outcomes (queues ++ qs) =
    λ qs h. at.goes qs (subst (λ xs. AreAllLines xs at.rest qs) (sym split)
    (subst (λ ns. AreAllLines (own ∷ more) ns qs) (sym next.rest_is) h)) in
    record {
      rest = next.others;
      are = record {
        own = next.others_own;
        receipts_are = tail_same receipts (receipts_in next.os) behind (map receipts_in next.others) same;
        missed_are = told.1;
      };
      goes = λ qs h. subst (AreAllLines lists outcomes) (sym (append_assoc queues (queue ∷ []) qs)) (goes (queue ∷ qs) (told.0, h));
    }

pub all_at_end : (worker : ℕ) (lists : List (List Action)) (outcomes : List (List (Outcome Entry))) (left : List (List Action))
    (unread : List (List (Record Entry))) (misses : List Missed) (queues : List (List Line)) → length left ≡ 0
    → IsAllAt worker lists outcomes left unread misses queues → AreAllLines lists outcomes queues
all_at_end worker lists outcomes [] unread misses queues none at = done at.rest at.are at.goes
  where
    done : (rest : List (List (Outcome Entry))) → AreAllUnread worker [] rest unread misses
        → ((qs : List (List Line)) → AreAllLines [] rest qs → AreAllLines lists outcomes (queues ++ qs)) → AreAllLines lists outcomes queues
    done [] are goes = subst (AreAllLines lists outcomes) (append-nil queues) (goes [] tt)
    done (os ∷ rest) are goes = absurd are.own
all_at_end worker lists outcomes (own ∷ left) unread misses queues none at = absurd (omega (arith, none))

-- ---- as many lines as sessions
as_many : (actions : List Action) (os : List (Outcome Entry)) (ls : List Line) → AreLinesOf actions os ls → length ls ≡ length actions
as_many [] [] [] are = refl
as_many [] [] (l ∷ ls) are = absurd are
as_many [] (o ∷ os) ls are = absurd are
as_many (a ∷ actions) [] ls are = absurd are
as_many (a ∷ actions) (o ∷ os) [] are = absurd are
as_many (a ∷ actions) (o ∷ os) (l ∷ ls) are = ap suc (as_many actions os ls are.1)

as_many_lists : (lists : List (List Action)) (outcomes : List (List (Outcome Entry))) (queues : List (List Line))
    → AreAllLines lists outcomes queues → length queues ≡ length lists
as_many_lists [] [] [] are = refl
as_many_lists [] [] (q ∷ qs) are = absurd are
as_many_lists [] (os ∷ more) qs are = absurd are
as_many_lists (own ∷ lists) [] qs are = absurd are
as_many_lists (own ∷ lists) (os ∷ more) [] are = absurd are
as_many_lists (own ∷ lists) (os ∷ more) (q ∷ qs) are = ap suc (as_many_lists lists more qs are.1)

-- each worker's
pub lines_at : (lists : List (List Action)) (outcomes : List (List (Outcome Entry))) (queues : List (List Line))
    → AreAllLines lists outcomes queues → (k : ℕ) → AreLinesOf (get_or lists k []) (get_or outcomes k []) (get_or queues k [])
lines_at [] [] [] are k = tt
lines_at [] [] (q ∷ qs) are k = absurd are
lines_at [] (os ∷ more) qs are k = absurd are
lines_at (own ∷ lists) [] qs are k = absurd are
lines_at (own ∷ lists) (os ∷ more) [] are k = absurd are
lines_at (own ∷ lists) (os ∷ more) (q ∷ qs) are zero = are.0
lines_at (own ∷ lists) (os ∷ more) (q ∷ qs) are (suc k) = lines_at lists more qs are.1 k

pub queues_like : (total : ℕ) (lists : List (List Action)) (outcomes : List (List (Outcome Entry))) (queues : List (List Line))
    → AreDealtLike (length lists) total lists → AreAllLines lists outcomes queues → AreDealtLike (length queues) total queues
queues_like total lists outcomes queues like are =
    let many = as_many_lists lists outcomes queues are in
    subst (λ n. AreDealtLike n total queues) (sym many) (record {
      many = many;
      each = λ k lt. as_many (get_or lists k []) (get_or outcomes k []) (get_or queues k []) (lines_at lists outcomes queues are k)
          ∙ like.each k lt;
    })
