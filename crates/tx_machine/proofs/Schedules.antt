-- Every step, and every schedule.
use Rattle.std.proofs.Common.{◌≡◌, ℕ, Some, List, [], ◌∷◌, refl, sym, ap, ◌∙◌, subst, arith, ltb}
use Rattle.std.proofs.lemmas.Bool.{cond_both}
use Rattle.vlock_word.specs.declared.lock_word.LockWord.{LockWord}
use Rattle.vlock_word.specs.declared.lock_word.LockWord.TheVariants.{Free}
use Rattle.tx_sets.specs.Entries.{lookup}
use Rattle.tx_machine.specs.Actor.{Place, Idle, Begin, Open, Look, Fetch, Again, Lock, Take, Check, Broken, First, Store, Release, Undo}
use Rattle.tx_machine.specs.Actor.{Leave, Close, Actor, goes, opened, clock_limit}
use Rattle.tx_machine.specs.Requests.{ask}
use Rattle.tx_machine.specs.World.{Memory, put, Record, Ended, World, Event, Ask, Step, now, step, happens, run, start}
use Rattle.tx_machine.proofs.Worlds.{tried}
use Rattle.tx_machine.specs.Opacity.{IsLegal, IsRun, IsNoneHalfDone, AllEnded, AllUpto, whose, memory_at, memory_after, upto}
use Rattle.tx_machine.proofs.Sets.{put-same}
use Rattle.tx_machine.proofs.Calls.{Sets-none}
use Rattle.tx_machine.proofs.Records.{settled, memory_after-upto, memory_after-finals, AllRecords, AllRecords_map, base, LegalAt}
use Rattle.tx_machine.proofs.Records.{IsRun-records}
use Rattle.tx_machine.proofs.Invariant.{Saw, Locking, PlaceOk, RecordOk, Inv}
use Rattle.tx_machine.proofs.Saw.{Saw-none}
use Rattle.tx_machine.proofs.Frame.{Moved, moved_none, Saw-kept, quiet}
use Rattle.tx_machine.proofs.Quiet.{lookup-none, ask_ok, begin_ok, looked_ok, fetch_ok, looked_again_ok, to_lock_ok, broken_ok}
use Rattle.tx_machine.proofs.Quiet.{checked_ok, left_ok}
use Rattle.tx_machine.proofs.Moves.{locked_ok, stamped_ok, undone_ok, released_ok, stored_ok, first_ok, closed_ok}
use Rattle.std.proofs.Common.{eqb, eqb-true}
use Rattle.vlock_word.specs.declared.lock_word.LockWord.TheVariants.{Locked}
use Rattle.tx_machine.proofs.Worlds.{locked}

tried_ok : (s : World) (a l k : ℕ) (ls : List ℕ) (w : LockWord) → Inv s → (s.actors a).place ≡ Take l k ls
    → Locking (s.actors a).writes (s.actors a).held (l ∷ ls) → s.locks l ≡ w → Moved s a (tried s a (s.actors a) l k ls w)
tried_ok s a l k ls (Free j) v e pl is =
    cond_both (eqb j k) (locked s a (s.actors a) l k ls) (now s a (goes (s.actors a) Broken)) (Moved s a)
    (λ t. locked_ok s a l k ls v e pl (is ∙ ap Free (eqb-true j k t)))
    (λ _. broken_ok s a (Take l k ls) v e (λ h. h) tt)
tried_ok s a l k ls (Locked j) v e pl is = broken_ok s a (Take l k ls) v e (λ h. h) tt

pub step_ok : (s : World) (a : ℕ) (p : Place) → Inv s → (s.actors a).place ≡ p → PlaceOk s (s.actors a) p
    → Moved s a (step s a (s.actors a) p)
step_ok s a Idle v e pl = moved_none s a v
step_ok s a Begin v e pl = begin_ok s a v e pl
step_ok s a Open v e pl = moved_none s a v
step_ok s a (Look l) v e pl = looked_ok s a l (s.locks l) v e pl refl
step_ok s a (Fetch l k) v e pl = fetch_ok s a l k v e pl
step_ok s a (Again l k u) v e pl = looked_again_ok s a l k u (s.locks l) v e pl refl
step_ok s a (Lock []) v e pl = stamped_ok s a v e pl
step_ok s a (Lock (l ∷ ls)) v e pl = to_lock_ok s a l ls (s.locks l) v e pl
step_ok s a (Take l k ls) v e pl = tried_ok s a l k ls (s.locks l) v e pl refl
step_ok s a (Check []) v e pl = moved_none s a v
step_ok s a (Check (l ∷ ls)) v e pl = checked_ok s a l ls (s.locks l) (lookup (s.actors a).writes l) v e pl refl refl
step_ok s a Broken v e pl = moved_none s a v
step_ok s a First v e pl = first_ok s a (s.actors a).writes v e pl refl
step_ok s a (Store []) v e pl = moved_none s a v
step_ok s a (Store (l ∷ ls)) v e pl = stored_ok s a l ls v e pl
step_ok s a Release v e pl = released_ok s a (s.actors a).held v e pl refl
step_ok s a Undo v e pl = undone_ok s a (s.actors a).held v e refl
step_ok s a Leave v e pl = left_ok s a v e pl
step_ok s a Close v e pl = closed_ok s a v e pl

pub happens_ok : (s : World) (e : Event) → Inv s → Moved s (whose e) (happens s e)
happens_ok s (Ask a request) v = quiet s a (ask (s.actors a) (s.actors a).place request) v
    (ask_ok s a (s.actors a).place request v refl (v.actors a).place)
happens_ok s (Step a) v = step_ok s a (s.actors a).place v refl (v.actors a).place

pub run_ok : (events : List Event) (s : World) → Inv s → Inv (run events s)
run_ok [] s v = v
run_ok (e ∷ es) s v = run_ok es (happens s e) (happens_ok s e v).inv

pub run_saw : (events : List Event) (s : World) (n : ℕ) (cs : List _) → Inv s → Saw s n cs → Saw (run events s) n cs
run_saw [] s n cs v g = g
run_saw (e ∷ es) s n cs v g = let m = happens_ok s e v in run_saw es (happens s e) n cs m.inv (Saw-kept s (happens s e) n cs m.keeps g)

pub run-opening : (events : List Event) (s : World) → Inv s → (run events s).opening ≡ s.opening
run-opening [] s v = refl
run-opening (e ∷ es) s v = let m = happens_ok s e v in run-opening es (happens s e) m.inv ∙ m.opening

pub start_ok : (clock : ℕ) (memory : Memory) → Inv (start clock memory)
unfolding lookup
start_ok clock memory = record {
  actors = λ a. record {
    began = omega arith;
    reads = λ l u h. absurd (lookup-none [] l u refl h);
    saw = Saw-none (start clock memory) 0;
    sets = Sets-none;
    kept = λ h. absurd h;
    held = λ l k h. absurd (lookup-none [] l k refl h);
    unique = tt;
    place = refl;
  };
  apart = λ a b l j k h g. absurd (lookup-none [] l j refl h);
  numbers = λ a b p q e. absurd p;
  unused = λ a p. absurd p;
  versions = λ l. omega arith;
  current = λ l h. refl;
  behind = λ l h. omega arith;
  ordered = tt;
  records = tt;
  aborted = tt;
}

-- what was seen, at the memory of the number
pub legal_of : (s : World) (n : ℕ) (cs : List _) → Saw s n cs → IsLegal (memory_at s n) cs
unfolding memory_at
legal_of s n cs g = g.legal (memory_after s.opening (upto n s.history))
    (λ l u h. memory_after-upto s.history s.opening n l ∙ (g.good l u h).value)

legal_at : (s : World) (r : Record) → RecordOk s r → LegalAt s.history s.opening r
legal_at s r g = record {
  legal = g.saw.legal (λ l. settled s.history (base r.writer r.number) l (s.opening l)) (λ l u h. (g.saw.good l u h).value);
  positive = g.positive;
  reader = g.reader;
}

pub serial : (s : World) → Inv s → IsRun s.opening s.history
serial s v = IsRun-records s.history s.opening v.ordered
    (AllRecords_map (RecordOk s) (LegalAt s.history s.opening) s.history (legal_at s) v.records)

aborted_legal : (later : List Event) (s : World) (es : List Ended) → Inv s → AllEnded (λ e. Saw s e.rv e.calls) es
    → AllEnded (λ e. IsLegal (memory_at (run later s) e.rv) e.calls) es
aborted_legal later s [] v g = tt
aborted_legal later s (e ∷ es) v g =
    (legal_of (run later s) e.rv e.calls (run_saw later s e.rv e.calls v g.0), aborted_legal later s es v g.1)

pub aborted_later : (later : List Event) (s : World) → Inv s → AllEnded (λ e. IsLegal (memory_at (run later s) e.rv) e.calls) s.aborted
aborted_later later s v = aborted_legal later s s.aborted v v.aborted

pub all_aborted : (s : World) → Inv s → AllEnded (λ e. IsLegal (memory_at s e.rv) e.calls) s.aborted
all_aborted s v = aborted_later [] s v

pub actor_saw : (s : World) (a : ℕ) → Inv s → Saw s (s.actors a).rv (s.actors a).calls
actor_saw s a v = (v.actors a).saw

pub words_at_rest : (s : World) → Inv s → IsNoneHalfDone s → (l : ℕ) → s.values l ≡ memory_after s.opening s.history l
words_at_rest s v none l = v.current l (v.behind l (λ a half. absurd (none a half))) ∙ sym (memory_after-finals s.history s.opening l)

pub owned : (s : World) (e : Event) (a l k : ℕ) → Inv s → lookup (s.actors a).held l ≡ Some k → (a ≡ whose e → ⊥)
    → ((happens s e).locks l ≡ s.locks l) × ((happens s e).values l ≡ s.values l)
owned s e a l k v h ne = let m = (happens_ok s e v).others a ne in (m.locks l k h, m.values l k h)

pub all_upto : (s : World) (h : List Record) → AllRecords (RecordOk s) h → AllUpto s.clock h
all_upto s [] g = tt
all_upto s (r ∷ rs) g = ((g.0).past, all_upto s rs g.1)

-- a Begin that is answered takes the clock
pub begins_at : (s : World) (a : ℕ) → Inv s → (s.actors a).place ≡ Begin → ((happens s (Step a)).actors a).place ≡ Open
    → AllUpto ((happens s (Step a)).actors a).rv s.history
begins_at s a v e =
    let P : Place → Type 0 = λ p. (((step s a (s.actors a) p).actors a).place ≡ Open
    → AllUpto ((step s a (s.actors a) p).actors a).rv s.history) in
    let Q : Actor → Type 0 = λ z. (z.place ≡ Open → AllUpto z.rv s.history) in
    subst P (sym e) (cond_both (ltb s.clock clock_limit) (opened (s.actors a).declared s.clock) (goes (s.actors a) Idle)
    (λ (z : Actor). Q (put s.actors a z a))
    (λ _. subst Q (sym (put-same s.actors a (opened (s.actors a).declared s.clock))) (λ _. all_upto s s.history v.records))
    (λ _. subst Q (sym (put-same s.actors a (goes (s.actors a) Idle))) (λ h. (let z : Idle ≡ Open = h in cc))))

pub idle_holds_none : (s : World) (a : ℕ) → Inv s → (s.actors a).place ≡ Idle → (s.actors a).held ≡ []
idle_holds_none s a v e = (let h : PlaceOk s (s.actors a) Idle = subst (PlaceOk s (s.actors a)) e (v.actors a).place in h)

-- every world that a schedule reaches is as the invariant says
pub reached : (clock : ℕ) (memory : Memory) (events : List Event) → Inv (run events (start clock memory))
reached clock memory events = run_ok events (start clock memory) (start_ok clock memory)

pub opened_at : (clock : ℕ) (memory : Memory) (events : List Event) → (run events (start clock memory)).opening ≡ memory
opened_at clock memory events = run-opening events (start clock memory) (start_ok clock memory)
