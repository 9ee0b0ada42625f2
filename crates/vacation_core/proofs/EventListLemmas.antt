-- Events one after another, and which of them are allowed.
use Rattle.std.proofs.Common.{◌≡◌, List, [], ◌∷◌, length, refl, sym, ◌∙◌, ap, subst, arith}
use Rattle.vacation_core.specs.Plays.{AreAllowed, MayHappen, Play, played, played_all}
use Rattle.vacation_core.specs.Running.{IsPlay}
use Rattle.vacation_core.specs.declared.events.VacEvent.{VacEvent}
use Rattle.vacation_core.specs.declared.world.VacWorld.{VacWorld}

-- The running world is that of a play which these events lead to where all of them led from p.
pub record Plays (p : Play) (events : List VacEvent) (v : VacWorld) (left : List VacEvent) : Type 0 where
  pub play : Play
  pub is : IsPlay v play
  pub to : played_all play left ≡ played_all p events

pub plays_first : (p : Play) (events : List VacEvent) (v : VacWorld) → IsPlay v p → Plays p events v events
plays_first p events v k = record { play = p; is = k; to = refl }

pub plays_one : (p : Play) (events : List VacEvent) (v u : VacWorld) (left later : List VacEvent) (e : VacEvent) → left ≡ e ∷ later
    → ((q : Play) → IsPlay v q → IsPlay u (played q e)) → Plays p events v left → Plays p events u later
plays_one p events v u left later e is goes k =
    record { play = played k.play e; is = goes k.play k.is; to = ap (λ es. played_all k.play es) (sym is) ∙ k.to }

pub plays_all : (p : Play) (events : List VacEvent) (v : VacWorld) (left : List VacEvent) → length left ≡ 0 → Plays p events v left
    → IsPlay v (played_all p events)
plays_all p events v [] none k = subst (IsPlay v) k.to k.is
plays_all p events v (e ∷ es) none k = absurd (omega (arith, none))

pub first_allowed : (left later : List VacEvent) (e : VacEvent) → left ≡ e ∷ later → AreAllowed left → MayHappen e × AreAllowed later
first_allowed left later e is allowed = subst AreAllowed is allowed

-- so far all were allowed
pub record AllowsSo (events left : List VacEvent) : Type 0 where
  pub on : AreAllowed events → AreAllowed left
  pub back : AreAllowed left → AreAllowed events

pub allows_first : (events : List VacEvent) → AllowsSo events events
allows_first events = record { on = λ h. h; back = λ h. h }

pub allows_one : (events left later : List VacEvent) (e : VacEvent) → left ≡ e ∷ later → MayHappen e → AllowsSo events left
    → AllowsSo events later
allows_one events left later e is may k = record {
  on = λ h. (first_allowed left later e is (k.on h)).1;
  back = λ h. k.back (subst AreAllowed (sym is) (may, h));
}

pub allows_not : (events left later : List VacEvent) (e : VacEvent) → left ≡ e ∷ later → (MayHappen e → ⊥) → AllowsSo events left
    → AreAllowed events → ⊥
allows_not events left later e is never k h = never (first_allowed left later e is (k.on h)).0

pub allows_all : (events left : List VacEvent) → length left ≡ 0 → AllowsSo events left → AreAllowed events
allows_all events [] none k = k.back tt
allows_all events (e ∷ es) none k = absurd (omega (arith, none))
