-- The load of a location of a call in a world that events have reached: where its last location is read with the copied edition, the call
-- may be accepted.
use Rattle.std.specs.Prelude.{◌≡◌, ◌≢◌, ◌⊎◌, ℕ, List, [], ◌∷◌, None, Some}
use Rattle.tx_sets.specs.Entries.{Entries, lookup}
use Rattle.tx_machine.specs.Actor.{Call, Open as AtRest}
use Rattle.tx_machine.specs.Notices as notice
use Rattle.tx_machine.specs.Opacity.{first_read}
use Rattle.seq_model.specs.declared.event.Event.{Event}
use Rattle.seq_model.specs.declared.held.Held.{Held}
use Rattle.tx_machine.specs.Boosted.{Accept}
use Rattle.replay_log.specs.Contents.{CallWithOutcome, Block, HaveStripes, content}
use Rattle.replay_log.specs.Guards.{Allows}
use Rattle.replay_log.specs.Worlds.{World, Loading, acted, actor_of, moves, opened, outcome_at, run, word_notice}
use Rattle.actor_parts.specs.declared.judged.Judged.TheVariants.{All, Next}
use Rattle.actor_parts.specs.Judged.{judged, left_after}

-- these locations were read with these editions first
abbrev pub AreRead : List Call → Entries → Type 0
AreRead cs [] = Unit {0}
AreRead cs (d ∷ es) = (first_read cs d.0 ≡ Some d.1) × AreRead cs es

-- one of these locations was read with another edition first: what is judged by these editions is never accepted
abbrev pub IsDoomed : List Call → Entries → Type 0
IsDoomed cs [] = ⊥
IsDoomed cs (d ∷ es) = ((e : ℕ) × (first_read cs d.0 ≡ Some e) × (e ≢ d.1)) ⊎ IsDoomed cs es

-- What the load of a call's location d leaves in the world w, which answered the copied edition, with these locations still to be judged.
pub record LoadsIn {V : Type 0} (w : World V) (a : ℕ) (o : CallWithOutcome V) (d : ℕ × ℕ) (es : Entries) : Type 0 where
  pub accepts : let u = acted w (moves a ∷ []) in
      judged (actor_of u a).reads es ≡ All →
      Allows (content u.words u.blocks) u.boosted (Accept a o.asked) × (outcome_at u a o.asked ≡ o) × AreRead (actor_of u a).calls (d ∷ es)
  pub reads : let u = acted w (moves a ∷ []) in
      (l : ℕ) → judged (actor_of u a).reads es ≡ Next l →
      ((actor_of u a).place ≡ AtRest) × (lookup (actor_of u a).writes l ≡ None) × (lookup (actor_of u a).reads l ≡ None)
  pub more : let u = acted w (moves a ∷ []) in
      (l e : ℕ) → first_read (actor_of w a).calls l ≡ Some e → first_read (actor_of u a).calls l ≡ Some e
  pub shadow : let u = acted w (moves a ∷ []) in u.boosted.shadows a ≡ w.boosted.shadows a
  pub keeps : let u = acted w (moves a ∷ []) in
      IsDoomed (actor_of u a).calls (d ∷ es) → IsDoomed (actor_of u a).calls (left_after (actor_of u a).reads es)
  pub passed : let u = acted w (moves a ∷ []) in
      (cs : List Call) → ((l e : ℕ) → first_read (actor_of u a).calls l ≡ Some e → first_read cs l ≡ Some e)
      → AreRead cs (left_after (actor_of u a).reads es) → AreRead cs (d ∷ es)

-- So it is in every world that events have reached.
abbrev pub LoadsReached : Type 0 → Type 0
LoadsReached V =
    (blocks : List Block) (clock : ℕ) (values : List ℕ) (held : List (Held V)) (events : List (Event V)) (a : ℕ) (o : CallWithOutcome V)
    (d : ℕ × ℕ) (es : Entries) → HaveStripes blocks →
    let w = run (opened blocks clock values held) events in
    (w.seats a).stage ≡ Loading o (d ∷ es) → word_notice w a ≡ notice.Number d.1 → LoadsIn w a o d es
