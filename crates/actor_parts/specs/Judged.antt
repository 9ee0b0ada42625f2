-- The locations of a call that are judged by the read set alone.
use Rattle.std.specs.Prelude.{◌≡◌, ℕ, Option, Some, None, [], ◌∷◌, ◌==◌, if◌then◌else◌}
use Rattle.tx_sets.specs.Entries.{Entries, lookup}
use Rattle.tx_machine.specs.Requests as word
use Rattle.seq_model.specs.declared.refusal.Refusal.TheVariants as refusal
use Rattle.seq_model.specs.declared.event.Notice.TheVariants.{Quiet}
use Rattle.tx_machine.specs.Boosted.{Accept}
use Rattle.replay_log.specs.Contents.{CallWithOutcome}
use Rattle.replay_log.specs.Worlds.{World, Seat, After, Loading, at_stage, because, seated, acted, asks, actor_of, gives_up, replied}
use Rattle.replay_log.specs.Worlds.{call_of, reply_of, loads}
use Rattle.actor_parts.specs.declared.judged.Judged.{Judged}
use Rattle.actor_parts.specs.declared.judged.Judged.TheVariants.{All, Next, Stale}

-- d is judged by what the set has of it; es are judged as `rest` says
abbrev pub judged_one : ℕ × ℕ → Judged → Option ℕ → Judged
judged_one d rest None = Next d.0
judged_one d rest (Some v) = if d.1 == v then rest else Stale d.0 d.1 v

abbrev pub judged : Entries → Entries → Judged
judged reads [] = All
judged reads (d ∷ es) = judged_one d (judged reads es) (lookup reads d.0)

abbrev pub left_one : ℕ × ℕ → Entries → Entries → Option ℕ → Entries
left_one d es rest None = d ∷ es
left_one d es rest (Some v) = if d.1 == v then rest else d ∷ es

-- those that are still to be judged then
abbrev pub left_after : Entries → Entries → Entries
left_after reads [] = []
left_after reads (d ∷ es) = left_one d es (left_after reads es) (lookup reads d.0)

-- what the call results in then, in a world whose actor a is the seat x
module _ {V : Type 0} where
  abbrev pub comes_to : World V → ℕ → Seat V → CallWithOutcome V → Entries → Judged → After V
  comes_to w a x o left All = replied (acted w (Accept a o.asked ∷ [])) a x (call_of o) (reply_of o)
  comes_to w a x o left (Next l) = (seated (acted w (asks a (word.AskRead l) ∷ [])) a (at_stage x (Loading o left)), Quiet)
  comes_to w a x o left (Stale l b v) = gives_up w a (because x (refusal.Stale l b v)) []

-- it is what the world makes of the call
abbrev pub IsJudged : Type 0 → Type 0
IsJudged V =
    (w : World V) (a : ℕ) (x : Seat V) (o : CallWithOutcome V) (es : Entries)
    → loads w a x o es ≡ comes_to w a x o (left_after (actor_of w a).reads es) (judged (actor_of w a).reads es)
