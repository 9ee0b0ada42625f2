-- What an event leaves of what a transaction has of collections, and of what it has read of them.
use Rattle.std.specs.Prelude.{◌≡◌, ◌≢◌, ◌⊎◌, ℕ, ◌≤◌, List, ◌∷◌, [], Option, Some, None}
use Rattle.tx_machine.specs.Opacity.{first_read}
use Rattle.seq_model.specs.declared.call.Op.{Op}
use Rattle.seq_model.specs.declared.call.Op.TheVariants.{Read, Write}
use Rattle.seq_model.specs.declared.event.Answer.TheVariants.{Replied}
use Rattle.seq_model.specs.declared.event.Event.{Event}
use Rattle.seq_model.specs.declared.event.Event.TheVariants.{Ask, Step, Starve}
use Rattle.seq_model.specs.declared.event.Notice.{Notice}
use Rattle.seq_model.specs.declared.event.Notice.TheVariants as notice
use Rattle.seq_model.specs.declared.event.Request.{Request}
use Rattle.seq_model.specs.declared.event.Request.TheVariants as request
use Rattle.seq_model.specs.declared.held.Held.{Held}
use Rattle.tx_machine.specs.Boosted.{longer}
use Rattle.replay_log.specs.Contents.{CallWithOutcome, CollectionCall, Block, HaveStripes}
use Rattle.replay_log.specs.Worlds.{After, Beginning, Copying, Loading, Stage, World, acted, actor_of, happens, moves, opened, outcome_at}
use Rattle.replay_log.specs.Worlds.{reply_of, run}
use Rattle.actor_parts.specs.Shows.{put_back}
use Rattle.actor_parts.specs.declared.copies.PrivateCopy.{PrivateCopy}
use Rattle.actor_parts.specs.CopyAtGate.{IsReadOf}
use Rattle.actor_parts.specs.CopyInWorld.{call_on}

-- From w to v the locations are laid out alike, and actor a has read the same first of each location that is no word.
pub record ReadsStay {V : Type 0} (w v : World V) (a : ℕ) : Type 0 where
  pub words : v.words ≡ w.words
  pub blocks : v.blocks ≡ w.blocks
  pub reads : (l : ℕ) → w.words ≤ l → first_read (actor_of v a).calls l ≡ first_read (actor_of w a).calls l

module _ {V : Type 0} where
  -- and its shadow is the same
  abbrev pub Stays : World V → World V → ℕ → Type 0
  Stays w v a = ReadsStay w v a × (v.boosted.shadows a ≡ w.boosted.shadows a)

  -- and this outcome has joined those of its shadow
  abbrev pub Joins : World V → World V → ℕ → CallWithOutcome V → Type 0
  Joins w v a o = ReadsStay w v a × (v.boosted.shadows a ≡ longer (w.boosted.shadows a) o)

  -- no reply and no end is answered
  abbrev pub IsUnanswered : Notice V → Type 0
  IsUnanswered (notice.Answered a x) = ⊥
  IsUnanswered n = Unit {0}

  -- a call of actor a with this outcome is answered, and the outcome has joined those of the shadow; or nothing is answered, and all
  -- remains
  abbrev pub StaysOrJoins : World V → ℕ → CallWithOutcome V → After V → Type 0
  StaysOrJoins w a o f =
      (Stays w f.0 a × IsUnanswered f.1) ⊎ (Joins w f.0 a o × (f.1 ≡ notice.Answered a (Replied (reply_of o))))

  -- the call on a collection that a request asks for
  abbrev pub call_on_held : ℕ → Op V → Option (CollectionCall V)
  call_on_held t Read = None
  call_on_held t (Write v) = None
  call_on_held t op = Some (call_on t op)

  abbrev pub call_in : Request V → Option (CollectionCall V)
  call_in (request.Call call) = call_on_held call.target call.op
  call_in q = None

  -- what a request leaves: all, but for such a call that is answered at once
  abbrev pub StaysAsked : World V → ℕ → Option (CollectionCall V) → After V → Type 0
  StaysAsked w a None f = Stays w f.0 a
  StaysAsked w a (Some asked) f = StaysOrJoins w a (outcome_at w a asked) f

  -- The load of a location of a call leaves the shadow and what had been read, and reads nothing of another collection; then the call is
  -- answered or not.
  pub record LoadStays (w : World V) (a : ℕ) (o : CallWithOutcome V) (f : After V) : Type 0 where
    pub shadow : (acted w (moves a ∷ [])).boosted.shadows a ≡ w.boosted.shadows a
    pub more : (l e : ℕ) → first_read (actor_of w a).calls l ≡ Some e → first_read (actor_of (acted w (moves a ∷ [])) a).calls l ≡ Some e
    pub others : (k : ℕ) (c : Option (PrivateCopy V)) → k ≢ o.asked.collection → IsReadOf w a k c → IsReadOf (acted w (moves a ∷ [])) a k c
    pub after : StaysOrJoins (acted w (moves a ∷ [])) a o f

  -- What a step of actor a at this stage leaves: all, but for the load that begins a transaction, the store of a call's gate, and a load
  -- of a call's location.
  abbrev pub StepStays : World V → ℕ → Stage V → After V → Type 0
  StepStays w a Beginning f = Unit {0}
  StepStays w a (Copying asked) f =
      let u = put_back a w asked in (actor_of u a ≡ actor_of w a) × StaysOrJoins u a (outcome_at u a asked) f
  StepStays w a (Loading o es) f = LoadStays w a o f
  StepStays w a stage f = Stays w f.0 a

  -- what an event leaves of what its actor has
  abbrev pub EventStays : World V → Event V → Type 0
  EventStays w (Ask a q) = StaysAsked w a (call_in q) (happens w (Ask a q))
  EventStays w (Step a) = StepStays w a (w.seats a).stage (happens w (Step a))
  EventStays w (Starve a) = Stays w (happens w (Starve a)).0 a

-- So it is in every world that events have reached.
abbrev pub EventsStay : Type 0 → Type 0
EventsStay V =
    (blocks : List Block) (clock : ℕ) (values : List ℕ) (held : List (Held V)) (events : List (Event V)) (e : Event V)
    → HaveStripes blocks → EventStays (run (opened blocks clock values held) events) e
