-- The gates that an actor holds after an event, in the order in which it took them, by its stage.
--
-- A step of the words and a failed allocation leave them; a gate that is found free joins them, the first of them is put back, and a call
-- that is copied, or whose locations are read, leaves none.
use Rattle.std.proofs.Common.{◌≡◌, ℕ, zero, suc, Bool, true, false, true≢false, List, [], ◌∷◌, ◌++◌, Option, Some, None, refl, sym, ap, ◌∙◌}
use Rattle.std.proofs.Common.{eq-eqb}
use Rattle.std.proofs.lemmas.Bool.{cond_both, cond-true}
use Rattle.std.specs.Prelude.{◌==◌, if◌then◌else◌}
use Rattle.tx_sets.specs.Entries.{Entries, lookup}
use Rattle.tx_machine.proofs.Sets.{put-same}
use Rattle.tx_machine.specs.Notices as told
use Rattle.tx_machine.specs.Requests as word
use Rattle.seq_model.specs.declared.refusal.Refusal.TheVariants as refusal
use Rattle.tx_machine.specs.Content.{has}
use Rattle.tx_machine.specs.Boosted.{Accept, GoHome, PutGate, TakeGate, is_none}
use Rattle.seq_model.specs.declared.event.Event.TheVariants.{Starve, Step}
use Rattle.seq_model.specs.declared.event.Notice.TheVariants.{Refused}
use Rattle.replay_log.specs.Pieces.{covers_at, piece_at}
use Rattle.replay_log.specs.Contents.{CallWithOutcome, CollectionCall, content}
use Rattle.replay_log.specs.Worlds.{World, Seat, Stage, After, Beginning, Open, Locking, Releasing, Closing, Cancelling, Leaving, Reading}
use Rattle.replay_log.specs.Worlds.{Trying, Copying, Loading, Gating, Ready, Storing, Homing, Returning, acted, asks, at_stage, because}
use Rattle.replay_log.specs.Worlds.{actor_of, cancels, gives_up, goes_home, has_copied, has_room, has_stored, has_tried, is_fresh}
use Rattle.replay_log.specs.Worlds.{is_leaving}
use Rattle.replay_log.specs.Worlds.{happens, judges, loads, moves, no_one, outcome_at, recorded, seated, sized_by, starve_at, step_at}
use Rattle.replay_log.specs.Worlds.{call_of, reply_of, takes_gates, with_call, with_editions, with_piece, word_notice}
use Rattle.replay_log.proofs.SeatLemmas.{gates_of}
use Rattle.actor_parts.specs.Dispatch.{AreSteps, after_home, after_put, after_try, after_word, is_loading, next_of}
use Rattle.actor_parts.specs.declared.next.Next.TheVariants as next
use Rattle.tx_actor.specs.LoadStep.{after_load}
use Rattle.tx_actor.specs.Seated.{SeatsActors}
use Rattle.tx_actor.specs.Running.{Runs, is_recorded, seat_of, stage_in, stage_of}
use Rattle.tx_actor.specs.declared.actor.Stage as own
use Rattle.tx_actor.specs.declared.actor.Stage.TheVariants as stage
use Rattle.tx_actor.specs.declared.actor.TxActor.{TxActor}
use Rattle.tx_actor.proofs.CopyLemmas.{copy_is}
use Rattle.tx_actor.proofs.LoadStepLemmas.{load_is}
use Rattle.tx_actor.proofs.StepLemmas.{first_is}
use Rattle.tx_machine.specs.Cells.{Cell}
use Rattle.actor_laws.specs.StepTargets.{Gate, spot_of}

-- a location of the words is no gate
pub no_word : (c : Option Cell) (k : ℕ) → spot_of c ≡ Gate k → ⊥
no_word None k e = cc
no_word (Some c) k e = cc

pub has_first : (k : ℕ) (ks : List ℕ) → has (k ∷ ks) k ≡ true
has_first k ks = cond-true (k == k) true (has ks k) (eq-eqb k k refl)

-- no gate is none of them
pub none_has : (ks : List ℕ) → ((k : ℕ) → has ks k ≡ false) → ks ≡ []
none_has [] h = refl
none_has (k ∷ ks) h = absurd (true≢false (sym (has_first k ks) ∙ h k))

taken_gates : (V : Type 0) (got ks : List ℕ) → (let s : Stage V = takes_gates got ks in gates_of s ≡ got)
taken_gates V got [] = refl
taken_gates V got (k ∷ ks) = refl

module _ {V : Type 0} where
  -- the gates of an actor in a world, by its seat
  abbrev pub gates_in : World V → ℕ → List ℕ
  gates_in w a = gates_of (w.seats a).stage

  seated_gates : (w : World V) (a : ℕ) (x : Seat V) → gates_in (seated w a x) a ≡ gates_of x.stage
  seated_gates w a x = ap (λ (y : Seat V). gates_of y.stage) (put-same w.seats a x)

  cancel_gates : (w : World V) (a : ℕ) (x : Seat V) → gates_in (cancels w a x) a ≡ []
  cancel_gates w a x =
      let z = acted w (asks a word.AskCancel ∷ asks a word.AskAbort ∷ []) in
      let leaving = is_leaving (actor_of z a).place in
      cond_both {A = Stage V} leaving Leaving Cancelling (λ (s : Stage V). gates_in (seated z a (at_stage x s)) a ≡ [])
      (λ _. seated_gates z a (at_stage x Leaving)) (λ _. seated_gates z a (at_stage x Cancelling))

  up_gates : (w : World V) (a : ℕ) (x : Seat V) (ks : List ℕ) → gates_in (gives_up w a x ks).0 a ≡ ks
  up_gates w a x [] = cancel_gates w a x
  up_gates w a x (k ∷ ks) = seated_gates w a (at_stage x (Returning (k ∷ ks)))

  home_gates : (w : World V) (a : ℕ) (x : Seat V) (ks : List ℕ) → gates_in (goes_home w a x ks).0 a ≡ ks
  home_gates w a x [] = seated_gates (acted w (asks a word.AskRelease ∷ [])) a (at_stage x Releasing)
  home_gates w a x (k ∷ ks) = seated_gates w a (at_stage x (Homing (k ∷ ks)))

  stored_gates : (w : World V) (a : ℕ) (x : Seat V) (ks : List ℕ) (n : told.Notice) → gates_in (has_stored w a x ks n).0 a ≡ ks
  stored_gates w a x ks told.Stored = home_gates w a x ks
  stored_gates w a x ks n = seated_gates w a (at_stage x (Storing ks))

  -- ---- a step of the words
  pub word_gates : (w : World V) (a : ℕ) (x : Seat V) (s : Stage V) (n : told.Notice) → (w.seats a).stage ≡ s
      → gates_in (after_word w a x s n).0 a ≡ gates_of s
  word_gates w a x Beginning (told.Begun rv) e = seated_gates w a (record no_one { stage = Open; rv = rv })
  word_gates w a x Beginning (told.Exhausted clock) e = seated_gates w a no_one
  word_gates w a x Beginning n e = ap gates_of e
  word_gates w a x (Reading l) (told.Number v) e = seated_gates w a _
  word_gates w a x (Reading l) (told.Moved i word) e = up_gates w a (because x (refusal.Moved i word)) []
  word_gates w a x (Reading l) n e = ap gates_of e
  word_gates w a x Locking (told.LockedAt wv) e = seated_gates w a _ ∙ taken_gates V [] _
  word_gates w a x Locking (told.Busy l word) e = up_gates w a (because x (refusal.Busy l word)) []
  word_gates w a x Locking (told.Invalid l word) e = up_gates w a (because x (refusal.Invalid l word)) []
  word_gates w a x Locking n e = ap gates_of e
  word_gates w a x (Ready ks) n e = stored_gates (recorded w a x true x.wv) a x ks n
  word_gates w a x (Storing ks) n e = stored_gates w a x ks n
  word_gates w a x Releasing told.Released e = seated_gates w a no_one
  word_gates w a x Releasing n e = ap gates_of e
  word_gates w a x Closing n e = seated_gates (recorded w a x false x.rv) a no_one
  word_gates w a x Cancelling told.Cancelled e = seated_gates (acted w (asks a word.AskAbort ∷ [])) a (at_stage x Leaving)
  word_gates w a x Cancelling n e = ap gates_of e
  word_gates w a x Leaving n e = ap (λ (y : Seat V). gates_of y.stage) (put-same w.seats a no_one)
  word_gates w a x s n e = ap gates_of e

  -- ---- a load of a call's location
  fresh_gates : (w : World V) (a : ℕ) (x : Seat V) (d : ℕ × ℕ) (v : ℕ) (f : After V) → gates_in f.0 a ≡ []
      → gates_in (is_fresh w a x d v f).0 a ≡ []
  fresh_gates w a x d v f h =
      cond_both {A = After V} (d.1 == v) f (gives_up w a (because x (refusal.Stale d.0 d.1 v)) []) (λ (p : After V). gates_in p.0 a ≡ [])
      (λ _. h) (λ _. up_gates w a (because x (refusal.Stale d.0 d.1 v)) [])

  judged_gates : (w : World V) (a : ℕ) (x : Seat V) (o : CallWithOutcome V) (d : ℕ × ℕ) (es : Entries) (f : After V) (v : Option ℕ)
      → gates_in f.0 a ≡ [] → gates_in (judges w a x o d es f v).0 a ≡ []
  judged_gates w a x o d es f None h = seated_gates (acted w (asks a (word.AskRead d.0) ∷ [])) a (at_stage x (Loading o (d ∷ es)))
  judged_gates w a x o d es f (Some v) h = fresh_gates w a x d v f h

  loaded_gates : (w : World V) (a : ℕ) (x : Seat V) (o : CallWithOutcome V) (es : Entries) → gates_in (loads w a x o es).0 a ≡ []
  loaded_gates w a x o [] = seated_gates (acted w (Accept a o.asked ∷ [])) a (with_call x (call_of o) (reply_of o))
  loaded_gates w a x o (d ∷ es) =
      judged_gates w a x o d es (loads w a x o es) (lookup (actor_of w a).reads d.0) (loaded_gates w a x o es)

  pub load_gates : (w : World V) (a : ℕ) (x : Seat V) (s : Stage V) (n : told.Notice) → is_loading s ≡ true → (w.seats a).stage ≡ s
      → gates_in (after_load w a x s n).0 a ≡ []
  load_gates w a x (Loading o []) n l e = ap gates_of e
  load_gates w a x (Loading o (d ∷ es)) (told.Number v) l e = fresh_gates w a x d v (loads w a x o es) (loaded_gates w a x o es)
  load_gates w a x (Loading o (d ∷ es)) (told.Moved i word) l e = up_gates w a (because x (refusal.Moved i word)) []
  load_gates w a x (Loading o (d ∷ es)) n l e = ap gates_of e
  load_gates w a x s n l e = absurd (true≢false (sym l))

  -- ---- a step on a gate
  tried_gates : (w : World V) (a : ℕ) (x : Seat V) (free : Bool) (k : ℕ) (got : List ℕ) (again : ℕ → Stage V) (next : Stage V) (tries : ℕ)
      → ((n : ℕ) → gates_of (again n) ≡ got) → gates_of next ≡ got ++ k ∷ []
      → gates_in (has_tried w a x free k got again next tries).0 a ≡ (if free then got ++ k ∷ [] else got)
  tried_gates w a x true k got again next tries more last = seated_gates w a (at_stage x next) ∙ last
  tried_gates w a x false k got again next zero more last = up_gates w a (because x (refusal.GateBusy k)) got
  tried_gates w a x false k got again next (suc n) more last = seated_gates w a (at_stage x (again n)) ∙ more n

  -- the gate of k is tried
  pub try_gates : (w : World V) (a : ℕ) (x : Seat V) (s : Stage V) (k : ℕ) (free : Bool) → next_of s ≡ next.TryGate k
      → gates_in (after_try w a x s free).0 a ≡ (if free then gates_of s ++ k ∷ [] else gates_of s)
  try_gates w a x (Trying asked tries) k free e =
      let same : asked.collection ≡ k = cc in
      tried_gates w a x free asked.collection [] (λ n. Trying asked n) (Copying asked) tries (λ n. refl) refl
      ∙ ap (λ (j : ℕ). if free then j ∷ [] else []) same
  try_gates w a x (Gating got (j ∷ ks) tries) k free e =
      let same : j ≡ k = cc in
      tried_gates w a x free j got (λ n. Gating got (j ∷ ks) n) (takes_gates (got ++ j ∷ []) ks) tries (λ n. refl)
      (taken_gates V (got ++ j ∷ []) ks) ∙ ap (λ (i : ℕ). if free then got ++ i ∷ [] else got) same
  try_gates w a x (Gating got [] tries) k free e = let z : ⊥ = cc in absurd z
  try_gates w a x (Homing []) k free e = let z : ⊥ = cc in absurd z
  try_gates w a x (Homing (j ∷ ks)) k free e = let z : ⊥ = cc in absurd z
  try_gates w a x (Returning []) k free e = let z : ⊥ = cc in absurd z
  try_gates w a x (Returning (j ∷ ks)) k free e = let z : ⊥ = cc in absurd z
  try_gates w a x (Loading o []) k free e = let z : ⊥ = cc in absurd z
  try_gates w a x (Loading o (d ∷ es)) k free e = let z : ⊥ = cc in absurd z
  try_gates w a x s k free e = let z : ⊥ = cc in absurd z

  -- the first gate is put back, its base as it was
  pub put_gates : (w : World V) (a : ℕ) (x : Seat V) (s : Stage V) (k : ℕ) → next_of s ≡ next.PutGate k
      → gates_of s ≡ k ∷ gates_in (after_put w a x s).0 a
  put_gates w a x (Returning (j ∷ ks)) k e =
      let same : j ≡ k = cc in (λ i. same i ∷ sym (up_gates w a x ks) i)
  put_gates w a x (Returning []) k e = let z : ⊥ = cc in absurd z
  put_gates w a x (Gating got [] tries) k e = let z : ⊥ = cc in absurd z
  put_gates w a x (Gating got (j ∷ ks) tries) k e = let z : ⊥ = cc in absurd z
  put_gates w a x (Homing []) k e = let z : ⊥ = cc in absurd z
  put_gates w a x (Homing (j ∷ ks)) k e = let z : ⊥ = cc in absurd z
  put_gates w a x (Loading o []) k e = let z : ⊥ = cc in absurd z
  put_gates w a x (Loading o (d ∷ es)) k e = let z : ⊥ = cc in absurd z
  put_gates w a x s k e = let z : ⊥ = cc in absurd z

  -- or its base was put back
  pub went_gates : (w : World V) (a : ℕ) (x : Seat V) (s : Stage V) (k : ℕ) → next_of s ≡ next.GoHome k
      → gates_of s ≡ k ∷ gates_in (after_home w a x s).0 a
  went_gates w a x (Homing (j ∷ ks)) k e =
      let same : j ≡ k = cc in (λ i. same i ∷ sym (home_gates w a x ks) i)
  went_gates w a x (Homing []) k e = let z : ⊥ = cc in absurd z
  went_gates w a x (Gating got [] tries) k e = let z : ⊥ = cc in absurd z
  went_gates w a x (Gating got (j ∷ ks) tries) k e = let z : ⊥ = cc in absurd z
  went_gates w a x (Returning []) k e = let z : ⊥ = cc in absurd z
  went_gates w a x (Returning (j ∷ ks)) k e = let z : ⊥ = cc in absurd z
  went_gates w a x (Loading o []) k e = let z : ⊥ = cc in absurd z
  went_gates w a x (Loading o (d ∷ es)) k e = let z : ⊥ = cc in absurd z
  went_gates w a x s k e = let z : ⊥ = cc in absurd z

  -- a call has been copied
  pub copied_gates : (w : World V) (a : ℕ) (x : Seat V) (asked : CollectionCall V) → gates_in (has_copied w a x asked).0 a ≡ []
  copied_gates w a x asked =
      let c = content w.words w.blocks in
      let o = outcome_at w a asked in
      let sized = sized_by w a asked o in
      let y = with_piece x asked.collection (piece_at w.blocks asked) in
      cond_both {A = After V} (has_room (actor_of w a) (c.reads sized) (c.writes sized))
      (loads w a y o (with_editions w.boosted.editions (c.reads o))) (seated w a (at_stage x Open), Refused a refusal.TooLong)
      (λ (p : After V). gates_in p.0 a ≡ []) (λ _. loaded_gates w a y o (with_editions w.boosted.editions (c.reads o)))
      (λ _. seated_gates w a (at_stage x Open))

  -- ---- a failed allocation
  pub starve_gates : (w : World V) (a : ℕ) (x : Seat V) (s : Stage V) → (w.seats a).stage ≡ s
      → gates_in (starve_at w a x s).0 a ≡ gates_of s
  starve_gates w a x Beginning e = seated_gates (acted w (asks a word.AskAbort ∷ [])) a no_one
  starve_gates w a x (Reading l) e = up_gates w a (because x refusal.Memory) []
  starve_gates w a x (Trying asked tries) e = up_gates w a (because x refusal.Memory) []
  starve_gates w a x (Copying asked) e = up_gates w a (because x refusal.Memory) (asked.collection ∷ [])
  starve_gates w a x (Loading o es) e = up_gates w a (because x refusal.Memory) []
  starve_gates w a x Locking e = up_gates w a (because x refusal.Memory) []
  starve_gates w a x (Gating got ks tries) e = up_gates w a (because x refusal.Memory) got
  starve_gates w a x (Ready ks) e = up_gates w a (because x refusal.Memory) ks
  starve_gates w a x Closing e = up_gates w a (because x refusal.Memory) []
  starve_gates w a x s e = ap gates_of e

  -- ---- the actor, and the step as a whole
  gates_at : (x y : Seat V) (t : own.Stage V)
      → gates_of (if is_recorded t then record (at_stage y (stage_in x.stage t)) { calls = x.calls; copied = x.copied } else at_stage y
      (stage_in x.stage t)).stage
      ≡ gates_of (stage_of t)
  gates_at x y (stage.Loading o left) = refl
  gates_at x y t = refl

  -- they are those of the actor's own stage
  pub gates_as : (w : World V) (a : ℕ) (r : TxActor V) → Runs a r w → gates_in w a ≡ gates_of (stage_of r.stage)
  gates_as w a r runs = ap (λ (x : Seat V). gates_of x.stage) runs.0 ∙ gates_at (w.seats a) (seat_of r) r.stage

  abbrev pub after : World V → ℕ → World V
  after w a = (happens w (Step a)).0

  pub step_word_gates : AreSteps V → (w : World V) (a : ℕ) → next_of (w.seats a).stage ≡ next.Word → is_loading (w.seats a).stage ≡ false
      → gates_in (after w a) a ≡ gates_in w a
  step_word_gates steps w a due quiet =
      let x = w.seats a in
      ap (λ (p : After V). gates_in p.0 a) (steps.words w a x x.stage due quiet)
      ∙ word_gates (acted w (moves a ∷ [])) a x x.stage (word_notice w a) refl

  pub step_first_gates : AreSteps V → (w : World V) (a : ℕ) → next_of (w.seats a).stage ≡ next.FirstStore
      → gates_in (after w a) a ≡ gates_in w a
  step_first_gates steps w a due =
      let x = w.seats a in
      let first = first_is x.stage due in
      let ready = acted w (asks a word.AskStore ∷ []) in
      ap (λ (s : Stage V). gates_in (step_at w a x s).0 a) first.1
      ∙ (ap (λ (p : After V). gates_in p.0 a) (steps.first w a x first.0)
      ∙ (word_gates (acted ready (moves a ∷ [])) a x (Ready first.0) (word_notice ready a) first.1 ∙ sym (ap gates_of first.1)))

  pub step_load_gates : SeatsActors V → (w : World V) (a : ℕ) → next_of (w.seats a).stage ≡ next.Word → is_loading (w.seats a).stage ≡ true
      → gates_in (after w a) a ≡ []
  step_load_gates seats w a due loading =
      let x = w.seats a in
      ap (λ (p : After V). gates_in p.0 a) (load_is seats w a x x.stage loading due)
      ∙ load_gates (acted w (moves a ∷ [])) a x x.stage (word_notice w a) loading refl

  pub step_try_gates : AreSteps V → (w : World V) (a k : ℕ) → next_of (w.seats a).stage ≡ next.TryGate k
      → gates_in (after w a) a ≡ (if is_none (w.boosted.gates k) then gates_in w a ++ k ∷ [] else gates_in w a)
  step_try_gates steps w a k due =
      let x = w.seats a in
      ap (λ (p : After V). gates_in p.0 a) (steps.tries w a x x.stage k due)
      ∙ try_gates (acted w (TakeGate a k ∷ [])) a x x.stage k (is_none (w.boosted.gates k)) due

  pub step_put_gates : AreSteps V → (w : World V) (a k : ℕ) → next_of (w.seats a).stage ≡ next.PutGate k
      → gates_in w a ≡ k ∷ gates_in (after w a) a
  step_put_gates steps w a k due =
      let x = w.seats a in
      put_gates (acted w (PutGate a k (λ l. false) ∷ [])) a x x.stage k due
      ∙ ap (λ (p : After V). k ∷ gates_in p.0 a) (sym (steps.puts w a x x.stage k due))

  pub step_home_gates : AreSteps V → (w : World V) (a k : ℕ) → next_of (w.seats a).stage ≡ next.GoHome k
      → gates_in w a ≡ k ∷ gates_in (after w a) a
  step_home_gates steps w a k due =
      let x = w.seats a in
      went_gates (acted w (GoHome a k ∷ [])) a x x.stage k due
      ∙ ap (λ (p : After V). k ∷ gates_in p.0 a) (sym (steps.homes w a x x.stage k due))

  pub step_copy_gates : (w : World V) (a k : ℕ) → next_of (w.seats a).stage ≡ next.Copy k
      → (gates_in w a ≡ k ∷ []) × (gates_in (after w a) a ≡ [])
  step_copy_gates w a k due =
      let x = w.seats a in
      let copy = copy_is x.stage k due in (
        ap gates_of copy.1 ∙ ap (λ (j : ℕ). j ∷ []) copy.2,
        ap (λ (s : Stage V). gates_in (step_at w a x s).0 a) copy.1
            ∙ copied_gates (acted w (PutGate a copy.0.collection (covers_at w.words w.blocks copy.0) ∷ [])) a x copy.0,
      )

  pub starved_gates : (w : World V) (a : ℕ) → gates_in (happens w (Starve a)).0 a ≡ gates_in w a
  starved_gates w a = let x = w.seats a in starve_gates w a x x.stage refl
