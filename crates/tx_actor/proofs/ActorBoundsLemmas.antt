-- What keeps an actor's bounds does so one after another. What is asked of an actor is asked of its word actor, of its room and of its
-- stage: a method that leaves the word actor, or lets it keep its bounds, and names no collection anew, keeps it (`keeps_to`); and one that
-- hands over to another, which finds the actor at a stage of its own, keeps it as that one does (`keeps_from`). A stage that needs no room
-- reads the locations of no call (`no_call`), since those are read by a word actor that is not idle.
use Rattle.std.proofs.Common.{◌≡◌, ℕ, ◌<◌, ◌≤◌, true, false, true≢false, List, length, refl, sym, subst, arith}
use Rattle.std.specs.Vec.{vec_capacity, vec_len}
use Rattle.step_core.specs.Sound.{Fits, Keeps, owed}
use Rattle.step_core.specs.declared.actor.Actor.{Actor}
use Rattle.replay_log.specs.Contents.{end_of}
use Rattle.actor_parts.specs.Blocks.{BlocksView}
use Rattle.actor_parts.specs.declared.copies.CopyOfCollection.{CopyOfCollection}
use Rattle.actor_parts.specs.PrivateCopy.{holds_of}
use Rattle.actor_parts.specs.CopyList.{copy_of}
use Rattle.tx_actor.specs.Answers.{at_rest}
use Rattle.tx_actor.specs.Dispatch.{HasRoom}
use Rattle.actor_parts.specs.Dispatch.{is_loading}
use Rattle.actor_parts.specs.Requests.{KeepsAt}
use Rattle.tx_actor.specs.ActorBounds.{IsCallAt, KeepsIn, NamesAmong}
use Rattle.tx_actor.specs.Running.{at, is_recorded, stage_of}
use Rattle.tx_actor.specs.declared.actor.Stage.{Stage}
use Rattle.tx_actor.specs.declared.actor.Stage.TheVariants as stage
use Rattle.tx_actor.specs.declared.actor.TxActor.{TxActor}

pub words_same : (n : ℕ) (x : Actor) → KeepsAt n x x
words_same n x = record { fits = λ f. f; owed = omega arith; due = omega arith }

module _ {V : Type 0} where
  -- a stage whose step needs no room reads for no call
  no_call : (v : BlocksView) (r : TxActor V) (t : Stage V) → ((z : TxActor V) → HasRoom z t) → (cs : List (CopyOfCollection V))
      → IsCallAt v cs t
  no_call v r (stage.Loading o left) room cs = absurd ((room (at_rest r)).place)
  no_call v r t room cs = tt

  pub quiet_call : (v : BlocksView) (cs : List (CopyOfCollection V)) (s : Stage V) → is_loading (stage_of s) ≡ false → IsCallAt v cs s
  quiet_call v cs (stage.Loading o left) quiet = absurd (true≢false quiet)
  quiet_call v cs s quiet = tt

  -- the actor is as it was
  pub keeps_same : (v : BlocksView) (r u : TxActor V) → u ≡ r → KeepsIn v r u
  keeps_same v r u e = subst (KeepsIn v r) (sym e) (record { running = λ i. i; owed = omega arith })

  -- at a stage t, whose step needs no room
  pub keeps_to : (v : BlocksView) (r u : TxActor V) (s t : Stage V)
      → ((n : ℕ) → Fits n r.words → Fits n u.words) → owed u.words.place ≤ owed r.words.place → u.stage ≡ t
      → ((n : ℕ) → NamesAmong n s → NamesAmong n t) → ((z : TxActor V) → HasRoom z t) → KeepsIn v (at r s) u
  keeps_to v r u s t fits owed at_t names room = record {
    running = λ i. record {
      fits = fits (end_of v.words v.blocks) i.fits;
      room = subst (HasRoom u) (sym at_t) (room u);
      names = subst (NamesAmong (length v.blocks)) (sym at_t) (names (length v.blocks) i.names);
      call = subst (IsCallAt v u.copies.items) (sym at_t) (no_call v u t room u.copies.items);
    };
    owed = owed;
  }

  pub keeps_plain : (v : BlocksView) (r u : TxActor V) (s t : Stage V) → u.words ≡ r.words → u.stage ≡ t
      → ((n : ℕ) → NamesAmong n s → NamesAmong n t) → ((z : TxActor V) → HasRoom z t) → KeepsIn v (at r s) u
  keeps_plain v r u s t same at_t names room =
      keeps_to v r u s t (λ n f. subst (Fits n) (sym same) f)
      (subst (λ (x : Actor). owed x.place ≤ owed r.words.place) (sym same) (omega arith)) at_t names room

  -- its word actor is x, which keeps its bounds
  pub keeps_cleared : (v : BlocksView) (r u : TxActor V) (x : Actor) (s t : Stage V) → Keeps r.words x → u.words ≡ x → u.stage ≡ t
      → ((n : ℕ) → NamesAmong n s → NamesAmong n t) → ((z : TxActor V) → HasRoom z t) → KeepsIn v (at r s) u
  keeps_cleared v r u x s t k same at_t names room =
      keeps_to v r u s t (λ n f. subst (Fits n) (sym same) (k.fits n f))
      (subst (λ (y : Actor). owed y.place ≤ owed r.words.place) (sym same) k.owed) at_t names room

  -- the actor q, which is r but for what is only shown, and at a stage t whose step needs no room, becomes u
  pub keeps_from : (v : BlocksView) (r q u : TxActor V) (s t : Stage V) → q.words ≡ r.words → KeepsIn v (at q t) u
      → ((n : ℕ) → NamesAmong n s → NamesAmong n t) → ((z : TxActor V) → HasRoom z t) → KeepsIn v (at r s) u
  keeps_from v r q u s t same k names room = record {
    running = λ i. k.running (record {
      fits = subst (Fits (end_of v.words v.blocks)) (sym same) i.fits;
      room = room (at q t);
      names = names (length v.blocks) i.names;
      call = no_call v q t room q.copies.items;
    });
    owed = subst (λ (x : Actor). owed u.words.place ≤ owed x.place) same k.owed;
  }

  -- r stands at the stage s
  pub keeps_at : (v : BlocksView) (r u : TxActor V) (s : Stage V) → r.stage ≡ s → KeepsIn v (at r s) u → KeepsIn v r u
  keeps_at v r u s e k = subst (λ (z : Stage V). KeepsIn v (at r z) u) (sym e) k

  -- its word actor was asked for something
  pub keeps_asked : (v : BlocksView) (r u : TxActor V) → KeepsAt (end_of v.words v.blocks) r.words u.words
      → (HasRoom r r.stage → HasRoom u u.stage)
      → (NamesAmong (length v.blocks) r.stage → NamesAmong (length v.blocks) u.stage) → is_loading (stage_of u.stage) ≡ false
      → KeepsIn v r u
  keeps_asked v r u k room names quiet = record {
    running = λ i. record {
      fits = k.fits i.fits;
      room = room i.room;
      names = names i.names;
      call = quiet_call v u.copies.items u.stage quiet;
    };
    owed = k.owed;
  }

  -- and then as q, at a stage whose step needs nothing, becomes u
  pub keeps_through : (v : BlocksView) (r q u : TxActor V) → KeepsAt (end_of v.words v.blocks) r.words q.words
      → KeepsIn v (at q stage.Idle) u → KeepsIn v r u
  keeps_through v r q u k next = record {
    running = λ i. next.running (record { fits = k.fits i.fits; room = tt; names = tt; call = tt });
    owed = (let e = next.owed in let f = k.owed in omega (arith, e, f));
  }

  -- its word actor stands, and there is the room that its stage t asks for
  pub keeps_room : (v : BlocksView) (r u : TxActor V) (s t : Stage V) → u.words ≡ r.words → u.stage ≡ t
      → ((n : ℕ) → NamesAmong n s → NamesAmong n t) → (HasRoom (at r s) s → HasRoom u t) → is_loading (stage_of t) ≡ false
      → KeepsIn v (at r s) u
  keeps_room v r u s t same at_t names room quiet = record {
    running = λ i. record {
      fits = subst (Fits (end_of v.words v.blocks)) (sym same) i.fits;
      room = subst (HasRoom u) (sym at_t) (room i.room);
      names = subst (NamesAmong (length v.blocks)) (sym at_t) (names (length v.blocks) i.names);
      call = subst (IsCallAt v u.copies.items) (sym at_t) (quiet_call v u.copies.items t quiet);
    };
    owed = subst (λ (x : Actor). owed x.place ≤ owed r.words.place) (sym same) (omega arith);
  }

  -- idle, its word actor within the bounds
  pub keeps_open : (v : BlocksView) (r u : TxActor V)
      → (Fits (end_of v.words v.blocks) r.words → Fits (end_of v.words v.blocks) u.words) → owed u.words.place ≤ owed r.words.place
      → u.stage ≡ stage.Open → KeepsIn v (at r stage.Idle) u
  keeps_open v r u fits owed rests = record {
    running = λ i. record {
      fits = fits i.fits;
      room = subst (HasRoom u) (sym rests) tt;
      names = subst (NamesAmong (length v.blocks)) (sym rests) tt;
      call = subst (IsCallAt v u.copies.items) (sym rests) tt;
    };
    owed = owed;
  }

  -- where it keeps them at one stage that reads for no call, there is room where there was
  pub room_as : (r u : TxActor V) (s : Stage V) → is_loading (stage_of s) ≡ false → u.copies.items ≡ r.copies.items
      → (vec_len r.calls < vec_capacity r.calls → vec_len u.calls < vec_capacity u.calls) → HasRoom r s → HasRoom u s
  room_as r u (stage.Reading l) quiet same more h = more h
  room_as r u (stage.Trying asked tries) quiet same more h =
      subst (λ (cs : List (CopyOfCollection V)). holds_of (copy_of cs asked.collection) asked.op ≡ false) (sym same) h
  room_as r u (stage.Copying asked) quiet same more h =
      subst (λ (cs : List (CopyOfCollection V)). holds_of (copy_of cs asked.collection) asked.op ≡ false) (sym same) h
  room_as r u (stage.Loading o left) quiet same more h = absurd (true≢false quiet)
  room_as r u s quiet same more h = tt

  -- once its record is made it needs none
  pub recorded_room : (u : TxActor V) (s : Stage V) → is_recorded s ≡ true → HasRoom u s
  recorded_room u (stage.Reading l) made = absurd (true≢false (sym made))
  recorded_room u (stage.Trying asked tries) made = absurd (true≢false (sym made))
  recorded_room u (stage.Copying asked) made = absurd (true≢false (sym made))
  recorded_room u (stage.Loading o left) made = absurd (true≢false (sym made))
  recorded_room u s made = tt

  pub recorded_quiet : (s : Stage V) → is_recorded s ≡ true → is_loading (stage_of s) ≡ false
  recorded_quiet (stage.Loading o left) made = absurd (true≢false (sym made))
  recorded_quiet s made = refl
