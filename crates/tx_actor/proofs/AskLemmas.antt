-- What a request makes of an actor. The definitions test what is there, the limit of calls and the room, as the code does, one after the
-- other; what is left is one request of the word actor, and a call more or another stage.
use Rattle.std.proofs.Common.{◌≡◌, ◌≢◌, ℕ, ◌<◌, cond, ltb, Bool, true, false, not, ◌&&◌, ◌||◌, Option, Some, None, List, [], ◌∷◌, ◌++◌}
use Rattle.std.proofs.Common.{length}
use Rattle.std.proofs.Common.{refl, sym, ap, subst, ◌∙◌, arith}
use Rattle.tx_sets.specs.Entries.{Entries, locations}
use Rattle.tx_machine.specs.Actor as machine
use Rattle.tx_machine.specs.Notices as notice
use Rattle.tx_machine.specs.Requests as requests
use Rattle.tx_machine.specs.Requests.{ask, AskRead, AskWrite, AskLock, AskClose, AskStore}
use Rattle.tx_machine.proofs.Sets.{put-same}
use Rattle.seq_model.specs.declared.call.Call.{Call}
use Rattle.seq_model.specs.declared.call.Reply.{Reply}
use Rattle.seq_model.specs.declared.call.Op.TheVariants.{Read, Write}
use Rattle.seq_model.specs.declared.call.Reply.TheVariants as reply
use Rattle.seq_model.specs.declared.event.Notice.TheVariants.{Quiet, Refused}
use Rattle.seq_model.specs.declared.refusal.Refusal.TheVariants as refusal
use Rattle.seq_model.specs.declared.limits.TheConstants.{CALL_LIMIT}
use Rattle.tx_machine.specs.Boosted.{every, is_held}
use Rattle.replay_log.specs.Contents.{content, end_of, is_plain}
use Rattle.replay_log.specs.Worlds as worlds
use Rattle.replay_log.specs.Worlds.{World, Seat, After, acted, actor_of, ask_op, asks, at_stage, commits, fits, if_allowed, reads, replied}
use Rattle.replay_log.specs.Worlds.{seated, with_call, written_homes}
use Rattle.step_core.specs.Shown as words
use Rattle.std.specs.declared.alloc.Global.{Global}
use Rattle.std.specs.declared.collections.VecDeque.{VecDeque}
use Rattle.tx_actor.specs.declared.actor.Stage.{Stage}
use Rattle.tx_actor.specs.declared.actor.Stage.TheVariants as stage
use Rattle.tx_actor.specs.declared.actor.ActorNotice.{ActorNotice}
use Rattle.tx_actor.specs.declared.actor.ActorNotice.TheVariants as told
use Rattle.tx_actor.specs.declared.actor.TxActor.{TxActor}
use Rattle.tx_actor.specs.Asks.{AdmitsCall, Asks, MayStore, when_found}
use Rattle.actor_parts.specs.Requests.{may_read, number_told}
use Rattle.actor_parts.specs.Blocks.{BlocksView, homes_in}
use Rattle.tx_actor.specs.Running.{KnowsHomes, Runs, is_recorded, notice_of, seat_at, seat_in, seat_of}
use Rattle.tx_actor.proofs.RunsLemmas.{seat_as}
use Rattle.actor_parts.proofs.ShowsLemmas.{guarded_asked}

-- ---- what a request of the word actor leaves
lock_of : (x : machine.Actor) (es : Entries) → (requests.lock x es).writes ≡ x.writes
lock_of x [] = refl
lock_of x (e ∷ es) = refl

lock_writes : (x : machine.Actor) (p : machine.Place) → (ask x p AskLock).writes ≡ x.writes
lock_writes x machine.Open = lock_of x x.writes
lock_writes x (machine.Check []) = refl
lock_writes x (machine.Check (k ∷ ks)) = refl
lock_writes x (machine.Store []) = refl
lock_writes x (machine.Store (k ∷ ks)) = refl
lock_writes x p = refl

store_writes : (x : machine.Actor) (p : machine.Place) → (ask x p AskStore).writes ≡ x.writes
store_writes x (machine.Check []) = refl
store_writes x (machine.Check (k ∷ ks)) = refl
store_writes x (machine.Store []) = refl
store_writes x (machine.Store (k ∷ ks)) = refl
store_writes x p = refl

pub none_there : (es : Entries) → length es ≡ 0 → es ≡ []
none_there [] len = refl
none_there (e ∷ es) len = absurd (omega arith)

pub some_there : (es : Entries) → (length es ≡ 0 → ⊥) → es ≢ []
some_there es some e = some (ap (λ (fs : Entries). length fs) e)

module _ {V : Type 0} where
  -- one call more
  pub more_calls : (x : Seat V) (cs ds es : List (Call V × Reply V)) (call : Call V) (r : Reply V) → ds ≡ cs → es ≡ ds ++ (call, r) ∷ []
      → record x { stage = worlds.Open; calls = es } ≡ with_call (record x { calls = cs }) call r
  more_calls x cs ds es call r same more =
      λ j. record x { stage = worlds.Open; calls = (more ∙ ap (λ (zs : List (Call V × Reply V)). zs ++ (call, r) ∷ []) same) j }

  pub allowed : (w : World V) (a : ℕ) (x : Seat V) (known room : Bool) (next : After V) → known ≡ true
      → ltb (length x.calls) CALL_LIMIT ≡ true → room ≡ true → if_allowed w a x known room next ≡ next
  allowed w a x known room next e f g =
      ap (λ (b : Bool). if_allowed w a x b room next) e
      ∙ (ap (λ (b : Bool). cond (b && room) next (w, Refused a refusal.TooLong)) f
      ∙ ap (λ (b : Bool). cond (true && b) next (w, Refused a refusal.TooLong)) g)

  -- ---- a read of a word
  same_found : (w : World V) (a : ℕ) (x : Seat V) (l : ℕ) (found : Option ℕ)
      → reads w a x l (number_told found) ≡ when_found (acted w (asks a (AskRead l) ∷ [])) a x l found
  same_found w a x l None = refl
  same_found w a x l (Some v) = refl

  pub reads_as : (v : BlocksView) (r u : TxActor V) (t : ActorNotice V) (z : Seat V) (l : ℕ) (found : Option ℕ) → z ≡ seat_of r
      → ltb l v.words ≡ true
      → ltb (length r.calls.items) CALL_LIMIT ≡ true → may_read (words.actor_of r.words) l ≡ true
      → number_told found ≡ notice.reply (words.actor_of r.words) (words.actor_of r.words).place (AskRead l)
      → ((a : ℕ) (w : World V) → actor_of w a ≡ ask (words.actor_of r.words) (words.actor_of r.words).place (AskRead l)
      → Runs a u (when_found w a z l found).0 × (notice_of a t ≡ (when_found w a z l found).1))
      → Asks v r u t (λ a w. ask_op w a (seat_of r) l Read)
  reads_as v r u t z l found same known few room e h a w laid s =
      let x = seat_of r in
      let now : World V = acted w (asks a (AskRead l) ∷ []) in
      let is : actor_of now a ≡ ask (words.actor_of r.words) (words.actor_of r.words).place (AskRead l) =
      put-same w.boosted.words.actors a _ ∙ ap (λ (q : machine.Actor). ask q q.place (AskRead l)) s.1 in
      let there : ltb l w.words ≡ true = ap (ltb l) laid.0 ∙ known in
      let fit : may_read (actor_of w a) l ≡ true = ap (λ (q : machine.Actor). may_read q l) s.1 ∙ room in
      let n : notice.reply (actor_of w a) (actor_of w a).place (AskRead l) ≡ number_told found =
      ap (λ (q : machine.Actor). notice.reply q q.place (AskRead l)) s.1 ∙ sym e in
      let all : ask_op w a x l Read ≡ when_found now a x l found =
      allowed w a x (ltb l w.words) (may_read (actor_of w a) l)
      (reads w a x l (notice.reply (actor_of w a) (actor_of w a).place (AskRead l)))
      there few fit
      ∙ (ap (reads w a x l) n ∙ same_found w a x l found) in
      let found_as : when_found now a z l found ≡ when_found now a x l found = ap (λ (y : Seat V). when_found now a y l found) same in
      subst (λ (p : After V). Runs a u p.0 × (notice_of a t ≡ p.1)) (found_as ∙ sym all) (h a now is)

  -- ---- a write of a word
  may_write : (w : World V) (a l : ℕ) (n : ℕ) (declared b : Bool) → w.words ≡ n → (actor_of w a).declared ≡ declared
      → (ltb l n && not declared) ≡ b
      → (ltb l w.words && not (actor_of w a).declared) ≡ b
  may_write w a l n declared b e d h =
      ap (λ (m : ℕ). ltb l m && not (actor_of w a).declared) e ∙ (ap (λ (q : Bool). ltb l n && not q) d ∙ h)

  pub writes_as : (v : BlocksView) (r u : TxActor V) (t : ActorNotice V) (l val : ℕ) → ltb l v.words ≡ true → r.words.declared ≡ false
      → ltb (length r.calls.items) CALL_LIMIT ≡ true → fits r.words.writes.entries (l ∷ []) ≡ true
      → ((a : ℕ) (w : World V) → actor_of w a ≡ ask (words.actor_of r.words) (words.actor_of r.words).place (AskWrite l val)
      → Runs a u (replied w a (seat_of r) (record { target = l; op = Write val }) reply.Done).0
      × (notice_of a t ≡ (replied w a (seat_of r) (record { target = l; op = Write val }) reply.Done).1))
      → Asks v r u t (λ a w. ask_op w a (seat_of r) l (Write val))
  writes_as v r u t l val known own few room h a w laid s =
      let x = seat_of r in
      let now : World V = acted w (asks a (AskWrite l val) ∷ []) in
      let there : ltb l w.words ≡ true = ap (ltb l) laid.0 ∙ known in
      let plain : is_plain w.words w.blocks l ≡ true = ap (λ (b : Bool). b || not (ltb l (end_of w.words w.blocks))) there in
      let is : actor_of now a ≡ ask (words.actor_of r.words) (words.actor_of r.words).place (AskWrite l val) =
      guarded_asked a w (AskWrite l val) (is_plain w.words w.blocks l) plain
      ∙ ap (λ (q : machine.Actor). ask q q.place (AskWrite l val)) s.1 in
      let may : (ltb l w.words && not (actor_of w a).declared) ≡ true =
      may_write w a l v.words false true laid.0 (ap (λ (q : machine.Actor). q.declared) s.1 ∙ own)
      (ap (λ (b : Bool). b && not false) known) in
      let fit : fits (actor_of w a).writes (l ∷ []) ≡ true = ap (λ (q : machine.Actor). fits q.writes (l ∷ [])) s.1 ∙ room in
      let all = allowed w a x (ltb l w.words && not (actor_of w a).declared) (fits (actor_of w a).writes (l ∷ []))
      (replied now a x (record { target = l; op = Write val }) reply.Done) may few fit in
      subst (λ (z : After V). Runs a u z.0 × (notice_of a t ≡ z.1)) (sym all) (h a now is)

  -- ---- a call that finds what it asks of
  pub admits_read : (v : BlocksView) (r : TxActor V) (l : ℕ) → ltb l v.words ≡ true → length r.calls.items < CALL_LIMIT
      → may_read (words.actor_of r.words) l ≡ true → AdmitsCall v r (record { target = l; op = Read })
  admits_read v r l known few room = record {
    there = λ a w laid s. ap (ltb l) laid.0 ∙ known;
    few = few;
    room = λ a w laid s. ap (λ (q : machine.Actor). may_read q l) s.1 ∙ room;
  }

  pub admits_write : (v : BlocksView) (r : TxActor V) (l val : ℕ) → ltb l v.words ≡ true → r.words.declared ≡ false
      → length r.calls.items < CALL_LIMIT → fits r.words.writes.entries (l ∷ []) ≡ true
      → AdmitsCall v r (record { target = l; op = Write val })
  admits_write v r l val known own few room = record {
    there = λ a w laid s. may_write w a l v.words false true laid.0 (ap (λ (q : machine.Actor). q.declared) s.1 ∙ own)
        (ap (λ (b : Bool). b && not false) known);
    few = few;
    room = λ a w laid s. ap (λ (q : machine.Actor). fits q.writes (l ∷ [])) s.1 ∙ room;
  }

  -- ---- a commit
  commits_none : (w : World V) (a : ℕ) (x : Seat V) (es : Entries) → es ≡ []
      → commits w a x es ≡ (seated (acted w (asks a AskClose ∷ [])) a (at_stage x worlds.Closing), Quiet)
  commits_none w a x es e = ap (commits w a x) e

  commits_some : (w : World V) (a : ℕ) (x : Seat V) (es : Entries) → es ≢ []
      → commits w a x es ≡ (seated (acted w (asks a AskLock ∷ [])) a (at_stage x worlds.Locking), Quiet)
  commits_some w a x [] some = absurd (some refl)
  commits_some w a x (e ∷ es) some = refl

  pub closes_as : (v : BlocksView) (r u : TxActor V) → r.words.writes.entries ≡ [] → u.stage ≡ stage.Closing
      → ((st : worlds.Stage V) → seat_in st u ≡ at_stage (seat_of r) worlds.Closing)
      → words.actor_of u.words ≡ ask (words.actor_of r.words) (words.actor_of r.words).place AskClose
      → Asks v r u told.Quiet (λ a w. commits w a (seat_of r) (actor_of w a).writes)
  closes_as v r u none closing seat is a w laid s =
      let all = commits_none w a (seat_of r) (actor_of w a).writes (ap (λ (q : machine.Actor). q.writes) s.1 ∙ none) in
      let now : World V = seated (acted w (asks a AskClose ∷ [])) a (at_stage (seat_of r) worlds.Closing) in
      subst (λ (z : After V). Runs a u z.0 × (Quiet ≡ z.1)) (sym all) (
        (
          seat_as u (now.seats a) _ (ap is_recorded closing) (put-same w.seats a _) seat,
          put-same w.boosted.words.actors a _ ∙ (ap (λ (q : machine.Actor). ask q q.place AskClose) s.1 ∙ sym is),
          subst (λ (z : Stage V). KnowsHomes z (written_homes now a)) (sym closing) tt,
        ),
        refl,
      )

  pub locks_as : (v : BlocksView) (r u : TxActor V) (homes : VecDeque ℕ Global) → r.words.writes.entries ≢ []
      → u.stage ≡ stage.Locking homes → ((st : worlds.Stage V) → seat_in st u ≡ at_stage (seat_of r) worlds.Locking)
      → words.actor_of u.words ≡ ask (words.actor_of r.words) (words.actor_of r.words).place AskLock
      → homes.items ≡ homes_in v r.words.writes.entries
      → Asks v r u told.Quiet (λ a w. commits w a (seat_of r) (actor_of w a).writes)
  locks_as v r u homes some at_locking seat is found a w laid s =
      let all = commits_some w a (seat_of r) (actor_of w a).writes (λ e. some (sym (ap (λ (q : machine.Actor). q.writes) s.1) ∙ e)) in
      let now : World V = seated (acted w (asks a AskLock ∷ [])) a (at_stage (seat_of r) worlds.Locking) in
      let at_now : actor_of now a ≡ words.actor_of u.words =
      put-same w.boosted.words.actors a _ ∙ (ap (λ (q : machine.Actor). ask q q.place AskLock) s.1 ∙ sym is) in
      let known : homes.items ≡ written_homes now a =
      found ∙ sym ((λ j. homes_in (record { words = laid.0 j; blocks = laid.1 j }) (actor_of now a).writes)
      ∙ ap (homes_in v) (ap (λ (q : machine.Actor). q.writes) at_now
      ∙ (ap (λ (q : machine.Actor). q.writes) is ∙ lock_writes (words.actor_of r.words) (words.actor_of r.words).place))) in
      subst (λ (z : After V). Runs a u z.0 × (Quiet ≡ z.1)) (sym all) (
        (
          seat_as u (now.seats a) _ (ap is_recorded at_locking) (put-same w.seats a _) seat,
          at_now,
          subst (λ (z : Stage V). KnowsHomes z (written_homes now a)) (sym at_locking) known,
        ),
        refl,
      )

  -- ---- the first value store
  pub stores_as : (r u : TxActor V) → u.stage ≡ r.stage → ((x : Seat V) → seat_at x u ≡ seat_at x r)
      → words.actor_of u.words ≡ ask (words.actor_of r.words) (words.actor_of r.words).place AskStore
      → MayStore r u
  stores_as r u same seat is a w held s =
      let now : World V = acted w (asks a AskStore ∷ []) in
      let writes : u.words.writes.entries ≡ r.words.writes.entries =
      ap (λ (q : machine.Actor). q.writes) is ∙ store_writes (words.actor_of r.words) (words.actor_of r.words).place in
      let at_now : actor_of now a ≡ words.actor_of u.words =
      guarded_asked a w AskStore (every (is_held (content w.words w.blocks) w.boosted a) (locations (actor_of w a).writes)) held
      ∙ (ap (λ (q : machine.Actor). ask q q.place AskStore) s.1 ∙ sym is) in
      let known : written_homes w a ≡ written_homes now a =
      ap (homes_in (record { words = w.words; blocks = w.blocks }))
      (ap (λ (q : machine.Actor). q.writes) s.1 ∙ (sym writes ∙ sym (ap (λ (q : machine.Actor). q.writes) at_now))) in (
        s.0 ∙ sym (seat (w.seats a)),
        at_now,
        subst (λ (z : Stage V). KnowsHomes z (written_homes now a)) (sym same) (subst (KnowsHomes r.stage) known s.2),
      )
