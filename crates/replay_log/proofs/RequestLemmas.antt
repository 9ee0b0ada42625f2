-- Whatever requests do, they do by the machine's actions. Each function of the definition does some actions of its own actor and
-- reseats it; so an event reaches its world by actions of that actor, which leave the other actors and their seats, and a list
-- of events by the lists of its events, one after another.
use Rattle.std.proofs.Common.{◌≡◌, ℕ, zero, suc, Bool, true, false, ◌&&◌, List, [], ◌∷◌, ◌++◌, Option, Some, None, refl, sym, ap, ◌∙◌}
use Rattle.std.proofs.Common.{subst, eqb, ltb, length}
use Rattle.std.specs.Prelude.{get_or, not, if◌then◌else◌}
use Rattle.std.proofs.lemmas.Bool.{cond_both, and_parts}
use Rattle.tx_sets.specs.Entries.{Entries, lookup, locations}
use Rattle.tx_machine.specs.Requests as word
use Rattle.tx_machine.specs.World as machine
use Rattle.tx_machine.specs.Notices as told
use Rattle.seq_model.specs.declared.call.Op.{Op}
use Rattle.seq_model.specs.declared.call.Op.TheVariants.{Read, Write}
use Rattle.seq_model.specs.declared.held.Held.{Held}
use Rattle.seq_model.specs.declared.refusal.Refusal.TheVariants as refusal
use Rattle.seq_model.specs.declared.event.Event.{Event}
use Rattle.seq_model.specs.declared.event.Event.TheVariants.{Ask, Step, Starve}
use Rattle.seq_model.specs.declared.event.Request.{Request}
use Rattle.seq_model.specs.declared.event.Request.TheVariants as request
use Rattle.seq_model.specs.declared.event.Notice.TheVariants.{Quiet, Refused}
use Rattle.seq_model.specs.declared.limits.TheConstants.{CALL_LIMIT}
use Rattle.tx_machine.specs.Actor.{Place, Actor}
use Rattle.tx_machine.proofs.Sets.{put-other}
use Rattle.tx_machine.specs.Content.{Content}
use Rattle.tx_machine.specs.Boosted.{Boosted, Action, OnWords, TakeGate, PutGate, Accept, GoHome, acts, act_all, is_actor, is_none}
use Rattle.tx_machine.specs.Boosted.{is_open, is_stored, is_committing, is_held, is_given, is_sound, every, may_write, on_words}
use Rattle.tx_machine.specs.Boosted.{on_ask, shadows_after, recorded, word_step, gated, copied, homed, writes_asked, longer}
use Rattle.tx_machine.specs.Boosted.{accepted, changes}
use Rattle.tx_machine.proofs.BoostedQuiet.{open_is}
use Rattle.replay_log.proofs.ActionLemmas.{does_rest, is_undeclared, writes_wrote}
use Rattle.tx_machine.specs.Serial.{after_actions}
use Rattle.replay_log.specs.Base.{Shown}
use Rattle.replay_log.specs.Contents.{Block, CollectionCall, CallWithOutcome, content}
use Rattle.replay_log.specs.Collections.{shown_at}
use Rattle.replay_log.specs.Pieces.{piece_at, covers_at}
use Rattle.replay_log.specs.WorldProgress.{whose}
use Rattle.replay_log.specs.Worlds.{World, Seat, Stage, Idle, Beginning, Open, Locking, Releasing, Closing, Cancelling, Leaving, Reading}
use Rattle.replay_log.specs.Worlds.{Trying, Copying, Loading, Gating, Ready, Storing, Homing, Returning, After, has_room, with_editions}
use Rattle.replay_log.specs.Worlds.{with_piece, sized_by, is_fresh, judges, at_stage, because, seated, acted, asks, moves, actor_of}
use Rattle.replay_log.specs.Worlds.{word_notice, cancels, gives_up, reads, outcome_at, loads, answers, calls_on, if_allowed, ask_op}
use Rattle.replay_log.specs.Worlds.{commits, ask_at, recorded as noted_in, has_begun, has_read, has_tried, has_loaded, takes_gates}
use Rattle.replay_log.specs.Worlds.{has_locked, goes_home, has_stored, has_released, has_cancelled, step_at, starve_at, happens, run}
use Rattle.replay_log.specs.Worlds.{opened}

-- The world u is reached from v by actions of the machine.
pub record Reached {V : Type 0} (v u : World V) : Type 0 where
  pub words : u.words ≡ v.words
  pub blocks : u.blocks ≡ v.blocks
  pub actions : List (Action (CollectionCall V))
  pub is : u.boosted ≡ act_all (content v.words v.blocks) actions v.boosted

-- an action of actor a
abbrev pub IsOf : {Op : Type 0} → ℕ → Action Op → Type 0
IsOf a (OnWords (machine.Ask b q)) = b ≡ a
IsOf a (OnWords (machine.Step b)) = b ≡ a
IsOf a (TakeGate b k) = b ≡ a
IsOf a (PutGate b k which) = b ≡ a
IsOf a (Accept b op) = b ≡ a
IsOf a (GoHome b k) = b ≡ a

abbrev pub AllOf : {Op : Type 0} → ℕ → List (Action Op) → Type 0
AllOf a [] = Unit {0}
AllOf a (e ∷ es) = IsOf a e × AllOf a es

all_of-append : {Op : Type 0} → (a : ℕ) (es fs : List (Action Op)) → AllOf a es → AllOf a fs → AllOf a (es ++ fs)
all_of-append a [] fs g h = h
all_of-append a (e ∷ es) fs g h = (g.0, all_of-append a es fs g.1 h)

-- By actions of a, which leave the other actors and their seats.
pub record ReachedBy {V : Type 0} (a : ℕ) (v u : World V) : Type 0 where
  pub reached : Reached v u
  pub own : AllOf a reached.actions
  pub seats : (b : ℕ) → (b ≡ a → ⊥) → u.seats b ≡ v.seats b
  pub actors : (b : ℕ) → (b ≡ a → ⊥) → u.boosted.words.actors b ≡ v.boosted.words.actors b

noted_actors : (t : machine.World) (o : machine.StepEnd) → (machine.noted t o).actors ≡ t.actors
noted_actors t machine.GoesOn = refl
noted_actors t (machine.Commits r) = refl
noted_actors t (machine.Aborts e) = refl

module _ {X Op Out : Type 0} (c : Content X Op Out) (a b : ℕ) (ne : b ≡ a → ⊥) where
  abbrev Others : Boosted X Out → Boosted X Out → Type 0
  Others s t = t.words.actors b ≡ s.words.actors b

  asked_other : (s : Boosted X Out) (y : Actor) → (machine.put s.words.actors a y) b ≡ s.words.actors b
  asked_other s y = put-other s.words.actors a y b ne

  stepped_other : (s : Boosted X Out) (p : Place) → Others s (word_step s a (s.words.actors a) p)
  stepped_other s p =
      let x = s.words.actors a in
      let d = machine.plan x p in
      let o = machine.step_end a x p in
      noted_boosted (record s { words = machine.step s.words a x p; shadows = shadows_after s a p }) (s.shadows a).outcomes o
      ∙ ap (λ (f : ℕ → Actor). f b) (noted_actors (machine.does s.words a d) o) ∙ (does_rest s.words a d).actors b ne
    where
      noted_boosted : (t : Boosted X Out) (os : List Out) (o : machine.StepEnd) → (recorded t os o).words.actors b ≡ t.words.actors b
      noted_boosted t os machine.GoesOn = refl
      noted_boosted t os (machine.Commits r) = refl
      noted_boosted t os (machine.Aborts e) = refl

  ask_other : (s : Boosted X Out) (q : word.Request) → Others s (on_ask c s a q)
  ask_other s (word.AskWrite l v) =
      let y = word.ask (s.words.actors a) (s.words.actors a).place (word.AskWrite l v) in
      cond_both (c.plain l) (on_words s (machine.now s.words a y)) s (Others s) (λ _. asked_other s y) (λ _. refl)
  ask_other s word.AskStore =
      let y = word.ask (s.words.actors a) (s.words.actors a).place word.AskStore in
      cond_both (every (is_held c s a) (locations (s.words.actors a).writes)) (on_words s (machine.now s.words a y)) s (Others s)
      (λ _. asked_other s y)
      (λ _. refl)
  ask_other s word.AskRelease =
      let y = word.ask (s.words.actors a) (s.words.actors a).place word.AskRelease in
      cond_both (every (is_given c s a) (locations (s.words.actors a).writes)) (on_words s (machine.now s.words a y)) s (Others s)
      (λ _. asked_other s y) (λ _. refl)
  ask_other s word.AskBeginRead = asked_other s (word.ask (s.words.actors a) (s.words.actors a).place word.AskBeginRead)
  ask_other s word.AskBegin = asked_other s (word.ask (s.words.actors a) (s.words.actors a).place word.AskBegin)
  ask_other s word.AskLock = asked_other s (word.ask (s.words.actors a) (s.words.actors a).place word.AskLock)
  ask_other s word.AskCancel = asked_other s (word.ask (s.words.actors a) (s.words.actors a).place word.AskCancel)
  ask_other s word.AskAbort = asked_other s (word.ask (s.words.actors a) (s.words.actors a).place word.AskAbort)
  ask_other s word.AskClose = asked_other s (word.ask (s.words.actors a) (s.words.actors a).place word.AskClose)
  ask_other s (word.AskRead l) = asked_other s (word.ask (s.words.actors a) (s.words.actors a).place (word.AskRead l))

  accept_other : (s : Boosted X Out) (o : Out) → Others s (accepted c s a o)
  accept_other s o =
      let x = s.words.actors a in
      let rest = may_write x.declared (c.writes o) && every (is_sound c s a) (c.reads o) in
      cond_both (is_open x.place && rest)
      (record s {
        words = machine.run (writes_asked a (s.shadows a).editions (c.writes o)) s.words;
        shadows = machine.put s.shadows a
            (longer (s.shadows a) o);
      }) s (Others s)
      (λ t. (
      let g = and_parts (is_open x.place) rest t in
      (writes_wrote c s.words a (s.shadows a).editions (c.writes o) (open_is x.place g.0)
      (λ l m. is_undeclared x.declared (c.writes o) l
      (and_parts (may_write x.declared (c.writes o)) (every (is_sound c s a) (c.reads o)) g.1).0 m)).1 b ne))
      (λ _. refl)

  -- an action of a leaves the record of b
  own_other : (s : Boosted X Out) (e : Action Op) → IsOf a e → Others s (acts c s e)
  own_other s (OnWords (machine.Ask i q)) m = subst (λ j. Others s (on_ask c s j q)) (sym m) (ask_other s q)
  own_other s (OnWords (machine.Step i)) m = subst (λ j. Others s (word_step s j (s.words.actors j) (s.words.actors j).place)) (sym m)
      (stepped_other s (s.words.actors a).place)
  own_other s (TakeGate i k) m = cond_both (is_none (s.gates k) && not (is_committing (s.words.actors i).place))
      (gated s (machine.put s.gates k (Some i)) s.shadows) s (Others s) (λ _. refl) (λ _. refl)
  own_other s (PutGate i k which) m =
      cond_both (is_actor i (s.gates k) && not (is_committing (s.words.actors i).place))
      (gated s (machine.put s.gates k None)
      (if is_open (s.words.actors i).place then machine.put s.shadows i
      (copied c s (s.words.actors i).calls (s.shadows i) k which) else s.shadows)) s (Others s) (λ _. refl) (λ _. refl)
  own_other s (Accept i op) m =
      subst (λ j. Others s (accepted c s j (c.outcome (changes c (s.shadows j).outcomes (s.shadows j).parts) op))) (sym m)
      (accept_other s (c.outcome (changes c (s.shadows a).outcomes (s.shadows a).parts) op))
  own_other s (GoHome i k) m = cond_both (is_actor i (s.gates k) && is_stored (s.words.actors i).place) (homed c s i k) s (Others s)
      (λ _. refl) (λ _. refl)

all_other : {X Op Out : Type 0} → (c : Content X Op Out) (a b : ℕ) → (b ≡ a → ⊥) → (es : List (Action Op)) (s : Boosted X Out) → AllOf a es
    → (act_all c es s).words.actors b ≡ s.words.actors b
all_other c a b ne [] s own = refl
all_other c a b ne (e ∷ es) s own = all_other c a b ne es (acts c s e) own.1 ∙ own_other c a b ne s e own.0

act_all-append : {V : Type 0} → (w : ℕ) (bs : List Block) (es fs : List (Action (CollectionCall V)))
    (s : Boosted (Shown V) (CallWithOutcome V))
    → act_all (content w bs) (es ++ fs) s ≡ act_all (content w bs) fs (act_all (content w bs) es s)
act_all-append w bs [] fs s = refl
act_all-append w bs (e ∷ es) fs s = act_all-append w bs es fs (acts (content w bs) s e)

module _ {V : Type 0} where
  nothing : (a : ℕ) (v : World V) → ReachedBy a v v
  nothing a v = record {
    reached = record { words = refl; blocks = refl; actions = []; is = refl };
    own = tt;
    seats = λ b ne. refl;
    actors = λ b ne. refl;
  }

  by : (a : ℕ) (v u : World V) (es : List (Action (CollectionCall V))) → AllOf a es → ReachedBy a v u → ReachedBy a v (acted u es)
  by a v u es own r =
      let g = r.reached in record {
        reached = record {
          words = g.words;
          blocks = g.blocks;
          actions = g.actions ++ es;
          is =
              ap (λ w. act_all (content w u.blocks) es u.boosted) g.words ∙ ap (λ bs. act_all (content v.words bs) es u.boosted) g.blocks
              ∙ ap (act_all (content v.words v.blocks) es) g.is ∙ sym (act_all-append v.words v.blocks g.actions es v.boosted);
        };
        own = all_of-append a g.actions es r.own own;
        seats = r.seats;
        actors = λ b ne. all_other (content u.words u.blocks) a b ne es u.boosted own ∙ r.actors b ne;
      }

  -- only the seat of a, records and what is answered have changed
  same : (a : ℕ) (v u t : World V) → t.words ≡ u.words → t.blocks ≡ u.blocks → t.boosted ≡ u.boosted
      → ((b : ℕ) → (b ≡ a → ⊥) → t.seats b ≡ u.seats b)
      → ReachedBy a v u → ReachedBy a v t
  same a v u t e1 e2 e3 e4 r =
      let g = r.reached in record {
        reached = record { words = e1 ∙ g.words; blocks = e2 ∙ g.blocks; actions = g.actions; is = e3 ∙ g.is };
        own = r.own;
        seats = λ b ne. e4 b ne ∙ r.seats b ne;
        actors = λ b ne. ap (λ (s : Boosted (Shown V) (CallWithOutcome V)). s.words.actors b) e3 ∙ r.actors b ne;
      }

  cancels_by : (v u : World V) (a : ℕ) (x : Seat V) → ReachedBy a v u → ReachedBy a v (cancels u a x)
  cancels_by v u a x g = let h = by a v u (asks a word.AskCancel ∷ asks a word.AskAbort ∷ []) (refl, (refl, tt)) g in
      same a v _ _ refl refl refl
      (λ b ne. put-other _ a _ b ne) h

  gives_up_by : (v u : World V) (a : ℕ) (x : Seat V) (ks : List ℕ) → ReachedBy a v u → ReachedBy a v (gives_up u a x ks).0
  gives_up_by v u a x [] g = cancels_by v u a x g
  gives_up_by v u a x (k ∷ ks) g = same a v u _ refl refl refl (λ b ne. put-other _ a _ b ne) g

  one_by : (v u : World V) (a : ℕ) (x : Seat V) (e : Action (CollectionCall V)) → IsOf a e → ReachedBy a v u
      → ReachedBy a v (seated (acted u (e ∷ [])) a x)
  one_by v u a x e own g = same a v _ _ refl refl refl (λ b ne. put-other _ a _ b ne) (by a v u (e ∷ []) (own, tt) g)

  fresh_by : (v u : World V) (a : ℕ) (x : Seat V) (d : ℕ × ℕ) (i : ℕ) (next : After V) → ReachedBy a v u → ReachedBy a v next.0
      → ReachedBy a v (is_fresh u a x d i next).0
  fresh_by v u a x d i next g h =
      cond_both {A = After V} (eqb d.1 i) next _ (λ z. ReachedBy a v z.0) (λ _. h)
      (λ _. gives_up_by v u a (because x (refusal.Stale d.0 d.1 i)) [] g)

  judges_by : (v u : World V) (a : ℕ) (x : Seat V) (o : CallWithOutcome V) (d : ℕ × ℕ) (es : Entries) (next : After V) (r : Option ℕ)
      → ReachedBy a v u
      → ReachedBy a v next.0 → ReachedBy a v (judges u a x o d es next r).0
  judges_by v u a x o d es next None g h = one_by v u a _ (asks a (word.AskRead d.0)) refl g
  judges_by v u a x o d es next (Some i) g h = fresh_by v u a x d i next g h

  loads_by : (v u : World V) (a : ℕ) (x : Seat V) (o : CallWithOutcome V) (es : Entries) → ReachedBy a v u
      → ReachedBy a v (loads u a x o es).0
  loads_by v u a x o [] g = one_by v u a _ (Accept a o.asked) refl g
  loads_by v u a x o (d ∷ es) g = judges_by v u a x o d es (loads u a x o es) (lookup (actor_of u a).reads d.0) g (loads_by v u a x o es g)

  answers_by : (v u : World V) (a : ℕ) (before x : Seat V) (sized o : CallWithOutcome V) (editions : ℕ → ℕ) → ReachedBy a v u
      → ReachedBy a v (answers u a before x sized o editions).0
  answers_by v u a before x sized o editions g =
      let c = content u.words u.blocks in
      cond_both {A = After V} (has_room (actor_of u a) (c.reads sized) (c.writes sized))
      (loads u a x o (with_editions editions (c.reads o)))
      (seated u a (at_stage before Open), Refused a refusal.TooLong) (λ z. ReachedBy a v z.0)
      (λ _. loads_by v u a x o (with_editions editions (c.reads o)) g) (λ _. same a v u _ refl refl refl (λ b ne. put-other _ a _ b ne) g)

  reads_by : (v u : World V) (a : ℕ) (x : Seat V) (l : ℕ) (n : told.Notice) → ReachedBy a v u → ReachedBy a v (reads u a x l n).0
  reads_by v u a x l (told.Number i) g = one_by v u a _ (asks a (word.AskRead l)) refl g
  reads_by v u a x l n g = one_by v u a _ (asks a (word.AskRead l)) refl g

  calls_on_by : (v u : World V) (a : ℕ) (x : Seat V) (asked : CollectionCall V) → ReachedBy a v u → ReachedBy a v (calls_on u a x asked).0
  calls_on_by v u a x asked g =
      let editions = (u.boosted.shadows a).editions in
      let o = outcome_at u a asked in
      cond_both {A = After V} (x.copied asked.collection (piece_at u.blocks asked)) (answers u a x x o o editions) _
      (λ z. ReachedBy a v z.0)
      (λ _. answers_by v u a x x o o editions g) (λ _. same a v u _ refl refl refl (λ b ne. put-other _ a _ b ne) g)

  if_allowed_by : (v u : World V) (a : ℕ) (x : Seat V) (known room : Bool) (next : After V) → ReachedBy a v u → ReachedBy a v next.0
      → ReachedBy a v (if_allowed u a x known room next).0
  if_allowed_by v u a x known room next g h =
      cond_both {A = After V} known _ (u, Refused a refusal.NoSuch) (λ z. ReachedBy a v z.0)
      (λ _. cond_both {A = After V} (ltb (length x.calls) CALL_LIMIT && room) next (u, Refused a refusal.TooLong) (λ z. ReachedBy a v z.0)
      (λ _. h)
      (λ _. g))
      (λ _. g)

  ask_op_by : (v : World V) (a : ℕ) (x : Seat V) (t : ℕ) (op : Op V) → ReachedBy a v (ask_op v a x t op).0
  ask_op_by v a x t Read = if_allowed_by v v a x _ _ _ (nothing a v) (reads_by v v a x t _ (nothing a v))
  ask_op_by v a x t (Write i) = if_allowed_by v v a x _ _ _ (nothing a v) (one_by v v a _ (asks a (word.AskWrite t i)) refl (nothing a v))
  ask_op_by v a x t op = if_allowed_by v v a x _ _ _ (nothing a v) (calls_on_by v v a x (record { collection = t; op = op }) (nothing a v))

  commits_by : (v : World V) (a : ℕ) (x : Seat V) (es : Entries) → ReachedBy a v (commits v a x es).0
  commits_by v a x [] = one_by v v a _ (asks a word.AskClose) refl (nothing a v)
  commits_by v a x (e ∷ es) = one_by v v a _ (asks a word.AskLock) refl (nothing a v)

  ask_by : (v : World V) (a : ℕ) (x : Seat V) (p : Stage V) (q : Request V) → ReachedBy a v (ask_at v a x p q).0
  ask_by v a x Idle request.Begin = one_by v v a _ (asks a word.AskBegin) refl (nothing a v)
  ask_by v a x Idle request.BeginRead = one_by v v a _ (asks a word.AskBeginRead) refl (nothing a v)
  ask_by v a x Idle q = nothing a v
  ask_by v a x Open request.Begin = nothing a v
  ask_by v a x Open request.BeginRead = nothing a v
  ask_by v a x Open (request.Call call) = ask_op_by v a x call.target call.op
  ask_by v a x Open request.Commit = commits_by v a x (actor_of v a).writes
  ask_by v a x Open request.Abort = cancels_by v v a (record x { cause = None }) (nothing a v)
  ask_by v a x p q = nothing a v

  -- ---- steps
  begun_by : (v u : World V) (a : ℕ) (x : Seat V) (n : told.Notice) → ReachedBy a v u → ReachedBy a v (has_begun u a x n).0
  begun_by v u a x (told.Begun rv) g = same a v u _ refl refl refl (λ b ne. put-other _ a _ b ne) g
  begun_by v u a x (told.Exhausted clock) g = same a v u _ refl refl refl (λ b ne. put-other _ a _ b ne) g
  begun_by v u a x n g = g

  read_by : (v u : World V) (a : ℕ) (x : Seat V) (l : ℕ) (n : told.Notice) → ReachedBy a v u → ReachedBy a v (has_read u a x l n).0
  read_by v u a x l (told.Number i) g = same a v u _ refl refl refl (λ b ne. put-other _ a _ b ne) g
  read_by v u a x l (told.Moved i w) g = gives_up_by v u a (because x (refusal.Moved i w)) [] g
  read_by v u a x l n g = g

  tried_by : (v u : World V) (a : ℕ) (x : Seat V) (free : Bool) (k : ℕ) (got : List ℕ) (again : ℕ → Stage V) (next : Stage V) (tries : ℕ)
      → ReachedBy a v u → ReachedBy a v (has_tried u a x free k got again next tries).0
  tried_by v u a x free k got again next zero g =
      cond_both {A = After V} free (seated u a (at_stage x next), Quiet) _ (λ z. ReachedBy a v z.0)
      (λ _. same a v u _ refl refl refl (λ b ne. put-other _ a _ b ne) g)
      (λ _. gives_up_by v u a (because x (refusal.GateBusy k)) got g)
  tried_by v u a x free k got again next (suc n) g =
      cond_both {A = After V} free (seated u a (at_stage x next), Quiet) _ (λ z. ReachedBy a v z.0)
      (λ _. same a v u _ refl refl refl (λ b ne. put-other _ a _ b ne) g)
      (λ _. same a v u _ refl refl refl (λ b ne. put-other _ a _ b ne) g)

  loaded_by : (v u : World V) (a : ℕ) (x : Seat V) (o : CallWithOutcome V) (d : ℕ × ℕ) (es : Entries) (n : told.Notice) → ReachedBy a v u
      → ReachedBy a v (has_loaded u a x o d es n).0
  loaded_by v u a x o d es (told.Number i) g = fresh_by v u a x d i (loads u a x o es) g (loads_by v u a x o es g)
  loaded_by v u a x o d es (told.Moved i w) g = gives_up_by v u a (because x (refusal.Moved i w)) [] g
  loaded_by v u a x o d es n g = g

  locked_by : (v u : World V) (a : ℕ) (x : Seat V) (n : told.Notice) → ReachedBy a v u → ReachedBy a v (has_locked u a x n).0
  locked_by v u a x (told.LockedAt wv) g = same a v u _ refl refl refl (λ b ne. put-other _ a _ b ne) g
  locked_by v u a x (told.Busy l w) g = gives_up_by v u a (because x (refusal.Busy l w)) [] g
  locked_by v u a x (told.Invalid l w) g = gives_up_by v u a (because x (refusal.Invalid l w)) [] g
  locked_by v u a x n g = g

  home_by : (v u : World V) (a : ℕ) (x : Seat V) (ks : List ℕ) → ReachedBy a v u → ReachedBy a v (goes_home u a x ks).0
  home_by v u a x [] g = one_by v u a _ (asks a word.AskRelease) refl g
  home_by v u a x (k ∷ ks) g = same a v u _ refl refl refl (λ b ne. put-other _ a _ b ne) g

  stored_by : (v u : World V) (a : ℕ) (x : Seat V) (ks : List ℕ) (n : told.Notice) → ReachedBy a v u
      → ReachedBy a v (has_stored u a x ks n).0
  stored_by v u a x ks told.Stored g = home_by v u a x ks g
  stored_by v u a x ks n g = same a v u _ refl refl refl (λ b ne. put-other _ a _ b ne) g

  released_by : (v u : World V) (a : ℕ) (x : Seat V) (n : told.Notice) → ReachedBy a v u → ReachedBy a v (has_released u a x n).0
  released_by v u a x told.Released g = same a v u _ refl refl refl (λ b ne. put-other _ a _ b ne) g
  released_by v u a x n g = g

  cancelled_by : (v u : World V) (a : ℕ) (x : Seat V) (n : told.Notice) → ReachedBy a v u → ReachedBy a v (has_cancelled u a x n).0
  cancelled_by v u a x told.Cancelled g = one_by v u a _ (asks a word.AskAbort) refl g
  cancelled_by v u a x n g = g

  move : (a : ℕ) (v : World V) (e : Action (CollectionCall V)) → IsOf a e → ReachedBy a v (acted v (e ∷ []))
  move a v e own = by a v v (e ∷ []) (own, tt) (nothing a v)

  step_by : (v : World V) (a : ℕ) (x : Seat V) (p : Stage V) → ReachedBy a v (step_at v a x p).0
  step_by v a x Idle = nothing a v
  step_by v a x Open = nothing a v
  step_by v a x Beginning = begun_by v _ a x (word_notice v a) (move a v (moves a) refl)
  step_by v a x (Reading l) = read_by v _ a x l (word_notice v a) (move a v (moves a) refl)
  step_by v a x (Trying asked tries) = tried_by v _ a x _ asked.collection [] (λ n. Trying asked n) (Copying asked) tries
      (move a v (TakeGate a asked.collection) refl)
  step_by v a x (Copying asked) =
      let put = PutGate a asked.collection (covers_at v.words v.blocks asked) in
      let u = acted v (put ∷ []) in
      let o = outcome_at u a asked in
      answers_by v u a x (with_piece x asked.collection (piece_at u.blocks asked)) (sized_by u a asked o) o u.boosted.editions
      (move a v put refl)
  step_by v a x (Loading o []) = nothing a v
  step_by v a x (Loading o (d ∷ es)) = loaded_by v _ a x o d es (word_notice v a) (move a v (moves a) refl)
  step_by v a x Locking = locked_by v _ a x (word_notice v a) (move a v (moves a) refl)
  step_by v a x (Gating got [] tries) = nothing a v
  step_by v a x (Gating got (k ∷ ks) tries) = tried_by v _ a x _ k got (λ n. Gating got (k ∷ ks) n) (takes_gates (got ++ k ∷ []) ks) tries
      (move a v (TakeGate a k) refl)
  step_by v a x (Ready ks) =
      let ready = acted v (asks a word.AskStore ∷ []) in
      stored_by v (noted_in (acted ready (moves a ∷ [])) a x true x.wv) a x ks (word_notice ready a)
      (same a v (acted ready (moves a ∷ [])) _ refl refl refl (λ b ne. refl)
      (by a v ready (moves a ∷ []) (refl, tt) (move a v (asks a word.AskStore) refl)))
  step_by v a x (Storing ks) = stored_by v _ a x ks (word_notice v a) (move a v (moves a) refl)
  step_by v a x (Homing []) = nothing a v
  step_by v a x (Homing (k ∷ ks)) = home_by v _ a x ks (move a v (GoHome a k) refl)
  step_by v a x Releasing = released_by v _ a x (word_notice v a) (move a v (moves a) refl)
  step_by v a x Closing = same a v (acted v (moves a ∷ [])) _ refl refl refl (λ b ne. put-other _ a _ b ne) (move a v (moves a) refl)
  step_by v a x (Returning []) = nothing a v
  step_by v a x (Returning (k ∷ ks)) = gives_up_by v _ a x ks (move a v (PutGate a k (λ l. false)) refl)
  step_by v a x Cancelling = cancelled_by v _ a x (word_notice v a) (move a v (moves a) refl)
  step_by v a x Leaving = same a v (acted v (moves a ∷ [])) _ refl refl refl (λ b ne. put-other _ a _ b ne) (move a v (moves a) refl)

  starve_by : (v : World V) (a : ℕ) (x : Seat V) (p : Stage V) → ReachedBy a v (starve_at v a x p).0
  starve_by v a x Beginning = one_by v v a _ (asks a word.AskAbort) refl (nothing a v)
  starve_by v a x (Reading l) = gives_up_by v v a (because x refusal.Memory) [] (nothing a v)
  starve_by v a x (Trying asked tries) = gives_up_by v v a (because x refusal.Memory) [] (nothing a v)
  starve_by v a x (Copying asked) = gives_up_by v v a (because x refusal.Memory) (asked.collection ∷ []) (nothing a v)
  starve_by v a x (Loading o es) = gives_up_by v v a (because x refusal.Memory) [] (nothing a v)
  starve_by v a x Locking = gives_up_by v v a (because x refusal.Memory) [] (nothing a v)
  starve_by v a x (Gating got ks tries) = gives_up_by v v a (because x refusal.Memory) got (nothing a v)
  starve_by v a x (Ready ks) = gives_up_by v v a (because x refusal.Memory) ks (nothing a v)
  starve_by v a x Closing = gives_up_by v v a (because x refusal.Memory) [] (nothing a v)
  starve_by v a x p = nothing a v

  pub happens_by : (v : World V) (e : Event V) → ReachedBy (whose e) v (happens v e).0
  happens_by v (Ask a q) = ask_by v a (v.seats a) (v.seats a).stage q
  happens_by v (Step a) = step_by v a (v.seats a) (v.seats a).stage
  happens_by v (Starve a) = starve_by v a (v.seats a) (v.seats a).stage

  through : (v u t : World V) → Reached v u → Reached u t → Reached v t
  through v u t g h = record {
    words = h.words ∙ g.words;
    blocks = h.blocks ∙ g.blocks;
    actions = g.actions ++ h.actions;
    is =
        h.is ∙ ap (λ w. act_all (content w u.blocks) h.actions u.boosted) g.words
        ∙ ap (λ bs. act_all (content v.words bs) h.actions u.boosted) g.blocks
        ∙ ap (act_all (content v.words v.blocks) h.actions) g.is ∙ sym (act_all-append v.words v.blocks g.actions h.actions v.boosted);
  }

  pub run_by : (es : List (Event V)) (v : World V) → Reached v (run v es)
  run_by [] v = (nothing 0 v).reached
  run_by (e ∷ es) v = through v (happens v e).0 (run (happens v e).0 es) (happens_by v e).reached (run_by es (happens v e).0)

module _ {V : Type 0} (blocks : List Block) (clock : ℕ) (values : List ℕ) (held : List (Held V)) (events : List (Event V)) where
  -- the actions that led there from the opening
  pub actions_of : (actions : List (Action (CollectionCall V))) × ((run (opened blocks clock values held) events).boosted ≡ after_actions
      (content (length values) blocks) clock (λ l. get_or values l 0) (shown_at (length values) blocks held) actions)
  actions_of = let r = run_by events (opened blocks clock values held) in (r.actions, r.is)

  -- and those of the events that follow
  pub later_actions : (later : List (Event V)) → let w = run (opened blocks clock values held) events in
      (actions : List (Action (CollectionCall V))) × ((run w later).boosted ≡ act_all (content (length values) blocks) actions w.boosted)
  later_actions later =
      let w = run (opened blocks clock values held) events in
      let o = run_by events (opened blocks clock values held) in
      let r = run_by later w in (
        r.actions,
        r.is ∙ ap (λ n. act_all (content n w.blocks) r.actions w.boosted) o.words
            ∙ ap (λ bs. act_all (content (length values) bs) r.actions w.boosted) o.blocks,
      )
