-- An actor alone with what it finds.
--
-- A world that is alike to an actor is so still with a number planted in a word, or a gate with its base: none of these is the actor's own,
-- but a gate that it holds, which remains. And the actor's next step finds there what was planted. So `own_event` says that it leaves and
-- answers the same.
use Rattle.std.proofs.Common.{◌≡◌, ℕ, suc, true, false, List, [], ◌∷◌, Option, Some, None, inl, inr, ⊎_elim, refl, sym, ap, ◌∙◌, subst, eqb}
use Rattle.std.proofs.Common.{eq-eqb, ne_eqb, true≢false, arith}
use Rattle.std.specs.Prelude.{if◌then◌else◌, ◌==◌}
use Rattle.std.proofs.lemmas.Bool.{cond_both, cond-true, cases_eq}
use Rattle.vlock_word.specs.LockWord.{bits, unbits}
use Rattle.vlock_word.proofs.LockWordLemmas.{unbits_bits}
use Rattle.tx_machine.specs.Requests as word
use Rattle.tx_machine.specs.World as machine
use Rattle.tx_machine.specs.World.{Ask, Step, put}
use Rattle.tx_machine.specs.Cells.{Cell, ClockCell, LockCell, ValueCell, cell, word_of}
use Rattle.tx_machine.proofs.Sets.{put-same, put-other}
use Rattle.seq_model.specs.declared.event.Event.TheVariants as event
use Rattle.tx_machine.specs.Boosted.{Action, OnWords, TakeGate, PutGate, Accept, GoHome, is_actor, is_none}
use Rattle.replay_log.specs.Base.{Shown}
use Rattle.tx_machine.specs.Content.{IsIn}
use Rattle.replay_log.specs.Contents.{CollectionCall, CallWithOutcome as Outcomes, HaveStripes, block_of, first_of, content, home_of}
use Rattle.replay_log.proofs.ContentLemmas.{read_at, positive_at, home_is, content_frame}
use Rattle.replay_log.specs.Seats.{World, Seat, Stage, Copying, Ready, acted, asks}
use Rattle.replay_log.specs.Worlds.{happens}
use Rattle.replay_log.specs.WorldCalls.{with_editions}
use Rattle.actor_laws.specs.Machine.{SameWord}
use Rattle.actor_laws.specs.Own.{Alike, SameAfter, SameCopy, FindsBy, FindsAt}
use Rattle.actor_laws.specs.Steps.{Does, atomic_action, ready_at}
use Rattle.actor_laws.specs.StepTargets.{Spot, Nowhere, Word, Gate, spot_of, deed_of, word_spot, spot_by, gate_word, with_word, found_gate}
use Rattle.actor_laws.specs.StepTargets.{spot_at, number_at, planted, given}
use Rattle.actor_laws.proofs.OwnEvents.{own_event}
use Rattle.actor_laws.proofs.OneStep.{ask_calm, one_step}

-- the word that was planted, where the other world has it
pub planted_word : (s t : machine.World) (c : Cell) → cell (with_word t c (cell s c)) c ≡ cell s c
planted_word s t ClockCell = refl
planted_word s t (LockCell l) = ap bits (put-same t.locks l (unbits (bits (s.locks l))) ∙ unbits_bits (s.locks l))
planted_word s t (ValueCell l) = put-same t.values l (s.values l)

pub same_actors : (t : machine.World) (c : Cell) (n a : ℕ) → (with_word t c n).actors a ≡ t.actors a
same_actors t ClockCell n a = refl
same_actors t (LockCell l) n a = refl
same_actors t (ValueCell l) n a = refl

-- a gate that was found is a's only if it was
pub found_own : (a n : ℕ) (o : Option ℕ) → is_actor a (found_gate a n o) ≡ is_actor a o
found_own a n o = cond_both {A = Option ℕ} (is_actor a o) o (if n == 0 then None else Some (suc a)) (λ z. is_actor a z ≡ is_actor a o)
    (λ _. refl)
    (λ f. cond_both {A = Option ℕ} (n == 0) None (Some (suc a)) (λ z. is_actor a z ≡ is_actor a o) (λ _. sym f)
    (λ _. ne_eqb a (suc a) (λ q. absurd (omega (arith, q))) ∙ sym f))

-- and free only if it was, in the world where it was found
pub found_free : (a : ℕ) (o p : Option ℕ) → is_actor a p ≡ is_actor a o → is_none p ≡ is_none (found_gate a (gate_word p) o)
found_free a None None e = refl
found_free a None (Some b) e = refl
found_free a (Some b) None e = sym
    (cond_both {A = Option ℕ} (eqb a b) (Some b) None (λ z. is_none z ≡ true) (λ t. absurd (true≢false (sym t ∙ sym e))) (λ _. refl))
found_free a (Some b) (Some d) e = sym
    (cond_both {A = Option ℕ} (eqb a b) (Some b) (Some (suc a)) (λ z. is_none z ≡ false) (λ _. refl) (λ _. refl))

-- what is read, with one edition by both
pub read_editions : (f g : ℕ → ℕ) (ls : List ℕ) → ((l : ℕ) → IsIn l ls → f l ≡ g l) → with_editions f ls ≡ with_editions g ls
read_editions f g [] e = refl
read_editions f g (l ∷ ls) e = λ i. (l, e l (inl refl) i) ∷ read_editions f g ls (λ j m. e j (inr m)) i

-- what a call reads is in its collection
pub read_home : {V : Type 0} → (v : World V) → HaveStripes v.blocks → (o : Outcomes V) (l : ℕ)
    → IsIn l ((content {V = V} v.words v.blocks).reads o) → home_of v.words v.blocks l ≡ o.asked.collection
read_home v stripes o l m =
    let c = o.asked.collection in
    let z = read_at (block_of v.blocks c) (first_of v.words v.blocks c) o.outcome l (λ b. positive_at v.blocks c b stripes) m in
    ap (home_of v.words v.blocks) z.3 ∙ home_is v.words v.blocks c z.1 z.0 z.2 z.4

module _ {V : Type 0} (a : ℕ) where
  pub planted_alike : (v w : World V) (spot : Spot) (n : ℕ) (parts : ℕ → Shown V) (editions : ℕ → ℕ) → Alike a v w
      → Alike a v (planted a w spot n parts editions)
  planted_alike v w Nowhere n parts editions e = e
  planted_alike v w (Word c) n parts editions e = record {
    words = e.words;
    blocks = e.blocks;
    seat = e.seat;
    boosted = record {
      actor = e.boosted.actor ∙ sym (same_actors w.boosted.words c n a);
      shadow = e.boosted.shadow;
      gates = e.boosted.gates;
      opening = e.boosted.opening;
      first = e.boosted.first;
    };
  }
  planted_alike v w (Gate k) n parts editions e = record {
    words = e.words;
    blocks = e.blocks;
    seat = e.seat;
    boosted = record {
      actor = e.boosted.actor;
      shadow = e.boosted.shadow;
      gates = λ j. e.boosted.gates j ∙ sym (⊎_elim
          (λ (q : j ≡ k). ap (λ (z : ℕ). is_actor a (put w.boosted.gates k (found_gate a n (w.boosted.gates k)) z)) q
          ∙ (ap (is_actor a) (put-same w.boosted.gates k _)
          ∙ (found_own a n (w.boosted.gates k) ∙ ap (λ (z : ℕ). is_actor a (w.boosted.gates z)) (sym q))))
          (λ (ne : j ≡ k → ⊥). ap (is_actor a) (put-other w.boosted.gates k _ j ne))
          (cases_eq j k));
      opening = e.boosted.opening;
      first = e.boosted.first;
    };
  }

  abbrev ready : World V → World V
  ready v = acted v (asks a word.AskStore ∷ [])

  -- the word of a step
  word_found : (v w : World V) (o : Option Cell) (c : Cell) → o ≡ Some c
      → cell v.boosted.words c ≡ cell (planted a w (spot_of o) (number_at v (spot_of o)) v.boosted.parts v.boosted.editions).boosted.words c
  word_found v w o c e = subst
      (λ (z : Option Cell). cell v.boosted.words c
      ≡ cell (planted a w (spot_of z) (number_at v (spot_of z)) v.boosted.parts v.boosted.editions).boosted.words c) (sym e)
      (sym (planted_word v.boosted.words w.boosted.words c))

  gate_found : (v w : World V) (k : ℕ) → Alike a v w → is_none (v.boosted.gates k)
      ≡ is_none ((planted a w (Gate k) (number_at v (Gate k)) v.boosted.parts v.boosted.editions).boosted.gates k)
  gate_found v w k e = found_free a (w.boosted.gates k) (v.boosted.gates k) (e.boosted.gates k)
      ∙ sym (ap is_none (put-same w.boosted.gates k (found_gate a (gate_word (v.boosted.gates k)) (w.boosted.gates k))))

  base_found : (v w : World V) (k : ℕ) → Alike a v w → (l : ℕ) → (home_of v.words v.blocks l == k) ≡ true
      → let t = planted a w (Gate k) (number_at v (Gate k)) v.boosted.parts v.boosted.editions in (v.boosted.parts l ≡ t.boosted.parts l)
      × (v.boosted.editions l ≡ t.boosted.editions l)
  base_found v w k e l h =
      let b : (home_of w.words w.blocks l == k) ≡ true = subst (λ (z : ℕ). (z == k) ≡ true) (λ i. home_of (e.words i) (e.blocks i) l) h in (
        sym (cond-true {A = Shown V} (home_of w.words w.blocks l == k) (v.boosted.parts l) (w.boosted.parts l) b),
        sym
            (cond-true {A = ℕ} (home_of w.words w.blocks l == k) (v.boosted.editions l) (w.boosted.editions l) b),
      )

  copy_found : (v w : World V) (q : CollectionCall V) → HaveStripes v.blocks → Alike a v w
      → let k = q.collection in SameCopy v (planted a w (Gate k) (number_at v (Gate k)) v.boosted.parts v.boosted.editions) q
  copy_found v w q stripes e =
      let c = content {V = V} v.words v.blocks in
      let k = q.collection in
      let t = planted a w (Gate k) (number_at v (Gate k)) v.boosted.parts v.boosted.editions in (
        λ o at. read_editions _ _ (c.reads o)
            (λ l m.
            (base_found v w k e l (eq-eqb _ _ (read_home v stripes o l m ∙ ap (λ (z : CollectionCall V). z.collection) at))).1),
        sym ((content_frame {V = V} v.words v.blocks stripes).legal v.boosted.parts t.boosted.parts q
            (λ l m. (base_found v w k e l (eq-eqb _ _ (read_home v stripes (c.outcome v.boosted.parts q) l m))).0)),
      )

  -- the first value store finds its word as before its request
  ready_found : (v w : World V) → Alike a v w
      → let spot = word_spot (ready v) a in
      SameWord a (ready v).boosted.words (ready (planted a w spot (number_at v spot) v.boosted.parts v.boosted.editions)).boosted.words
  ready_found v w e c touches =
      let spot : Spot = word_spot (ready v) a in
      let t : World V = planted a w spot (number_at v spot) v.boosted.parts v.boosted.editions in
      (ask_calm a v word.AskStore).cells c
      ∙ (word_found v w (word_of (deed_of (ready v) a)) c touches ∙ sym ((ask_calm a t word.AskStore).cells c))

  finds_by : (v w u : World V) (x : Seat V) (p : Stage V) (d : Option (Action (CollectionCall V))) → Does a v x p d u → Alike a v w
      → FindsBy a v (planted a w (spot_by a v d) (number_at v (spot_by a v d)) v.boosted.parts v.boosted.editions) d
  finds_by v w u x p None g e = tt
  finds_by v w u x p (Some (OnWords (Ask b q))) (h, g) e = absurd h
  finds_by v w u x p (Some (OnWords (Step b))) (h, g) e = (h, λ c touches. word_found v w (word_of (deed_of v a)) c touches)
  finds_by v w u x p (Some (TakeGate b k)) (h, g) e = (h, gate_found v w k e)
  finds_by v w u x p (Some (PutGate b k which)) (h, g) e = (h, λ l word at. base_found v w k e l (eq-eqb _ _ at))
  finds_by v w u x p (Some (Accept b q)) (h, g) e = absurd h
  finds_by v w u x p (Some (GoHome b k)) (h, g) e = h

  finds : (v w u : World V) (x : Seat V) (p : Stage V) → HaveStripes v.blocks → Does a (ready_at a v p) x p (atomic_action a v p) u
      → Alike a v w
      → FindsAt a v (planted a w (spot_at a v p) (number_at v (spot_at a v p)) v.boosted.parts v.boosted.editions) p
  finds v w u x (Copying q) stripes g e = (
    finds_by v w u x (Copying q) (atomic_action a v (Copying q)) g e,
    copy_found v w q stripes e,
  )
  finds v w u x (Ready ks) stripes g e = (refl, ready_found v w e)
  finds v w u x p stripes g e = finds_by v w u x p (atomic_action a v p) g e

pub alone : {V : Type 0} → (a : ℕ) (v w : World V) → HaveStripes v.blocks → Alike a v w → SameAfter a (happens v (event.Step a))
    (happens (given a v w) (event.Step a))
alone a v w stripes e =
    let p = (v.seats a).stage in
    let spot = spot_at a v p in
    own_event a v (given a v w) (event.Step a) (planted_alike a v w spot (number_at v spot) v.boosted.parts v.boosted.editions e)
    (refl, finds a v w _ (v.seats a) p stripes (one_step v (event.Step a)) e)
