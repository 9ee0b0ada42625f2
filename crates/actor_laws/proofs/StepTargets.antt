-- A step changes what is shared at one word or gate alone.
--
-- An action on a word leaves the other words and all gates and bases; one on a gate leaves all words, the other gates and their bases.
-- The note of an ended transaction and what follows the action change nothing of these.
use Rattle.std.proofs.Common.{◌≡◌, ◌≢◌, ℕ, Bool, ◌&&◌, List, [], ◌∷◌, Option, Some, None, refl, sym, ap, ◌∙◌, subst, eqb-true}
use Rattle.std.specs.Prelude.{if◌then◌else◌, not, ◌==◌}
use Rattle.std.proofs.lemmas.Bool.{cond_both}
use Rattle.tx_machine.specs.Actor.{Actor}
use Rattle.tx_machine.specs.Requests as word
use Rattle.tx_machine.specs.World.{Ask, Step, StepEnd, GoesOn, Commits, Aborts, step_end, step, put}
use Rattle.tx_machine.specs.Cells.{Cell, cell, word_of, becomes}
use Rattle.tx_machine.proofs.Cells.{step_cell, step_becomes}
use Rattle.tx_machine.proofs.Sets.{put-other}
use Rattle.seq_model.specs.declared.event.Event.TheVariants as event
use Rattle.tx_machine.specs.Boosted.{Boosted, Action, OnWords, TakeGate, PutGate, Accept, GoHome, is_actor, is_none, is_open}
use Rattle.tx_machine.specs.Boosted.{is_stored, is_committing, shadows_after, recorded, gated, homed, copied}
use Rattle.replay_log.specs.Base.{Shown}
use Rattle.replay_log.specs.Contents.{CollectionCall, CallWithOutcome, content, home_of}
use Rattle.replay_log.specs.Seats.{World, Seat, Stage, Closing, Leaving, Ready, acted, moves, actor_of}
use Rattle.replay_log.specs.Worlds.{happens}
use Rattle.actor_laws.specs.Steps.{OnlyOwn, IsAtomic, atomic_action, ready_at, ended_at, Does}
use Rattle.actor_laws.specs.StepTargets.{Spot, Nowhere, Word, Gate, spot_of, deed_of, word_spot, spot_by, spot_at}
use Rattle.actor_laws.proofs.OneStep.{nothing, ask_calm, one_step}

module _ {X Out : Type 0} where
  pub words_kept : (s : Boosted X Out) (os : List Out) (o : StepEnd) → (recorded s os o).words ≡ s.words
  words_kept s os GoesOn = refl
  words_kept s os (Commits r) = refl
  words_kept s os (Aborts r) = refl

  gates_kept : (s : Boosted X Out) (os : List Out) (o : StepEnd) → (recorded s os o).gates ≡ s.gates
  gates_kept s os GoesOn = refl
  gates_kept s os (Commits r) = refl
  gates_kept s os (Aborts r) = refl

  parts_kept : (s : Boosted X Out) (os : List Out) (o : StepEnd) → (recorded s os o).parts ≡ s.parts
  parts_kept s os GoesOn = refl
  parts_kept s os (Commits r) = refl
  parts_kept s os (Aborts r) = refl

  editions_kept : (s : Boosted X Out) (os : List Out) (o : StepEnd) → (recorded s os o).editions ≡ s.editions
  editions_kept s os GoesOn = refl
  editions_kept s os (Commits r) = refl
  editions_kept s os (Aborts r) = refl

-- what a step leaves of the table, but for one word or gate
pub record Keeps {V : Type 0} (spot : Spot) (v u : World V) : Type 0 where
  pub cells : (c : Cell) → spot ≢ Word c → cell u.boosted.words c ≡ cell v.boosted.words c
  pub gates : (k : ℕ) → spot ≢ Gate k → u.boosted.gates k ≡ v.boosted.gates k
  pub parts : (l : ℕ) → spot ≢ Gate (home_of v.words v.blocks l) → u.boosted.parts l ≡ v.boosted.parts l
  pub editions : (l : ℕ) → spot ≢ Gate (home_of v.words v.blocks l) → u.boosted.editions l ≡ v.boosted.editions l

other_gate : (f : ℕ → Option ℕ) (k : ℕ) (o : Option ℕ) (j : ℕ) → Gate k ≢ Gate j → put f k o j ≡ f j
other_gate f k o j ne = put-other f k o j (λ q. ne (ap Gate (sym q)))

module _ {V : Type 0} (a : ℕ) where
  calm_keeps : (spot : Spot) (v u : World V) → OnlyOwn a v u → Keeps spot v u
  calm_keeps spot v u g = record {
    cells = λ c ne. g.cells c;
    gates = λ k ne. g.gates k;
    parts = λ l ne. g.parts l;
    editions = λ l ne. g.editions l;
  }

  then_calm : (spot : Spot) (v u t : World V) → Keeps spot v u → OnlyOwn a u t → Keeps spot v t
  then_calm spot v u t g h = record {
    cells = λ c ne. h.cells c ∙ g.cells c ne;
    gates = λ k ne. h.gates k ∙ g.gates k ne;
    parts = λ l ne. h.parts l ∙ g.parts l ne;
    editions = λ l ne. h.editions l ∙ g.editions l ne;
  }

  pub after_calm : (spot : Spot) (v u t : World V) → OnlyOwn a v u → Keeps spot u t → Keeps spot v t
  after_calm spot v u t g h = record {
    cells = λ c ne. h.cells c ne ∙ g.cells c;
    gates = λ k ne. h.gates k ne ∙ g.gates k;
    parts = λ l ne. h.parts l (λ q. ne (q ∙ (λ i. Gate (home_of (g.words i) (g.blocks i) l)))) ∙ g.parts l;
    editions = λ l ne. h.editions l (λ q. ne (q ∙ (λ i. Gate (home_of (g.words i) (g.blocks i) l)))) ∙ g.editions l;
  }

  word_keeps : (v : World V) → Keeps (word_spot v a) v (acted v (moves a ∷ []))
  word_keeps v =
      let s = v.boosted in
      let x : Actor = actor_of v a in
      let t : Boosted (Shown V)
      (CallWithOutcome V) = record s { words = step s.words a x x.place; shadows = shadows_after s a x.place } in record {
        cells = λ c ne. ap (λ w. cell w c) (words_kept t (s.shadows a).outcomes (step_end a x x.place)) ∙ step_cell s.words a x x.place c
            (λ e. ne (ap spot_of e));
        gates = λ k ne. ap (λ (f : ℕ → Option ℕ). f k) (gates_kept t (s.shadows a).outcomes (step_end a x x.place));
        parts = λ l ne. ap (λ (f : ℕ → Shown V). f l) (parts_kept t (s.shadows a).outcomes (step_end a x x.place));
        editions = λ l ne. ap (λ (f : ℕ → ℕ). f l) (editions_kept t (s.shadows a).outcomes (step_end a x x.place));
      }

  -- the word of a step becomes what the word machine says
  pub word_becomes : (v : World V) (c : Cell) → word_of (deed_of v a) ≡ Some c
      → cell (acted v (moves a ∷ [])).boosted.words c ≡ becomes (deed_of v a) (cell v.boosted.words c)
  word_becomes v c e =
      let s = v.boosted in
      let x : Actor = actor_of v a in
      let t : Boosted (Shown V) (CallWithOutcome V) = record s { words = step s.words a x x.place; shadows = shadows_after s a x.place } in
      ap (λ w. cell w c) (words_kept t (s.shadows a).outcomes (step_end a x x.place)) ∙ step_becomes s.words a x x.place c e

  take_keeps : (v : World V) (k : ℕ) → Keeps (Gate k) v (acted v (TakeGate a k ∷ []))
  take_keeps v k =
      let s = v.boosted in
      cond_both {A = Boosted (Shown V) (CallWithOutcome V)} (is_none (s.gates k) && not (is_committing (s.words.actors a).place))
      (gated s (put s.gates k (Some a)) s.shadows) s (λ t. Keeps (Gate k) v (record v { boosted = t }))
      (λ _. record {
        cells = λ c ne. refl;
        gates = λ j ne. other_gate s.gates k (Some a) j ne;
        parts = λ l ne. refl;
        editions = λ l ne. refl;
      })
      (λ _. calm_keeps (Gate k) v v (nothing a v))

  put_keeps : (v : World V) (k : ℕ) (which : ℕ → Bool) → Keeps (Gate k) v (acted v (PutGate a k which ∷ []))
  put_keeps v k which =
      let s = v.boosted in
      let c = content {V = V} v.words v.blocks in
      cond_both {A = Boosted (Shown V) (CallWithOutcome V)} (is_actor a (s.gates k) && not (is_committing (s.words.actors a).place))
      (gated s (put s.gates k None)
      (if is_open (s.words.actors a).place then put s.shadows a
      (copied c s (s.words.actors a).calls (s.shadows a) k which) else s.shadows)) s (λ t. Keeps (Gate k) v (record v { boosted = t }))
      (λ _. record { cells = λ c ne. refl; gates = λ j ne. other_gate s.gates k None j ne; parts = λ l ne. refl; editions = λ l ne. refl })
      (λ _. calm_keeps (Gate k) v v (nothing a v))

  home_keeps : (v : World V) (k : ℕ) → Keeps (Gate k) v (acted v (GoHome a k ∷ []))
  home_keeps v k =
      let s = v.boosted in
      let c = content {V = V} v.words v.blocks in
      cond_both {A = Boosted (Shown V) (CallWithOutcome V)} (is_actor a (s.gates k) && is_stored (s.words.actors a).place) (homed c s a k) s
      (λ t. Keeps (Gate k) v (record v { boosted = t }))
      (λ _. record {
        cells = λ c ne. refl;
        gates = λ j ne. other_gate s.gates k None j ne;
        parts = λ l ne. cond_both {A = Shown V} (home_of v.words v.blocks l == k) _ (s.parts l) (λ z. z ≡ s.parts l)
            (λ e. absurd (ne (ap Gate (sym (eqb-true (home_of v.words v.blocks l) k e))))) (λ _. refl);
        editions = λ l ne. cond_both {A = ℕ} (home_of v.words v.blocks l == k) _ (s.editions l) (λ z. z ≡ s.editions l)
            (λ e. absurd (ne (ap Gate (sym (eqb-true (home_of v.words v.blocks l) k e))))) (λ _. refl);
      })
      (λ _. calm_keeps (Gate k) v v (nothing a v))

  action_keeps : (v : World V) (d : Action (CollectionCall V)) → IsAtomic a d → Keeps (spot_by a v (Some d)) v (acted v (d ∷ []))
  action_keeps v (OnWords (Ask b q)) h = absurd h
  action_keeps v (OnWords (Step b)) h = subst (λ (z : ℕ). Keeps (word_spot v a) v (acted v (moves z ∷ []))) (sym h) (word_keeps v)
  action_keeps v (TakeGate b k) h = subst (λ (z : ℕ). Keeps (Gate k) v (acted v (TakeGate z k ∷ []))) (sym h) (take_keeps v k)
  action_keeps v (PutGate b k which) h = subst (λ (z : ℕ). Keeps (Gate k) v (acted v (PutGate z k which ∷ []))) (sym h)
      (put_keeps v k which)
  action_keeps v (Accept b q) h = absurd h
  action_keeps v (GoHome b k) h = subst (λ (z : ℕ). Keeps (Gate k) v (acted v (GoHome z k ∷ []))) (sym h) (home_keeps v k)

  noted_keeps : (spot : Spot) (v t : World V) (x : Seat V) (p : Stage V) → Keeps spot v t → Keeps spot v (ended_at a x p t)
  noted_keeps spot v t x (Ready ks) e = record { cells = e.cells; gates = e.gates; parts = e.parts; editions = e.editions }
  noted_keeps spot v t x Closing e = record { cells = e.cells; gates = e.gates; parts = e.parts; editions = e.editions }
  noted_keeps spot v t x Leaving e = record { cells = e.cells; gates = e.gates; parts = e.parts; editions = e.editions }
  noted_keeps spot v t x p e = e

  by_action : (v u : World V) (x : Seat V) (p : Stage V) (d : Option (Action (CollectionCall V))) → Does a v x p d u
      → Keeps (spot_by a v d) v u
  by_action v u x p None g = calm_keeps Nowhere v u g
  by_action v u x p (Some d) (h, g) = then_calm _ v (ended_at a x p (acted v (d ∷ []))) u (noted_keeps _ v _ x p (action_keeps v d h)) g

  pub ready_calm : (v : World V) (p : Stage V) → OnlyOwn a v (ready_at a v p)
  ready_calm v (Ready ks) = ask_calm a v word.AskStore
  ready_calm v p = nothing a v

pub one_spot : {V : Type 0} → (v : World V) (a : ℕ) → Keeps (spot_at a v (v.seats a).stage) v (happens v (event.Step a)).0
one_spot v a =
    let p = (v.seats a).stage in
    let r = ready_at a v p in
    after_calm a _ v r _ (ready_calm a v p) (by_action a r _ (v.seats a) p (atomic_action a v p) (one_step v (event.Step a)))
