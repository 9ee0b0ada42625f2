-- A turn: what an actor asks, and then one step, in the world and in the actor's own.
--
-- What is asked leaves all that is shared, so an actor's requests may be taken in late, together with its next step. A step on a word finds
-- in the lone world the number that was planted there, so it leaves and answers the same in both (`own_event`). The records grow by what
-- the step commits.
use Rattle.std.proofs.Common.{◌≡◌, ℕ, ◌+◌, true, false, List, [], ◌∷◌, ◌++◌, Option, Some, None, refl, sym, ap, ◌∙◌, subst, arith}
use Rattle.std.proofs.Common.{◌≢◌, append-nil, eq-eqb, ne_eqb}
use Rattle.std.specs.Prelude.{◌==◌}
use Rattle.std.proofs.lemmas.Bool.{cond_both, cond-false, cond-true}
use Rattle.tx_machine.specs.Requests as word
use Rattle.tx_machine.specs.World as machine
use Rattle.tx_machine.specs.Cells.{Cell, cell, word_of}
use Rattle.seq_model.specs.declared.event.Event.{Event}
use Rattle.seq_model.specs.declared.event.Event.TheVariants.{Ask, Step, Starve}
use Rattle.seq_model.specs.declared.record.Record.{Record}
use Rattle.seq_model.specs.Runs.{comes_before, insert_record}
use Rattle.tx_machine.specs.Boosted.{Action, OnWords, TakeGate, PutGate, Accept, GoHome}
use Rattle.replay_log.specs.declared.base.Base.{Base}
use Rattle.replay_log.specs.Contents.{CollectionCall}
use Rattle.replay_log.specs.Seats.{World, Ended, Seat, Stage, Closing, Copying, Leaving, Ready, acted, asks}
use Rattle.replay_log.specs.WorldTraces.{ended_by}
use Rattle.replay_log.specs.Worlds.{happens}
use Rattle.actor_laws.specs.Machine.{SameWord}
use Rattle.actor_laws.specs.Own.{Alike, SameAfter, FindsBy, FindsAt}
use Rattle.actor_laws.specs.StepTargets.{Spot, Nowhere, Word, Gate, spot_of, deed_of, word_spot, spot_by, spot_at}
use Rattle.actor_laws.specs.Steps.{OnlyOwn, Does, atomic_action, ready_at, ended_at}
use Rattle.actor_laws.proofs.Alone.{planted_word, planted_alike}
use Rattle.actor_laws.proofs.OneStep.{one_step, nothing, through, ask_calm}
use Rattle.actor_laws.proofs.OwnEvents.{own_event}
use Rattle.shared_table.specs.Turns.{Turn, own, asked_all, stage_of, spot, first_at}
use Rattle.shared_table.specs.Turns.{parts_found, editions_found, found_at, took, lone, ends_of}
use Rattle.shared_table.specs.Turns.{ends}
use Rattle.shared_table.specs.Shown.{aborted_by, only_by, total}

module _ {V : Type 0} where
  pub lone_snoc : (a : ℕ) (is : List (Turn V)) (w : World V) (i : Turn V) → lone a w (is ++ i ∷ []) ≡ took a (lone a w is) i
  lone_snoc a [] w i = refl
  lone_snoc a (j ∷ is) w i = lone_snoc a is (took a w j) i

  -- ---- what is asked
  one_asked : (a : ℕ) (w : World V) (e : Event V) → OnlyOwn a w (happens w (own a e)).0
  one_asked a w (Ask b q) = one_step w (Ask a q)
  one_asked a w (Step b) = one_step w (Starve a)
  one_asked a w (Starve b) = one_step w (Starve a)

  one_alike : (a : ℕ) (v w : World V) (e : Event V) → Alike a v w → Alike a (happens v (own a e)).0 (happens w (own a e)).0
  one_alike a v w (Ask b q) h = (own_event a v w (Ask a q) h refl).0
  one_alike a v w (Step b) h = (own_event a v w (Starve a) h refl).0
  one_alike a v w (Starve b) h = (own_event a v w (Starve a) h refl).0

  pub asked_calm : (a : ℕ) (es : List (Event V)) (w : World V) → OnlyOwn a w (asked_all a w es)
  asked_calm a [] w = nothing a w
  asked_calm a (e ∷ es) w =
      through a w (happens w (own a e)).0 (asked_all a (happens w (own a e)).0 es) (one_asked a w e)
      (asked_calm a es (happens w (own a e)).0)

  pub asked_alike : (a : ℕ) (es : List (Event V)) (v w : World V) → Alike a v w → Alike a (asked_all a v es) (asked_all a w es)
  asked_alike a [] v w h = h
  asked_alike a (e ∷ es) v w h = asked_alike a es (happens v (own a e)).0 (happens w (own a e)).0 (one_alike a v w e h)

  -- ---- a step on a word
  pub found_alike : (a : ℕ) (v w : World V) (s : Spot) (n : ℕ) (b : Option (Base V)) → Alike a v w → Alike a v (found_at a w s n b)
  found_alike a v w s n b e = planted_alike a v w s n (parts_found w (first_at w s) b) (editions_found w (first_at w s) b) e

  abbrev word_planted : (a : ℕ) (v w : World V) (c : Cell) (b : Option (Base V)) → World V
  word_planted a v w c b = found_at a w (Word c) (cell v.boosted.words c) b

  word_same : (a : ℕ) (v w : World V) (c : Cell) (b : Option (Base V)) (d : Cell) (o : Option Cell) → spot_of o ≡ Word c → o ≡ Some d
      → cell v.boosted.words d ≡ cell (word_planted a v w c b).boosted.words d
  word_same a v w c b d o e h =
      let q : c ≡ d = (let z : Word c ≡ Word d = sym e ∙ ap spot_of h in cc) in
      subst (λ (z : Cell). cell v.boosted.words z ≡ cell (word_planted a v w c b).boosted.words z) q
      (sym (planted_word v.boosted.words w.boosted.words c))

  ready_same : (a : ℕ) (v w : World V) (c : Cell) (b : Option (Base V)) → word_spot (acted v (asks a word.AskStore ∷ [])) a ≡ Word c
      → SameWord a (acted v (asks a word.AskStore ∷ [])).boosted.words
      (acted (word_planted a v w c b) (asks a word.AskStore ∷ [])).boosted.words
  ready_same a v w c b e d touches =
      (ask_calm a v word.AskStore).cells d
      ∙ (word_same a v w c b d (word_of (deed_of (acted v (asks a word.AskStore ∷ [])) a)) e touches
      ∙ sym ((ask_calm a (word_planted a v w c b) word.AskStore).cells d))

  finds_by : (a : ℕ) (v w u : World V) (x : Seat V) (p : Stage V) (c : Cell) (b : Option (Base V)) (d : Option (Action (CollectionCall V)))
      → spot_by a v d ≡ Word c
      → Does a v x p d u → FindsBy a v (word_planted a v w c b) d
  finds_by a v w u x p c b None e g = tt
  finds_by a v w u x p c b (Some (OnWords (machine.Ask i q))) e (h, g) = absurd h
  finds_by a v w u x p c b (Some (OnWords (machine.Step i))) e
      (h, g) = (h, λ d touches. word_same a v w c b d (word_of (deed_of v a)) e touches)
  finds_by a v w u x p c b (Some (TakeGate i k)) e g = absurd (let z : ⊥ = cc in z)
  finds_by a v w u x p c b (Some (PutGate i k which)) e g = absurd (let z : ⊥ = cc in z)
  finds_by a v w u x p c b (Some (Accept i q)) e g = absurd (let z : ⊥ = cc in z)
  finds_by a v w u x p c b (Some (GoHome i k)) e g = absurd (let z : ⊥ = cc in z)

  finds_word : (a : ℕ) (v w u : World V) (x : Seat V) (p : Stage V) (c : Cell) (b : Option (Base V)) → spot_at a v p ≡ Word c
      → Does a (ready_at a v p) x p (atomic_action a v p) u → FindsAt a v (word_planted a v w c b) p
  finds_word a v w u x (Copying q) c b e g = absurd (let z : ⊥ = cc in z)
  finds_word a v w u x (Ready ks) c b e g = (refl, ready_same a v w c b e)
  finds_word a v w u x p c b e g = finds_by a v w u x p c b (atomic_action a v p) e g

  -- it leaves the actor the same in both worlds, and answers the same
  pub word_own : (a : ℕ) (v w : World V) (c : Cell) (b : Option (Base V)) → Alike a v w → spot a v ≡ Word c
      → SameAfter a (happens v (Step a)) (happens (found_at a w (Word c) (cell v.boosted.words c) b) (Step a))
  word_own a v w c b h e =
      own_event a v (word_planted a v w c b) (Step a) (found_alike a v w (Word c) (cell v.boosted.words c) b h)
      (refl, finds_word a v w _ (v.seats a) (stage_of v a) c b e (one_step v (Step a)))

  -- ---- records
  inserted : (h : ℕ × Record V → ℕ) (r : ℕ × Record V) (rs : List (ℕ × Record V)) → total h (insert_record r rs) ≡ h r + total h rs
  inserted h r [] = refl
  inserted h r (x ∷ xs) =
      cond_both (comes_before r x) (r ∷ (x ∷ xs)) (x ∷ insert_record r xs) (λ (z : List (ℕ × Record V)). total h z ≡ h r + total h (x ∷ xs))
      (λ _. refl)
      (λ _. let e = inserted h r xs in omega arith)

  ended_records : (h : ℕ × Record V → ℕ) (a : ℕ) (t : World V) (x : Seat V) (p : Stage V)
      → total h (ended_at a x p t).records ≡ total h t.records + total h (ends_of a x p)
  ended_records h a t x (Ready ks) = let e = inserted h (a, record { number = x.wv; writes = true; calls = x.calls }) t.records in
      omega arith
  ended_records h a t x Closing = let e = inserted h (a, record { number = x.rv; writes = false; calls = x.calls }) t.records in omega arith
  ended_records h a t x Leaving = omega arith
  ended_records h a t x p = omega arith

  -- a stage at which no action is next commits nothing
  none_ends : (a : ℕ) (v : World V) (x : Seat V) (p : Stage V) → atomic_action a v p ≡ None → ends_of a x p ≡ []
  none_ends a v x (Ready ks) e = absurd (let z : ⊥ = cc in z)
  none_ends a v x Closing e = absurd (let z : ⊥ = cc in z)
  none_ends a v x p e = refl

  step_records : (h : ℕ × Record V → ℕ) (a : ℕ) (r v u : World V) (x : Seat V) (p : Stage V) (d : Option (Action (CollectionCall V)))
      → atomic_action a v p ≡ d
      → Does a r x p d u → total h u.records ≡ total h r.records + total h (ends_of a x p)
  step_records h a r v u x p None e g = let z = ap (total h) g.records in let q = ap (total h) (none_ends a v x p e) in omega arith
  step_records h a r v u x p (Some d) e (at, g) = ap (total h) g.records ∙ ended_records h a (acted r (d ∷ [])) x p

  ready_records : (a : ℕ) (v : World V) (p : Stage V) → (ready_at a v p).records ≡ v.records
  ready_records a v (Ready ks) = refl
  ready_records a v p = refl

  pub records_grow : (h : ℕ × Record V → ℕ) (a : ℕ) (v : World V) → total h (happens v (Step a)).0.records ≡ total h v.records + total h
      (ends a v)
  records_grow h a v =
      step_records h a (ready_at a v (stage_of v a)) v (happens v (Step a)).0 (v.seats a) (stage_of v a)
      (atomic_action a v (stage_of v a)) refl (one_step v (Step a))
      ∙ ap (λ (rs : List (ℕ × Record V)). total h rs + total h (ends a v)) (ready_records a v (stage_of v a))

  -- ---- aborted transactions
  -- a stage at which no action is next ends nothing
  none_aborted : (a : ℕ) (v : World V) (x : Seat V) (p : Stage V) → atomic_action a v p ≡ None → ended_by a x p ≡ []
  none_aborted a v x Leaving e = absurd (let z : ⊥ = cc in z)
  none_aborted a v x p e = refl

  ended_aborted : (a : ℕ) (t : World V) (x : Seat V) (p : Stage V) → (ended_at a x p t).aborted ≡ t.aborted ++ ended_by a x p
  ended_aborted a t x (Ready ks) = sym (append-nil t.aborted)
  ended_aborted a t x Closing = sym (append-nil t.aborted)
  ended_aborted a t x Leaving = refl
  ended_aborted a t x p = sym (append-nil t.aborted)

  step_aborted : (a : ℕ) (r v u : World V) (x : Seat V) (p : Stage V) (d : Option (Action (CollectionCall V))) → atomic_action a v p ≡ d
      → Does a r x p d u → u.aborted ≡ r.aborted ++ ended_by a x p
  step_aborted a r v u x p None e g =
      g.aborted ∙ (sym (append-nil r.aborted) ∙ ap (λ (es : List (Ended V)). r.aborted ++ es) (sym (none_aborted a v x p e)))
  step_aborted a r v u x p (Some d) e (at, g) = g.aborted ∙ ended_aborted a (acted r (d ∷ [])) x p

  ready_aborted : (a : ℕ) (v : World V) (p : Stage V) → (ready_at a v p).aborted ≡ v.aborted
  ready_aborted a v (Ready ks) = refl
  ready_aborted a v p = refl

  pub aborted_grow : (a : ℕ) (v : World V) → (happens v (Step a)).0.aborted ≡ v.aborted ++ ended_by a (v.seats a) (stage_of v a)
  aborted_grow a v =
      step_aborted a (ready_at a v (stage_of v a)) v (happens v (Step a)).0 (v.seats a) (stage_of v a)
      (atomic_action a v (stage_of v a)) refl (one_step v (Step a))
      ∙ ap (λ (es : List (Ended V)). es ++ ended_by a (v.seats a) (stage_of v a)) (ready_aborted a v (stage_of v a))

  -- ---- which are whose
  aborted_append : (a : ℕ) (es fs : List (Ended V)) → aborted_by a (es ++ fs) ≡ aborted_by a es ++ aborted_by a fs
  aborted_append a [] fs = refl
  aborted_append a (e ∷ es) fs =
      cond_both (e.actor == a) (e ∷ aborted_by a (es ++ fs)) (aborted_by a (es ++ fs))
      (λ (z : List (Ended V)). z ≡ aborted_by a (e ∷ es) ++ aborted_by a fs)
      (λ t. sym (ap (λ (z : List (Ended V)). z ++ aborted_by a fs)
      (cond-true {A = List (Ended V)} (e.actor == a) (e ∷ aborted_by a es) (aborted_by a es) t)
      ∙ ap (λ (z : List (Ended V)). e ∷ z) (sym (aborted_append a es fs))))
      (λ f. sym (ap (λ (z : List (Ended V)). z ++ aborted_by a fs)
      (cond-false {A = List (Ended V)} (e.actor == a) (e ∷ aborted_by a es) (aborted_by a es) f)
      ∙ sym (aborted_append a es fs)))

  ended_mine : (a : ℕ) (x : Seat V) (p : Stage V) → aborted_by a (ended_by a x p) ≡ ended_by a x p
  ended_mine a x Leaving =
      cond-true {A = List (Ended V)} (a == a) (ended_by a x Leaving) [] (eq-eqb a a refl)
  ended_mine a x p = refl

  ended_others : (a b : ℕ) (x : Seat V) (p : Stage V) → b ≢ a → aborted_by b (ended_by a x p) ≡ []
  ended_others a b x Leaving ne =
      cond-false {A = List (Ended V)} (a == b) (ended_by a x Leaving) [] (ne_eqb a b (λ e. ne (sym e)))
  ended_others a b x p ne = refl

  ends_mine : (h : ℕ × Record V → ℕ) (a : ℕ) (x : Seat V) (p : Stage V) → total (only_by a h) (ends_of a x p) ≡ total h (ends_of a x p)
  ends_mine h a x (Ready ks) =
      let r : ℕ × Record V = (a, record { number = x.wv; writes = true; calls = x.calls }) in
      let e : only_by a h r ≡ h r = cond-true {A = ℕ} (a == a) (h r) 0 (eq-eqb a a refl) in omega arith
  ends_mine h a x Closing =
      let r : ℕ × Record V = (a, record { number = x.rv; writes = false; calls = x.calls }) in
      let e : only_by a h r ≡ h r = cond-true {A = ℕ} (a == a) (h r) 0 (eq-eqb a a refl) in omega arith
  ends_mine h a x p = refl

  ends_others : (h : ℕ × Record V → ℕ) (a b : ℕ) (x : Seat V) (p : Stage V) → b ≢ a → total (only_by b h) (ends_of a x p) ≡ 0
  ends_others h a b x (Ready ks) ne =
      let r : ℕ × Record V = (a, record { number = x.wv; writes = true; calls = x.calls }) in
      let e : only_by b h r ≡ 0 = cond-false {A = ℕ} (a == b) (h r) 0 (ne_eqb a b (λ e. ne (sym e))) in omega arith
  ends_others h a b x Closing ne =
      let r : ℕ × Record V = (a, record { number = x.rv; writes = false; calls = x.calls }) in
      let e : only_by b h r ≡ 0 = cond-false {A = ℕ} (a == b) (h r) 0 (ne_eqb a b (λ e. ne (sym e))) in omega arith
  ends_others h a b x p ne = refl

  -- what is found leaves the records and the aborted transactions
  pub planted_notes : (a : ℕ) (w : World V) (s : Spot) (n : ℕ) (b : Option (Base V))
      → ((found_at a w s n b).records ≡ w.records) × ((found_at a w s n b).aborted ≡ w.aborted)
  planted_notes a w Nowhere n b = (refl, refl)
  planted_notes a w (Word c) n b = (refl, refl)
  planted_notes a w (Gate k) n b = (refl, refl)

  -- ---- what is noted of the actor whose turn it is, in the world and in its own, and what of the others
  pub record Notes (a : ℕ) (w l : World V) : Type 0 where
    pub aborted : aborted_by a w.aborted ≡ l.aborted
    pub committed : (h : ℕ × Record V → ℕ) → total (only_by a h) w.records ≡ total h l.records

  pub turn_notes : (a : ℕ) (w l : World V) (qs : List (Event V)) (s : Spot) (n : ℕ) (b : Option (Base V)) → Alike a w l → Notes a w l
      → Notes a (happens (asked_all a w qs) (Step a)).0 (happens (found_at a (asked_all a l qs) s n b) (Step a)).0
  turn_notes a w l qs s n b alike notes =
      let w1 = asked_all a w qs in
      let l1 = asked_all a l qs in
      let p = found_at a l1 s n b in
      let g = asked_calm a qs w in
      let gl = asked_calm a qs l in
      let q = planted_notes a l1 s n b in
      let same : Alike a w1 p = found_alike a w1 l1 s n b (asked_alike a qs w l alike) in
      let x = w1.seats a in record {
        aborted = ap (aborted_by a) (aborted_grow a w1)
            ∙ (aborted_append a w1.aborted (ended_by a x x.stage)
            ∙ ((λ i. ((ap (aborted_by a) g.aborted ∙ (notes.aborted ∙ (sym gl.aborted ∙ sym q.1))) i) ++ ended_mine a x x.stage i)
            ∙ (ap (λ (y : Seat V). p.aborted ++ ended_by a y y.stage) same.seat ∙ sym (aborted_grow a p))));
        committed = λ h.
            (let c = records_grow (only_by a h) a w1 in
            let d = records_grow h a p in
            let e = ends_mine h a x x.stage in
            let f : total (only_by a h) w1.records ≡ total (only_by a h) w.records = ap (total (only_by a h)) g.records in
            let k : total h p.records ≡ total h l.records = ap (total h) (q.0 ∙ gl.records) in
            let m : total h (ends_of a x x.stage) ≡ total h (ends a p) = ap (λ (y : Seat V). total h (ends_of a y y.stage)) same.seat in
            let z = notes.committed h in omega arith);
      }

  pub others_notes : (a b : ℕ) (w l : World V) (qs : List (Event V)) → b ≢ a → Notes b w l
      → Notes b (happens (asked_all a w qs) (Step a)).0 l
  others_notes a b w l qs ne notes =
      let w1 = asked_all a w qs in
      let g = asked_calm a qs w in
      let x = w1.seats a in record {
        aborted = ap (aborted_by b) (aborted_grow a w1)
            ∙ (aborted_append b w1.aborted (ended_by a x x.stage)
            ∙ ((λ i. (ap (aborted_by b) g.aborted ∙ notes.aborted) i ++ ended_others a b x x.stage ne i) ∙ append-nil l.aborted));
        committed = λ h.
            (let c = records_grow (only_by b h) a w1 in
            let e = ends_others h a b x x.stage ne in
            let f : total (only_by b h) w1.records ≡ total (only_by b h) w.records = ap (total (only_by b h)) g.records in
            let z = notes.committed h in omega arith);
      }

  -- a turn's commits are its actor's
  pub ends_theirs : (h : ℕ × Record V → ℕ) (a : ℕ) (v : World V) → total (only_by a h) (ends a v) ≡ total h (ends a v)
  ends_theirs h a v = ends_mine h a (v.seats a) (stage_of v a)
