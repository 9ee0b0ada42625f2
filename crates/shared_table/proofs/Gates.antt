-- A step on a gate keeps the rule: its base goes out with the gate, and comes back with it.
--
-- A gate that is found free gives its base to the seat, whose lone world takes its parts and editions from it; so the two worlds have one
-- base of the collection from then on, as long as the seat has the gate, since nobody else changes it. A base that comes back is the one
-- that the lone world has then.
use Rattle.std.proofs.Common.{◌≡◌, ◌≢◌, ◌⊎◌, ℕ, suc, ◌+◌, ◌-◌, ◌≤◌, ◌<◌, true, false, eqb, eq-eqb, ne_eqb, eqb-true, List, ◌∷◌}
use Rattle.std.proofs.Common.{◌++◌, length, get_or, set, Option as Maybe, Some, None, inl, inr, ⊎_elim, refl, sym, ap, ◌∙◌, subst, arith}
use Rattle.std.proofs.Common.{length-set, get_or-set_other, get_or-set_same, true≢false}
use Rattle.std.specs.Prelude.{if◌then◌else◌, ◌==◌}
use Rattle.std.proofs.lemmas.Bool.{cond_both, cond-true, cond-false, cases_eq}
use prog.Atomic.{either}
use mathlib.Core.Option.{Option, none, some}
use lib.ListN.{get_elem?}
use Rattle.atomic_table.specs.Table.{State, Me, Act, keeps, takes, gives, Valid, carried_after, stepped, rest as rest_of}
use Rattle.tx_machine.specs.Actor.{Actor, clock_limit}
use Rattle.tx_machine.specs.Cells.{ClockCell}
use Rattle.tx_machine.proofs.Sets.{put-same}
use Rattle.seq_model.specs.declared.event.Event.{Event}
use Rattle.seq_model.specs.declared.event.Event.TheVariants.{Step}
use Rattle.tx_machine.specs.Boosted.{Action, TakeGate, PutGate, GoHome, is_actor, is_none, is_committing, is_stored}
use Rattle.seq_model.specs.declared.record.Record.{Record}
use Rattle.replay_log.specs.declared.base.Base.{Base}
use Rattle.replay_log.specs.Base.{Shown, editions_of, shown_of, stripes_of}
use Rattle.replay_log.specs.Parts.{part}
use Rattle.replay_log.specs.Contents.{Block, CollectionCall, HaveStripes, content, first_of, end_of, home_of, is_plain}
use Rattle.replay_log.proofs.ContentLemmas.{content_frame}
use Rattle.replay_log.specs.Seats.{World, Stage, Copying, Ready, actor_of, moves}
use Rattle.replay_log.specs.Worlds.{happens, run}
use Rattle.actor_laws.specs.Bases.{ShowsBase}
use Rattle.actor_laws.specs.Clock.{stamps_left, Grows}
use Rattle.actor_laws.specs.Gates.{Tries, Puts, GoesHome, Gated}
use Rattle.actor_laws.specs.Machine.{FindsBelow}
use Rattle.actor_laws.specs.Own.{Alike, FindsBy, FindsAt, SameAfter, SameCopy}
use Rattle.actor_laws.specs.StepTargets.{Spot, Gate, spot_by, gate_word, found_gate, number_at}
use Rattle.actor_laws.specs.Steps.{atomic_action, ready_at}
use Rattle.actor_laws.proofs.Alike.{alike_trans, action_same, spot_same}
use Rattle.actor_laws.proofs.Alone.{found_free, read_editions, read_home}
use Rattle.actor_laws.proofs.Others.{others, calm_alike}
use Rattle.actor_laws.proofs.OwnEvents.{own_event}
use Rattle.actor_laws.proofs.StepTargets.{Keeps, one_spot, after_calm}
use Rattle.actor_laws.proofs.StepResult.{try_turned, put_turned, home_turned, home_same}
use Rattle.shared_table.specs.Layout.{address, gate_address}
use Rattle.shared_table.specs.Turns.{Turn, asked_all, stage_of, spot, parts_found, editions_found, found_at, moved, ends, took, lone}
use Rattle.shared_table.specs.Turns.{turn_events}
use Rattle.shared_table.specs.Shown.{SeatKnowledge, Slot, total, acting, HasHappened, IsBaseAt, OneBase}
use Rattle.shared_table.specs.Shown.{SameBases, HomeOk, Table, Shows, Rule, Told}
use Rattle.shared_table.specs.Shown.{Steps, Took, aborted_by, only_by}
use Rattle.shared_table.proofs.Numbers.{at_set_same, at_set_other}
use Rattle.shared_table.proofs.Turned.{asked_alike, asked_calm, ends_theirs, found_alike, others_notes, records_grow, turn_notes}
use Rattle.shared_table.proofs.LayoutLemmas.{gate_apart, gate_low, gates_apart}
use Rattle.shared_table.proofs.Keeps.{asked_bases, base_trans, base_sym, calm_base, has_happened, keeps_base, ends_same}
use Rattle.shared_table.proofs.Keeps.{shows_after}
use Rattle.shared_table.proofs.Keeps.{run_append, run_own}

gate_ne : (k j : ℕ) → j ≢ k → Gate k ≢ Gate j
gate_ne k j ne e = ne (let q : k ≡ j = cc in sym q)

-- one's own gate is taken
held_word : (a : ℕ) (p : Maybe ℕ) → is_actor a p ≡ true → gate_word p ≡ 1
held_word a None e = absurd (true≢false (sym e))
held_word a (Some j) e = refl

module _ {V : Type 0} where
  pub tries_spot : (a : ℕ) (v : World V) (k : ℕ) → Tries v a k → spot a v ≡ Gate k
  tries_spot a v k e = ap (spot_by a (ready_at a v (stage_of v a))) e

  -- what is so of the step where this is found at a gate is so of the next step there
  at_gate : (a : ℕ) (v w : World V) (k n : ℕ) (b : Maybe (Base V)) → spot a w ≡ Gate k
      → SameAfter a (happens v (Step a)) (happens (found_at a w (Gate k) n b) (Step a)) → SameAfter a (happens v (Step a)) (moved a w n b)
  at_gate a v w k n b e h =
      subst (λ (z : Spot). SameAfter a (happens v (Step a)) (happens (found_at a w z n b) (Step a))) (sym e) h

  pub puts_spot : (a : ℕ) (v : World V) (k : ℕ) → Puts v a k → spot a v ≡ Gate k
  puts_spot a v k e = ap (spot_by a (ready_at a v (stage_of v a))) e.1

  pub home_spot : (a : ℕ) (v : World V) (k : ℕ) → GoesHome v a k → spot a v ≡ Gate k
  home_spot a v k e = ap (spot_by a (ready_at a v (stage_of v a))) e

  -- what an action on a gate finds
  finds_gate : (a : ℕ) (v t : World V) (p : Stage V) (d : Action (CollectionCall V)) → (Some (moves a) ≡ Some d → ⊥)
      → atomic_action a v p ≡ Some d
      → FindsBelow (content v.words v.blocks) a v.boosted t.boosted d → ((q : CollectionCall V) → p ≡ Copying q → SameCopy v t q)
      → FindsAt a v t p
  finds_gate a v t (Ready ks) d out e f g = absurd (out e)
  finds_gate a v t (Copying q) d out e f g = (subst (FindsBy a v t) (sym e) f, g q refl)
  finds_gate a v t p d out e f g = subst (FindsBy a v t) (sym e) f

  finds_try : (a : ℕ) (v t : World V) (k : ℕ) → Tries v a k → is_none (v.boosted.gates k) ≡ is_none (t.boosted.gates k)
      → FindsAt a v t (stage_of v a)
  finds_try a v t k e h = finds_gate a v t (stage_of v a) (TakeGate a k) (λ z. cc) e (refl, h) (λ q at.
      let z : Some (TakeGate a k) ≡ atomic_action a v (Copying q) = sym e ∙ ap (atomic_action a v) at in absurd (let n : ⊥ = cc in n))

  finds_home : (a : ℕ) (v t : World V) (k : ℕ) → GoesHome v a k → FindsAt a v t (stage_of v a)
  finds_home a v t k e = finds_gate a v t (stage_of v a) (GoHome a k) (λ z. cc) e refl (λ q at.
      let z : Some (GoHome a k) ≡ atomic_action a v (Copying q) = sym e ∙ ap (atomic_action a v) at in absurd (let n : ⊥ = cc in n))

  base_copy : (k : ℕ) (v t : World V) (q : CollectionCall V) → HaveStripes v.blocks → OneBase k v t → q.collection ≡ k → SameCopy v t q
  base_copy k v t q stripes same here =
      let c = content {V = V} v.words v.blocks in
      let frame = content_frame {V = V} v.words v.blocks stripes in (
        λ o at. read_editions _ _ (c.reads o)
            (λ l m.
            (same l (frame.no_word o l m) (read_home v stripes o l m ∙ (ap (λ (z : CollectionCall V). z.collection) at ∙ here))).1),
        sym (frame.legal v.boosted.parts t.boosted.parts q
            (λ l m. let o = c.outcome v.boosted.parts q in (same l (frame.no_word o l m) (read_home v stripes o l m ∙ here)).0)),
      )

  finds_put : (a : ℕ) (v t : World V) (k : ℕ) → HaveStripes v.blocks → Puts v a k → OneBase k v t → FindsAt a v t (stage_of v a)
  finds_put a v t k stripes (which, e) same = finds_gate a v t (stage_of v a) (PutGate a k which) (λ z. cc) e (refl, same) (λ q at.
      let z : Some (PutGate a k which) ≡ atomic_action a v (Copying q) = sym e ∙ ap (atomic_action a v) at in
      let here : q.collection ≡ k = cc in
      base_copy k v t q stripes same here)

  -- what is planted at a gate leaves the other bases, and its own where none was found
  pub found_base : (a : ℕ) (w : World V) (k n : ℕ) (b : Maybe (Base V)) (j : ℕ) → j ≢ k → OneBase j w (found_at a w (Gate k) n b)
  found_base a w k n b j ne l p at =
      let f : (home_of w.words w.blocks l == k) ≡ false = ap (λ (z : ℕ). z == k) at ∙ ne_eqb j k ne in
      let first = first_of w.words w.blocks k in (
        sym (cond-false {A = Shown V} (home_of w.words w.blocks l == k) (parts_found w first b l) (w.boosted.parts l) f),
        sym (cond-false {A = ℕ} (home_of w.words w.blocks l == k) (editions_found w first b l) (w.boosted.editions l) f),
      )

  pub none_base : (a : ℕ) (w : World V) (k n j : ℕ) → OneBase j w (found_at a w (Gate k) n None)
  none_base a w k n j l p at = (
    cond_both {A = Shown V} (home_of w.words w.blocks l == k) (w.boosted.parts l) (w.boosted.parts l) (λ z. w.boosted.parts l ≡ z)
        (λ _. refl) (λ _. refl),
    cond_both {A = ℕ} (home_of w.words w.blocks l == k) (w.boosted.editions l) (w.boosted.editions l) (λ z. w.boosted.editions l ≡ z)
        (λ _. refl) (λ _. refl),
  )

  -- the shape stands
  others_stand : (w : World V) (id : ℕ) → Alike (suc id) w (happens w (Step id)).0
  others_stand w id = others w (Step id) (suc id) (λ e. omega arith)

  gate_table : (n : ℕ) (bs : List Block) (w u : World V) (k new : ℕ) (ws : List ℕ) (hs hs' : List (Option (Slot V))) → Table n bs w ws hs
      → k < length bs → Keeps (Gate k) w u
      → w.words ≡ n → w.blocks ≡ bs → new ≡ gate_word (u.boosted.gates k) → HomeOk n bs u k hs'
      → ((j : ℕ) → j ≢ k → get_elem? hs' j ≡ get_elem? hs j)
      → Table n bs u (set ws (gate_address (end_of n bs) k) new) hs'
  gate_table n bs w u k new ws hs hs' T lt K en eb is ok same =
      let N = end_of n bs in
      let long = T.wide in
      let broad = gate_low N (length bs) k lt in
      record {
        wide = (let a = length-set ws (gate_address N k) new in omega arith);
        cells = λ d inn. get_or-set_other ws (gate_address N k) (address N d) new 0 (λ e. gate_apart N d k inn (sym e))
            ∙ (T.cells d inn ∙ sym (K.cells d (λ e. cc)));
        gates = λ j lj. ⊎_elim
            (λ (e : j ≡ k). subst (λ (z : ℕ). get_or (set ws (gate_address N k) new) (gate_address N z) 0 ≡ gate_word (u.boosted.gates z))
            (sym e) (get_or-set_same ws (gate_address N k) new 0 (omega arith) ∙ is))
            (λ (ne : j ≡ k → ⊥). get_or-set_other ws (gate_address N k) (gate_address N j) new 0 (gates_apart N k j ne)
            ∙ (T.gates j lj ∙ ap gate_word (sym (K.gates j (gate_ne k j ne)))))
            (cases_eq j k);
        slots = λ j lj. ⊎_elim
            (λ (e : j ≡ k). subst (λ (z : ℕ). HomeOk n bs u z hs') (sym e) ok)
            (λ (ne : j ≡ k → ⊥).
            let q = T.slots j lj in
            let g = K.gates j (gate_ne k j ne) in (
              λ free.
                  let b = q.0 (sym g ∙ free) in
                  let off : (l : ℕ) → home_of n bs l ≡ j → Gate k ≢ Gate (home_of w.words w.blocks l) = λ l at e. gate_ne k j ne
                  (e ∙ ap Gate ((λ i. home_of (en i) (eb i) l) ∙ at)) in
                  (b.0, same j ne ∙ b.1, b.2, λ l p at. (K.parts l (off l at) ∙ (b.3 l p at).0, K.editions l (off l at) ∙ (b.3 l p at).1)),
              λ i taken. same j ne ∙ q.1 i (sym g ∙ taken),
            ))
            (cases_eq j k);
      }

  module _ (o : World V) (id : ℕ) (m : Me (Slot V) (SeatKnowledge V)) (qs : List (Event V)) where
    abbrev alone : World V
    alone = asked_all id (lone id o m.0.turns) qs

    abbrev world : (s : State (Slot V) (SeatKnowledge V)) → Rule o s → World V
    world s rule = asked_all id (run o rule.events) qs

    pub shape_of : (s : State (Slot V) (SeatKnowledge V)) (rule : Rule o s)
        → ((world s rule).words ≡ o.words) × ((world s rule).blocks ≡ o.blocks)
    shape_of s rule = let g = asked_calm id qs (run o rule.events) in (g.words ∙ rule.shows.shape.0, g.blocks ∙ rule.shows.shape.1)

    pub alike_of : (s : State (Slot V) (SeatKnowledge V)) (rule : Rule o s) → get_elem? s.views id ≡ some m.0
        → Alike id (world s rule) alone
    alike_of s rule here = asked_alike id qs (run o rule.events) (lone id o m.0.turns) (rule.shows.own id m.0 here).alike

    -- the bases that it took out, once it has asked
    out_of : (s : State (Slot V) (SeatKnowledge V)) (rule : Rule o s) → get_elem? s.views id ≡ some m.0 → SameBases id (world s rule) alone
    out_of s rule here =
        let mine = rule.shows.own id m.0 here in asked_bases id qs (run o rule.events) (lone id o m.0.turns) mine.alike mine.out

    -- the events that reach the world after a turn
    abbrev after_turn : (s : State (Slot V) (SeatKnowledge V)) → Rule o s → World V
    after_turn s rule = run o (rule.events ++ turn_events id qs)

    -- a turn at a gate
    gate_at : (s : State (Slot V) (SeatKnowledge V)) (rule : Rule o s) (k found new : ℕ) (b : Maybe (Base V)) (hs : List (Option (Slot V)))
        → get_elem? s.views id ≡ some m.0 → 0 < m.0.shares → k < length o.blocks
        → spot id alone ≡ Gate k
        → let w1 = world s rule in let u = (happens w1 (Step id)).0 in
        let after = (happens (found_at id alone (Gate k) found b) (Step id)).0 in
        Alike id u after → Grows id w1 u → (is_actor id (u.boosted.gates k) ≡ true → OneBase k u after)
        → ((OneBase k w1 u) ⊎ (is_actor id (w1.boosted.gates k) ≡ true))
        → new ≡ gate_word (u.boosted.gates k) → HomeOk o.words o.blocks u k hs → ((j : ℕ) → j ≢ k → get_elem? hs j ≡ get_elem? s.homes j)
        → Shows o (after_turn s rule) record {
          words = set s.words (gate_address (end_of o.words o.blocks) k) new;
          homes = hs;
          views = set s.views id
              (acting m.0 (record { asks = qs; found = found; base = b }) (ends id alone) m.0.clock);
        }
    gate_at s rule k found new b hs here live lt touches al2 grow out_k held is ok same =
        let S = rule.shows in
        let N = end_of o.words o.blocks in
        let w : World V = run o rule.events in
        let w1 : World V = world s rule in
        let u : World V = (happens w1 (Step id)).0 in
        let l : World V = lone id o m.0.turns in
        let mine = S.own id m.0 here in
        let g = asked_calm id qs w in
        let gl = asked_calm id qs l in
        let al1 = alike_of s rule here in
        let at1 : spot id w1 ≡ Gate k = spot_same id w1 alone al1 ∙ touches in
        let K : Keeps (Gate k) w u = after_calm id (Gate k) w w1 u g (subst (λ (z : Spot). Keeps z w1 u) at1 (one_spot w1 id)) in
        let planted : World V = found_at id alone (Gate k) found b in
        let after : World V = (happens planted (Step id)).0 in
        let i : Turn V = record { asks = qs; found = found; base = b } in
        let took_is : after ≡ took id l i = (λ j. (happens (found_at id alone (sym touches j) found b) (Step id)).0) in
        let al_p : Alike id w1 planted = found_alike id w1 alone (Gate k) found b al1 in
        let KP : Keeps (Gate k) planted after = subst (λ (z : Spot). Keeps z planted after) (sym (spot_same id w1 planted al_p) ∙ at1)
        (one_spot planted id) in
        let shaped : (u.words ≡ w.words)
        × (u.blocks ≡ w.blocks) = (let other = others w1 (Step id) (suc id) (λ e. omega arith) in
        (sym other.words ∙ g.words, sym other.blocks ∙ g.blocks)) in
        let rises = grow.rises in
        let clock1 : w1.boosted.words.clock ≡ w.boosted.words.clock = g.cells ClockCell in
        let left1 = g.left in
        let seen = S.clocks id m.0 here in
        let grown : Grows id w u = record {
          rises = omega arith;
          pays = ⊎_elim
              (λ (h : u.boosted.words.clock + stamps_left (actor_of u id).place ≤ w1.boosted.words.clock + stamps_left
              (actor_of w1 id).place). inl (omega arith))
              (λ (h : (u.boosted.words.clock ≡ w1.boosted.words.clock) × (w1.boosted.words.clock < clock_limit)). let p = h.0 in
              let q = h.1 in inr (omega arith, omega arith))
              grow.pays;
        } in
        let after_notes = turn_notes id w l qs (Gate k) found b mine.alike
        (record { aborted = mine.aborted; committed = mine.committed }) in
        let now : Shows o u record {
          words = set s.words (gate_address N k) new;
          homes = hs;
          views = set s.views id
              (acting m.0 i (ends id alone) m.0.clock);
        } =
        shows_after o w u s id m.0 i (ends id alone) m.0.clock (set s.words (gate_address N k) new) hs S here live shaped
        (gate_table o.words o.blocks w u k new s.words s.homes hs S.table lt K S.shape.0 S.shape.1 is ok same)
        (record {
          alike = subst (Alike id u) took_is al2;
          out = λ j gate. subst (OneBase j u) took_is (⊎_elim
              (λ (e : j ≡ k). subst (λ (z : ℕ). OneBase z u after) (sym e)
              (out_k (ap (λ (z : ℕ). is_actor id (u.boosted.gates z)) (sym e) ∙ gate)))
              (λ (ne : j ≡ k → ⊥).
              let gate_w : is_actor id (w.boosted.gates j) ≡ true = ap (is_actor id) (sym (K.gates j (gate_ne k j ne))) ∙ gate in
              base_trans j u w after (sym shaped.0) (sym shaped.1)
              (base_sym j w u shaped.0 shaped.1 (keeps_base (Gate k) j w u K (gate_ne k j ne)))
              (base_trans j w l after (sym mine.alike.words) (sym mine.alike.blocks) (mine.out j gate_w)
              (base_trans j l alone after gl.words gl.blocks (calm_base id j l alone gl)
              (base_trans j alone planted after refl refl (found_base id alone k found b j ne)
              (keeps_base (Gate k) j planted after KP (gate_ne k j ne))))))
              (cases_eq j k));
          aborted = subst (λ (x : World V). aborted_by id u.aborted ≡ x.aborted) took_is after_notes.aborted;
          committed = subst (λ (x : World V). (h : ℕ × Record V → ℕ) → total (only_by id h) u.records ≡ total h x.records) took_is
              after_notes.committed;
        })
        (λ c ne. alike_trans c w w1 u (calm_alike id c ne w w1 g) (others w1 (Step id) c ne))
        (λ c x ne n. others_notes id c w x qs ne n) (λ h. ends_theirs h id alone)
        (λ c j ne gate. ⊎_elim
        (λ (e : j ≡ k). ⊎_elim
        (λ (sb : OneBase k w1 u). subst (λ (z : ℕ). OneBase z w u) (sym e)
        (base_trans k w w1 u g.words g.blocks (calm_base id k w w1 g) sb))
        (λ (own : is_actor id (w1.boosted.gates k) ≡ true). absurd
        (two id c (w.boosted.gates k) (ap (is_actor id) (sym (g.gates k)) ∙ own)
        (ap (λ (z : ℕ). is_actor c (w.boosted.gates z)) (sym e) ∙ gate) ne))
        held)
        (λ (ne2 : j ≡ k → ⊥). keeps_base (Gate k) j w u K (gate_ne k j ne2))
        (cases_eq j k))
        grown
        (omega arith)
        (λ h. records_grow h id w1 ∙ (λ j. total h (g.records j) + total h (ends_same id w1 alone al1 j))) in
        subst (λ (z : World V). Shows o z record {
          words = set s.words (gate_address N k) new;
          homes = hs;
          views = set s.views id (acting m.0 i (ends id alone) m.0.clock);
        })
        (sym (run_append rule.events (turn_events id qs) o ∙ run_own id qs w)) now
      where
        two : (a c : ℕ) (p : Maybe ℕ) → is_actor a p ≡ true → is_actor c p ≡ true → c ≢ a → ⊥
        two a c None x y ne = true≢false (sym x)
        two a c (Some j) x y ne = ne (eqb-true c j y ∙ sym (eqb-true a j x))

    -- ---- a gate is put back, its base as it was or with the changes of the transaction
    came_home : (s : State (Slot V) (SeatKnowledge V)) (rule : Rule o s) (k : ℕ) (b : Base V) (rest : List (ℕ × Slot V))
        → get_elem? s.views id
        ≡ some m.0 → 0 < m.0.shares → k < length o.blocks
        → m.1 ≡ (k, Some b) ∷ rest → spot id alone ≡ Gate k → is_actor id (alone.boosted.gates k) ≡ true
        → let w1 = world s rule in let u = (happens w1 (Step id)).0 in
        let after = (happens (found_at id alone (Gate k) 1 None) (Step id)).0 in
        Alike id u after → Grows id w1 u → u.boosted.gates k ≡ None → OneBase k u after → IsBaseAt o.blocks k b
        → ShowsBase o.words o.blocks after k b
        → Shows o (after_turn s rule) record {
          words = set s.words (gate_address (end_of o.words o.blocks) k) 0;
          homes = set s.homes k (some (Some b));
          views = set s.views id (acting m.0 (record { asks = qs; found = 1; base = None }) (ends id alone) m.0.clock);
        }
    came_home s rule k b rest here live lt top touches gate al2 grow free same sort shown =
        let S = rule.shows in
        let w : World V = run o rule.events in
        let w1 : World V = world s rule in
        let u : World V = (happens w1 (Step id)).0 in
        let g = asked_calm id qs w in
        let al1 = alike_of s rule here in
        let gate1 : is_actor id (w1.boosted.gates k) ≡ true = al1.boosted.gates k ∙ gate in
        let hold = holder (w.boosted.gates k) (ap (is_actor id) (sym (g.gates k)) ∙ gate1) in
        let out_there = (S.table.slots k lt).1 hold.0 hold.1 in
        let other = others w1 (Step id) (suc id) (λ e. omega arith) in
        let sh = shape_of s rule in
        let en : u.words ≡ o.words = sym other.words ∙ sh.0 in
        let eb : u.blocks ≡ o.blocks = sym other.blocks ∙ sh.1 in
        gate_at s rule k 1 0 None (set s.homes k (some (Some b))) here live lt touches al2 grow
        (λ h. absurd (true≢false (sym h ∙ ap (is_actor id) free)))
        (inr gate1)
        (ap gate_word (sym free)) (
          (λ _. (
            b,
            at_set_same s.homes k none (some (Some b)) out_there,
            sort,
            λ l p at.
                let q = same l ((λ i. is_plain (en i) (eb i) l) ∙ p) ((λ i. home_of (en i) (eb i) l) ∙ at) in
                (q.0 ∙ (shown l p at).0, q.1 ∙ (shown l p at).1),
          )),
          (λ j taken. absurd (let z : None ≡ Some j = sym free ∙ taken in cc)),
        )
        (λ j ne. at_set_other s.homes k j (some (Some b)) ne)
      where
        holder : (p : Maybe ℕ) → is_actor id p ≡ true → (j : ℕ) × (p ≡ Some j)
        holder None e = absurd (true≢false (sym e))
        holder (Some j) e = (j, refl)

    -- the gate is put back, its base unchanged
    pub put_allowed : (slots k : ℕ) (b : Base V) (others : List (ℕ × Slot V)) → HaveStripes o.blocks → 0 < m.0.shares
        → k < length o.blocks → m.1 ≡ (k, Some b) ∷ others → Puts alone id k
        → is_actor id (alone.boosted.gates k) ≡ true → is_committing (actor_of alone id).place ≡ false → IsBaseAt o.blocks k b
        → ShowsBase o.words o.blocks (happens (found_at id alone (Gate k) 1 None) (Step id)).0 k b
        → Steps o slots id m qs (gate_address (end_of o.words o.blocks) k) (λ _. 0)
        (λ _ t. Told o id qs m.0.clock m 1 None t.0 × (t.1 ≡ others))
    put_allowed slots k b others stripes live lt top puts gate calm sort shown s es S len here small =
        let rule : Rule o s = record { events = es; shows = S } in
        let w1 : World V = world s rule in
        let u : World V = (happens w1 (Step id)).0 in
        let planted : World V = found_at id alone (Gate k) 1 None in
        let after : World V = (happens planted (Step id)).0 in
        let al1 = alike_of s rule here in
        let al_p : Alike id w1 planted = found_alike id w1 alone (Gate k) 1 None al1 in
        let gate1 : is_actor id (w1.boosted.gates k) ≡ true = al1.boosted.gates k ∙ gate in
        let gate_p : is_actor id (planted.boosted.gates k) ≡ true = sym (al_p.boosted.gates k) ∙ gate1 in
        let act1 = action_same id w1 alone al1 in
        let puts1 : Puts w1 id k = (puts.0, act1 ∙ puts.1) in
        let puts_p : Puts planted id k = (puts.0, sym (action_same id w1 planted al_p) ∙ puts1.1) in
        let calm1 : is_committing (actor_of w1 id).place ≡ false = ap (λ (x : Actor). is_committing x.place) al1.boosted.actor ∙ calm in
        let P = put_turned id w1 k puts1 gate1 calm1 in
        let Q = put_turned id planted k puts_p gate_p calm in
        let sh = shape_of s rule in
        let stripes1 : HaveStripes w1.blocks = subst HaveStripes (sym sh.1) stripes in
        let base1 : OneBase k w1 planted = base_trans k w1 alone planted (sym al1.words) (sym al1.blocks) (out_of s rule here k gate1)
        (none_base id alone k 1 k) in
        let own2 = own_event id w1 planted (Step id) al_p (refl, finds_put id w1 planted k stripes1 puts1 base1) in
        let al2 : Alike id u after = own2.0 in
        let other = others_of w1 in
        let same : OneBase k u after = base_trans k u w1 after other.0 other.1 (λ l p at. (P.parts l, P.editions l))
        (base_trans k w1 planted after (sym al_p.words) (sym al_p.blocks) base1 (λ l p at. (sym (Q.parts l), sym (Q.editions l)))) in
        let r = came_home s rule k b others here live lt top (puts_spot id alone k puts) gate al2 P.grows P.gate same sort shown in (
          acting m.0 (record { asks = qs; found = 1; base = None }) (ends id alone) m.0.clock,
          gives,
          tt,
          subst (λ (c : List (ℕ × Slot V)). Shows o (after_turn s rule)
              (stepped s (gate_address (end_of o.words o.blocks) k) 0 id c
              (acting m.0 (record { asks = qs; found = 1; base = None }) (ends id alone) m.0.clock) gives)) (sym top) r,
          (
            (
              refl,
              has_happened o id alone es qs 1 None al1 (out_of s rule here)
                  (ap (number_at w1) (puts_spot id alone k puts) ∙ held_word id (w1.boosted.gates k) gate1)
                  (at_gate id w1 alone k 1 None (puts_spot id alone k puts) own2),
            ),
            ap rest_of top,
          ),
        )
      where
        others_of : (w : World V) → (w.words ≡ (happens w (Step id)).0.words) × (w.blocks ≡ (happens w (Step id)).0.blocks)
        others_of w = let other = others_stand w id in (other.words, other.blocks)

    -- the base is put back with the changes of the transaction
    pub home_allowed : (slots k : ℕ) (b : Base V) (others : List (ℕ × Slot V)) → HaveStripes o.blocks → 0 < m.0.shares
        → k < length o.blocks → m.1 ≡ (k, Some b) ∷ others → GoesHome alone id k
        → is_actor id (alone.boosted.gates k) ≡ true → is_stored (actor_of alone id).place ≡ true → IsBaseAt o.blocks k b
        → ShowsBase o.words o.blocks (happens (found_at id alone (Gate k) 1 None) (Step id)).0 k b
        → Steps o slots id m qs (gate_address (end_of o.words o.blocks) k) (λ _. 0)
        (λ _ t. Told o id qs m.0.clock m 1 None t.0 × (t.1 ≡ others))
    home_allowed slots k b others stripes live lt top goes gate stored sort shown s es S len here small =
        let rule : Rule o s = record { events = es; shows = S } in
        let w1 : World V = world s rule in
        let u : World V = (happens w1 (Step id)).0 in
        let planted : World V = found_at id alone (Gate k) 1 None in
        let after : World V = (happens planted (Step id)).0 in
        let al1 = alike_of s rule here in
        let al_p : Alike id w1 planted = found_alike id w1 alone (Gate k) 1 None al1 in
        let gate1 : is_actor id (w1.boosted.gates k) ≡ true = al1.boosted.gates k ∙ gate in
        let gate_p : is_actor id (planted.boosted.gates k) ≡ true = sym (al_p.boosted.gates k) ∙ gate1 in
        let goes1 : GoesHome w1 id k = action_same id w1 alone al1 ∙ goes in
        let goes_p : GoesHome planted id k = sym (action_same id w1 planted al_p) ∙ goes1 in
        let stored1 : is_stored (actor_of w1 id).place ≡ true = ap (λ (x : Actor). is_stored x.place) al1.boosted.actor ∙ stored in
        let P = home_turned id w1 k goes1 gate1 stored1 in
        let Q = home_turned id planted k goes_p gate_p stored in
        let sh = shape_of s rule in
        let stripes1 : HaveStripes w1.blocks = subst HaveStripes (sym sh.1) stripes in
        let base1 : OneBase k w1 planted = base_trans k w1 alone planted (sym al1.words) (sym al1.blocks) (out_of s rule here k gate1)
        (none_base id alone k 1 k) in
        let own2 = own_event id w1 planted (Step id) al_p (refl, finds_home id w1 planted k goes1) in
        let al2 : Alike id u after = own2.0 in
        let other = others_stand w1 id in
        let same : OneBase k u after = λ l p at. home_same id w1 planted k stripes1 al_p base1 P Q l
        ((λ i. is_plain (other.words i) (other.blocks i) l) ∙ p) ((λ i. home_of (other.words i) (other.blocks i) l) ∙ at) in
        let r = came_home s rule k b others here live lt top (home_spot id alone k goes) gate al2 P.grows P.gate same sort shown in (
          acting m.0 (record { asks = qs; found = 1; base = None }) (ends id alone) m.0.clock,
          gives,
          tt,
          subst (λ (c : List (ℕ × Slot V)). Shows o (after_turn s rule)
              (stepped s (gate_address (end_of o.words o.blocks) k) 0 id c
              (acting m.0 (record { asks = qs; found = 1; base = None }) (ends id alone) m.0.clock) gives)) (sym top) r,
          (
            (
              refl,
              has_happened o id alone es qs 1 None al1 (out_of s rule here)
                  (ap (number_at w1) (home_spot id alone k goes) ∙ held_word id (w1.boosted.gates k) gate1)
                  (at_gate id w1 alone k 1 None (home_spot id alone k goes) own2),
            ),
            ap rest_of top,
          ),
        )

    -- a gate is tried: where it was free, its base goes out
    pub take_allowed : (slots k : ℕ) → 0 < m.0.shares → k < length o.blocks → Tries alone id k → is_committing (actor_of alone id).place
        ≡ false
        → Steps o slots id m qs (gate_address (end_of o.words o.blocks) k) (λ n. either (eqb n 0) 1 n) (Took o id qs m k)
    take_allowed slots k live lt tries calm s es S len here small = by_gate (w.boosted.gates k) refl
      where
        rule : Rule o s
        rule = record { events = es; shows = S }

        w : World V
        w = run o es

        w1 : World V
        w1 = world s rule

        u : World V
        u = (happens w1 (Step id)).0

        N : ℕ
        N = end_of o.words o.blocks

        found : ℕ
        found = get_or s.words (gate_address N k) 0

        al1 : Alike id w1 alone
        al1 = alike_of s rule here

        gates1 : w1.boosted.gates k ≡ w.boosted.gates k
        gates1 = (asked_calm id qs w).gates k

        tries1 : Tries w1 id k
        tries1 = action_same id w1 alone al1 ∙ tries

        P : Gated id k w1 u (if is_none (w1.boosted.gates k) then Some id else w1.boosted.gates k)
        P = try_turned id w1 k tries1 (ap (λ (x : Actor). is_committing x.place) al1.boosted.actor ∙ calm)

        is_found : found ≡ gate_word (w.boosted.gates k)
        is_found = S.table.gates k lt

        planted : Maybe (Base V) → World V
        planted b = found_at id alone (Gate k) found b

        al_p : (b : Maybe (Base V)) → Alike id w1 (planted b)
        al_p b = found_alike id w1 alone (Gate k) found b al1

        own2 : (b : Maybe (Base V)) → SameAfter id (happens w1 (Step id)) (happens (planted b) (Step id))
        own2 b =
            own_event id w1 (planted b) (Step id) (al_p b) (
              refl,
              finds_try id w1 (planted b) k tries1
                  (ap is_none gates1 ∙
                  (found_free id (alone.boosted.gates k) (w.boosted.gates k) (ap (is_actor id) (sym gates1) ∙ al1.boosted.gates k)
                  ∙ ((λ i. is_none (found_gate id (sym is_found i) (alone.boosted.gates k)))
                  ∙ sym (ap is_none (put-same alone.boosted.gates k (found_gate id found (alone.boosted.gates k))))))),
            )

        al2 : (b : Maybe (Base V)) → Alike id u (happens (planted b) (Step id)).0
        al2 b = (own2 b).0

        told_of : (b : Maybe (Base V)) → HasHappened o id alone found b
        told_of b =
            has_happened o id alone es qs found b al1 (out_of s rule here)
            (ap (number_at w1) (tries_spot id alone k tries) ∙ (ap gate_word gates1 ∙ sym is_found))
            (at_gate id w1 alone k found b (tries_spot id alone k tries) (own2 b))

        Q : (b : Maybe (Base V)) → Gated id k (planted b) (happens (planted b) (Step id)).0
            (if is_none ((planted b).boosted.gates k) then Some id else (planted b).boosted.gates k)
        Q b = try_turned id (planted b) k (sym (action_same id w1 (planted b) (al_p b)) ∙ tries1) calm

        shape : (w1.words ≡ u.words) × (w1.blocks ≡ u.blocks)
        shape = (let other = others_stand w1 id in (other.words, other.blocks))

        same_after : (b : Maybe (Base V)) → OneBase k w1 (planted b) → OneBase k u (happens (planted b) (Step id)).0
        same_after b base1 = base_trans k u w1 (happens (planted b) (Step id)).0 shape.0 shape.1 (λ l p at. (P.parts l, P.editions l))
            (base_trans k w1 (planted b) (happens (planted b) (Step id)).0 (sym (al_p b).words) (sym (al_p b).blocks) base1
            (λ l p at. (sym ((Q b).parts l), sym ((Q b).editions l))))

        view_of : Maybe (Base V) → SeatKnowledge V
        view_of b = acting m.0 (record { asks = qs; found = found; base = b }) (ends id alone) m.0.clock

        by_gate : (p : Maybe ℕ) → w.boosted.gates k ≡ p
            → (v : SeatKnowledge V) × (a : Act (Slot V)) × Valid s.homes m.1 a
            × Shows o (after_turn s rule) (stepped s (gate_address N k) (either (eqb found 0) 1 found) id m.1 v a) × Took o id qs m k found
            (v, carried_after m.1 a)
        by_gate None e =
            let q = (S.table.slots k lt).0 e in
            let b : Base V = q.0 in
            let zero_is : found ≡ 0 = is_found ∙ ap gate_word e in
            let gate_u : u.boosted.gates k ≡ Some id = P.gate ∙ cond-true {A = Maybe ℕ} (is_none (w1.boosted.gates k)) (Some id)
            (w1.boosted.gates k) (ap is_none (gates1 ∙ e)) in
            let sh = shape_of s rule in
            let g = asked_calm id qs w in
            let base1 : OneBase k w1 (planted (Some b)) = λ l p at.
            let at_l : (home_of alone.words alone.blocks l == k) ≡ true = eq-eqb _ _
            ((λ j. home_of (sym al1.words j) (sym al1.blocks j) l) ∙ at) in
            let first = first_of alone.words alone.blocks k in
            let same_first : first_of o.words o.blocks k
            ≡ first = (λ j. first_of ((sym sh.0 ∙ al1.words) j) ((sym sh.1 ∙ al1.blocks) j) k) in
            let z = q.3 l ((λ j. is_plain (sym sh.0 j) (sym sh.1 j) l) ∙ p) ((λ j. home_of (sym sh.0 j) (sym sh.1 j) l) ∙ at) in (
              g.parts l ∙ (z.0 ∙ ((λ j. part (stripes_of b) (l - same_first j) (shown_of b))
                  ∙ sym (cond-true {A = Shown V} (home_of alone.words alone.blocks l == k) (parts_found alone first (Some b) l)
                  (alone.boosted.parts l) at_l))),
              g.editions l ∙ (z.1 ∙ ((λ j. get_or (editions_of b) (l - same_first j) 0)
                  ∙ sym (cond-true {A = ℕ} (home_of alone.words alone.blocks l == k) (editions_found alone first (Some b) l)
                  (alone.boosted.editions l) at_l))),
            ) in (
              view_of (Some b),
              takes k (Some b),
              q.1,
              gate_at s rule k found (either (eqb found 0) 1 found) (Some b) (set s.homes k none) here live lt
                  (tries_spot id alone k tries) (al2 (Some b)) P.grows
                  (λ _. same_after (Some b) base1)
                  (inl (λ l p at. (sym (P.parts l), sym (P.editions l))))
                  (ap (λ (n : ℕ). either (eqb n 0) 1 n) zero_is ∙ sym (ap gate_word gate_u)) (
                    (λ free. absurd (let z : Some id ≡ None = sym gate_u ∙ free in cc)),
                    (λ j taken. at_set_same s.homes k (some (Some b)) none q.1),
                  )
                  (λ j ne. at_set_other s.homes k j none ne),
              inl (zero_is, b, q.2, (refl, told_of (Some b)), refl),
            )
        by_gate (Some j) e =
            let one_is : found ≡ 1 = is_found ∙ ap gate_word e in
            let gate_u : u.boosted.gates k ≡ w.boosted.gates k = P.gate
            ∙ (cond-false {A = Maybe ℕ} (is_none (w1.boosted.gates k)) (Some id) (w1.boosted.gates k) (ap is_none (gates1 ∙ e))
            ∙ gates1) in
            let T = S.table.slots k lt in (
              view_of None,
              keeps,
              tt,
              gate_at s rule k found (either (eqb found 0) 1 found) None s.homes here live lt (tries_spot id alone k tries)
                  (al2 None) P.grows
                  (λ gate. same_after None
                  (base_trans k w1 alone (planted None) (sym al1.words) (sym al1.blocks)
                  (out_of s rule here k (ap (is_actor id) (gates1 ∙ sym gate_u) ∙ gate)) (none_base id alone k found k)))
                  (inl (λ l p at. (sym (P.parts l), sym (P.editions l))))
                  (ap (λ (n : ℕ). either (eqb n 0) 1 n) one_is ∙ sym (ap gate_word (gate_u ∙ e)))
                  ((λ free. absurd (let z : Some j ≡ None = sym e ∙ (sym gate_u ∙ free) in cc)), (λ i taken. T.1 i (sym gate_u ∙ taken)))
                  (λ i ne. refl),
              inr (one_is, (refl, told_of None), refl),
            )
