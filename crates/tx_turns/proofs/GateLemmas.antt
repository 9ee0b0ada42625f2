-- A step on a gate, and the bases that the seat has out.
--
-- A gate that is found free joins those that the actor holds, and its base those in hand, as in the world with it alone from then on; one
-- that is found taken changes nothing. A gate that is put back was the first of them, and so was its base. Every other base stands, since
-- the actor holds each gate once. What the actor makes of it, and has of collections then, is stated in the world where the step happened.
use Rattle.std.proofs.Common.{◌≡◌, ℕ, Bool, true, false, true≢false, List, [], ◌∷◌, ◌++◌, length, ◌<◌, Option, Some, None, inl, inr, refl}
use Rattle.std.proofs.Common.{sym, ap, ◌∙◌, subst, arith}
use Rattle.std.specs.Prelude.{if◌then◌else◌, slice_index_or}
use Rattle.std.proofs.lemmas.Bool.{cases_eq}
use Rattle.atomic_table.specs.Table.{rest}
use Rattle.tx_machine.specs.Cells.{ClockCell}
use Rattle.seq_model.specs.declared.event.Event.TheVariants.{Step}
use Rattle.tx_machine.specs.Boosted.{is_actor, is_committing, is_none}
use Rattle.tx_machine.specs.Content.{has}
use Rattle.replay_log.specs.declared.base.Base.{Base}
use Rattle.replay_log.specs.Contents.{CollectionCall}
use Rattle.replay_log.specs.Seats.{World, Copying, actor_of}
use Rattle.replay_log.specs.Worlds.{happens, run}
use Rattle.replay_log.proofs.SeatLemmas.{Differ}
use Rattle.actor_laws.specs.Bases.{ShowsBase}
use Rattle.actor_laws.specs.Gates.{Puts, Tries}
use Rattle.actor_laws.specs.Own.{Alike}
use Rattle.actor_laws.specs.StepTargets.{Gate, Spot, gate_word, number_at}
use Rattle.actor_laws.proofs.Alike.{action_same, alike_same}
use Rattle.actor_laws.proofs.Guards.{put_allowed, try_allowed}
use Rattle.actor_laws.proofs.StepResult.{try_turned}
use Rattle.actor_parts.specs.Dispatch.{AreSteps, after_put, after_try, first, is_loading, next_home, next_of}
use Rattle.actor_parts.specs.declared.next.Next.{Next}
use Rattle.actor_parts.specs.declared.next.Next.TheVariants as next
use Rattle.tx_actor.specs.CopiesByStage.{HasCopies, IsWholeOf, KeepsCopies}
use Rattle.tx_actor.specs.ActorBounds.{IsRunning}
use Rattle.tx_actor.specs.Running.{Does, Runs, notice_of, seat_of, stage_of}
use Rattle.tx_actor.specs.declared.actor.Stage as own
use Rattle.tx_actor.specs.declared.actor.Stage.TheVariants as stage
use Rattle.tx_actor.specs.declared.actor.ActorNotice.{ActorNotice}
use Rattle.tx_actor.specs.declared.actor.TxActor.{TxActor}
use Rattle.tx_actor.specs.CopiesAfterEvent.{StepsKeep}
use Rattle.tx_actor.proofs.CopyLemmas.{due_copy}
use Rattle.tx_actor.proofs.GatesLemmas.{gates_in, put_gates, step_put_gates, step_try_gates}
use Rattle.tx_actor.proofs.OwnLemmas.{OthersLaw}
use Rattle.tx_actor.proofs.SeatLemmas.{next_as}
use Rattle.tx_actor.proofs.StepLemmas.{due_as, due_put, due_try, put_runs, quiet_put, quiet_try, same_action, try_runs}
use Rattle.shared_table.specs.declared.seat.Seat as table
use Rattle.shared_table.specs.declared.table.TxTable.{TxTable}
use Rattle.shared_table.specs.Shown.{IsBaseAt, OneBase, Slot}
use Rattle.shared_table.specs.Seated as seated
use Rattle.shared_table.specs.Seated.{IsHome, Takes, acts, blocks_in, opening_of, out, view}
use Rattle.shared_table.specs.Turns.{found_at, moved, spot}
use Rattle.shared_table.proofs.Gates.{none_base, puts_spot, tries_spot}
use Rattle.shared_table.proofs.Keeps.{base_trans}
use Rattle.shared_table.proofs.Turned.{found_alike}
use Rattle.tx_turns.specs.Ties.{IsOnWord, Ties, Turned, laid_in}
use Rattle.tx_turns.proofs.TurnLemmas.{tied, turned_by}
use Rattle.tx_turns.specs.Bases.{AreBases, IsBaseIn, gates_at, slots_of}
use Rattle.tx_turns.specs.Own.{HasOwn}
use Rattle.tx_turns.proofs.BasesLemmas.{are_more, are_stay, base_stays, first_base, gates_is, prepared_no, put_shows, slots_more}
use Rattle.tx_turns.proofs.BasesLemmas.{taken_shows}
use Rattle.tx_turns.proofs.ThereLemmas.{start}
use Rattle.tx_turns.proofs.ThereLemmas.{own_after, there_copies, there_differ, there_gates, there_held, there_next, there_reached}
use Rattle.tx_turns.proofs.ThereLemmas.{there_runs}
use Rattle.tx_turns.proofs.ThereLemmas.{turn_after, turn_gates, turn_runs}
use Rattle.tx_turns.proofs.WordLemmas.{no_copy, word_gate}

free_gate : (g : Option ℕ) → gate_word g ≡ 0 → g ≡ None
free_gate None e = refl
free_gate (Some a) e = absurd (let z : ⊥ = omega (arith, e) in z)

taken_gate : (g : Option ℕ) → gate_word g ≡ 1 → is_none g ≡ false
taken_gate None e = absurd (let z : ⊥ = omega (arith, e) in z)
taken_gate (Some a) e = refl

same_gate : (j k : ℕ) → (let g : Spot = Gate k in g) ≡ Gate j → k ≡ j
same_gate j k e = cc

no_home : (xs : List ℕ) (m : Next) → next_home (first xs) ≡ m → (m ≡ next.Nothing → ⊥) → ((k : ℕ) → m ≡ next.GoHome k → ⊥) → ⊥
no_home [] m e none home = none (sym e)
no_home (k ∷ xs) m e none home = home k (sym e)

module _ {V : Type 0} where
  -- no base has to be prepared at a stage that is none of a commit's stores
  not_whole : (s : own.Stage V) (m : Next) → next_of (stage_of s) ≡ m → (m ≡ next.Nothing → ⊥) → (m ≡ next.Word → ⊥)
      → (m ≡ next.FirstStore → ⊥) → ((k : ℕ) → m ≡ next.GoHome k → ⊥) → (ks : List ℕ) → IsWholeOf s ks → ⊥
  not_whole (stage.Ready homes) m e none word store home ks is = store (sym e)
  not_whole (stage.Storing homes) m e none word store home ks is = word (sym e)
  not_whole (stage.Homing homes) m e none word store home ks is = no_home homes.items m e none home
  not_whole s m e none word store home ks is = is

  -- ---- a try
  pub try_due : AreSteps V → (t : TxTable V) (s : table.Seat V) (r : TxActor V) (k : ℕ) → next_of (stage_of r.stage) ≡ next.TryGate k
      → Ties t s r → Tries (acts (opening_of t) s) (seated.actor s) k
  try_due steps t s r k due ties =
      let a = seated.actor s in
      let w = acts (opening_of t) s in
      let next_is = next_as w a r ties.runs ∙ due in
      same_action w a (w.seats a).stage (λ q. let e : next.FirstStore ≡ next.TryGate k = sym q ∙ next_is in let z : ⊥ = cc in z)
      ∙ due_try a k _ (due_as steps w a (w.seats a).stage (next.TryGate k) next_is)

  try_calm : (t : TxTable V) (s : table.Seat V) (r : TxActor V) (k : ℕ) → Ties t s r → Tries (acts (opening_of t) s) (seated.actor s) k
      → is_committing (actor_of (acts (opening_of t) s) (seated.actor s)).place ≡ false
  try_calm t s r k ties tries =
      let key = t.whole.shared.key in
      let h = ties.reached in
      try_allowed (blocks_in t) key.shape.value.clock key.state.value.words key.state.value.held h.events (seated.actor s) k
      (acts (opening_of t) s) h.stripes h.alike tries

  -- a gate that is found taken leaves its base in the world with this actor alone
  try_leaves : (w : World V) (a k : ℕ) → Tries w a k → is_committing (actor_of w a).place ≡ false
      → OneBase k w (happens (found_at a w (Gate k) 1 None) (Step a)).0
  try_leaves w a k tries calm =
      let v = found_at a w (Gate k) 1 None in
      let al : Alike a w v = found_alike a w w (Gate k) 1 None (alike_same a w) in
      let gated = try_turned a v k (sym (action_same a w v al) ∙ tries) calm in
      base_trans k w v (happens v (Step a)).0 (sym al.words) (sym al.blocks) (none_base a w k 1 k)
      (λ l p at. (sym (gated.parts l), sym (gated.editions l)))

  -- what a step on the gate of k makes of the seat and its actor
  module _ (t : TxTable V) (s u : table.Seat V) (r q : TxActor V) (n : ActorNotice V) (k found : ℕ) (base : Option (Base V))
      (bases : List (ℕ × Slot V)) (ties : Ties t s r) (takes : Takes (opening_of t) s (view s).clock found base bases u)
      (at : spot (seated.actor s) (acts (opening_of t) s) ≡ Gate k) (off : IsOnWord (next_of (stage_of r.stage)) → ⊥) where
    abbrev me : ℕ
    me = seated.actor s

    abbrev w : World V
    w = acts (opening_of t) s

    abbrev there : World V
    there = run (opening_of t) takes.happened.events

    pub gate_found : gate_word (there.boosted.gates k) ≡ found
    gate_found = sym (ap (number_at there) at) ∙ takes.happened.finds

    pub gate_tied : IsRunning (laid_in t) q → Runs me q (happens there (Step me)).0 × (notice_of me n ≡ (happens there (Step me)).1)
        → Ties t u q × Turned (opening_of t) s r u n
    gate_tied running goes =
        tied t s u r q n (view s).clock found base bases ties takes (omega arith) (λ e. absurd (word_gate _ ClockCell k e at))
        (λ on. absurd (off on)) running (turn_runs t s u r (view s).clock found base bases ties takes q n goes)

    pub gate_turned : notice_of me n ≡ (happens there (Step me)).1 → Turned (opening_of t) s r u n
    gate_turned tells =
        turned_by t s u r n (view s).clock found base bases ties takes (omega arith) (λ e. absurd (word_gate _ ClockCell k e at))
        (λ on. absurd (off on)) (tells ∙ takes.happened.same.1)

    pub gate_kept : StepsKeep V → OthersLaw V → (bs : List (Base V)) → HasOwn t s r bs → Ties t u q → KeepsCopies r q
        → is_loading (stage_of r.stage) ≡ false → ((asked : CollectionCall V) → stage_of r.stage ≡ Copying asked → ⊥)
        → HasCopies q (happens there (Step me)).0 me
    gate_kept keep law bs own tie keeps quiet calm =
        let h = takes.happened in
        keep (start t s r ties) there me r q quiet calm keeps (there_reached t s r ties h.events h.alike)
        (there_runs t s r ties h.events h.alike) (turn_after t s u r (view s).clock found base bases ties takes q tie)
        (there_copies t s r ties h.events h.alike law own.copies)

  off_try : (r : TxActor V) (k : ℕ) → next_of (stage_of r.stage) ≡ next.TryGate k → IsOnWord (next_of (stage_of r.stage)) → ⊥
  off_try r k due on = subst IsOnWord due on

  whole_try : (s : own.Stage V) (k : ℕ) → next_of (stage_of s) ≡ next.TryGate k → (ks : List ℕ) → IsWholeOf s ks → ⊥
  whole_try s k due =
      not_whole s (next.TryGate k) due (λ e. let z : ⊥ = cc in z) (λ e. let z : ⊥ = cc in z) (λ e. let z : ⊥ = cc in z)
      (λ j e. let z : ⊥ = cc in z)

  -- the gate was taken
  pub try_lost : AreSteps V → StepsKeep V → OthersLaw V → (t : TxTable V) (s u : table.Seat V) (r q : TxActor V) (n : ActorNotice V) (k : ℕ)
      (bs : List (Base V)) → next_of (stage_of r.stage) ≡ next.TryGate k → Ties t s r → HasOwn t s r bs
      → Takes (opening_of t) s (view s).clock 1 None (out s) u → Does r q n (λ a w. after_try w a (seat_of r) (stage_of r.stage) false)
      → IsRunning (laid_in t) q → KeepsCopies r q → Ties t u q × Turned (opening_of t) s r u n × HasOwn t u q bs
  try_lost steps keep law t s u r q n k bs due ties own takes does running keeps =
      let a = seated.actor s in
      let o = opening_of t in
      let w = acts o s in
      let h = takes.happened in
      let there = run o h.events in
      let tries = try_due steps t s r k due ties in
      let at = tries_spot a w k tries in
      let off = off_try r k due in
      let quiet = quiet_try (stage_of r.stage) k due in
      let none : is_none (there.boosted.gates k) ≡ false =
      taken_gate (there.boosted.gates k) (gate_found t s u r q n k 1 None (out s) ties takes at off) in
      let turn = gate_tied t s u r q n k 1 None (out s) ties takes at off running
      (try_runs steps there a k r q false n due (sym none) does (there_runs t s r ties h.events h.alike)) in
      let gates : gates_at q.stage ≡ gates_at r.stage =
      sym (turn_gates t s u r (view s).clock 1 None (out s) ties takes q turn.0)
      ∙ (step_try_gates steps there a k (there_next t s r ties h.events h.alike ∙ due)
      ∙ (ap (λ (b : Bool). if b then gates_in there a ++ k ∷ [] else gates_in there a) none ∙ there_gates t s r ties h.events h.alike)) in
      let x = (moved a w 1 None).0 in
      let leaves : OneBase k w x =
      subst (λ (p : Spot). OneBase k w (happens (found_at a w p 1 None) (Step a)).0) (sym at)
      (try_leaves w a k tries (try_calm t s r k ties tries)) in
      let stays : (j : ℕ) → OneBase j w x = λ j. elim (cases_eq j k) [
        | inl e ↦ subst (λ (i : ℕ). OneBase i w x) (sym e) leaves
        | inr ne ↦ base_stays a w 1 None j (λ e. ne (sym (same_gate j k (sym at ∙ e))))
      ] in (
        turn.0,
        turn.1,
        own_after t s u r (view s).clock 1 None (out s) ties takes q bs law
            (gate_kept t s u r q n k 1 None (out s) ties takes at off keep law bs own turn.0 keeps quiet
            (no_copy r.stage (next.TryGate k) due (λ j e. let z : ⊥ = cc in z)))
            (takes.held ∙ (own.out ∙ ap slots_of (sym gates)))
            (subst (λ (ks : List ℕ). AreBases o x ks bs) (sym gates)
            (are_stay o w x (gates_at r.stage) bs ties.reached.shape.0 ties.reached.shape.1 (λ j _. stays j) own.bases))
            (prepared_no q.copies.items bs q.stage r.stage r.copies.items q.copies.items keeps (whole_try r.stage k due)),
      )

  -- the gate was free
  pub try_won : AreSteps V → StepsKeep V → OthersLaw V → (t : TxTable V) (s u : table.Seat V) (r q : TxActor V) (n : ActorNotice V) (k : ℕ)
      (bs : List (Base V)) (b : Base V) → next_of (stage_of r.stage) ≡ next.TryGate k → Ties t s r → HasOwn t s r bs
      → IsBaseAt (blocks_in t) k b → Takes (opening_of t) s (view s).clock 0 (Some b) (out s ++ (k, None) ∷ []) u
      → Does r q n (λ a w. after_try w a (seat_of r) (stage_of r.stage) true) → IsRunning (laid_in t) q → KeepsCopies r q
      → Ties t u q × Turned (opening_of t) s r u n × HasOwn t u q (bs ++ b ∷ [])
  try_won steps keep law t s u r q n k bs b due ties own sort takes does running keeps =
      let a = seated.actor s in
      let o = opening_of t in
      let w = acts o s in
      let h = takes.happened in
      let there = run o h.events in
      let outs : List (ℕ × Slot V) = out s ++ (k, None) ∷ [] in
      let tries = try_due steps t s r k due ties in
      let at = tries_spot a w k tries in
      let off = off_try r k due in
      let quiet = quiet_try (stage_of r.stage) k due in
      let free : there.boosted.gates k ≡ None =
      free_gate (there.boosted.gates k) (gate_found t s u r q n k 0 (Some b) outs ties takes at off) in
      let none : is_none (there.boosted.gates k) ≡ true = ap is_none free in
      let turn = gate_tied t s u r q n k 0 (Some b) outs ties takes at off running
      (try_runs steps there a k r q true n due (sym none) does (there_runs t s r ties h.events h.alike)) in
      let gates : gates_at q.stage ≡ gates_at r.stage ++ k ∷ [] =
      sym (turn_gates t s u r (view s).clock 0 (Some b) outs ties takes q turn.0)
      ∙ (step_try_gates steps there a k (there_next t s r ties h.events h.alike ∙ due)
      ∙ (ap (λ (b : Bool). if b then gates_in there a ++ k ∷ [] else gates_in there a) none
      ∙ ap (λ (ks : List ℕ). ks ++ k ∷ []) (there_gates t s r ties h.events h.alike))) in
      let x = (moved a w 0 (Some b)).0 in
      let apart : has (gates_at r.stage) k ≡ false = sym (there_held t s r ties h.events h.alike k) ∙ ap (is_actor a) free in
      let stays : (j : ℕ) → has (gates_at r.stage) j ≡ true → OneBase j w x = λ j held.
      base_stays a w 0 (Some b) j
      (λ e. true≢false (sym (ap (λ (i : ℕ). has (gates_at r.stage) i) (same_gate j k (sym at ∙ e)) ∙ held) ∙ apart)) in
      let shows : ShowsBase o.words o.blocks x k b =
      subst (λ (p : Spot). ShowsBase o.words o.blocks (happens (found_at a w p 0 (Some b)) (Step a)).0 k b) (sym at)
      (taken_shows o w a k b ties.reached.shape.0 ties.reached.shape.1 tries (try_calm t s r k ties tries)) in (
        turn.0,
        turn.1,
        own_after t s u r (view s).clock 0 (Some b) outs ties takes q (bs ++ b ∷ []) law
            (gate_kept t s u r q n k 0 (Some b) outs ties takes at off keep law bs own turn.0 keeps quiet
            (no_copy r.stage (next.TryGate k) due (λ j e. let z : ⊥ = cc in z)))
            (takes.held ∙ (ap (λ (l : List (ℕ × Slot V)). l ++ (k, None) ∷ []) own.out ∙ (sym (slots_more (gates_at r.stage) k)
            ∙ ap slots_of (sym gates))))
            (subst (λ (ks : List ℕ). AreBases o x ks (bs ++ b ∷ [])) (sym gates)
            (are_more o x (gates_at r.stage) bs k b
            (are_stay o w x (gates_at r.stage) bs ties.reached.shape.0 ties.reached.shape.1 stays own.bases) (sort, shows)))
            (prepared_no q.copies.items (bs ++ b ∷ []) q.stage r.stage r.copies.items q.copies.items keeps (whole_try r.stage k due)),
      )

  -- ---- a gate that is put back, its base as it was
  pub put_due : AreSteps V → (t : TxTable V) (s : table.Seat V) (r : TxActor V) (k : ℕ) → next_of (stage_of r.stage) ≡ next.PutGate k
      → Ties t s r → Puts (acts (opening_of t) s) (seated.actor s) k
  put_due steps t s r k due ties =
      let a = seated.actor s in
      let w = acts (opening_of t) s in
      let next_is = next_as w a r ties.runs ∙ due in (
        (λ l. false),
        same_action w a (w.seats a).stage (λ q. let e : next.FirstStore ≡ next.PutGate k = sym q ∙ next_is in let z : ⊥ = cc in z)
            ∙ due_put a k _ (due_as steps w a (w.seats a).stage (next.PutGate k) next_is),
      )

  pub copy_due : AreSteps V → (t : TxTable V) (s : table.Seat V) (r : TxActor V) (k : ℕ) → next_of (stage_of r.stage) ≡ next.Copy k
      → Ties t s r → Puts (acts (opening_of t) s) (seated.actor s) k
  copy_due steps t s r k due ties =
      let a = seated.actor s in
      let w = acts (opening_of t) s in
      let next_is = next_as w a r ties.runs ∙ due in
      let action = due_copy a k _ (due_as steps w a (w.seats a).stage (next.Copy k) next_is) in (
        action.0,
        same_action w a (w.seats a).stage (λ q. let e : next.FirstStore ≡ next.Copy k = sym q ∙ next_is in let z : ⊥ = cc in z)
            ∙ action.1,
      )

  -- it may be put back with its base, which is the first in hand
  pub may_put : (t : TxTable V) (s : table.Seat V) (r : TxActor V) (k : ℕ) (b : Base V) → Ties t s r
      → Puts (acts (opening_of t) s) (seated.actor s) k → IsBaseIn (opening_of t) (acts (opening_of t) s) k b
      → IsHome (opening_of t) (seated.actor s) (acts (opening_of t) s) k b
  may_put t s r k b ties puts is =
      let key = t.whole.shared.key in
      let a = seated.actor s in
      let o = opening_of t in
      let w = acts o s in
      let h = ties.reached in
      let guard = put_allowed (blocks_in t) key.shape.value.clock key.state.value.words key.state.value.held h.events a k w
      h.stripes h.alike
      puts in
      inl (puts, is.0, put_shows o w a k b h.shape.0 h.shape.1 puts guard.0 guard.1 is.1)

  -- what the seat has out, where this gate was the first of those that it took
  pub first_out : (s : table.Seat V) (r : TxActor V) (k : ℕ) (ks : List ℕ) → out s ≡ slots_of (gates_at r.stage) → gates_at r.stage ≡ k ∷ ks
      → (out s ≡ (k, None) ∷ rest (out s)) × (rest (out s) ≡ slots_of ks)
  first_out s r k ks outs gates =
      let e : out s ≡ (k, None) ∷ slots_of ks = outs ∙ ap slots_of gates in
      let others : rest (out s) ≡ slots_of ks = ap (λ (l : List (ℕ × Slot V)). rest l) e in
      (e ∙ ap (λ (l : List (ℕ × Slot V)). (k, None) ∷ l) (sym others), others)

  off_put : (r : TxActor V) (k : ℕ) → next_of (stage_of r.stage) ≡ next.PutGate k → IsOnWord (next_of (stage_of r.stage)) → ⊥
  off_put r k due on = subst IsOnWord due on

  -- the bases that are left after the step
  pub left_bases : (t : TxTable V) (s : table.Seat V) (r : TxActor V) (k found : ℕ) (base : Option (Base V)) (ks : List ℕ)
      (cs : List (Base V)) → Ties t s r → gates_at r.stage ≡ k ∷ ks → spot (seated.actor s) (acts (opening_of t) s) ≡ Gate k
      → AreBases (opening_of t) (acts (opening_of t) s) ks cs
      → AreBases (opening_of t) (moved (seated.actor s) (acts (opening_of t) s) found base).0 ks cs
  left_bases t s r k found base ks cs ties gates at are =
      let a = seated.actor s in
      let o = opening_of t in
      let w = acts o s in
      let h = ties.reached in
      let apart : has ks k ≡ false = (subst Differ gates (there_differ t s r ties h.events h.alike)).0 in
      are_stay o w (moved a w found base).0 ks cs h.shape.0 h.shape.1
      (λ j held. base_stays a w found base j
      (λ e. true≢false (sym (ap (has ks) (same_gate j k (sym at ∙ e)) ∙ held) ∙ apart))) are

  pub put_first : (s : own.Stage V) (k : ℕ) (w : World V) (a : ℕ) → next_of (stage_of s) ≡ next.PutGate k
      → (ks : List ℕ) × (gates_at s ≡ k ∷ ks)
  put_first s k w a due = (gates_in (after_put w a (w.seats a) (stage_of s)).0 a, gates_is s ∙ put_gates w a (w.seats a) (stage_of s) k due)

  -- the base in hand is the first
  pub held_base : (t : TxTable V) (s : table.Seat V) (r : TxActor V) (k : ℕ) (ks : List ℕ) (bs cs : List (Base V)) (b : Base V)
      → gates_at r.stage ≡ k ∷ ks → HasOwn t s r bs → bs ≡ b ∷ cs → AreBases (opening_of t) (acts (opening_of t) s) (k ∷ ks) (b ∷ cs)
  held_base t s r k ks bs cs b gates own hand =
      subst (λ (z : List ℕ × List (Base V)). AreBases (opening_of t) (acts (opening_of t) s) z.0 z.1) (λ i. (gates i, hand i)) own.bases

  pub some_held : (t : TxTable V) (s : table.Seat V) (r : TxActor V) (k : ℕ) (ks : List ℕ) (bs : List (Base V)) → gates_at r.stage ≡ k ∷ ks
      → HasOwn t s r bs → 0 < length bs
  some_held t s r k ks bs gates own =
      let o = opening_of t in
      let w = acts o s in
      let f = first_base o w k ks bs (subst (λ (js : List ℕ). AreBases o w js bs) gates own.bases) in
      subst (λ (cs : List (Base V)). 0 < length cs) (sym f.2) (omega arith)

  -- what stands in front, by whatever it is looked up with
  pub first_here : (bs : List (Base V)) (b : Base V) → 0 < length bs → b ≡ slice_index_or bs 0 b → (cs : List (Base V)) × (bs ≡ b ∷ cs)
  first_here [] b low e = let z : ⊥ = omega (arith, low) in absurd z
  first_here (d ∷ ds) b low e = (ds, ap (λ (x : Base V). x ∷ ds) (sym e))

  pub front_same : (bs : List (Base V)) (b d : Base V) (cs ds : List (Base V)) → bs ≡ b ∷ cs → bs ≡ d ∷ ds → b ≡ d
  front_same bs b d cs ds e f = (let z : b ∷ cs ≡ d ∷ ds = sym e ∙ f in cc)

  pub put_tied : AreSteps V → StepsKeep V → OthersLaw V → (t : TxTable V) (s u : table.Seat V) (r q : TxActor V) (n : ActorNotice V) (k : ℕ)
      (bs cs : List (Base V)) (b : Base V) → next_of (stage_of r.stage) ≡ next.PutGate k → Ties t s r → HasOwn t s r bs → bs ≡ b ∷ cs
      → Takes (opening_of t) s (view s).clock 1 None (rest (out s)) u → Does r q n (λ a w. after_put w a (seat_of r) (stage_of r.stage))
      → IsRunning (laid_in t) q → KeepsCopies r q → Ties t u q × Turned (opening_of t) s r u n × HasOwn t u q cs
  put_tied steps keep law t s u r q n k bs cs b due ties own hand takes does running keeps =
      let a = seated.actor s in
      let o = opening_of t in
      let w = acts o s in
      let h = takes.happened in
      let there = run o h.events in
      let outs = rest (out s) in
      let puts = put_due steps t s r k due ties in
      let at = puts_spot a w k puts in
      let off = off_put r k due in
      let turn = gate_tied t s u r q n k 1 None outs ties takes at off running
      (put_runs steps there a k r q n due does (there_runs t s r ties h.events h.alike)) in
      let gates : gates_at r.stage ≡ k ∷ gates_at q.stage =
      sym (there_gates t s r ties h.events h.alike)
      ∙ (step_put_gates steps there a k (there_next t s r ties h.events h.alike ∙ due)
      ∙ ap (λ (ks : List ℕ). k ∷ ks) (turn_gates t s u r (view s).clock 1 None outs ties takes q turn.0)) in
      let are = subst (λ (z : List ℕ × List (Base V)). AreBases o w z.0 z.1) (λ i. (gates i, hand i)) own.bases in (
        turn.0,
        turn.1,
        own_after t s u r (view s).clock 1 None outs ties takes q cs law
            (gate_kept t s u r q n k 1 None outs ties takes at off keep law bs own turn.0 keeps (quiet_put (stage_of r.stage) k due)
            (no_copy r.stage (next.PutGate k) due (λ j e. let z : ⊥ = cc in z)))
            (takes.held ∙ (first_out s r k (gates_at q.stage) own.out gates).1)
            (left_bases t s r k 1 None (gates_at q.stage) cs ties gates at are.1)
            (prepared_no q.copies.items cs q.stage r.stage r.copies.items q.copies.items keeps
            (not_whole r.stage (next.PutGate k) due (λ e. let z : ⊥ = cc in z) (λ e. let z : ⊥ = cc in z) (λ e. let z : ⊥ = cc in z)
            (λ j e. let z : ⊥ = cc in z))),
      )
