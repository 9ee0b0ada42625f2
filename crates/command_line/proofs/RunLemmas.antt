-- The result of a run of workers.
-- Actions that are allowed are so in whatever lists they are dealt out to. The lines of dealt actions, list by list, are their lines in
-- their order, as lines were gathered from the lists in turn. The one fault is a failed allocation: the receipts that are audited are a run
-- (`IsServed`), and the tables are balanced.
use Rattle.std.proofs.Common.{◌≡◌, ◌∙◌, refl, sym, ap, subst, ℕ, zero, suc, ◌+◌, ◌-◌, ◌<◌, List, [], ◌∷◌, ◌++◌, length, get_or, arith, inl}
use Rattle.std.proofs.Common.{inr, ◌⊎◌}
use Rattle.std.specs.Prelude.{All, Ok, Err}
use Rattle.std.proofs.lemmas.List.{length-append, get_or_append_left}
use Rattle.std.proofs.Math.Seq.{get_or-append_seam}
use Rattle.std.proofs.lemmas.List.Elements.{All-cons, All-head, All-nil, All-tail}
use Rattle.workers.specs.Deals.{AreDealt, every}
use Rattle.seq_model.proofs.LawLemmas.{runs_have_no_fault}
use Rattle.seq_model.specs.Audit.{IsAuditFault}
use Rattle.seq_model.specs.Contents.{Contents}
use Rattle.text_formats.specs.Openings.{opening_of}
use Rattle.text_formats.specs.DrawnActions.{sessions_of}
use Rattle.vac_model.specs.declared.action.Action.{Action}
use Rattle.vac_model.specs.Actions.{IsAllowed}
use Rattle.vac_model.specs.Holdings.{Holdings}
use Rattle.client_sessions.specs.declared.entry.Entry.{Entry}
use Rattle.client_sessions.specs.Holding.{state_of}
use Rattle.tx_engine.specs.Tasks.{Outcome}
use Rattle.workers.specs.declared.served.Served.{Served}
use Rattle.workers.specs.Serving.{AreAllOutcomes, AreAllowed, AreOwnOutcomes, IsServed}
use Rattle.text_formats.specs.declared.session_print.Line.{Line}
use Rattle.text_formats.specs.Sessions.{IsUnreadable}
use Rattle.session_text.specs.declared.fault.RunFault.{RunFault}
use Rattle.session_text.specs.declared.fault.RunFault.TheVariants.{Audit, NotBalanced, Refused}
use Rattle.session_text.specs.Faults.{IsFault}
use Rattle.session_text.specs.Findings.{IsFinding, IsSound}
use Rattle.command_line.specs.declared.drawn.Drawn.{Drawn}
use Rattle.command_line.specs.declared.file.TheConstants.{TRIES}
use Rattle.command_line.specs.Drawn.{AreDrawn, IsDrawnRun}
use Rattle.command_line.specs.Lines.{AreLinesOf, AreToldOf}
use Rattle.session_text.specs.declared.printing.SessionRun.{SessionRun}
use Rattle.session_text.specs.declared.printing.TheConstants.{STRIPES}
use Rattle.command_line.specs.Runs.{IsInspected, IsServedRun, IsWantOfMemory, receipts_of}
use Rattle.command_line.specs.Unread.{AreAllOwn, AreAllUnread, AreOwn, IsTold, IsToldRun}
use Rattle.command_line.proofs.LineLemmas.{lines_at}

-- ---- lists of allowed actions
abbrev pub Allowed : List Action → Type 0
Allowed actions = All IsAllowed actions

every_allowed : (n k : ℕ) (actions : List Action) → Allowed actions → Allowed (every n k actions)
every_allowed n k [] allowed = All-nil IsAllowed
every_allowed n zero (a ∷ actions) allowed =
    All-cons IsAllowed a (every n (n - 1) actions) (All-head IsAllowed a actions allowed)
    (every_allowed n (n - 1) actions (All-tail IsAllowed a actions allowed))
every_allowed n (suc k) (a ∷ actions) allowed = every_allowed n k actions (All-tail IsAllowed a actions allowed)

each_allowed : (lists : List (List Action)) → ((k : ℕ) → k < length lists → Allowed (get_or lists k [])) → All Allowed lists
each_allowed [] each = All-nil Allowed
each_allowed (actions ∷ lists) each =
    All-cons Allowed actions lists (each 0 (omega arith)) (each_allowed lists (λ k lt. each (suc k) (omega (arith, lt))))

pub dealt_allowed : (n : ℕ) (actions : List Action) (lists : List (List Action)) → Allowed actions → AreDealt n actions lists
    → AreAllowed lists
dealt_allowed n actions lists allowed dealt =
    each_allowed lists (λ k lt. let within : k < n = subst (λ m. k < m) dealt.many lt in
    subst Allowed (sym (dealt.each k within)) (every_allowed n k actions allowed))

-- ---- the same items are dealt out to the same lists
same_lists : {A : Type 0} (xs ys : List (List A)) → length xs ≡ length ys
    → ((k : ℕ) → k < length xs → get_or xs k [] ≡ get_or ys k []) → xs ≡ ys
same_lists [] [] many each = refl
same_lists [] (y ∷ ys) many each = absurd (omega (arith, many))
same_lists (x ∷ xs) [] many each = absurd (omega (arith, many))
same_lists {A} (x ∷ xs) (y ∷ ys) many each =
    let head : x ≡ y = each 0 (omega arith) in
    let tail : xs ≡ ys = same_lists xs ys (omega (arith, many)) (λ k lt. each (suc k) (omega (arith, lt))) in
    ap (λ (z : List A). z ∷ xs) head ∙ ap (λ (zs : List (List A)). y ∷ zs) tail

pub dealt_same : {A : Type 0} (n : ℕ) (items others : List A) (own seen lists : List (List A)) → seen ≡ own → others ≡ items
    → AreDealt n others own → AreDealt n items lists → seen ≡ lists
dealt_same {A} n items others own seen lists shown same one two =
    let first = subst (λ (xs : List A). AreDealt n xs own) same one in
    shown ∙ same_lists own lists (first.many ∙ sym two.many)
    (λ k lt. let within : k < n = subst (λ m. k < m) first.many lt in first.each k within ∙ sym (two.each k within))

-- ---- why it was refused
-- what an inspection finds in sessions that were served: their receipts are a run, and the tables are balanced
pub only_memory : (tables : Holdings) (lists : List (List Action)) (tries : ℕ) (served : Served) (opening : Contents Entry)
    (fault : RunFault) → IsServed tables STRIPES lists tries served → opening ≡ state_of tables
    → IsFinding opening (receipts_of served) served.state served.tables fault → IsWantOfMemory fault
only_memory tables lists tries served opening (Refused refusal) made opens found = found
only_memory tables lists tries served opening Audit made opens found =
    absurd (found.1.0 (runs_have_no_fault (state_of tables) served.state (receipts_of served) found.0 made.audited
    (subst (λ (o : Contents Entry). IsAuditFault o (receipts_of served) served.state found.0) opens found.1.1)))
only_memory tables lists tries served opening NotBalanced made opens found = absurd (found made.balanced)

pub file_fault : (text : List ℕ) (fault : RunFault) → IsWantOfMemory fault → IsFault text fault
file_fault text (Refused refusal) found = subst (IsUnreadable text) (sym found) tt
file_fault text Audit found = absurd found
file_fault text NotBalanced found = absurd found

-- ---- what was inspected
abbrev inspects : (tables : Holdings) (lists : List (List Action)) (tries : ℕ) (served : Served) (opening : Contents Entry)
    → IsServed tables STRIPES lists tries served → opening ≡ state_of tables
    → IsSound opening (receipts_of served) served.state served.tables
    → IsInspected tables lists tries served
inspects tables lists tries served opening made opens sound = record {
  made = made;
  sound = subst (λ (o : Contents Entry). IsSound o (receipts_of served) served.state served.tables) opens sound;
}

pub drawn_run : (d : Drawn) (tables : Holdings) (lists : List (List Action)) (served : Served) (opening : Contents Entry) (missed : ℕ)
    → tables ≡ opening_of d.seed d.options → AreDrawn d lists → IsServed tables STRIPES lists d.tries served → opening ≡ state_of tables
    → IsSound opening (receipts_of served) served.state served.tables → missed ≡ length served.report.missed → IsDrawnRun d missed
drawn_run d tables lists served opening missed same drawn made opens sound counted = record {
  lists = lists;
  drawn = drawn;
  served = served;
  inspected = subst (λ (t : Holdings). IsInspected t lists d.tries served) same
      (inspects tables lists d.tries served opening made opens sound);
  missed_are = counted;
}

-- ---- the outcomes that have lines
own_list : (actions : List Action) (os : List (Outcome Entry)) → AreOwnOutcomes actions os → AreOwn actions os
own_list [] [] are = tt
own_list [] (o ∷ os) are = absurd are
own_list (a ∷ actions) [] are = absurd are
own_list (a ∷ actions) (Ok r ∷ os) are = (sym are.0.done, own_list actions os are.1)
own_list (a ∷ actions) (Err cause ∷ os) are = (tt, own_list actions os are.1)

own_lists : (lists : List (List Action)) (outcomes : List (List (Outcome Entry))) → AreAllOutcomes lists outcomes → AreAllOwn lists outcomes
own_lists [] [] are = tt
own_lists [] (os ∷ more) are = absurd are
own_lists (actions ∷ lists) [] are = absurd are
own_lists (actions ∷ lists) (os ∷ more) are = (own_list actions os are.0, own_lists lists more are.1)

pub all_unread : (tables : Holdings) (lists seen : List (List Action)) (served : Served) → seen ≡ lists
    → (made : IsServed tables STRIPES lists TRIES served) → AreAllUnread 1 seen made.outcomes served.report.receipts served.report.missed
all_unread tables lists seen served same made =
    subst (λ ls. AreAllUnread 1 ls made.outcomes served.report.receipts served.report.missed) (sym same) (record {
      own = own_lists lists made.outcomes made.reported.each;
      receipts_are = made.reported.receipts;
      missed_are = made.reported.missed;
    })

told_of : (n : ℕ) (actions : List Action) (lists : List (List Action)) (outcomes : List (List (Outcome Entry))) (lines : List Line)
    → AreDealt n actions lists → IsTold lists outcomes (length actions) lines → AreToldOf n actions outcomes lines
told_of n actions lists outcomes lines dealt told =
    let gathered = subst (λ m. AreDealt m lines told.queues) dealt.many told.gathered in
    record {
      many = told.many;
      each = λ k lt.
          subst (λ xs. AreLinesOf xs (get_or outcomes k []) (every n k lines)) (dealt.each k lt)
          (subst (AreLinesOf (get_or lists k []) (get_or outcomes k [])) (gathered.each k lt)
          (lines_at lists outcomes told.queues told.each k));
    }

pub told_run : (tables : Holdings) (lists seen : List (List Action)) (served : Served) (opening : Contents Entry) (total : ℕ)
    (run : SessionRun) → seen ≡ lists → (made : IsServed tables STRIPES lists TRIES served) → opening ≡ state_of tables
    → IsSound opening (receipts_of served) served.state served.tables → IsTold seen made.outcomes total run.lines.items
    → run.tables ≡ served.tables → IsToldRun tables lists total run
told_run tables lists seen served opening total run same made opens sound told left = record {
  served = served;
  inspected = inspects tables lists TRIES served opening made opens sound;
  told = subst (λ (ls : List (List Action)). IsTold ls made.outcomes total run.lines.items) same told;
  left = left;
}

pub dealt_run : (n : ℕ) (tables : Holdings) (actions : List Action) (lists : List (List Action)) (total : ℕ) (run : SessionRun)
    → AreDealt n actions lists → total ≡ length actions → IsToldRun tables lists total run → IsServedRun n tables actions run
dealt_run n tables actions lists total run dealt counted told = record {
  lists = lists;
  dealt = dealt;
  served = told.served;
  inspected = told.inspected;
  told = told_of n actions lists told.inspected.made.outcomes run.lines.items dealt
      (subst (λ m. IsTold lists told.inspected.made.outcomes m run.lines.items) counted told.told);
  left = told.left;
}

-- ---- drawn lists
pub record AreDrawnTo (n : ℕ) (d : Drawn) (lists : List (List Action)) : Type 0 where
  pub many : length lists ≡ n
  pub each : (k : ℕ) → k < n → get_or lists k [] ≡ sessions_of d.seed (k + 1) d.options

pub none_drawn : (d : Drawn) → AreDrawnTo 0 d []
none_drawn d = record { many = refl; each = λ k lt. absurd (omega (arith, lt)) }

pub drawn_more : (n : ℕ) (d : Drawn) (lists : List (List Action)) (actions : List Action) → AreDrawnTo n d lists
    → actions ≡ sessions_of d.seed (n + 1) d.options → AreDrawnTo (n + 1) d (lists ++ actions ∷ [])
drawn_more n d lists actions are is = record {
  many = length-append lists (actions ∷ []) ∙ ap (λ m. m + 1) are.many;
  each = λ k lt. at k (before_or_last k n lt);
}
  where
    before_or_last : (k m : ℕ) → k < m + 1 → (k < m) ⊎ (m ≡ k)
    before_or_last zero zero lt = inr refl
    before_or_last zero (suc m) lt = inl (omega arith)
    before_or_last (suc k) zero lt = absurd (omega (arith, lt))
    before_or_last (suc k) (suc m) lt = again (before_or_last k m (omega (arith, lt)))
      where
        again : (k < m) ⊎ (m ≡ k) → (suc k < suc m) ⊎ (suc m ≡ suc k)
        again (inl less) = inl (omega (arith, less))
        again (inr same) = inr (ap suc same)

    at : (k : ℕ) → (k < n) ⊎ (n ≡ k) → get_or (lists ++ actions ∷ []) k [] ≡ sessions_of d.seed (k + 1) d.options
    at k (inl less) = get_or_append_left lists (actions ∷ []) [] k (subst (λ m. k < m) (sym are.many) less) ∙ are.each k less
    at k (inr same) =
        subst (λ j. get_or (lists ++ actions ∷ []) j [] ≡ sessions_of d.seed (j + 1) d.options) same
        (subst (λ j. get_or (lists ++ actions ∷ []) j [] ≡ sessions_of d.seed (n + 1) d.options) are.many
        (get_or-append_seam lists actions [] [] ∙ is))
