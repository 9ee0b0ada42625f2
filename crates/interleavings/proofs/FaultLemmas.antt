-- Why a text has no exploration: what refuses the script of an outcome refuses the explored one, as both open the same world; and what
-- refuses the script that a text spells refuses the text.
use Rattle.std.proofs.Common.{◌≡◌, ℕ, List, inl, inr, subst}
use Rattle.seq_model.specs.declared.refusal.Refusal.{Refusal}
use Rattle.seq_model.specs.declared.refusal.Refusal.TheVariants.{Ahead, BadText, Busy, Exhausted, GateBusy, Invalid, Moved, NoSuch}
use Rattle.seq_model.specs.declared.refusal.Refusal.TheVariants.{NoTransaction, NotIdle, Memory as OutOfMemory, Stale, TooLong}
use Rattle.text_formats.specs.declared.script.EventLine.{EventLine}
use Rattle.text_formats.specs.declared.script.Script.{Script}
use Rattle.text_formats.specs.Scripts.{IsScriptText, IsUnreadable}
use Rattle.session_text.specs.declared.fault.RunFault.{RunFault}
use Rattle.session_text.specs.declared.fault.RunFault.TheVariants.{Audit, NotBalanced, Refused}
use Rattle.session_text.specs.Scripts.{IsRefusedScript}
use Rattle.interleavings.specs.Explorations.{HasHeaderOf}
use Rattle.interleavings.specs.Faults.{IsScriptFault, IsTextFault, IsUnexplored}

pub unread : (text : List ℕ) (r : Refusal) → IsUnreadable text r → IsTextFault text (Refused r)
unread text (BadText n) h = inl h
unread text OutOfMemory h = tt
unread text (Moved l w) h = absurd h
unread text (Busy l w) h = absurd h
unread text (Stale l b w) h = absurd h
unread text (GateBusy c) h = absurd h
unread text (Invalid l w) h = absurd h
unread text (Exhausted n) h = absurd h
unread text NoSuch h = absurd h
unread text TooLong h = absurd h
unread text (Ahead n) h = absurd h
unread text NotIdle h = absurd h
unread text NoTransaction h = absurd h

pub unexplored : (text : List ℕ) (script : Script) (f : RunFault) → IsScriptText text script → IsScriptFault script f → IsTextFault text f
unexplored text script (Refused (BadText n)) spelled h = inr (script, spelled)
unexplored text script (Refused OutOfMemory) spelled h = tt
unexplored text script (Refused (Moved l w)) spelled (inl h) = absurd h
unexplored text script (Refused (Moved l w)) spelled (inr h) = (script, (spelled, h))
unexplored text script (Refused (Busy l w)) spelled (inl h) = absurd h
unexplored text script (Refused (Busy l w)) spelled (inr h) = (script, (spelled, h))
unexplored text script (Refused (Stale l b w)) spelled (inl h) = absurd h
unexplored text script (Refused (Stale l b w)) spelled (inr h) = (script, (spelled, h))
unexplored text script (Refused (GateBusy c)) spelled (inl h) = absurd h
unexplored text script (Refused (GateBusy c)) spelled (inr h) = (script, (spelled, h))
unexplored text script (Refused (Invalid l w)) spelled (inl h) = absurd h
unexplored text script (Refused (Invalid l w)) spelled (inr h) = (script, (spelled, h))
unexplored text script (Refused (Exhausted n)) spelled (inl h) = absurd h
unexplored text script (Refused (Exhausted n)) spelled (inr h) = (script, (spelled, h))
unexplored text script (Refused NoSuch) spelled (inl h) = absurd h
unexplored text script (Refused NoSuch) spelled (inr h) = (script, (spelled, h))
unexplored text script (Refused TooLong) spelled (inl h) = absurd h
unexplored text script (Refused TooLong) spelled (inr h) = (script, (spelled, h))
unexplored text script (Refused (Ahead n)) spelled (inl h) = absurd h
unexplored text script (Refused (Ahead n)) spelled (inr h) = (script, (spelled, h))
unexplored text script (Refused NotIdle) spelled (inl h) = absurd h
unexplored text script (Refused NotIdle) spelled (inr h) = (script, (spelled, h))
unexplored text script (Refused NoTransaction) spelled (inl h) = absurd h
unexplored text script (Refused NoTransaction) spelled (inr h) = (script, (spelled, h))
unexplored text script Audit spelled h = absurd h
unexplored text script NotBalanced spelled h = absurd h

-- the lines don't matter
other_lines : (script : Script) (lines : List EventLine) (r : Refusal) → IsRefusedScript (record script { lines = lines }) r
    → IsRefusedScript script r
other_lines script lines (BadText n) h = h
other_lines script lines OutOfMemory h = h
other_lines script lines (Moved l w) h = h
other_lines script lines (Busy l w) h = h
other_lines script lines (Stale l b w) h = h
other_lines script lines (GateBusy c) h = h
other_lines script lines (Invalid l w) h = h
other_lines script lines (Exhausted n) h = h
other_lines script lines NoSuch h = h
other_lines script lines TooLong h = h
other_lines script lines (Ahead n) h = h
other_lines script lines NotIdle h = h
other_lines script lines NoTransaction h = h

pub same_refusal : (script other : Script) (r : Refusal) → HasHeaderOf script other → IsRefusedScript other r → IsRefusedScript script r
same_refusal script other r header refused =
    let words = subst (λ ws. IsRefusedScript (record other { words = ws }) r) header.words refused in
    let clock = subst (λ n. IsRefusedScript (record other { words = script.words; clock = n }) r) header.clock words in
    let all = subst (λ cs. IsRefusedScript (record other { words = script.words; clock = script.clock; collections = cs }) r)
    header.collections clock in
    other_lines script other.lines r all
