-- Attempts, counted by how they ended.
use Rattle.std.specs.Prelude.{◌≡◌, ℕ, ◌+◌, ◌-◌, ◌^◌, ◌≤◌, min, max, All, List, [], ◌∷◌, length, Result, Ok, Err}
use Rattle.seq_model.specs.declared.refusal.Refusal.{Refusal}
use Rattle.seq_model.specs.declared.refusal.Refusal.TheVariants as refusal
use Rattle.seq_model.specs.Refusals.{IsConflict}
use Rattle.seq_model.specs.declared.failure.Failure.{Failure}
use Rattle.seq_model.specs.declared.failure.Failure.TheVariants.{Refused, Aborted}
use Rattle.tx_client.specs.declared.tally.Tally.{Tally}

-- one more, up to what a `u64` holds
abbrev pub one_more : ℕ → ℕ
one_more n = min (n + 1) (2 ^ 64 - 1)

abbrev pub counts : (committed aborted moved busy stale gate_busy invalid out_of_memory others : ℕ) → Tally
counts c a m b s k i o t = record {
  committed = c;
  aborted = a;
  moved = m;
  busy = b;
  stale = s;
  gate_busy = k;
  invalid = i;
  out_of_memory = o;
  others = t;
}

-- how many attempts were refused, and how many there were in all
abbrev pub refusals : Tally → ℕ
refusals t = t.moved + t.busy + t.stale + t.gate_busy + t.invalid + t.out_of_memory + t.others

abbrev pub attempts : Tally → ℕ
attempts t = t.committed + t.aborted + refusals t

-- an attempt that was refused so
abbrev pub with_refusal : Tally → Refusal → Tally
with_refusal t (refusal.Moved l w) =
    counts t.committed t.aborted (one_more t.moved) t.busy t.stale t.gate_busy t.invalid t.out_of_memory t.others
with_refusal t (refusal.Busy l w) =
    counts t.committed t.aborted t.moved (one_more t.busy) t.stale t.gate_busy t.invalid t.out_of_memory t.others
with_refusal t (refusal.Stale l b w) =
    counts t.committed t.aborted t.moved t.busy (one_more t.stale) t.gate_busy t.invalid t.out_of_memory t.others
with_refusal t (refusal.GateBusy k) =
    counts t.committed t.aborted t.moved t.busy t.stale (one_more t.gate_busy) t.invalid t.out_of_memory t.others
with_refusal t (refusal.Invalid l w) =
    counts t.committed t.aborted t.moved t.busy t.stale t.gate_busy (one_more t.invalid) t.out_of_memory t.others
with_refusal t refusal.Memory =
    counts t.committed t.aborted t.moved t.busy t.stale t.gate_busy t.invalid (one_more t.out_of_memory) t.others
with_refusal t cause =
    counts t.committed t.aborted t.moved t.busy t.stale t.gate_busy t.invalid t.out_of_memory (one_more t.others)

abbrev pub with_refusals : Tally → List Refusal → Tally
with_refusals t [] = t
with_refusals t (cause ∷ causes) = with_refusals (with_refusal t cause) causes

-- an attempt that ended so
abbrev pub with_end : {A E : Type 0} → Tally → Result A (Failure E) → Tally
with_end t (Ok a) =
    counts (one_more t.committed) t.aborted t.moved t.busy t.stale t.gate_busy t.invalid t.out_of_memory t.others
with_end t (Err (Refused cause)) = with_refusal t cause
with_end t (Err (Aborted e)) =
    counts t.committed (one_more t.aborted) t.moved t.busy t.stale t.gate_busy t.invalid t.out_of_memory t.others

-- At most so many attempts were made, and one at least: the last one ended so, and each before it was refused by a conflict. All are
-- counted.
pub record AreCounted {A E : Type 0} (tries : ℕ) (before after : Tally) (r : Result A (Failure E)) : Type 0 where
  pub causes : List Refusal
  pub few : length causes + 1 ≤ max tries 1
  pub conflicts : All IsConflict causes
  pub counted : after ≡ with_end (with_refusals before causes) r
