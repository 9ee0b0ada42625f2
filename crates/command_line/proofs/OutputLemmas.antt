-- What is written of a fault, and what is printed. Bytes are written piece by piece: what has been written is always a beginning of them,
-- and the next piece makes it a longer one; a line that was begun after a whole text is a beginning of both. A failed allocation is why
-- nothing is printed, whatever is known of the file.
use Rattle.std.proofs.Common.{◌∙◌, refl, sym, ap, ℕ, ◌+◌, ◌-◌, ◌≡◌, ◌<◌, subst, List, [], ◌∷◌, ◌++◌, length, take, take_all, drop}
use Rattle.std.proofs.Common.{length-drop, take-append-drop, append_assoc, Option, Some, None, arith}
use Rattle.std.proofs.Math.Seq.{take-add}
use Rattle.std.proofs.KnownBytes.{Appends-trans}
use Rattle.std.specs.Io.KnownBytes.{Appends}
use Rattle.seq_model.specs.declared.refusal.Refusal.TheVariants.{Memory as OutOfMemory}
use Rattle.session_text.specs.declared.fault.RunFault.TheVariants.{Refused}
use Rattle.command_line.specs.declared.work.Cause.TheVariants.{Ended}
use Rattle.command_line.specs.declared.work.Task.TheVariants.{OnFile}
use Rattle.command_line.specs.declared.work.Work.{Work}
use Rattle.command_line.specs.declared.work.Work.TheVariants.{Explore, Lanes, Served, Step, Vacation}
use Rattle.command_line.specs.Ends.{HasBegun, HasBrokenOff, IsCause, IsFaultOf, IsTextOf, line_of}

pub written_on : (old now new : Option (List ℕ)) (w n : ℕ) (bytes : List ℕ)
    → Appends old now (take w bytes) → Appends now new (take n (take (length bytes - w) (drop w bytes)))
    → Appends old new (take (w + n) bytes)
written_on old now new w n bytes before more =
    let sized = length-drop w bytes in
    let rest = take_all (length bytes - w) (drop w bytes) (omega (arith, sized)) in
    let joined = ap (λ (xs : List ℕ). take w bytes ++ take n xs) rest ∙ sym (take-add w n bytes) in
    subst (λ (xs : List ℕ). Appends old new xs) joined (Appends-trans old now new _ _ before more)

pub begun_with : (old new : Option (List ℕ)) (k : ℕ) (bytes : List ℕ) → Appends old new (take k bytes) → HasBegun old new bytes
begun_with old new k bytes grown = record {
  begun = take k bytes;
  left = drop k bytes;
  whole = sym (take-append-drop k bytes);
  grown = grown;
}

pub broken_off : (old new : Option (List ℕ)) (k : ℕ) (bytes : List ℕ) → Appends old new (take k bytes) → k < length bytes
    → HasBrokenOff old new bytes
unfolding begun_with
broken_off old new k bytes grown within = record {
  begun = begun_with old new k bytes grown;
  some_left = λ none.
      let sized = length-drop k bytes in
      let empty : length (drop k bytes) ≡ 0 = ap (λ (xs : List ℕ). length xs) none in
      omega (arith, sized, empty);
}

pub line_begun : (old now new : Option (List ℕ)) (text : List ℕ) → Appends old now text → HasBegun now new (10 ∷ [])
    → HasBegun old new (line_of text)
line_begun old now new text whole end = record {
  begun = text ++ end.begun;
  left = end.left;
  whole = ap (λ (xs : List ℕ). text ++ xs) end.whole ∙ sym (append_assoc text end.begun end.left);
  grown = Appends-trans old now new _ _ whole end.grown;
}

-- any bytes, where nothing is known of the text
text_of : (known : Option (List ℕ)) → (text : List ℕ) × IsTextOf known text
text_of None = ([], tt)
text_of (Some bytes) = (bytes, refl)

memory_refuses : (work : Work) (text : List ℕ) → IsFaultOf work text (Refused OutOfMemory)
memory_refuses Step text = tt
memory_refuses Lanes text = tt
memory_refuses (Explore most) text = tt
memory_refuses Vacation text = tt
memory_refuses (Served workers) text = tt

pub memory_is_cause : (work : Work) (known : Option (List ℕ)) → IsCause (OnFile work) known (Ended (Refused OutOfMemory))
memory_is_cause work known = let text = text_of known in (text.0, (text.1, memory_refuses work text.0))
