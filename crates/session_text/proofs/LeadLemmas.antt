-- Events that lead from the parts of a world to others. What the first of two lists leaves is what the second begins with, and it is the
-- parts of a world that events have reached; so both together lead on, and answer the one after the other.
use Rattle.std.proofs.Common.{◌≡◌, ◌∙◌, refl, sym, ap, ap₂, subst, ℕ, ◌+◌, List, [], ◌∷◌, ◌++◌, length-append}
use Rattle.seq_model.specs.declared.event.Event.{Event}
use Rattle.seq_model.specs.declared.event.Notice.{Notice}
use Rattle.seq_model.specs.Contents.{Contents}
use Rattle.replay_log.specs.Worlds.{World}
use Rattle.step_world.specs.Feeds.{Feeds, fed, fed_all}
use Rattle.step_world.specs.Parts.{IsWorld}
use Rattle.step_world.specs.declared.parts.Parts.{Parts}
use Rattle.step_world.specs.Reached.{IsReached}
use Rattle.step_world.proofs.ReachedLemmas.{reached_fed}
use Rattle.session_text.specs.Worlds.{Leads, told_by}

pub reached_all : (o : Contents ℕ) (w : World ℕ) (es : List (Event ℕ)) → IsReached o w → IsReached o (fed_all w es)
reached_all o w [] h = h
reached_all o w (e ∷ es) h = reached_all o (fed w e).0 es (reached_fed o w e h)

fed_on : (w : World ℕ) (xs ys : List (Event ℕ)) → fed_all w (xs ++ ys) ≡ fed_all (fed_all w xs) ys
fed_on w [] ys = refl
fed_on w (x ∷ xs) ys = fed_on (fed w x).0 xs ys

told_on : (w : World ℕ) (xs ys : List (Event ℕ)) → told_by w (xs ++ ys) ≡ told_by w xs ++ told_by (fed_all w xs) ys
told_on w [] ys = refl
told_on w (x ∷ xs) ys = ap (λ (ns : List (Notice ℕ)). (fed w x).1 ∷ ns) (told_on (fed w x).0 xs ys)

pub leads_none : (c : Parts ℕ) → Leads c [] [] c
leads_none c = record { paired = refl; parts = λ o w reached h. h; told = λ o w reached h. refl }

pub leads_one : (c d : Parts ℕ) (e : Event ℕ) (n : Notice ℕ) → Feeds c e d n → Leads c (e ∷ []) (n ∷ []) d
leads_one c d e n feeds = record {
  paired = refl;
  parts = feeds.parts;
  told = λ o w reached h. ap (λ (m : Notice ℕ). m ∷ []) (feeds.told o w reached h);
}

pub leads_on : (c d u : Parts ℕ) (xs ys : List (Event ℕ)) (ms ns : List (Notice ℕ)) → Leads c xs ms d → Leads d ys ns u
    → Leads c (xs ++ ys) (ms ++ ns) u
leads_on c d u xs ys ms ns first second = record {
  paired = length-append ms ns ∙ (ap₂ (λ (m n : ℕ). m + n) first.paired second.paired ∙ sym (length-append xs ys));
  parts = λ o w reached h. subst (λ (z : World ℕ). IsWorld u z) (sym (fed_on w xs ys))
      (second.parts o (fed_all w xs) (reached_all o w xs reached) (first.parts o w reached h));
  told = λ o w reached h. ap₂ (λ (ks ls : List (Notice ℕ)). ks ++ ls) (first.told o w reached h)
      (second.told o (fed_all w xs) (reached_all o w xs reached) (first.parts o w reached h)) ∙ sym (told_on w xs ys);
}
