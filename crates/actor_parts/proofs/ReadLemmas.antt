-- What has been read of what a transaction has of a collection. It depends on how the locations are laid out and on what was read there,
-- and more reads keep it. An accepted outcome leaves which calls are held and what they read, so it keeps it too.
use Rattle.std.proofs.Common.{◌≡◌, ℕ, ◌+◌, true, List, Option, Some, None, Contains, refl, sym, ap, subst, ◌∙◌}
use Rattle.std.specs.FinMap.{get}
use Rattle.tx_machine.specs.Opacity.{first_read}
use Rattle.seq_model.specs.declared.call.Op.{Op}
use Rattle.conflict.specs.declared.outcome.Outcome.{Outcome}
use Rattle.replay_log.specs.Base.{Shown, changes_of, reads_of, shown_of, stripes_of}
use Rattle.replay_log.specs.Contents.{block_of, first_of}
use Rattle.replay_log.specs.Parts.{kind_of}
use Rattle.replay_log.specs.Worlds.{World, actor_of}
use Rattle.actor_laws.proofs.Bases.{kind_stays}
use Rattle.shadow.specs.Memo.{holds_with}
use Rattle.shadow.proofs.CopyLemmas.{copy_holds}
use Rattle.actor_parts.specs.declared.copies.PrivateCopy.{PrivateCopy}
use Rattle.actor_parts.specs.declared.copies.PrivateCopy.TheVariants.{Keys, Whole}
use Rattle.actor_parts.specs.CopyAtGate.{IsReadBy, IsReadOf}
use Rattle.actor_parts.specs.PrivateCopy.{IsAccepted, holds_call}
use Rattle.actor_parts.specs.Footprints.{reads_in}
use Rattle.actor_parts.proofs.FootprintLemmas.{reads_by}

module _ {V : Type 0} where
  -- ---- an acceptance
  pub same_holds : (o : Outcome V) (c d : PrivateCopy V) (op : Op V) → holds_call c o.op ≡ true → IsAccepted o c d
      → holds_call d op ≡ holds_call c op
  same_holds o (Keys m es) (Keys n fs) op held acc =
      (λ j. holds_with (shown_of (acc.0 j)) (acc.1 j) (acc.2 j) (acc.3 j) op)
      ∙ copy_holds o (shown_of m.blank) m.entries m.copies m.total op held
  same_holds o (Whole s) (Whole t) op held acc = refl
  same_holds o (Keys m es) (Whole t) op held acc = absurd acc
  same_holds o (Whole s) (Keys n fs) op held acc = absurd acc

  reads_alike : (n : ℕ) (o : Outcome V) (s t : Shown V) → kind_of t ≡ kind_of s → reads_of n o t ≡ reads_of n o s
  reads_alike n o s t e = sym (reads_by (kind_of s) n o t e) ∙ reads_by (kind_of s) n o s refl

  pub same_reads : (o q : Outcome V) (c d : PrivateCopy V) → IsAccepted o c d → reads_in d q ≡ reads_in c q
  same_reads o q (Keys m es) (Keys n fs) acc = λ j. reads_of (stripes_of (acc.0 j)) q (shown_of (acc.0 j))
  same_reads o q (Whole s) (Whole t) acc =
      let kind : kind_of (shown_of t.base) ≡ kind_of (shown_of s.base) =
      ap kind_of acc.0 ∙ kind_stays (changes_of o (shown_of s.base)) (shown_of s.base) in
      ap (λ n. reads_of n q (shown_of t.base)) acc.1 ∙ reads_alike (stripes_of s.base) q (shown_of s.base) (shown_of t.base) kind
  same_reads o q (Keys m es) (Whole t) acc = absurd acc
  same_reads o q (Whole s) (Keys n fs) acc = absurd acc

  read_accepted : (read : ℕ → Option ℕ) (f : ℕ) (o : Outcome V) (c d : PrivateCopy V) → holds_call c o.op ≡ true → IsAccepted o c d
      → IsReadBy read f c → IsReadBy read f d
  read_accepted read f o (Keys m es) (Keys n fs) held acc is = (
    λ q here i there.
        is.0 q (sym (same_holds o (Keys m es) (Keys n fs) q.op held acc) ∙ here) i
        (subst (λ (ls : List ℕ). Contains ls i) (same_reads o q (Keys m es) (Keys n fs) acc) there),
    λ i e there. is.1 i e (ap (λ h. get h i) (sym acc.8) ∙ there),
  )
  read_accepted read f o (Whole s) (Whole t) held acc is = tt
  read_accepted read f o (Keys m es) (Whole t) held acc is = tt
  read_accepted read f o (Whole s) (Keys n fs) held acc is = absurd acc

  pub reads_accepted : (w : World V) (a k : ℕ) (c d : PrivateCopy V) (o : Outcome V) → holds_call c o.op ≡ true → IsAccepted o c d
      → IsReadOf w a k (Some c) → IsReadOf w a k (Some d)
  reads_accepted w a k c d o held acc is =
      read_accepted (first_read (actor_of w a).calls) (first_of w.words w.blocks k) o c d held acc is

  -- ---- other calls
  read_more : (read now : ℕ → Option ℕ) (f g : ℕ) (c : PrivateCopy V) → g ≡ f → ((i e : ℕ) → read (f + i) ≡ Some e → now (f + i) ≡ Some e)
      → IsReadBy read f c → IsReadBy now g c
  read_more read now f g (Keys m es) same more is = (
    λ o held i there. (let r = is.0 o held i there in (r.0, ap (λ h. now (h + i)) same ∙ more i r.0 r.1)),
    λ i e there. ap (λ h. now (h + i)) same ∙ more i e (is.1 i e there),
  )
  read_more read now f g (Whole s) same more is = tt

  pub reads_more : (w v : World V) (a k : ℕ) (c : PrivateCopy V) → v.words ≡ w.words → v.blocks ≡ w.blocks
      → ((l e : ℕ) → first_read (actor_of w a).calls l ≡ Some e → first_read (actor_of v a).calls l ≡ Some e)
      → IsReadOf w a k (Some c) → IsReadOf v a k (Some c)
  reads_more w v a k c ew eb more is =
      read_more (first_read (actor_of w a).calls) (first_read (actor_of v a).calls) (first_of w.words w.blocks k)
      (first_of v.words v.blocks k) c (λ i. first_of (ew i) (eb i) k) (λ i e. more (first_of w.words w.blocks k + i) e) is

  pub reads_same : (w v : World V) (a k : ℕ) (c : Option (PrivateCopy V)) → v.words ≡ w.words → v.blocks ≡ w.blocks
      → ((i : ℕ) → first_read (actor_of v a).calls (first_of w.words w.blocks k + i)
      ≡ first_read (actor_of w a).calls (first_of w.words w.blocks k + i))
      → IsReadOf w a k c → IsReadOf v a k c
  reads_same w v a k (Some c) ew eb same is =
      read_more (first_read (actor_of w a).calls) (first_read (actor_of v a).calls) (first_of w.words w.blocks k)
      (first_of v.words v.blocks k) c (λ i. first_of (ew i) (eb i) k) (λ i e was. same i ∙ was) is
  reads_same w v a k None ew eb same is =
      λ b there i lt. (
      let first : first_of v.words v.blocks k ≡ first_of w.words w.blocks k = λ j. first_of (ew j) (eb j) k in
      ap (λ f. first_read (actor_of v a).calls (f + i)) first
      ∙ same i ∙ is b (ap (λ bs. block_of bs k) (sym eb) ∙ there) i lt)
