-- What there is of a call's collection once its gate is put back. The shadow has then copied what the call touches, but for what was read;
-- and what there was knows the editions of locations that were read alone, and answers by parts that were. So it is of the parts that are
-- there now, which are those of a collection again. What is copied for the call is the actor's own where none of its locations was read
-- with another edition, and of a location that has been read with two editions there is none.
use Rattle.std.proofs.Common.{◌≡◌, ◌⊎◌, ℕ, ◌+◌, Bool, true, false, true≢false, cond, List, [], ◌∷◌, Option, Some, None, inl, inr, sym, ap}
use Rattle.std.proofs.Common.{subst, ◌∙◌}
use Rattle.std.proofs.lemmas.Option.{same_Some}
use Rattle.tx_sets.specs.Entries.{Entries}
use Rattle.tx_machine.specs.Actor.{Actor, Call}
use Rattle.tx_machine.specs.Opacity.{first_read}
use Rattle.tx_machine.specs.World.{World as Words}
use Rattle.conflict.specs.RoomMap.{Room}
use Rattle.conflict.specs.declared.outcome.Outcome.{Outcome}
use Rattle.tx_machine.specs.Boosted.{PutGate, Shadow as Part}
use Rattle.replay_log.specs.declared.base.Base.{Base}
use Rattle.replay_log.specs.Base.{Shown}
use Rattle.replay_log.specs.Contents.{CallWithOutcome, CollectionCall, Block, block_of, content, first_of}
use Rattle.replay_log.specs.Guards.{Allows, IsAllowed, step_action}
use Rattle.replay_log.specs.Pieces.{covers_at}
use Rattle.replay_log.specs.Worlds.{Copying, Stage, World, actor_of, opened, run}
use Rattle.replay_log.proofs.EventLemmas.{opened_linked, run_linked}
use Rattle.replay_log.proofs.GuardLemmas.{world_allows}
use Rattle.replay_log.proofs.SeatLemmas.{Linked}
use Rattle.replay_log.proofs.SetLemmas.{put_words}
use Rattle.actor_laws.specs.Bases.{IsBaseOf, ShowsBase, log_changes, log_locations}
use Rattle.shadow.specs.Memo.{MemoView}
use Rattle.actor_parts.specs.Shows.{put_back}
use Rattle.actor_parts.specs.declared.copies.PrivateCopy.{PrivateCopy}
use Rattle.actor_parts.specs.declared.copies.PrivateCopy.TheVariants.{Keys, Whole}
use Rattle.actor_parts.specs.CopyAtGate.{IsReadBy, IsReadOf, taken_from}
use Rattle.actor_parts.specs.PrivateCopy.{HasEditions, IsCopied, IsOf, ShowParts, answer_of, holds_of}
use Rattle.actor_parts.specs.Footprints.{reads_in, with_known}
use Rattle.actor_parts.specs.CopyInWorld.{IsOwnCopy}
use Rattle.actor_parts.specs.LoadInWorld.{AreRead, IsDoomed}
use Rattle.actor_parts.specs.Owns.{IsOwn, IsUncalled}
use Rattle.actor_parts.specs.PutBack.{KeepsCopies, ReadsCopies}
use Rattle.actor_parts.proofs.CopyAtGateLemmas.{mixed, moved}
use Rattle.actor_parts.proofs.OwnLemmas.{own_same, reads_back}
use Rattle.actor_parts.proofs.AfterGateLemmas as taken
use Rattle.actor_parts.proofs.AfterGateLemmas.{found_at, pos, shadow_now, takes}

module _ {V : Type 0} (w : World V) (a : ℕ) (b : Block) (asked : CollectionCall V) (base : Base V) (k : Linked w)
    (st : (w.seats a).stage ≡ Copying asked) (block : block_of w.blocks asked.collection ≡ Some b) (of : IsBaseOf b base)
    (shows : ShowsBase w.words w.blocks w asked.collection base)
    (guard : Allows (content w.words w.blocks) w.boosted (PutGate a asked.collection (covers_at w.words w.blocks asked))) where
  abbrev home : ℕ
  home = asked.collection

  abbrev f : ℕ
  f = first_of w.words w.blocks home

  abbrev x : Part (Shown V) (CallWithOutcome V)
  x = w.boosted.shadows a

  abbrev read : ℕ → Option ℕ
  read = first_read (actor_of w a).calls

  abbrev which : ℕ → Bool
  which = covers_at w.words w.blocks asked

  abbrev copies : ℕ → Bool
  copies = taken.taken w a b asked base k st block of shows guard

  abbrev now : Part (Shown V) (CallWithOutcome V)
  now = taken_from copies w.boosted.parts w.boosted.editions x

  abbrev mixes : (s : Shown V) → ShowParts b f x.parts s → (u : Shown V) × ShowParts b f now.parts u
  mixes =
      mixed b f home x (pos w a b asked base k st block of shows guard) base of w.boosted.parts w.boosted.editions read which copies
      (found_at w a b asked base k st block of shows guard) (takes w a b asked base k st block of shows guard)

  own_keys : (m : MemoView V) (es : Room ℕ) → IsOwnCopy w a home b f (Keys m es) → IsReadBy read f (Keys m es)
      → IsOwnCopy (put_back a w asked) a home b f (Keys m es)
  own_keys m es is was_read =
      let s = is.copied.0.0 in
      let parts = is.copied.0.1 in
      let cs = log_changes home b x.outcomes in
      let ls = log_locations home b x.outcomes in
      let shown = mixes s parts in
      let here : IsOf b shown.0 cs ls (Keys m es) =
      moved b f home x (pos w a b asked base k st block of shows guard) base of w.boosted.parts w.boosted.editions read which copies
      (found_at w a b asked base k st block of shows guard) (takes w a b asked base k st block of shows guard) s parts m es cs ls
      is.copied.0.2 was_read in
      let editions : HasEditions b f now (Keys m es) =
      λ i e lt at. (
      let no = (takes w a b asked base k st block of shows guard).leaves i e lt (was_read.1 i e at) in
      let before = is.copied.1 i e lt at in (
        ap (λ q. cond q true (x.copied (f + i))) no ∙ before.0,
        ap (λ q. cond q (w.boosted.editions (f + i)) (x.editions (f + i))) no ∙ before.1,
      )) in
      let copied : IsCopied b f home now (Keys m es) = ((shown.0, shown.1, here), editions) in
      record {
        stripes = is.stripes;
        block = is.block;
        first = is.first;
        copied = subst (λ q. IsCopied b f home q (Keys m es)) (sym (shadow_now w a b asked base k st block of shows guard)) copied;
        knows = is.knows;
        pieces = is.pieces;
      }

  own_none : IsUncalled b f home x → IsUncalled b f home ((put_back a w asked).boosted.shadows a)
  own_none none =
      let shown = mixes none.0.0 none.0.1 in
      let here : IsUncalled b f home now = ((shown.0, shown.1), none.1, none.2) in
      subst (λ q. IsUncalled b f home q) (sym (shadow_now w a b asked base k st block of shows guard)) here

  own_kept : (c : Option (PrivateCopy V)) → IsOwn w a home c → IsReadOf w a home c → holds_of c asked.op ≡ false
      → IsOwn (put_back a w asked) a home c
  own_kept None own was_read unheld =
      λ d there. (
      let same : b ≡ d = same_Some b d (sym block ∙ there) in
      subst (λ (e : Block). IsUncalled e f home ((put_back a w asked).boosted.shadows a)) same (own_none (own b block)))
  own_kept (Some (Keys m es)) own was_read unheld =
      let same : own.0 ≡ b = same_Some own.0 b (sym own.1.block ∙ block) in
      (b, own_keys m es (subst (λ (e : Block). IsOwnCopy w a home e f (Keys m es)) same own.1) was_read)
  own_kept (Some (Whole s)) own was_read unheld = absurd (true≢false unheld)

-- what has been read with these editions was not read with others
not_doomed : (cs ds : List Call) (es : Entries) → ((l e : ℕ) → first_read cs l ≡ Some e → first_read ds l ≡ Some e) → AreRead ds es
    → IsDoomed cs es → ⊥
not_doomed cs ds [] more all h = h
not_doomed cs ds (d ∷ es) more all (inl h) =
    h.2 (same_Some h.0 d.1 (sym (more d.0 h.0 h.1) ∙ all.0))
not_doomed cs ds (d ∷ es) more all (inr h) = not_doomed cs ds es more all.1 h

module _ {V : Type 0} where
  pub copies_kept : KeepsCopies V
  copies_kept blocks clock values held events a b asked base c stripes st block of shows own was_read unheld =
      let first : World V = opened blocks clock values held in
      let w = run first events in
      let k = run_linked events first (opened_linked blocks clock values held stripes) in
      let allowed = world_allows blocks clock values held events a stripes in
      let guard : Allows (content w.words w.blocks) w.boosted (PutGate a asked.collection (covers_at w.words w.blocks asked)) =
      subst (λ (s : Stage V). IsAllowed w s (step_action w a s)) st allowed in (
        own_kept w a b asked base k st block of shows guard c own was_read unheld,
        reads_back w a asked asked.collection c was_read,
      )

  pub copies_read : ReadsCopies V
  copies_read w v a b asked d o is ans words blocks shadow more all = (own_then is.own, read_then)
    where
      f : ℕ
      f = first_of w.words w.blocks asked.collection

      stands : actor_of (put_back a w asked) a ≡ actor_of w a
      stands =
          ap (λ (s : Words). s.actors a)
          (put_words (content w.words w.blocks) w.boosted a asked.collection (covers_at w.words w.blocks asked))

      own_then : IsOwnCopy (put_back a w asked) a asked.collection b f d
          ⊎ ((o : Outcome V) → answer_of d asked.op ≡ Some o
          → IsDoomed (actor_of (put_back a w asked) a).calls (with_known d f (reads_in d o)))
          → IsOwn v a asked.collection (Some d)
      own_then (inl own) = own_same (put_back a w asked) v a asked.collection (Some d) words blocks shadow (b, own)
      own_then (inr doomed) =
          absurd (not_doomed (actor_of w a).calls (actor_of v a).calls (with_known d f (reads_in d o)) more all
          (subst (λ (y : Actor). IsDoomed y.calls (with_known d f (reads_in d o))) stands (doomed o ans)))

      read_then : IsReadOf v a asked.collection (Some d)
      read_then =
          subst (λ g. IsReadBy (first_read (actor_of v a).calls) g d)
          (λ j. first_of (sym words j) (sym blocks j) asked.collection)
          (is.read (actor_of v a).calls o more ans all)
