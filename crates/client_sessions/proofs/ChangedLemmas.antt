-- An update that has made its first changes continues with the others. A change has one call or two: the first gets its item, and the
-- second, where there is one, sets it, and its reply says nothing.
use Rattle.std.proofs.Common.{◌≡◌, ◌≢◌, ℕ, ◌+◌, ◌<◌, ◌≤◌, ◌⊎◌, inl, inr, refl, sym, ◌∙◌, ap, subst, arith, true, false, cond}
use Rattle.std.proofs.Common.{not, Option, Some, None}
use Rattle.std.proofs.Common.{List, [], ◌∷◌, ◌++◌, length, take, drop, get_or, length-take, length-drop}
use Rattle.std.proofs.lemmas.List.{drop_all, take-take}
use lib.Seq.{take-add}
use Rattle.seq_model.specs.declared.call.Reply.{Reply}
use Rattle.seq_model.specs.declared.job.Ask.TheVariants.{Done}
use Rattle.seq_model.specs.declared.place.JobPlace.{JobPlace}
use Rattle.seq_model.specs.Places.{IsPlaceIn}
use Rattle.seq_model.specs.Programs.{Answers, after, asked}
use Rattle.vac_model.specs.declared.action.ActionReply.TheVariants.{Updated}
use Rattle.vac_model.specs.declared.action.Change.{Change}
use Rattle.vac_model.specs.declared.action.ChangeReply.{ChangeReply}
use Rattle.vac_model.specs.declared.item.Item.{Item}
use Rattle.vac_model.specs.declared.item.Kind.{Kind}
use Rattle.vac_model.specs.Actions.{changed, id_of, kind_of}
use Rattle.client_sessions.specs.declared.entry.Entry.{Entry}
use Rattle.client_sessions.specs.Noted.{AreChanged, AreNoted, IsMade, is_set}
use Rattle.client_sessions.specs.Sessions.{SessionProgram, change_each, change_one, is_same_item, item_in, put_item, set_item, update}
use Rattle.client_sessions.proofs.AfterLemmas.{after_both, after_none, after_taken}
use Rattle.client_sessions.specs.declared.walk.Stop.{Stop}
use Rattle.client_sessions.specs.Walks.{IsStop}
use Rattle.client_sessions.proofs.WalkLemmas.{each_next, made_on, stops_along}

-- ---- the calls of one change
not_set : (k : Kind) (id : ℕ) (o n : Option Item) (next : SessionProgram) → is_set o n ≡ false → set_item k id o n next ≡ next
not_set k id None None next e = refl
not_set k id (Some i) None next e = absurd (cc)
not_set k id None (Some j) next e = absurd (cc)
not_set k id (Some i) (Some j) next e =
    (elim (is_same_item i j) as (λ b. not b ≡ false → cond b next (put_item k id j next) ≡ next) [
      | true ↦ λ h. refl
      | false ↦ λ h. absurd (cc)
    ]) e

set_once : (k : Kind) (id : ℕ) (o n : Option Item) (next : SessionProgram) (reply : Reply Entry) → is_set o n ≡ true
    → after (set_item k id o n next) (reply ∷ []) ≡ next
set_once k id None None next reply e = absurd (cc)
set_once k id (Some i) None next reply e = after_none next
set_once k id None (Some j) next reply e = after_none next
set_once k id (Some i) (Some j) next reply e =
    (elim (is_same_item i j) as (λ b. not b ≡ true → after (cond b next (put_item k id j next)) (reply ∷ []) ≡ next) [
      | true ↦ λ h. absurd (cc)
      | false ↦ λ h. after_none next
    ]) e

-- of a change whose first reply has this item, or none
module _ (change : Change) (reply : Reply Entry) (o : Option Item) (n : ChangeReply × Option Item) (is : n ≡ changed change o)
    (told : (next : Option Item → SessionProgram) (left : List (Reply Entry)) → after (item_in reply next) left ≡ after (next o) left) where
  abbrev sets : (ChangeReply → SessionProgram) → Option Item → SessionProgram
  sets next p = set_item (kind_of change) (id_of change) p (changed change p).1 (next (changed change p).0)

  same_set : (next : ChangeReply → SessionProgram) → sets next o ≡ set_item (kind_of change) (id_of change) o n.1 (next n.0)
  same_set next = λ j. set_item (kind_of change) (id_of change) o (sym is j).1 (next (sym is j).0)

  pub made_one : (rest replies : List (Reply Entry)) → replies ≡ reply ∷ rest → is_set o n.1 ≡ false → IsMade change (take 1 replies)
  made_one rest replies at e = subst (λ (rs : List (Reply Entry)). IsMade change (take 1 rs)) (sym at) (
    n.0,
    λ next.
        told (sets next) []
        ∙ (after_none (sets next o)
        ∙ (same_set next
        ∙ not_set (kind_of change) (id_of change) o n.1 (next n.0) e)),
  )

  pub made_two : (put : Reply Entry) (more rest replies : List (Reply Entry)) → replies ≡ reply ∷ rest → rest ≡ put ∷ more
      → is_set o n.1 ≡ true → IsMade change (take 2 replies)
  made_two put more rest replies at behind e =
      let both : replies ≡ reply ∷ (put ∷ more) = at ∙ ap (λ (rs : List (Reply Entry)). reply ∷ rs) behind in
      subst (λ (rs : List (Reply Entry)). IsMade change (take 2 rs)) (sym both) (
        n.0,
        λ next.
            told (sets next) (put ∷ [])
            ∙ (ap (λ (p : SessionProgram). after p (put ∷ [])) (same_set next)
            ∙ set_once (kind_of change) (id_of change) o n.1 (next n.0) put e),
      )

-- ---- the first changes
pub none_changed : (changes : List Change) (replies : List (Reply Entry)) → AreChanged changes replies 0 0
none_changed changes replies =
    record { told = omega arith; few = omega arith; made = []; leads = λ next. after_none (change_each changes next) }

module _ (changes : List Change) (replies : List (Reply Entry)) (heard n : ℕ) (a : AreChanged changes replies heard n) where
  -- what is left after all replies
  pub changed_left : (next : List ChangeReply → SessionProgram) → after (change_each changes next) replies
      ≡ after (change_each (drop n changes) (λ more. next (a.made ++ more))) (drop heard replies)
  changed_left next =
      after_taken (change_each changes next) replies heard ∙ ap (λ (p : SessionProgram). after p (drop heard replies)) (a.leads next)

  changed_more : (count : ℕ) (d : Change) → n < length changes → count ≤ length (drop heard replies)
      → IsMade (get_or changes n d) (take count (drop heard replies)) → AreChanged changes replies (heard + count) (n + 1)
  changed_more count d lt le made = record {
    told = omega (arith, le, a.told, length-drop heard replies);
    few = omega (arith, lt);
    made = a.made ++ made.0 ∷ [];
    leads = λ next.
        ap (after (change_each changes next)) (take-add heard count replies)
        ∙ (after_both (change_each changes next) (take heard replies) (take count (drop heard replies))
        ∙ (ap (λ (p : SessionProgram). after p (take count (drop heard replies))) (a.leads next)
        ∙ (each_next changes n d (λ more. next (a.made ++ more)) (take count (drop heard replies)) lt
        ∙ (made.1 (λ one. change_each (drop (n + 1) changes) (λ more. next (a.made ++ (one ∷ more))))
        ∙ ap (λ (k : List ChangeReply → SessionProgram). change_each (drop (n + 1) changes) k)
        (made_on a.made (a.made ++ made.0 ∷ []) made.0 refl next)))));
  }

  pub changed_next : (left : List (Reply Entry)) (count : ℕ) (d : Change) → left ≡ drop heard replies → n < length changes
      → count ≤ length left → IsMade (get_or changes n d) (take count left) → AreChanged changes replies (heard + count) (n + 1)
  changed_next left count d is lt le made = changed_more count d lt (subst (λ (rs : List (Reply Entry)). count ≤ length rs) is le)
      (subst (λ (rs : List (Reply Entry)). IsMade (get_or changes n d) (take count rs)) is made)

  -- all changes are made
  pub all_changed : length changes ≤ n → Done ≡ asked (after (update changes) replies)
  all_changed le =
      sym (ap (λ (p : SessionProgram). asked p) (changed_left (λ made. Answers (Updated made)))
      ∙ ap (λ (cs : List Change). asked (after (change_each cs (λ more. Answers (Updated (a.made ++ more)))) (drop heard replies)))
      (drop_all n changes le))

  -- the next change
  change_next : (d : Change) → n < length changes → after (update changes) replies
      ≡ after (change_one (get_or changes n d)
      (λ one. change_each (drop (n + 1) changes) (λ more. Answers (Updated (a.made ++ (one ∷ more)))))) (drop heard replies)
  change_next d lt =
      changed_left (λ made. Answers (Updated made))
      ∙ each_next changes n d (λ more. Answers (Updated (a.made ++ more))) (drop heard replies) lt

  -- it stops
  pub change_stops : (d : Change) (stop : Stop) (left : List (Reply Entry)) → left ≡ drop heard replies → n < length changes
      → ((next : ChangeReply → SessionProgram) → IsStop stop (after (change_one (get_or changes n d) next) left))
      → IsStop stop (after (update changes) replies)
  change_stops d stop left is lt stops =
      let next : ChangeReply → SessionProgram =
      λ one. change_each (drop (n + 1) changes) (λ more. Answers (Updated (a.made ++ (one ∷ more)))) in
      stops_along (after (update changes) replies) (after (change_one (get_or changes n d) next) left) stop
      (change_next d lt ∙ ap (after (change_one (get_or changes n d) next)) (sym is)) (stops next)

-- ---- in a place
module _ (changes : List Change) (replies : List (Reply Entry)) (heard n m : ℕ) (le : heard ≤ m) where
  again : take heard (take m replies) ≡ take heard replies
  again = take-take heard m replies le

  pub changed_taken : AreChanged changes replies heard n → AreChanged changes (take m replies) heard n
  changed_taken a = record {
    told = omega (arith, a.told, le, length-take m replies);
    few = a.few;
    made = a.made;
    leads = λ next. ap (after (change_each changes next)) again ∙ a.leads next;
  }

  pub changed_whole : AreChanged changes (take m replies) heard n → AreChanged changes replies heard n
  changed_whole a = record {
    told = omega (arith, a.told, length-take m replies);
    few = a.few;
    made = a.made;
    leads = λ next. ap (after (change_each changes next)) (sym again) ∙ a.leads next;
  }

abbrev pub IsChangedIn : List Change → List (Reply Entry) → JobPlace → Type 0
IsChangedIn changes replies place = IsPlaceIn (λ told noted. AreNoted changes told noted) replies place

pub changed_in : (changes : List Change) (replies : List (Reply Entry)) (place : JobPlace) → place.heard ≢ 0
    → IsChangedIn changes replies place → AreChanged changes replies place.heard (get_or place.marks 0 0)
changed_in changes replies place some is = by is.1
  where
    by : (place.heard ≡ 0) ⊎ AreNoted changes (take place.heard replies) place
        → AreChanged changes replies place.heard (get_or place.marks 0 0)
    by (inl none) = absurd (some none)
    by (inr a) = changed_whole changes replies place.heard (get_or place.marks 0 0) place.heard (omega arith) a

pub changed_noted : (changes : List Change) (replies : List (Reply Entry)) (place : JobPlace)
    → AreChanged changes replies place.heard (get_or place.marks 0 0) → IsChangedIn changes replies place
changed_noted changes replies place a =
    (a.told, inr (changed_taken changes replies place.heard (get_or place.marks 0 0) place.heard (omega arith) a))
