-- A reservation whose replies all name items asks for the item of the ask whose number is their count.
use Rattle.std.proofs.Common.{◌≡◌, ℕ, ◌<◌, Bool, true, false, cond, List, [], ◌∷◌, length, get_or, drop, Option, Some, None, refl, ◌∙◌, ap}
use Rattle.std.proofs.Common.{arith}
use Rattle.std.specs.Prelude.{◌&&◌}
use Rattle.std.specs.List.{list_all}
use Rattle.std.proofs.lemmas.Bool.{and_parts}
use Rattle.seq_model.specs.declared.call.Reply.{Reply}
use Rattle.seq_model.specs.declared.call.Reply.TheVariants.{Nothing, Value}
use Rattle.seq_model.specs.Programs.{after, asked, GivesUp}
use Rattle.seq_model.specs.declared.job.Ask.TheVariants.{Call}
use Rattle.vac_model.specs.declared.item.Kind.{Kind}
use Rattle.vac_model.specs.declared.item.Kind.TheVariants.{Car, Flight, Room}
use Rattle.vac_model.specs.declared.item.Item.{Item}
use Rattle.vac_model.specs.declared.action.Ask.{Ask}
use Rattle.client_sessions.specs.declared.entry.Entry.{Entry}
use Rattle.client_sessions.specs.declared.entry.Entry.TheVariants.{Item as Stock}
use Rattle.client_sessions.specs.Gets.{get_due, tells_item, item_told}
use Rattle.vac_model.specs.Holdings.{same_kind}
use Rattle.vac_model.specs.Actions.{dearer}
use Rattle.client_sessions.specs.Sessions.{SessionProgram, better, gather, item_in}
use Rattle.client_sessions.proofs.WalkLemmas.{gather_on, gather_next, replied}

-- with a reply that names an item the program continues
goes_on : (reply : Reply Entry) → tells_item reply ≡ true
    → (item : Option Item) × ((next : Option Item → SessionProgram) → item_in reply next ≡ next item)
goes_on Nothing e = (None, λ next. refl)
goes_on (Value (Stock i)) e = (Some i, λ next. ap (λ b. cond b (next (Some i)) GivesUp) e)
goes_on _ e = absurd (cc)

pub gets_next : (asks : List Ask) (d : Ask) (replies : List (Reply Entry)) (car flight room : Option (ℕ × Item))
    (next : Option (ℕ × Item) → Option (ℕ × Item) → Option (ℕ × Item) → SessionProgram) → list_all tells_item replies ≡ true
    → length replies < length asks
    → asked (after (gather asks car flight room next) replies) ≡ Call (get_due (get_or asks (length replies) d))
gets_next [] d replies car flight room next all lt = absurd (omega arith)
gets_next (a ∷ asks) d [] car flight room next all lt = refl
gets_next (a ∷ asks) d (reply ∷ replies) car flight room next all lt =
    let e = and_parts (tells_item reply) (list_all tells_item replies) all in
    let g = goes_on reply e.0 in
    let one : length replies < length asks = omega arith in
    ap (λ (p : SessionProgram). asked (after p replies))
    (g.1 (λ o. gather asks (better Car a o car) (better Flight a o flight) (better Room a o room) next))
    ∙ gets_next asks d replies (better Car a g.0 car) (better Flight a g.0 flight) (better Room a g.0 room) next e.1 one

pub told_on : (reply : Reply Entry) → tells_item reply ≡ true → (next : Option Item → SessionProgram)
    → item_in reply next ≡ next (item_told reply)
told_on Nothing e next = refl
told_on (Value (Stock i)) e next = ap (λ b. cond b (next (Some i)) GivesUp) e
told_on _ e next = absurd (cc)

pub told_wrong : (reply : Reply Entry) → tells_item reply ≡ false → (next : Option Item → SessionProgram) → item_in reply next ≡ GivesUp
told_wrong Nothing e next = absurd (cc)
told_wrong (Value (Stock i)) e next = ap (λ b. cond b (next (Some i)) GivesUp) e
told_wrong _ e next = refl

dearer_none : (best : Option (ℕ × Item)) → dearer best None ≡ best
dearer_none None = refl
dearer_none (Some x) = refl

-- no candidate is better than none
pub better_none : (k : Kind) (ask : Ask) (best : Option (ℕ × Item)) → better k ask None best ≡ best
better_none k ask best =
    elim (same_kind ask.kind k) as (λ b. cond b (dearer best None) best ≡ best) [ true ↦ dearer_none best | false ↦ refl ]

-- the reply to the ask whose number this is
module _ (asks : List Ask) (i : ℕ) (d : Ask) (car flight room : Option (ℕ × Item))
    (next : Option (ℕ × Item) → Option (ℕ × Item) → Option (ℕ × Item) → SessionProgram)
    (old new : List (Reply Entry)) (reply : Reply Entry) where
  abbrev asks_on : Option Item → SessionProgram
  asks_on o = gather_on asks i d car flight room next o

  passed_on : i < length asks → old ≡ reply ∷ new
      → after (gather (drop i asks) car flight room next) old ≡ after (item_in reply asks_on) new
  passed_on lt is = gather_next asks i d car flight room next old lt
      ∙ replied (get_due (get_or asks i d)) (λ r. item_in r asks_on) old new reply is

  pub gather_told : i < length asks → old ≡ reply ∷ new → tells_item reply ≡ true
      → after (gather (drop i asks) car flight room next) old ≡ after (asks_on (item_told reply)) new
  gather_told lt is tells = passed_on lt is ∙ ap (λ p. after p new) (told_on reply tells asks_on)

  pub gather_wrong : i < length asks → old ≡ reply ∷ new → tells_item reply ≡ false
      → after (gather (drop i asks) car flight room next) old ≡ GivesUp
  gather_wrong lt is tells = passed_on lt is ∙ ap (λ p. after p new) (told_wrong reply tells asks_on)
