-- A customer with what a reservation decided: what it holds, and how many places it has.
-- A part adds one booking or one wait, at the end, or nothing.
use Rattle.std.proofs.Common.{◌≡◌, ℕ, ◌+◌, ◌==◌, ◌&&◌, ◌||◌, Bool, true, false, cond, [], ◌∷◌, length-append, Option, Some, None, refl, ◌∙◌}
use Rattle.std.proofs.Common.{ap, arith}
use Rattle.std.specs.Prelude.{nat_lt}
use Rattle.std.specs.List.{list_any}
use Rattle.std.proofs.lemmas.List.Folds.{list_any-append}
use Rattle.vac_model.specs.declared.item.Item.{Item}
use Rattle.vac_model.specs.declared.item.Kind.{Kind}
use Rattle.vac_model.specs.declared.item.Customer.{Customer}
use Rattle.vac_model.specs.declared.action.KindReply.{KindReply}
use Rattle.vac_model.specs.declared.action.KindReply.TheVariants.{Booked, Waits}
use Rattle.vac_model.specs.Holdings.{same_kind}
use Rattle.vac_model.specs.Actions.{dearer, has, places, is_of, is_for}
use Rattle.client_sessions.specs.Walks.{with_part}
use Rattle.std.specs.Option.{option_copied}
use Rattle.std.specs.Prelude.{unwrap_or}
use Rattle.vac_model.specs.declared.item.Kind.TheVariants.{Car, Flight, Room}
use Rattle.vac_model.specs.Holdings.{newcomer}
use Rattle.client_sessions.specs.declared.reserve.Draft.{Draft}
use Rattle.client_sessions.specs.Drafts.{IsSound, added as places_added, adds, drafted, part_for, place_of}

added : (a b x : Bool) → ((a || (x || false)) || b) ≡ ((a || b) || x)
added true b x = refl
added false true true = refl
added false true false = refl
added false false true = refl
added false false false = refl

waited : (a b x : Bool) → (a || (b || (x || false))) ≡ ((a || b) || x)
waited true b x = refl
waited false true x = refl
waited false false true = refl
waited false false false = refl

no_more : (a b : Bool) → a ≡ (a || (b && false))
no_more true b = refl
no_more false true = refl
no_more false false = refl

pub has_part : (units : ℕ) (j : Kind) (p : KindReply) (who : Customer) (k : Kind) (id : ℕ)
    → has (with_part units j p who) k id ≡ (has who k id || (same_kind j k && adds id p))
has_part units j (Booked b n price) who k id =
    ap (λ a. a || list_any (is_for k id) who.waits)
    (list_any-append (is_of k id) who.bookings (record { kind = j; id = b; units = units; price = price } ∷ []))
    ∙ added (list_any (is_of k id) who.bookings) (list_any (is_for k id) who.waits) (same_kind j k && (b == id))
has_part units j (Waits b t) who k id =
    ap (λ a. list_any (is_of k id) who.bookings || a)
    (list_any-append (is_for k id) who.waits (record { kind = j; id = b; units = units; ticket = t } ∷ []))
    ∙ waited (list_any (is_of k id) who.bookings) (list_any (is_for k id) who.waits) (same_kind j k && (b == id))
has_part units j _ who k id = no_more (has who k id) (same_kind j k)

abbrev pub before : Draft → Customer
before d = unwrap_or (option_copied d.found) newcomer

none_more : (a : Bool) → (a || false) ≡ a
none_more true = refl
none_more false = refl

all_parts : (d : Draft) (k : Kind) (id : ℕ) → has (drafted d) k id
    ≡ (((has (before d) k id || (same_kind Car k && adds id d.car)) || (same_kind Flight k && adds id d.flight))
    || (same_kind Room k && adds id d.room))
all_parts d k id =
    let one : Customer = with_part d.units Car d.car (before d) in
    let two : Customer = with_part d.units Flight d.flight one in
    has_part d.units Room d.room two k id
    ∙ ap (λ a. a || (same_kind Room k && adds id d.room))
    (has_part d.units Flight d.flight one k id
    ∙ ap (λ a. a || (same_kind Flight k && adds id d.flight)) (has_part d.units Car d.car (before d) k id))

-- of the parts only the one of the item's kind may add it
pub has_drafted : (d : Draft) (k : Kind) (id : ℕ) → has (drafted d) k id ≡ (has (before d) k id || adds id (part_for k d))
has_drafted d Car id = all_parts d Car id ∙ none_more _ ∙ none_more _
has_drafted d Flight id = all_parts d Flight id ∙ none_more _ ∙ ap (λ a. a || adds id d.flight) (none_more _)
has_drafted d Room id = all_parts d Room id ∙ ap (λ a. a || adds id d.room) (none_more _ ∙ none_more _)

pub places_part : (units : ℕ) (j : Kind) (p : KindReply) (who : Customer) → places (with_part units j p who) ≡ places who + place_of p
places_part units j (Booked b n price) who =
    omega (arith, length-append who.bookings (record { kind = j; id = b; units = units; price = price } ∷ []))
places_part units j (Waits b t) who =
    omega (arith, length-append who.waits (record { kind = j; id = b; units = units; ticket = t } ∷ []))
places_part units j _ who = omega arith

pub places_drafted : (d : Draft) → places (drafted d) ≡ places (before d) + places_added d
places_drafted d =
    let one : Customer = with_part d.units Car d.car (before d) in
    let two : Customer = with_part d.units Flight d.flight one in
    omega (arith, places_part d.units Room d.room two, places_part d.units Flight d.flight one, places_part d.units Car d.car (before d))

pub dearer_sound : (x y : Option (ℕ × Item)) → IsSound x → IsSound y → IsSound (dearer x y)
dearer_sound None y hx hy = hy
dearer_sound (Some x) None hx hy = hx
dearer_sound (Some x) (Some y) hx hy =
    elim (nat_lt x.1.price y.1.price) as (λ b. IsSound (cond b (Some y) (Some x))) [ true ↦ hy | false ↦ hx ]
