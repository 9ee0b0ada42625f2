use Rattle.std.proofs.Common.{◌≡◌, ◌<◌, ◌^◌, ◌∙◌, ◌++◌, ℕ, List, Contains, ◌↔◌, ap, subst, sym}
use Rattle.std.specs.List.{slice_index}
use Rattle.conflict.specs.declared.change.Change.{Change}
use Rattle.replay_log.specs.Base.{IsPreparedFor, editions_of, locations_of, shown_of, stripes_of}
use Rattle.replay_log.specs.Log.{LogView}
use Rattle.replay_log.proofs.LogLemmas.{all_members}
use Rattle.replay_log.proofs.log.Log.fold.Goals as goal

pub replay_from-requires-clause-within : goal.replay_from-requires-clause-within
replay_from-requires-clause-within g c =
    let same : c.replace-locations.result.items ≡ c.args.self.now.locations = ap (λ v. v.items) c.replace-locations.ensures.value
    ∙ ap (λ (v : LogView _). v.locations) c.self.view_is in
    all_members (λ l. l < locations_of (stripes_of c.args.base.now)
    (shown_of c.args.base.now)) c.from_locations-written.result c.args.self.now.locations
    (subst (λ (ls : List ℕ). (l : ℕ)
    → Contains c.from_locations-written.result l ↔ Contains ls l) same c.from_locations-written.ensures.members) c.requires.within

pub replay_from-requires-clause-below : goal.replay_from-requires-clause-below
replay_from-requires-clause-below g c =
    let same : c.replace-locations.result.items ≡ c.args.self.now.locations = ap (λ v. v.items) c.replace-locations.ensures.value
    ∙ ap (λ (v : LogView _). v.locations) c.self.view_is in
    all_members (λ l. slice_index (editions_of c.args.base.now) l < 2 ^ 63) c.from_locations-written.result c.args.self.now.locations
    (subst (λ (ls : List ℕ). (l : ℕ)
    → Contains c.from_locations-written.result l ↔ Contains ls l) same c.from_locations-written.ensures.members) c.requires.below

pub returns-clause-editions : goal.returns-clause-editions
returns-clause-editions g c =
    let same : c.replace-locations.result.items ≡ c.args.self.now.locations = ap (λ v. v.items) c.replace-locations.ensures.value
    ∙ ap (λ (v : LogView _). v.locations) c.self.view_is in (
      c.from_locations-written.result,
      c.from_locations-written.ensures.rising,
      subst (λ (ls : List ℕ). (l : ℕ)
          → Contains c.from_locations-written.result l ↔ Contains ls l) same c.from_locations-written.ensures.members,
      c.replay_from.ensures.editions,
    )

pub returns-clause-room : goal.returns-clause-room
returns-clause-room g c = λ more h.
    c.replay_from.ensures.room more (subst (λ (changes : List (Change g.row.V.Denot)). IsPreparedFor (changes ++ more) c.args.base.now)
    (sym (ap (λ (v : LogView _). v.changes) c.self.view_is)) h)
