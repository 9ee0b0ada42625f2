-- Events that are fed to the parts of a world one after another, each with a row.
use Rattle.std.proofs.Common.{◌≡◌, ◌∙◌, refl, sym, ap, ap₂, subst, ℕ, suc, ◌+◌, ◌<◌, List, [], ◌∷◌, ◌++◌, length, map}
use Rattle.std.proofs.Common.{arith, get_or, take, take-suc}
use Rattle.std.proofs.lemmas.List.{map-append}
use Rattle.seq_model.specs.declared.event.Event.{Event}
use Rattle.seq_model.specs.declared.event.Notice.{Notice}
use Rattle.seq_model.specs.Contents.{Contents}
use Rattle.replay_log.specs.Worlds.{World}
use Rattle.step_world.specs.Feeds.{Feeds}
use Rattle.step_world.specs.Parts.{IsWorld}
use Rattle.step_world.specs.declared.parts.Parts.{Parts}
use Rattle.step_world.specs.Reached.{IsReached}
use Rattle.session_text.specs.Worlds.{Leads}
use Rattle.session_text.proofs.LeadLemmas.{leads_none, leads_on, leads_one}
use Rattle.session_text.specs.declared.rows.Row.{Row}
use Rattle.session_text.specs.Rows.{AreFed, AreFedBy, AreRowsOf}

pub fed_none : (c : Parts ℕ) → AreFed c [] [] c
fed_none c = record { events = refl; leads = leads_none c }

-- an event more
fed_more : (c d u : Parts ℕ) (es : List (Event ℕ)) (rows : List Row) (row : Row) (e : Event ℕ) → AreFed c es rows d → row.event ≡ e
    → Feeds d e u row.notice → AreFed c (es ++ e ∷ []) (rows ++ row ∷ []) u
fed_more c d u es rows row e fed is feeds = record {
  events = map-append (λ (r : Row). r.event) rows (row ∷ [])
      ∙ ap₂ (λ (xs ys : List (Event ℕ)). xs ++ ys) fed.events (ap (λ (x : Event ℕ). x ∷ []) is);
  leads = subst (λ (ns : List (Notice ℕ)). Leads c (es ++ e ∷ []) ns u) (sym (map-append (λ (r : Row). r.notice) rows (row ∷ [])))
      (leads_on c d u es (e ∷ []) (map (λ (r : Row). r.notice) rows) (row.notice ∷ []) fed.leads (leads_one d u e row.notice feeds));
}

pub fed_item : (c d u : Parts ℕ) (es : List (Event ℕ)) (i : ℕ) (z : Event ℕ) (rows : List Row) (row : Row) → i < length es
    → AreFed c (take i es) rows d → row.event ≡ get_or es i z → Feeds d (get_or es i z) u row.notice
    → AreFed c (take (i + 1) es) (rows ++ row ∷ []) u
fed_item c d u es i z rows row lt fed is feeds =
    let add_one : suc i ≡ i + 1 = omega arith in
    subst (λ (ds : List (Event ℕ)). AreFed c ds (rows ++ row ∷ []) u)
    (sym (take-suc es i z lt) ∙ ap (λ (m : ℕ). take m es) add_one)
    (fed_more c d u (take i es) rows row (get_or es i z) fed is feeds)

-- the rows of parts that a world opened with
pub rows_as : (o : Contents ℕ) (w : World ℕ) (c : Parts ℕ) (es : List (Event ℕ)) (rows : List Row) → IsReached o w → IsWorld c w
    → AreFedBy c es rows → AreRowsOf w es rows
rows_as o w c es rows reached is by = record { events = by.1.events; notices = by.1.leads.told o w reached is }
