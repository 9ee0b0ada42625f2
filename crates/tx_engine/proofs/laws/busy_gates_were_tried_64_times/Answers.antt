use Rattle.std.proofs.Common.{◌≡◌, ℕ, ◌+◌, Some, inl, inr, subst}
use Rattle.replay_log.specs.Seats.{World}
use Rattle.replay_log.specs.WorldTries.{InVain, tried_at}
use Rattle.replay_log.specs.Worlds.{gate_tries, run}
use Rattle.shared_table.specs.Seated.{opening_of}
use Rattle.tx_engine.proofs.SeatLemmas.{is_calm}
use Rattle.tx_engine.proofs.BusyGateLemmas.{tried_in_vain}
use Rattle.tx_engine.proofs.laws.busy_gates_were_tried_64_times.Goals as goal

pub returns : goal.returns
returns g c t s u k ready why = elim why [
  | inl found ↦
      tried_in_vain
      (λ o opens events a i n stripes. subst
      (λ (w : World g.row.V.Denot). tried_at ((run w events).seats a).stage ≡ Some (i, n)
      → (m : ℕ) × (m + 1 + n ≡ gate_tries) × InVain w events a i m) opens.world
      (c.tries.ensures.before o.blocks opens.clock opens.contents.words opens.contents.held events a i n stripes)) (opening_of t) s.seat
      u.seat k ready.ties.reached (is_calm (opening_of t) s.seat ready.between) found.0
  | inr wanted ↦ absurd (let memory = wanted.0 in let z : ⊥ = cc in z)
]
