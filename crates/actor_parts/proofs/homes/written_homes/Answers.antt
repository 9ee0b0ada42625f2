use Rattle.std.proofs.Common.{◌≡◌, ◌+◌, ◌-◌, ℕ, drop, get_or, sym, ap, ◌∙◌, subst, arith}
use Rattle.tx_sets.specs.Entries.{IsRising}
use Rattle.actor_parts.specs.Blocks.{home_in, homes_in, with_home}
use Rattle.actor_parts.proofs.HomesLemmas.{more_homes, no_homes}
use Rattle.actor_parts.proofs.homes.written_homes.Goals as goal

pub loop-i-init : goal.loop-i-init
loop-i-init c =
    let es = c.in_order-entries.result.now in (
      omega arith,
      c.clear.ensures.items ∙ no_homes c.args.blocks.now es,
      subst IsRising (sym c.in_order-entries.ensures.entries) c.in_order-entries.ensures.orderly.rising,
    )

pub loop-i-preserved : goal.loop-i-preserved
loop-i-preserved c =
    let es = c.in_order-entries.result.now in
    let i = c.loop-i.i in
    let d = get_or es (i - 1) (0, 0) in
    let next : i - 1 + 1 ≡ i = omega arith in
    let home : c.home_of-home.result ≡ home_in c.args.blocks.now d.0 = c.home_of-home.ensures in
    let more = more_homes c.args.blocks.now es (i - 1) (0, 0) c.loop-i.invariant.2 (omega arith) in (
      omega arith,
      c.in_ok-add_home.ensures
          ∙ ((λ j. with_home (home j) ((c.loop-i.invariant.1 ∙ sym (ap (λ (n : ℕ). homes_in c.args.blocks.now (drop n es)) next)) j))
          ∙ more),
      c.loop-i.invariant.2,
    )
