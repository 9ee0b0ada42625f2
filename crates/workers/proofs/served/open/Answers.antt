use Rattle.std.proofs.Common.{◌≡◌, ◌∙◌, List, ℕ, ap}
use Rattle.seq_model.specs.Contents.{Contents}
use Rattle.client_sessions.specs.declared.entry.Entry.{Entry}
use Rattle.actor_parts.specs.Openings.{world_of}
use Rattle.vacation_core.specs.Stripes.{eight}
use Rattle.vacation_core.proofs.StripeLemmas.{never_refused}
use Rattle.workers.proofs.served.open.Goals as goal

pub unreachable-requires : goal.unreachable-requires
unreachable-requires c =
    let each : c.from_vec.result ≡ eight c.args.stripes = c.from_vec.ensures ∙ c.in_ok-stripes.ensures.items_if_clones_equal (λ y e. e) in
    never_refused c.args.stripes c.args.tables.now c.from_vec.result c.in_ok-state.state c.in-Err.refusal c.requires.stripes each
    c.in_ok-state.ensures c.in-Err.ensures.refused c.in_default.not-Memory

pub returns-in-Ok : goal.returns-in-Ok
returns-in-Ok c =
    let each : c.from_vec.result ≡ eight c.args.stripes = c.from_vec.ensures ∙ c.in_ok-stripes.ensures.items_if_clones_equal (λ y e. e) in
    record {
      ready = c.in-Ok.ensures.ready;
      opened = c.in-Ok.ensures.opens ∙ ap (λ (ns : List ℕ). world_of ns 0 c.in_ok-state.state) each
          ∙ ap (λ (s : Contents Entry). world_of (eight c.args.stripes) 0 s) c.in_ok-state.ensures;
      contents = c.in-Ok.ensures.contents ∙ c.in_ok-state.ensures;
      seat_is = c.in-Ok.ensures.first.0;
    }
