use Rattle.std.proofs.Common.{rules, ◌≡◌, ◌<◌, ◌+◌, ◌∙◌, ap, get_or, length, refl, sym, ℕ, true}
use Rattle.std.proofs.lemmas.List.{get_or_read_under}
use Rattle.seq_model.specs.declared.call.Reply.TheVariants.{Nothing}
use Rattle.client_sessions.proofs.WeighedLemmas.{weighed_more, weighed_wrong}
use Rattle.client_sessions.proofs.weighed.Weighed.weigh_all.Goals as goal

pub returns-then-not-weigh-clause-gives_up : goal.returns-then-not-weigh-clause-gives_up
returns-then-not-weigh-clause-gives_up c =
    let l = c.weighs in
    let r = c.index-replies-i.result in
    let at : r ≡ get_or c.args.replies.now l.self.count r = search rules in
    let asked : l.self.count < length c.args.asks.now = search rules in
    let told : l.self.count < length c.args.replies.now = search rules in
    let is : get_or c.args.replies.now l.self.count Nothing ≡ r =
    sym (get_or_read_under c.args.replies.now l.self.count (length c.args.replies.now) r Nothing at told refl) in
    λ e customer units. weighed_wrong c.args.asks.now c.args.replies.now l.self l.invariant r customer units is asked told
    (sym c.weigh.ensures.tells ∙ c.if-not-weigh.true)

pub weighs-preserved : goal.weighs-preserved
weighs-preserved c =
    let l = c.weighs in
    let r = c.index-replies-i.result in
    let at : r ≡ get_or c.args.replies.now l.self.count r = search rules in
    let asked : l.self.count < length c.args.asks.now = search rules in
    let told : l.self.count < length c.args.replies.now = search rules in
    let is : get_or c.args.replies.now l.self.count Nothing ≡ r =
    sym (get_or_read_under c.args.replies.now l.self.count (length c.args.replies.now) r Nothing at told refl) in
    let on : c.weigh.result ≡ true = c.if-not-weigh.false in
    weighed_more c.args.asks.now c.args.replies.now l.self l.invariant r c.weigh.new.self (c.weigh.new.self.count + 1) is asked told
    (sym c.weigh.ensures.tells ∙ on) (c.weigh.ensures.better on c.args.asks.now (search rules)) c.weigh.ensures.first
    (ap (λ (n : ℕ). n + 1) c.weigh.ensures.count)
