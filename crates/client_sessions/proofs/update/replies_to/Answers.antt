use Rattle.std.proofs.Common.{◌≡◌, ◌-◌, ◌∙◌, ◌∷◌, ap, arith, drop, get_or, length, length-drop, length-take, sym}
use Rattle.seq_model.specs.declared.call.Reply.{Reply}
use Rattle.client_sessions.specs.declared.entry.Entry.{Entry}
use Rattle.client_sessions.proofs.ChangedLemmas.{made_one, made_two}
use Rattle.client_sessions.proofs.WalkLemmas.{drop_next}
use Rattle.client_sessions.proofs.update.replies_to.Goals as goal

pub returns-then-not-is_set-clause-made : goal.returns-then-not-is_set-clause-made
returns-then-not-is_set-clause-made c =
    let replies = c.args.replies.now in
    let r = c.reply-item.result in
    let at : replies ≡ r ∷ drop 1 replies =
    drop_next replies 0 r (omega (arith, c.in-len1-up.len_at_least)) ∙ ap (λ (k : Reply Entry). k ∷ drop 1 replies) (sym c.reply-item.is) in
    λ some. made_one c.args.change r c.in-Ok.item c.changed-new.result c.changed-new.ensures c.in-Ok.ensures.comes (drop 1 replies)
    replies at
    (sym c.is_set.ensures ∙ c.if-not-is_set.true)

pub returns-in-len1-up-rest-clause-made : goal.returns-in-len1-up-rest-clause-made
returns-in-len1-up-rest-clause-made c =
    let replies = c.args.replies.now in
    let r = c.reply-item.result in
    let at : replies ≡ r ∷ drop 1 replies =
    drop_next replies 0 r (omega (arith, c.in-len1-up.len_at_least)) ∙ ap (λ (k : Reply Entry). k ∷ drop 1 replies) (sym c.reply-item.is) in
    let behind : drop 1 replies ≡ get_or replies 1 r ∷ drop 2 replies =
    drop_next replies 1 r
    (omega (arith, c.in-len1-up-rest.len_at_least, length-take (length replies - 1) (drop 1 replies), length-drop 1 replies)) in
    λ some. made_two c.args.change r c.in-Ok.item c.changed-new.result c.changed-new.ensures c.in-Ok.ensures.comes (get_or replies 1 r)
    (drop 2 replies) (drop 1 replies) replies at behind (sym c.is_set.ensures ∙ c.if-not-is_set.false)
