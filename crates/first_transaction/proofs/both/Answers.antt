use Rattle.first_transaction.proofs.both.Goals as goal

pub returns : goal.returns
returns c = λ h. c.in_ok-second.ensures (c.in_ok-first.ensures (c.in_ok-ask-8.ensures (c.in_ok-ask-7.ensures (c.in_ok-ask-6.ensures (
    c.in_ok-ask-5.ensures (c.in_ok-ask-4.ensures (c.in_ok-ask-3.ensures (c.in_ok-ask-2.ensures (c.in_ok-ask.ensures h)))))))))
