use Rattle.std.proofs.Common.{◌≡◌, true, false, length, Some, refl, sym, ap, subst, ◌∙◌, arith}
use Rattle.std.proofs.lemmas.Option.{slice_get_read, same_Some}
use Rattle.actor_parts.specs.declared.copies.CopyOfCollection.{CopyOfCollection}
use Rattle.actor_parts.specs.PrivateCopy.{answer_of}
use Rattle.actor_parts.specs.Footprints.{reads_in, with_known, writes_in}
use Rattle.tx_actor.specs.Prepares.{HasRoomFor, fits}
use Rattle.actor_parts.specs.Writes.{with_next}
use Rattle.tx_actor.proofs.PreparesLemmas.{alike_itself, known_length, prepared_by}
use Rattle.tx_actor.proofs.actor.TxActor.readies.Goals as goal

pub returns-in_err-fits-clause-alike : goal.returns-in_err-fits-clause-alike
returns-in_err-fits-clause-alike g c = alike_itself c.args.self.now

pub returns-then-not-fits-clause-alike : goal.returns-then-not-fits-clause-alike
returns-then-not-fits-clause-alike g c = alike_itself c.args.self.now

pub returns-then-not-fits-clause-ok : goal.returns-then-not-fits-clause-ok
returns-then-not-fits-clause-ok g c copy at =
    let r = c.args.self.now in
    let cs = r.copies.items in
    let here = c.index.result.now in
    let there = slice_get_read cs (length cs) c.args.place here refl c.requires.there c.index.ensures in
    let e = same_Some here copy (sym there ∙ at) in
    let weighed = c.in_ok-fits.ensures.weighed in
    let o = weighed.0 in
    let unfit : fits r c.args.first here.copied o ≡ false = sym weighed.2.fits ∙ c.if-not-fits.true in (
      o,
      ap (λ (z : CopyOfCollection g.row.V.Denot). answer_of z.copied c.args.call.now.asked.op) (sym e)
          ∙ (c.in_ok-fits.ensures.outcome ∙ weighed.1),
      subst (λ (z : CopyOfCollection g.row.V.Denot). fits r c.args.first z.copied o ≡ false) e unfit,
    )

pub returns-clause-ok : goal.returns-clause-ok
returns-clause-ok g c copy at =
    let r = c.args.self.now in
    let u = c.readies_reply.new.self in
    let cs = r.copies.items in
    let f = c.args.first in
    let here = c.index.result.now in
    let e = same_Some here copy
    (sym (slice_get_read cs (length cs) c.args.place here refl c.requires.there c.index.ensures) ∙ at) in
    let weighed = c.in_ok-fits.ensures.weighed in
    let o = weighed.0 in
    let answer : answer_of copy.copied c.args.call.now.asked.op ≡ Some o =
    ap (λ (z : CopyOfCollection g.row.V.Denot). answer_of z.copied c.args.call.now.asked.op) (sym e)
    ∙ (c.in_ok-fits.ensures.outcome ∙ weighed.1) in
    let fit_here : fits r f here.copied o ≡ true = sym weighed.2.fits ∙ c.if-not-fits.false in
    let fit : fits r f copy.copied o ≡ true = subst (λ (z : CopyOfCollection g.row.V.Denot). fits r f z.copied o ≡ true) e fit_here in
    let writes : c.weigh.new.writes.items ≡ with_next copy.copied f (writes_in copy.copied o) =
    weighed.2.writes c.if-not-fits.false ∙ ap (λ (z : CopyOfCollection g.row.V.Denot). with_next z.copied f (writes_in z.copied o)) e in
    let ready = c.in_ok-readies_reply.ensures.ok o weighed.1 in
    let room : HasRoomFor u c.args.place o c.len.result (length c.weigh.new.writes.items) =
    let same : c.len-2.result ≡ length c.weigh.new.writes.items = c.len-2.ensures.value in
    subst (λ m. HasRoomFor u c.args.place o c.len.result m) same ready.0 in
    let left = weighed.2.left c.if-not-fits.false ∙ ap
    (λ (z : CopyOfCollection g.row.V.Denot). with_known z.copied f (reads_in z.copied o)) e in
    let many : c.len.result ≡ length (reads_in copy.copied o) =
    let count : length c.weigh.new.left.items ≡ length (reads_in copy.copied o) =
    ap length left ∙ known_length copy.copied f (reads_in copy.copied o) in
    omega (arith, c.len.ensures, count) in (
      refl,
      λ named. record {
        outcome = o;
        answer = answer;
        fits = fit;
        is = weighed.1;
        at = refl;
        collection = named;
        asked = refl;
        left = left;
        writes = writes;
        prepared = prepared_by r u c.args.place f c.args.call.now.asked.op copy o _ c.len.result c.readies_reply.ensures.alike
            c.requires room
            at answer fit writes weighed.1 refl named refl ready.1 many;
      },
    )
