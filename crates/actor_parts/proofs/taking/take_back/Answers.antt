use Rattle.std.proofs.Common.{length, refl, arith}
use Rattle.std.proofs.lemmas.Option.{slice_get_read}
use Rattle.actor_parts.proofs.taking.take_back.Goals as goal

pub returns-then-place-count : goal.returns-then-place-count
returns-then-place-count g c =
    let cs = c.args.copies.now.items in
    let here = c.index_mut.result.now in (
      λ lt. record {
        copy = here;
        copied = c.forget.new.self;
        at = slice_get_read cs (length cs) c.args.place here refl c.requires c.index_mut.ensures.value;
        forgot = c.forget.ensures;
        is = refl;
      },
      λ le. absurd (omega (arith, le, c.if-place-count.true)),
    )
