use Rattle.std.proofs.Common.{◌≡◌, Bool, true, false, leb, get_or, sym, ap, subst, ◌∙◌, arith, rules}
use Rattle.std.specs.List.Sorted.{IsPartitionedBy, IsPartitionPoint}
use Rattle.std.proofs.lemmas.List.Sorted.{IsPartitionPoint-from_clause}
use Rattle.seq_model.specs.declared.kind.Kind.TheVariants as kind
use Rattle.actor_parts.specs.declared.blocks.BlockSpan.{BlockSpan}
use Rattle.actor_parts.specs.Blocks.{BlocksView, home_in}
use Rattle.actor_parts.proofs.BlocksLemmas.{beyond, home_there, no_home_beyond, no_home_word, parted, up_to}
use Rattle.actor_parts.proofs.blocks.Blocks.home_of.Goals as goal

pub returns-then-location-self : goal.returns-then-location-self
returns-then-location-self c =
    no_home_word c.args.location c.self.inside.words c.self.inside.placed.items c.if-location-self.true
    ∙ ap (λ (v : BlocksView). home_in v c.args.location) c.self.view_is

pub returns-then-at-len : goal.returns-then-at-len
returns-then-at-len c =
    let l = c.args.location in
    let ps = c.self.inside.placed.items in
    let p : BlockSpan → Bool = λ b. leb b.end l in
    let same = c.deref.ensures.value in
    let i = c.partition_point-at.result in
    let sorted : IsPartitionedBy p c.deref.result.now =
    subst (IsPartitionedBy p) (sym same) (parted l c.self.inside.words ps c.self.invariant.0) in
    let point = IsPartitionPoint-from_clause p c.deref.result.now i c.partition_point-at.ensures.partitioned sorted
    (λ a b h called. search rules) in
    let here : IsPartitionPoint (λ x. p x ≡ true) (λ x. p x ≡ false) ps i =
    subst (λ xs. IsPartitionPoint (λ x. p x ≡ true) (λ x. p x ≡ false) xs i) same point in
    no_home_beyond l c.self.inside.words ps c.self.invariant.0 c.if-location-self.false
    (λ j d lt. up_to (get_or ps j d).end l (here.0 j d (omega arith) (omega arith)))
    ∙ ap (λ (v : BlocksView). home_in v l) c.self.view_is

pub returns : goal.returns
returns c =
    let l = c.args.location in
    let ps = c.self.inside.placed.items in
    let p : BlockSpan → Bool = λ b. leb b.end l in
    let same = c.deref.ensures.value in
    let i = c.partition_point-at.result in
    let sorted : IsPartitionedBy p c.deref.result.now =
    subst (IsPartitionedBy p) (sym same) (parted l c.self.inside.words ps c.self.invariant.0) in
    let point = IsPartitionPoint-from_clause p c.deref.result.now i c.partition_point-at.ensures.partitioned sorted
    (λ a b h called. search rules) in
    let here : IsPartitionPoint (λ x. p x ≡ true) (λ x. p x ≡ false) ps i =
    subst (λ xs. IsPartitionPoint (λ x. p x ≡ true) (λ x. p x ≡ false) xs i) same point in
    home_there l c.self.inside.words ps i c.self.invariant.0 c.if-location-self.false (search rules)
    (λ j d lt. up_to (get_or ps j d).end l (here.0 j d (omega arith) lt))
    (λ j d ge lt. beyond (get_or ps j d).end l (here.1 j d ge lt))
    (record { kind = kind.Map; stripes = 0; end = 0 })
    ∙ ap (λ (v : BlocksView). home_in v l) c.self.view_is
