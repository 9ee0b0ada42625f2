use Rattle.std.proofs.Common.{◌≡◌, ◌++◌, ◌∷◌, [], drop, cond, take, sym, ap, subst, ◌∙◌, arith, ◌==◌, true, false}
use Rattle.std.specs.FinMap as map
use Rattle.std.specs.Cmp.{nat_cmp_total}
use Rattle.std.specs.Ordering.{nat_cmp}
use Rattle.std.specs.FinMap.Entries.{is_sorted-put}
use Rattle.std.proofs.lemmas.Bool.Decides.{nat_tests}
use Rattle.seq_model.specs.Counts.{with_copies}
use Rattle.seq_model.specs.Entries.{IsRising}
use Rattle.base_pq.specs.Laid.{with_number}
use Rattle.seq_model.proofs.EntryLemmas.{insert_of, remove_of, rising_without}
use Rattle.base_pq.proofs.MergeLemmas.{below_left, below_put, put_laid, rising_after, without_laid}
use Rattle.base_pq.proofs.merge.lay_one.Goals.{then-zeros-via-then-zeros, then-zeros-via-else-zeros+then-count-ne0}
use Rattle.base_pq.proofs.merge.lay_one.Goals as goal

pub parted-at-requires : goal.parted-at-requires
parted-at-requires c = rising_after c.args.made.now.items c.args.rest.now c.requires.rising

pub returns-in_ok-push-clause-rising : goal.returns-in_ok-push-clause-rising
returns-in_ok-push-clause-rising c =
    let made = c.args.made.now.items in
    let rest = c.args.rest.now in
    let before = c.in_ok-extend_from_slice.ensures.items ∙ ap (λ k. made ++ take k rest) c.parted-at.ensures.before in
    let now = c.in_ok-push.ensures.items ∙ ap (λ t. t ++ (c.args.element, c.args.count) ∷ []) before in
    subst IsRising (sym (ap (λ k. c.push.new.self.items ++ drop k rest) c.parted-at.ensures.used
    ∙ put_laid c.args.element c.args.count made c.push.new.self.items rest c.requires.below now))
    (is_sorted-put nat_cmp nat_cmp_total c.args.element c.args.count (made ++ rest) c.requires.rising)

pub returns-in_ok-push-clause-made : goal.returns-in_ok-push-clause-made
returns-in_ok-push-clause-made c =
    let made = c.args.made.now.items in
    let rest = c.args.rest.now in
    let before = c.in_ok-extend_from_slice.ensures.items ∙ ap (λ k. made ++ take k rest) c.parted-at.ensures.before in
    let now = c.in_ok-push.ensures.items ∙ ap (λ t. t ++ (c.args.element, c.args.count) ∷ []) before in
    let m = map.from_sorted {R = nat_cmp} (made ++ rest) in
    let put = map.insert m c.args.element c.args.count in
    let out = map.remove m c.args.element in
    let number : put ≡ with_number c.args.zeros m c.args.element c.args.count = elim c.then-zeros.branch [
      | then-zeros-via-then-zeros w ↦ ap (λ b. cond b put (with_copies m c.args.element c.args.count)) (sym w.if-zeros.true)
      | then-zeros-via-else-zeros+then-count-ne0 w ↦ (
          let some : (c.args.count == 0) ≡ false = grind (arith, nat_tests, w.if-count-ne0.true) in
          λ i. cond (sym w.if-zeros.false i) put (cond (sym some i) out put))
    ] in
    ap map.from_sorted (ap (λ k. c.push.new.self.items ++ drop k rest) c.parted-at.ensures.used
    ∙ put_laid c.args.element c.args.count made c.push.new.self.items rest c.requires.below now)
    ∙ insert_of c.args.element c.args.count (made ++ rest) c.requires.rising ∙ number

pub returns-in_ok-push-clause-below : goal.returns-in_ok-push-clause-below
returns-in_ok-push-clause-below c =
    let made = c.args.made.now.items in
    let rest = c.args.rest.now in
    let before = c.in_ok-extend_from_slice.ensures.items ∙ ap (λ k. made ++ take k rest) c.parted-at.ensures.before in
    let now = c.in_ok-push.ensures.items ∙ ap (λ t. t ++ (c.args.element, c.args.count) ∷ []) before in
    below_put c.args.element c.args.count made c.push.new.self.items rest c.requires.below now

pub returns-else-count-ne0-clause-rising : goal.returns-else-count-ne0-clause-rising
returns-else-count-ne0-clause-rising c =
    let made = c.args.made.now.items in
    let rest = c.args.rest.now in
    let s = rising_after made rest c.requires.rising in
    let before = c.in_ok-extend_from_slice.ensures.items ∙ ap (λ k. made ++ take k rest) c.parted-at.ensures.before in
    subst IsRising (sym (ap (λ k. c.extend_from_slice.new.self.items ++ drop k rest) c.parted-at.ensures.used
    ∙ without_laid c.args.element made c.extend_from_slice.new.self.items rest s c.requires.below before))
    (rising_without c.args.element (made ++ rest) c.requires.rising)

pub returns-else-count-ne0-clause-made : goal.returns-else-count-ne0-clause-made
returns-else-count-ne0-clause-made c =
    let made = c.args.made.now.items in
    let rest = c.args.rest.now in
    let s = rising_after made rest c.requires.rising in
    let before = c.in_ok-extend_from_slice.ensures.items ∙ ap (λ k. made ++ take k rest) c.parted-at.ensures.before in
    let none : (c.args.count == 0) ≡ true = grind (arith, nat_tests, c.if-count-ne0.false) in
    let m = map.from_sorted {R = nat_cmp} (made ++ rest) in
    let put = map.insert m c.args.element c.args.count in
    let out = map.remove m c.args.element in
    ap map.from_sorted (ap (λ k. c.extend_from_slice.new.self.items ++ drop k rest) c.parted-at.ensures.used
    ∙ without_laid c.args.element made c.extend_from_slice.new.self.items rest s c.requires.below before)
    ∙ remove_of c.args.element (made ++ rest) c.requires.rising
    ∙ (λ i. cond (sym c.if-zeros.false i) put (cond (sym none i) out put))

pub returns-else-count-ne0-clause-below : goal.returns-else-count-ne0-clause-below
returns-else-count-ne0-clause-below c =
    let made = c.args.made.now.items in
    let rest = c.args.rest.now in
    let before = c.in_ok-extend_from_slice.ensures.items ∙ ap (λ k. made ++ take k rest) c.parted-at.ensures.before in
    below_left c.args.element made c.extend_from_slice.new.self.items rest c.requires.below before
