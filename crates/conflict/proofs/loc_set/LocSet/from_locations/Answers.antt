use Rattle.std.proofs.Common.{ℕ, List, IsPermutation, length, ap, ◌∙◌, subst}
use Rattle.conflict.proofs.SortLemmas.{kept_rises, kept_members}
use Rattle.conflict.proofs.loc_set.LocSet.from_locations.Goals as goal

pub invariant_of-result : goal.invariant_of-result
invariant_of-result c = kept_rises c.args.locations.items c.sort_unstable.new.self c.dedup.new.self.items
    (c.sort_unstable.ensures.len ∙ ap length c.as_mut_slice.ensures.value) c.sort_unstable.ensures.sorted c.dedup.ensures.items

pub returns : goal.returns
returns c =
    let xs = c.args.locations.items in
    let ws = c.sort_unstable.new.self in
    let same = c.sort_unstable.ensures.len ∙ ap length c.as_mut_slice.ensures.value in
    let moved = subst (λ (zs : List ℕ). IsPermutation zs ws) c.as_mut_slice.ensures.value c.sort_unstable.ensures.permutation in
    record {
      members = λ location. kept_members xs ws c.dedup.new.self.items location same moved c.dedup.ensures.items;
      rising = kept_rises xs ws c.dedup.new.self.items same c.sort_unstable.ensures.sorted c.dedup.ensures.items;
    }
