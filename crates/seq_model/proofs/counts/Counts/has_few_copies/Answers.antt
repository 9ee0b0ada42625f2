use Rattle.std.proofs.Common.{subst, sym, ◌∙◌, ap, Bool, ℕ}
use Rattle.std.specs.FinMap.{entries}
use Rattle.std.specs.Prelude.{IsTrue, ◌↔◌, nat_le}
use Rattle.std.specs.List.{list_all}
use Rattle.seq_model.specs.Counts.{HasFewCopies}
use Rattle.seq_model.specs.declared.limits.TheConstants.{COPY_LIMIT}
use Rattle.seq_model.proofs.CountsLemmas.{few_tested}
use Rattle.seq_model.proofs.counts.Counts.has_few_copies.Goals as goal

pub returns : goal.returns
returns c =
    let P : Bool → Type 0 = λ b. IsTrue b ↔ HasFewCopies c.args.self.now in
    subst P (sym (c.are_few.ensures ∙ ap (list_all (λ (e : ℕ × ℕ). nat_le e.1 COPY_LIMIT)) (ap entries c.self.view_is)))
    (few_tested c.args.self.now)
