use Rattle.tx_machine.proofs.AnswerBound.{step_other}
use Rattle.tx_machine.proofs.Cells.{step_cell, step_becomes, step_learns, ask_cell}
use Rattle.tx_machine.proofs.laws.one_word.Goals as goal

pub returns : goal.returns
returns c = record {
  others = λ s a d ne. step_cell s a (s.actors a) (s.actors a).place d ne;
  own = λ s a d h. step_becomes s a (s.actors a) (s.actors a).place d h;
  actor = λ s a d h. step_learns s a (s.actors a) (s.actors a).place d h;
  actors = λ s a b ne. step_other s a b ne;
  ask = λ s a request d. ask_cell s a request d;
}
