use Rattle.judge.proofs.SomeModel.{some_model}
use Rattle.judge.proofs.model_law.some_model_has_the_counts.Goals as goal

pub returns : goal.returns
returns c = λ r counts fit none. some_model r counts fit none
