-- What a kind of object is: the record that each kind gives one value of.
use Rattle.std.specs.Prelude.{ℕ, Bool, List}
use Rattle.kernel_object.specs.declared.call.KReply.{KReply}

pub record KindDefinition : Type 1 where
  -- what an object is opened with
  pub Params : Type 0
  pub State : Type 0
  pub Call : Type 0
  -- whether an object can be opened with the parameters
  pub in_range : Params → Bool
  -- a new object
  pub opening : Params → State
  -- the state afterwards, and the reply with the text of the kind's own
  pub answer : State → Call → State × KReply
  -- the word that stands for the kind
  pub word : List ℕ
