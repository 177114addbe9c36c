-- How a kind of object is spelled: the record that each kind gives one value of.
use Rattle.std.specs.Prelude.{ℕ, List, Option}
use Rattle.kernel_object.specs.Kinds.Definition.{KindDefinition}
use Rattle.kernel_words.specs.{declared.form.Form.Form, declared.form.Form.TheVariants.{One, Two}, Row.Row}

pub record KindText (d : KindDefinition) : Type 1 where
  -- record 1 expresses these parameters
  pub ExpressedByFirst : d.Params → Type 0
  -- how parameters are spelled behind the kind's word
  pub params_words : Form → d.Params → List (List ℕ)
  -- the parameters that are next, and the words behind them
  pub params_at : Form → List (List ℕ) → Option (d.Params × List (List ℕ))
  -- how a call is spelled
  pub row : d.Call → Row
  -- the call of the same word with these numbers
  pub filled : d.Call → List ℕ → d.Call
  -- a call of each word
  pub samples : List d.Call

-- the form expresses these parameters of the kind
abbrev pub Expresses : {d : KindDefinition} → KindText d → Form → d.Params → Type 0
Expresses t Two p = Unit {0}
Expresses t One p = t.ExpressedByFirst p
