-- What was read, or a fault.
use Rattle.std.specs.Prelude.{Result, Ok, Err}

-- go on with what was read, or keep the first fault
infixl 10 ◌>>=◌
abbrev pub ◌>>=◌ : {A B F : Type 0} → Result A F → (A → Result B F) → Result B F
(Ok x) >>= f = f x
(Err e) >>= f = Err e

-- what was found, as it is seen
abbrev pub ok_map : {A B F : Type 0} → (A → B) → Result A F → Result B F
ok_map f (Ok x) = Ok (f x)
ok_map f (Err e) = Err e
