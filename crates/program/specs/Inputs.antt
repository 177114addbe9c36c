-- What is read of the inputs of a command, and how many openings and reads failed.
use Rattle.std.specs.{Prelude.{◌≡◌, ◌+◌, ◌-◌, ◌^◌, ◌==◌, ℕ, min, Bool, true, false, cond, List, Option, Some, Result, Ok, Err}, Borrow.Bor, Option.option_map}
use Rattle.program.specs.{Refusals.reports_read_failed, declared.refusal.Refusal.Refusal}

-- the bytes of a name, if there is one
abbrev pub bytes_of : Option (Bor (List ℕ)) → Option (List ℕ)
bytes_of name = option_map (λ n. n.now) name

-- the bytes are what stands under that name, or on standard input, where that is known
abbrev pub Reads : (Option (List ℕ) → Option (List ℕ)) → Option (List ℕ) → List ℕ → Type 0
Reads held name bytes = (all : List ℕ) → held name ≡ Some all → bytes ≡ all

-- an opening failed
abbrev pub is_failed_opening : {X E : Type 0} → Result X E → Bool
is_failed_opening (Ok x) = false
is_failed_opening (Err e) = true

-- the count after so many failed calls more, which stays at 2^64 - 1
abbrev pub counted_all : ℕ → ℕ → ℕ
counted_all calls n = cond (calls == 0) n (min (n + calls) (2 ^ 64 - 1))

-- the refusal says that an opening or a read failed
abbrev pub says_read_failed : {X : Type 0} → Result X Refusal → Bool
says_read_failed (Ok x) = false
says_read_failed (Err cause) = reports_read_failed cause
