-- The four kinds of objects of the kernel, as a model.
use Rattle.std.specs.{Prelude.{ℕ, Bool, true, false, ◌&&◌, if◌then◌else◌, List, [], ◌∷◌, Option, Some, None}, Option.option_map_or, Str.bytes_eq}
use Rattle.kernel_object.specs.{declared.call.KCall.KCall, declared.call.KParams.KParams, declared.call.KParams.TheVariants.{Queue, Pool, Console, Sched}, declared.call.KReply.KReply, declared.object.KernelObject.KernelObject, declared.kind.Kind.Kind, Kernel.{kernel_in_range, kernel_opening, kernel_answer}, KindWords.kind_of}
use Rattle.custom_records.specs.{Custom.CustomStep, Said.Said}
use Rattle.kernel_words.specs.{declared.tables.field.Field.Field, Row.{in_range, sample_at, values}, Rows.{call_row, call_samples, call_filled, reply_row}}
use Rattle.record_lines.specs.Reading.{◌>>=◌}

-- what an object of that kind is opened with by these numbers
abbrev pub params_from : Kind → List ℕ → Option KParams
params_from Kind.Queue (n ∷ []) = Some (Queue n)
params_from Kind.Pool (n ∷ quotas) = Some (Pool (record { pages = n; quotas = quotas }))
params_from Kind.Console (n ∷ []) = Some (Console n)
params_from Kind.Sched (n ∷ m ∷ []) = Some (Sched (record { threads = n; channels = m }))
params_from kind numbers = None

-- that, if an object can be opened so
abbrev pub opened_with : KParams → Option KParams
opened_with p = if kernel_in_range p then Some p else None

-- what an object of that kind is opened with by these numbers, if one can be
abbrev pub opened_from : Kind → List ℕ → Option KParams
opened_from kind numbers = params_from kind numbers >>= λ p. opened_with p

-- what the object is opened with, if its kind is one of the four
unfoldable pub params_of : List ℕ → List ℕ → Option KParams
params_of kind numbers = kind_of kind >>= λ k. opened_from k numbers

-- there are as many numbers as fields, each in its field's range
abbrev pub are_in_ranges : List Field → List ℕ → Bool
are_in_ranges [] [] = true
are_in_ranges [] (n ∷ ns) = false
are_in_ranges (f ∷ fs) [] = false
are_in_ranges (f ∷ fs) (n ∷ ns) = in_range (record f { value = n }) && are_in_ranges fs ns

-- the call of the sample's word with these numbers, if they are those of such a call
abbrev pub with_numbers : KCall → List ℕ → Option KCall
with_numbers sample numbers = if are_in_ranges (call_row sample).fields numbers then Some (call_filled sample numbers) else None

-- the call that is said, if it is one
unfoldable pub call_of : Said → Option KCall
call_of s = sample_at call_row call_samples s.word >>= λ sample. with_numbers sample s.numbers

-- how a reply is said
abbrev pub said_of : KReply → Said
said_of r = record { word = (reply_row r).word; numbers = values (reply_row r) }

-- whether that was said
abbrev pub is_said : Said → Said → Bool
is_said a b = bytes_eq a.word b.word && bytes_eq a.numbers b.numbers

-- whether the step's reply is the object's answer to its call
abbrev pub is_answer : KernelObject → CustomStep → Bool
is_answer o s = option_map_or (λ c. is_said (said_of (kernel_answer o c).1) s.reply.said) (call_of s.call) false

-- whether the last of these steps is the object's answer, if those before it are calls
abbrev pub answers_last : KernelObject → List CustomStep → Bool
answers_last o [] = true
answers_last o (s ∷ []) = is_answer o s
answers_last o (s ∷ t ∷ steps) = option_map_or (λ c. answers_last (kernel_answer o c).0 (t ∷ steps)) (call_of s.call) false

-- the model: the last step is the answer of an object of that kind and these numbers
abbrev pub kernel_right : List ℕ → List ℕ → List CustomStep → Bool
kernel_right kind numbers steps = option_map_or (λ p. answers_last (kernel_opening p) steps) (params_of kind numbers) false
