-- What goes into a console comes out of it, in order.
use Rattle.std.proofs.{Common.{◌≡◌, ℕ, nat_lt, true, false, if◌then◌else◌, List, [], ◌∷◌, ◌++◌, length, refl, sym, ap, ◌∙◌, append_assoc}, lemmas.List.append-nil}
use Rattle.event_log.specs.{declared.event.Step.Step, Log.calls_of}
use Rattle.console_ring.specs.{State.ConsoleState, Answer.{console_answer, full_answer, front_answer}, Passing.{bytes_in, bytes_reported, bytes_out, out_with, left_after}, declared.call.ConsoleCall.ConsoleCall, declared.call.ConsoleCall.TheVariants.{Put, Get, Level}, declared.call.ConsoleReply.ConsoleReply, declared.call.ConsoleReply.TheVariants.{Ok, Dropped, Empty, Byte, Count}}

-- the first byte of a full console is dropped
full : (n : ℕ) (bytes rest : List ℕ) (b : ℕ) → rest ++ b ∷ [] ≡ out_with (full_answer record { capacity = n; bytes = bytes } b rest).1 [] ++ (full_answer record { capacity = n; bytes = bytes } b rest).0.bytes
full n bytes [] b = refl
full n bytes (first ∷ rest) b = refl

front : (n : ℕ) (bytes : List ℕ) → bytes ++ [] ≡ out_with (front_answer record { capacity = n; bytes = bytes } bytes).1 [] ++ (front_answer record { capacity = n; bytes = bytes } bytes).0.bytes
front n [] = refl
front n (first ∷ rest) = ap (λ l. first ∷ l) (append-nil rest)

-- one call
conserves : (n : ℕ) (bytes : List ℕ) (call : ConsoleCall) → bytes ++ bytes_in (call ∷ []) ≡ out_with (console_answer record { capacity = n; bytes = bytes } call).1 [] ++ (console_answer record { capacity = n; bytes = bytes } call).0.bytes
conserves n bytes (Put b) =
    let c : ConsoleState = record { capacity = n; bytes = bytes } in
    elim (nat_lt (length bytes) n) as (λ t. bytes ++ b ∷ [] ≡ out_with (if t then (record c { bytes = bytes ++ b ∷ [] }, Ok) else full_answer c b bytes).1 [] ++ (if t then (record c { bytes = bytes ++ b ∷ [] }, Ok) else full_answer c b bytes).0.bytes) [
      | true ↦ refl
      | false ↦ full n bytes bytes b
    ]
conserves n bytes Get = front n bytes
conserves n bytes Level = append-nil bytes

one_more : (call : ConsoleCall) (calls : List ConsoleCall) → bytes_in (call ∷ calls) ≡ bytes_in (call ∷ []) ++ bytes_in calls
one_more (Put b) calls = refl
one_more Get calls = refl
one_more Level calls = refl

out_first : (r : ConsoleReply) (rest : List ℕ) → out_with r rest ≡ out_with r [] ++ rest
out_first Ok rest = refl
out_first (Dropped b) rest = refl
out_first Empty rest = refl
out_first (Byte b) rest = refl
out_first (Count n) rest = refl

-- one call before others, of which `out` came out and `rest` was left
one_call : (c : ConsoleState) (call : ConsoleCall) (calls : List ConsoleCall) (out rest : List ℕ) → (console_answer c call).0.bytes ++ bytes_in calls ≡ out ++ rest → c.bytes ++ bytes_in (call ∷ calls) ≡ out_with (console_answer c call).1 out ++ rest
one_call c call calls out rest h =
    let a = console_answer c call in
    ap (λ l. c.bytes ++ l) (one_more call calls)
    ∙ (sym (append_assoc c.bytes (bytes_in (call ∷ [])) (bytes_in calls))
    ∙ (ap (λ l. l ++ bytes_in calls) (conserves c.capacity c.bytes call)
    ∙ (append_assoc (out_with a.1 []) a.0.bytes (bytes_in calls)
    ∙ (ap (λ l. out_with a.1 [] ++ l) h
    ∙ (sym (append_assoc (out_with a.1 []) out rest)
    ∙ ap (λ l. l ++ rest) (sym (out_first a.1 out)))))))

pub in_order : (c : ConsoleState) (calls : List ConsoleCall) → c.bytes ++ bytes_in calls ≡ bytes_out c calls ++ (left_after c calls).bytes
in_order c [] = append-nil c.bytes
in_order c (call ∷ calls) =
    let a = console_answer c call in
    one_call c call calls (bytes_out a.0 calls) (left_after a.0 calls).bytes (in_order a.0 calls)

-- so the steps xs lead from c to d
abbrev pub PassesOn : {O P : Type 0} → ConsoleState → List (Step O P ConsoleCall ConsoleReply) → ConsoleState → Type 0
PassesOn c xs d = c.bytes ++ bytes_in (calls_of xs) ≡ bytes_reported xs ++ d.bytes

pub one_step : {O P : Type 0} (c : ConsoleState) (x : Step O P ConsoleCall ConsoleReply) (xs : List (Step O P ConsoleCall ConsoleReply)) (d : ConsoleState) → x.reply ≡ (console_answer c x.call).1 → PassesOn (console_answer c x.call).0 xs d → PassesOn c (x ∷ xs) d
one_step c x xs d is h = one_call c x.call (calls_of xs) (bytes_reported xs) d.bytes h ∙ ap (λ r. out_with r (bytes_reported xs) ++ d.bytes) (sym is)
