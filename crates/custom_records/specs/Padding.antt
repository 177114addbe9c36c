-- That `==` on what is said is equality. It is proved here, as the laws of a trait cite specs/ alone; nothing in it has to be believed.
use Rattle.std.proofs.{Common.{◌≡◌, ℕ, ◌-◌, ◌==◌, Bool, true, List, length, replicate, take, sym, ap, ◌∙◌, ◌&&◌, bytes_eq}, lemmas.Bool.{and_parts, eqb-true}, lemmas.Slice.Eq.bytes_eq-Decides, Math.Seq.take-append_seam}
use Rattle.custom_records.specs.{declared.object.CustomReply.CustomReply, Said.{Said, padded}}

-- a list is known by its array and its length
pub same_padded : (n : ℕ) (a b : List ℕ) → padded n a ≡ padded n b → length a ≡ length b → a ≡ b
same_padded n a b arrays lengths = sym (take-append_seam a (replicate (n - length a) 0)) ∙ (ap (λ k. take k (padded n a)) lengths ∙ (ap (take (length b)) arrays ∙ take-append_seam b (replicate (n - length b) 0)))

-- what is said is known by its arrays and their lengths
pub same_said : (a b : Said) → (bytes_eq (padded 16 a.word) (padded 16 b.word) && (bytes_eq (padded 6 a.numbers) (padded 6 b.numbers) && ((length a.word == length b.word) && (length a.numbers == length b.numbers)))) ≡ true → a ≡ b
same_said a b e =
    let first = and_parts (bytes_eq (padded 16 a.word) (padded 16 b.word)) (bytes_eq (padded 6 a.numbers) (padded 6 b.numbers) && ((length a.word == length b.word) && (length a.numbers == length b.numbers))) e in
    let second = and_parts (bytes_eq (padded 6 a.numbers) (padded 6 b.numbers)) ((length a.word == length b.word) && (length a.numbers == length b.numbers)) first.1 in
    let third = and_parts (length a.word == length b.word) (length a.numbers == length b.numbers) second.1 in
    let words = same_padded 16 a.word b.word ((bytes_eq-Decides (padded 16 a.word) (padded 16 b.word)).0 first.0) (eqb-true (length a.word) (length b.word) third.0) in
    let numbers = same_padded 6 a.numbers b.numbers ((bytes_eq-Decides (padded 6 a.numbers) (padded 6 b.numbers)).0 second.0) (eqb-true (length a.numbers) (length b.numbers) third.1) in
    λ i. record { word = words i; numbers = numbers i }

-- what is said of two words and numbers by their arrays
abbrev pub said_eq : Said → Said → Bool
said_eq a b = bytes_eq (padded 16 a.word) (padded 16 b.word) && (bytes_eq (padded 6 a.numbers) (padded 6 b.numbers) && ((length a.word == length b.word) && (length a.numbers == length b.numbers)))

-- a reply is known by what is said and by whether it refuses
pub same_reply : (a b : CustomReply) → (said_eq a.said b.said ≡ true) × (a.refuses ≡ b.refuses) → a ≡ b
same_reply a b parts =
    let said = same_said a.said b.said parts.0 in
    λ i. record { said = said i; refuses = parts.1 i }
