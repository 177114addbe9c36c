-- Words and numbers are read as what they are, and nothing else is.
use Rattle.std.proofs.{Common.{◌≡◌, ℕ, ◌<◌, ◌≤◌, ◌^◌, true, Option, Some, None, List, [], ◌∷◌, ◌++◌, refl, sym, append_assoc, ◌∙◌, ap, subst, arith, decimal, IfSome, IfNone, bytes_eq}, lemmas.Fmt.decimal_by_steps, lemmas.Slice.Eq.bytes_eq-Decides}
use Rattle.record_lines.specs.{Reading.{◌>>=◌, number_in, word_at, number_at, key_at}, Words.IsPlain}
use Rattle.record_lines.proofs.Cuts.{number_takes, number_again}

-- what holds of a value that is there
pub if_some : {X : Type 0} (Q : X → Type 0) (o : Option X) → ((x : X) → o ≡ Some x → Q x) → IfSome o Q
if_some Q None h = tt
if_some Q (Some x) h = h x refl

-- what follows of a value that is there
pub some_map : {X : Type 0} (P Q : X → Type 0) (o : Option X) → ((x : X) → P x → Q x) → IfSome o P → IfSome o Q
some_map P Q None law is = tt
some_map P Q (Some x) law is = law x is

-- what is so stands where there is no value
pub if_none : {X P : Type 0} (o : Option X) → P → IfNone o P
if_none None p = p
if_none (Some x) p = tt

-- what a step that goes on gives, in two ways
pub bind_some : {A B P : Type 0} (o : Option A) (f : A → Option B) (y : B) → (o >>= f) ≡ Some y → ((x : A) → o ≡ Some x → f x ≡ Some y → P) → P
bind_some None f y e k = absurd cc
bind_some (Some x) f y e k = k x refl e

-- one value more in front of those that are read
pub bind_grown : {T R : Type 0} (o : Option (List T × R)) (front longer : List T) (x : T) → longer ≡ front ++ x ∷ [] → let put : List T → List T × R → Option (List T × R) = λ xs more. Some (xs ++ more.0, more.1) in
    ◌≡◌ {A = Option (List T × R)} (◌>>=◌ {A = List T × R} {B = List T × R} (◌>>=◌ {A = List T × R} {B = List T × R} o (put (x ∷ []))) (put front)) (◌>>=◌ {A = List T × R} {B = List T × R} o (put longer))
bind_grown None front longer x grown = refl
bind_grown (Some more) front longer x grown = ap (λ l. Some (l, more.1)) (sym (append_assoc front (x ∷ []) more.0) ∙ ap (λ l. l ++ more.0) (sym grown))

pub plain_both : (a b : List ℕ) → IsPlain a → IsPlain b → IsPlain (a ++ b)
plain_both [] b p q = q
plain_both (x ∷ a) b p q = (p.0, plain_both a b p.1 q)

pub plain_decimal : (n : ℕ) → n < 2 ^ 64 → IsPlain (decimal n)
plain_decimal n fits = decimal_by_steps (λ n ds. IsPlain ds) (λ n h. (omega arith, tt)) (λ n ds h p. plain_both ds _ p (omega arith, tt)) n fits

pub same : (a b : List ℕ) → bytes_eq a b ≡ true → a ≡ b
same a b e = (bytes_eq-Decides a b).0 e

pub number_at_takes : (high n : ℕ) (ws rest : List (List ℕ)) → number_at high ws ≡ Some (n, rest) → (ws ≡ decimal n ∷ rest) × (n ≤ high)
unfolding number_at word_at
number_at_takes high n [] rest e = absurd cc
number_at_takes high n (w ∷ ws) rest e = bind_some (number_in high w) (λ m. Some (m, ws)) (n, rest) e (λ m found is.
    let pair : ◌≡◌ {A = ℕ × List (List ℕ)} (m, ws) (n, rest) = cc in
    let number : m ≡ n = ap (λ p. p.0) pair in
    let left : ws ≡ rest = ap (λ p. p.1) pair in
    let takes = number_takes high w m found in
    (ap (λ v. v ∷ ws) (takes.0 ∙ ap decimal number) ∙ ap (λ l. decimal n ∷ l) left, subst (λ (k : ℕ). k ≤ high) number takes.1))

pub number_at_again : (high n : ℕ) (rest : List (List ℕ)) → n ≤ high → n < 2 ^ 64 → number_at high (decimal n ∷ rest) ≡ Some (n, rest)
unfolding number_at word_at
number_at_again high n rest hi fits = ap (λ o. o >>= λ m. Some (m, rest)) (number_again high n hi fits)

-- the word that is next is the key
pub key_is : (key : List ℕ) (ws rest : List (List ℕ)) (word : List ℕ) → word_at ws ≡ Some (word, rest) → word ≡ key → Some rest ≡ key_at key ws
unfolding key_at
key_is key ws rest word next same = sym (rw (next, (bytes_eq-Decides word key).1 same) refl)

-- the word that was read stands in front
pub word_in_front : (ws rest : List (List ℕ)) (word : List ℕ) → word_at ws ≡ Some (word, rest) → ws ≡ word ∷ rest
unfolding word_at
word_in_front [] rest word next = absurd cc
word_in_front (w ∷ ws) rest word next = let both : ◌≡◌ {A = List ℕ × List (List ℕ)} (w, ws) (word, rest) = cc in ap (λ p. p.0 ∷ p.1) both
