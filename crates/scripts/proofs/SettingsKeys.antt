-- What was read of a settings' table by its keys.
use Rattle.std.proofs.{Common.{◌≡◌, ℕ, ℤ, pos, negsuc, ◌≤◌, Bool, true, false, ◌&&◌, nat_le, Option, Some, None, Ok, Err, Result, refl, subst, ◌⊎◌, inl, inr, if◌then◌else◌, int_le, nat_abs}, lemmas.Bool.{and_parts, leb-true, le-leb}}
use Rattle.std.specs.Option.{option_map_or}
use Rattle.toml.specs.Data.{Data, Members, get_member, as_integer}
use Rattle.scripts.specs.{declared.settings.fault.Cause.Cause, declared.settings.fault.SettingsPlace.SettingsPlace, declared.settings.fault.SettingsKey.SettingsKey, SettingsKeys.{number_from, key_word, at_key, find_key, key_in, key_or}}
use Rattle.record_lines.specs.Then.{◌>>=◌}

-- ---- answers in parts

-- what both parts answered
pub bind_ok : {A B F : Type 0} (r : Result A F) (f : A → Result B F) (b : B) → (r >>= f) ≡ Ok b → (a : A) × (r ≡ Ok a) × (f a ≡ Ok b)
bind_ok (Ok a) f b e = (a, refl, e)
bind_ok (Err x) f b e = absurd cc

pub at_key_ok : {X : Type 0} (place : SettingsPlace) (key : SettingsKey) (r : Result X Cause) (x : X) → at_key place key r ≡ Ok x → r ≡ Ok x
unfolding at_key
at_key_ok place key (Ok y) x e = cc
at_key_ok place key (Err c) x e = absurd cc

-- what was read is of a value
pub key_ok : {X : Type 0} (place : SettingsPlace) (key : SettingsKey) (read : Data → Result X Cause) (ms : Members) (x : X) → key_in place key read ms ≡ Ok x → (d : Data) × (read d ≡ Ok x)
unfolding key_in
key_ok place key read ms x e = let both = bind_ok (find_key place key ms) (λ d. at_key place key (read d)) x e in (both.0, at_key_ok place key (read both.0) x both.2)

pub map_or_ok : {A B F : Type 0} (o : Option A) (f : A → Result B F) (fault : F) (b : B) → option_map_or f o (Err fault) ≡ Ok b → (a : A) × (o ≡ Some a) × (f a ≡ Ok b)
map_or_ok (Some a) f fault b e = (a, refl, e)
map_or_ok None f fault b e = absurd cc

pub map_or_other : {A B F : Type 0} (o : Option A) (f : A → Result B F) (other b : B) → option_map_or f o (Ok other) ≡ Ok b → ((a : A) × (f a ≡ Ok b)) ⊎ (other ≡ b)
map_or_other (Some a) f other b e = inl (a, e)
map_or_other None f other b e = inr cc

-- the test of an answer passed
pub if_ok : {A F : Type 0} (c : Bool) (r : Result A F) (fault : F) (a : A) → (if c then r else Err fault) ≡ Ok a → (c ≡ true) × (r ≡ Ok a)
if_ok true r fault a e = (refl, e)
if_ok false r fault a e = absurd cc

-- the test of a refusal failed
pub if_not : {A F : Type 0} (c : Bool) (r : Result A F) (fault : F) (a : A) → (if c then Err fault else r) ≡ Ok a → (c ≡ false) × (r ≡ Ok a)
if_not true r fault a e = absurd cc
if_not false r fault a e = (refl, e)

-- ---- numbers

pub whole : (high : ℕ) (z : ℤ) → (int_le (pos 1) z && int_le z (pos high)) ≡ true → (1 ≤ nat_abs z) × (nat_abs z ≤ high)
whole high (pos n) e = let both = and_parts (nat_le 1 n) (nat_le n high) e in (leb-true 1 n both.0, leb-true n high both.1)
whole high (negsuc n) e = absurd cc

pub number_ok : (high : ℕ) (d : Data) (n : ℕ) → number_from high d ≡ Ok n → (1 ≤ n) × (n ≤ high)
unfolding number_from
number_ok high d n e =
    let there = map_or_ok (as_integer d) _ _ n e in
    let test = if_ok (int_le (pos 1) there.0 && int_le there.0 (pos high)) (Ok (nat_abs there.0)) _ n there.2 in
    let same : nat_abs there.0 ≡ n = cc in
    subst (λ m. (1 ≤ m) × (m ≤ high)) same (whole high there.0 test.0)

-- the number of a key
pub number_in : (place : SettingsPlace) (key : SettingsKey) (high : ℕ) (ms : Members) (n : ℕ) → key_in place key (number_from high) ms ≡ Ok n → (1 ≤ n) × (n ≤ high)
number_in place key high ms n e = let there = key_ok place key (number_from high) ms n e in number_ok high there.0 n there.1

-- a number in its range passes the tests
pub one_fits : (n high : ℕ) → (1 ≤ n) × (n ≤ high) → (nat_le 1 n && nat_le n high) ≡ true
one_fits n high within = rw (le-leb 1 n within.0, le-leb n high within.1) refl

-- ---- keys that may be missing

-- what was read is of a value, or the other one
pub key_or_ok : {X : Type 0} (P : X → Type 0) (place : SettingsPlace) (key : SettingsKey) (read : Data → Result X Cause) (other : X) (ms : Members) (x : X)
    → ((d : Data) → read d ≡ Ok x → P x) → P other → key_or place key read other ms ≡ Ok x → P x
unfolding key_or
key_or_ok P place key read other ms x found missing e = elim (map_or_other (get_member (key_word key) ms) (λ d. at_key place key (read d)) other x e) [
  | inl there ↦ found there.0 (at_key_ok place key (read there.0) x there.1)
  | inr same ↦ subst P same missing
]
