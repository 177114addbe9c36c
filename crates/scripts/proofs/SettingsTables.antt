-- Values of settings, as they are seen in a TOML table.
use Rattle.std.proofs.Common.{◌≡◌, ℕ, suc, ◌+◌, ◌<◌, Bool, true, false, List, [], ◌∷◌, ◌++◌, append_assoc, append-nil, length, Option, Some, None, drop, get_or, Ok, Err, IfOk, IfErr, IsUtf8, Result, String, Global, string_bytes, refl, ap, sym, ◌∙◌, ◌&&◌, if◌then◌else◌, IsErrAnd, bytes_eq}
use Rattle.std.specs.{List.{list_all, list_any}, Map.keys_of, Option.{is_some, option_map_or}}
use Rattle.toml.proofs.Views.{items_view-drop, Entry}
use Rattle.toml.specs.{Data.{Data, Items, no_items, item, as_integer}, Parse.parse_document, View.{view, items_view, members_view}, declared.value.Value.Value}
use Rattle.records.specs.Settings.{ObjectSettings, Settings}
use Rattle.scripts.specs.{declared.settings.fault.BadSettings.BadSettings, declared.settings.fault.Cause.Cause, declared.settings.fault.SettingsPlace.SettingsPlace, declared.settings.fault.SettingsFault.SettingsFault, declared.settings.fault.SettingsFault.TheVariants.{OutOfMemory, Refused}, declared.settings.fault.SettingsKey.SettingsKey, KindKeys.Pool.{are_integers, quota_from, each_quota}, SettingsKeys.{count_items, at_key, key_word, has_only}, SettingsText.{object_from, objects_from, settings_of, Settles, NamesFirstFault}}
use Rattle.record_lines.specs.Then.{◌>>=◌, ok_map}

-- an array has as many items as values
pub items_counted : (vs : List Value) → count_items (items_view vs) ≡ length vs
items_counted [] = refl
items_counted (v ∷ vs) = ap suc (items_counted vs)

-- whether it is seen as an integer
abbrev pub is_integer : Value → Bool
is_integer v = is_some (as_integer (view v))

is_some_is : {X : Type 0} (o : Option X) → is_some o ≡ option_map_or (λ x. true) o false
is_some_is (Some x) = refl
is_some_is None = refl

-- an array of integers, value by value
pub integers_all : (vs : List Value) → list_all is_integer vs ≡ are_integers (items_view vs)
unfolding are_integers
integers_all [] = refl
integers_all (v ∷ vs) = rw (is_some_is (as_integer (view v)), integers_all vs) refl

pub at_map : {A B : Type 0} (f : A → B) (place : SettingsPlace) (key : SettingsKey) (r : Result A Cause) → ok_map f (at_key place key r) ≡ at_key place key (ok_map f r)
unfolding at_key
at_map f place key (Ok x) = refl
at_map f place key (Err e) = refl

pub at_ok : {A : Type 0} (P : A → Type 0) (place : SettingsPlace) (key : SettingsKey) (r : Result A Cause) → IfOk r P → IfOk (at_key place key r) P
unfolding at_key
at_ok P place key (Ok x) p = p
at_ok P place key (Err e) p = tt

-- each of the names is one of the keys
abbrev pub all_keys : List SettingsKey → List (String Global) → Bool
all_keys keys names = list_all (λ name. list_any (λ key. bytes_eq (key_word key) (string_bytes name)) keys) names

-- the keys of a table, one by one
pub each_key : (keys : List SettingsKey) (es : List Entry) → has_only keys (members_view es) ≡ all_keys keys (keys_of es)
unfolding has_only
each_key keys [] = refl
each_key keys (e ∷ es) = ap (λ b. list_any (λ key. bytes_eq (key_word key) (string_bytes e.0)) keys && b) (each_key keys es)

-- a name that is one of the keys is passed over
pub key_then : (keys : List SettingsKey) (names rest : List (String Global)) (name : String Global) (text : List ℕ) → names ≡ name ∷ rest → text ≡ string_bytes name → list_any (λ key. bytes_eq (key_word key) text) keys ≡ true → all_keys keys names ≡ all_keys keys rest
key_then keys names rest name text is same known =
    ap (all_keys keys) is ∙ ap (λ b. b && all_keys keys rest) (ap (λ t. list_any (λ key. bytes_eq (key_word key) t) keys) (sym same) ∙ known)

-- a name that isn't fails them all
pub key_fails : (keys : List SettingsKey) (names rest : List (String Global)) (name : String Global) (text : List ℕ) → names ≡ name ∷ rest → text ≡ string_bytes name → list_any (λ key. bytes_eq (key_word key) text) keys ≡ false → all_keys keys names ≡ false
key_fails keys names rest name text is same known =
    ap (all_keys keys) is ∙ ap (λ b. b && all_keys keys rest) (ap (λ t. list_any (λ key. bytes_eq (key_word key) t) keys) (sym same) ∙ known)

-- the values from a place on
pub item_there : (vs : List Value) (i : ℕ) (v : Value) → i < length vs → v ≡ get_or vs i v → items_view (drop i vs) ≡ item (view v) (items_view (drop (i + 1) vs))
item_there vs i v less is = items_view-drop vs i v less ∙ ap (λ x. item (view x) (items_view (drop (i + 1) vs))) (sym is)

-- an object more
pub objects_more : (os : List ObjectSettings) (d : Data) (ds : Items) (o : ObjectSettings) → object_from os d ≡ Ok o → objects_from os (item d ds) ≡ objects_from (os ++ o ∷ []) ds
unfolding objects_from
objects_more os d ds o e = rw e

-- a fault ends the reading
pub objects_none : (os : List ObjectSettings) (d : Data) (ds : Items) (fault : BadSettings) → object_from os d ≡ Err fault → objects_from os (item d ds) ≡ Err fault
unfolding objects_from
objects_none os d ds fault e = rw e

-- no value is left
pub objects_end : (os : List ObjectSettings) → objects_from os no_items ≡ Ok os
unfolding objects_from
objects_end os = refl

bind_longer : (front longer : List ℕ) (quota : ℕ) (r : Result (List ℕ) Cause) → longer ≡ front ++ quota ∷ [] → ((r >>= λ more. Ok (quota ∷ more)) >>= λ more. Ok (front ++ more)) ≡ (r >>= λ more. Ok (longer ++ more))
bind_longer front longer quota (Ok more) same = ap Ok (sym (ap (λ l. l ++ more) same ∙ append_assoc front (quota ∷ []) more))
bind_longer front longer quota (Err e) same = refl

-- the quotas of the items, behind those in front
abbrev pub quotas_behind : List ℕ → Items → Result (List ℕ) Cause
quotas_behind front ds = each_quota ds >>= λ more. Ok (front ++ more)

-- a quota more
pub quotas_more : (front longer : List ℕ) (d : Data) (ds : Items) (quota : ℕ) → longer ≡ front ++ quota ∷ [] → quota_from d ≡ Ok quota → quotas_behind front (item d ds) ≡ quotas_behind longer ds
unfolding each_quota
quotas_more front longer d ds quota same e = rw e (bind_longer front longer quota (each_quota ds) same)

-- a cause ends the reading
pub quotas_none : (front : List ℕ) (d : Data) (ds : Items) (cause : Cause) → quota_from d ≡ Err cause → quotas_behind front (item d ds) ≡ Err cause
unfolding each_quota
quotas_none front d ds cause e = rw e refl

-- no value is left
pub quotas_end : (front : List ℕ) → quotas_behind front no_items ≡ Ok front
unfolding each_quota
quotas_end front = ap Ok (append-nil front)

-- the answer is that error
pub error_is : {X E : Type 0} (r : Result X E) (e : E) → IsErrAnd r (λ x. x ≡ e) → r ≡ Err e
error_is (Ok x) e is = absurd is
error_is (Err x) e is = ap Err is

-- a refusal says what was expected
pub refused : {X : Type 0} (r : Result X SettingsFault) (fault : BadSettings) (expected : Result X BadSettings) → IsErrAnd r (λ f. f ≡ Refused fault) → expected ≡ Err fault → Settles r expected
refused (Ok x) fault expected is e = absurd is
refused (Err f) fault expected is e = rw is e

-- a refusal of something else too
pub refused_map : {X Y : Type 0} (see : X → Y) (r : Result X SettingsFault) (fault : BadSettings) (expected : Result Y BadSettings) → IsErrAnd r (λ f. f ≡ Refused fault) → expected ≡ Err fault → Settles (ok_map see r) expected
refused_map see (Ok x) fault expected is e = absurd is
refused_map see (Err f) fault expected is e = rw is e

-- a fault of the first part is one of the whole
pub settles_first : {A X : Type 0} (fault : SettingsFault) (first : Result A BadSettings) (goes_on : A → Result X BadSettings) → Settles {X = A} (Err fault) first → Settles {X = X} (Err fault) (first >>= goes_on)
settles_first OutOfMemory first goes_on h = tt
settles_first (Refused fault) first goes_on h = rw h

-- a fault that is passed on
pub passed : {X : Type 0} (r : Result X SettingsFault) (fault : SettingsFault) (expected : Result X BadSettings) → IsErrAnd r (λ f. f ≡ fault) → Settles {X = X} (Err fault) expected → Settles r expected
passed (Ok x) fault expected is h = absurd is
passed (Err f) fault expected is h = rw is h

-- a refusal by a test says that the test failed
pub if_refused : {X Y : Type 0} (b : Bool) (x : X) (f e : BadSettings) (y : Y) → (if b then Ok x else Err f) ≡ Err e → (if b then Ok y else Err f) ≡ Err e
if_refused true x f e y h = absurd cc
if_refused false x f e y h = let same : f ≡ e = cc in ap Err same

-- and so does an answer without one
pub if_passed : {X Y : Type 0} (b : Bool) (x z : X) (f : BadSettings) (y : Y) → (if b then Ok x else Err f) ≡ Ok z → (if b then Ok y else Err f) ≡ Ok y
if_passed true x z f y h = refl
if_passed false x z f y h = absurd cc

-- the fault of a table is the first of its text
pub first_fault : (r : Result Settings SettingsFault) (bytes : List ℕ) (expected : Result Settings BadSettings) → IsUtf8 bytes → settings_of (parse_document bytes) ≡ expected → Settles r expected → IfErr r (NamesFirstFault bytes)
first_fault (Ok x) bytes expected utf8 same h = tt
first_fault (Err OutOfMemory) bytes expected utf8 same h = tt
first_fault (Err (Refused fault)) bytes expected utf8 same h = ((λ u. same ∙ h), (λ bad. absurd (bad utf8)))

-- what was found is what was expected
pub found_ok : {X U : Type 0} (r : Result X SettingsFault) (expected spelled : Result X BadSettings) → U → spelled ≡ expected → Settles r expected → IfOk r (λ x. U × (spelled ≡ Ok x))
found_ok (Ok x) expected spelled u same h = (u, same ∙ h)
found_ok (Err f) expected spelled u same h = tt
