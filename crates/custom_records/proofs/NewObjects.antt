-- Objects of different names are read as what they spell, and nothing else is.
use Rattle.std.proofs.{Common.{◌≡◌, ℕ, zero, suc, ◌+◌, ◌≤◌, ◌<◌, ◌==◌, nat_lt, get_or, Bool, true, false, not, filter, List, [], ◌∷◌, ◌++◌, length, length-append, append_assoc, map, Option, Some, None, cond, refl, sym, ap, ◌∙◌, subst, arith, ◌||◌, bytes_eq, codes}, lemmas.Bool.{le-leb, ltb-true, ltb-false}, Math.Seq.get_or-append_seam, lemmas.List.{append-nil, length-map, map-append}, lemmas.List.Filters.length-filter_both, lemmas.Map.Views.any-filter_same, lemmas.Slice.Eq.bytes_eq-Decides}
use Rattle.std.specs.{Cmp.Derive.both_true, List.{AllByRecursion, list_all, list_any}, Option.option_map_or}
use Rattle.custom_records.specs.{Ranges.{Differ, CustomSettingsFit}, Settings.{CustomSettings, refuses_word}, LineReading.custom_object_at, LineText.custom_object_words, CustomForm.new_object_at}
use Rattle.custom_records.proofs.{NameLaws.{free, differ_more}, LineLaws.{Reads, reads_object}}
use Rattle.record_lines.specs.{Reading.words, Names.{is_name, is_letter, is_digit}}

-- ---- a line

-- the name is one of theirs
abbrev is_taken : List ℕ → List CustomSettings → Bool
is_taken name os = list_any (λ o. bytes_eq o.name name) os

-- within its limits, and of a new name
abbrev pub Joins : List CustomSettings → CustomSettings → Type 0
Joins earlier o = CustomSettingsFit o × (is_taken o.name earlier ≡ false)

if_free : (b : Bool) (p o : CustomSettings) → ◌≡◌ {A = Option CustomSettings} (cond b None (Some p)) (Some o) → (b ≡ false) × (p ≡ o)
if_free true p o e = absurd cc
if_free false p o e = (refl, cc)

new_some : (earlier : List CustomSettings) (x : Option CustomSettings) (o : CustomSettings) → option_map_or (λ p. cond (is_taken p.name earlier) None (Some p)) x None ≡ Some o → (x ≡ Some o) × (is_taken o.name earlier ≡ false)
new_some earlier None o e = absurd cc
new_some earlier (Some p) o e = let free = if_free (is_taken p.name earlier) p o e in (ap Some free.1, sym (ap (λ (q : CustomSettings). is_taken q.name earlier) free.1) ∙ free.0)

pub reads_new : (earlier : List CustomSettings) → Reads custom_object_words (Joins earlier) (new_object_at earlier)
unfolding new_object_at
reads_new earlier = record {
  takes = λ line o e.
      let new = new_some earlier (custom_object_at (words line)) o e in
      let is = reads_object.takes line o new.0 in
      (is.0, (is.1, new.1));
  again = λ o joins.
      ap (λ x. option_map_or (λ p. cond (is_taken p.name earlier) None (Some p)) x None) (reads_object.again o joins.0) ∙ ap (λ b. cond b None (Some o)) joins.1;
  plain = λ o joins. reads_object.plain o joins.0;
}

-- ---- a word that is none of some

-- letters behind these that make none of the words
record Unused (front : List ℕ) (k : ℕ) (ws : List (List ℕ)) : Type 0 where
  rest : List ℕ
  letters : list_all (λ c. is_letter c || is_digit c) rest ≡ true
  count : length rest ≡ k
  new : refuses_word ws (front ++ rest) ≡ false

-- 2 ^ k words have no room in k letters of two
limit : ℕ → ℕ
limit zero = 1
limit (suc k) = limit k + limit k

-- a letter more, which only the words of the test have there
one_more : (front : List ℕ) (x k : ℕ) (p : ℕ → Bool) (ws : List (List ℕ)) → p x ≡ true → (is_letter x || is_digit x) ≡ true → Unused (front ++ x ∷ []) k (filter (λ w. p (get_or w (length front) 0)) ws) → Unused front (suc k) ws
one_more front x k p ws is letter u =
    let name : List ℕ = front ++ x ∷ u.rest in
    let same : (front ++ x ∷ []) ++ u.rest ≡ name = append_assoc front (x ∷ []) u.rest in
    let there : p (get_or name (length front) 0) ≡ true = ap p (get_or-append_seam front x u.rest 0) ∙ is in
    let all : refuses_word (filter (λ w. p (get_or w (length front) 0)) ws) name ≡ refuses_word ws name
    = any-filter_same (λ w. bytes_eq w name) (λ w. p (get_or w (length front) 0)) true (λ w e. ap (λ v. p (get_or v (length front) 0)) ((bytes_eq-Decides w name).0 e) ∙ there) ws in
    record { rest = x ∷ u.rest; letters = both_true letter u.letters; count = ap suc u.count; new = sym all ∙ (ap (refuses_word (filter (λ w. p (get_or w (length front) 0)) ws)) (sym same) ∙ u.new) }

-- of two letters at a place at most half of the words have one
halved : (front : List ℕ) (k : ℕ) (ws : List (List ℕ)) → length ws < limit k + limit k → ((x : ℕ) (vs : List (List ℕ)) → length vs < limit k → Unused (front ++ x ∷ []) k vs)
    → (b : Bool) → nat_lt (length (filter (λ w. get_or w (length front) 0 == 97) ws)) (limit k) ≡ b → Unused front (suc k) ws
halved front k ws few next true e = one_more front 97 k (λ b. b == 97) ws refl refl (next 97 _ (ltb-true (length (filter (λ w. get_or w (length front) 0 == 97) ws)) (limit k) e))
halved front k ws few next false e =
    let many = ltb-false (length (filter (λ w. get_or w (length front) 0 == 97) ws)) (limit k) e in
    let both = length-filter_both (λ (w : List ℕ). get_or w (length front) 0 == 97) (λ w. not (get_or w (length front) 0 == 97)) (λ w. refl) ws in
    one_more front 98 k (λ b. not (b == 97)) ws refl refl (next 98 _ (omega (arith, few, many, both)))

unused : (k : ℕ) (front : List ℕ) (ws : List (List ℕ)) → length ws < limit k → Unused front k ws
unfolding limit
unused zero front [] few = record { rest = []; letters = refl; count = refl; new = refl }
unused zero front (w ∷ ws) few = absurd (omega (arith, few))
unused (suc k) front ws few = halved front k ws few (λ x vs less. unused k (front ++ x ∷ []) vs less) (nat_lt (length (filter (λ w. get_or w (length front) 0 == 97) ws)) (limit k)) refl

-- a name that is none of few words
new_name : (ws : List (List ℕ)) → length ws < 256 → (name : List ℕ) × (is_name name ≡ true) × (refuses_word ws name ≡ false)
unfolding limit
new_name ws few =
    let u = unused 8 (97 ∷ []) ws few in
    let count = u.count in
    (97 ∷ u.rest, both_true u.letters (le-leb (length u.rest) 15 (omega (arith, count))), u.new)

-- ---- objects

-- the names of objects
abbrev pub names : List CustomSettings → List (List ℕ)
names os = map (λ (o : CustomSettings). o.name) os

-- an object has the name where it is among theirs
any_named : (os : List CustomSettings) (name : List ℕ) → list_any (λ (o : CustomSettings). bytes_eq o.name name) os ≡ refuses_word (names os) name
any_named [] name = refl
any_named (o ∷ os) name = ap (λ b. bytes_eq o.name name || b) (any_named os name)

-- an object of a new name behind the others
pub joins_more : (front : List CustomSettings) (o : CustomSettings) → Differ (names front) → Joins front o → Differ (names (front ++ o ∷ []))
joins_more front o differ joins = subst Differ (sym (map-append (λ (x : CustomSettings). x.name) front (o ∷ []))) (differ_more (names front) o.name differ (sym (any_named front o.name) ∙ joins.1))

-- of objects whose names differ one joins the earlier
pub joins_new : (front os : List CustomSettings) (o : CustomSettings) → Differ (names (front ++ o ∷ os)) → CustomSettingsFit o → Joins front o
joins_new front os o differ fits = (fits, any_named front o.name ∙ free (names front) (names os) o.name (subst Differ (map-append (λ (p : CustomSettings). p.name) front (o ∷ os)) differ))

-- an object with a new name
shown_new : (earlier : List CustomSettings) → length earlier < 256 → (o : CustomSettings) × Joins earlier o
shown_new earlier few =
    let new = new_name (names earlier) (omega (arith, few, length-map earlier (λ (o : CustomSettings). o.name))) in
    (record { name = new.0; lock = codes "a"; events = 1; kind = codes "a"; numbers = [] }, (record { name = new.1; lock = refl; events = (omega arith, omega arith); kind = refl; few = omega arith; numbers = tt }, any_named earlier new.0 ∙ new.2))

-- so many objects more, each with a new name
pub more_new : (n : ℕ) (front : List CustomSettings) → length front + n ≤ 256 → Differ (names front) → (os : List CustomSettings) × (length os ≡ n) × Differ (names (front ++ os)) × AllByRecursion CustomSettingsFit os
more_new zero front few differ = ([], refl, subst (λ l. Differ (names l)) (sym (append-nil front)) differ, tt)
more_new (suc n) front few differ =
    let one = shown_new front (omega (arith, few)) in
    let rest = more_new n (front ++ one.0 ∷ []) (omega (arith, few, length-append front (one.0 ∷ []))) (joins_more front one.0 differ one.1) in
    (one.0 ∷ rest.0, ap suc rest.1, subst (λ l. Differ (names l)) (append_assoc front (one.0 ∷ []) rest.0) rest.2, (one.1.0, rest.3))
