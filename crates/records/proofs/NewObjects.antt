-- Objects of different names are read as what they spell, and nothing else is.
use Rattle.std.proofs.{Common.{◌≡◌, ℕ, zero, suc, ◌+◌, ◌≤◌, ◌<◌, ◌==◌, get_or, inl, inr, Bool, true, false, List, [], ◌∷◌, ◌++◌, length, length-append, append_assoc, Option, Some, None, refl, sym, ap, ◌∙◌, subst, cond, arith, ◌||◌, bytes_eq}, lemmas.Bool.{le-leb, eq-eqb, eqb-true, cond_both, false_from_ne_true, or_cases}, lemmas.List.append-nil, lemmas.Slice.Eq.bytes_eq-Decides}
use Rattle.std.specs.{Cmp.Derive.both_true, List.{AllByRecursion, list_all, list_any}, Option.option_map_or}
use Rattle.sound_run.specs.declared.lock_kind.LockKind.TheVariants.{Ticket}
use Rattle.kernel_object.specs.declared.call.KParams.TheVariants.{Queue}
use Rattle.kernel_words.specs.declared.form.Form.{Form}
use Rattle.records.specs.{RecordReading.{object_at, new_object_at}, RecordText.object_words, Settings.{ObjectSettings, ObjectFits}}
use Rattle.record_lines.specs.Names.{is_name, is_letter, is_digit}
use Rattle.records.proofs.{RecordLineLaws.reads_object, JoinedObjects.{Joins, Differ, name_in, name_before, name_here, differ_more}}
use Rattle.record_lines.proofs.LineLaws.{ReadsLines}
use Rattle.kernel_words.proofs.KindLaws.Queue.{queue_expressed}

-- the name is one of theirs
abbrev is_taken : List ℕ → List ObjectSettings → Bool
is_taken name os = list_any (λ o. bytes_eq o.name name) os

-- ---- a line

if_free : (b : Bool) (p o : ObjectSettings) → ◌≡◌ {A = Option ObjectSettings} (cond b None (Some p)) (Some o) → (b ≡ false) × (p ≡ o)
if_free true p o e = absurd cc
if_free false p o e = (refl, cc)

new_some : (earlier : List ObjectSettings) (x : Option ObjectSettings) (o : ObjectSettings) → option_map_or (λ p. cond (is_taken p.name earlier) None (Some p)) x None ≡ Some o → (x ≡ Some o) × (is_taken o.name earlier ≡ false)
new_some earlier None o e = absurd cc
new_some earlier (Some p) o e = let free = if_free (is_taken p.name earlier) p o e in (ap Some free.1, sym (ap (λ q. is_taken q.name earlier) free.1) ∙ free.0)

pub reads_new : (form : Form) (earlier : List ObjectSettings) → ReadsLines (object_words form) (Joins form earlier) (new_object_at form earlier)
unfolding new_object_at
reads_new form earlier = record {
  takes = λ ws o e.
      let new = new_some earlier (object_at form ws) o e in
      let is = (reads_object form).takes ws o new.0 in
      (is.0, (is.1, new.1));
  again = λ o joins.
      ap (λ x. option_map_or (λ p. cond (is_taken p.name earlier) None (Some p)) x None) ((reads_object form).again o joins.0) ∙ ap (λ b. cond b None (Some o)) joins.1;
  plain = λ o joins. (reads_object form).plain o joins.0;
}

-- ---- a name that no object has

-- a letter that isn't this byte
other : ℕ → ℕ
other b = cond (b == 97) 98 97

other_differs : (b : ℕ) → other b ≡ b → ⊥
unfolding other
other_differs b e = go (b == 97) refl e
  where
    go : (t : Bool) → (b == 97) ≡ t → cond t 98 97 ≡ b → ⊥
    go true is e = absurd (omega (arith, eqb-true b 97 is, e))
    go false is e = let same : (b == 97) ≡ true = eq-eqb b 97 (sym e) in absurd cc

other_letter : (b : ℕ) → (is_letter (other b) || is_digit (other b)) ≡ true
unfolding other
other_letter b = cond_both (b == 97) 98 97 (λ c. (is_letter c || is_digit c) ≡ true) (λ e. refl) (λ e. refl)

-- from place i on letters that differ, one after the other, from those of the names
diagonal : ℕ → List ObjectSettings → List ℕ
diagonal i [] = []
diagonal i (o ∷ os) = other (get_or o.name i 0) ∷ diagonal (i + 1) os

diagonal_letters : (i : ℕ) (os : List ObjectSettings) → (list_all (λ c. is_letter c || is_digit c) (diagonal i os) ≡ true) × (length (diagonal i os) ≡ length os)
unfolding diagonal
diagonal_letters i [] = (refl, refl)
diagonal_letters i (o ∷ os) = let rest = diagonal_letters (i + 1) os in (both_true (other_letter (get_or o.name i 0)) rest.0, ap suc rest.1)

get_here : (front : List ℕ) (x : ℕ) (rest : List ℕ) → get_or (front ++ x ∷ rest) (length front) 0 ≡ x
get_here [] x rest = refl
get_here (y ∷ front) x rest = get_here front x rest

-- so none of them is such a name
fresh : (front : List ℕ) (os : List ObjectSettings) (i : ℕ) → i ≡ length front → is_taken (front ++ diagonal i os) os ≡ false
unfolding diagonal
fresh front [] i at = refl
fresh front (o ∷ os) i at =
    let x : ℕ = other (get_or o.name i 0) in
    let rest : List ℕ = diagonal (i + 1) os in
    let here : bytes_eq o.name (front ++ x ∷ rest) ≡ false = false_from_ne_true _ (λ e.
    let same : o.name ≡ front ++ x ∷ rest = (bytes_eq-Decides o.name (front ++ x ∷ rest)).0 e in
    other_differs (get_or o.name i 0) (sym (ap (λ l. get_or l i 0) same ∙ (ap (λ k. get_or (front ++ x ∷ rest) k 0) at ∙ get_here front x rest)))) in
    let later : is_taken (front ++ x ∷ rest) os ≡ false = ap (λ l. is_taken l os) (sym (append_assoc front (x ∷ []) rest)) ∙ fresh (front ++ x ∷ []) os (i + 1) (omega (arith, at, length-append front (x ∷ []))) in
    ap (λ b. b || is_taken (front ++ x ∷ rest) os) here ∙ later

-- an object with a new name
shown_new : (form : Form) (earlier : List ObjectSettings) → length earlier < 16 → (o : ObjectSettings) × Joins form earlier o
shown_new form earlier few =
    let letters = diagonal_letters 1 earlier in
    let name : is_name (97 ∷ diagonal 1 earlier) ≡ true = rw (letters.0, le-leb (length (diagonal 1 earlier)) 15 (omega (arith, letters.1, few))) refl in
    (record { name = 97 ∷ diagonal 1 earlier; lock = Ticket; events = 1; params = Queue 1 }, (record { name = name; events = (omega arith, omega arith); params = refl; expressed = queue_expressed form 1 }, fresh (97 ∷ []) earlier 1 refl))

-- ---- names that differ

-- a name that is taken stands somewhere
taken_at : (os : List ObjectSettings) (name : List ℕ) → is_taken name os ≡ true → (i : ℕ) × (i < length os) × (name_in os i ≡ name)
taken_at [] name e = absurd cc
taken_at (o ∷ os) name e = elim (or_cases (bytes_eq o.name name) (is_taken name os) e) [
  | inl here ↦ (0, omega arith, (bytes_eq-Decides o.name name).0 here)
  | inr later ↦ (let at = taken_at os name later in (suc at.0, omega (arith, at.1), at.2))
]

-- of objects whose names differ, one's name is none of the earlier
pub free : (front os : List ObjectSettings) (o : ObjectSettings) → Differ (front ++ o ∷ os) → is_taken o.name front ≡ false
free front os o differ = false_from_ne_true (is_taken o.name front) (λ e.
    let longer = length-append front (o ∷ os) in
    let at = taken_at front o.name e in
    let less = at.1 in
    let one : at.0 ≡ length front = differ at.0 (length front) (omega (arith, less, longer)) (omega (arith, longer)) (name_before front (o ∷ os) at.0 less ∙ (at.2 ∙ sym (name_here front os o))) in
    omega (arith, one, less))

-- so many objects more, each with a new name
pub more_new : (form : Form) (n : ℕ) (front : List ObjectSettings) → length front + n ≤ 16 → Differ front → (os : List ObjectSettings) × (length os ≡ n) × Differ (front ++ os) × AllByRecursion (ObjectFits form) os
more_new form zero front few differ = ([], refl, subst Differ (sym (append-nil front)) differ, tt)
more_new form (suc n) front few differ =
    let one = shown_new form front (omega (arith, few)) in
    let rest = more_new form n (front ++ one.0 ∷ []) (omega (arith, few, length-append front (one.0 ∷ []))) (differ_more front one.0 differ one.1.1) in
    (one.0 ∷ rest.0, ap suc rest.1, subst Differ (append_assoc front (one.0 ∷ []) rest.0) rest.2, (one.1.0, rest.3))

-- ---- what a reader answers

-- an object whose name is one of theirs
pub new_taken : (form : Form) (os : List ObjectSettings) (ws : List (List ℕ)) (o : ObjectSettings) → object_at form ws ≡ Some o → list_any (λ e. bytes_eq e.name o.name) os ≡ true → None ≡ new_object_at form os ws
unfolding new_object_at
new_taken form os ws o e taken = rw (e, taken) refl

-- an object whose name is none of theirs
pub new_free : (form : Form) (os : List ObjectSettings) (ws : List (List ℕ)) (o : ObjectSettings) → object_at form ws ≡ Some o → list_any (λ e. bytes_eq e.name o.name) os ≡ false → Some o ≡ new_object_at form os ws
unfolding new_object_at
new_free form os ws o e free = rw (e, free) refl
