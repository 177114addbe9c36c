-- A set of pages in words: what a word more, or a word less, does to the pages and to the top word; and the least page.
use Rattle.std.proofs.{Common.{◌≡◌, ◌≢◌, ℕ, ◌+◌, ◌-◌, ◌*◌, ◌/◌, ◌%◌, ◌^◌, ◌<◌, ◌≤◌, ◌==◌, Bool, true, false, not, ltb, None, Some, List, length, get_or, set, replicate, refl, sym, ap, subst, ◌∙◌, ⊎_elim, true≢false, arith}, lemmas.Bool.{cases_eq, cases_lt, lt-ltb, le-ltb, ne_eqb}, lemmas.List.{same_lists, get_or-set_same, get_or-set_other, get_or_past, length-set, length-replicate, get_or-replicate}, lemmas.List.FromFn.{get_or-map-range_with_len, length-map-range_with_len}, lemmas.List.Sums.position_or_len_is}
use Rattle.std.specs.List.{position_or_len}
use Rattle.page_pool.specs.{Bits.{has_bit, Puts, IsLeastIn}, Pages.{has_page, members, IsTopped, least_member}}
use Rattle.page_pool.proofs.Words.{none_in_zero, some_in, was_some, ones_have}

full_word : (word i : ℕ) → has_bit word i ≡ true → not (word == 0) ≡ true
full_word word i h = ap not (ne_eqb word 0 (some_in word i h))

pub at_page : (words : List ℕ) (size p : ℕ) (d : Bool) → p < size → get_or (members words size) p d ≡ has_page words p
at_page words size p d l = get_or-map-range_with_len (has_page words) 0 size p p d l (omega arith)

pub length-members : (words : List ℕ) (size : ℕ) → length (members words size) ≡ size
length-members words size = length-map-range_with_len (has_page words) 0 size

-- ---- one word is put
pub put_same : (words : List ℕ) (p new : ℕ) (b : Bool) → p / 64 < length words → Puts (get_or words (p / 64) 0) new (p % 64) b → has_page (set words (p / 64) new) p ≡ b
put_same words p new b l h = ap (λ word. has_bit word (p % 64)) (get_or-set_same words (p / 64) new 0 l) ∙ h.same

pub put_other : (words : List ℕ) (p new : ℕ) (b : Bool) → p / 64 < length words → Puts (get_or words (p / 64) 0) new (p % 64) b → (q : ℕ) → q ≢ p → has_page (set words (p / 64) new) q ≡ has_page words q
put_other words p new b l h q d =
    ⊎_elim
    (λ (e : q / 64 ≡ p / 64).
    let word : get_or (set words (p / 64) new) (q / 64) 0 ≡ new = ap (λ w. get_or (set words (p / 64) new) w 0) e ∙ get_or-set_same words (p / 64) new 0 l in
    ap (λ w. has_bit w (q % 64)) word ∙ h.others (q % 64) (λ r. d (omega (arith, e, r))) ∙ ap (λ w. has_bit (get_or words w 0) (q % 64)) (sym e))
    (λ (n : q / 64 ≢ p / 64). ap (λ w. has_bit w (q % 64)) (get_or-set_other words (p / 64) (q / 64) new 0 n))
    (cases_eq (q / 64) (p / 64))

pub members_put : (words : List ℕ) (size p new : ℕ) (b : Bool) → p < size → p / 64 < length words → Puts (get_or words (p / 64) 0) new (p % 64) b → members (set words (p / 64) new) size ≡ set (members words size) p b
members_put words size p new b in_size l h =
    let old = members words size in
    let len : length old ≡ size = length-members words size in
    same_lists (members (set words (p / 64) new) size) (set old p b)
    (length-members (set words (p / 64) new) size ∙ sym (length-set old p b ∙ len))
    (λ q d below.
    let q_in : q < size = omega (arith, below, length-members (set words (p / 64) new) size) in
    at_page (set words (p / 64) new) size q d q_in ∙
    ⊎_elim
    (λ (e : q ≡ p). ap (has_page (set words (p / 64) new)) e ∙ put_same words p new b l h ∙ sym (ap (λ i. get_or (set old p b) i d) e ∙ get_or-set_same old p b d (omega (arith, in_size, len))))
    (λ (n : q ≢ p). put_other words p new b l h q n ∙ sym (get_or-set_other old p q b d n ∙ at_page words size q d q_in))
    (cases_eq q p))

-- the top word that goes with the words after that
pub topped_put : (words : List ℕ) (top size p new new_top : ℕ) (b : Bool) → IsTopped words top size → p < size → Puts (get_or words (p / 64) 0) new (p % 64) b → Puts top new_top (p / 64) (not (new == 0)) → IsTopped (set words (p / 64) new) new_top size
topped_put words top size p new new_top b t in_size h k =
    let l : p / 64 < length words = omega (arith, t.room, in_size) in
    let len : length (set words (p / 64) new) ≡ length words = length-set words (p / 64) new in
    record {
      few = omega (arith, len, t.few);
      room = omega (arith, len, t.room);
      none_past = λ q past. put_other words p new b l h q (λ e. omega (arith, e, past, in_size)) ∙ t.none_past q past;
      topped = λ w. ⊎_elim
          (λ (e : w ≡ p / 64). ap (has_bit new_top) e ∙ k.same ∙ ap (λ word. not (word == 0)) (sym (ap (λ i. get_or (set words (p / 64) new) i 0) e ∙ get_or-set_same words (p / 64) new 0 l)))
          (λ (n : w ≢ p / 64). k.others w n ∙ t.topped w ∙ ap (λ word. not (word == 0)) (sym (get_or-set_other words (p / 64) w new 0 n)))
          (cases_eq w (p / 64));
    }

-- a page more, and a page less
pub added : (words : List ℕ) (top size p new new_top : ℕ) → IsTopped words top size → p < size → Puts (get_or words (p / 64) 0) new (p % 64) true → Puts top new_top (p / 64) true → IsTopped (set words (p / 64) new) new_top size
added words top size p new new_top t l h k =
    topped_put words top size p new new_top true t l h (subst (Puts top new_top (p / 64)) (sym (full_word new (p % 64) h.same)) k)

pub removed_last : (words : List ℕ) (top size p new new_top : ℕ) → IsTopped words top size → p < size → Puts (get_or words (p / 64) 0) new (p % 64) false → new ≡ 0 → Puts top new_top (p / 64) false → IsTopped (set words (p / 64) new) new_top size
removed_last words top size p new new_top t l h z k =
    topped_put words top size p new new_top false t l h (subst (Puts top new_top (p / 64)) (sym (ap (λ x. not (x == 0)) z)) k)

pub removed : (words : List ℕ) (top size p new : ℕ) → new < 2 ^ 64 → IsTopped words top size → p < size → Puts (get_or words (p / 64) 0) new (p % 64) false → new ≢ 0 → IsTopped (set words (p / 64) new) top size
removed words top size p new fits t l h some =
    let was = was_some (get_or words (p / 64) 0) new (p % 64) fits h some in
    let same : has_bit top (p / 64) ≡ not (new == 0) = t.topped (p / 64) ∙ ap not (ne_eqb (get_or words (p / 64) 0) 0 was ∙ sym (ne_eqb new 0 some)) in
    topped_put words top size p new top false t l h (record { same = same; others = λ _ _. refl })

-- ---- the least page
not_empty : (word : ℕ) → true ≡ not (word == 0) → word ≢ 0
not_empty word e z = absurd (true≢false (e ∙ ap (λ x. not (x == 0)) z))

empty : (word : ℕ) → false ≡ not (word == 0) → word ≡ 0
empty word e = grind (arith, e)

lower_out : (words : List ℕ) (top size w b q : ℕ) → IsTopped words top size → IsLeastIn top w → IsLeastIn (get_or words w 0) b → q < w * 64 + b → has_page words q ≡ false
lower_out words top size w b q t in_top in_word l =
    ⊎_elim
    (λ (e : q / 64 ≡ w). ap (λ i. has_bit (get_or words i 0) (q % 64)) e ∙ in_word.lower_out (q % 64) (omega (arith, e, l, in_word.below)))
    (λ (n : q / 64 ≢ w).
    let less : q / 64 < w = omega (arith, n, l, in_word.below) in
    let zero : get_or words (q / 64) 0 ≡ 0 = empty (get_or words (q / 64) 0) (sym (in_top.lower_out (q / 64) less) ∙ t.topped (q / 64)) in
    ap (λ word. has_bit word (q % 64)) zero ∙ none_in_zero (q % 64))
    (cases_eq (q / 64) w)

member_of : (words : List ℕ) (w b : ℕ) → IsLeastIn (get_or words w 0) b → has_page words (w * 64 + b) ≡ true
member_of words w b h =
    let at : (w * 64 + b) / 64 ≡ w = omega (arith, h.below) in
    let rest : (w * 64 + b) % 64 ≡ b = omega (arith, h.below) in
    ap (λ i. has_bit (get_or words i 0) ((w * 64 + b) % 64)) at ∙ ap (has_bit (get_or words w 0)) rest ∙ h.member

pub least_at : (words : List ℕ) (top size w b : ℕ) → IsTopped words top size → IsLeastIn top w → IsLeastIn (get_or words w 0) b → least_member (members words size) ≡ Some (w * 64 + b)
least_at words top size w b t in_top in_word =
    let p : ℕ = w * 64 + b in
    let len = length-members words size in
    let member = member_of words w b in_word in
    let in_size : p < size = ⊎_elim (λ (l : p < size). l) (λ (l : size ≤ p). absurd (true≢false (sym member ∙ t.none_past p l))) (cases_lt p size) in
    let at : position_or_len (λ m. m) (members words size) ≡ p = position_or_len_is (λ m. m) (members words size) p false (omega (arith, in_size, len)) (λ q l. at_page words size q false (omega (arith, l, in_size)) ∙ lower_out words top size w b q t in_top in_word l) (λ _. at_page words size p false in_size ∙ member) in
    rw (at, len, lt-ltb p size in_size) refl

pub least_none : (words : List ℕ) (top size : ℕ) → IsTopped words top size → top ≡ 0 → least_member (members words size) ≡ None
least_none words top size t z =
    let len = length-members words size in
    let zero = λ (w : ℕ). empty (get_or words w 0) (sym (ap (λ x. has_bit x w) z ∙ none_in_zero w) ∙ t.topped w) in
    let out = λ (q : ℕ). ap (λ word. has_bit word (q % 64)) (zero (q / 64)) ∙ none_in_zero (q % 64) in
    let at : position_or_len (λ m. m) (members words size) ≡ size = position_or_len_is (λ m. m) (members words size) size false (omega (arith, len)) (λ q l. at_page words size q false l ∙ out q) (λ l. absurd (omega (arith, l, len))) in
    rw (at, len, le-ltb size size (omega arith)) refl

-- the word that has the page
pub word_of : (words : List ℕ) (top size p : ℕ) (pages : List Bool) → IsTopped words top size → members words size ≡ pages → p < length pages → (p < size) × (p / 64 < length words) × (p / 64 < 64)
word_of words top size p pages t view l =
    let in_size : p < size = omega (arith, l, length-members words size, ap length view) in
    let at : p / 64 < length words = omega (arith, in_size, t.room) in
    (in_size, at, omega (arith, at, t.few))

-- the word that the top word names isn't 0
pub named : (words : List ℕ) (top size w : ℕ) → IsTopped words top size → IsLeastIn top w → (w < length words) × (get_or words w 0 ≢ 0)
named words top size w t h =
    let some = not_empty (get_or words w 0) (sym h.member ∙ t.topped w) in
    (⊎_elim (λ (l : w < length words). l) (λ (l : length words ≤ w). absurd (some (get_or_past words w 0 l))) (cases_lt w (length words)), some)

-- ---- all pages
ltb_same : (a b x y : ℕ) → (a < b → x < y) → (x < y → a < b) → ltb a b ≡ ltb x y
ltb_same a b x y f g =
    ⊎_elim
    (λ (l : a < b). lt-ltb a b l ∙ sym (lt-ltb x y (f l)))
    (λ (l : b ≤ a). le-ltb a b l ∙ sym (⊎_elim (λ (m : x < y). absurd (omega (arith, l, g m))) (λ (m : y ≤ x). le-ltb x y m) (cases_lt x y)))
    (cases_lt a b)

-- n words that are full, and the last word's pages
pub all_has : (words : List ℕ) (n size word : ℕ) → ((w : ℕ) → w < n → get_or words w 0 ≡ 18446744073709551615) → length words ≡ n + 1 → 64 * n < size → size ≤ 64 * n + 64 → ((i : ℕ) → has_bit word i ≡ ltb i (size - 64 * n)) → (p : ℕ) → has_page (set words n word) p ≡ ltb p size
all_has words n size word full len some fits h p =
    let new = set words n word in
    let new_len : length new ≡ n + 1 = length-set words n word ∙ len in
    let k : ℕ = p / 64 in
    ⊎_elim
    (λ (l : k < n).
    let at : get_or new k 0 ≡ 18446744073709551615 = get_or-set_other words n k word 0 (λ e. omega (arith, e, l)) ∙ full k l in
    ap (λ w. has_bit w (p % 64)) at ∙ ones_have 64 (p % 64) ∙ lt-ltb (p % 64) 64 (omega arith) ∙ sym (lt-ltb p size (omega (arith, l, some))))
    (λ (m : n ≤ k). ⊎_elim
    (λ (e : k ≡ n).
    let at : get_or new k 0 ≡ word = ap (λ i. get_or new i 0) e ∙ get_or-set_same words n word 0 (omega (arith, len)) in
    ap (λ w. has_bit w (p % 64)) at ∙ h (p % 64) ∙ ltb_same (p % 64) (size - 64 * n) p size (λ l. omega (arith, l, e, some)) (λ l. omega (arith, l, e, some)))
    (λ (d : k ≢ n).
    let at : get_or new k 0 ≡ 0 = get_or_past new k 0 (omega (arith, new_len, m, d)) in
    ap (λ w. has_bit w (p % 64)) at ∙ none_in_zero (p % 64) ∙ sym (le-ltb p size (omega (arith, m, d, fits))))
    (cases_eq k n))
    (cases_lt k n)

pub all_members : (words : List ℕ) (size : ℕ) → ((p : ℕ) → has_page words p ≡ ltb p size) → members words size ≡ replicate size true
all_members words size h =
    let len = length-members words size in
    same_lists (members words size) (replicate size true) (len ∙ sym (length-replicate size true))
    (λ p d l.
    let in_size : p < size = omega (arith, l, len) in
    at_page words size p d in_size ∙ h p ∙ lt-ltb p size in_size ∙ sym (get_or-replicate size p true d in_size))

pub all_topped : (words : List ℕ) (top count size : ℕ) → length words ≡ count → count ≤ 64 → size ≤ 64 * count → 64 * count < size + 64 → ((p : ℕ) → has_page words p ≡ ltb p size) → ((i : ℕ) → has_bit top i ≡ ltb i count) → IsTopped words top size
all_topped words top count size len few room tight h k = record {
  few = omega (arith, len, few);
  room = omega (arith, len, room);
  none_past = λ p l. h p ∙ le-ltb p size l;
  topped = λ w. ⊎_elim
      (λ (l : w < count).
      let at : (64 * w) / 64 ≡ w = omega arith in
      let rest : (64 * w) % 64 ≡ 0 = omega arith in
      let member : has_bit (get_or words w 0) 0 ≡ true = sym (ap (λ i. has_bit (get_or words i 0) ((64 * w) % 64)) at ∙ ap (has_bit (get_or words w 0)) rest) ∙ h (64 * w) ∙ lt-ltb (64 * w) size (omega (arith, l, tight)) in
      k w ∙ lt-ltb w count l ∙ sym (full_word (get_or words w 0) 0 member))
      (λ (l : count ≤ w). k w ∙ le-ltb w count l ∙ sym (ap (λ x. not (x == 0)) (get_or_past words w 0 (omega (arith, len, l)))))
      (cases_lt w count);
}
