-- What objects are opened with is read as what it spells, and nothing else is.
use Rattle.std.proofs.Common.{◌≡◌, ℕ, ◌≤◌, Bool, true, false, cond, Option, Some, List, [], ◌∷◌, ◌++◌, refl, sym, ◌∙◌, ap, subst, arith, bytes_eq}
use Rattle.std.specs.List.{AllByRecursion}
use Rattle.kernel_object.specs.{declared.kind.Kind.Kind, declared.call.KParams.KParams, Kernel.kernel_in_range, Kinds.All.{definition_of, all_kinds, params_kind, own_params, params_of}, KindWords.{kind_word, kind_among, kind_of}}
use Rattle.kernel_object.proofs.KindLaws.{same_params, of_any, by_kind_is, on_own, kind_again}
use Rattle.kernel_words.specs.{declared.form.Form.Form, Forms.ExpressesParams, Kinds.All.text_of, Kinds.Definition.Expresses, Parameters.params_words, ParameterReading.{kind_behind, params_behind, params_at}}
use Rattle.record_lines.specs.{Reading.{◌>>=◌, word_at}, Words.IsPlain}
use Rattle.kernel_words.proofs.KindLaws.All.{laws_of}
use Rattle.record_lines.proofs.{Readings.{bind_some, same}, Lengths.long}

-- ---- kinds

one_kind : (w : List ℕ) (k x : Kind) (other : Option Kind) → (other ≡ Some x → w ≡ kind_word x) → cond (bytes_eq w (kind_word k)) (Some k) other ≡ Some x → w ≡ kind_word x
one_kind w k x other next e = go (bytes_eq w (kind_word k)) refl e
  where
    go : (b : Bool) → bytes_eq w (kind_word k) ≡ b → cond b (Some k) other ≡ Some x → w ≡ kind_word x
    go true found e = let one : k ≡ x = cc in same w (kind_word k) found ∙ ap kind_word one
    go false none e = next e

among_takes : (ks : List Kind) (w : List ℕ) (x : Kind) → kind_among ks w ≡ Some x → w ≡ kind_word x
among_takes [] w x e = absurd cc
among_takes (k ∷ ks) w x e = one_kind w k x (kind_among ks w) (among_takes ks w x) e

kind_takes : (w : List ℕ) (x : Kind) → kind_of w ≡ Some x → w ≡ kind_word x
unfolding kind_of
kind_takes w x e = among_takes all_kinds w x e

-- ---- parameters

-- parameters in their range are in their kind's
own_fits : (p : KParams) → kernel_in_range p ≡ true → (definition_of (params_kind p)).in_range (own_params p) ≡ true
own_fits p h = sym (on_own (λ k own. (definition_of k).in_range own) p) ∙ h

-- a kind's parameters in their range are in it as any object's
pub range_of : (k : Kind) (p : (definition_of k).Params) → (definition_of k).in_range p ≡ true → kernel_in_range (params_of k p) ≡ true
range_of k p h = on_own (λ k own. (definition_of k).in_range own) (params_of k p) ∙ of_any (λ k p. (definition_of k).in_range p ≡ true) k p h

-- their words are the kind's, and those of the kind's own parameters
words_are : (form : Form) (p : KParams) → params_words form p ≡ kind_word (params_kind p) ∷ (text_of (params_kind p)).params_words form (own_params p)
words_are form p = on_own (λ k own. kind_word k ∷ (text_of k).params_words form own) p

-- the words are those of parameters in their ranges, which the form expresses
pub record IsParams (form : Form) (ws : List (List ℕ)) (read : KParams × List (List ℕ)) : Type 0 where
  pub text : ws ≡ params_words form read.0 ++ read.1
  pub fits : kernel_in_range read.0 ≡ true
  pub expressed : ExpressesParams form read.0

behind_takes : (form : Form) (k : Kind) (ws : List (List ℕ)) (read : KParams × List (List ℕ)) → params_behind form k ws ≡ Some read → IsParams form (kind_word k ∷ ws) read
unfolding params_behind
behind_takes form k ws read e = bind_some ((text_of k).params_at form ws) _ read (sym (by_kind_is (kind_behind form ws) k) ∙ e) (λ p found last.
    let is : ◌≡◌ {A = KParams × List (List ℕ)} (params_of k p.0, p.1) read = cc in
    let reads = (laws_of k).take form ws p found in
    subst (IsParams form (kind_word k ∷ ws)) is (record {
      text = of_any (λ j q. kind_word k ∷ ws ≡ kind_word j ∷ (text_of j).params_words form q ++ p.1) k p.0 (ap (λ l. kind_word k ∷ l) reads.text) ∙ ap (λ l. l ++ p.1) (sym (words_are form (params_of k p.0)));
      fits = range_of k p.0 reads.fits;
      expressed = of_any (λ j q. Expresses (text_of j) form q) k p.0 reads.expressed;
    }))

-- what is read is what the words spell
pub params_take : (form : Form) (ws : List (List ℕ)) (read : KParams × List (List ℕ)) → params_at form ws ≡ Some read → IsParams form ws read
unfolding params_at word_at
params_take form [] read e = absurd cc
params_take form (w ∷ ws) read e = bind_some (kind_of w) _ read e (λ k found next. subst (λ v. IsParams form (v ∷ ws) read) (sym (kind_takes w k found)) (behind_takes form k ws read next))

-- what is spelled is read again
pub params_again : (form : Form) (p : KParams) (rest : List (List ℕ)) → kernel_in_range p ≡ true → ExpressesParams form p → params_at form (params_words form p ++ rest) ≡ Some (p, rest)
unfolding params_at params_behind word_at
params_again form p rest fits expressed =
    let k = params_kind p in
    let own = (text_of k).params_words form (own_params p) ++ rest in
    ap (λ ws. params_at form (ws ++ rest)) (words_are form p)
    ∙ (ap (λ o. o >>= λ kind. params_behind form kind own) (kind_again k)
    ∙ (by_kind_is (kind_behind form own) k
    ∙ (ap (λ o. o >>= λ q. Some (params_of k q.0, q.1)) ((laws_of k).again form (own_params p) rest (own_fits p fits) expressed)
    ∙ ap (λ (q : KParams). Some (q, rest)) (same_params p))))

-- neither a line end nor a space is in them
pub params_plain : (form : Form) (p : KParams) → kernel_in_range p ≡ true → AllByRecursion IsPlain (params_words form p)
params_plain form p fits =
    let laws = laws_of (params_kind p) in
    subst (AllByRecursion IsPlain) (sym (words_are form p)) (laws.plain_word, laws.plain form (own_params p) (own_fits p fits))

-- they are short
pub params_le : (form : Form) (p : KParams) → kernel_in_range p ≡ true → long (params_words form p) ≤ 400
params_le form p fits =
    let laws = laws_of (params_kind p) in
    subst (λ ws. long ws ≤ 400) (sym (words_are form p)) (omega (arith, laws.short_word, laws.short form (own_params p) (own_fits p fits)))
