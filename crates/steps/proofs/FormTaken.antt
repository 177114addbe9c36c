-- Words that are the form ask for its files.
use Rattle.std.proofs.{Common.{◌≡◌, ◌⊎◌, inl, inr, ap, ◌==◌, ◌∙◌, sym, subst, ℕ, false, List, [], ◌∷◌, map, codes, refl, String, Global, string_bytes}, lemmas.Bool.{eqb-false, ne_eqb}}
use Rattle.std.specs.List.{list_any}
use Rattle.clap.specs.{Words.{Text, fault_of, first_of, matches_of}, declared.error.kind.ErrorKind.TheVariants.{DisplayHelp, DisplayVersion}}
use Rattle.clap.proofs.OnLiterals.{clap_on_literals}
use Rattle.program.specs.FileNames.{IsWanted, is_no_name}
use Rattle.steps.specs.{Asked.{AskedBy, CanBeAsked, MustHelp, has_no_form, is_help, is_no_form, words_for}, Form.form, declared.arguments.Arguments.Arguments}

-- a plain word is one that the form may have
plain_in_form : (b : ℕ) (n : Text) → (b == 45) ≡ false → is_no_form (b ∷ n) ≡ false
plain_in_form b n e =
    let other : (45 == b) ≡ false = ne_eqb 45 b (λ s. eqb-false b 45 e (sym s)) in
    rw (e, other) refl

-- the words are taken, and these files are found
record Taken (f s t : Text) (words : List Text) : Type 0 where
  pub in_form : list_any is_no_form words ≡ false
  pub taken : fault_of form words ≡ []
  pub settings : IsWanted (first_of (codes "settings") (matches_of form words)) f
  pub scripts : IsWanted (first_of (codes "SCRIPTS") (matches_of form words)) s
  pub schedule : IsWanted (first_of (codes "SCHEDULE") (matches_of form words)) t

files_taken : (f s t : Text) → is_no_name f ≡ false → is_no_name s ≡ false → is_no_name t ≡ false → Taken f s t (codes "--settings" ∷ f ∷ s ∷ t ∷ [])
unfolding clap_on_literals
files_taken [] s t e g h = cc
files_taken (b ∷ n) [] t e g h = cc
files_taken (b ∷ n) (c ∷ m) [] e g h = cc
files_taken (b ∷ n) (c ∷ m) (d ∷ o) e g h = record {
  in_form = rw (plain_in_form b n e, plain_in_form c m g, plain_in_form d o h) refl;
  taken = rw (e, e, g, g, h, h) refl;
  settings = (rw (e, e, g, g, h, h) refl, e);
  scripts = (rw (e, e, g, g, h, h) refl, g);
  schedule = (rw (e, e, g, g, h, h) refl, h);
}

in_words : (words : List (String Global)) → has_no_form words ≡ list_any is_no_form (map string_bytes words)
in_words [] = refl
in_words (w ∷ words) = rw (in_words words) refl

-- the words for files ask for them
pub asked : (words : List (String Global)) (a : Arguments) → map string_bytes words ≡ words_for a → CanBeAsked a → AskedBy words a
asked words a is can =
    let t = subst (Taken a.settings.now a.scripts.now a.schedule.now) (sym is) (files_taken a.settings.now a.scripts.now a.schedule.now can.0 can.1 can.2) in
    record { in_form = in_words words ∙ t.in_form; taken = t.taken; found = (t.settings, t.scripts, t.schedule) }

help_met : fault_of form (codes "--help" ∷ []) ≡ DisplayHelp ∷ []
unfolding clap_on_literals
help_met = refl

version_met : fault_of form (codes "--version" ∷ []) ≡ DisplayVersion ∷ []
unfolding clap_on_literals
version_met = refl

help_in_words : (words : List (String Global)) → list_any (λ word. is_help (string_bytes word)) words ≡ list_any is_help (map string_bytes words)
help_in_words [] = refl
help_in_words (w ∷ words) = rw (help_in_words words) refl

-- the words for help and for the version alone come to a text
pub must_help : (words : List (String Global)) → (map string_bytes words ≡ codes "--help" ∷ []) ⊎ (map string_bytes words ≡ codes "--version" ∷ []) → MustHelp words
must_help words (inl is) = record { in_form = in_words words ∙ ap (list_any is_no_form) is; asked = help_in_words words ∙ ap (list_any is_help) is; only = inl (ap (fault_of form) is ∙ help_met) }
must_help words (inr is) = record { in_form = in_words words ∙ ap (list_any is_no_form) is; asked = help_in_words words ∙ ap (list_any is_help) is; only = inr (ap (fault_of form) is ∙ version_met) }
