use Rattle.std.proofs.Common.{◌≡◌, ◌∙◌, ◌⊎◌, inl, inr, ◌∷◌, [], true, refl, List, subst, sym}
use Rattle.clap.specs.{Words.{App, HasMatchesOf, Kinds, Row, Text, fault_of, found_of, matches_of, rows_of}, Faults.is_simple_and_free, declared.error.kind.ErrorKind.TheVariants.{DisplayHelp, DisplayVersion}, declared.parser.matches.ArgMatches.ArgMatches}
use Rattle.steps.specs.{Asked.{AreFound, faults}, Form.form}
use Rattle.steps.proofs.arguments.read_words.Goals as goal

-- words that are taken are no words for help alone
no_help : (kinds : Kinds) → kinds ≡ [] → (kinds ≡ DisplayHelp ∷ []) ⊎ (kinds ≡ DisplayVersion ∷ []) → ⊥
no_help kinds taken (inl e) = cc
no_help kinds taken (inr e) = cc

module _ (a : App) (is : a ≡ form) (words : List Text) where
  -- what the reader of words has against them, and what it finds
  taken : (is_simple_and_free a ≡ true → fault_of a words ≡ []) → fault_of form words ≡ []
  taken kinds = subst (λ (b : App). is_simple_and_free b ≡ true → fault_of b words ≡ []) is kinds refl

  found : (m : ArgMatches) → HasMatchesOf a words m → rows_of (found_of m) ≡ matches_of form words
  found m has = (subst (λ (b : App). HasMatchesOf b words m) is has refl).0

pub returns-in-Ok-files-clause-asked : goal.returns-in-Ok-files-clause-asked
returns-in-Ok-files-clause-asked c = record {
  in_form = sym c.has_no_form.ensures ∙ c.if-has_no_form.false;
  taken = taken _ c.in-Ok.ensures _ c.in-Ok-try_get_matches_from.ensures.kinds;
  found = subst (λ (rows : List Row). AreFound rows c.in-Ok-files.arguments) (found _ c.in-Ok.ensures _ _ c.in-Ok-try_get_matches_from.ensures.matches) c.in-Ok-files.ensures.found;
}

pub returns-in-Ok-try_get_matches_from-clause-refused : goal.returns-in-Ok-try_get_matches_from-clause-refused
returns-in-Ok-try_get_matches_from-clause-refused c = inr (
  refl,
  record {
    none = λ a asked. c.in-Err-files.ensures.refused a (subst (λ (rows : List Row). AreFound rows a) (sym (found _ c.in-Ok.ensures _ _ c.in-Ok-try_get_matches_from.ensures.matches)) asked.found);
    no_help = λ m. no_help (faults c.args.words.now) (taken _ c.in-Ok.ensures _ c.in-Ok-try_get_matches_from.ensures.kinds) m.only;
  },
)
