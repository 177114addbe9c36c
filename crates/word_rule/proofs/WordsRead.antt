-- A word that a caller reads, and what it says to a caller that owns every number.
use Rattle.std.proofs.Common.{◌≡◌, ◌||◌, ℕ, ◌<◌, List, [], get_or, sym, ap, ◌∙◌, subst, Option, Some}
use mathlib.Core.Option.{some}
use lib.{ListN.get_elem?, Seq.set-get_or}
use Rattle.atomic_table.specs.Table.{keeps, stepped}
use Rattle.event_log.specs.{declared.object.SeqObject.Ghosts, Distinct.has, History.History}
use Rattle.sound_run.specs.declared.lock_kind.LockKind.{LockKind}
use Rattle.word_rule.specs.{Cell.Cell, Rule.LockStates.IsLockOf, Rule.CellInvariant.{SeatView, Table, CellInvariant}, Rule.Seats.noted, Rule.Announced.{HasAll, any_has}}
use Rattle.word_rule.proofs.{Lists.or_none, Known.same_cell, Stays.seats_stay}

pub one_word : (a b : ℕ) → Some a ≡ Some b → a ≡ b
one_word a b e = cc

module _ {O P C R : Type 0} (meaning : Ghosts O P C R) (kind : LockKind) (h : Cell O P C R) (s : Table O P C R) (r : CellInvariant meaning kind h s) (id : ℕ) (v : SeatView O P C R) (there : get_elem? s.views id ≡ some v) where
  -- the word 0 was read, and the first caller keeps it
  abbrev pub notes : (cs : List (ℕ × Option (History O P C R))) → CellInvariant meaning kind h (stepped s 0 (get_or s.words 0 0) id cs (noted v (get_or s.words 0 0)) keeps)
  notes cs =
      let b = r.state in
      let mine = r.each id v there in
      let found : ℕ = get_or s.words 0 0 in
      record {
        state = b;
        tied = subst (λ (ws : List ℕ). IsLockOf kind h.numbers ws b.lock) (sym (set-get_or s.words 0 0)) r.tied;
        ran = r.ran;
        made = r.made;
        valid = r.valid;
        at_home = r.at_home;
        each = seats_stay h b b s.views id (noted v found)
            record {
              reported = mine.reported;
              main = record {
                owns = mine.main.owns;
                grows = mine.main.grows;
                extends = mine.main.extends;
                stands = mine.main.stands;
                whole = mine.main.whole;
                rests = mine.main.rests;
                finds = λ w e _. ap (λ (z : List ℕ). get_or z 0 0) (sym r.tied.words) ∙ one_word found w e;
              };
              others = mine.others;
            }
            (λ j k c _ z. z) r.each;
      }

  -- and so a caller alone at its seat finds the word that it has read, if it owns every number
  pub unchanged : (w : ℕ) (g : Cell O P C R) → v.main.read ≡ Some w → v.others ≡ [] → HasAll v g → get_or s.words 0 0 ≡ w
  unchanged w g is alone all =
      let b = r.state in
      let mine = r.each id v there in
      let same = same_cell meaning kind h b id v g mine all.reported in
      ap (λ (z : List ℕ). get_or z 0 0) r.tied.words
      ∙ mine.main.finds w is (λ x below. sym (or_none (has x v.main.owned)) ∙ (ap (λ cs. has x v.main.owned || any_has x cs) (sym alone) ∙ all.each x (subst (λ z. x < z.numbers) (sym same) below)))
