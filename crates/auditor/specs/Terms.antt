-- What a log is judged by.
use Rattle.std.specs.Prelude.{ℕ, List, [], ◌∷◌, map}
use Rattle.event_log.specs.declared.object.SeqObject.{Ghosts}
use Rattle.sound_run.specs.Sound.{Opened}
use Rattle.auditor.specs.declared.opened_object.OpenedObject.{OpenedObject}

-- what its object was opened with, the most events, and the state before its first step
pub record Terms (P T : Type 0) : Type 0 where
  pub params : P
  pub limit : ℕ
  pub state : T

module _ {P T : Type 0} where
  -- the terms without the state
  abbrev pub opened_as : Terms P T → Opened P
  opened_as t = record { params = t.params; limit = t.limit }

  -- those of each object
  abbrev pub opened_list : List (Terms P T) → List (Opened P)
  opened_list terms = map opened_as terms

module _ {O P C R : Type 0} (meaning : Ghosts O P C R) where
  -- the terms of an object: its log begins in the opening state
  abbrev pub start : Opened P → Terms P O
  start o = record { params = o.params; limit = o.limit; state = meaning.opening o.params }

  -- those of all objects
  abbrev pub starts : List (Opened P) → List (Terms P O)
  starts objects = map start objects

module _ {T O P C R : Type 0} where
  -- an object's terms, and the state before the first step
  abbrev pub terms_at : OpenedObject O P C R → T → Terms P T
  terms_at t s = record { params = t.params; limit = t.limit; state = s }

  -- those of objects, with a judge in its state for each
  abbrev pub terms_with : {J : Type 0} → (J → T) → List (OpenedObject O P C R) → List J → List (Terms P T)
  terms_with shows [] judges = []
  terms_with shows (t ∷ opened) [] = []
  terms_with shows (t ∷ opened) (j ∷ judges) = terms_at t (shows j) ∷ terms_with shows opened judges
