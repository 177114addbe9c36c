-- Where a holder stands that can still do calls.
use Rattle.std.proofs.Common.{◌≡◌, ℕ, true, sym, ap, ◌∙◌}
use Rattle.sound_run.specs.declared.lock_kind.LockKind.{LockKind}
use Rattle.word_rule.specs.{declared.lock_kind.Stage.Stage, Locks.{holding, holder}}
use Rattle.word_rule.proofs.LockLaws.{holds}

-- a holder that can still do calls has the object
pub holder_holds : (k : LockKind) (mark : ℕ) (q : Stage) → q ≡ holder k mark → holding q ≡ true
holder_holds k mark q is = ap holding is ∙ holds k mark

-- where it stands, at a lock of that kind
pub holder_at : (k l : LockKind) (mark : ℕ) (q : Stage) → k ≡ l → q ≡ holder l mark → q ≡ holder k mark
holder_at k l mark q kind is = is ∙ ap (λ z. holder z mark) (sym kind)
