-- A call of an f that is lent two values, by what lies behind the references before and after it.
use Rattle.std.specs.Prelude.{◌≡◌}
use Rattle.std.specs.Borrow.{MutBor}
use denote.Param.Members.{Once}

-- f may be called at t and x, with `&mut`s to a and to b
abbrev pub TakesLent : {F T X A B R : Type 0} → Once F (T × (X × (MutBor A × (MutBor B × Unit {0})))) R → F → T → X → A → B → Type 0
TakesLent {A = A} {B = B} g f t x a b = (p : MutBor A) (q : MutBor B) → p.now ≡ a → q.now ≡ b → g.pre f (t, (x, (p, (q, tt))))

-- called so, it may give r and leave a' and b' there
pub record ReturnsLent {F T X A B R : Type 0} (g : Once F (T × (X × (MutBor A × (MutBor B × Unit {0})))) (R × (MutBor A × (MutBor B × Unit {0})))) (f : F) (t : T) (x : X) (a : A) (b : B) (r : R) (a' : A) (b' : B) : Type 0 where
  pub lent : MutBor A
  pub other_lent : MutBor B
  pub shows : (lent.now ≡ a) × (other_lent.now ≡ b)
  pub back : MutBor A
  pub other_back : MutBor B
  pub met : g.post f (t, (x, (lent, (other_lent, tt)))) (r, (back, (other_back, tt)))
  pub leaves : (back.now ≡ a') × (other_back.now ≡ b')

-- the same where f takes a `&mut` to t, and leaves t' there
abbrev pub TakesLentAt : {F T X A B R : Type 0} → Once F (MutBor T × (X × (MutBor A × (MutBor B × Unit {0})))) R → F → T → X → A → B → Type 0
TakesLentAt {T = T} {A = A} {B = B} g f t x a b = (o : MutBor T) (p : MutBor A) (q : MutBor B) → o.now ≡ t → p.now ≡ a → q.now ≡ b → g.pre f (o, (x, (p, (q, tt))))

pub record ReturnsLentAt {F T X A B R : Type 0} (g : Once F (MutBor T × (X × (MutBor A × (MutBor B × Unit {0})))) (R × (MutBor T × (MutBor A × (MutBor B × Unit {0}))))) (f : F) (t : T) (x : X) (a : A) (b : B) (r : R) (t' : T) (a' : A) (b' : B) : Type 0 where
  pub place : MutBor T
  pub lent : MutBor A
  pub other_lent : MutBor B
  pub shows : (place.now ≡ t) × (lent.now ≡ a) × (other_lent.now ≡ b)
  pub left : MutBor T
  pub back : MutBor A
  pub other_back : MutBor B
  pub met : g.post f (place, (x, (lent, (other_lent, tt)))) (r, (left, (back, (other_back, tt))))
  pub leaves : (left.now ≡ t') × (back.now ≡ a') × (other_back.now ≡ b')
