-- An entry that is recognised by its front and the text behind it.
use Rattle.std.proofs.Common.{◌≡◌, ℕ, ◌<◌, List, sym, subst}
use Rattle.record_lines.specs.{declared.forms.form.RecordForm.Ghosts, declared.forms.place.ReaderPlace.ReaderPlace, declared.forms.place.Next.TheVariants.Entry, FormAgreed.Agree, Received.Received}
use Rattle.record_lines.proofs.FormSinks.{here}

module _ {S H E T : Type 0} (f : Ghosts S H E T) (at : ReaderPlace H) (p : Received H E T) (is : at.awaits ≡ Entry) (agree : Agree f at p) where
  -- the object is one of those that the sink has received
  pub known_bound : (object : ℕ) → (f.HeadFits at.head → object < f.objects at.head) → object < f.objects p.head
  known_bound object law = let h = here f at p Entry is agree in subst (λ (x : H). object < f.objects x) (sym h.1.head) (law h.0.0.head)

  -- the sink's head is the reader's
  pub spelled_here : (object looks : ℕ) (tail : List ℕ) (e : T) → f.TailSpells p.head object looks tail e → f.TailSpells at.head object looks tail e
  spelled_here object looks tail e reported = let h = here f at p Entry is agree in subst (λ (x : H). f.TailSpells x object looks tail e) h.1.head reported
