use Rattle.std.proofs.{Common.{◌≡◌, ◌∙◌, ◌==◌, ◌&&◌, ◌≤◌, ℕ, Bool, nat_lt, false, refl, sym, subst, arith, IsSome, Some}, lemmas.Bool.Decides.nat_tests}
use Rattle.std_alloc.specs.Arc.{arc_value}
use Rattle.word_rule.specs.{Polls.is_idle}
use Rattle.guarded_cell.specs.{AnyCallers.state_of_caller, Kinds.IsPassOf}
use Rattle.cell_callers.specs.{Places.{place_of}}
use Rattle.cell_callers.proofs.{Idle.{stands, shown_some, shown_none, wakes}, open_cell.OpenCell.return_caller.Goals.{then-self-via-then-self, then-self-via-else-self+then-cpu-from}}
use Rattle.cell_callers.proofs.open_cell.OpenCell.return_caller.Goals as goal

-- all callers are returned, or another is next
past_all : (idle : Bool) (back cpus cpu : ℕ) → cpus ≤ back → (idle && (nat_lt back cpus && (cpu == back))) ≡ false
past_all idle back cpus cpu all = grind (arith, nat_tests)

not_here : (idle : Bool) (back cpus cpu : ℕ) → (cpu ≡ back → ⊥) → (idle && (nat_lt back cpus && (cpu == back))) ≡ false
not_here idle back cpus cpu other = grind (arith, nat_tests)

pub returns-in_default : goal.returns-in_default
returns-in_default g c =
    let place = c.args.caller.place in
    let s = stands (arc_value c.args.self.cell) place.pass place.rested place.line (subst (λ z. IsSome (place_of z place)) c.requires c.args.caller.there) in
    let none = shown_none (is_idle (state_of_caller s.caller)) _ (sym c.in_default.is ∙ (c.idle_cpu.ensures ∙ s.cpu)) in
    (record { cell = refl; passes = refl; home = refl; back = refl }, refl, (s.caller, s.caller, s.is, s.is, (rw none, refl)))

pub returns-then-self : goal.returns-then-self
returns-then-self g c =
    let place = c.args.caller.place in let self = c.args.self in
    let s = stands (arc_value self.cell) place.pass place.rested place.line (subst (λ z. IsSome (place_of z place)) c.requires c.args.caller.there) in
    let i = is_idle (state_of_caller s.caller) in let cpu = (state_of_caller s.caller).caller.acting in
    let acts : cpu ≡ c.in-Some.cpu = shown_some i cpu c.in-Some.cpu (sym c.in-Some.is ∙ (c.idle_cpu.ensures ∙ s.cpu)) in
    let other : (i && (nat_lt self.back self.cpus && (cpu == self.back))) ≡ false = elim c.then-self.branch [
      | then-self-via-then-self w ↦ past_all i self.back self.cpus cpu w.if-self.true
      | then-self-via-else-self+then-cpu-from w ↦ not_here i self.back self.cpus cpu (λ e. w.if-cpu-from.true (sym acts ∙ (e ∙ sym w.from.ensures)))
    ] in
    (record { cell = refl; passes = refl; home = refl; back = refl }, refl, (s.caller, s.caller, s.is, s.is, (other, refl)))

pub with_back-requires-clause-pass : goal.with_back-requires-clause-pass
with_back-requires-clause-pass g c =
    let into = c.into_pass-pass in
    let is = wakes c.args.caller c.deref.result.now c.in-Some.cpu into.result c.deref.ensures into.ensures.woken (sym c.idle_cpu.ensures ∙ c.in-Some.is) in
    record { of = subst (λ z. IsPassOf z into.result) (c.deref.ensures ∙ c.requires) into.ensures.of; number = is.3 ∙ (c.if-cpu-from.false ∙ c.from.ensures); one = is.4 }

pub returns : goal.returns
returns g c =
    let into = c.into_pass-pass in let back = c.with_back.ensures in
    let is = wakes c.args.caller c.deref.result.now c.in-Some.cpu into.result c.deref.ensures into.ensures.woken (sym c.idle_cpu.ensures ∙ c.in-Some.is) in
    record {
      pass = into.result;
      was = is.0;
      idle = subst (λ z. place_of z c.args.caller.place ≡ Some is.0) c.requires is.1;
      woken = is.2;
      cell = back.cell;
      passes = back.passes;
      next = is.3 ∙ (c.if-cpu-from.false ∙ c.from.ensures);
      home = back.home;
      back = back.back;
    }
