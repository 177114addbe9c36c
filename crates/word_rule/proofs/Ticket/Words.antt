-- The word of a ticket lock: its halves, and what a step does to them.
use Rattle.std.proofs.{Common.{◌≡◌, ℕ, ◌+◌, ◌-◌, ◌/◌, ◌%◌, ◌^◌, ◌<◌, ◌∙◌, sym, ap, arith}, lemmas.Nat.{div-mul-add, mod-mul-add}, Math.Nat.{add-mod_left, mod-eq_of_lt, mod_self}}
use mathlib.Core.Logic.{dite}
use native.Mathlib.Decide.{dec_lt}
use Rattle.word_rule.specs.Ticket.State.{tickets, ticket_word}

module _ (next serving : ℕ) (next_small : next < tickets) (small : serving < tickets) where
  pub high_half : ticket_word next serving / tickets ≡ next
  high_half = div-mul-add next tickets serving small

  pub low_half : ticket_word next serving % tickets ≡ serving
  low_half = mod-mul-add next tickets serving small

  -- a ticket more in the high half: nothing is left of a sum that runs over
  pub next_added : (ticket_word next serving + tickets) % 2 ^ 64 ≡ ticket_word ((next + 1) % tickets) serving
  next_added = dite (dec_lt (next + 1) tickets)
      (λ fits. mod-eq_of_lt (omega arith) ∙ ((let e : ticket_word next serving + tickets ≡ ticket_word (next + 1) serving = omega arith in e) ∙ ap (λ (z : ℕ). ticket_word z serving) (sym (mod-eq_of_lt fits))))
      (λ not. let last : next + 1 ≡ tickets = omega arith in
      ap (λ (z : ℕ). z % 2 ^ 64) (let e : ticket_word next serving + tickets ≡ 2 ^ 64 + serving = omega arith in e)
      ∙ (add-mod_left (2 ^ 64) serving ∙ (mod-eq_of_lt (omega arith) ∙ ((let e : serving ≡ ticket_word 0 serving = omega arith in e) ∙ ap (λ (z : ℕ). ticket_word z serving) (sym (ap (λ (z : ℕ). z % tickets) last ∙ mod_self tickets))))))

  -- one more in the low half, where it isn't the greatest: nothing runs over into the high half
  pub served_added : serving + 1 < tickets → (ticket_word next serving + 1) % 2 ^ 64 ≡ ticket_word next ((serving + 1) % tickets)
  served_added fits = mod-eq_of_lt (omega arith) ∙ ((let e : ticket_word next serving + 1 ≡ ticket_word next (serving + 1) = omega arith in e) ∙ ap (ticket_word next) (sym (mod-eq_of_lt fits)))

  -- the greatest less itself
  pub served_subtracted : serving + 1 ≡ tickets → (ticket_word next serving + (2 ^ 64 - (tickets - 1))) % 2 ^ 64 ≡ ticket_word next ((serving + 1) % tickets)
  served_subtracted last =
      ap (λ (z : ℕ). z % 2 ^ 64) (let e : ticket_word next serving + (2 ^ 64 - (tickets - 1)) ≡ 2 ^ 64 + ticket_word next 0 = omega arith in e)
      ∙ (add-mod_left (2 ^ 64) (ticket_word next 0) ∙ (mod-eq_of_lt (omega arith) ∙ ap (ticket_word next) (sym (ap (λ (z : ℕ). z % tickets) last ∙ mod_self tickets))))
