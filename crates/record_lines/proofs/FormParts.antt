-- Lines in parts, each with a head that says how many items it has.
use Rattle.std.proofs.{Common.{◌≡◌, ℕ, suc, ◌+◌, List, [], ◌∷◌, ◌++◌, length, map, append_assoc, sym, ap, ◌∙◌, arith}, lemmas.List.{append-nil, map-append}}
use Rattle.record_lines.specs.FormText.{part_text, parts_text}

module _ {T : Type 0} (head : ℕ → ℕ → List ℕ) (text_of : T → List ℕ) where
  -- other parts behind them
  parts_from : (i : ℕ) (a b : List (List T)) → parts_text head text_of i (a ++ b) ≡ parts_text head text_of i a ++ parts_text head text_of (i + length a) b
  parts_from i [] b = let same : i ≡ i + 0 = omega arith in ap (λ k. parts_text head text_of k b) same
  parts_from i (part ∷ a) b =
      let same : (i + 1) + length a ≡ i + suc (length a) = omega arith in
      ap (λ l. part_text head text_of i (length part) part ++ l) (parts_from (i + 1) a b ∙ ap (λ k. parts_text head text_of (i + 1) a ++ parts_text head text_of k b) same)
      ∙ sym (append_assoc (part_text head text_of i (length part) part) (parts_text head text_of (i + 1) a) (parts_text head text_of (i + suc (length a)) b))

  -- so behind all that there are
  pub parts_append : (front : List (List ℕ)) (a b : List (List T)) → front ++ parts_text head text_of 0 (a ++ b) ≡ (front ++ parts_text head text_of 0 a) ++ parts_text head text_of (length a) b
  parts_append front a b =
      ap (λ l. front ++ l) (parts_from 0 a b ∙ (let same : 0 + length a ≡ length a = omega arith in ap (λ k. parts_text head text_of 0 a ++ parts_text head text_of k b) same))
      ∙ sym (append_assoc front (parts_text head text_of 0 a) (parts_text head text_of (length a) b))

  -- a part with all of its items is one more
  pub part_whole : (front : List (List ℕ)) (parts : List (List T)) (items : List T) (n : ℕ) → length items ≡ n → front ++ parts_text head text_of 0 (parts ++ items ∷ []) ≡ (front ++ parts_text head text_of 0 parts) ++ part_text head text_of (length parts) n items
  part_whole front parts items n all =
      parts_append front parts (items ∷ [])
      ∙ ap (λ l. (front ++ parts_text head text_of 0 parts) ++ l) (append-nil (part_text head text_of (length parts) (length items) items) ∙ ap (λ k. part_text head text_of (length parts) k items) all)

  -- more items of a part
  pub items_more : (front : List (List ℕ)) (i n : ℕ) (items more : List T) → front ++ part_text head text_of i n (items ++ more) ≡ (front ++ part_text head text_of i n items) ++ map text_of more
  items_more front i n items more = ap (λ l. front ++ (head i n ∷ l)) (map-append text_of items more) ∙ sym (append_assoc front (part_text head text_of i n items) (map text_of more))
