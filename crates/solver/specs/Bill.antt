-- The bill in its slice (meaning's billed), pass by pass.
--     entered B j q        B with pass j's numbers, if there is room for them
--     entered_lent, entered_full      .. by its cases
--     billed_nil, billed_next, billed_all      no pass; one more; room for all
--     length_billed        the slice keeps its length
use Rattle.std.specs.Prelude.{◌≡◌, refl, ◌⊎◌, true, false, cond, List, [], ◌∷◌, ◌++◌, ℕ, ◌+◌, ◌*◌, ◌/◌, ◌≤◌, ◌<◌, leb, length, take, drop}
use Rattle.std.proofs.Common.{sym, ap, ap₂, ◌∙◌, inl, inr, append_assoc, arith, length-take, length-append, length-drop, take_all, take_at, drop_at, drop-drop, leb-true, leb-false, le-leb}
use Rattle.std.proofs.lemmas.List.{take-append-le}
use Rattle.std.proofs.lemmas.Bool.{lt-leb}
use Rattle.meaning.specs.List.{at, padded, overwrite}
use Rattle.meaning.specs.Solver.{Pass, charge, bill, billed}
use Rattle.laws.specs.Bool.{test_cases}
use Rattle.laws.specs.List.{table_of}
use Rattle.laws.specs.Part.{part, length_part}
use Rattle.laws.specs.Solver.{bill_nil, bill_snoc, length_bill}
use Rattle.laws.specs.Lent.{lent}

abbrev pub entered : List ℕ → ℕ → Pass → List ℕ
entered B j q = cond (leb (3 * j + 3) (length B)) (lent B (3 * j) 3 (charge q)) B

-- ---- one pass more in a slice

module _ (B : List ℕ) (j : ℕ) (q : Pass) where
  entered_room : 3 * j + 3 ≤ length B → lent B (3 * j) 3 (charge q) ≡ entered B j q
  entered_room h = sym (ap (λ t. cond t (lent B (3 * j) 3 (charge q)) B) (le-leb (3 * j + 3) (length B) h))

  -- its numbers written into the three places, which were lent
  pub entered_lent : 3 * j + 3 ≤ length B → (m : ℕ) (Y : List ℕ) → m ≡ 3 → Y ≡ padded (length (part (3 * j) m B)) (charge q) → lent B (3 * j) m Y ≡ entered B j q
  entered_lent h m Y e y =
      ap₂ (λ k l. lent B (3 * j) k l) e
      (y ∙ ap (λ k. padded k (charge q)) (length_part (3 * j) m B (omega (arith, h, e)) ∙ e) ∙ sym (table_of 0 (charge q) 3 (at (charge q)) refl (λ i l. refl)))
      ∙ entered_room h

  pub entered_full : length B < 3 * j + 3 → B ≡ entered B j q
  entered_full h = sym (ap (λ t. cond t (lent B (3 * j) 3 (charge q)) B) (lt-leb (3 * j + 3) (length B) h))

-- ---- the passes so far

module _ (B : List ℕ) where
  pub billed_nil : billed B [] ≡ B
  billed_nil = ap (λ l. overwrite l B) (ap bill (take_all (length B / 3) [] (omega arith)) ∙ bill_nil)

  pub length_billed : (qs : List Pass) → length (billed B qs) ≡ length B
  length_billed qs =
      let X = bill (take (length B / 3) qs) in
      omega (arith, length-append X (drop (length X) B), length-drop (length X) B, length_bill (take (length B / 3) qs), length-take (length B / 3) qs)

  pub billed_all : (qs : List Pass) → 3 * length qs ≤ length B → billed B qs ≡ bill qs ++ drop (3 * length qs) B
  billed_all qs h =
      ap (λ l. overwrite (bill l) B) (take_all (length B / 3) qs (omega (arith, h))) ∙ ap (λ k. bill qs ++ drop k B) (length_bill qs)

  pub billed_next : (qs : List Pass) (q : Pass) → entered (billed B qs) (length qs) q ≡ billed B (qs ++ (q ∷ []))
  billed_next qs q = go (test_cases (leb (3 * length qs + 3) (length B)))
    where
      one : length (qs ++ (q ∷ [])) ≡ length qs + 1
      one = length-append qs (q ∷ [])

      go : (leb (3 * length qs + 3) (length B) ≡ true) ⊎ (leb (3 * length qs + 3) (length B) ≡ false) → entered (billed B qs) (length qs) q ≡ billed B (qs ++ (q ∷ []))
      go (inl t) =
          let room = leb-true (3 * length qs + 3) (length B) t in
          let k = 3 * length qs in
          let R = drop k B in
          let more : k + 3 ≡ 3 * length (qs ++ (q ∷ [])) = omega (arith, one) in
          sym (entered_room (billed B qs) (length qs) q (omega (arith, length_billed qs, room)))
          ∙ ap (λ l. lent l k 3 (charge q)) (billed_all qs (omega (arith, room)))
          ∙ ap₂ (λ x y. x ++ (charge q ++ drop 3 y)) (take_at (bill qs) R k (length_bill qs)) (drop_at (bill qs) R k (length_bill qs))
          ∙ ap (λ l. bill qs ++ (charge q ++ l)) (drop-drop 3 k B ∙ ap (λ m. drop m B) more)
          ∙ sym (append_assoc (bill qs) (charge q) (drop (3 * length (qs ++ (q ∷ []))) B))
          ∙ ap (λ l. l ++ drop (3 * length (qs ++ (q ∷ []))) B) (sym (bill_snoc qs q))
          ∙ sym (billed_all (qs ++ (q ∷ [])) (omega (arith, one, room)))
      go (inr f) =
          let short = leb-false (3 * length qs + 3) (length B) f in
          sym (entered_full (billed B qs) (length qs) q (omega (arith, length_billed qs, short)))
          ∙ ap (λ l. overwrite (bill l) B) (sym (take-append-le (length B / 3) qs (q ∷ []) (omega (arith, short))))
