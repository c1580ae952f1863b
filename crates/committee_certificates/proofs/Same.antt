-- Those in both of two lists are one list, whichever list is named first.
use Rattle.std.proofs.Common.{◌≡◌, ◌+◌, inl, inr, ℕ, List, [], ◌∷◌, refl, sym, ◌∙◌, subst, arith}
use Rattle.std.proofs.Math.Nat.{eq-or-lt_of_le}
use Rattle.std.proofs.lemmas.Bool.{cases_lt}
use Rattle.std.proofs.lemmas.Bool.Decides.{same_from_decides}
use Rattle.commonware_ordered.specs.Voters.{is_among}
use Rattle.commonware_ordered.specs.laws.PlaceLaws.{among_iff}
use Rattle.commonware_ordered.specs.laws.PositionLaws.{RisesFrom, among_after, among_first, not_among_below, rises_from_strict}
use Rattle.committee_certificates.specs.Signers.{AreInBoth}

-- numbers that rise from low on are one list, where the same ones are among them
rising_same : (low : ℕ) (xs ys : List ℕ) → RisesFrom low xs → RisesFrom low ys
    → ((p : ℕ) → is_among xs p ≡ is_among ys p) → xs ≡ ys
rising_same low [] [] r s same = refl
rising_same low [] (y ∷ ys) r s same = let here = among_first y ys in let none = same y in absurd (cc)
rising_same low (x ∷ xs) [] r s same = let here = among_first x xs in let none = same x in absurd (cc)
rising_same low (x ∷ xs) (y ∷ ys) r s same = elim (cases_lt x y) [
  | inl less ↦
      let here = among_first x xs in
      let none = not_among_below y (y ∷ ys) x less (omega arith, s.1) in
      let both = same x in
      absurd (cc)
  | inr most ↦ elim (eq-or-lt_of_le most) [
    | inl level ↦
        let rest : (p : ℕ) → is_among xs p ≡ is_among ys p = later level in
        let tails = rising_same (x + 1) xs ys r.1 (subst (λ z. RisesFrom (z + 1) ys) level s.1) rest in
        λ i. sym level i ∷ tails i
    | inr less ↦
        let here = among_first y ys in
        let none = not_among_below x (x ∷ xs) y less (omega arith, r.1) in
        let both = same y in
        absurd (cc)
  ]
]
  where
    later : y ≡ x → (p : ℕ) → is_among xs p ≡ is_among ys p
    later level p = elim (cases_lt x p) [
      | inl above ↦ sym (among_after x xs p above) ∙ same p ∙ among_after y ys p (omega (arith, level, above))
      | inr most ↦
          not_among_below (x + 1) xs p (omega (arith, most)) r.1
          ∙ sym (not_among_below (y + 1) ys p (omega (arith, most, level)) s.1)
    ]

-- those in both, in the other order
pub both_turned : (first second both : List ℕ) → AreInBoth first second both → AreInBoth second first both
both_turned first second both h = record {
  strict = h.strict;
  exactly = λ p. let e = h.exactly p in
      (λ w. let b = e.0 w in (b.1, b.0), λ b. e.1 (b.1, b.0));
}

-- there is one list of them
pub both_only : (first second both other : List ℕ) → AreInBoth first second both → AreInBoth first second other
    → both ≡ other
both_only first second both other h k =
    rising_same 0 both other (rises_from_strict both h.strict) (rises_from_strict other k.strict)
    (λ p. same_from_decides (is_among both p) (is_among other p) (among_iff both p)
    (let e = among_iff other p in
    (λ w. (h.exactly p).1 ((k.exactly p).0 (e.0 w)), λ b. e.1 ((k.exactly p).1 ((h.exactly p).0 b)))))
