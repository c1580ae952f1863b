-- At a k of 3: the greatest number for which quorums meet outside any faulty subset, for all weights of a total.
use Rattle.std.proofs.Common.{◌≡◌, inl, inr, ℕ, zero, suc, ◌+◌, ◌-◌, ◌*◌, ◌/◌, ◌<◌, ◌≤◌, ◌↔◌, true, false, List}
use Rattle.std.proofs.Common.{[], ◌∷◌, sum, refl, sym, subst, arith}
use Rattle.std.proofs.lemmas.Bool.{cases_lt}
use Rattle.commonware_faults.specs.Counts.{GreatestFit}
use Rattle.commonware_faults.specs.laws.ToleranceLaws.{GreatestFit-by_division}
use Rattle.commonware_faults.specs.Subsets.{IsIn, IsOutside}
use Rattle.committee_weights.specs.Tolerance.{GreatestMeeting}
use Rattle.committee_weights.specs.Weights.{AreWeights, WeightedMeetsOutside, NoThreeCover}
use Rattle.committee_weights.proofs.Refuting.{all_positive}
use Rattle.committee_weights.proofs.Safety.{over_greatest}
use Rattle.committee_weights.proofs.Sharing.{sum-cons, meets-by_thirds, meets_where_none_cover}

-- no participant is outside all of three
all_three : (p : ℕ) → IsOutside (true ∷ false ∷ false ∷ []) p → IsOutside (false ∷ true ∷ false ∷ []) p
    → IsOutside (false ∷ false ∷ true ∷ []) p → ⊥
all_three zero a b c = cc
all_three (suc zero) a b c = cc
all_three (suc (suc zero)) a b c = cc
all_three (suc (suc (suc p))) a b c = cc

-- nor of two
all_two : (p : ℕ) → IsOutside (true ∷ false ∷ []) p → IsOutside (false ∷ true ∷ []) p → ⊥
all_two zero a b = cc
all_two (suc zero) a b = cc
all_two (suc (suc p)) a b = cc

-- nor of one
all_one : (p : ℕ) → IsOutside (true ∷ []) p → ⊥
all_one zero a = cc
all_one (suc p) a = cc

-- what is said of all weights of a total
abbrev AllMeet : ℕ → ℕ → Type 0
AllMeet total g = (ws : List ℕ) → AreWeights ws → sum ws ≡ total → WeightedMeetsOutside ws (total - g) g

-- then no three subsets of at most g cover all
none_cover : (total g : ℕ) → AllMeet total g → (ws : List ℕ) → AreWeights ws → sum ws ≡ total → NoThreeCover ws g
none_cover total g all ws w e =
    let meets = subst (λ (t : ℕ). WeightedMeetsOutside ws (t - g) g) (sym e) (all ws w e) in
    (meets_where_none_cover ws g).0 meets

-- three weights that are at most g each cover all
three_cover : (a b c g : ℕ) → 1 ≤ a → 1 ≤ b → 1 ≤ c → a ≤ g → b ≤ g → c ≤ g → AllMeet (a + b + c) g → ⊥
three_cover a b c g some_a some_b some_c h i j all =
    let ws = a ∷ b ∷ c ∷ [] in
    let total : sum ws ≡ a + b + c = omega (arith, sum-cons a (b ∷ c ∷ []), sum-cons b (c ∷ []), sum-cons c []) in
    let are : AreWeights ws = record {
      some = omega arith;
      positive = all_positive ws (some_a, (some_b, (some_c, tt)));
    } in
    let r = (none_cover (a + b + c) g all ws are total).leave
    (true ∷ false ∷ false ∷ []) (false ∷ true ∷ false ∷ []) (false ∷ false ∷ true ∷ []) refl refl refl
    (omega arith) (omega arith) (omega arith) in
    all_three r.0 r.1 r.2 r.3

-- so all but the greatest that fit fail, at three or more
three_fail : (total g : ℕ) → 3 ≤ total → 1 ≤ g → total < 3 * g + 1 → AllMeet total g → ⊥
three_fail total g many some over all =
    elim (cases_lt (2 * g) total) [
      | inl large ↦ at g g (total - 2 * g) some some (omega arith) (omega arith) (omega arith) (omega arith) (omega arith)
      | inr small ↦ elim (cases_lt g (total - 1)) [
        | inl middle ↦
            at g (total - g - 1) 1 some (omega arith) (omega arith) (omega arith) (omega arith) (omega arith) (omega arith)
        | inr great ↦
            at (total - 2) 1 1 (omega arith) (omega arith) (omega arith) (omega arith) (omega arith) (omega arith)
            (omega arith)
      ]
    ]
  where
    at : (a b c : ℕ) → 1 ≤ a → 1 ≤ b → 1 ≤ c → a ≤ g → b ≤ g → c ≤ g → a + b + c ≡ total → ⊥
    at a b c x y z h i j e = three_cover a b c g x y z h i j (subst (λ (t : ℕ). AllMeet t g) (sym e) all)

-- at a total of 1
one_fails : (g : ℕ) → 1 ≤ g → AllMeet 1 g → ⊥
one_fails g some all =
    let are : AreWeights (1 ∷ []) = record { some = omega arith; positive = all_positive (1 ∷ []) (omega arith, tt) } in
    let all_in = true ∷ [] in
    let r = (none_cover 1 g all (1 ∷ []) are refl).leave all_in all_in all_in refl refl refl
    (omega arith) (omega arith) (omega arith) in
    all_one r.0 r.1

-- at a total of 2
two_fails : (g : ℕ) → 1 ≤ g → AllMeet 2 g → ⊥
two_fails g some all =
    let ws = 1 ∷ 1 ∷ [] in
    let are : AreWeights ws = record { some = omega arith; positive = all_positive ws (omega arith, (omega arith, tt)) } in
    let r = (none_cover 2 g all ws are refl).leave
    (true ∷ false ∷ []) (false ∷ true ∷ []) (false ∷ true ∷ []) refl refl refl
    (omega arith) (omega arith) (omega arith) in
    all_two r.0 r.1 r.2

-- at every total
fail : (total g : ℕ) → 1 ≤ total → 1 ≤ g → total < 3 * g + 1 → AllMeet total g → ⊥
fail zero g n some over all = omega arith
fail (suc zero) g n some over all = one_fails g some all
fail (suc (suc zero)) g n some over all = two_fails g some all
fail (suc (suc (suc total))) g n some over all = three_fail (suc (suc (suc total))) g (omega arith) some over all

-- the greatest by division is the greatest for which quorums meet
GreatestMeeting-by_fit : (total f : ℕ) → GreatestFit 3 total f → GreatestMeeting total f
GreatestMeeting-by_fit total f h = record {
  meets = λ ws e.
      subst (λ (t : ℕ). WeightedMeetsOutside ws (t - f) f) e (meets-by_thirds ws f (omega (arith, h.fits, e)));
  greatest = λ g all.
      elim (cases_lt f g) [
        | inl above ↦
            absurd (fail total g (omega (arith, h.fits)) (omega arith) (over_greatest 3 total f g h above) all)
        | inr most ↦ most
      ];
}

-- where quorums meet, the total isn't 0
some_from_meeting : (total f : ℕ) → GreatestMeeting total f → 1 ≤ total
some_from_meeting zero f h =
    let r = (h.meets [] refl).meets [] [] [] refl refl refl (omega arith) (omega arith) (omega arith) in
    absurd (never r.0 r.1)
  where
    never : (p : ℕ) → IsIn [] p → ⊥
    never p e = cc
some_from_meeting (suc total) f h = omega arith

-- and the only one
pub GreatestMeeting-is : (total f : ℕ) → GreatestMeeting total f ↔ GreatestFit 3 total f
GreatestMeeting-is total f = (
  λ h.
      let fit = GreatestFit-by_division 3 total (omega arith) (some_from_meeting total f h) in
      let other = GreatestMeeting-by_fit total ((total - 1) / 3) fit in
      let low = h.greatest ((total - 1) / 3) (λ ws w e. other.meets ws e) in
      let high = other.greatest f (λ ws w e. h.meets ws e) in
      let same : (total - 1) / 3 ≡ f = omega (arith, low, high) in
      subst (GreatestFit 3 total) same fit,
  GreatestMeeting-by_fit total f,
)
