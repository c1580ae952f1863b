-- A list of numbers is refused for one reason, or accepted.
use Rattle.std.proofs.Common.{◌≡◌, ◌⊎◌, inl, inr, ℕ, zero, suc, ◌+◌, ◌^◌, ◌<◌, ◌≤◌, false, List, length, sum, take, get_or, Result, Ok, Err}
use Rattle.std.proofs.Common.{refl, ap, sym, ◌∙◌, ◌↔◌, subst, arith}
use Rattle.std.specs.Prelude.{MatchResult, IsOk, nat_eq}
use Rattle.std.proofs.lemmas.List.{take-take, take_all}
use Rattle.std.proofs.lemmas.List.Elements.{All-from_get_or}
use Rattle.std.proofs.lemmas.Bool.{cases_lt, cases_order}
use Rattle.std.proofs.lemmas.List.Sums.{sum_by-take-le, sum_by_more}
use Rattle.committee_weights.specs.Refusals.{AreCommitteeWeights, AreSoundBefore, IsRefusedAs}
use Rattle.committee_weights.specs.declared.weights.error.WeightsError.{WeightsError}
use Rattle.committee_weights.specs.declared.weights.error.WeightsError.TheVariants.{Empty, TooMany, Zero, Overflow}

-- the sum of the first weights is no more than that of more of them
sum-take-le : (ws : List ℕ) (i j : ℕ) → i ≤ j → sum (take i ws) ≤ sum (take j ws)
sum-take-le ws i j h =
    omega (
      arith,
      sum_by-take-le {X = ℕ} (λ x. x) (take j ws) i,
      ap (λ (l : List ℕ). sum l) (take-take i j ws h),
    )

-- a weight that is 0 adds nothing
sum-take-zero : (ws : List ℕ) (i : ℕ) → i < length ws → get_or ws i 0 ≡ 0 → sum (take (i + 1) ws) ≡ sum (take i ws)
sum-take-zero ws i inside none = omega (arith, sum_by_more (λ x. x) ws i 0 inside)

-- no place is the first of both kinds
zero_or_overflow : (ws : List ℕ) (i j : ℕ) → AreSoundBefore ws i → get_or ws i 0 ≡ 0 → AreSoundBefore ws j
    → 2 ^ 64 ≤ sum (take (j + 1) ws) → ⊥
zero_or_overflow ws i j r none s over =
    elim (cases_lt i j) [
      | inl less ↦ omega (arith, s.positive i less)
      | inr most ↦
          omega (
            arith,
            sum-take-le ws (j + 1) (i + 1) (omega arith),
            sum-take-zero ws i r.within none,
            r.fits,
            over,
          )
    ]

-- weights of a committee aren't refused
pub accepted_not_refused : (ws : List ℕ) (e : WeightsError) → AreCommitteeWeights ws → ¬ IsRefusedAs ws e
accepted_not_refused ws Empty w r = omega (arith, w.are_weights.some, r)
accepted_not_refused ws TooMany w r = omega (arith, w.few, r)
accepted_not_refused ws (Zero i) w r = omega (arith, w.are_weights.positive i 0 r.1.within, r.2)
accepted_not_refused ws (Overflow i) w r = omega (arith, w.fits, r.2, sum_by-take-le {X = ℕ} (λ x. x) ws (i + 1))

-- one reason
pub one_refusal : (ws : List ℕ) (e d : WeightsError) → IsRefusedAs ws e → IsRefusedAs ws d → e ≡ d
one_refusal ws Empty Empty r s = refl
one_refusal ws Empty TooMany r s = absurd (omega arith)
one_refusal ws Empty (Zero j) r s = absurd (omega (arith, s.1.within))
one_refusal ws Empty (Overflow j) r s = absurd (omega (arith, s.1.within))
one_refusal ws TooMany Empty r s = absurd (omega arith)
one_refusal ws TooMany TooMany r s = refl
one_refusal ws TooMany (Zero j) r s = absurd (omega arith)
one_refusal ws TooMany (Overflow j) r s = absurd (omega arith)
one_refusal ws (Zero i) Empty r s = absurd (omega (arith, r.1.within))
one_refusal ws (Zero i) TooMany r s = absurd (omega arith)
one_refusal ws (Zero i) (Zero j) r s =
    elim (cases_order i j) [
      | inl same ↦ ap Zero same
      | inr (inl less) ↦ absurd (omega (arith, s.1.positive i less, r.2))
      | inr (inr more) ↦ absurd (omega (arith, r.1.positive j more, s.2))
    ]
one_refusal ws (Zero i) (Overflow j) r s = absurd (zero_or_overflow ws i j r.1 r.2 s.1 s.2)
one_refusal ws (Overflow i) Empty r s = absurd (omega (arith, r.1.within))
one_refusal ws (Overflow i) TooMany r s = absurd (omega arith)
one_refusal ws (Overflow i) (Zero j) r s = absurd (zero_or_overflow ws j i s.1 s.2 r.1 r.2)
one_refusal ws (Overflow i) (Overflow j) r s =
    elim (cases_order i j) [
      | inl same ↦ ap Overflow same
      | inr (inl less) ↦ absurd (omega (arith, sum-take-le ws (i + 1) j (omega arith), r.2, s.1.fits))
      | inr (inr more) ↦ absurd (omega (arith, sum-take-le ws (j + 1) i (omega arith), s.2, r.1.fits))
    ]

-- so the reason why a result is an error is the only one
pub exactly_refused : {W : Type 0} (ws : List ℕ) (r : Result W WeightsError)
    → MatchResult r (λ w. AreCommitteeWeights ws) (λ e. IsRefusedAs ws e)
    → (e : WeightsError) → (r ≡ Err e) ↔ IsRefusedAs ws e
exactly_refused ws (Ok w) h e = (λ is. absurd (cc), λ refused. absurd (accepted_not_refused ws e h refused))
exactly_refused ws (Err d) h e = (
  λ is. let same : d ≡ e = cc in subst (IsRefusedAs ws) same h,
  λ refused. ap (λ (f : WeightsError). Err f) (one_refusal ws d e h refused),
)

-- and only weights of a committee are accepted
pub exactly_accepted : {W : Type 0} (ws : List ℕ) (r : Result W WeightsError)
    → MatchResult r (λ w. AreCommitteeWeights ws) (λ e. IsRefusedAs ws e) → IsOk r ↔ AreCommitteeWeights ws
exactly_accepted ws (Ok w) h = (λ is. h, λ sound. refl)
exactly_accepted ws (Err d) h = (λ is. absurd (cc), λ sound. absurd (accepted_not_refused ws d sound h))

-- whatever is known of the sum
pub without_total : (ws : List ℕ) (r : Result ℕ WeightsError)
    → MatchResult r (λ total. AreCommitteeWeights ws × (total ≡ sum ws)) (λ e. IsRefusedAs ws e)
    → MatchResult r (λ total. AreCommitteeWeights ws) (λ e. IsRefusedAs ws e)
without_total ws (Ok total) h = h.0
without_total ws (Err e) h = h

-- the first i weights are above 0, and their sum is the total, which fits
abbrev pub AreSummed : List ℕ → ℕ → ℕ → Type 0
AreSummed ws i total = (total ≡ sum (take i ws)) × (total < 2 ^ 64) × ((k : ℕ) → k < i → 1 ≤ get_or ws k 0)

-- why the weight at a place isn't added
abbrev pub IsStopped : ℕ → ℕ → ℕ → WeightsError → Type 0
IsStopped total w i e = ((e ≡ Zero i) × (w ≡ 0)) ⊎ ((e ≡ Overflow i) × (2 ^ 64 ≤ total + w))

-- so the list is refused there
pub refused_at : (ws : List ℕ) (i total w : ℕ) (e : WeightsError) → length ws < 2 ^ 32 → i < length ws
    → AreSummed ws i total → w ≡ get_or ws i 0 → IsStopped total w i e → IsRefusedAs ws e
refused_at ws i total w e few within s at (inl (is, none)) =
    subst (IsRefusedAs ws) (sym is)
    (few, record { within = within; positive = s.2; fits = omega (arith, s.0, s.1) }, sym at ∙ none)
refused_at ws i total w e few within s at (inr (is, over)) =
    subst (IsRefusedAs ws) (sym is) (
      few,
      record { within = within; positive = s.2; fits = omega (arith, s.0, s.1) },
      omega (arith, sum_by_more (λ x. x) ws i 0 within, over, s.0, at),
    )

-- all are looked at
pub accepted_at_end : (ws : List ℕ) (i total : ℕ) → 1 ≤ length ws → length ws < 2 ^ 32 → length ws ≤ i
    → AreSummed ws i total → AreCommitteeWeights ws × (total ≡ sum ws)
accepted_at_end ws i total some few end s =
    let all : total ≡ sum ws = s.0 ∙ ap (λ l. sum l) (take_all i ws end) in (
      record {
        are_weights = record {
          some = some;
          positive = All-from_get_or (λ w. 1 ≤ w) ws 0 (λ k below. s.2 k (omega arith));
        };
        few = few;
        fits = omega (arith, all, s.1);
      },
      all,
    )

-- a list that isn't empty has an item
pub some_from_test : (n : ℕ) → nat_eq n 0 ≡ false → 1 ≤ n
some_from_test zero e = absurd (cc)
some_from_test (suc n) e = omega arith
