-- What a walk along signers that sums numbers keeps.
use Rattle.std.proofs.Common.{◌≡◌, ℕ, ◌+◌, ◌<◌, ◌≤◌, List, [], ◌∷◌, ◌++◌, append-nil, append_assoc, get_or, length, None, Option, SomeIff}
use Rattle.std.proofs.Common.{refl, ap, subst, sym, ◌∙◌, arith}
use Rattle.std.specs.List.{Contains, sum_by}
use Rattle.std.proofs.lemmas.List.Elements.{All-contains, All-nil, All-push, Contains-append_right}
use Rattle.std.proofs.lemmas.List.Sums.{sum_by-append, sum_by-cons, sum_by_push}
use Rattle.committee_certificates.specs.Cursors.{IsAt}
use Rattle.committee_certificates.specs.InPlace.{sum_at}
use Rattle.committee_certificates.specs.Signers.{AreMembers}
use Rattle.committee_certificates.specs.declared.walk.Cursor.{Cursor}
use Rattle.committee_certificates.proofs.Ascended.{IsNext}

-- the number at an index, or 0 past the last
abbrev number_at : List ℕ → ℕ → ℕ
number_at numbers i = get_or numbers i 0

-- Along signers the indices before a place are `before`. Each has a number, and this is their sum.
pub record IsSummed (numbers indices : List ℕ) (cursor : Cursor) (sum : ℕ) : Type 0 where
  pub before : List ℕ
  pub left : List ℕ
  pub at : IsAt cursor left
  pub same : before ++ left ≡ indices
  pub members : AreMembers (length numbers) before
  pub sum_is : sum ≡ sum_at numbers before

-- none is before the first
pub summed_none : (numbers indices : List ℕ) (cursor : Cursor) → IsAt cursor indices → IsSummed numbers indices cursor 0
summed_none numbers indices cursor at = record {
  before = [];
  left = indices;
  at = at;
  same = refl;
  members = All-nil (λ i. i < length numbers);
  sum_is = refl;
}

module _ (numbers indices : List ℕ) (cursor : Cursor) (sum : ℕ) (p : IsSummed numbers indices cursor sum) where
  module _ (some : 0 < cursor.left) where
    -- there is an index at the place
    opened : {Goal : Type 0}
        → ((x : ℕ) (left : List ℕ) → IsAt cursor (x ∷ left) → p.before ++ x ∷ left ≡ indices → Goal) → Goal
    opened {Goal} then = go p.left p.at p.same
      where
        go : (left : List ℕ) → IsAt cursor left → p.before ++ left ≡ indices → Goal
        go [] at same = absurd (omega (arith, at, some))
        go (x ∷ left) at same = then x left at same

    -- its number is added
    pub summed_more : (next : Cursor) (number : ℕ) → IsNext Cursor IsAt cursor next → cursor.index < length numbers
        → number ≡ get_or numbers cursor.index 0 → IsSummed numbers indices next (sum + number)
    summed_more next number step inside is = opened (λ x left at same. record {
      before = p.before ++ cursor.index ∷ [];
      left = left;
      at = step x left at;
      same =
          append_assoc p.before (cursor.index ∷ []) left ∙ ap (λ i. p.before ++ i ∷ left) at.1 ∙ same;
      members = All-push (λ i. i < length numbers) p.before cursor.index p.members inside;
      sum_is = omega (arith, p.sum_is, is, sum_by_push (number_at numbers) p.before cursor.index);
    })

    -- it has none
    pub summed_outside : length numbers ≤ cursor.index → ¬ AreMembers (length numbers) indices
    summed_outside outside members = opened (λ x left at same.
        let among : Contains (p.before ++ x ∷ left) x =
        Contains-append_right p.before (x ∷ left) x (0, omega arith, refl) in
        let inside = All-contains (λ i. i < length numbers) indices x members (subst (λ l. Contains l x) same among) in
        absurd (omega (arith, inside, outside, at.1)))

    -- the sum with it is no more than that of all
    pub summed_past : (number : ℕ) → number ≡ get_or numbers cursor.index 0 → sum + number ≤ sum_at numbers indices
    summed_past number is = opened (λ x left at same.
        let f = number_at numbers in
        let here : f x ≡ number = ap f (sym at.1) ∙ sym is in
        let all = sum_by-append f p.before (x ∷ left) in
        let one = sum_by-cons f x left in
        let whole : sum_by f (p.before ++ x ∷ left) ≡ sum_at numbers indices = ap (sum_by f) same in
        omega (arith, here, all, one, whole, p.sum_is))

  -- where none is left, all are summed
  pub summed_all : cursor.left ≤ 0 → AreMembers (length numbers) indices × (sum ≡ sum_at numbers indices)
  summed_all none = go p.left p.at p.same
    where
      go : (left : List ℕ) → IsAt cursor left → p.before ++ left ≡ indices
          → AreMembers (length numbers) indices × (sum ≡ sum_at numbers indices)
      go [] at same =
          let all : p.before ≡ indices = sym (append-nil p.before) ∙ same in
          (subst (AreMembers (length numbers)) all p.members, p.sum_is ∙ ap (sum_at numbers) all)
      go (x ∷ left) at same = absurd (omega (arith, at.0, none))

-- where a condition doesn't hold, nothing is right
pub unless : {P : Type 0} {result : Option ℕ} (v : ℕ) → result ≡ None → ¬ P → SomeIff result P v
unless {P} v is never = subst (λ r. SomeIff r P v) (sym is) never
