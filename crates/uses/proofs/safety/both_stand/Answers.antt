-- The network of one traitor keeps the rules.
use Rattle.std.proofs.Common.{◌≡◌, ◌≢◌, ◌⊎◌, inl, inr, ℕ, ◌<◌, ◌^◌, List, [], ◌∷◌, length, subst, sym, ◌∙◌, arith}
use Rattle.std.specs.List.{Contains}
use Rattle.std.proofs.lemmas.List.Elements.{All-cons, All-nil, Contains-get_or}
use Rattle.commonware_base.specs.Unions.{union_text}
use Rattle.commonware_base.proofs.UnionLemmas.{union_only}
use Rattle.committee_certificates.specs.Accountability.{AtMostFaulty, SignOneDecision}
use Rattle.uses.proofs.safety.both_stand.Goals as goal

-- who is honest
abbrev IsHonest : ℕ → Type 0
IsHonest index = index ≢ 0

-- who signed what
abbrev HasSigned : ℕ → List ℕ → Type 0
HasSigned index value =
    (decision : List ℕ) × (value ≡ union_text (0 ∷ []) decision) × ((index ≡ 0) ⊎ (decision ≡ 170 ∷ []))

-- what an honest one signed for a slot is the one decision
decided : (index : ℕ) → IsHonest index → (slot decision : List ℕ) → length slot < 2 ^ 32
    → HasSigned index (union_text slot decision) → decision ≡ 170 ∷ []
decided index honest slot decision short (other, same, inl traitor) = absurd (honest traitor)
decided index honest slot decision short (other, same, inr e) =
    (union_only slot (0 ∷ []) decision other short (omega arith) same).1 ∙ e

-- so honest ones sign one decision a slot
rule : SignOneDecision IsHonest HasSigned
rule = record {
  one_decision = λ index honest slot decision other short first second.
      decided index honest slot decision short first ∙ sym (decided index honest slot other short second);
}

-- one of four isn't honest
one_of_four : AtMostFaulty 4 1 IsHonest
one_of_four = record {
  faulty = 0 ∷ [];
  strict = λ k d high. absurd (omega arith);
  members = All-cons (λ i. i < 4) 0 [] (omega arith) (All-nil (λ i. i < 4));
  few = omega arith;
  others_honest = λ index below absent zero.
      absent (subst (Contains (0 ∷ [])) (sym zero) (Contains-get_or (0 ∷ []) 0 0 (omega arith)));
}

pub returns : goal.returns
returns c = λ yes one two. c.both_certified_among.ensures.safe yes (omega arith) rule one_of_four one two
