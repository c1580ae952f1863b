-- Those that came before are known.
use Rattle.std.proofs.Common.{◌≡◌, ◌∙◌, ◌<◌, ℕ, List, ap, arith, get_or, inl, inr, length, subst, sym, take}
use Rattle.std.specs.List.{All, Contains}
use Rattle.std.specs.Ordering.{nat_cmp}
use Rattle.std.specs.declared.cmp.Ordering.TheVariants.{Less}
use Rattle.std.proofs.lemmas.Bool.{cases_lt}
use Rattle.std.proofs.lemmas.Cmp.{nat_cmp_total, ranked}
use Rattle.std.proofs.lemmas.List.{get_or-take, get_or_default, length-take, take_all}
use Rattle.std.proofs.lemmas.List.Elements.{All-contains, All-more}
use Rattle.std.proofs.lemmas.Map.Keys.{Less-from_sorted}
use Rattle.commonware_ordered.specs.Strict.{IsStrict}
use Rattle.commonware_ordered.specs.laws.PlaceLaws.{among_iff}
use Rattle.commonware_ordered.specs.laws.StrictLaws.{sorted_from_strict}
use Rattle.committee_certificates.specs.laws.SignerLaws.{one-outside}
use Rattle.committee_certificates.proofs.voters.first_new.Goals as goal
use Rattle.committee_certificates.proofs.voters.first_new.Given.{Over}

-- what is less than the participant at a place of a strictly increasing list is before that place
before_place : (xs : List ℕ) (i x p : ℕ) → IsStrict nat_cmp xs → i < length xs → x ≡ get_or xs i x → p < x
    → Contains xs p → Contains (take i xs) p
before_place xs i x p strict inside at low (k, h, e) =
    elim (cases_lt k i) [
      | inl lt ↦ (k, omega (arith, length-take i xs), get_or-take i xs k p lt ∙ e)
      | inr le ↦
          let here : get_or xs i p ≡ x = get_or_default xs i p x inside ∙ sym at in
          elim (cases_lt i k) [
            | inl lt ↦
                let less : nat_cmp (get_or xs i p) (get_or xs k p) ≡ Less =
                Less-from_sorted nat_cmp xs i k p (sorted_from_strict nat_cmp_total xs strict) lt h in
                absurd (omega (arith, ranked (get_or xs i p) (get_or xs k p) Less (sym less)))
            | inr ge ↦
                let same : k ≡ i = omega arith in
                absurd (omega (arith, ap (λ j. get_or xs j p) same))
          ]
    ]

-- what is at a place of a list is at that place of an equal list
at_place : (items xs : List ℕ) (i x : ℕ) → items ≡ xs → x ≡ get_or items i x → x ≡ get_or xs i x
at_place items xs i x same at = at ∙ ap (λ ys. get_or ys i x) same

pub loop-participant-preserved : goal.loop-participant-preserved
loop-participant-preserved g c =
    let here = at_place _ c.args.accused.now _ _ c.as_slice-participant-items.ensures.items c.participant-item.is in
    let among = sym c.contains.ensures.value ∙ c.if-not-contains.false in
    let known = (among_iff c.args.known.now c.participant-item.result).0 among in
    All-more (Contains c.args.known.now) c.args.accused.now c.loop-participant.participant-index
    c.participant-item.result (omega (arith, ap length c.as_slice-participant-items.ensures.items))
    c.loop-participant.invariant (subst (Contains c.args.known.now) here known)

pub returns-then-not-contains-clause-least : goal.returns-then-not-contains-clause-least
returns-then-not-contains-clause-least g c = λ earlier low w.
    let here = at_place _ c.args.accused.now _ _ c.as_slice-participant-items.ensures.items c.participant-item.is in
    let inside = ap length c.as_slice-participant-items.ensures.items in
    All-contains (Contains c.args.known.now) _ earlier c.loop-participant.invariant
    (before_place c.args.accused.now c.loop-participant.participant-index c.participant-item.result earlier
    c.as_slice-participant-items.ensures.strict (omega (arith, inside)) here low w)

-- all are known
all_known : (g : Over) (c : goal.After-loop-participant g) (p : ℕ) → Contains c.args.accused.now p
    → Contains c.args.known.now p
all_known g c p w =
    let items = c.as_slice-participant-items.ensures.items in
    let whole = take_all c.loop-participant.participant-index c.args.accused.now (omega (arith, ap length items)) in
    All-contains (Contains c.args.known.now) _ p
    (subst (All (Contains c.args.known.now)) whole c.loop-participant.invariant) w

pub returns-clause-none : goal.returns-clause-none
returns-clause-none g c = all_known g c

pub returns-clause-outlasts : goal.returns-clause-outlasts
returns-clause-outlasts g c = λ n f leaves few.
    let one = one-outside n f c.args.accused.now leaves c.args.known.now few in
    absurd (one.2 (all_known g c one.0 one.1))
