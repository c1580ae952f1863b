use Rattle.std.proofs.Common.{◌≡◌, ◌∙◌, ap, subst, sym, get_or}
use Rattle.std.specs.Prelude.{Some, false}
use Rattle.std.specs.List.{All}
use Rattle.std.specs.Map.{keys_of, values_of}
use Rattle.std.specs.Option.{option_copied}
use Rattle.commonware_ordered.specs.Strict.{IsPlaceOf, IsStrict}
use Rattle.commonware_ordered.specs.Whole.{HasEqualItems}
use Rattle.commonware_map.specs.laws.LookupLaws.{lookup_none}
use Rattle.commonware_bimap.specs.Swapped.{swapped}
use Rattle.commonware_bimap.proofs.Keys.{found_both_ways, key_at, keys_of-swapped}
use Rattle.commonware_bimap.proofs.bimap.BiMap.get_key.Goals as goal

pub returns-in_err-index-clause-key : goal.returns-in_err-index-clause-key
returns-in_err-index-clause-key g c =
    ap option_copied c.from_residual.ensures
    ∙ sym (lookup_none (λ v. g.V.PartialEq.eq v c.args.value.now) (swapped c.args.self.now)
    (subst (All (λ v. g.V.PartialEq.eq v c.args.value.now ≡ false)) (c.values.ensures ∙ ap values_of c.self.view_is ∙ sym (keys_of-swapped c.args.self.now)) c.in_err-index.ensures))

pub returns-in_err-index-clause-law : goal.returns-in_err-index-clause-law
returns-in_err-index-clause-law g c =
    found_both_ways g.met.K.Ord.total g.met.K.Ord.matches_eq g.met.K.Eq.laws g.V.PartialEq.eq g.met.V.Eq.laws c.args.self.now
    (subst (IsStrict g.K.Ord.cmp) (c.keys.ensures ∙ ap keys_of c.self.view_is) c.as_slice-keys.ensures.strict) (subst (λ m. ¬ HasEqualItems g.V.PartialEq.eq (values_of m)) c.self.view_is c.self.invariant)
    c.args.value.now (option_copied c.from_residual.result) (returns-in_err-index-clause-key g c)

pub returns-clause-key : goal.returns-clause-key
returns-clause-key g c =
    key_at g.V.PartialEq.eq g.met.V.Eq.laws c.args.self.now (subst (λ m. ¬ HasEqualItems g.V.PartialEq.eq (values_of m)) c.self.view_is c.self.invariant) c.args.value.now c.in_ok-index.index c.index-keys-index.result
    (subst (λ l. IsPlaceOf g.V.PartialEq.eq l c.args.value.now (Some c.in_ok-index.index)) (c.values.ensures ∙ ap values_of c.self.view_is) c.in_ok-index.ensures)
    (subst (λ l. c.index-keys-index.result ≡ get_or l c.in_ok-index.index c.index-keys-index.result) (c.as_slice-keys.ensures.items ∙ c.keys.ensures ∙ ap keys_of c.self.view_is) c.index-keys-index.is)

pub returns-clause-law : goal.returns-clause-law
returns-clause-law g c =
    found_both_ways g.met.K.Ord.total g.met.K.Ord.matches_eq g.met.K.Eq.laws g.V.PartialEq.eq g.met.V.Eq.laws c.args.self.now
    (subst (IsStrict g.K.Ord.cmp) (c.keys.ensures ∙ ap keys_of c.self.view_is) c.as_slice-keys.ensures.strict) (subst (λ m. ¬ HasEqualItems g.V.PartialEq.eq (values_of m)) c.self.view_is c.self.invariant)
    c.args.value.now (Some c.index-keys-index.result) (returns-clause-key g c)
