use Rattle.std.proofs.Common.{◌∙◌, Bor, ℕ, List, subst, sym}
use Rattle.std.specs.List.{zip}
use Rattle.commonware_map.proofs.ByKeys.{strict_by_keys}
use Rattle.commonware_map.proofs.Columns.{zip-parts}
use Rattle.commonware_ordered.specs.Strict.{IsStrict}
use Rattle.commonware_sequence.specs.FixedBytes.{bytes_cmp}
use Rattle.commonware_c.proofs.unique.map_of_entries.Goals as goal

pub returns-clause-pairs : goal.returns-clause-pairs
returns-clause-pairs c = c.in-Some.ensures.pairs ∙ ((λ j. zip ((c.from_strict.ensures ∙ c.in_ok-keys.ensures.keys) j) (c.in_ok-keys.ensures.values j)) ∙ zip-parts c.args.entries)

pub returns-clause-strict : goal.returns-clause-strict
returns-clause-strict c =
    let cmp = λ (x y : Bor (List ℕ)). bytes_cmp x.now y.now in
    subst (IsStrict (λ p q. cmp p.0 q.0)) (sym (returns-clause-pairs c)) (strict_by_keys cmp c.args.entries (subst (IsStrict cmp) c.in_ok-keys.ensures.keys c.in_ok-keys.ensures.strict))
