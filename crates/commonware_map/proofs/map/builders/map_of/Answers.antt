use Rattle.std.proofs.Common.{ap, length, subst, sym, ◌≡◌, ◌∙◌}
use Rattle.std.specs.List.{zip}
use Rattle.std.proofs.lemmas.Map.Entries.{length-keys_of, length-values_of}
use Rattle.commonware_ordered.specs.Strict.{IsStrict}
use Rattle.commonware_map.proofs.Columns.{zip-parts}
use Rattle.commonware_map.proofs.ByKeys.{strict_by_keys}
use Rattle.commonware_map.proofs.map.builders.map_of.Given.{Over}
use Rattle.commonware_map.proofs.map.builders.map_of.Goals as goal

pub from_columns-requires : goal.from_columns-requires
from_columns-requires g c = ap length c.in_ok-keys.ensures.values ∙ (length-values_of c.args.entries ∙ sym (ap length (c.from_strict.ensures ∙ c.in_ok-keys.ensures.keys) ∙ length-keys_of c.args.entries))

-- the map is what was entries
pairs : (g : Over) (c : goal.After-from_columns g) → c.from_columns.result ≡ c.args.entries
pairs g c = c.from_columns.ensures ∙ ((λ j. zip ((c.from_strict.ensures ∙ c.in_ok-keys.ensures.keys) j) (c.in_ok-keys.ensures.values j)) ∙ zip-parts c.args.entries)

pub returns-clause-pairs : goal.returns-clause-pairs
returns-clause-pairs g c = pairs g c

pub returns-clause-strict : goal.returns-clause-strict
returns-clause-strict g c =
    subst (IsStrict (λ p q. g.K.Ord.cmp p.0 q.0)) (sym (pairs g c)) (strict_by_keys g.K.Ord.cmp c.args.entries (subst (IsStrict g.K.Ord.cmp) c.in_ok-keys.ensures.keys c.in_ok-keys.ensures.strict))
