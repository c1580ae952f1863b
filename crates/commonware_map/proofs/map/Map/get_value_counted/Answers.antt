use Rattle.std.proofs.Common.{subst, ap, sym, ◌∙◌, ◌≡◌, get_or}
use Rattle.std.specs.Option.{option_copied}
use Rattle.commonware_map.specs.laws.LookupLaws.{lookup_none}
use Rattle.commonware_map.proofs.Lookups.{lookup_at}
use Rattle.commonware_map.proofs.map.Map.get_value_counted.Goals as goal

pub returns-clause-value : goal.returns-clause-value
returns-clause-value g c =
    let p = c.in_ok-index.ensures in
    lookup_at _ c.args.key.now c.args.self.now _ _ p.place.0 (p.place.1 c.args.key.now) p.only
    (subst (λ l. c.index-values-index.result ≡ get_or l c.in_ok-index.index c.index-values-index.result) c.values.ensures c.index-values-index.is)

pub returns-in_err-index-clause-value : goal.returns-in_err-index-clause-value
returns-in_err-index-clause-value g c = ap option_copied c.from_residual.ensures ∙ sym (lookup_none _ c.args.self.now c.in_err-index.ensures.place)
