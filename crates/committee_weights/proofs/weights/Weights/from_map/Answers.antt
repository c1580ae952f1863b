-- The values are refused for one reason, and with their keys they are the pairs.
use Rattle.std.proofs.Common.{Err, List, ℕ, ap, subst, zip, ◌≡◌, ◌∙◌}
use Rattle.std.specs.Map.{keys_of, values_of}
use Rattle.commonware_map.proofs.Columns.{zip-parts}
use Rattle.committee_weights.specs.Refusals.{IsRefusedAs}
use Rattle.committee_weights.specs.declared.weights.error.MapWeightsError.TheVariants.{Refused}
use Rattle.committee_weights.specs.declared.weights.error.WeightsError.{WeightsError}
use Rattle.committee_weights.proofs.Refusing.{one_refusal}
use Rattle.committee_weights.proofs.weights.Weights.from_map.Goals as goal

pub returns-in_ok-items-in-Ok-clause-positions : goal.returns-in_ok-items-in-Ok-clause-positions
returns-in_ok-items-in-Ok-clause-positions g c =
    let pairs = c.args.map.now in
    let values = c.in_ok-items-in-Ok.ensures ∙ c.values-in-Ok.ensures in
    ap (λ (ws : List ℕ). zip (keys_of pairs) ws) values ∙ zip-parts pairs

pub returns-in-Err-clause-refused : goal.returns-in-Err-clause-refused
returns-in-Err-clause-refused g c = λ error.
    let values = values_of c.args.map.now in
    let refused = subst (λ (ws : List ℕ). IsRefusedAs ws c.in-Err.error) c.values.ensures c.in-Err.ensures in (
      λ is. let same : c.in-Err.error ≡ error = cc is in subst (IsRefusedAs values) same refused,
      λ other. ap (λ (e : WeightsError). Err (Refused e)) (one_refusal values c.in-Err.error error refused other),
    )
