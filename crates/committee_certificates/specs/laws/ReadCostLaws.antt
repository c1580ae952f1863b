-- What comes after the value of an input.
use Rattle.std.specs.Prelude.{◌≡◌, ℕ, List, ◌++◌}
use Rattle.std.proofs.Common.{ap, sym, ◌∙◌}
use Rattle.std.proofs.lemmas.List.{append_cancel_left}
use Rattle.commonware_base.specs.Bytes.{byte}
use Rattle.commonware_base.specs.Lists.{list_enc}
use Rattle.commonware_base.specs.Text.{IsByte}
use Rattle.commonware_base.specs.laws.ByteLaws.{byte_prefix_free}
use Rattle.commonware_base.specs.laws.ListLaws.{list_prefix_free}
use Rattle.committee_certificates.specs.ReadCosts.{HasAfterValue}

-- an input begins with one value at most, so the same bytes come after it
pub one_after_value : (text after other : List ℕ) → HasAfterValue text after → HasAfterValue text other → after ≡ other
one_after_value text after other v w =
    let same = list_prefix_free byte IsByte byte_prefix_free v.value w.value after other v.writable w.writable
    (sym v.begins ∙ w.begins) in
    append_cancel_left (list_enc byte v.value) after other (sym v.begins ∙ (w.begins ∙ ap (λ u. u ++ other) (sym same)))
