use Rattle.std.proofs.Common.{subst, sym, ◌∙◌}
use Rattle.std.proofs.lemmas.List.Elements.{length_all_zip}
use Rattle.std.specs.List.{AllZip, zip}
use Rattle.commonware_map.proofs.Columns.{all_zip-zip}
use Rattle.commonware_map.proofs.map.compare.MapClone.clone.Goals as goal

pub returns : goal.returns
returns g c =
    let C = g.K.Clone.is_clone in
    let D = g.V.Clone.is_clone in
    record {
      cases = subst (λ es. AllZip (λ p q. C p.0 q.0 × D p.1 q.1) es (zip c.in_ok-keys.keys c.in_ok-values.values.items)) c.self.view_is
          (all_zip-zip C D _ _ _ _ c.in_ok-keys.ensures.cases c.in_ok-values.ensures.cases.0);
    }

pub invariant_of-result : goal.invariant_of-result
invariant_of-result g c =
    sym (length_all_zip g.V.Clone.is_clone _ _ c.in_ok-values.ensures.cases.0) ∙ (c.self.invariant ∙ length_all_zip g.K.Clone.is_clone _ _ c.in_ok-keys.ensures.cases)
