use Rattle.std.proofs.Common.{sym, ap, ◌∙◌, ◌&&◌}
use Rattle.std.specs.Cmp.Lexicographic.{pointwise}
use Rattle.std.specs.Map.{values_of}
use Rattle.commonware_map.specs.laws.PairLaws.{equal_by_parts}
use Rattle.commonware_map.proofs.map.compare.MapPartialEq.eq.Goals as goal

pub returns-then-eq : goal.returns-then-eq
returns-then-eq g c =
    let k = g.K.PartialEq.eq in
    let v = g.V.PartialEq.eq in
    c.eq-then-eq.ensures ∙ (λ j. pointwise v (c.values.ensures j) (c.values-then-eq.ensures j))
    ∙ ap (λ b. b && pointwise v (values_of c.args.self.now) (values_of c.args.other.now))
    (c.if-eq.ensures ∙ (λ j. pointwise k ((c.as_slice.ensures.items ∙ c.keys.ensures) j) ((c.as_slice-2.ensures.items ∙ c.keys-2.ensures) j)))
    ∙ sym (equal_by_parts k v c.args.self.now c.args.other.now)

pub returns-else-eq : goal.returns-else-eq
returns-else-eq g c =
    let k = g.K.PartialEq.eq in
    let v = g.V.PartialEq.eq in
    c.if-eq.false
    ∙ ap (λ b. b && pointwise v (values_of c.args.self.now) (values_of c.args.other.now))
    (c.if-eq.ensures ∙ (λ j. pointwise k ((c.as_slice.ensures.items ∙ c.keys.ensures) j) ((c.as_slice-2.ensures.items ∙ c.keys-2.ensures) j)))
    ∙ sym (equal_by_parts k v c.args.self.now c.args.other.now)
