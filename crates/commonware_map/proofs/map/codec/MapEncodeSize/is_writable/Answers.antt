use Rattle.std.proofs.Common.{refl, subst, sym}
use Rattle.commonware_base.specs.Lists.{IsWritableList}
use Rattle.commonware_ordered.specs.Sets.{IsWritableSet}
use Rattle.commonware_map.proofs.Columns.{opened}
use Rattle.commonware_map.proofs.map.codec.MapEncodeSize.is_writable.Goals as goal

pub returns-then-is_writable : goal.returns-then-is_writable
returns-then-is_writable g c =
    let o = opened _ _ _ c.self.view_is c.self.invariant in
    let key = IsWritableSet g.K.EncodeSize.writable g.K.Ord.cmp in
    let value = IsWritableList g.V.EncodeSize.writable in
    (λ t. (subst key o.keys (c.if-is_writable.ensures.0 refl), subst value o.values (c.is_writable-then-is_writable.ensures.0 t)), λ w. c.is_writable-then-is_writable.ensures.1 (subst value (sym o.values) w.1))

pub returns-else-is_writable : goal.returns-else-is_writable
returns-else-is_writable g c =
    let o = opened _ _ _ c.self.view_is c.self.invariant in
    let key = IsWritableSet g.K.EncodeSize.writable g.K.Ord.cmp in
    (λ t. let no = c.if-is_writable.false in absurd (cc), λ w. c.is_writable.ensures.1 (subst key (sym o.keys) w.0))
