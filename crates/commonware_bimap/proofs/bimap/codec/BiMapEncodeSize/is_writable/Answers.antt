use Rattle.std.proofs.Common.{subst, sym}
use Rattle.std.specs.Map.{values_of}
use Rattle.commonware_map.specs.Maps.{IsWritableMap}
use Rattle.commonware_ordered.specs.Whole.{HasEqualItems}
use Rattle.commonware_bimap.proofs.bimap.codec.BiMapEncodeSize.is_writable.Goals as goal

pub returns : goal.returns
returns g c =
    let W = IsWritableMap g.K.EncodeSize.writable g.K.Ord.cmp g.V.EncodeSize.writable in (
      λ t. record { map = subst W c.self.view_is (c.is_writable.ensures.0 t); distinct = subst (λ m. ¬ HasEqualItems g.V.PartialEq.eq (values_of m)) c.self.view_is c.self.invariant },
      λ w. c.is_writable.ensures.1 (subst W (sym c.self.view_is) w.map),
    )
