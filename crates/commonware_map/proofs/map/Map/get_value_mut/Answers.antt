use Rattle.std.proofs.Common.{sym, refl, inl, arith}
use Rattle.std.proofs.lemmas.Map.Entries.{length-keys_of}
use Rattle.commonware_map.specs.laws.LookupLaws.{lookup_none}
use Rattle.commonware_map.proofs.Lookups.{lookup_at, set_value_at_place}
use Rattle.commonware_map.proofs.map.Map.get_value_mut.Goals as goal

pub value_mut-requires : goal.value_mut-requires
value_mut-requires g c = omega (arith, c.in-Some.ensures.place.0, length-keys_of c.args.self.now)

pub returns-in-Some : goal.returns-in-Some
returns-in-Some g c =
    let p = c.in-Some.ensures in (
      (λ j. inl (c.value_mut.result.ghost_name, λ w. set_value_at_place _ c.args.key.now c.args.self.now _ w p.place.0 (p.place.1 c.args.key.now) p.only j)),
      record { writes_back = tt; value = lookup_at _ c.args.key.now c.args.self.now _ _ p.place.0 (p.place.1 c.args.key.now) p.only c.value_mut.ensures.value },
    )

pub returns-in-None : goal.returns-in-None
returns-in-None g c = (refl, record { writes_back = tt; value = sym (lookup_none _ c.args.self.now c.in-None.ensures.place) })
