-- What is written is one map, which is a bimap exactly where its values are distinct.
use Rattle.std.proofs.Common.{◌≡◌, arith, drop, length, rules, subst}
use Rattle.commonware_base.specs.Text.{AreBytes}
use Rattle.commonware_map.specs.Maps.{map_enc}
use Rattle.commonware_sequence.specs.FixedBytes.{own_bytes}
use Rattle.commonware_views.specs.Repeats.{AreDistinct}
use Rattle.commonware_c.specs.Committees.{between}
use Rattle.commonware_c.proofs.OneMap.{one_map, one_number}
use Rattle.commonware_c.proofs.ReadBack.{begins_with, written_map}
use Rattle.commonware_c.proofs.round_trips.keys.map_there_and_bimap_back.Goals as goal

pub returns : goal.returns
returns c =
    let ks = c.args.key_size in
    let vs = c.args.value_size in
    let room = c.commonware_map_encode_dedup-written.new.out in
    let view = c.commonware_map_encode_dedup-written.result in
    let read = c.commonware_bimap_read.ensures in
    let ok : view.status ≡ 0 = search rules in
    let w = c.commonware_map_encode_dedup-written.ensures.written ok in
    let rest = drop (length (map_enc own_bytes own_bytes w.1)) c.args.room.now in
    let bytes = subst AreBytes c.new.ensures.bytes c.position.ensures.are_bytes in
    let range = between 0 view.count in
    let is_map = written_map ks vs w.0 w.1 view.count view.size room rest w.2.each w.3 bytes
    (begins_with (map_enc own_bytes own_bytes w.1) c.args.room.now room w.4) in (
      w.0,
      w.1,
      w.2,
      w.3.firsts,
      (
        λ e.
            let b = read.exactly.0 e in (
              subst (λ values. AreDistinct values) (one_map ks vs range room b.0 w.1 b.1 rest b.2.map is_map) b.2.distinct,
              omega (arith, b.3, one_number ks vs range room b.0 w.1 b.1 rest b.2.map is_map),
            ),
        λ h. read.exactly.1 (w.1, rest, record { map = is_map; distinct = h.0 }, h.1),
      ),
    )
