-- What is written is one map, of all pairs, and what is read is that one.
use Rattle.std.proofs.Common.{◌≡◌, ◌∙◌, ap, arith, drop, length, length-append, rules, subst, sym}
use Rattle.commonware_base.specs.Text.{AreBytes}
use Rattle.commonware_map.specs.Maps.{map_enc}
use Rattle.commonware_sequence.specs.FixedBytes.{own_bytes}
use Rattle.commonware_views.specs.Lists.{StandBy}
use Rattle.commonware_c.specs.Committees.{between}
use Rattle.commonware_c.proofs.OneMap.{one_encoding, one_number, one_pairs}
use Rattle.commonware_c.proofs.ReadBack.{begins_with, written_map}
use Rattle.commonware_c.proofs.Repeats.{map_of_firsts}
use Rattle.commonware_c.proofs.round_trips.keys.unique_map_there_and_back.Goals as goal

pub returns : goal.returns
returns c =
    let ks = c.args.key_size in
    let vs = c.args.value_size in
    let room = c.commonware_map_encode-written.new.out in
    let view = c.commonware_map_encode-written.result in
    let read = c.commonware_map_read.ensures in
    let ok : view.status ≡ 0 = search rules in
    let w = c.commonware_map_encode-written.ensures.written ok in
    let rest = drop (length (map_enc own_bytes own_bytes w.1)) c.args.room.now in
    let bytes = subst AreBytes c.new.ensures.bytes c.position.ensures.are_bytes in
    let range = between 0 view.count in
    let firsts = map_of_firsts ks vs w.0 w.1 view.count view.size w.3 in
    let is_map = written_map ks vs w.0 w.1 view.count view.size room rest w.2.each firsts bytes
    (begins_with (map_enc own_bytes own_bytes w.1) c.args.room.now room w.4) in
    let status = read.exactly.1 (w.1, rest, is_map) in
    let a = read.accepted status in
    let same = one_pairs ks vs range room a.0 w.1 a.1 rest a.2 is_map in
    let encoded = one_encoding ks vs range room a.0 w.1 a.1 rest a.2 is_map in (
      status,
      (
        w.0,
        w.1,
        w.2,
        w.3.are_all,
        a.3 ∙ one_number ks vs range room a.0 w.1 a.1 rest a.2 is_map ∙ sym firsts.count_is ∙ w.3.count_is,
        omega (arith, a.4, ap length encoded, ap length a.2.begins, length-append (map_enc own_bytes own_bytes a.0) a.1),
        subst (StandBy ks room c.commonware_map_read.result.keys) same.0 a.5,
        subst (StandBy vs room c.commonware_map_read.result.values) same.1 a.6,
      ),
    )
