-- What is written is one set, and what is read is that one.
use Rattle.std.proofs.Common.{◌≡◌, ◌∙◌, ap, drop, length, rules, subst}
use Rattle.commonware_base.specs.Lists.{list_enc}
use Rattle.commonware_base.specs.Text.{AreBytes}
use Rattle.commonware_sequence.specs.FixedBytes.{own_bytes}
use Rattle.commonware_views.specs.Lists.{StandBy}
use Rattle.commonware_c.specs.Committees.{between}
use Rattle.commonware_c.proofs.ReadBack.{begins_with, one_set, written_set}
use Rattle.commonware_c.proofs.round_trips.set_there_and_back.Goals as goal

pub returns : goal.returns
returns c =
    let size = c.args.size in
    let room = c.commonware_set_encode_dedup-written.new.out in
    let view = c.commonware_set_encode_dedup-written.result in
    let read = c.commonware_set_read-view.ensures in
    let ok : view.status ≡ 0 = search rules in
    let w = c.commonware_set_encode_dedup-written.ensures.written ok in
    let rest = drop (length (list_enc own_bytes w.1)) c.args.room.now in
    let bytes = subst AreBytes c.new.ensures.bytes c.position.ensures.are_bytes in
    let range = between 0 view.count in
    let is_set = written_set size w.0 w.1 view.count view.size room rest w.2.each w.3 bytes
    (begins_with (list_enc own_bytes w.1) c.args.room.now room w.4) in
    let status = read.exactly.1 (w.1, rest, is_set) in
    let a = read.accepted status in
    let same = one_set size range range room a.0 w.1 a.1 rest a.2 is_set in (
      status,
      (
        w.0,
        w.1,
        w.2,
        w.3.dedup,
        a.3 ∙ ap length same,
        subst (StandBy size room c.commonware_set_read-view.result.start) same a.5,
      ),
    )
