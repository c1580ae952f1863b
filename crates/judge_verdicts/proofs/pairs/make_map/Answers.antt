use Rattle.std.proofs.lemmas.Cmp.{on_total}
use Rattle.judge_verdicts.proofs.Writable.{all_writable, dedup_writable, map_writable}
use Rattle.commonware_utils.specs.Ordered.{on_keys}
use Rattle.judge_verdicts.proofs.pairs.make_map.Goals as goal

pub bytes_of-requires : goal.bytes_of-requires
bytes_of-requires g c =
    let total = on_total (λ (p : g.row.K.Denot × g.row.V.Denot). p.0) g.met.K.Ord.total in
    map_writable g.K.EncodeSize.writable g.V.EncodeSize.writable g.K.Ord.cmp c.in-Ok.map (all_writable total _ (on_keys g.K.PartialEq.eq) c.args.pairs.items c.in-Ok.map c.requires c.in-Ok.ensures)

pub bytes_of-requires-2 : goal.bytes_of-requires-2
bytes_of-requires-2 g c =
    let total = on_total (λ (p : g.row.K.Denot × g.row.V.Denot). p.0) g.met.K.Ord.total in
    map_writable g.K.EncodeSize.writable g.V.EncodeSize.writable g.K.Ord.cmp c.in_ok-map.map (dedup_writable total _ (on_keys g.K.PartialEq.eq) c.args.pairs.items c.in_ok-map.map c.requires c.in_ok-map.ensures)
