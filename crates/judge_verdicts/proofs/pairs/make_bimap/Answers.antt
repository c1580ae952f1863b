use Rattle.std.proofs.lemmas.Cmp.{on_total}
use Rattle.std.specs.Map.{values_of}
use Rattle.std.proofs.lemmas.List.Sorted.{IsPermutation-map}
use Rattle.commonware_ordered.specs.laws.EqualItemLaws.{none_equal_moved}
use Rattle.judge_verdicts.proofs.Writable.{all_writable, map_writable}
use Rattle.commonware_utils.specs.Ordered.{on_keys}
use Rattle.judge_verdicts.proofs.pairs.make_bimap.Goals as goal

pub bytes_of-requires : goal.bytes_of-requires
bytes_of-requires g c =
    let total = on_total (λ (p : g.row.K.Denot × g.row.V.Denot). p.0) g.met.K.Ord.total in
    record {
      map = map_writable g.K.EncodeSize.writable g.V.EncodeSize.writable g.K.Ord.cmp c.in-Ok.map (all_writable total _ (on_keys g.K.PartialEq.eq) c.args.pairs.items c.in-Ok.map c.requires c.in-Ok.ensures.0);
      distinct = none_equal_moved g.V.PartialEq.eq g.met.V.Eq.laws.symm (values_of c.args.pairs.items) (values_of c.in-Ok.map) (IsPermutation-map (λ p. p.1) c.args.pairs.items c.in-Ok.map c.in-Ok.ensures.0.1) c.in-Ok.ensures.1;
    }
