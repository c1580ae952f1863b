use Rattle.std.proofs.Common.{ap, arith, length}
use Rattle.std.proofs.lemmas.List.Folds.{length-flat_map-take}
use Rattle.commonware_base.specs.laws.ItemsLaws.{items_bytes}
use Rattle.commonware_sequence.specs.FixedBytes.{IsOfSize, own_bytes}
use Rattle.commonware_sequence.proofs.fixed_bytes.codec.FixedBytesWrite.write_at_once.Goals as goal

pub returns-in-Err-clause-nothing : goal.returns-in-Err-clause-nothing
returns-in-Err-clause-nothing g c = λ none.
    absurd (omega (arith, c.in-Err.ensures.full, c.args.sink.now.ok.1, ap length none, items_bytes own_bytes (IsOfSize g.row.N) g.row.N (λ v w. w.count) c.args.items.now c.requires))

pub returns-in-Err-extend_from_slice-clause-nothing :
    goal.returns-in-Err-extend_from_slice-clause-nothing
returns-in-Err-extend_from_slice-clause-nothing g c = λ none.
    let part = length-flat_map-take own_bytes c.args.items.now c.loop-item.item-index c.item-item.result c.loop-item-test.true in
    absurd (omega (arith, c.in-Err-extend_from_slice.ensures.full, c.loop-item.sink.ok.1, ap length none, part, ap length c.item-item.is, ap length c.item.view_is))
