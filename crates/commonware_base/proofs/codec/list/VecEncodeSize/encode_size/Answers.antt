use Rattle.std.proofs.Common.{arith, ◌≡◌, length, ap, length-append}
use Rattle.std.specs.List.{flat_map}
use Rattle.commonware_base.specs.Varint.{varint}
use Rattle.commonware_base.proofs.ListSteps.{item_within}
use Rattle.std.proofs.lemmas.Grind.{common_steps}
use Rattle.commonware_base.proofs.codec.list.VecEncodeSize.encode_size.Goals as goal

pub encode_size-size-requires-clause-fits : goal.encode_size-size-requires-clause-fits
encode_size-size-requires-clause-fits g c =
    let enc = g.T.EncodeSize.enc in
    let xs = c.deref-item-items.result.now in
    let same : xs ≡ c.args.self.now.items = c.deref-item-items.ensures.value in
    let n = length-append (varint (length c.args.self.now.items)) (flat_map enc c.args.self.now.items) in
    let h = item_within enc xs c.loop-item.item-index c.item-item.result c.loop-item-test.true c.item-item.is in
    omega (arith, c.requires.fits, n, h, ap (λ l. length (flat_map enc l)) same)

pub overflow_add-size : goal.overflow_add-size
overflow_add-size g c =
    let enc = g.T.EncodeSize.enc in
    let xs = c.deref-item-items.result.now in
    let same : xs ≡ c.args.self.now.items = c.deref-item-items.ensures.value in
    let n = length-append (varint (length c.args.self.now.items)) (flat_map enc c.args.self.now.items) in
    let h = item_within enc xs c.loop-item.item-index c.item-item.result c.loop-item-test.true c.item-item.is in
    omega (arith, c.requires.fits, n, h, ap (λ l. length (flat_map enc l)) same, ap (λ l. length (varint (length l))) same, c.loop-item.invariant, c.encode_size-size.ensures)

pub encode_size-size-requires-clause-writable : goal.encode_size-size-requires-clause-writable
encode_size-size-requires-clause-writable g c = grind (arith, common_steps)

pub loop-item-preserved : goal.loop-item-preserved
loop-item-preserved g c = grind (arith, common_steps)

pub returns : goal.returns
returns g c = grind (arith, common_steps)
