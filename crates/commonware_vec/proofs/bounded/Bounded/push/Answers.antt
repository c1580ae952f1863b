use Rattle.std.proofs.Common.{◌≡◌, ◌+◌, ◌-◌, ap, arith, length}
use Rattle.commonware_vec.proofs.Turned.{turned_and_set, turned_last}
use Rattle.commonware_vec.proofs.bounded.Bounded.push.Goals as goal

pub returns-clause-full : goal.returns-clause-full
returns-clause-full g c = λ full.
    let xs = c.args.self.now.items in
    let len = c.len-len.result in
    let deque = c.self.inside.deque in
    let items = ap (λ b. b.items) c.self.view_is in
    let capacity = ap (λ b. b.capacity) c.self.view_is in
    let turned = c.rotate_left.ensures.items in
    let last : (len - 1) + 1 ≡ length xs = omega (arith, full, capacity, c.get.ensures.value, c.get.ensures.nonzero, c.len-len.ensures, ap length items, deque.ok.0) in (
      turned_last deque.items _ turned (len - 1) xs items last _ _ c.index_mut.ensures.value c.replace.ensures.value,
      turned_and_set deque.items _ turned (len - 1) xs items last c.args.value _ c.replace.ensures.after,
    )
