use Rattle.std.proofs.Common.{◌≡◌, ◌-◌, [], ap, append-nil, arith, length, refl, replicate, subst, sym, take, ◌∙◌}
use Rattle.std.proofs.lemmas.List.{length-append, length-replicate}
use Rattle.std.specs.Int.NonZero.{non_zero_usize_get}
use Rattle.commonware_base.specs.Calls.{CallsGiveAll}
use Rattle.commonware_base.specs.laws.CallLaws.{length_answers}
use Rattle.commonware_vec.specs.Closures.{CalledWithNothing}
use Rattle.std.proofs.lemmas.Grind.{common_steps}
use Rattle.commonware_vec.proofs.non_empty.NonEmptyVec.resize_with.Goals as goal

pub returns-then-len-before-clause-items : goal.returns-then-len-before-clause-items
returns-then-len-before-clause-items g c =
    let len = c.get-len.ensures.value in
    let items = c.self.view_is in
    let none : 0 ≡ non_zero_usize_get c.args.len - length c.args.self.now = omega (arith, c.if-len-before.true, len, c.len-before.ensures, ap length items, c.self.inside.items.ok.0) in (
      [],
      c.truncate.ensures.items ∙ (λ i. take (len i) (items i)) ∙ sym (append-nil _),
      subst (λ n. CallsGiveAll (CalledWithNothing g.F.FnMut) c.args.f (replicate n tt) []) none (record { last = c.args.f; calls = refl }),
    )

pub returns-clause-len : goal.returns-clause-len
returns-clause-len g c =
    let pushed = c.push_results.ensures in
    let count = length_answers (CalledWithNothing g.F.FnMut) _ _ _ pushed.2 in
    omega (arith, ap length pushed.1, length-append c.reserve.new.self.items pushed.0, count, length-replicate (c.get-len.result - c.len-before.result) (tt {0}), c.get-len.ensures.value, c.if-len-before.false, c.len-before.ensures, ap length c.in_ok-reserve.ensures.items, c.self.inside.items.ok.0)

pub invariant_of-self-2 : goal.invariant_of-self-2
invariant_of-self-2 g c = grind (arith, common_steps)

pub returns-clause-items : goal.returns-clause-items
returns-clause-items g c = grind (arith, common_steps)
