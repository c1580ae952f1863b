use Rattle.std.proofs.Common.{◌-◌, ◌∷◌, ◌++◌, [], ap, append_assoc, arith, refl, replicate, ◌∙◌}
use Rattle.commonware_base.specs.laws.CallLaws.{so_far_more}
use Rattle.commonware_vec.specs.Closures.{CalledWithNothing}
use Rattle.commonware_vec.proofs.Repeats.{replicate_first}
use Rattle.commonware_vec.proofs.non_empty.closures.push_results.Goals as goal

pub loop-left-preserved : goal.loop-left-preserved
loop-left-preserved g c =
    let kept = c.loop-left.invariant in
    let left = c.loop-left.left in
    let answer = c.f.result in
    let some = c.loop-left-test.true in
    record {
      room = omega (arith, kept.room, some, c.push_reserved.ensures.len, c.push_reserved.ensures.capacity);
      answers = kept.answers ++ answer ∷ [];
      items = c.push_reserved.ensures.items ∙ ap (λ l. l ++ answer ∷ []) kept.items ∙ append_assoc c.args.items.now.items kept.answers (answer ∷ []);
      calls = so_far_more (CalledWithNothing g.F.FnMut) _ _ _ _ _ tt (replicate (left - 1) tt) answer _ _ kept.calls (replicate_first left tt some) refl c.f.ensures;
    }
