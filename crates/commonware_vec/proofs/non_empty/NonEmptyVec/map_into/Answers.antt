use Rattle.std.proofs.Common.{ap, arith, length, sym, ◌∙◌}
use Rattle.std.proofs.lemmas.List.{nil_from_length}
use Rattle.commonware_base.specs.laws.CallLaws.{length_answers, so_far_all, so_far_more}
use Rattle.commonware_vec.specs.Closures.{CalledWith}
use Rattle.std.proofs.lemmas.Grind.{common_steps}
use Rattle.commonware_vec.proofs.non_empty.NonEmptyVec.map_into.Goals as goal

pub loop-item-preserved : goal.loop-item-preserved
loop-item-preserved g c =
    let kept = c.loop-item.invariant in
    let step = c.in-Some.ensures.steps in
    record {
      room = omega (arith, kept.room, ap length step.0, c.push_reserved.ensures.len, c.push_reserved.ensures.capacity);
      calls = so_far_more (CalledWith g.F.FnMut) _ _ _ _ _ _ _ _ _ _ kept.calls step.0 c.push_reserved.ensures.items c.f.ensures;
      counted = omega (arith, kept.counted, step.1, ap length step.0);
    }

pub invariant_of-result : goal.invariant_of-result
invariant_of-result g c =
    let kept = c.loop-item.invariant in
    let all = so_far_all (CalledWith g.F.FnMut) _ _ _ _ _ kept.calls (nil_from_length _ (sym kept.counted ∙ c.in-None.ensures.steps.0)) in
    omega (arith, length_answers (CalledWith g.F.FnMut) _ _ _ all, c.self.invariant, ap length c.self.view_is)

pub returns-clause-items : goal.returns-clause-items
returns-clause-items g c = grind (arith, common_steps)
