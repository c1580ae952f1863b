use Rattle.std.proofs.Common.{ap, arith, length, refl}
use Rattle.std.proofs.lemmas.List.{nil_from_length}
use Rattle.std.specs.Fn.{CalledAt}
use Rattle.commonware_base.specs.laws.CallLaws.{length_answers, so_far_all, so_far_more}
use Rattle.std.proofs.lemmas.Grind.{common_steps}
use Rattle.commonware_vec.proofs.non_empty.NonEmptyVec.map.Goals as goal

pub loop-item-preserved : goal.loop-item-preserved
loop-item-preserved g c =
    let kept = c.loop-item.invariant in
    let step = c.in-Some.ensures.steps in
    record {
      room = omega (arith, kept.room, ap length step, c.push_reserved.ensures.len, c.push_reserved.ensures.capacity);
      calls = so_far_more (CalledAt g.F.FnMut) _ _ _ _ _ _ _ _ _ _ kept.calls step c.push_reserved.ensures.items (record { shown = c.in-Some.item; shows = refl; called = c.f.ensures });
    }

pub invariant_of-result : goal.invariant_of-result
invariant_of-result g c =
    let all = so_far_all (CalledAt g.F.FnMut) _ _ _ _ _ c.loop-item.invariant.calls (nil_from_length _ c.in-None.ensures.steps.0) in
    omega (arith, length_answers (CalledAt g.F.FnMut) _ _ _ all, c.self.invariant, ap length c.self.view_is)

pub returns-clause-items : goal.returns-clause-items
returns-clause-items g c = grind (arith, common_steps)
