use Rattle.std.proofs.Common.{◌-◌, arith, refl}
use Rattle.commonware_faults.specs.laws.SubsetSizeLaws.{shared-places}
use Rattle.judge_verdicts.proofs.numbers.refute.Goals as goal

pub returns-clause-refuted : goal.returns-clause-refuted
returns-clause-refuted c =
    let n = c.args.n in
    let f = c.args.f in
    let few = c.tolerated_faults.ensures.refuted f (omega arith) c.requires.at_most in
    record {
      first = (refl, refl);
      second = (refl, refl);
      shared = omega (arith, c.saturating_sub.ensures, shared-places n 0 (n - f) f n);
      needed = refl;
      less = omega (arith, c.saturating_sub.ensures, shared-places n 0 (n - f) f n, few);
    }
