-- A smaller quorum is the least number of participants that share so many with each quorum.
use Rattle.std.proofs.Common.{◌+◌, ◌-◌, arith, inl, inr, subst}
use Rattle.std.proofs.lemmas.Bool.{cases_lt}
use Rattle.std.proofs.lemmas.Bool.{le-leb, leb-true}
use Rattle.commonware_faults.specs.Subsets.{Overlap}
use Rattle.commonware_faults.specs.laws.SubsetLaws.{Overlap-by_size}
use Rattle.commonware_c.proofs.round_trips.numbers.outlasts_faults.Goals as goal

pub returns : goal.returns
returns c =
    let n = c.args.n in
    let count = c.args.count in
    let size = c.commonware_smaller_quorum.result in
    let said = c.commonware_smaller_quorum.ensures.quorum c.requires.0 c.requires.1 in
    let f = said.0 in (
      λ e.
          let enough = leb-true size count e in
          (f, said.1, Overlap-by_size n (n - f) count (f + 1) (omega (arith, enough, said.3, said.1.greatest.at_most))),
      λ h. elim (cases_lt count size) [
        | inl less ↦ absurd (said.2.least count less (subst (λ g. Overlap n (n - g) count (g + 1)) (said.1.only h.0 h.1.greatest) h.2))
        | inr enough ↦ le-leb size count enough
      ],
    )
