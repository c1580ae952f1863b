-- Those that are written are the signers of both, who are members and strictly increasing.
use Rattle.std.proofs.Common.{ap, ◌∙◌, length, subst, sym, take}
use Rattle.std.proofs.lemmas.List.{length-take-le}
use Rattle.committee_weights.specs.Members.{weight_of}
use Rattle.commonware_c.specs.Conflicting.{IsViewOfBoth}
use Rattle.commonware_c.specs.WeightedConflicts.{without_weight}
use Rattle.commonware_c.proofs.Weighed.{members_in_both, written_both}
use Rattle.commonware_c.proofs.weighted_conflicts.weighted_view_of_both.Goals as goal

pub returns-then-view-ne-OK : goal.returns-then-view-ne-OK
returns-then-view-ne-OK c = λ one two first second.
    let view = c.with_weight.ensures in
    record {
      of_both =
          subst (λ v. IsViewOfBoth one two v c.args.out.now c.view_of_both-view.new.out) (sym (ap without_weight view))
          (c.view_of_both-view.ensures one two first second);
      weight_is = λ ok. absurd (c.if-view-ne-OK.true (sym (ap (λ v. v.status) view) ∙ ok));
      no_weight = λ _. ap (λ v. v.weight) view;
    }

pub slice_bounds-weight_of_indices-end : goal.slice_bounds-weight_of_indices-end
slice_bounds-weight_of_indices-end c =
    let (one, two, first, second, members) = c.requires.signers in
    (written_both one two c.view_of_both-view.result c.args.out.now c.view_of_both-view.new.out
    (c.view_of_both-view.ensures one two first second)).fits c.if-view-ne-OK.false

pub slice_bounds-weight_of_indices-end-2 : goal.slice_bounds-weight_of_indices-end-2
slice_bounds-weight_of_indices-end-2 c =
    let (one, two, first, second, members) = c.requires.signers in
    let fits =
    (written_both one two c.view_of_both-view.result c.args.out.now c.view_of_both-view.new.out
    (c.view_of_both-view.ensures one two first second)).fits c.if-view-ne-OK.false in
    sym (length-take-le c.view_of_both-view.result.count c.view_of_both-view.new.out fits)

pub weight_of_indices-requires-clause-strict : goal.weight_of_indices-requires-clause-strict
weight_of_indices-requires-clause-strict c =
    let (one, two, first, second, members) = c.requires.signers in
    ((written_both one two c.view_of_both-view.result c.args.out.now c.view_of_both-view.new.out
    (c.view_of_both-view.ensures one two first second)).named c.if-view-ne-OK.false).strict

pub returns-in-Some : goal.returns-in-Some
returns-in-Some c = λ one two first second.
    let view = c.with_weight-in-Some.ensures in
    record {
      of_both =
          subst (λ v. IsViewOfBoth one two v c.args.out.now c.view_of_both-view.new.out) (sym (ap without_weight view))
          (c.view_of_both-view.ensures one two first second);
      weight_is = λ _.
          ap (λ v. v.weight) view ∙ c.in-Some.ensures.1
          ∙ ap (λ n. weight_of c.args.weights.now (take n c.view_of_both-view.new.out)) (sym (ap (λ v. v.count) view));
      no_weight = λ other. absurd (other (ap (λ v. v.status) view ∙ c.if-view-ne-OK.false));
    }

pub returns-in-None : goal.returns-in-None
returns-in-None c = λ _ _ _ _.
    let (one, two, first, second, members) = c.requires.signers in
    let both =
    (written_both one two c.view_of_both-view.result c.args.out.now c.view_of_both-view.new.out
    (c.view_of_both-view.ensures one two first second)).named c.if-view-ne-OK.false in
    absurd (c.in-None.ensures (members_in_both (length c.args.weights.now) one two
    (take c.view_of_both-view.result.count c.view_of_both-view.new.out) members both))
