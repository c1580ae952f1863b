use Rattle.std.proofs.Common.{inl, inr, arith}
use Rattle.commonware_c.proofs.Weighed.{told_of_equivocators_by_weight}
use Rattle.commonware_c.proofs.weighted_equivocations.commonware_weighted_equivocation.Goals as goal

pub returns-in-Ok-clause-fits : goal.returns-in-Ok-clause-fits
returns-in-Ok-clause-fits c =
    let told =
    told_of_equivocators_by_weight c.args.k c.args.weights.now c.args.first.now c.args.second.now c.in-Ok.first_signers
    c.in-Ok.second_signers c.in-Ok.ensures.contradicting c.weighted_view_of_both.result c.args.out.now
    c.weighted_view_of_both.new.out c.weighted_view_of_both.ensures in
    told.fits

pub returns-in-Ok-clause-named : goal.returns-in-Ok-clause-named
returns-in-Ok-clause-named c =
    let told =
    told_of_equivocators_by_weight c.args.k c.args.weights.now c.args.first.now c.args.second.now c.in-Ok.first_signers
    c.in-Ok.second_signers c.in-Ok.ensures.contradicting c.weighted_view_of_both.result c.args.out.now
    c.weighted_view_of_both.new.out c.weighted_view_of_both.ensures in
    told.named

pub returns-in-Ok-clause-after : goal.returns-in-Ok-clause-after
returns-in-Ok-clause-after c =
    let told =
    told_of_equivocators_by_weight c.args.k c.args.weights.now c.args.first.now c.args.second.now c.in-Ok.first_signers
    c.in-Ok.second_signers c.in-Ok.ensures.contradicting c.weighted_view_of_both.result c.args.out.now
    c.weighted_view_of_both.new.out c.weighted_view_of_both.ensures in
    told.after

pub returns-in-Ok-clause-untouched : goal.returns-in-Ok-clause-untouched
returns-in-Ok-clause-untouched c =
    let told =
    told_of_equivocators_by_weight c.args.k c.args.weights.now c.args.first.now c.args.second.now c.in-Ok.first_signers
    c.in-Ok.second_signers c.in-Ok.ensures.contradicting c.weighted_view_of_both.result c.args.out.now
    c.weighted_view_of_both.new.out c.weighted_view_of_both.ensures in
    told.untouched

pub returns-in-Ok-clause-room : goal.returns-in-Ok-clause-room
returns-in-Ok-clause-room c =
    let told =
    told_of_equivocators_by_weight c.args.k c.args.weights.now c.args.first.now c.args.second.now c.in-Ok.first_signers
    c.in-Ok.second_signers c.in-Ok.ensures.contradicting c.weighted_view_of_both.result c.args.out.now
    c.weighted_view_of_both.new.out c.weighted_view_of_both.ensures in
    told.lacks

pub returns-in-Ok-clause-weigh : goal.returns-in-Ok-clause-weigh
returns-in-Ok-clause-weigh c =
    let d = c.in-Ok.ensures.contradicting.conflicting in
    (c.weighted_view_of_both.ensures d.one.1 d.two.1 d.first_at d.second_at).weight_is

pub returns-in-Ok-clause-no_weight : goal.returns-in-Ok-clause-no_weight
returns-in-Ok-clause-no_weight c =
    let d = c.in-Ok.ensures.contradicting.conflicting in
    (c.weighted_view_of_both.ensures d.one.1 d.two.1 d.first_at d.second_at).no_weight

pub returns-in-Ok-clause-about_none : goal.returns-in-Ok-clause-about_none
returns-in-Ok-clause-about_none c = λ _.
    let told =
    told_of_equivocators_by_weight c.args.k c.args.weights.now c.args.first.now c.args.second.now c.in-Ok.first_signers
    c.in-Ok.second_signers c.in-Ok.ensures.contradicting c.weighted_view_of_both.result c.args.out.now
    c.weighted_view_of_both.new.out c.weighted_view_of_both.ensures in
    told.about_none

pub returns-in-Ok-clause-stopped : goal.returns-in-Ok-clause-stopped
returns-in-Ok-clause-stopped c = λ some lacks.
    let told =
    told_of_equivocators_by_weight c.args.k c.args.weights.now c.args.first.now c.args.second.now c.in-Ok.first_signers
    c.in-Ok.second_signers c.in-Ok.ensures.contradicting c.weighted_view_of_both.result c.args.out.now
    c.weighted_view_of_both.new.out c.weighted_view_of_both.ensures in
    absurd (elim told.status [ inl h ↦ some h | inr h ↦ lacks h ])

pub returns-in-Ok-clause-no_one : goal.returns-in-Ok-clause-no_one
returns-in-Ok-clause-no_one c = λ some lacks.
    let told =
    told_of_equivocators_by_weight c.args.k c.args.weights.now c.args.first.now c.args.second.now c.in-Ok.first_signers
    c.in-Ok.second_signers c.in-Ok.ensures.contradicting c.weighted_view_of_both.result c.args.out.now
    c.weighted_view_of_both.new.out c.weighted_view_of_both.ensures in
    absurd (elim told.status [ inl h ↦ some h | inr h ↦ lacks h ])

pub returns-in-Ok-clause-no_memory : goal.returns-in-Ok-clause-no_memory
returns-in-Ok-clause-no_memory c = λ e.
    let told =
    told_of_equivocators_by_weight c.args.k c.args.weights.now c.args.first.now c.args.second.now c.in-Ok.first_signers
    c.in-Ok.second_signers c.in-Ok.ensures.contradicting c.weighted_view_of_both.result c.args.out.now
    c.weighted_view_of_both.new.out c.weighted_view_of_both.ensures in
    elim told.status [ inl h ↦ omega (arith, e, h) | inr h ↦ omega (arith, e, h) ]
