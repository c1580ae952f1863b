use Rattle.std.proofs.Common.{inl, inr, arith}
use Rattle.commonware_c.proofs.SignedBoth.{told_of_equivocators}
use Rattle.commonware_c.proofs.equivocations.commonware_equivocation.Goals as goal

pub returns-in-Ok-clause-fits : goal.returns-in-Ok-clause-fits
returns-in-Ok-clause-fits c =
    (told_of_equivocators c.args.k c.args.members c.args.first.now c.args.second.now c.in-Ok.first_signers c.in-Ok.second_signers
    c.in-Ok.ensures.contradicting c.view_of_both.result c.args.out.now c.view_of_both.new.out c.view_of_both.ensures).fits

pub returns-in-Ok-clause-named : goal.returns-in-Ok-clause-named
returns-in-Ok-clause-named c =
    (told_of_equivocators c.args.k c.args.members c.args.first.now c.args.second.now c.in-Ok.first_signers c.in-Ok.second_signers
    c.in-Ok.ensures.contradicting c.view_of_both.result c.args.out.now c.view_of_both.new.out c.view_of_both.ensures).named

pub returns-in-Ok-clause-after : goal.returns-in-Ok-clause-after
returns-in-Ok-clause-after c =
    (told_of_equivocators c.args.k c.args.members c.args.first.now c.args.second.now c.in-Ok.first_signers c.in-Ok.second_signers
    c.in-Ok.ensures.contradicting c.view_of_both.result c.args.out.now c.view_of_both.new.out c.view_of_both.ensures).after

pub returns-in-Ok-clause-untouched : goal.returns-in-Ok-clause-untouched
returns-in-Ok-clause-untouched c =
    (told_of_equivocators c.args.k c.args.members c.args.first.now c.args.second.now c.in-Ok.first_signers c.in-Ok.second_signers
    c.in-Ok.ensures.contradicting c.view_of_both.result c.args.out.now c.view_of_both.new.out c.view_of_both.ensures).untouched

pub returns-in-Ok-clause-room : goal.returns-in-Ok-clause-room
returns-in-Ok-clause-room c =
    (told_of_equivocators c.args.k c.args.members c.args.first.now c.args.second.now c.in-Ok.first_signers c.in-Ok.second_signers
    c.in-Ok.ensures.contradicting c.view_of_both.result c.args.out.now c.view_of_both.new.out c.view_of_both.ensures).lacks

pub returns-in-Ok-clause-about_none : goal.returns-in-Ok-clause-about_none
returns-in-Ok-clause-about_none c = λ _.
    (told_of_equivocators c.args.k c.args.members c.args.first.now c.args.second.now c.in-Ok.first_signers c.in-Ok.second_signers
    c.in-Ok.ensures.contradicting c.view_of_both.result c.args.out.now c.view_of_both.new.out c.view_of_both.ensures).about_none

pub returns-in-Ok-clause-stopped : goal.returns-in-Ok-clause-stopped
returns-in-Ok-clause-stopped c = λ some lacks.
    let told = (told_of_equivocators c.args.k c.args.members c.args.first.now c.args.second.now c.in-Ok.first_signers c.in-Ok.second_signers
    c.in-Ok.ensures.contradicting c.view_of_both.result c.args.out.now c.view_of_both.new.out c.view_of_both.ensures) in
    absurd (elim told.status [ inl h ↦ some h | inr h ↦ lacks h ])

pub returns-in-Ok-clause-no_one : goal.returns-in-Ok-clause-no_one
returns-in-Ok-clause-no_one c = λ some lacks.
    let told = (told_of_equivocators c.args.k c.args.members c.args.first.now c.args.second.now c.in-Ok.first_signers c.in-Ok.second_signers
    c.in-Ok.ensures.contradicting c.view_of_both.result c.args.out.now c.view_of_both.new.out c.view_of_both.ensures) in
    absurd (elim told.status [ inl h ↦ some h | inr h ↦ lacks h ])

pub returns-in-Ok-clause-no_memory : goal.returns-in-Ok-clause-no_memory
returns-in-Ok-clause-no_memory c = λ e.
    let told = (told_of_equivocators c.args.k c.args.members c.args.first.now c.args.second.now c.in-Ok.first_signers c.in-Ok.second_signers
    c.in-Ok.ensures.contradicting c.view_of_both.result c.args.out.now c.view_of_both.new.out c.view_of_both.ensures) in
    elim told.status [ inl h ↦ omega (arith, e, h) | inr h ↦ omega (arith, e, h) ]
