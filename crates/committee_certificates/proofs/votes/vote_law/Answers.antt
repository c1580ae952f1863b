use Rattle.std.proofs.Common.{refl, sym, ◌∙◌}
use Rattle.commonware_base.proofs.UnionLemmas.{union_only}
use Rattle.committee_certificates.proofs.votes.vote_law.Goals as goal

pub returns-clause-one_vote : goal.returns-clause-one_vote
returns-clause-one_vote c slot decision other_slot other = union_only slot other_slot decision other

pub returns-clause-one_text : goal.returns-clause-one_text
returns-clause-one_text c value other slot decision h k = h.text ∙ sym k.text

pub returns-clause-is_for : goal.returns-clause-is_for
returns-clause-is_for c slot decision short = record { short = short; text = refl }
